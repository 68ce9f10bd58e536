-- Keys that were typed at one line, and what is shown of the entries that they gave.
use Rattle.std.specs.Prelude.{◌≡◌, ℕ, List, [], ◌∷◌, ◌++◌, codes}
use Rattle.tn_discipline.specs.{Advancing.LeadsTo, Canon.{Canon, typed_entries}, HalfLine.HalfLine}
use Rattle.tn_discipline.specs.{Characters.standard_characters, Keys.{roles_of, standard_flags}}
use Rattle.tn_discipline.specs.{Limits.standard_limit, declared.reads.Sig.TheVariants.{Int, Quit, Tstp}}
use Rattle.tn_discipline.specs.declared.reads.Entry.{Entry, TheVariants.{Text, Eof, Signal}}

-- a terminal with standard settings and lines of the standard limit
abbrev pub standard : Canon
standard = record {
  settings = record { flags = standard_flags; chars = standard_characters };
  limit = standard_limit;
}

-- these keys were typed at the line, and gave these entries
pub record HasTyped (keys : List ℕ) (line : HalfLine) (entries : List Entry) : Type 0 where
  pub limit : line.limit ≡ standard.limit
  pub leads : LeadsTo (roles_of standard.settings keys) line
  pub ahead : line.ahead ≡ 0
  pub gave : entries ≡ typed_entries standard keys

-- one key more was typed, whatever was typed before
abbrev pub TypesKey : ℕ → HalfLine → List Entry → HalfLine → List Entry → Type 0
TypesKey key old before new after =
    (keys : List ℕ) → HasTyped keys old before → HasTyped (keys ++ key ∷ []) new after

-- an entry as it is printed
abbrev pub shown : Entry → List ℕ
shown (Text bytes) = bytes
shown Eof = codes "(end of file)\n"
shown (Signal Int) = codes "(interrupt)\n"
shown (Signal Quit) = codes "(quit)\n"
shown (Signal Tstp) = codes "(stop)\n"
