-- The bytes that pass through: a write that fails on the way, and the bytes that a reader passes on.
use Rattle.std.specs.Prelude.{◌≡◌, ◌≢◌, ℕ, List, [], ◌++◌, map, take, Option, option_to_list, Result, Ok, Err}
use Rattle.std.specs.{Prelude.{IfOk, MatchResult}, Io.KnownBytes.{Appends, Consumes, Keeps}}
use Rattle.tn_net.specs.{Typing.{IsTakenUpTo, inputs, prompt_behind}, declared.escaping.Escaping.Escaping}
use Rattle.tn_net.specs.declared.escaping.SessionInput.{SessionInput}
use Rattle.tn_net.specs.declared.escaping.SessionInput.TheVariants as input
use Rattle.tn_cores.specs.declared.streams.control.Control.{Control}
use Rattle.tn_nvt.specs.Prefixes.{IsPrefixOf}

-- the first of the bytes were written
abbrev pub Begins : Option (List ℕ) → Option (List ℕ) → List ℕ → Type 0
Begins old new bytes = (written : List ℕ) × IsPrefixOf written bytes × Appends old new written

-- a read gave the next bytes of the reader below it, and that one lost no others
abbrev pub HandsOn : {E : Type 0} → Option (List ℕ) → Option (List ℕ) → Result ℕ E → List ℕ → Type 0
HandsOn old new r buf = MatchResult r (λ n. Consumes old new (take n buf)) (λ _. Keeps old new)

-- the bytes that are passed on if the read gave anything
abbrev pub GivesNext : {E : Type 0} → Option (List ℕ) → Option (List ℕ) → Result ℕ E → List ℕ → Type 0
GivesNext old new r buf = IfOk r (λ n. n ≢ 0 → Consumes old new (take n buf))

-- the bytes that a read gave
abbrev pub given_of : {E : Type 0} → Result ℕ E → List ℕ → List ℕ
given_of (Ok n) buf = take n buf
given_of (Err e) buf = []

-- the keys that were given, and the control function that is to be reported next, if there is one
abbrev pub handed_on : List ℕ → Option Control → List SessionInput
handed_on keys asked = map input.Key keys ++ map input.Control (option_to_list asked)

-- From one state of a console to a later one. The inputs that it gave, is to report and keeps are those that
-- it was to report and kept, and then those of the next bytes that were typed: each once, in their order. All
-- of these bytes were taken, or those up to one that asks to close.
pub record GivesInputs (old new : Option (List ℕ)) (was now : Escaping) (to_tell : Option Control)
    (kept : List SessionInput)
    (given : List ℕ) (telling : Option Control) (left : List SessionInput) : Type 0 where
  pub bytes : List ℕ
  pub typed : Consumes old new bytes
  pub count : ℕ
  pub taken : IsTakenUpTo count was.keyboard was.prompt bytes
  pub inputs : handed_on given telling ++ left
      ≡ handed_on [] to_tell ++ (kept ++ inputs was.keyboard was.prompt (take count bytes))
  pub keyboard : now.keyboard ≡ was.keyboard
  pub prompt : now.prompt ≡ prompt_behind was.keyboard was.prompt (take count bytes)
