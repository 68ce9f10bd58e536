-- The option messages among items (RFC 855), the first one first.
use Rattle.std.specs.Prelude.{ℕ, List, [], ◌∷◌}
use Rattle.tn_codes.specs.declared.codes.Verb.{Verb}
use Rattle.tn_nvt.specs.declared.items.Item.{Item, TheVariants.Neg}

-- the option messages among these items, in order
abbrev pub words_in : List Item → List (Verb × ℕ)
words_in [] = []
words_in (Neg verb option ∷ items) = (verb, option) ∷ words_in items
words_in (item ∷ items) = words_in items
