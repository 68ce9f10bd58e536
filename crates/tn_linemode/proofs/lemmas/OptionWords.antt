-- The option messages among the items that an end sends.
use Rattle.std.proofs.Common.{◌≡◌, ℕ, Option, None, Some, List, [], ◌∷◌, ◌++◌, refl, ap}
use Rattle.std.specs.Prelude.{option_to_list}
use Rattle.tn_codes.specs.declared.{codes.Verb.Verb, triples.Triple.Triple}
use Rattle.tn_nvt.specs.declared.items.Item.{Item, TheVariants.{Byte, Newline, Cmd, Neg, Sub}}
use Rattle.tn_linemode.specs.{OptionWords.words_in, Words.{word_items, list_items, mode_items}}

pub words_in-append : (xs ys : List Item) → words_in (xs ++ ys) ≡ words_in xs ++ words_in ys
words_in-append [] ys = refl
words_in-append (Byte b ∷ xs) ys = words_in-append xs ys
words_in-append (Newline ∷ xs) ys = words_in-append xs ys
words_in-append (Cmd command ∷ xs) ys = words_in-append xs ys
words_in-append (Neg verb option ∷ xs) ys = ap (λ (words : List (Verb × ℕ)). (verb, option) ∷ words) (words_in-append xs ys)
words_in-append (Sub option params ∷ xs) ys = words_in-append xs ys

pub words_in-word : (said : Option (Verb × ℕ)) → words_in (word_items said) ≡ option_to_list said
words_in-word None = refl
words_in-word (Some said) = refl

pub words_in-list : (triples : List Triple) → words_in (list_items triples) ≡ []
words_in-list [] = refl
words_in-list (t ∷ triples) = refl

pub words_in-mode : (mask : Option ℕ) → words_in (mode_items mask) ≡ []
words_in-mode None = refl
words_in-mode (Some mask) = refl
