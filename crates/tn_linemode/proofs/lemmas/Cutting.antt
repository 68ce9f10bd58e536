-- A prefix of the items to be sent was sent, and lists that are not empty.
use Rattle.std.proofs.{Common.{◌≡◌, ◌≢◌, ℕ, List, [], ◌∷◌, ◌++◌, refl, sym, ap, ◌∙◌, append_assoc}, lemmas.Grind.flat_map-append}
use Rattle.tn_nvt.specs.{Spelling.{spelling, spells}, declared.items.Item.Item}
use Rattle.tn_linemode.specs.Prefixes.{AppendsPrefix}

pub spells-append : (xs ys : List Item) → spells (xs ++ ys) ≡ spells xs ++ spells ys
spells-append xs ys = flat_map-append spelling xs ys

-- the appended bytes, and then more
pub added_on : {A : Type 0} (a b before first after : List A) → first ≡ before ++ a → after ≡ first ++ b → after ≡ before ++ (a ++ b)
added_on a b before first after one two = two ∙ ap (λ xs. xs ++ b) one ∙ append_assoc before a b

-- bytes that spell some items, and after them bytes that spell more
pub spelled_on : (a b : List Item) (before first after : List ℕ) → first ≡ before ++ spells a → after ≡ first ++ spells b → after ≡ before ++ spells (a ++ b)
spelled_on a b before first after one two =
    added_on (spells a) (spells b) before first after one two ∙ ap (λ (xs : List ℕ). before ++ xs) (sym (spells-append a b))

pub cut_after_two : (whole a b c : List Item) (before first second after : List ℕ) → whole ≡ a ++ (b ++ c) → first ≡ before ++ spells a
    → second ≡ first ++ spells b → after ≡ second → AppendsPrefix whole before after
cut_after_two whole a b c before first second after is one two three = record {
  part = a ++ b;
  rest = c;
  whole_is = is ∙ sym (append_assoc a b c);
  appended = three ∙ spelled_on a b before first second one two;
}

pub cut_after_one : (whole a b : List Item) (before first after : List ℕ) → whole ≡ a ++ b → first ≡ before ++ spells a → AppendsPrefix b first after
    → AppendsPrefix whole before after
cut_after_one whole a b before first after is one c = record {
  part = a ++ c.part;
  rest = c.rest;
  whole_is = is ∙ ap (λ (xs : List Item). a ++ xs) c.whole_is ∙ sym (append_assoc a c.part c.rest);
  appended = spelled_on a c.part before first after one c.appended;
}

pub cons_some : {A : Type 0} (x : A) (xs : List A) → x ∷ xs ≢ []
cons_some x xs e = cc

-- if one part is not empty, the whole is not
pub front_some : {A : Type 0} (xs ys : List A) → xs ≢ [] → xs ++ ys ≢ []
front_some [] ys some e = some refl
front_some (x ∷ xs) ys some e = cc

pub back_some : {A : Type 0} (xs ys : List A) → ys ≢ [] → xs ++ ys ≢ []
back_some [] ys some e = some e
back_some (x ∷ xs) ys some e = cc
