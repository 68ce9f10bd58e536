-- All that either end sends fits a stream.
use Rattle.std.proofs.Common.{◌≤◌, ℕ, Bool, true, false, Option, Some, None, List, [], ◌∷◌, ◌++◌, length, if◌then◌else◌, arith}
use Rattle.std.proofs.lemmas.List.Elements.{All-nil, All-cons, All-append}
use Rattle.std.specs.Prelude.{All}
use Rattle.tn_codes.specs.{Payloads.parameters_of, declared.{codes.Verb.Verb, payloads.Payload.TheVariants.{Mode, Slc}, triples.Triple.Triple}}
use Rattle.tn_nvt.specs.{Spelling.Fits, declared.items.Item.{Item, TheVariants.{Neg, Sub}}}
use Rattle.tn_linemode.specs.Words.{word_items, mode_items, list_items}
use Rattle.tn_linemode.proofs.lemmas.Listing.{length-octets}

-- these items fit
abbrev pub Fit : List Item → Type 0
Fit = All Fits

pub none : Fit []
none = All-nil Fits

pub one : (item : Item) → Fits item → Fit (item ∷ [])
one item fits = All-cons Fits item [] fits none

pub both : (xs ys : List Item) → Fit xs → Fit ys → Fit (xs ++ ys)
both = All-append Fits

pub unless : (b : Bool) (xs : List Item) → Fit xs → Fit (if b then xs else [])
unless true xs h = h
unless false xs h = none

pub word-fits : (said : Option (Verb × ℕ)) → Fit (word_items said)
word-fits None = none
word-fits (Some said) = one (Neg said.0 said.1) tt

pub mode-fits : (mask : Option ℕ) → Fit (mode_items mask)
mode-fits None = none
mode-fits (Some mask) = one (Sub 34 (parameters_of (Mode mask))) (omega arith)

pub list-fits : (triples : List Triple) → length triples ≤ 170 → Fit (list_items triples)
list-fits [] few = none
list-fits (t ∷ ts) few = one (Sub 34 (parameters_of (Slc (t ∷ ts)))) (omega (arith, few, length-octets (t ∷ ts)))
