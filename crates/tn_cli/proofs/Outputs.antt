-- A text that was made of a whole input, and written.
use Rattle.std.proofs.Common.{◌≡◌, ℕ, List, [], ◌++◌, Option, Some, None, IfSome, sym, ap, ◌∙◌, subst, append-nil}
use Rattle.std.specs.Io.KnownBytes.{Consumes, IsAtEnd, Appends}
use Rattle.tn_cli.specs.{Playing.{AppendsPrint, AppendsText, AppendsPrefixOfText, EndsWith, PrintsSome}, declared.fault.CliFault.CliFault}
use Rattle.tn_cli.specs.Streams.{AppendsPrefix}

-- the bytes that were read up to the end are all that the reader had
pub whole_input : (P : List ℕ → Type 0) (old new : Option (List ℕ)) (input : List ℕ) → Consumes old new input → IsAtEnd new → P input → IfSome old P
whole_input P None new input consumed end p = tt
whole_input P (Some xs) None input consumed end p = absurd consumed
whole_input P (Some xs) (Some ys) input consumed end p = subst P (sym (consumed ∙ ap (λ (zs : List ℕ). input ++ zs) end ∙ append-nil input)) p

pub appends_text : (is : List ℕ → Type 0) (none some out : List ℕ) (old new : Option (List ℕ)) → none ≡ [] → out ≡ some → AppendsPrint is none some
    → Appends old new out → AppendsText is old new
appends_text is none some out old new empty same (text, fact, added) appended =
    (text, fact, subst (λ (xs : List ℕ). Appends old new xs) (same ∙ added ∙ ap (λ (xs : List ℕ). xs ++ text) empty) appended)

pub appends_front : (is : List ℕ → Type 0) (none some out : List ℕ) (old new : Option (List ℕ)) → none ≡ [] → out ≡ some → AppendsPrint is none some
    → AppendsPrefix old new out → AppendsPrefixOfText is old new
appends_front is none some out old new empty same (text, fact, added) appended =
    (text, fact, subst (λ (xs : List ℕ). AppendsPrefix old new xs) (same ∙ added ∙ ap (λ (xs : List ℕ). xs ++ text) empty) appended)

pub ended : (lines : List (List ℕ)) (end : Option CliFault) (before after : List ℕ) → AppendsPrint (EndsWith lines end) before after
    → AppendsPrint (PrintsSome lines) before after
ended lines end before after (text, ends, added) = (text, (end, ends), added)
