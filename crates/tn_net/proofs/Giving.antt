-- The inputs that a console gives and keeps.
use Rattle.std.proofs.Common.{◌≡◌, ℕ, List, [], ◌++◌, Option, refl, sym, ap, ◌∙◌, subst, inl, arith, append-nil}
use Rattle.std.specs.Io.KnownBytes.{Keeps}
use Rattle.tn_net.specs.{declared.escaping.{Escaping.Escaping, SessionInput.SessionInput}, Passing.{GivesInputs, handed_on}}
use Rattle.tn_net.proofs.Passing.{consumes_none, keeps_same}
use Rattle.tn_cores.specs.declared.streams.control.Control.{Control}

-- nothing was read: what was kept is given or kept
pub kept_only : (old new : Option (List ℕ)) (escaping : Escaping) (asked telling : Option Control) (kept left : List SessionInput) (given : List ℕ) →
    Keeps old new
    → handed_on given telling ++ left ≡ handed_on [] asked ++ kept → GivesInputs old new escaping escaping asked kept given telling left
kept_only old new escaping asked telling kept left given same gives = record {
  bytes = [];
  typed = consumes_none old new same;
  count = 0;
  taken = (omega arith, inl refl);
  inputs = gives ∙ ap (λ (xs : List SessionInput). handed_on [] asked ++ xs) (sym (append-nil kept));
  keyboard = refl;
  prompt = refl;
}

-- the inputs that were kept are one list
pub kept_as : (old new : Option (List ℕ)) (was now : Escaping) (asked telling : Option Control) (kept same left : List SessionInput) (given : List ℕ)
    → same ≡ kept → GivesInputs old new was now asked same given telling left → GivesInputs old new was now asked kept given telling left
kept_as old new was now asked telling kept same left given is gives = subst (λ (l : List SessionInput). GivesInputs old new was now asked l given telling left) is gives

-- a console gives and keeps inputs, if the reader and the escape character stay as they are
pub given_only : (old new : Option (List ℕ)) (was now : Escaping) (asked telling : Option Control) (kept left : List SessionInput) (given : List ℕ) → new ≡ old
    → now ≡ was → handed_on given telling ++ left ≡ handed_on [] asked ++ kept → GivesInputs old new was now asked kept given telling left
given_only old new was now asked telling kept left given same stays gives =
    let still = kept_only old old was asked telling kept left given (keeps_same old) gives in
    subst (λ (o : Option (List ℕ)). GivesInputs old o was now asked kept given telling left) (sym same)
    (subst (λ (e : Escaping). GivesInputs old old was e asked kept given telling left) (sym stays) still)
