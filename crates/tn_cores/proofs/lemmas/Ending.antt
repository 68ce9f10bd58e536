-- A run of messages ends as it had before, or at one of them.
use Rattle.std.proofs.Common.{◌≡◌, ◌⊎◌, inl, inr, ⊎_elim, List, [], ◌∷◌, refl, sym, ap, ◌∙◌, subst}
use Rattle.std.specs.List.{FoldsTo}
use Rattle.tn_cores.specs.{Counting.first_end, Ending.IsEndedAt, declared.faults.{Ended.{Ended, TheVariants.{HangUp, Fault}}, SessionFault.SessionFault}}

-- the first end counts
pub first_cases : (a b : Ended) → (first_end a b ≡ a) ⊎ (first_end a b ≡ b)
first_cases HangUp b = inr refl
first_cases _ b = inl refl

-- the end is as it was, or came by this message
abbrev pub Moves : Ended → (Ended → Type 0) → Ended → Type 0
Moves was By e = (e ≡ was) ⊎ By e

pub moves_as : (was : Ended) (By : Ended → Type 0) (e d : Ended) → d ≡ e → Moves was By e → Moves was By d
moves_as was By e d is moves = subst (λ (x : Ended). Moves was By x) (sym is) moves

-- the first end stays after something by which another end would count, had none come
pub moves_first : (was : Ended) (By : Ended → Type 0) (a e : Ended) (f : SessionFault) → e ≡ first_end a (Fault f) → Moves was By a → By (Fault f)
    → Moves was By e
moves_first was By a e f is before why = ⊎_elim (λ s. moves_as was By a e (is ∙ s) before) (λ s. moves_as was By (Fault f) e (is ∙ s) (inr why))
    (first_cases a (Fault f))

pub run_moves : {S M : Type 0} (Steps : S → M → S → Type 0) (EndsBy : S → M → Ended → Type 0) (ended_of : S → Ended)
    → ((c new : S) (m : M) → Steps c m new → Moves (ended_of c) (EndsBy c m) (ended_of new)) → (all : List M) (c new : S) → FoldsTo Steps c all new
    → Moves (ended_of c) (IsEndedAt Steps EndsBy c all) (ended_of new)
run_moves Steps EndsBy ended_of one [] c new f = inl (ap ended_of (sym f))
run_moves {S} {M} Steps EndsBy ended_of one (m ∷ all) c new f =
    ⊎_elim
    (λ s. ⊎_elim (λ h. inl (s ∙ h)) (λ h. inr (record {
      before = [];
      last = m;
      after = all;
      whole = refl;
      mid = c;
      runs = refl;
      ends = subst (λ (x : Ended). EndsBy c m x) (sym s) h;
    })) (one c f.0 m f.1))
    (λ r. inr (record {
      before = m ∷ r.before;
      last = r.last;
      after = r.after;
      whole = ap (λ (xs : List M). m ∷ xs) r.whole;
      mid = r.mid;
      runs = (f.0, f.1, r.runs);
      ends = r.ends;
    }))
    (run_moves Steps EndsBy ended_of one all f.0 new f.2)

-- if none had come, a fault came by one of the messages
pub fault_came : {S M : Type 0} (Steps : S → M → S → Type 0) (EndsBy : S → M → Ended → Type 0) (ended_of : S → Ended)
    → ((c new : S) (m : M) → Steps c m new → Moves (ended_of c) (EndsBy c m) (ended_of new)) → (all : List M) (c new : S) (f : SessionFault)
    → FoldsTo Steps c all new → ended_of c ≡ HangUp → ended_of new ≡ Fault f → IsEndedAt Steps EndsBy c all (Fault f)
fault_came Steps EndsBy ended_of one all c new f runs none e =
    ⊎_elim (λ s. absurd (no_fault (sym e ∙ (s ∙ none)))) (λ r. subst (λ (x : Ended). IsEndedAt Steps EndsBy c all x) e r)
    (run_moves Steps EndsBy ended_of one all c new runs)
  where
    no_fault : Fault f ≡ HangUp → ⊥
    no_fault e = cc
