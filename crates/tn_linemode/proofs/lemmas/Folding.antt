-- A machine that goes by steps, and a past of it that grows by the same events.
use Rattle.std.proofs.Common.{◌≡◌, List, [], ◌∷◌, ◌++◌, refl, sym, ap, ◌∙◌, append-nil, append_assoc}
use Rattle.tn_linemode.specs.Folding.{after_all, said_all}

module _ {S E : Type 0} (step : S → E → S) where
  pub after_both : (s : S) (xs ys : List E) → after_all step s (xs ++ ys) ≡ after_all step (after_all step s xs) ys
  after_both s [] ys = refl
  after_both s (x ∷ xs) ys = after_both (step s x) xs ys

  -- a part that no step changes
  pub kept_all : {V : Type 0} (part : S → V) → ((s : S) (e : E) → part (step s e) ≡ part s) → (s : S) (es : List E) → part (after_all step s es) ≡ part s
  kept_all part kept s [] = refl
  kept_all part kept s (e ∷ es) = kept_all part kept (step s e) es ∙ kept s e

module _ {S E W : Type 0} (step : S → E → S) (says : S → E → List W) where
  pub said_both : (s : S) (xs ys : List E) → said_all step says s (xs ++ ys) ≡ said_all step says s xs ++ said_all step says (after_all step s xs) ys
  said_both s [] ys = refl
  said_both s (x ∷ xs) ys =
      ap (λ (said : List W). says s x ++ said) (said_both (step s x) xs ys)
      ∙ sym (append_assoc (says s x) (said_all step says (step s x) xs) (said_all step says (after_all step (step s x) xs) ys))

-- the state to which a past leads, if the past grows by the same events, and what was sent in it
module _ {H S E : Type 0} (next : H → E → H) (step : S → E → S) (LeadsTo : H → S → Type 0)
    (stands : (h : H) (s : S) (e : E) → LeadsTo h s → LeadsTo (next h e) (step s e)) where
  pub stands_after : (h : H) (s : S) (es : List E) → LeadsTo h s → LeadsTo (after_all next h es) (after_all step s es)
  stands_after h s [] leads = leads
  stands_after h s (e ∷ es) leads = stands_after (next h e) (step s e) es (stands h s e leads)

  pub said_after : {W : Type 0} (says : S → E → List W) (said : H → List W)
      → ((h : H) (s : S) (e : E) → LeadsTo h s → said (next h e) ≡ said h ++ says s e) → (h : H) (s : S) (es : List E) → LeadsTo h s
      → said (after_all next h es) ≡ said h ++ said_all step says s es
  said_after says said goes h s [] leads = sym (append-nil (said h))
  said_after says said goes h s (e ∷ es) leads =
      said_after says said goes (next h e) (step s e) es (stands h s e leads)
      ∙ ap (λ xs. xs ++ said_all step says (step s e) es) (goes h s e leads)
      ∙ append_assoc (said h) (says s e) (said_all step says (step s e) es)
