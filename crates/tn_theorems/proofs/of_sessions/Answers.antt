-- After each step of a transcript all is written that was sent by then.
use Rattle.std.proofs.Common.{◌≡◌, ◌⊎◌, inl, inr, ℕ, List, [], ◌∷◌, ◌++◌, refl, sym, ap, ◌∙◌, map, append_assoc, length, suc}
use Rattle.std.specs.List.{FoldsTo}
use Rattle.tn_discipline.specs.Canon.{Canon}
use Rattle.tn_theorems.specs.sessions.{Answers.{AreAnswered, AnswersOfServer, AnswersOfClient}, Returned.{Served, Connected}}
use Rattle.tn_session.specs.{Facts.JobFacts, Transcripts.{Exchange, Point, IsExchange, Transcribes, all_wrote}}

both : {A : Type 0} (a b : A) (us vs : List A) → a ∷ us ≡ b ∷ vs → (a ≡ b) × (us ≡ vs)
both a b us vs e = (cc, cc)

none_some : {A : Type 0} {x : A} {xs : List A} → [] ≡ x ∷ xs → ⊥
none_some e = cc

record SoFar {R M : Type 0} (turns : R → M → R → Type 0) (says : R → List ℕ) (first : Point R) (messages : List M) (written : List ℕ)
    (done : List Exchange) : Type 0 where
  front : List M
  later : List M
  of_messages : messages ≡ front ++ later
  as_many : length front ≡ length done
  by_then : R
  leads : FoldsTo turns first.run front by_then
  answered : (first.wrote ++ all_wrote done ≡ says by_then) ⊎ (first.wrote ++ all_wrote done ≡ written)

module _ {R M : Type 0} (turns : R → M → R → Type 0) (brings : M → List ℕ) (says : R → List ℕ) (written : List ℕ) where
  -- the bytes that the steps wrote are all that is written by then
  either : (a b c d : List ℕ) → a ≡ b → (b ≡ c) ⊎ (b ≡ d) → (a ≡ c) ⊎ (a ≡ d)
  either a b c d e (inl f) = inl (e ∙ f)
  either a b c d e (inr f) = inr (e ∙ f)

  one_step : (a w rest : List ℕ) (x : Exchange) (by_now : List ℕ) → w ≡ x.wrote → by_now ≡ a ++ w → a ++ (x.wrote ++ []) ≡ by_now
  one_step a w rest x by_now e f = ap (λ (l : List ℕ). a ++ l) (nil x.wrote ∙ sym e) ∙ sym f
    where
      nil : (l : List ℕ) → l ++ [] ≡ l
      nil [] = refl
      nil (b ∷ bs) = ap (λ (l : List ℕ). b ∷ l) (nil bs)

  so_far : (steps : List (M × Exchange)) (p q : Point R) → FoldsTo (IsExchange turns brings says written) p steps q
      → (done later : List Exchange) (x : Exchange) → map (λ s. s.1) steps ≡ (done ++ x ∷ []) ++ later
      → SoFar turns says p (map (λ s. s.0) steps) written (done ++ x ∷ [])
  so_far [] p q goes [] later x e = absurd (none_some e)
  so_far [] p q goes (d ∷ ds) later x e = absurd (none_some e)
  so_far (s ∷ ss) p q goes [] later x e =
      let here = both s.1 x (map (λ (t : M × Exchange). t.1) ss) later e in
      record {
        front = s.0 ∷ [];
        later = map (λ (t : M × Exchange). t.0) ss;
        of_messages = refl;
        as_many = refl;
        by_then = goes.0.run;
        leads = (goes.0.run, goes.1.turn, refl);
        answered = either _ goes.0.wrote (says goes.0.run) written
            (one_step p.wrote s.1.wrote [] x goes.0.wrote (ap (λ (y : Exchange). y.wrote) here.0) goes.1.wrote) goes.1.whole;
      }
  so_far (s ∷ ss) p q goes (d ∷ ds) later x e =
      let here = both s.1 d (map (λ (t : M × Exchange). t.1) ss) ((ds ++ x ∷ []) ++ later) e in
      let on = so_far ss goes.0 q goes.2 ds later x here.1 in
      let more = all_wrote (ds ++ x ∷ []) in
      let same : p.wrote ++ (d.wrote ++ more) ≡ goes.0.wrote ++ more =
      sym (append_assoc p.wrote d.wrote more) ∙ ap (λ (l : List ℕ). (p.wrote ++ l) ++ more) (sym (ap (λ (y : Exchange). y.wrote) here.0))
      ∙ ap (λ (l : List ℕ). l ++ more) (sym goes.1.wrote) in
      record {
        front = s.0 ∷ on.front;
        later = on.later;
        of_messages = ap (λ (l : List M). s.0 ∷ l) on.of_messages;
        as_many = ap suc on.as_many;
        by_then = on.by_then;
        leads = (goes.0.run, goes.1.turn, on.leads);
        answered = either _ (goes.0.wrote ++ more) (says on.by_then) written same on.answered;
      }

  pub are_answered : (first last : R) (messages : List M) (transcript : List Exchange) → Transcribes turns brings says first messages last written transcript
      → (done later : List Exchange) (x : Exchange) → transcript ≡ (done ++ x ∷ []) ++ later → AreAnswered turns says first messages written (done ++ x ∷ [])
  are_answered first last messages transcript t done later x e =
      let s = so_far t.steps _ _ t.goes done later x (t.of_steps ∙ e) in
      record {
        front = s.front;
        later = s.later;
        of_messages = sym t.of_messages ∙ s.of_messages;
        as_many = s.as_many;
        by_then = s.by_then;
        leads = s.leads;
        answered = s.answered;
      }

pub server_answers : {J : Type 0} (facts : JobFacts J) (canon : Canon) (s : Served facts canon) → AnswersOfServer s
server_answers facts canon s done later step e = are_answered _ _ _ s.ran.schedule.written _ s.ran.schedule.run _ s.ran.transcript s.ran.noted.transcribed done
    later step e

pub client_answers : (limit : ℕ) (c : Connected limit) → AnswersOfClient c
client_answers limit c done later step e = are_answered _ _ _ c.ran.written _ c.ran.run _ c.ran.transcript c.ran.transcribed done later step e
