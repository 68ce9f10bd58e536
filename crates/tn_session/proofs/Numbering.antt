-- One more job in the table of a session.
use Rattle.std.proofs.Common.{◌≡◌, ◌≢◌, ℕ, List, [], ◌∷◌, ◌++◌, ◌⊎◌, ⊎_elim, inl, inr, Option, Some, None, sym, ap, ◌∙◌, subst}
use Rattle.tn_jobs.specs.{Jobs.{Jobs, state_at, Adds}, declared.held_jobs.JobId.JobId}
use Rattle.tn_jobs.specs.declared.verdicts.JobState.TheVariants as job
use Rattle.tn_session.specs.{Jobs.{Numbered, IsMade}, declared.making.Made.Made, workers.{Stepping.IsIn, Turning.{ids_of, AreApart, EachFresh, IsQueue}}}
use Rattle.tn_session.specs.declared.workers.back.Runner.{Runner}

none_some : {A : Type 0} (o : Option A) (x : A) → o ≡ None → o ≡ Some x → ⊥
none_some o x a b = cc

module _ {J : Type 0} (fresh : J → Type 0) where
  in_more : (queue : List (Runner J)) (r : Runner J) (id : ℕ) → IsIn id (ids_of (queue ++ r ∷ [])) → IsIn id (ids_of queue) ⊎ (id ≡ r.id.0)
  in_more [] r id i = ⊎_elim (λ e. inr e) (λ none. absurd none) i
  in_more (x ∷ queue) r id i = ⊎_elim (λ e. inl (inl e)) (λ later. ⊎_elim (λ a. inl (inr a)) (λ b. inr b) (in_more queue r id later)) i

  in_before : (queue : List (Runner J)) (r : Runner J) (id : ℕ) → IsIn id (ids_of queue) → IsIn id (ids_of (queue ++ r ∷ []))
  in_before [] r id i = absurd i
  in_before (x ∷ queue) r id i = ⊎_elim (λ e. inl e) (λ later. inr (in_before queue r id later)) i

  in_last : (queue : List (Runner J)) (r : Runner J) (id : ℕ) → id ≡ r.id.0 → IsIn id (ids_of (queue ++ r ∷ []))
  in_last [] r id e = inl e
  in_last (x ∷ queue) r id e = inr (in_last queue r id e)

  apart_more : (queue : List (Runner J)) (r : Runner J) → (IsIn r.id.0 (ids_of queue) → ⊥) → AreApart (ids_of queue) → AreApart (ids_of (queue ++ r ∷ []))
  apart_more [] r none a = (λ i. i, tt)
  apart_more (x ∷ queue) r none a = (
    λ i. ⊎_elim (λ before. a.0 before) (λ same. none (inl (sym same))) (in_more queue r x.id.0 i),
    apart_more queue r (λ i. none (inr i)) a.1,
  )

  fresh_more : (queue : List (Runner J)) (r : Runner J) → fresh r.job → EachFresh fresh queue → EachFresh fresh (queue ++ r ∷ [])
  fresh_more [] r f e = (f, tt)
  fresh_more (x ∷ queue) r f e = (e.0, fresh_more queue r f e.1)

  pub queue_more : (old new : Jobs) (first : JobId) (queue later : List (Runner J)) (r : Runner J) → Numbered old first (ids_of queue) → Adds old new r.id.0
      → later ≡ queue ++ r ∷ [] → fresh r.job → IsQueue fresh queue → Numbered new first (ids_of later) × IsQueue fresh later
  queue_more old new first queue later r n a e f l =
      let P : List (Runner J) → Type 0 = λ k. Numbered new first (ids_of k) × IsQueue fresh k in
      let apart : IsIn r.id.0 (ids_of queue) → ⊥ = λ i. none_some (state_at old r.id.0) job.Background a.was_free (n.background r.id.0 i) in
      let other : (id : ℕ) → IsIn id (ids_of queue) → id ≢ r.id.0 = λ id i same. apart (let Q : ℕ → Type 0 = λ k. IsIn k (ids_of queue) in subst Q same i) in
      subst P (sym e) (
        record {
          foreground = a.others first.0 (λ same. none_some (state_at old r.id.0) job.Foreground a.was_free (ap (state_at old) (sym same) ∙ n.foreground))
              ∙ n.foreground;
          background = λ id i. ⊎_elim (λ before. a.others id (other id before) ∙ n.background id before) (λ last. ap (state_at new) last ∙ a.added)
              (in_more queue r id i);
          no_more = λ id not_first not_in. a.others id (λ last. not_in (in_last queue r id last))
              ∙ n.no_more id not_first (λ i. not_in (in_before queue r id i));
        },
        (fresh_more queue r f l.0, apart_more queue r apart l.1),
      )

-- the table holds only the first job
pub first_alone : (empty one new : Jobs) (first : JobId) → empty ≡ [] → Adds empty one first.0 → ((id : ℕ) → state_at [] id ≡ None)
    → state_at new first.0 ≡ Some job.Foreground → ((id : ℕ) → id ≢ first.0 → state_at new id ≡ state_at one id) → Numbered new first []
first_alone empty one new first e a none here there = record {
  foreground = here;
  background = λ id i. absurd i;
  no_more = λ id other not_in. there id other ∙ a.others id other ∙ ap (λ (j : Jobs). state_at j id) e ∙ none id;
}

pub made_first : {J : Type 0} (fresh : J → Type 0) (made : Made J) → made.queue.items ≡ [] → Numbered made.table made.first [] → fresh made.job
    → IsMade {J = J} fresh made
made_first {J} fresh made e n f =
    let P : List (Runner J) → Type 0 = λ l. Numbered made.table made.first (ids_of l) × IsQueue fresh l in
    let both = subst P (sym e) (n, (tt, tt)) in
    record { numbered = both.0; queue = both.1; job = f }
