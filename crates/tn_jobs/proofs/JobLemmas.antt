-- The number of the foreground job, and whether there is one.
use Rattle.std.proofs.Common.{◌≡◌, ◌≢◌, ℕ, suc, ◌<◌, true, false, Option, Some, None, is_some, IsSome, [], ◌∷◌, length, refl, sym, ◌∙◌, ap, subst}
use Rattle.std.proofs.{Common.{if◌then◌else◌, arith, ◌⊎◌, inl, inr}, lemmas.{Grind.common_steps, List.get_or_past, Bool.{eq-eqb, ne_eqb, Decides.eqb_tells}}}
use Rattle.std.proofs.lemmas.List.Folds.{list_any_at}
use Rattle.tn_jobs.specs.Jobs.{Jobs, state_at, with_state, held_count, is_foreground, has_foreground, foreground_after, is_number, NamesForeground, IsTable}
use Rattle.tn_jobs.specs.{Jobs.Adds, declared.verdicts.JobState.{JobState, TheVariants.{Foreground, Background, Stopped, Ended}}}

-- a number whose job is in the foreground
has_foreground_at : (jobs : Jobs) (id : ℕ) → state_at jobs id ≡ Some Foreground → has_foreground jobs ≡ true
has_foreground_at jobs id there =
    let within : id < length jobs = grind (arith, get_or_past) in
    list_any_at is_foreground jobs id None within (ap is_foreground there)

-- no such number
has_no_foreground : (jobs : Jobs) → ((id : ℕ) → state_at jobs id ≡ Some Foreground → ⊥) → has_foreground jobs ≡ false
has_no_foreground [] none = refl
has_no_foreground (None ∷ jobs) none = has_no_foreground jobs (λ id. none (suc id))
has_no_foreground (Some Foreground ∷ jobs) none = absurd (none 0 refl)
has_no_foreground (Some Background ∷ jobs) none = has_no_foreground jobs (λ id. none (suc id))
has_no_foreground (Some (Stopped why) ∷ jobs) none = has_no_foreground jobs (λ id. none (suc id))
has_no_foreground (Some Ended ∷ jobs) none = has_no_foreground jobs (λ id. none (suc id))

-- the kept number shows whether a job is in the foreground
pub is_some-foreground : (jobs : Jobs) (foreground : Option ℕ) → NamesForeground jobs foreground → is_some foreground ≡ has_foreground jobs
is_some-foreground jobs (Some id) names = let there = has_foreground_at jobs id ((names id).0 refl) in cc
is_some-foreground jobs None names =
    let none = has_no_foreground jobs (λ id there. let named = (names id).1 there in cc) in cc

-- A JOB MORE

-- a state but Background of the new table is one of the old table
more_at : (old new : Jobs) (id : ℕ) → Adds old new id → (other : ℕ) (state : JobState) → state ≢ Background → state_at new other ≡ Some state
    → state_at old other ≡ Some state
more_at old new id a other state differs e =
    elim (eqb_tells other id) [
      | inl is ↦ let same : other ≡ id = is.1 in let here : state_at new id ≡ Some state = rw same at e in let added = a.added in absurd (differs cc)
      | inr other_is ↦ sym (a.others other other_is.1) ∙ e
    ]

more_keeps : (old new : Jobs) (id : ℕ) → Adds old new id → (other : ℕ) (state : JobState) → state_at old other ≡ Some state → state_at new other ≡ Some state
more_keeps old new id a other state e =
    elim (eqb_tells other id) [
      | inl is ↦ let same : other ≡ id = is.1 in let here : state_at old id ≡ Some state = rw same at e in let free = a.was_free in cc
      | inr other_is ↦ a.others other other_is.1 ∙ e
    ]

-- a job at a number that was free, in the background
pub sound_more : (old new : Jobs) (id : ℕ) → Adds old new id → held_count old < 16 → IsTable old → IsTable new
sound_more old new id a room sound = record {
  one_foreground = λ x y e f.
      sound.one_foreground x y (more_at old new id a x Foreground (λ same. cc) e) (more_at old new id a y Foreground (λ same. cc) f);
  at_most_sixteen = omega (arith, a.held_more);
  none_ended = λ x e. sound.none_ended x (more_at old new id a x Ended (λ same. cc) e);
}

pub names_more : (old new : Jobs) (id : ℕ) (foreground : Option ℕ) → Adds old new id → NamesForeground old foreground → NamesForeground new foreground
names_more old new id foreground a names = λ x. (
  λ e. more_keeps old new id a x Foreground ((names x).0 e),
  λ e. (names x).1 (more_at old new id a x Foreground (λ same. cc) e),
)

-- A JOB ELSEWHERE

within : (jobs : Jobs) (id : ℕ) → IsSome (state_at jobs id) → id < length jobs
within jobs id held_count = grind (arith, get_or_past)

at_set : (jobs : Jobs) (id : ℕ) (state : Option JobState) → IsSome (state_at jobs id) → state_at (with_state jobs id state) id ≡ state
at_set jobs id state held_count = let low = within jobs id held_count in grind (arith, common_steps)

at_other : (jobs : Jobs) (id other : ℕ) (state : Option JobState) → other ≢ id → state_at (with_state jobs id state) other ≡ state_at jobs other
at_other jobs id other state differs = grind (arith, common_steps)

-- one state of another number, or of this one
set_at_state : (jobs : Jobs) (id other : ℕ) (state found : JobState) → IsSome (state_at jobs id) → state_at (with_state jobs id (Some state)) other ≡ Some found
    → ((other ≡ id) × (state ≡ found)) ⊎ ((other ≢ id) × (state_at jobs other ≡ Some found))
set_at_state jobs id other state found held_count e =
    elim (eqb_tells other id) [
      | inl is ↦ let same : other ≡ id = is.1 in let here = at_set jobs id (Some state) held_count in let there = rw same at e in inl (same, cc)
      | inr other_is ↦ let differs : other ≢ id = other_is.1 in inr (differs, sym (at_other jobs id other (Some state) differs) ∙ e)
    ]

held_set : (jobs : Jobs) (id : ℕ) (state : JobState) → IsSome (state_at jobs id) → held_count (with_state jobs id (Some state)) ≡ held_count jobs
held_set jobs id state held_count = let low = within jobs id held_count in grind (arith, common_steps)

pub sound_set : (jobs : Jobs) (id : ℕ) (state : JobState) → IsSome (state_at jobs id) → (is_foreground (Some state) ≡ true → has_foreground jobs ≡ false)
    → state ≢ Ended
    → IsTable jobs → IsTable (with_state jobs id (Some state))
sound_set jobs id state held_count alone differs sound = record {
  one_foreground = λ a b e f.
      elim (set_at_state jobs id a state Foreground held_count e) [
        | inl x ↦ elim (set_at_state jobs id b state Foreground held_count f) [
          | inl y ↦ x.0 ∙ sym y.0
          | inr y ↦ let none = alone (ap (λ s. is_foreground (Some s)) x.1) in let some = has_foreground_at jobs b y.1 in cc
        ]
        | inr x ↦ elim (set_at_state jobs id b state Foreground held_count f) [
          | inl y ↦ let none = alone (ap (λ s. is_foreground (Some s)) y.1) in let some = has_foreground_at jobs a x.1 in cc
          | inr y ↦ sound.one_foreground a b x.1 y.1
        ]
      ];
  at_most_sixteen = omega (arith, held_set jobs id state held_count, sound.at_most_sixteen);
  none_ended = λ other e. elim (set_at_state jobs id other state Ended held_count e) [ inl x ↦ differs x.1 | inr y ↦ sound.none_ended other y.1 ];
}

some_is : (a b : ℕ) → Some a ≡ Some b → b ≡ a
some_is a b e = cc

names_brought : (jobs : Jobs) (id : ℕ) → IsSome (state_at jobs id) → has_foreground jobs ≡ false
    → NamesForeground (with_state jobs id (Some Foreground)) (Some id)
names_brought jobs id held_count alone = λ other. (
  λ e. ap (state_at (with_state jobs id (Some Foreground))) (some_is id other e) ∙ at_set jobs id (Some Foreground) held_count,
  λ e.
      elim (set_at_state jobs id other Foreground Foreground held_count e) [
        | inl x ↦ ap (λ (n : ℕ). Some n) (sym x.0)
        | inr x ↦ let some = has_foreground_at jobs other x.1 in cc
      ],
)

names_left : (jobs : Jobs) (foreground : Option ℕ) (id : ℕ) (state : JobState) → IsSome (state_at jobs id) → state ≢ Foreground
    → NamesForeground jobs foreground
    → NamesForeground (with_state jobs id (Some state)) (if is_number foreground id then None else foreground)
names_left jobs None id state held_count differs names = λ other. (
  λ e. cc,
  λ e. elim (set_at_state jobs id other state Foreground held_count e) [ inl x ↦ absurd (differs x.1) | inr x ↦ (names other).1 x.1 ],
)
names_left jobs (Some n) id state held_count differs names =
    elim (eqb_tells n id) [
      | inl is ↦ let same : n ≡ id = is.1 in rw (eq-eqb n id same) (λ other. (
        λ e. cc,
        λ e.
            elim (set_at_state jobs id other state Foreground held_count e) [
              | inl x ↦ absurd (differs x.1)
              | inr x ↦ absurd (x.0 (some_is n other ((names other).1 x.1) ∙ same))
            ],
      ))
      | inr other_is ↦ let apart : n ≢ id = other_is.1 in rw (ne_eqb n id apart) (λ other. (
        λ e. at_other jobs id other (Some state) (λ f. apart (sym (some_is n other e) ∙ f)) ∙ (names other).0 e,
        λ e. elim (set_at_state jobs id other state Foreground held_count e) [ inl x ↦ absurd (differs x.1) | inr x ↦ (names other).1 x.1 ],
      ))
    ]

-- the number that is kept, after it
pub names_set : (jobs : Jobs) (foreground : Option ℕ) (id : ℕ) (state : JobState) {after : Option ℕ} → IsSome (state_at jobs id)
    → (is_foreground (Some state) ≡ true → has_foreground jobs ≡ false)
    → NamesForeground jobs foreground → after ≡ foreground_after foreground id (Some state) → NamesForeground (with_state jobs id (Some state)) after
names_set jobs foreground id Foreground held_count alone names is =
    subst (NamesForeground (with_state jobs id (Some Foreground))) (sym is) (names_brought jobs id held_count (alone refl))
names_set jobs foreground id Background held_count alone names is =
    subst (NamesForeground (with_state jobs id (Some Background))) (sym is) (names_left jobs foreground id Background held_count (λ e. cc) names)
names_set jobs foreground id (Stopped why) held_count alone names is =
    subst (NamesForeground (with_state jobs id (Some (Stopped why)))) (sym is) (names_left jobs foreground id (Stopped why) held_count (λ e. cc) names)
names_set jobs foreground id Ended held_count alone names is = subst (NamesForeground (with_state jobs id (Some Ended))) (sym is)
    (names_left jobs foreground id Ended held_count (λ e. cc) names)
