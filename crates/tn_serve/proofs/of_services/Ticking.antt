-- The number of ticks that are made is the number that are left.
use Rattle.std.proofs.Common.{◌≡◌, ◌≤◌, ◌+◌, ℕ, zero, suc, List, [], ◌∷◌, ◌++◌, length, refl, sym, ap, ◌∙◌, append-nil, arith}
use Rattle.tn_jobs.specs.declared.reactions.Reaction.{Reaction}
use Rattle.tn_serve.specs.{services.Answering.{AreTicks, IsFresh, AreSteps, tick, ticks}, declared.services.answering.Answerer.Answerer}

pub length-ticks : (left : ℕ) → length (ticks left) ≡ left
length-ticks zero = refl
length-ticks (suc left) = omega (arith, length-ticks left)

pub counted : (left after : ℕ) (reactions : List Reaction) → AreTicks left reactions after → length reactions ≤ left → reactions ++ ticks after ≡ ticks left
counted left after [] is few = ap ticks is
counted zero after (reaction ∷ reactions) made few = absurd (omega (arith, few))
counted (suc left) after (reaction ∷ reactions) made few =
    let one : made.0 ≡ left = omega (arith, made.1.one_less) in
    let rest = counted made.0 after reactions made.2 (omega (arith, few, one)) in
    ap (λ (r : Reaction). r ∷ reactions ++ ticks after) made.1.says ∙ ap (λ (rs : List Reaction). tick (suc left) ∷ rs) (rest ∙ ap ticks one)

pub left_after : (left after : ℕ) (reactions : List Reaction) → AreTicks left reactions after → length reactions ≤ left → after + length reactions ≡ left
left_after left after [] is few = omega (arith, is)
left_after zero after (reaction ∷ reactions) made few = absurd (omega (arith, few))
left_after (suc left) after (reaction ∷ reactions) made few =
    let one : made.0 ≡ left = omega (arith, made.1.one_less) in
    omega (arith, one, left_after made.0 after reactions made.2 (omega (arith, few, one)))

pub all_made : (number after : ℕ) (reactions : List Reaction) → AreTicks number reactions after → length reactions ≡ number → reactions ≡ ticks number
all_made number after reactions made whole =
    let none : after ≡ 0 = omega (arith, left_after number after reactions made (omega (arith, whole)), whole) in
    sym (append-nil reactions) ∙ ap (λ (n : ℕ). reactions ++ ticks n) (sym none) ∙ counted number after reactions made (omega (arith, whole))

-- the steps of a job tick
steps_tick : (job after : Answerer) (reactions : List Reaction) → AreSteps job reactions after → AreTicks job.left reactions after.left
steps_tick job after [] is = ap (λ (j : Answerer). j.left) is
steps_tick job after (reaction ∷ reactions) made = (made.0.left, made.1.0, steps_tick made.0 after reactions made.2)

pub fresh_counted : (job after : Answerer) (reactions : List Reaction) → IsFresh job → AreSteps job reactions after → length reactions ≤ job.ticks
    → reactions ++ ticks after.left ≡ ticks job.ticks
fresh_counted job after reactions fresh made few =
    counted job.left after.left reactions (steps_tick job after reactions made) (omega (arith, few, fresh)) ∙ ap ticks fresh

pub fresh_all : (job after : Answerer) (reactions : List Reaction) → IsFresh job → AreSteps job reactions after → length reactions ≡ job.ticks
    → reactions ≡ ticks job.ticks
fresh_all job after reactions fresh made whole =
    all_made job.left after.left reactions (steps_tick job after reactions made) (omega (arith, whole, fresh)) ∙ ap ticks fresh
