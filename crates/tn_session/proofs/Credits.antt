-- The rule of the credits, and how many are given.
use Rattle.std.proofs.Common.{◌≡◌, ◌≤◌, ◌||◌, Bool, true, false, ℕ, ◌+◌, List, [], ◌∷◌, ◌++◌, refl, ap, ◌∙◌, arith, length, length-append}
use Rattle.crossbeam_channel.specs.Fifo.{Pushes, Pops, Forks, Learns}
use Rattle.tn_session.specs.workers.Credits.{AnyTally, none_taken, one_given, one_taken, owed_one, piece_one, pieces_among, step_one, steps_among}
use Rattle.tn_session.specs.declared.workers.{credit.{Credit.Credit, CreditTally.CreditTally}, mail.Mail.Mail}

-- THE RULE

pub gives : (n pass : ℕ) (v : CreditTally) (x : Credit) → Pushes AnyTally n pass v x (λ w. w ≡ one_given v x)
gives n pass v x items views room kept at = (one_given v x, tt, refl)

pub takes : (pass : ℕ) (v : CreditTally) → Pops AnyTally pass v (λ x w. w ≡ one_taken v x)
takes pass v x items views kept at = (one_taken v x, tt, refl)

pub learns : (pass : ℕ) (v : CreditTally) → Learns AnyTally pass v (λ items. Unit {0})
learns pass v items views kept at = tt

pub cuts : (pass : ℕ) (v : CreditTally) → Forks AnyTally pass v v none_taken
cuts pass v items views kept at = tt

-- COUNTING

pub taken_one : (v w : CreditTally) (x : Credit) → w ≡ one_taken v x → length w.taken ≡ length v.taken + 1
taken_one v w x e = ap (λ (t : CreditTally). length t.taken) e ∙ length-append v.taken (x ∷ [])

or_one : (a b : Bool) → owed_one (a || b) ≤ owed_one a + owed_one b
or_one true b = grind arith
or_one false b = grind arith

-- no more are given than one, and one for each piece that was handled
pub counts_on : (first old new pieces piece : ℕ) (owed is_piece due still : Bool) → old + owed_one owed ≤ first + 1 + pieces → owed_one is_piece ≡ piece
    → due ≡ (owed || is_piece) → new + owed_one still ≤ old + owed_one due → new + owed_one still ≤ first + 1 + (pieces + piece)
counts_on first old new pieces piece owed is_piece due still a e d b = let c = or_one owed is_piece in let f = ap owed_one d in omega (arith, a, e, b, c, f)

pub among-push : (xs : List Mail) (x : Mail) → pieces_among (xs ++ x ∷ []) ≡ pieces_among xs + piece_one x.message
among-push [] x = omega arith
among-push (y ∷ ys) x = let ih = among-push ys x in omega (arith, ih)

pub steps-push : (xs : List Mail) (x : Mail) → steps_among (xs ++ x ∷ []) ≡ steps_among xs + step_one x.from x.message
steps-push [] x = omega arith
steps-push (y ∷ ys) x = let ih = steps-push ys x in omega (arith, ih)
