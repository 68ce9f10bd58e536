-- The calls of a service, one by one.
use Rattle.std.specs.Prelude.{◌≡◌, ◌≤◌, ℕ, ◌+◌, ◌==◌, if◌then◌else◌, List, [], ◌∷◌, Result, Ok, Err, sum_by}
use Rattle.tn_serve.specs.{Ends.whole_of, declared.{finished.Finished.Finished, turns.Turn.Turn}}
use Rattle.tn_serve.specs.declared.turns.Turn.TheVariants.{Made, Refused, Ended}

-- the service was asked for the jobs of the session with this number
abbrev pub asked : {A E : Type 0} → ℕ → Result A E → Turn
asked number (Ok jobs) = Made number
asked number (Err error) = Refused number

-- 1 if both are equal, else 0
abbrev pub is_same : ℕ → ℕ → ℕ
is_same m n = if m == n then 1 else 0

-- 1 if it made the jobs of the session with this number
abbrev pub made_for : ℕ → Turn → ℕ
made_for number (Made other) = is_same number other
made_for number (Refused other) = 0
made_for number (Ended other finished) = 0

-- 1 if it got the end of the session with this number
abbrev pub ended_for : ℕ → Turn → ℕ
ended_for number (Made other) = 0
ended_for number (Refused other) = 0
ended_for number (Ended other finished) = is_same number other

-- 1 if it got the end of a session
abbrev pub ends : Turn → ℕ
ends (Made number) = 0
ends (Refused number) = 0
ends (Ended number finished) = 1

-- 1 if it got the end of a session without a fault
abbrev pub ends_whole : Turn → ℕ
ends_whole (Made number) = 0
ends_whole (Refused number) = 0
ends_whole (Ended number finished) = whole_of finished

-- 1 if it had no memory for jobs
abbrev pub refusals : Turn → ℕ
refusals (Made number) = 0
refusals (Refused number) = 1
refusals (Ended number finished) = 0

-- the number of these calls that are such
abbrev pub times : (Turn → ℕ) → List Turn → ℕ
times is_such [] = 0
times is_such (turn ∷ earlier) = is_such turn + times is_such earlier

-- after each of these calls as many ends of this number were received as its jobs had been made, or one less
abbrev pub EndsFollow : ℕ → List Turn → Type 0
EndsFollow number [] = Unit {0}
EndsFollow number (turn ∷ earlier) =
    (times (ended_for number) (turn ∷ earlier) ≤ times (made_for number) (turn ∷ earlier))
    × (times (made_for number) (turn ∷ earlier) ≤ times (ended_for number) (turn ∷ earlier) + 1)
    × EndsFollow number earlier

-- for each number, how many of these have it
abbrev pub live_of : {S : Type 0} → List S → (S → ℕ) → ℕ → ℕ
live_of started number_of number = sum_by (λ s. is_same number (number_of s)) started

-- one more has ended so
abbrev pub IsOneEnd : Finished → ℕ → ℕ → ℕ → ℕ → Type 0
IsOneEnd finished whole faulted whole' faulted' =
    (whole' ≡ whole + whole_of finished) × (whole' + faulted' ≡ whole + faulted + 1)

-- these counts with one more that has this number
abbrev pub with_one : ℕ → (ℕ → ℕ) → ℕ → ℕ
with_one number live n = live n + is_same n number

-- one more has this number
abbrev pub IsOneMore : ℕ → (ℕ → ℕ) → (ℕ → ℕ) → Type 0
IsOneMore number old new = (n : ℕ) → new n ≡ old n + is_same n number

-- no two have one number
abbrev pub AreApart : (ℕ → ℕ) → Type 0
AreApart live = (number : ℕ) → live number ≤ 1

-- the end that it receives is so
abbrev pub TellsSo : (Finished → Type 0) → Turn → Type 0
TellsSo HasEnded (Made number) = Unit {0}
TellsSo HasEnded (Refused number) = Unit {0}
TellsSo HasEnded (Ended number finished) = HasEnded finished

module _ {V : Type 0} (turns : V → Turn → V → Type 0) (HasEnded : Finished → Type 0) (first : V) where
  -- these calls, the last of them first, led from the first service to this one
  abbrev pub IsCalled : List Turn → V → Type 0
  IsCalled [] now = now ≡ first
  IsCalled (turn ∷ earlier) now =
      (before : V) × IsCalled earlier before × turns before turn now × TellsSo HasEnded turn

  -- This number of sessions is counted, without a fault and with one, and as often as a number is live, its
  -- session has jobs and has not ended: each session that got jobs ends once, and is counted then as its end
  -- was received; a connection that was refused them is counted as one with a fault, and so is one for which
  -- the service was not asked.
  pub record Hears (whole faulted : ℕ) (now : V) (live : ℕ → ℕ) : Type 0 where
    pub calls : List Turn
    pub called : IsCalled calls now
    pub each : (number : ℕ) → times (made_for number) calls ≡ times (ended_for number) calls + live number
    pub in_order : (number : ℕ) → EndsFollow number calls
    pub unasked : ℕ
    pub all : whole + faulted ≡ times ends calls + times refusals calls + unasked
    pub whole_ones : whole ≡ times ends_whole calls

  -- all that got jobs have ended
  abbrev pub HearsAll : ℕ → ℕ → Type 0
  HearsAll whole faulted = (last : V) × Hears whole faulted last (λ _. 0)

module _ {V : Type 0} (turns : V → Turn → V → Type 0) (HasEnded : Finished → Type 0) where
  -- a fact that held up to the old service holds up to the new one
  abbrev pub StillHears : ℕ → ℕ → V → (ℕ → ℕ) → ℕ → ℕ → V → (ℕ → ℕ) → Type 0
  StillHears whole faulted now live whole' faulted' now' live' = (first : V)
      → Hears turns HasEnded first whole faulted now live
      → Hears turns HasEnded first whole' faulted' now' live'

  -- one more session has jobs, and a number that was free
  abbrev pub HearsOfJobs : ℕ → V → V → Type 0
  HearsOfJobs number old new = (whole faulted : ℕ) (live live' : ℕ → ℕ) → IsOneMore number live live'
      → AreApart live' → StillHears whole faulted old live whole faulted new live'

  -- one more connection is counted, for which this number was free
  abbrev pub HearsOfNone : ℕ → V → V → Type 0
  HearsOfNone number old new = (whole faulted : ℕ) (live : ℕ → ℕ) → AreApart (with_one number live)
      → StillHears whole faulted old live whole (faulted + 1) new live

  -- one more session has ended
  abbrev pub HearsOfEnd : ℕ → Finished → V → V → Type 0
  HearsOfEnd number finished old new = (whole faulted whole' faulted' : ℕ) (live live' : ℕ → ℕ)
      → IsOneMore number live' live → IsOneEnd finished whole faulted whole' faulted'
      → StillHears whole faulted old live whole' faulted' new live'
