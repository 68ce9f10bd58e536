-- The answers of the job of a served session, and the text of the one in the background.
use Rattle.std.specs.Prelude.{◌≡◌, ◌-◌, ℕ, nat_le, zero, suc, IsTrue, Option, Some, List, [], ◌∷◌, codes}
use Rattle.std.specs.{Prelude.if◌then◌else◌, Str.bytes_eq}
use Rattle.tn_discipline.specs.declared.reads.{Sig.TheVariants.{Int, Quit, Tstp}, Entry.Entry}
use Rattle.tn_discipline.specs.declared.reads.Entry.TheVariants.{Text, Eof, Signal}
use Rattle.tn_jobs.specs.declared.{reactions.Reaction.Reaction, verdicts.After.After}
use Rattle.tn_jobs.specs.declared.verdicts.After.TheVariants.{Stay, Done, Stop}
use Rattle.tn_serve.specs.declared.services.answering.Answerer.{Answerer}

-- a reaction with this text
abbrev pub say : List ℕ → After → Reaction
say text after = record { text = text; after = after }

-- each line comes back, but for the one that ends the session
abbrev pub answer_line : List ℕ → Reaction
answer_line line = if bytes_eq line (codes "exit\n") then say (codes "bye\n") Done else say line Stay

-- the job's answer to an entry
abbrev pub answer : Entry → Reaction
answer (Text line) = answer_line line
answer Eof = say (codes "bye\n") Done
answer (Signal Int) = say (codes "int\n") Stay
answer (Signal Quit) = say (codes "quit\n") Stay
answer (Signal Tstp) = say (codes "tstp\n") Stop

-- Memory may run out for a text of its own, which each tick has; a line comes back in the memory that it has.
abbrev pub MayRefuse : Option Entry → Type 0
MayRefuse (Some (Text line)) = IsTrue (bytes_eq line (codes "exit\n"))
MayRefuse _ = Unit {0}

-- a tick, of which this number is left with it, and the last one ends the job
abbrev pub tick : ℕ → Reaction
tick left = say (codes "tick\n") (if nat_le left 1 then Done else Stay)

-- A step of a job to which this number of ticks is left: it writes one, and one less is left after it.
pub record Ticks (left : ℕ) (reaction : Reaction) (after : ℕ) : Type 0 where
  pub says : reaction ≡ tick left
  pub one_less : after ≡ left - 1

-- these steps, one after another, lead a job from this number of ticks that are left to that
abbrev pub AreTicks : ℕ → List Reaction → ℕ → Type 0
AreTicks left [] after = after ≡ left
AreTicks left (reaction ∷ reactions) after =
    (between : ℕ) × Ticks left reaction between × AreTicks between reactions after

-- the job has made none of the ticks that it was made for
abbrev pub IsFresh : Answerer → Type 0
IsFresh job = job.left ≡ job.ticks

-- a step of the job, which was made for as many ticks after it as before
abbrev pub IsStep : Answerer → Reaction → Answerer → Type 0
IsStep old reaction new = Ticks old.left reaction new.left × (new.ticks ≡ old.ticks)

-- these steps, one after another, lead from one state of the job to the other
abbrev pub AreSteps : Answerer → List Reaction → Answerer → Type 0
AreSteps old [] new = new ≡ old
AreSteps old (reaction ∷ reactions) new =
    (between : Answerer) × IsStep old reaction between × AreSteps between reactions new

-- all ticks of a job to which this number is left
abbrev pub ticks : ℕ → List Reaction
ticks zero = []
ticks (suc left) = tick (suc left) ∷ ticks left
