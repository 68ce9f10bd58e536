-- The jobs of a session: how many are still to be made, and which one comes next.
use Rattle.std.specs.Prelude.{◌≡◌, ℕ, zero, suc, Bool, true, false, IsFalse, if◌then◌else◌}
use Rattle.tn_serve.specs.declared.services.{answerers.Answerers.Answerers, answering.Answerer.Answerer}

-- one in the foreground
abbrev pub foreground : Bool → ℕ
foreground true = 1
foreground false = 0

-- the number of jobs in the background: one if it ticks
abbrev pub background : ℕ → ℕ
background zero = 0
background (suc ticks) = 1

-- The next job: one for the foreground, which makes no tick, and after it one that makes as many as were
-- asked for, of which none are asked for again.
pub record GivesJob (old : Answerers) (job : Answerer) (new : Answerers) : Type 0 where
  pub made_for : job.ticks ≡ (if old.first then 0 else old.ticks)
  pub came : IsFalse new.first
  pub asked : new.ticks ≡ (if old.first then old.ticks else 0)
