use Rattle.std.proofs.Common.{◌≡◌, take}
use Rattle.tn_serve.specs.Places.{count_at}
use Rattle.tn_serve.proofs.running.count_of.Given as goal

-- the sessions so far are counted
abbrev pub invariant-loop-one : goal.invariant-loop-one
invariant-loop-one g l = l.count ≡ count_at (λ s. s.caller.peer) l.host (take l.one-index l.started)
