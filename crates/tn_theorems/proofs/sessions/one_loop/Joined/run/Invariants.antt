use Rattle.std.proofs.Common.{◌≡◌, ◌++◌}
use Rattle.std.specs.List.{FoldsTo}
use Rattle.tn_theorems.specs.sessions.OneLoop.{Happens}
use Rattle.tn_theorems.proofs.sessions.one_loop.Joined.run.Given as goal

-- the events that happened, and then those that are left, are the script
abbrev pub invariant-loop-event : goal.invariant-loop-event
invariant-loop-event l =
    FoldsTo Happens l.fn.self l.yielded l.self × (l.initial.event-iterator.rest.items ≡ l.yielded ++ l.event-iterator.rest.items)
