use Rattle.std.specs.Io.KnownBytes.{Keeps}
use Rattle.tn_serve.proofs.services.dialing.tell.Given as goal

abbrev pub invariant-loop : goal.invariant-loop
invariant-loop g l =
    (goal.iterator-loop g).can_next l.iterator' × (goal.iterator-loop g).is_finite l.iterator'
    × Keeps (g.S.Write.contents l.fn.stream) (g.S.Write.contents l.stream)
