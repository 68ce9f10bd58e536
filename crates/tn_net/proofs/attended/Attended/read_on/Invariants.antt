use Rattle.std.specs.Io.KnownBytes.{Keeps}
use Rattle.tn_net.proofs.attended.Attended.read_on.Given as goal

abbrev pub invariant-loop : goal.invariant-loop
invariant-loop g l =
    (goal.iterator-loop g).can_next l.iterator' × (goal.iterator-loop g).is_finite l.iterator'
    × Keeps (g.S.Read.remaining l.fn.self.stream) (g.S.Read.remaining l.self.stream)
