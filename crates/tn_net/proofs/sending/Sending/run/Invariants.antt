use Rattle.crossbeam_channel.specs.Claims.{view}
use Rattle.tn_net.specs.Queue.{WritesAllTaken}
use Rattle.tn_cores.specs.streams.Sending.{StaysOpen}
use Rattle.tn_net.proofs.sending.Sending.run.Given as goal

abbrev pub invariant-loop : goal.invariant-loop
invariant-loop g l =
    (goal.iterator-loop g).can_next l.iterator' × (goal.iterator-loop g).is_finite l.iterator'
    × WritesAllTaken (view l.fn.self.pass) (view l.self.pass) (g.W.Drain.contents l.fn.self.writer) (g.W.Drain.contents l.self.writer)
    × StaysOpen (g.W.Drain.sending l.fn.self.writer) (g.W.Drain.sending l.self.writer)
