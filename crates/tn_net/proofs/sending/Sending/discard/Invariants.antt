use Rattle.std.proofs.Common.{◌≡◌, List}
use Rattle.crossbeam_channel.specs.Claims.{view}
use Rattle.tn_net.specs.Queue.{Piece, TakesOn}
use Rattle.tn_net.proofs.sending.Sending.discard.Given as goal

abbrev pub invariant-loop : goal.invariant-loop
invariant-loop g l =
    (goal.iterator-loop g).can_next l.iterator' × (goal.iterator-loop g).is_finite l.iterator'
    × (l.self.writer ≡ l.fn.self.writer) × ((pieces : List Piece) × TakesOn (view l.fn.self.pass) pieces (view l.self.pass))
