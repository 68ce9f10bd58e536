-- The inputs of these first bytes are kept and obeyed, and there is room for the others.
use Rattle.std.proofs.Common.{◌≤◌, ◌+◌}
use Rattle.std.specs.VecDeque.{deque_len, deque_capacity}
use Rattle.tn_net.proofs.Sorting.{IsSorted}
use Rattle.tn_net.proofs.escaping.Escaping.sort.Given as goal

abbrev pub invariant-loop-place : goal.invariant-loop-place
invariant-loop-place g l =
    IsSorted l.fn.self.keyboard l.fn.self.prompt l.bytes l.fn.kept.items l.place l.kept.items (g.O.Obey.obeyed l.fn.obeying) (g.O.Obey.obeyed l.obeying) l.self
    × (deque_len l.kept ≤ deque_len l.fn.kept + l.place)
    × (deque_capacity l.fn.kept ≤ deque_capacity l.kept)
