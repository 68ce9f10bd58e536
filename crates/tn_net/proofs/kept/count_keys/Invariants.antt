use Rattle.std.proofs.Common.{◌≡◌, ◌≤◌, ◌+◌, length}
use Rattle.std.specs.{List.count_by, VecDeque.Iter.deque_iter_rest}
use Rattle.tn_net.specs.Typing.{is_key}
use Rattle.tn_net.proofs.kept.count_keys.Given as goal

-- the keys so far are counted, and no more than there are
abbrev pub invariant-loop-input : goal.invariant-loop-input
invariant-loop-input l =
    (goal.iterator-loop-input).can_next l.input-iterator ×
    (goal.iterator-loop-input).is_finite l.input-iterator ×
    (l.count + count_by is_key (deque_iter_rest l.input-iterator) ≡ count_by is_key l.kept.items) ×
    (l.count + length (deque_iter_rest l.input-iterator) ≤ length l.kept.items)
