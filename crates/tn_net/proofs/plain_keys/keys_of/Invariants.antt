-- The keys of the bytes so far are written, and those of the others are still to come.
use Rattle.std.proofs.Common.{◌≡◌, ◌≤◌, ◌++◌, List, ℕ, false, length, take, drop}
use Rattle.tn_net.specs.PlainKeys.{keys_left}
use Rattle.tn_net.proofs.plain_keys.keys_of.Given as goal

abbrev pub invariant-loop-place : goal.invariant-loop-place
invariant-loop-place g l =
    (l.count ≤ l.place) × (length l.buf ≡ length l.fn.buf)
    × ((rest : List ℕ) → take l.count l.buf ++ keys_left false l.escaping (drop l.place l.bytes ++ rest)
    ≡ keys_left false l.fn.escaping (l.bytes ++ rest))
