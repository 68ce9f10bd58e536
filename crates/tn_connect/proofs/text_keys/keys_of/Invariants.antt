-- The keys of the bytes so far are written, and those of the others are still to come.
use Rattle.std.proofs.Common.{◌≡◌, ◌≤◌, ◌++◌, List, ℕ, length, take, drop}
use Rattle.tn_connect.specs.Texts.{keys_of_text}
use Rattle.tn_connect.proofs.text_keys.keys_of.Given as goal

abbrev pub invariant-loop-place : goal.invariant-loop-place
invariant-loop-place l =
    (l.count ≤ l.place) × (length l.buf ≡ length l.fn.buf)
    × ((rest : List ℕ) → take l.count l.buf ++ keys_of_text l.after (drop l.place l.bytes ++ rest)
    ≡ keys_of_text l.fn.after_return (l.bytes ++ rest))
