use Rattle.std.proofs.{Common.{◌≡◌, ◌++◌, ◌-◌, length, drop, replicate, ℕ, ap}, lemmas.List.drop-replicate}
use Rattle.tn_codes.proofs.masks.Mask.from_octets.Goals as goal

pub returns : goal.returns
returns c =
    let zeros : drop (length c.args.octets.now) (replicate 32 0) ≡ replicate (32 - length c.args.octets.now) 0 =
    drop-replicate {X = ℕ} (length c.args.octets.now) 32 0 in
    rw c.copy_from_slice.ensures.after (ap (λ x. c.args.octets.now ++ x) zeros)
