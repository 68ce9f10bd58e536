use Rattle.std.proofs.{Common.{◌≡◌, ◌≤◌, ℕ, Some, List, length, ap, ◌∙◌, arith}, lemmas.List.take_all}
use Rattle.tn_codes.specs.declared.{masks.Mask.Mask, payloads.Payload.TheVariants.ForwardOn}
use Rattle.tn_server.specs.Replies.{forward_payload}
use Rattle.tn_server.proofs.sending.put_mask.Goals as goal

-- a mask has 32 octets
all_octets : (mask : Mask) → length mask.0 ≤ 32 → forward_payload (Some mask) ≡ ForwardOn mask
all_octets mask short = ap (λ (octets : List ℕ). ForwardOn (record { 0 = octets })) (take_all 32 mask.0 short)

pub returns-in-Some-clause-ok : goal.returns-in-Some-clause-ok
returns-in-Some-clause-ok c =
    let short : length c.in-Some.mask.0 ≤ 32 = omega arith in
    rw (ap forward_payload c.in-Some.is ∙ all_octets c.in-Some.mask short) c.put_payload.ensures.ok

pub returns-in-Some-clause-full : goal.returns-in-Some-clause-full
returns-in-Some-clause-full c =
    let short : length c.in-Some.mask.0 ≤ 32 = omega arith in
    rw (ap forward_payload c.in-Some.is ∙ all_octets c.in-Some.mask short) c.put_payload.ensures.full
