use Rattle.std.proofs.Common.{◌∷◌, refl, Result, Ok, Err, OnOk, ap, sym}
use Rattle.tn_codes.specs.Payloads.{Says, option_of, parameters_of}
use Rattle.tn_codes.proofs.writing.write_payload.Goals as goal

-- a fact that needs no call holds if the call is Ok
on_ok : {T E : Type 0} (r : Result T E) (P : Type 0) → P → OnOk r P
on_ok (Ok x) P p = p
on_ok (Err e) P p = tt

pub returns-in-ForwardOn-clause-said : goal.returns-in-ForwardOn-clause-said
returns-in-ForwardOn-clause-said c =
    let t = c.trimmed.ensures in
    let payload = c.args.payload.now in
    let said : Says (option_of payload) (parameters_of payload) payload =
    rw c.in-ForwardOn.is (refl, (c.trimmed.result.now, ap (λ xs. 253 ∷ 2 ∷ xs) (sym t.octets), t.len, t.filled)) in
    on_ok c.write_mask.result (Says (option_of payload) (parameters_of payload) payload) said
