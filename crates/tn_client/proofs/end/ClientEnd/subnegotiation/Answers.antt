use Rattle.std.proofs.{Common.{Bool, inr, Some, sym, ap, ◌∙◌, arith}, lemmas.{Grind.common_steps, Result.on_err_weaker}}
use Rattle.tn_codes.specs.declared.payloads.Payload.{Payload}
use Rattle.tn_linemode.specs.Words.{payload_under}
use Rattle.tn_client.proofs.end.ClientEnd.subnegotiation.Goals as goal

pub returns-in-Some-Slc-clause-grows : goal.returns-in-Some-Slc-clause-grows
returns-in-Some-Slc-clause-grows c =
    let on = ap (λ (b : Bool). payload_under b c.args.option c.args.params.now) (sym c.is_read.ensures) in
    let is = on ∙ sym c.in_ok-mask.ensures.value ∙ c.in-Some-Slc.is ∙ ap (λ (p : Payload). Some p) c.in-Some-Slc.field-0-is in
    on_err_weaker c.list.result (λ some. inr (c.in-Some-Slc.triples, some, is)) c.list.ensures.grows

pub returns-in-Some-Naws-clause-ok : goal.returns-in-Some-Naws-clause-ok
returns-in-Some-Naws-clause-ok c = grind (arith, common_steps)

pub returns-in-Some-Naws-clause-out : goal.returns-in-Some-Naws-clause-out
returns-in-Some-Naws-clause-out c = grind (arith, common_steps)
