use Rattle.std.proofs.Common.{◌≤◌, length, ap, ◌∙◌, arith, unwrap_or}
use Rattle.tn_pty.proofs.lemmas.Joining.{joins_front}
use Rattle.tn_pty.proofs.pty.joining_front.Goals as goal

pub returns-in-Some-clause-joins : goal.returns-in-Some-clause-joins
returns-in-Some-clause-joins c =
    let eol = c.unwrap_or-eol.ensures ∙ ap (λ o. unwrap_or o 10) c.get.ensures.value in
    let eol2 = c.unwrap_or-eol2.ensures ∙ ap (λ o. unwrap_or o 10) c.get-2.ensures.value in
    let found = c.in-Some.ensures.0 in
    let within : c.in-Some.count ≤ length c.args.bytes.now = omega (arith, found.high) in
    joins_front c.args.chars.now c.unwrap_or-eol.result c.unwrap_or-eol2.result eol eol2 c.args.bytes.now c.in-Some.count within found.before

pub returns-in-None-clause-joins : goal.returns-in-None-clause-joins
returns-in-None-clause-joins c =
    let eol = c.unwrap_or-eol.ensures ∙ ap (λ o. unwrap_or o 10) c.get.ensures.value in
    let eol2 = c.unwrap_or-eol2.ensures ∙ ap (λ o. unwrap_or o 10) c.get-2.ensures.value in
    let bytes = c.args.bytes.now in
    joins_front c.args.chars.now c.unwrap_or-eol.result c.unwrap_or-eol2.result eol eol2 bytes (length bytes) (omega arith) c.in-None.ensures
