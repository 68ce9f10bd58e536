use Rattle.std.proofs.{Common.{sym, ◌∙◌, arith}, lemmas.{Grind.common_steps, Result.err_from_is_err_and}}
use Rattle.tn_linemode.specs.Exchange.{server_answers, server_next, server_answer}
use Rattle.tn_linemode.proofs.lemmas.Listing.{answers_few, answered_some, wanted_some}
use Rattle.tn_server.proofs.Listing.{asked_some}
use Rattle.tn_server.proofs.end.ServerEnd.list.Goals as goal

pub put_list-requires : goal.put_list-requires
unfolding server_answers
put_list-requires c =
    answers_few server_next server_answer c.self.inside.table c.as_slice.result.now _ _ _ _
    (c.deref.ensures.value ∙ c.in_ok-is_asked.ensures.answers) c.new-answers.ensures.items c.as_slice.ensures c.requires

pub returns-in_err-is_asked-clause-some : goal.returns-in_err-is_asked-clause-some
unfolding server_answers
returns-in_err-is_asked-clause-some c =
    let p = err_from_is_err_and c.from_residual.result c.from_residual.ensures.1 in
    let some = wanted_some server_next server_answer c.self.inside.table c.as_slice.result.now _ _ c.in_err-is_asked.ensures.full c.new-answers.ensures.len in
    rw p.1 (rw c.as_slice.ensures at some)

pub returns-in_err-put_list-clause-some : goal.returns-in_err-put_list-clause-some
unfolding server_answers
returns-in_err-put_list-clause-some c =
    let p = err_from_is_err_and c.from_residual-in_err-put_list.result c.from_residual-in_err-put_list.ensures.1 in
    let some = answered_some server_next server_answer c.self.inside.table c.as_slice.result.now _ _
    (c.deref.ensures.value ∙ c.in_ok-is_asked.ensures.answers) c.new-answers.ensures.items c.in_err-put_list.ensures.some in
    rw p.1 (rw c.as_slice.ensures at some)

pub returns-in_err-announce-clause-some : goal.returns-in_err-announce-clause-some
returns-in_err-announce-clause-some c =
    let p = err_from_is_err_and c.from_residual-in_err-announce.result c.from_residual-in_err-announce.ensures.1 in
    let some = asked_some c.as_slice.result.now (sym c.in_ok-is_asked.ensures.asked ∙ c.if-is_asked.true) in
    rw p.1 (rw c.as_slice.ensures at some)

pub returns-clause-out : goal.returns-clause-out
returns-clause-out c = grind (arith, common_steps)
