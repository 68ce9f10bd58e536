use Rattle.std.proofs.{Common.◌∙◌, lemmas.Result.err_from_is_err_and}
use Rattle.tn_linemode.specs.Exchange.{client_answers, client_next, client_answer}
use Rattle.tn_linemode.proofs.lemmas.Listing.{answers_few, answered_some, wanted_some}
use Rattle.tn_client.proofs.end.ClientEnd.list.Goals as goal

pub put_list-requires : goal.put_list-requires
unfolding client_answers
put_list-requires c =
    answers_few client_next client_answer c.self.inside.table c.as_slice.result.now _ _ _ _
    (c.deref.ensures.value ∙ c.in_ok-got.ensures.answers) c.new-answers.ensures.items c.as_slice.ensures c.requires

pub returns-in_err-got-clause-grows : goal.returns-in_err-got-clause-grows
unfolding client_answers
returns-in_err-got-clause-grows c =
    let p = err_from_is_err_and c.from_residual.result c.from_residual.ensures.1 in
    let some = wanted_some client_next client_answer c.self.inside.table c.as_slice.result.now _ _ c.in_err-got.ensures.full c.new-answers.ensures.len in
    rw p.1 (rw c.as_slice.ensures at some)

pub returns-in_err-put_list-clause-grows : goal.returns-in_err-put_list-clause-grows
unfolding client_answers
returns-in_err-put_list-clause-grows c =
    let p = err_from_is_err_and c.from_residual-in_err-put_list.result c.from_residual-in_err-put_list.ensures.1 in
    let some = answered_some client_next client_answer c.self.inside.table c.as_slice.result.now _ _
    (c.deref.ensures.value ∙ c.in_ok-got.ensures.answers) c.new-answers.ensures.items c.in_err-put_list.ensures.some in
    rw p.1 (rw c.as_slice.ensures at some)
