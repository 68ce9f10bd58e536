use Rattle.std.proofs.{Common.{append-nil, refl, arith, ◌+◌}, lemmas.Result.err_from_is_err_and}
use Rattle.tn_linemode.proofs.lemmas.Answering.{answers_along-nil, table-more, answers-more, length-more, length-front}
use Rattle.tn_linemode.proofs.answering.react_to_all.Goals as goal

pub loop-triple-init : goal.loop-triple-init
loop-triple-init g c =
    let none = answers_along-nil g.T.Reacts.next g.T.Reacts.answer c.args.table.now in
    record { table = refl; answers = rw (none, append-nil); len = rw none (omega arith); capacity = omega arith }

pub loop-triple-preserved : goal.loop-triple-preserved
loop-triple-preserved g c =
    let was = c.loop-triple.invariant in
    let more = length-more g.T.Reacts.next g.T.Reacts.answer _ _ _ _ _ _ c.loop-triple-test.true was.table c.react-answer.ensures.answer in
    record {
      table = table-more g.T.Reacts.next g.T.Reacts.answer _ _ _ _ _ _ c.loop-triple-test.true was.table c.react-answer.ensures.table;
      answers =
          answers-more g.T.Reacts.next g.T.Reacts.answer _ _ _ _ _ _ _ _ _ c.loop-triple-test.true was.table was.answers c.react-answer.ensures.answer
          c.in_ok-push_answer.ensures.items;
      len = omega (arith, more, was.len, c.in_ok-push_answer.ensures.len);
      capacity = omega (arith, was.capacity, c.in_ok-push_answer.ensures.capacity);
    }

pub returns-in_err-push_answer-clause-full : goal.returns-in_err-push_answer-clause-full
returns-in_err-push_answer-clause-full g c =
    let was = c.loop-triple.invariant in
    let more = length-more g.T.Reacts.next g.T.Reacts.answer _ _ _ _ _ _ c.loop-triple-test.true was.table c.react-answer.ensures.answer in
    let all = length-front g.T.Reacts.next g.T.Reacts.answer c.args.table.now c.args.triples.now (c.loop-triple.triple-index + 1) in
    let refused = err_from_is_err_and c.from_residual.result c.from_residual.ensures.1 in
    rw refused.1 (omega (arith, more, all, was.len, was.capacity, c.in_err-push_answer.ensures.full))
