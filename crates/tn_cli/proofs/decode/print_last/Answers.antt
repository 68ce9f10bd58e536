use Rattle.std.proofs.{Common.[], lemmas.Result.{on_err_weaker, on_ok_weaker}}
use Rattle.tn_cli.specs.Decode.{PrintsLast}
use Rattle.tn_cli.proofs.Decoding.{on_err, stops_before, stops_last}
use Rattle.tn_cli.proofs.decode.print_last.Goals as goal

pub returns-in_err-text-clause-err : goal.returns-in_err-text-clause-err
returns-in_err-text-clause-err g c = on_err c.from_residual.result (stops_before c.args.decoding.now [] (g.W.Drain.contents c.args.writer.now))

pub returns-clause-ok : goal.returns-clause-ok
returns-clause-ok g c =
    let prints : PrintsLast c.args.decoding.now c.deref.result.now = rw c.deref.ensures.value c.in_ok-text.ensures in
    on_ok_weaker c.write_whole.result (λ appended. (c.deref.result.now, prints, appended)) c.write_whole.ensures.ok

pub returns-clause-err : goal.returns-clause-err
returns-clause-err g c =
    let prints : PrintsLast c.args.decoding.now c.deref.result.now = rw c.deref.ensures.value c.in_ok-text.ensures in
    on_err_weaker c.write_whole.result (stops_last _ _ _ _ prints) c.write_whole.ensures.err
