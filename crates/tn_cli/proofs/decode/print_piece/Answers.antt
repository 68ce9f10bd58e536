use Rattle.std.proofs.lemmas.Result.{on_err_weaker, on_ok_weaker}
use Rattle.tn_cli.specs.Decode.{PrintsPiece}
use Rattle.tn_cli.proofs.Decoding.{on_err, stops_before, stops_within}
use Rattle.tn_cli.proofs.decode.print_piece.Goals as goal

pub returns-in_err-text-clause-err : goal.returns-in_err-text-clause-err
returns-in_err-text-clause-err g c = on_err c.from_residual.result (stops_before c.args.decoding.now c.args.piece.now (g.W.Drain.contents c.args.writer.now))

pub returns-clause-ok : goal.returns-clause-ok
returns-clause-ok g c =
    let prints : PrintsPiece c.args.decoding.now c.args.piece.now c.deref.result.now c.read.new.self = rw c.deref.ensures.value c.in_ok-text.ensures in
    on_ok_weaker c.write_whole.result (λ appended. (c.deref.result.now, prints, appended)) c.write_whole.ensures.ok

pub returns-clause-err : goal.returns-clause-err
returns-clause-err g c =
    let prints : PrintsPiece c.args.decoding.now c.args.piece.now c.deref.result.now c.read.new.self = rw c.deref.ensures.value c.in_ok-text.ensures in
    on_err_weaker c.write_whole.result (stops_within _ _ _ _ _ _ prints) c.write_whole.ensures.err
