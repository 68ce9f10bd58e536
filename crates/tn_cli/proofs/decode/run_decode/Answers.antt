use Rattle.std.proofs.{Common.{[], Err, ap, ◌∙◌}, lemmas.Result.err_from_is_err_and}
use Rattle.tn_cli.proofs.{Inputs.consumes_none, Decoding.{decodes_read, decodes_some, ends_whole, ends_by_read, ends_early}}
use Rattle.tn_cli.proofs.decode.run_decode.Goals as goal

pub returns-in_err-print_last-clause-ends : goal.returns-in_err-print_last-clause-ends
returns-in_err-print_last-clause-ends g c =
    let rest = g.R.Source.remaining c.print_pieces.new.reader in
    let result = c.from_residual-in_err-print_last.result in
    let fault = err_from_is_err_and result c.from_residual-in_err-print_last.ensures.1 in
    let some = decodes_some (g.R.Source.remaining c.args.reader.now) rest rest (g.W.Drain.contents c.args.writer.now)
    (g.W.Drain.contents c.print_pieces.new.writer) (g.W.Drain.contents c.print_last.new.writer) [] c.print_pieces.new.decoding c.in_ok-whole.ensures.ok
    (consumes_none rest) c.in_err-print_last.ensures.err in
    ends_early result c.in_err-print_last.field-0.0 _ _ _ _ (fault.1 ∙ ap Err fault.2) c.in_err-print_last.ensures.fault some

pub returns-then-whole-clause-ends : goal.returns-then-whole-clause-ends
returns-then-whole-clause-ends g c =
    ends_whole _ _ _ _ _ _ c.print_pieces.new.decoding c.in_ok-whole.ensures.ok c.in_ok-print_last.ensures.ok
    (c.in_ok-whole.ensures.end c.if-whole.true) c.unprinted-unprinted.ensures

pub returns-clause-ends : goal.returns-clause-ends
returns-clause-ends g c = ends_by_read _ _ _ _ (decodes_read _ _ _ _ _ c.print_pieces.new.decoding c.in_ok-whole.ensures.ok c.in_ok-print_last.ensures.ok)
