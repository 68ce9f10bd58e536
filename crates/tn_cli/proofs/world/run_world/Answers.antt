use Rattle.std.proofs.{Common.{Some, Err, ap, ◌∙◌}, lemmas.Result.err_from_is_err_and}
use Rattle.tn_cli.specs.{Playing.{EndsWith, PrintsWhole, PrintsSome}, Scripts.lines_of}
use Rattle.tn_cli.proofs.{Ends.{ends_well, ends_by_write, ends_at_line}, Outputs.{appends_text, appends_front, ended}}
use Rattle.tn_cli.proofs.world.run_world.Goals as goal

pub returns-in_err-write_whole-clause-ends : goal.returns-in_err-write_whole-clause-ends
returns-in_err-write_whole-clause-ends g c =
    let old = g.W.Drain.contents c.args.writer.now in
    let new = g.W.Drain.contents c.write_whole.new.writer in
    let read = c.in_ok-script in
    let input = read.script.items in
    let before = c.new-printed.result.items in
    let after = c.play_script.new.printed.items in
    let added = ended (lines_of input) c.in_ok-end.end before after (rw c.deref.ensures.value at c.in_ok-end.ensures) in
    let fault = err_from_is_err_and c.from_residual-in_err-write_whole.result c.from_residual-in_err-write_whole.ensures.1 in
    ends_by_write c.from_residual-in_err-write_whole.result (g.R.Source.remaining c.args.reader.now)
    (g.R.Source.remaining c.read_whole.new.reader) input old new
    (fault.1 ∙ ap Err (fault.2 ∙ c.in_err-write_whole.ensures.fault)) read.ensures.whole read.ensures.end read.ensures.fits
    (appends_front (PrintsSome (lines_of input)) before after c.deref-2.result.now old new c.new-printed.ensures.items c.deref-2.ensures.value added
    c.in_err-write_whole.ensures.err)

pub returns-in-None-clause-ends : goal.returns-in-None-clause-ends
returns-in-None-clause-ends g c =
    let old = g.W.Drain.contents c.args.writer.now in
    let new = g.W.Drain.contents c.write_whole.new.writer in
    let read = c.in_ok-script in
    let input = read.script.items in
    let added = rw (c.deref.ensures.value, c.in-None.is) at c.in_ok-end.ensures in
    ends_well (g.R.Source.remaining c.args.reader.now) (g.R.Source.remaining c.read_whole.new.reader) input old new read.ensures.whole read.ensures.end
    read.ensures.fits
    (appends_text (PrintsWhole (lines_of input)) c.new-printed.result.items c.play_script.new.printed.items c.deref-2.result.now old new
    c.new-printed.ensures.items c.deref-2.ensures.value added c.in_ok-write_whole.ensures.ok)

pub returns-clause-ends : goal.returns-clause-ends
returns-clause-ends g c =
    let old = g.W.Drain.contents c.args.writer.now in
    let new = g.W.Drain.contents c.write_whole.new.writer in
    let read = c.in_ok-script in
    let input = read.script.items in
    let added = rw (c.deref.ensures.value, c.in-Some.is) at c.in_ok-end.ensures in
    ends_at_line c.in-Some.fault (g.R.Source.remaining c.args.reader.now)
    (g.R.Source.remaining c.read_whole.new.reader) input old new read.ensures.whole read.ensures.end read.ensures.fits
    (appends_text (EndsWith (lines_of input) (Some c.in-Some.fault)) c.new-printed.result.items c.play_script.new.printed.items c.deref-2.result.now old new
    c.new-printed.ensures.items c.deref-2.ensures.value added c.in_ok-write_whole.ensures.ok)
