use Rattle.std.proofs.{Common.{refl, []}, lemmas.Result.err_from_is_err_and}
use Rattle.tn_cores.specs.server.Run.{flush, show}
use Rattle.tn_cores.proofs.of_terminal.{Breaking.{breaks_after, breaks_before, grows_flushed}, Doing.does_then, Refusing.wait_after}
use Rattle.tn_cores.proofs.server.terminal.Term.show_all.Goals as goal

pub returns-in_err-show_if-clause-err : goal.returns-in_err-show_if-clause-err
returns-in_err-show_if-clause-err c =
    let p = err_from_is_err_and c.from_residual.result c.from_residual.ensures.1 in
    let s = c.in_err-show_if.ensures.err in
    rw p.1 (s.0, s.1, breaks_before (show s.0) flush c.args.self.now c.show_if.new.self _ _ [] (λ d. grows_flushed d.history) (λ d. refl) (λ d. refl) s.2)

pub returns-clause-ok : goal.returns-clause-ok
returns-clause-ok c =
    let s = c.in_ok-show_if.ensures.ok in
    (s.0, s.1, does_then (show s.0) flush c.args.self.now c.show_if.new.self c.flush.new.self _ _ _ [] [] s.2 c.in_ok-flush.ensures.ok)

pub returns-in_err-flush-clause-err : goal.returns-in_err-flush-clause-err
returns-in_err-flush-clause-err c =
    let p = err_from_is_err_and c.from_residual-in_err-flush.result c.from_residual-in_err-flush.ensures.1 in
    let s = c.in_ok-show_if.ensures.ok in
    rw p.1 (s.0, s.1, breaks_after (show s.0) flush c.args.self.now c.show_if.new.self c.flush.new.self _ _ _ [] [] s.2 c.in_err-flush.ensures.err)

pub returns-in_err-flush-clause-grows : goal.returns-in_err-flush-clause-grows
returns-in_err-flush-clause-grows c =
    let p = err_from_is_err_and c.from_residual-in_err-flush.result c.from_residual-in_err-flush.ensures.1 in
    let s = c.in_ok-show_if.ensures.ok in
    rw p.1 (wait_after c.args.writes s.0 c.args.text.now c.args.self.now c.show_if.new.self _ _ s.1 s.2 c.in_err-flush.ensures.grows)
