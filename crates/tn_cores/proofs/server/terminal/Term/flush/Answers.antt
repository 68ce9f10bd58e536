use Rattle.std.proofs.{Common.{ap, refl}, lemmas.Result.err_from_is_err_and}
use Rattle.tn_server.specs.Calls.{End}
use Rattle.tn_cores.specs.server.Run.{flush, flushed_history}
use Rattle.tn_cores.proofs.of_terminal.{Breaking.{breaks_at_once, grows_flushed}, Doing.does_follow}
use Rattle.tn_cores.proofs.server.terminal.Term.flush.Goals as goal

pub returns-clause-ok : goal.returns-clause-ok
returns-clause-ok c = does_follow flushed_history c.args.self.now _ c.pull_all.new.end _ _ c.requires refl c.in_ok-pull_all.ensures.ok

pub returns-in_err-pull_all-clause-err : goal.returns-in_err-pull_all-clause-err
returns-in_err-pull_all-clause-err c =
    let p = err_from_is_err_and c.from_residual.result c.from_residual.ensures.1 in
    rw p.1 (breaks_at_once flush c.args.self.now _ _ _ (ap (λ (e : End). record c.args.self.now { end = e }) c.in_err-pull_all.ensures.err)
    c.in_err-pull_all.ensures.err_appends (λ d. grows_flushed d.history) (λ d. refl) (λ d. refl))

pub returns-in_err-pull_all-clause-grows : goal.returns-in_err-pull_all-clause-grows
returns-in_err-pull_all-clause-grows c = let p = err_from_is_err_and c.from_residual.result c.from_residual.ensures.1
    in rw p.1 (λ d at. c.in_err-pull_all.ensures.grows d.history (at.live c.requires).leads)
