use Rattle.std.proofs.{Common.{refl, sym, subst}, lemmas.Result.err_from_is_err_and}
use Rattle.tn_server.specs.{Calls.LeadsTo, Events.{next, wrote}}
use Rattle.tn_server.proofs.lemmas.Leading.{stands}
use Rattle.tn_cores.proofs.of_terminal.{Breaking.breaks_part, Doing.does_part}
use Rattle.tn_cores.proofs.server.terminal.Term.show_part.Goals as goal

pub returns-clause-ok : goal.returns-clause-ok
returns-clause-ok c =
    does_part c.args.self.now _ c.write.new.self c.pull_all.new.end c.args.part.now c.args.out.now.items c.args.out.now.items _ c.requires refl
    c.write.ensures.step refl c.in_ok-pull_all.ensures.ok

pub returns-in_err-pull_all-clause-err : goal.returns-in_err-pull_all-clause-err
returns-in_err-pull_all-clause-err c = let p = err_from_is_err_and c.from_residual.result c.from_residual.ensures.1
    in rw p.1 (breaks_part c.args.self.now _ c.pull_all.new.end c.args.part.now _ _ refl c.in_err-pull_all.ensures.err_appends)

pub returns-in_err-pull_all-clause-grows : goal.returns-in_err-pull_all-clause-grows
returns-in_err-pull_all-clause-grows c = let p = err_from_is_err_and c.from_residual.result c.from_residual.ensures.1
    in rw p.1 (λ d at. c.in_err-pull_all.ensures.grows (next d.history (wrote c.args.part.now))
    (subst (LeadsTo (next d.history (wrote c.args.part.now))) (sym c.write.ensures.step) (stands d.history c.args.self.now.end (wrote c.args.part.now) (at.live c.requires).leads)))
