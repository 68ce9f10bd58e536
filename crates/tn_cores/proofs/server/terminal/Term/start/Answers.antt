use Rattle.std.proofs.Common.{ap}
use Rattle.tn_cores.specs.declared.server.progress.ServerProgress.{ServerProgress}
use Rattle.tn_cores.proofs.of_terminal.Doing.{starts, start_sends}
use Rattle.tn_cores.proofs.server.terminal.Term.start.Goals as goal

pub returns-clause-at : goal.returns-clause-at
returns-clause-at c =
    starts (record { settings = c.args.settings; limit = c.args.limit }) c.args.approach c.args.table c.in_ok-end.end c.wish.new.self c.pull_all.new.end _ _ _ _
    c.in_ok-end.ensures.leads c.in_ok-end.ensures.reads c.in_ok-end.ensures.runs c.in_ok-end.ensures.opens c.in_ok-wish.ensures.step
    c.in_ok-wish.ensures.out c.in_ok-pull_all.ensures.ok (ap
    (λ (p : ServerProgress). record { end = c.pull_all.new.end; table = c.args.table; tostop = c.args.settings.flags.tostop; progress = p }) c.new.ensures)

pub returns-clause-out : goal.returns-clause-out
returns-clause-out c =
    start_sends (record { settings = c.args.settings; limit = c.args.limit }) c.args.approach c.in_ok-end.end c.wish.new.self c.pull_all.new.end
    c.args.out.now.items _ _ _ c.requires c.in_ok-end.ensures.out c.in_ok-end.ensures.leads c.in_ok-wish.ensures.step c.in_ok-wish.ensures.out c.in_ok-pull_all.ensures.ok
