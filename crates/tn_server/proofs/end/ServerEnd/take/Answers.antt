use Rattle.std.proofs.Common.{true, false, sym, ap, ◌∙◌, append-nil}
use Rattle.tn_server.specs.Calls.{End}
use Rattle.tn_server.proofs.Calling.{taken_some, taken_says, is_due, idle_after, idle_says}
use Rattle.tn_server.proofs.end.ServerEnd.take.Goals as goal

pub returns-in-Some-clause-step : goal.returns-in-Some-clause-step
returns-in-Some-clause-step c = rw (← c.self.view_is) (taken_some _ c.take.new.self c.in-Some.entry c.in-Some.ensures.some c.in-Some.ensures.rest)

pub returns-in-Some-clause-out : goal.returns-in-Some-clause-out
returns-in-Some-clause-out c =
    taken_says c.args.self.now c.in-Some.entry _ c.args.out.now.items (ap (λ (e : End). e.terminal.entries) (sym c.self.view_is) ∙ c.in-Some.ensures.some)

pub returns-then-not-owes_ga-clause-step : goal.returns-then-not-owes_ga-clause-step
returns-then-not-owes_ga-clause-step c =
    rw (← c.self.view_is, c.in_default.ensures.none.1) (idle_after _ false c.in_default.ensures.none.0 (sym c.if-not-owes_ga.true ∙ c.owes_ga.ensures))

pub returns-then-not-owes_ga-clause-out : goal.returns-then-not-owes_ga-clause-out
returns-then-not-owes_ga-clause-out c =
    idle_says c.args.self.now false c.args.out.now.items c.args.out.now.items
    (ap (λ (e : End). e.terminal.entries) (sym c.self.view_is) ∙ c.in_default.ensures.none.0)
    (sym c.if-not-owes_ga.true ∙ c.owes_ga.ensures ∙ ap is_due c.self.view_is) (sym (append-nil c.args.out.now.items))

pub returns-clause-step : goal.returns-clause-step
returns-clause-step c =
    rw (← c.self.view_is, c.in_default.ensures.none.1) (idle_after _ true c.in_default.ensures.none.0 (sym c.if-not-owes_ga.false ∙ c.owes_ga.ensures))

pub returns-clause-out : goal.returns-clause-out
returns-clause-out c =
    idle_says c.args.self.now true c.args.out.now.items c.put_cmd.new.out.items
    (ap (λ (e : End). e.terminal.entries) (sym c.self.view_is) ∙ c.in_default.ensures.none.0)
    (sym c.if-not-owes_ga.false ∙ c.owes_ga.ensures ∙ ap is_due c.self.view_is) c.in_ok-put_cmd.ensures.ok
