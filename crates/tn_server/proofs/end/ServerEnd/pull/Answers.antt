use Rattle.std.proofs.{Common.{rules, ℕ, min, sym, ap, ◌∙◌}, lemmas.Result.err_from_is_err_and}
use Rattle.tn_server.proofs.Calling.{pulled_none}
use Rattle.tn_server.proofs.end.ServerEnd.pull.Goals as goal

pub returns-then-most-eq0-clause-step : goal.returns-then-most-eq0-clause-step
returns-then-most-eq0-clause-step c = pulled_none c.args.self.now

pub returns-in_err-reserve-clause-grows : goal.returns-in_err-reserve-clause-grows
returns-in_err-reserve-clause-grows c =
    let p = err_from_is_err_and c.from_residual.result c.from_residual.ensures.1 in
    rw p.1 (search rules)

pub returns-then-most-eq0-clause-count : goal.returns-then-most-eq0-clause-count
returns-then-most-eq0-clause-count c =
    rw (← c.self.view_is) (sym c.if-most-eq0.true ∙ c.min-most.ensures ∙ ap (λ (n : ℕ). min c.args.max n) c.queued.ensures.value)

pub returns-clause-count : goal.returns-clause-count
returns-clause-count c = rw (← c.self.view_is) (c.min-most.ensures ∙ ap (λ (n : ℕ). min c.args.max n) c.queued.ensures.value)
