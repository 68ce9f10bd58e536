use Rattle.std.proofs.Common.{ap, subst, sym, vec_items, ◌∙◌}
use Rattle.tn_serve.proofs.Holding.{beside, has_left}
use Rattle.tn_serve.specs.Places.{AreHeld}
use Rattle.tn_serve.proofs.serving.Open.give_up.Goals as goal

pub returns-clause-held : goal.returns-clause-held
returns-clause-held g c held =
    let old = c.args.self.now in
    subst (λ l. AreHeld c.leave.new.self l (λ s. s.caller.number)) (sym (ap vec_items c.fail.ensures.same))
    (has_left old.roster c.leave.new.self (vec_items old.running.started) (λ s. s.caller.number) c.args.caller.now.number
    (c.leave.ensures.leaves (c.leave.ensures.held ∙ beside old.roster (vec_items old.running.started) (λ s. s.caller.number) c.args.caller.now.number held))
    held)
