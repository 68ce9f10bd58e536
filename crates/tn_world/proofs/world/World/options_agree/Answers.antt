use Rattle.std.proofs.Common.{subst}
use Rattle.tn_world.specs.{Past.HasPast, Worlds.World}
use Rattle.tn_world.proofs.AtRest.{agree_at_rest}
use Rattle.tn_world.proofs.world.World.options_agree.Goals as goal

pub returns-clause-at_rest : goal.returns-clause-at_rest
returns-clause-at_rest c = λ none nothing.
    c.agree_on_each.ensures.1 (agree_at_rest c.args.self.now (subst (λ (w : World). HasPast w) c.self.view_is c.self.invariant) none nothing)
