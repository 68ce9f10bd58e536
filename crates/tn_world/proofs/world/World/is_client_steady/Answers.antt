use Rattle.std.proofs.Common.{subst, ◌≡◌, ◌↔◌, true}
use Rattle.tn_world.specs.{Headline.IsSteady, Worlds.World}
use Rattle.tn_world.proofs.Resting.{same_states, steady_where}
use Rattle.tn_world.proofs.world.World.is_client_steady.Goals as goal

pub returns : goal.returns
returns c =
    subst (λ (w : World). c.are_in_order.result ≡ true ↔ IsSteady w.client.options) c.self.view_is
    (steady_where c.self.inside.client.options c.are_in_order.result _ c.are_in_order.ensures
    (same_states c.self.inside.client.options _ _ _ _ _ _ _ _
    c.option.ensures.value
    c.option-2.ensures.value
    c.option-3.ensures.value
    c.option-4.ensures.value
    c.option-5.ensures.value
    c.option-6.ensures.value
    c.option-7.ensures.value
    c.option-8.ensures.value))
