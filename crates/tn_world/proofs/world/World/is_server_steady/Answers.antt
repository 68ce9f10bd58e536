use Rattle.std.proofs.Common.{ap, sym, subst, ◌∙◌, ◌≡◌, ◌↔◌, true}
use Rattle.tn_option.specs.{Options.state_of, declared.q_method.Side.TheVariants.{Us, Them}}
use Rattle.tn_server.specs.Terms.{Terms}
use Rattle.tn_world.specs.{Headline.IsSteady, Worlds.World}
use Rattle.tn_world.proofs.Resting.{same_states, steady_where}
use Rattle.tn_world.proofs.world.World.is_server_steady.Goals as goal

pub returns : goal.returns
returns c =
    subst (λ (w : World). c.are_in_order.result ≡ true ↔ IsSteady w.server.terms.options) c.self.view_is
    (steady_where c.self.inside.server.terms.options c.are_in_order.result _ c.are_in_order.ensures
    (same_states c.self.inside.server.terms.options _ _ _ _ _ _ _ _
    (c.option.ensures c.self.invariant.history c.self.invariant.server ∙ ap (λ (t : Terms). state_of t.options Us 1) (sym c.self.invariant.server.terms))
    (c.option-2.ensures c.self.invariant.history c.self.invariant.server ∙ ap (λ (t : Terms). state_of t.options Us 3) (sym c.self.invariant.server.terms))
    (c.option-3.ensures c.self.invariant.history c.self.invariant.server ∙ ap (λ (t : Terms). state_of t.options Us 31) (sym c.self.invariant.server.terms))
    (c.option-4.ensures c.self.invariant.history c.self.invariant.server ∙ ap (λ (t : Terms). state_of t.options Us 34) (sym c.self.invariant.server.terms))
    (c.option-5.ensures c.self.invariant.history c.self.invariant.server ∙ ap (λ (t : Terms). state_of t.options Them 1) (sym c.self.invariant.server.terms))
    (c.option-6.ensures c.self.invariant.history c.self.invariant.server ∙ ap (λ (t : Terms). state_of t.options Them 3) (sym c.self.invariant.server.terms))
    (c.option-7.ensures c.self.invariant.history c.self.invariant.server ∙ ap (λ (t : Terms). state_of t.options Them 31) (sym c.self.invariant.server.terms))
    (c.option-8.ensures c.self.invariant.history c.self.invariant.server ∙ ap (λ (t : Terms). state_of t.options Them 34) (sym c.self.invariant.server.terms))))
