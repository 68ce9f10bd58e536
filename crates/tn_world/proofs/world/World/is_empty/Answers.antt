use Rattle.std.proofs.Common.{ap, sym, subst, ◌∙◌}
use Rattle.tn_discipline.specs.HalfLine.{HalfLine}
use Rattle.tn_server.proofs.lemmas.Ends.{line_is}
use Rattle.tn_world.specs.{Headline.{IsUncounted, IsEmpty}, Worlds.World}
use Rattle.tn_world.proofs.Resting.{empty_where}
use Rattle.tn_world.proofs.world.World.is_empty.Goals as goal

pub returns : goal.returns
returns c =
    let h = c.self.invariant.history in
    let stands = c.self.invariant.server in
    let same = ap (λ (w : World). w.server.terminal.entries) c.self.view_is in (
      λ t. subst (λ (w : World). IsEmpty w) c.self.view_is (record {
        half = ap (λ (l : HalfLine). l.held) (line_is h c.self.inside.server stands) ∙ sym (c.half.ensures h stands)
            ∙ empty_where c.is_empty.result c.half.result.now c.is_empty.ensures c.if-not-is_empty.false;
        held = sym c.half-else-not-is_empty.ensures.value ∙ empty_where c.is_empty-else-not-is_empty.result c.half-else-not-is_empty.result.now
            c.is_empty-else-not-is_empty.ensures c.if-not-is_empty-2.false;
        ahead = sym c.ahead.ensures.value ∙ c.if-ahead-ne0.false;
        counts = subst (λ (w : World). IsUncounted w) (sym c.self.view_is) (c.is_uncounted.ensures.0 c.if-not-is_uncounted.false);
        waiting = same ∙ c.none_waits.ensures.0 t;
      }),
      λ e. c.none_waits.ensures.1 e.waiting,
    )
