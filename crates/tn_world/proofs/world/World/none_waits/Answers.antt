use Rattle.std.proofs.Common.{ap, sym, ◌∙◌}
use Rattle.std.specs.Prelude.{slice_get}
use Rattle.tn_server.proofs.lemmas.Ends.{waits_are}
use Rattle.tn_world.specs.Worlds.{World}
use Rattle.tn_world.proofs.Resting.{none_waits}
use Rattle.tn_world.proofs.world.World.none_waits.Goals as goal

pub returns : goal.returns
returns c =
    let h = c.self.invariant.history in
    let stands = c.self.invariant.server in
    let none = none_waits c.is_none.result c.self.inside.server.terminal.entries c.waiting.result c.is_none.ensures
    (c.waiting.ensures h stands ∙ ap (λ l. slice_get l 0) (waits_are h c.self.inside.server stands)) in
    let same = ap (λ (w : World). w.server.terminal.entries) c.self.view_is in (
      λ t. sym same ∙ none.0 t,
      λ e. none.1 (same ∙ e),
    )
