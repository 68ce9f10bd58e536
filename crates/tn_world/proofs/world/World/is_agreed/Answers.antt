use Rattle.std.proofs.Common.{sym, subst, ◌∙◌, ◌≡◌}
use Rattle.tn_world.specs.Worlds.{World}
use Rattle.tn_world.proofs.{Resting.{chars_other, chars_same, refuted}, world.World.is_agreed.Goals.then-not-is_linemode_agreed-via-then-not-is_linemode_agreed}
use Rattle.tn_world.proofs.world.World.is_agreed.Goals.{then-not-is_linemode_agreed-via-else-not-is_linemode_agreed+then-not-are_masks_agreed}
use Rattle.tn_world.proofs.world.World.is_agreed.Goals as goal

pub returns-then-is_server_steady : goal.returns-then-is_server_steady
returns-then-is_server_steady c =
    let stands = c.self.invariant.server in
    let same = chars_same c.chars.result c.chars-2.result c.if-ne.ensures in (
      λ t. record {
        linemode = c.is_linemode_agreed.ensures.0 c.if-not-is_linemode_agreed.false;
        mask = c.are_masks_agreed.ensures.0 c.if-not-are_masks_agreed.false;
        chars = subst (λ (w : World). w.server.table ≡ w.client.table) c.self.view_is
            (stands.table ∙ sym (c.chars.ensures c.self.invariant.history stands) ∙ same ∙ c.chars-2.ensures.value);
        server_steady = c.is_server_steady.ensures.0 c.if-is_server_steady.true;
        client_steady = c.is_client_steady.ensures.0 t;
      },
      λ a. c.is_client_steady.ensures.1 a.client_steady,
    )

pub returns-then-not-is_linemode_agreed : goal.returns-then-not-is_linemode_agreed
returns-then-not-is_linemode_agreed c =
    elim c.then-not-is_linemode_agreed.branch [
      | then-not-is_linemode_agreed-via-then-not-is_linemode_agreed w ↦
          refuted c.is_linemode_agreed.result c.is_linemode_agreed.ensures.1 w.if-not-is_linemode_agreed.true (λ a. a.linemode)
      | then-not-is_linemode_agreed-via-else-not-is_linemode_agreed+then-not-are_masks_agreed w ↦
          refuted w.are_masks_agreed.result w.are_masks_agreed.ensures.1 w.if-not-are_masks_agreed.true (λ a. a.mask)
    ]

pub returns-then-ne : goal.returns-then-ne
returns-then-ne c =
    let stands = c.self.invariant.server in
    let server = c.chars.ensures c.self.invariant.history stands ∙ sym stands.table in (
      λ t. absurd (let bad = t in cc),
      λ a. absurd (chars_other c.chars.result c.chars-2.result c.if-ne.ensures (server
          ∙ subst (λ (w : World). w.server.table ≡ w.client.table) (sym c.self.view_is) a.chars ∙ sym c.chars-2.ensures.value)),
    )

pub returns-else-is_server_steady : goal.returns-else-is_server_steady
returns-else-is_server_steady c = (
  λ t. absurd (let bad = sym c.if-is_server_steady.false ∙ t in cc),
  λ a. c.is_server_steady.ensures.1 a.server_steady,
)
