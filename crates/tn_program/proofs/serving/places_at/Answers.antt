use Rattle.std.proofs.Common.{◌≡◌, ◌+◌, ◌∙◌, None, ap, map, string_bytes, subst, sym, take, vec_items}
use Rattle.tn_program.proofs.Places.{place_more}
use Rattle.tn_program.specs.Settings.{places_at}
use Rattle.tn_serve.specs.Causes.{place_at}
use Rattle.tn_program.proofs.serving.places_at.Goals as goal

pub loop-host-preserved : goal.loop-host-preserved
loop-host-preserved c =
    let i = c.loop-host.host-index in
    subst (λ ps. map place_at ps ≡ places_at (map string_bytes (take (i + 1) c.args.hosts.now)) c.args.port None) (sym c.in_ok-push.ensures.items)
    (place_more string_bytes (vec_items c.loop-host.places) c.args.hosts.now i c.host-item.result c.args.port _ c.loop-host-test.true
    (c.as_str.ensures.value ∙ ap string_bytes c.host-item.is) c.loop-host.invariant)
