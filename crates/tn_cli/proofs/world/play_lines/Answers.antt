use Rattle.std.proofs.Common.{◌≡◌, ap₂, subst₂}
use Rattle.tn_server.specs.declared.openings.Opening.TheVariants.{Keys}
use Rattle.tn_world.specs.Opened.{IsOpened}
use Rattle.tn_cli.specs.Typing.{standard}
use Rattle.tn_cli.proofs.world.play_lines.Goals as goal

pub play_in-requires : goal.play_in-requires
play_in-requires c =
    let settings : c.standard.result ≡ standard.settings = ap₂ (λ f k. record { flags = f; chars = k }) c.standard.ensures.flags c.standard.ensures.chars in
    subst₂ (λ s n. IsOpened Keys (record { settings = s; limit = n }) 80 24 c.in-Ok.world) settings c.standard-2.ensures c.in-Ok.ensures.opened
