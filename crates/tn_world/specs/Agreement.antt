-- The options of both ends agree (RFC 855, RFC 1143).
use Rattle.std.specs.Prelude.{◌≡◌, ◌⊎◌, ℕ}
use Rattle.tn_option.specs.{EnginePair.facing, Options.state_of, declared.q_method.{Side.Side, QState.QState}}
use Rattle.tn_option.specs.declared.q_method.QState.TheVariants.{Yes, No}
use Rattle.tn_world.specs.Worlds.{World}

-- on at both ends, or off at both
abbrev pub IsSameState : QState → QState → Type 0
IsSameState here there = ((here ≡ Yes) × (there ≡ Yes)) ⊎ ((here ≡ No) × (there ≡ No))

-- an option at one side of the server, which the client has at its other side
abbrev pub AgreeOn : World → Side → ℕ → Type 0
AgreeOn w side code =
    IsSameState (state_of w.server.terms.options side code) (state_of w.client.options (facing side) code)

-- ECHO, SUPPRESS-GO-AHEAD, NAWS and LINEMODE, each in both directions
pub record OptionsAgree (w : World) : Type 0 where
  pub echo : (side : Side) → AgreeOn w side 1
  pub suppress_go_ahead : (side : Side) → AgreeOn w side 3
  pub naws : (side : Side) → AgreeOn w side 31
  pub linemode : (side : Side) → AgreeOn w side 34
