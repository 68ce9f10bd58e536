-- The first of the keys and control functions that are kept for a session.
use Rattle.std.specs.Prelude.{ℕ, List, ◌∷◌, Option, None, Some}
use Rattle.tn_net.specs.declared.escaping.SessionInput.{SessionInput}
use Rattle.tn_net.specs.declared.escaping.SessionInput.TheVariants as input
use Rattle.tn_cores.specs.declared.streams.control.Control.{Control}

-- the key that is first, if one is
abbrev pub key_at_front : List SessionInput → Option ℕ
key_at_front (input.Key key ∷ inputs) = Some key
key_at_front inputs = None

-- the control function that is first, if one is
abbrev pub control_at_front : List SessionInput → Option Control
control_at_front (input.Control control ∷ inputs) = Some control
control_at_front inputs = None
