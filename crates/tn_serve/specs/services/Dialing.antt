-- The service to which a session is joined.
use Rattle.std.specs.Prelude.{◌≡◌, ℕ, List, codes, string_bytes}
use Rattle.tn_serve.specs.declared.services.joint.Told.{Told}

-- the text that a user reads if the service was not reached, before the cause
abbrev pub unreached : List ℕ
unreached = codes "the service cannot be reached"

-- the bytes that go to the service at this host and port, which is dialled over this network for this number
-- of seconds
pub record IsToldTo {H : Type 0} (network : H) (name : List ℕ) (number seconds : ℕ) (told : Told H) : Type 0 where
  pub rt : told.rt ≡ network
  pub host : string_bytes told.joint.value.host ≡ name
  pub port : told.joint.value.port ≡ number
  pub patience : told.joint.value.patience ≡ seconds
