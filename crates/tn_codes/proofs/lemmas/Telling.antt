-- The relation and the function agree on parameters.
use Rattle.std.proofs.Common.{◌≡◌, ℕ, List, Some}
use Rattle.tn_codes.specs.{declared.payloads.Payload.Payload, Payloads.Says, PayloadOf.payload_of}
use Rattle.tn_codes.proofs.Telling as inner

pub told : (option : ℕ) (params : List ℕ) (payload : Payload) → Says option params payload
    → payload_of option params ≡ Some payload
told = inner.told

pub says : (option : ℕ) (params : List ℕ) (payload : Payload) → payload_of option params ≡ Some payload
    → Says option params payload
says = inner.says
