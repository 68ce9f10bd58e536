-- The items that either end sends, and how it reads a subnegotiation.
use Rattle.std.specs.Prelude.{◌≡◌, ◌≢◌, ℕ, Bool, true, false, not, ◌&&◌, nat_le, Option, Some, None, List, []}
use Rattle.std.specs.Prelude.{◌∷◌, length, if◌then◌else◌}
use Rattle.tn_codes.specs.{PayloadOf.payload_of, Payloads.{option_of, parameters_of}}
use Rattle.tn_codes.specs.declared.{codes.Verb.Verb, payloads.Payload.{Payload, TheVariants.{Mode, Slc}}}
use Rattle.tn_codes.specs.declared.triples.Triple.{Triple}
use Rattle.tn_nvt.specs.{Spelling.max_parameters, declared.items.Item.{Item, TheVariants.{Neg, Sub}}}

-- an option message (RFC 855)
abbrev pub word_items : Option (Verb × ℕ) → List Item
word_items None = []
word_items (Some said) = Neg said.0 said.1 ∷ []

-- a payload, as a subnegotiation of its option
abbrev pub payload_items : Payload → List Item
payload_items payload = Sub (option_of payload) (parameters_of payload) ∷ []

-- a MODE with this mask, if there is one
abbrev pub mode_items : Option ℕ → List Item
mode_items None = []
mode_items (Some mask) = payload_items (Mode mask)

-- an empty list is not sent
abbrev pub list_items : List Triple → List Item
list_items [] = []
list_items (triple ∷ triples) = payload_items (Slc (triple ∷ triples))

-- RFC 855: the payload of a subnegotiation, if its option is on. None of a stream has more parameters
abbrev pub payload_under : Bool → ℕ → List ℕ → Option Payload
payload_under on option params =
    if on && nat_le (length params) max_parameters then payload_of option params else None

-- a list of local characters that is not empty: it has to be kept while it is answered
abbrev pub IsList : Option Payload → Type 0
IsList payload = (triples : List Triple) × (triples ≢ []) × (payload ≡ Some (Slc triples))

-- one of two is so, and not both
abbrev pub differ : Bool → Bool → Bool
differ true b = not b
differ false b = b
