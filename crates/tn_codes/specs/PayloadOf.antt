-- The grammar of payloads as a function, for definitions that take the payload of a subnegotiation.
use Rattle.std.specs.Prelude.{ℕ, ◌==◌, nat_le, List, [], ◌∷◌, length, Option, Some, None, option_map}
use Rattle.std.specs.{Prelude.if◌then◌else◌, Int.{w16, from_be_bytes}}
use Rattle.tn_codes.specs.declared.{codes.Verb.TheVariants.{Will, Wont, DoIt, DontIt}, triples.Triple.Triple}
use Rattle.tn_codes.specs.declared.payloads.Payload.{Payload, TheVariants.{Naws, Mode, ForwardOn, ForwardOff}}
use Rattle.tn_codes.specs.declared.payloads.Payload.TheVariants.{ForwardYes, ForwardNo, Slc}
use Rattle.tn_codes.specs.{Codes.verb_code, Masks.filled_octets, OptionCodes.{naws, linemode}}
use Rattle.tn_codes.specs.Payloads.{mode, forwardmask, slc}

-- NAWS with these four octets
abbrev pub size_of : List ℕ → Option Payload
size_of (a ∷ b ∷ c ∷ d ∷ []) = Some (Naws (from_be_bytes w16 (a ∷ b ∷ [])) (from_be_bytes w16 (c ∷ d ∷ [])))
size_of params = None

-- MODE with this one octet
abbrev pub mode_of : List ℕ → Option Payload
mode_of (mask ∷ []) = Some (Mode mask)
mode_of params = None

-- the triples of these octets, if they are triples
abbrev pub triples_of : List ℕ → Option (List Triple)
triples_of [] = Some []
triples_of (func ∷ flags ∷ value ∷ rest) =
    option_map (λ triples. record { func = func; flags = flags; value = value } ∷ triples) (triples_of rest)
triples_of octets = None

-- a command with nothing after it
abbrev pub alone : Payload → List ℕ → Option Payload
alone payload [] = Some payload
alone payload (b ∷ bs) = None

-- FORWARDMASK after this verb, with these octets
abbrev pub forward_of : ℕ → List ℕ → Option Payload
forward_of first octets =
    if first == verb_code Will then alone ForwardYes octets
    else (if first == verb_code Wont then alone ForwardNo octets
    else (if first == verb_code DoIt
    then (if nat_le (length octets) 32 then Some (ForwardOn (record { 0 = filled_octets octets })) else None)
    else (if first == verb_code DontIt then alone ForwardOff octets else None)))

-- FORWARDMASK, if the octet after the verb says so
abbrev pub forwardmask_of : ℕ → List ℕ → Option Payload
forwardmask_of first [] = None
forwardmask_of first (second ∷ octets) = if second == forwardmask then forward_of first octets else None

-- the payload of a LINEMODE subnegotiation, by its first octet
abbrev pub linemode_of : List ℕ → Option Payload
linemode_of [] = None
linemode_of (first ∷ rest) =
    if first == mode then mode_of rest
    else (if first == slc then option_map Slc (triples_of rest) else forwardmask_of first rest)

-- the payload that the parameters of this option encode, if they encode one
abbrev pub payload_of : ℕ → List ℕ → Option Payload
payload_of option params =
    if option == naws then size_of params else (if option == linemode then linemode_of params else None)
