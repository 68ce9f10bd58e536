-- The payloads that the parameters of NAWS (RFC 1073) and of LINEMODE (RFC 1184, section 2) encode, and when
-- they encode none.
use Rattle.std.specs.Prelude.{◌≡◌, ◌≢◌, ℕ, ◌<◌, ◌≤◌, ◌%◌, ◌^◌, List, [], ◌∷◌, ◌++◌, ◌⊎◌, length, take, drop}
use Rattle.std.specs.{Prelude.{flat_map, Result, Ok, Err}, Int.{w16, to_be_bytes, from_be_bytes}}
use Rattle.tn_codes.specs.{declared.codes.Verb.Verb, Codes.verb_code, OptionCodes.{naws, linemode}}
use Rattle.tn_codes.specs.declared.{codes.Verb.TheVariants.{Will, Wont, DoIt, DontIt}, triples.Triple.Triple}
use Rattle.tn_codes.specs.declared.payloads.Payload.{Payload, TheVariants.{Naws, Mode, ForwardOn, ForwardOff}}
use Rattle.tn_codes.specs.declared.payloads.Payload.TheVariants.{ForwardYes, ForwardNo, Slc}
use Rattle.tn_codes.specs.{declared.payloads.PayloadFault.PayloadFault, Masks.{filled_octets, trimmed_octets}}
use Rattle.tn_codes.specs.declared.payloads.PayloadFault.TheVariants as fault

-- RFC 1184, section 2: the kinds of LINEMODE subnegotiation
abbrev pub mode : ℕ
mode = 1

-- the code of FORWARDMASK
abbrev pub forwardmask : ℕ
forwardmask = 2

-- the code of SLC
abbrev pub slc : ℕ
slc = 3

-- a triple as it travels
abbrev pub octets_of : Triple → List ℕ
octets_of triple = triple.func ∷ triple.flags ∷ triple.value ∷ []

-- the parameters of this option encode this payload; octets that a mask lacks are zero
abbrev pub Says : ℕ → List ℕ → Payload → Type 0
Says option params (Naws width height) =
    (option ≡ naws) × (length params ≡ 4) × (width ≡ from_be_bytes w16 (take 2 params))
    × (height ≡ from_be_bytes w16 (drop 2 params))
Says option params (Mode mask) = (option ≡ linemode) × (params ≡ mode ∷ mask ∷ [])
Says option params (ForwardOn mask) =
    (option ≡ linemode)
    × ((octets : List ℕ) × (params ≡ verb_code DoIt ∷ forwardmask ∷ octets)
    × (length octets ≤ 32) × (mask.0 ≡ filled_octets octets))
Says option params ForwardOff = (option ≡ linemode) × (params ≡ verb_code DontIt ∷ forwardmask ∷ [])
Says option params ForwardYes = (option ≡ linemode) × (params ≡ verb_code Will ∷ forwardmask ∷ [])
Says option params ForwardNo = (option ≡ linemode) × (params ≡ verb_code Wont ∷ forwardmask ∷ [])
Says option params (Slc triples) = (option ≡ linemode) × (params ≡ slc ∷ flat_map octets_of triples)

-- the option is neither NAWS nor LINEMODE
abbrev pub IsUnknownOption : ℕ → Type 0
IsUnknownOption option = (option ≢ naws) × (option ≢ linemode)

-- a first octet that is none of MODE, SLC and the four verbs, or a verb before another kind than FORWARDMASK
abbrev pub IsUnknownKind : List ℕ → Type 0
IsUnknownKind [] = ⊥
IsUnknownKind (first ∷ []) = (first ≢ mode) × (first ≢ slc) × ((verb : Verb) → verb_code verb ≢ first)
IsUnknownKind (first ∷ second ∷ rest) =
    (first ≢ mode) × (first ≢ slc) × (((verb : Verb) → verb_code verb ≢ first) ⊎ (second ≢ forwardmask))

-- a LINEMODE subnegotiation is of no known kind
abbrev pub IsUnknownSub : ℕ → List ℕ → Type 0
IsUnknownSub option params = (option ≡ linemode) × IsUnknownKind params

-- the most octets that may follow a verb and FORWARDMASK
abbrev pub mask_limit : Verb → ℕ
mask_limit Will = 0
mask_limit Wont = 0
mask_limit DoIt = 32
mask_limit DontIt = 0

-- only a verb, or more octets than may follow FORWARDMASK
abbrev pub HasBadForwardLength : ℕ → List ℕ → Type 0
HasBadForwardLength first [] = (verb : Verb) × (verb_code verb ≡ first)
HasBadForwardLength first (second ∷ octets) =
    (second ≡ forwardmask) × ((verb : Verb) × (verb_code verb ≡ first) × (mask_limit verb < length octets))

-- a LINEMODE subnegotiation has another length than its kind
abbrev pub HasBadLinemodeLength : List ℕ → Type 0
HasBadLinemodeLength [] = Unit {0}
HasBadLinemodeLength (first ∷ rest) =
    ((first ≡ mode) × (length rest ≢ 1))
    ⊎ (((first ≡ slc) × (length rest % 3 ≢ 0)) ⊎ HasBadForwardLength first rest)

-- the parameters have another length than the option, or the kind, has
abbrev pub HasBadLength : ℕ → List ℕ → Type 0
HasBadLength option params =
    ((option ≡ naws) × (length params ≢ 4)) ⊎ ((option ≡ linemode) × HasBadLinemodeLength params)

-- the option whose subnegotiation carries it
abbrev pub option_of : Payload → ℕ
option_of (Naws width height) = naws
option_of (Mode mask) = linemode
option_of (ForwardOn mask) = linemode
option_of ForwardOff = linemode
option_of ForwardYes = linemode
option_of ForwardNo = linemode
option_of (Slc triples) = linemode

-- the parameters that are written; a mask goes without the zero octets at its end
abbrev pub parameters_of : Payload → List ℕ
parameters_of (Naws width height) = to_be_bytes w16 width ++ to_be_bytes w16 height
parameters_of (Mode mask) = mode ∷ mask ∷ []
parameters_of (ForwardOn mask) = verb_code DoIt ∷ forwardmask ∷ trimmed_octets mask.0
parameters_of ForwardOff = verb_code DontIt ∷ forwardmask ∷ []
parameters_of ForwardYes = verb_code Will ∷ forwardmask ∷ []
parameters_of ForwardNo = verb_code Wont ∷ forwardmask ∷ []
parameters_of (Slc triples) = slc ∷ flat_map octets_of triples

-- the payload is one that its type holds: sides of 16 bits, a mask of 32 octets
abbrev pub Fits : Payload → Type 0
Fits (Naws width height) = (width < 2 ^ 16) × (height < 2 ^ 16)
Fits (Mode mask) = Unit {0}
Fits (ForwardOn mask) = length mask.0 ≡ 32
Fits ForwardOff = Unit {0}
Fits ForwardYes = Unit {0}
Fits ForwardNo = Unit {0}
Fits (Slc triples) = Unit {0}

-- the most triples that one subnegotiation holds, whose parameters are 512 at most
abbrev pub max_triples : ℕ
max_triples = 170

-- a list of no more of them
abbrev pub IsShort : Payload → Type 0
IsShort (Naws width height) = Unit {0}
IsShort (Mode mask) = Unit {0}
IsShort (ForwardOn mask) = Unit {0}
IsShort ForwardOff = Unit {0}
IsShort ForwardYes = Unit {0}
IsShort ForwardNo = Unit {0}
IsShort (Slc triples) = length triples ≤ max_triples

-- a list that has triples
abbrev pub TakesMemory : ℕ → List ℕ → Type 0
TakesMemory option params = (triples : List Triple) × (triples ≢ []) × Says option params (Slc triples)

-- the facts about the parameters that each result of a reader shows
abbrev pub Tells : ℕ → List ℕ → Result Payload PayloadFault → Type 0
Tells option params (Ok payload) = Says option params payload
Tells option params (Err fault.UnknownOption) = IsUnknownOption option
Tells option params (Err fault.UnknownSub) = IsUnknownSub option params
Tells option params (Err fault.BadLength) = HasBadLength option params
Tells option params (Err fault.Memory) = TakesMemory option params
