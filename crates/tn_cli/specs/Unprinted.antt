-- The parts of a stream that are no item: those that are dropped, and the bytes that are left unread at its
-- end.
use Rattle.std.specs.Prelude.{◌≡◌, ℕ, ◌+◌, ◌<◌, ◌≤◌, min, List, [], ◌∷◌, ◌++◌, length}
use Rattle.tn_codes.specs.{Codes.verb_code, declared.codes.Verb.Verb}
use Rattle.tn_nvt.specs.{declared.items.Item.Item, Spelling.{cr, iac, sb, doubled_bytes}}
use Rattle.tn_nvt.specs.Stream.{Segment, spelled, lone_cr, escaped, unread, cut, Splits, Reading}
use Rattle.tn_cli.specs.declared.unprinted.{Dropped.Dropped, Left.Left, Stand.{Stand, TheVariants.InsideIac}}
use Rattle.tn_cli.specs.declared.unprinted.Stand.TheVariants.{Between, AfterCr, AfterIac, AfterVerb, Inside}
use Rattle.tn_cli.specs.declared.unprinted.{Unprinted.Unprinted, Watch.Watch}
use Rattle.tn_cli.specs.declared.unprinted.Left.TheVariants as left

-- IAC and a byte that is no command is dropped
abbrev pub dropped_escape : Segment → ℕ
dropped_escape (spelled item) = 0
dropped_escape (lone_cr next) = 0
dropped_escape (escaped byte) = 1
dropped_escape (unread bytes) = 0
dropped_escape (cut bytes next) = 0

-- a subnegotiation that is empty, too long or cut off is dropped
abbrev pub dropped_subnegotiation : Segment → ℕ
dropped_subnegotiation (spelled item) = 0
dropped_subnegotiation (lone_cr next) = 0
dropped_subnegotiation (escaped byte) = 0
dropped_subnegotiation (unread bytes) = 1
dropped_subnegotiation (cut bytes next) = 1

-- the sum of a count over segments
abbrev pub total : (Segment → ℕ) → List Segment → ℕ
total count [] = 0
total count (segment ∷ segments) = count segment + total count segments

-- a count that stops at the greatest number of 64 bits
abbrev pub counted : ℕ → ℕ
counted n = min n 18446744073709551615

-- the rest of a stream
abbrev pub IsLeft : Left → List ℕ → Type 0
IsLeft left.Nothing rest = rest ≡ []
IsLeft left.Cr rest = rest ≡ cr ∷ []
IsLeft left.Iac rest = rest ≡ iac ∷ []
IsLeft left.OptionWord rest = (verb : Verb) × (rest ≡ iac ∷ verb_code verb ∷ [])
IsLeft left.Subnegotiation rest = (more : List ℕ) × (rest ≡ iac ∷ sb ∷ more)

-- the parts that are not printed of the stream's one reading
pub record LeavesUnprinted (stream : List ℕ) (unprinted : Unprinted) : Type 0 where
  pub items : List Item
  pub rest : List ℕ
  pub reading : Reading stream items rest
  pub escapes : unprinted.dropped.escapes ≡ counted (total dropped_escape reading.segments)
  pub subnegotiations :
      unprinted.dropped.subnegotiations ≡ counted (total dropped_subnegotiation reading.segments)
  pub left : IsLeft unprinted.left rest

-- this number of bytes, or at least this number if the count is 514, which is too many
abbrev pub IsCount : ℕ → List ℕ → Type 0
IsCount count bytes = (count ≤ length bytes) × (count < 514 → count ≡ length bytes)

-- the rest at which a watch stands
abbrev pub StandsAt : Stand → List ℕ → Type 0
StandsAt Between rest = rest ≡ []
StandsAt AfterCr rest = rest ≡ cr ∷ []
StandsAt AfterIac rest = rest ≡ iac ∷ []
StandsAt AfterVerb rest = (verb : Verb) × (rest ≡ iac ∷ verb_code verb ∷ [])
StandsAt (Inside count) rest =
    (bytes : List ℕ) × IsCount count bytes × (rest ≡ iac ∷ sb ∷ doubled_bytes bytes)
StandsAt (InsideIac count) rest =
    (bytes : List ℕ) × IsCount count bytes × (rest ≡ iac ∷ sb ∷ doubled_bytes bytes ++ iac ∷ [])

-- the segments that a rest and a byte complete, how much of them is dropped, and the state to which the byte
-- leads
pub record Reaches (rest : List ℕ) (byte : ℕ) (dropped : Dropped) (new : Stand) : Type 0 where
  pub segments : List Segment
  pub left : List ℕ
  pub splits : Splits segments left (rest ++ byte ∷ [])
  pub stands : StandsAt new left
  pub escapes : dropped.escapes ≡ total dropped_escape segments
  pub subnegotiations : dropped.subnegotiations ≡ total dropped_subnegotiation segments

-- nothing was dropped
abbrev pub none : Dropped
none = record { escapes = 0; subnegotiations = 0 }

-- a byte leads from a state so from each rest at which a watch is in that state
abbrev pub Leads : Stand → ℕ → Dropped → Stand → Type 0
Leads old byte dropped new = (rest : List ℕ) → StandsAt old rest → Reaches rest byte dropped new

-- this stream was watched
pub record Watches (stream : List ℕ) (watch : Watch) : Type 0 where
  pub segments : List Segment
  pub rest : List ℕ
  pub splits : Splits segments rest stream
  pub stands : StandsAt watch.stand rest
  pub escapes : watch.dropped.escapes ≡ counted (total dropped_escape segments)
  pub subnegotiations :
      watch.dropped.subnegotiations ≡ counted (total dropped_subnegotiation segments)

-- whatever was watched before, these bytes were watched
abbrev pub WatchesOn : Watch → List ℕ → Watch → Type 0
WatchesOn old bytes new = (stream : List ℕ) → Watches stream old → Watches (stream ++ bytes) new
