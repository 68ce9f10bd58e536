-- The items of the next bytes that are passed on at once.
use Rattle.std.specs.Prelude.{◌≡◌, ◌≢◌, ◌<◌, ◌≤◌, ℕ, List, [], ◌∷◌, ◌++◌, map, take, drop, length, get_or}
use Rattle.std.specs.Prelude.{All}
use Rattle.tn_nvt.specs.{declared.items.Item.Item, Sinks.TakesEach, Spelling.{nul, lf, iac}}
use Rattle.tn_nvt.specs.Machine.{Gathered, Progress, Outside, Inside, StepAdvances, KeepsByte}
use Rattle.tn_nvt.specs.Sinks.{IsPlain, EndsRun, AreSpecial, Part, bytes_of, calls_of, all_of, AreLongest}

-- the bytes begin with a run of this length, and no longer one
pub record HasRun (bytes : List ℕ) (count : ℕ) : Type 0 where
  pub some : 0 < count
  pub within : count ≤ length bytes
  pub plain : All IsPlain (take count bytes)
  pub ends : EndsRun (drop count bytes)

-- a run begins with this byte after a CR
abbrev pub BeginsRun : ℕ → Type 0
BeginsRun byte = (byte ≢ lf) × (byte ≢ nul) × IsPlain byte

-- outside of a subnegotiation, this number of bytes at the front completes these items and leads on
pub record Escapes (bytes : List ℕ) (count : ℕ) (items : List Item) (next : Progress) : Type 0 where
  pub some : 0 < count
  pub within : count ≤ length bytes
  pub special : AreSpecial items
  pub advances : StepAdvances Outside (take count bytes) items next

-- this number of bytes at the front is kept, up to an IAC
pub record KeepsFront (old : Gathered) (bytes : List ℕ) (count : ℕ) (new : Gathered) : Type 0 where
  pub within : count ≤ length bytes
  pub ends : count < length bytes → get_or bytes count 0 ≡ iac
  pub advances : StepAdvances (Inside old) (take count bytes) [] (Inside new)

-- one of the bytes of a subnegotiation needed memory
pub record LacksMemory (old : Gathered) (bytes : List ℕ) : Type 0 where
  pub front : List ℕ
  pub byte : ℕ
  pub back : List ℕ
  pub whole : bytes ≡ front ++ byte ∷ back
  pub middle : Progress
  pub advances : StepAdvances (Inside old) front [] middle
  pub wanted : KeepsByte middle byte

-- a call for each item
abbrev pub singles : List Item → List (List Item)
singles items = map (λ item. item ∷ []) items

-- the sink took the first of these calls, refused one, and never got the others
pub record RefusesEach {S : Type 0} (takes gives_up : S → List Item → S → Type 0) (old : S)
    (calls : List (List Item)) (new : S) : Type 0 where
  pub done : List (List Item)
  pub left : List Item
  pub unseen : List (List Item)
  pub all : calls ≡ done ++ left ∷ unseen
  pub middle : S
  pub taken : TakesEach takes old done middle
  pub given_up : gives_up middle left new

-- the sink took what the first bytes complete, before these last ones
pub record HandsFront {S : Type 0} (takes : S → List Item → S → Type 0) (here : Progress)
    (front last : List ℕ) (before after : S) (next : Progress) : Type 0 where
  pub parts : List Part
  pub bytes : front ≡ bytes_of parts
  pub longest : AreLongest parts last
  pub taken : TakesEach takes before (calls_of parts) after
  pub advances : StepAdvances here front (all_of (calls_of parts)) next

-- this number of the bytes, and at least one
pub record HandsSome {S : Type 0} (takes : S → List Item → S → Type 0) (here : Progress)
    (bytes : List ℕ) (count : ℕ) (before after : S) (next : Progress) : Type 0 where
  pub some : 0 < count
  pub within : count ≤ length bytes
  pub handed : HandsFront takes here (take count bytes) (drop count bytes) before after next

-- the sink refused a call for a prefix of the bytes
pub record StopsFront {S : Type 0} (takes gives_up : S → List Item → S → Type 0) (here : Progress)
    (bytes : List ℕ) (before after : S) : Type 0 where
  pub parts : List Part
  pub back : List ℕ
  pub whole : bytes ≡ bytes_of parts ++ back
  pub longest : AreLongest parts back
  pub refused : RefusesEach takes gives_up before (calls_of parts) after
  pub next : Progress
  pub advances : StepAdvances here (bytes_of parts) (all_of (calls_of parts)) next

-- the sink took what a prefix of the bytes completes, and the byte after that needed memory
pub record WantsMemory {S : Type 0} (takes : S → List Item → S → Type 0) (here : Progress)
    (bytes : List ℕ) (before after : S) : Type 0 where
  pub parts : List Part
  pub byte : ℕ
  pub back : List ℕ
  pub whole : bytes ≡ bytes_of parts ++ byte ∷ back
  pub longest : AreLongest parts (byte ∷ back)
  pub taken : TakesEach takes before (calls_of parts) after
  pub middle : Progress
  pub advances : StepAdvances here (bytes_of parts) (all_of (calls_of parts)) middle
  pub wanted : KeepsByte middle byte
