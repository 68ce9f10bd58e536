-- The course of a server end, as seen from outside: pieces of the stream, cut anywhere, and the calls of its
-- owner.
use Rattle.std.specs.Prelude.{◌≡◌, List, ℕ, [], ◌∷◌, ◌++◌, length}
use Rattle.tn_discipline.specs.Canon.{Canon}
use Rattle.tn_nvt.specs.Feeding as nvt
use Rattle.tn_nvt.specs.declared.items.Item.{Item}
use Rattle.tn_linemode.specs.Prefixes.{IsRead}
use Rattle.tn_server.specs.Events.{Event, got, wrote, pulled, History, begun, next, items, gets}
use Rattle.tn_server.specs.{Screen.queue, Calls.{End, LeadsTo}, declared.openings.Opening.Opening}

-- a course: a start, pieces of the stream, and calls
pub data Course : Type 0 where
  started : Opening → Canon → Course
  fed : Course → List ℕ → Course
  called : Course → Event → Course

-- the bytes that came
abbrev pub stream : Course → List ℕ
stream (started opening canon) = []
stream (fed course piece) = stream course ++ piece
stream (called course call) = stream course

-- an event that is a call of the owner, and no item
abbrev pub IsCall : Event → Type 0
IsCall (got item) = ⊥
IsCall _ = Unit {0}

-- The course leads to this history: each piece brings the items that it adds to those of
-- the stream before it.
abbrev pub ReadsAs : Course → History → Type 0
ReadsAs (started opening canon) h = h ≡ begun opening canon
ReadsAs (fed course piece) h =
    (old : History) × (more : List Item)
    × ReadsAs course old × IsRead (stream course ++ piece) (items old ++ more) × (h ≡ gets old more)
ReadsAs (called course call) h = (old : History) × ReadsAs course old × IsCall call × (h ≡ next old call)

-- The course leads to the end.
pub record CourseLeadsTo (course : Course) (end : End) : Type 0 where
  pub history : History
  pub reads_as : ReadsAs course history
  pub leads : LeadsTo history end
  pub reads : nvt.LeadsTo (stream course) (items history) end.decoder

-- a text is written in these parts, and after each all symbols that wait are pulled
abbrev pub in_parts : History → List (List ℕ) → History
in_parts h [] = h
in_parts h (part ∷ parts) =
    in_parts (next (next h (wrote part)) (pulled (length (queue (next h (wrote part)))))) parts
