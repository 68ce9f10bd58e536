-- A client end from outside: the pieces of its stream, cut anywhere, and the calls between them.
use Rattle.std.specs.Prelude.{◌≡◌, ℕ, List, [], ◌++◌}
use Rattle.tn_nvt.specs.Feeding as nvt
use Rattle.tn_nvt.specs.declared.items.Item.{Item}
use Rattle.tn_linemode.specs.Prefixes.{IsRead}
use Rattle.tn_client.specs.Events.{Event, typed, got, resized, proposed, sent, History, begun, next, items}
use Rattle.tn_client.specs.{Events.{entered, gets}, Calls.{End, LeadsTo}}

-- a course: a start, pieces of the stream, and calls
pub data Course : Type 0 where
  -- with a window of this width and height, and lines of at most this number of bytes
  started : ℕ → ℕ → ℕ → Course
  fed : Course → List ℕ → Course
  called : Course → Event → Course

-- the bytes that came
abbrev pub stream : Course → List ℕ
stream (started width height limit) = []
stream (fed c piece) = stream c ++ piece
stream (called c e) = stream c

-- no item comes by a call
abbrev pub IsCall : Event → Type 0
IsCall (typed key) = Unit {0}
IsCall entered = Unit {0}
IsCall (got item) = ⊥
IsCall (resized width height) = Unit {0}
IsCall (proposed func value) = Unit {0}
IsCall (sent command) = Unit {0}

-- this is the history of the course: a piece brings the items that the longer stream has more
abbrev pub ReadsAs : Course → History → Type 0
ReadsAs (started width height limit) h = h ≡ begun width height limit
ReadsAs (fed c piece) h =
    (old : History) × (more : List Item) × ReadsAs c old
    × IsRead (stream c ++ piece) (items old ++ more) × (h ≡ gets old more)
ReadsAs (called c e) h = (old : History) × ReadsAs c old × IsCall e × (h ≡ next old e)

-- the course leads to this end
pub record CourseLeadsTo (c : Course) (end : End) : Type 0 where
  pub history : History
  pub reads_as : ReadsAs c history
  pub leads : LeadsTo history end
  pub reads : nvt.LeadsTo (stream c) (items history) end.decoder
