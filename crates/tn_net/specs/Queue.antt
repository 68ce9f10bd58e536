-- The queue of what waits to be sent. Its rule is that of `tn_cores::queue`: what was taken, and then what it holds,
-- is what was put.
use Rattle.std.specs.Prelude.{◌≡◌, ℕ, Bool, true, false, List, Option, Some, None, option_map, [], ◌∷◌, ◌++◌}
use Rattle.std.specs.{Prelude.length, Global.Vec, Io.KnownBytes.Appends, Vec.vec_items}
use Rattle.atomic_table.specs.{Seated.TableId, declared.badge.Badge.Badge}
use Rattle.crossbeam_channel.specs.{Claims.{Pass, no_key}, declared.flavors.array.{Key.Key, Rows.Rows}}
use Rattle.tn_cores.specs.declared.queue.Hand.{Hand}
use Rattle.tn_nvt.specs.Prefixes.{IsPrefixOf}

-- a piece that is put: some bytes, or the end
abbrev pub Piece : Type 0
Piece = Option (Vec ℕ)

-- the pieces that were put or taken, in order
abbrev pub Pieces : Type 0
Pieces = List Piece

-- the view of a pass of the queue
abbrev pub PieceHand : Type 0
PieceHand = Hand Piece

-- a pass of the queue
abbrev pub PiecePass : Type 0
PiecePass = Pass Piece PieceHand

-- the name of a queue's channel: its table, and its key
abbrev pub PieceTable : Type 0
PieceTable = TableId

-- the name of a queue
abbrev pub PieceKey : Type 0
PieceKey = Badge (Key Piece)

-- the name of no queue
abbrev pub no_name : PieceKey
no_name = no_key

-- the channel that they name is this one
abbrev pub IsNamed : {S Q M L A : Type 0} → PieceTable → PieceKey
    → Rows (Badge (Key Piece)) S Q M (Key Piece) L A → Type 0
IsNamed table key c = (c.stamps.shared.table_id ≡ table) × (c.stamps.shared.key ≡ key)

-- a pass that is seated there
abbrev pub IsSeatIn : PieceTable → PieceKey → PiecePass → Type 0
IsSeatIn table key pass = (pass.table_id ≡ table) × (pass.me.0.of ≡ key) × (pass.me.1 ≡ [])

-- the bytes of these pieces
abbrev pub bytes_of : Pieces → List ℕ
bytes_of [] = []
bytes_of (Some piece ∷ pieces) = vec_items piece ++ bytes_of pieces
bytes_of (None ∷ pieces) = bytes_of pieces

-- the pieces after the first end, none if there is no end
abbrev pub behind_end : Pieces → Pieces
behind_end [] = []
behind_end (Some piece ∷ pieces) = behind_end pieces
behind_end (None ∷ pieces) = pieces

-- the end is among these pieces
abbrev pub has_end : Pieces → Bool
has_end [] = false
has_end (Some piece ∷ pieces) = has_end pieces
has_end (None ∷ pieces) = true

-- the bytes of all that was put, if the pass is of the one that puts
abbrev pub put_bytes : PieceHand → Option (List ℕ)
put_bytes v = option_map bytes_of v.put

-- the number of pieces after the end
abbrev pub count_behind : Option Pieces → ℕ
count_behind None = 0
count_behind (Some pieces) = length (behind_end pieces)

-- these pieces were taken
abbrev pub TakesOn : PieceHand → Pieces → PieceHand → Type 0
TakesOn v pieces w = (l : Pieces) → v.taken ≡ Some l → w.taken ≡ Some (l ++ pieces)

-- a writer that held the old bytes holds the new ones: of the bytes of what was taken from one view to the
-- other it was given the first, each once and in their order
abbrev pub WritesTaken : PieceHand → PieceHand → Option (List ℕ) → Option (List ℕ) → Type 0
WritesTaken v w old new =
    (pieces : Pieces) × (written : List ℕ) × TakesOn v pieces w
    × IsPrefixOf written (bytes_of pieces) × Appends old new written

-- `WritesTaken`, and the writer was given all
abbrev pub WritesAllTaken : PieceHand → PieceHand → Option (List ℕ) → Option (List ℕ) → Type 0
WritesAllTaken v w old new =
    (pieces : Pieces) × TakesOn v pieces w × Appends old new (bytes_of pieces)

-- `WritesAllTaken`, of all pieces up to the end, which was taken last
abbrev pub WritesToTheEnd : PieceHand → PieceHand → Option (List ℕ) → Option (List ℕ) → Type 0
WritesToTheEnd v w old new =
    (pieces : Pieces) × TakesOn v (pieces ++ None ∷ []) w × Appends old new (bytes_of pieces)

-- A queue that was new: a log has the first of the bytes that were put, and all of them if the end was sent.
pub record IsSent (put : Option (List ℕ)) (whole : Type 0) (logged : List ℕ) : Type 0 where
  pub first : (bytes : List ℕ) → put ≡ Some bytes → IsPrefixOf logged bytes
  pub all : whole → put ≡ Some logged
