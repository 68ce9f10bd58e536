-- The rule of a channel in which one puts and one takes.
use Rattle.std.specs.Prelude.{◌≡◌, Bool, true, false, List, Option, Some, None, [], ◌∷◌, ◌++◌}
use Rattle.tn_cores.specs.declared.queue.Hand.{Hand}

-- a list with one more entry, if it is known
abbrev pub more : {A : Type 0} → Option (List A) → A → Option (List A)
more None x = None
more (Some l) x = Some (l ++ x ∷ [])

-- the first list that is known
abbrev pub one_of : {A : Type 0} → Option A → Option A → Option A
one_of (Some l) o = Some l
one_of None o = o

-- true is the role of the one that puts, false of the one that takes
abbrev pub slot : {T : Type 0} → Hand T → Bool → Option (List T)
slot v true = v.put
slot v false = v.taken

-- the entries that were taken, and then those that the channel holds, are those that were put
abbrev pub InOrder : {T : Type 0} → List T → (Bool → List T) → Type 0
InOrder items held = held false ++ items ≡ held true

-- the view after one more entry was put
abbrev pub put_more : {T : Type 0} → Hand T → T → Hand T
put_more v x = record v { put = more v.put x }

-- the view after one more entry was taken
abbrev pub taken_more : {T : Type 0} → Hand T → T → Hand T
taken_more v x = record v { taken = more v.taken x }

-- the view of a pass with no role
abbrev pub no_hand : {T : Type 0} → Hand T
no_hand = record { put = None; taken = None }

-- the view of a pass with both roles, before any entry
abbrev pub both_hands : {T : Type 0} → Hand T
both_hands = record { put = Some []; taken = Some [] }

-- the view of two passes that are joined
abbrev pub joined_hands : {T : Type 0} → Hand T → Hand T → Hand T
joined_hands v w = record { put = one_of v.put w.put; taken = one_of v.taken w.taken }

-- the facts that a pass of both roles gets
abbrev pub LeftOver : {T : Type 0} → Hand T → List T → Type 0
LeftOver {T} v items = (p t : List T) → v.put ≡ Some p → v.taken ≡ Some t → t ++ items ≡ p

-- the view of a pass that has put these entries
abbrev pub putter : {T : Type 0} → List T → Hand T
putter l = record { put = Some l; taken = None }

-- the view of a pass that has taken these entries
abbrev pub taker : {T : Type 0} → List T → Hand T
taker l = record { put = None; taken = Some l }
