-- A subnegotiation that is discarded: a prefix of a piece of it adds no item, and the byte after that wants no memory.
use Rattle.std.proofs.Common.{◌≡◌, ℕ, List, [], ◌∷◌, ◌++◌, refl, subst, inr}
use Rattle.tn_nvt.specs.{declared.items.Item.Item, Feeding.{DecoderState, Advances, KeepsParameter, IsLetGo}}
use Rattle.tn_nvt.proofs.LettingGo as inner

pub gives_nothing : (old here : DecoderState) (piece front back : List ℕ) (items : List Item) → piece ≡ front ++ back → IsLetGo old piece
    → Advances old front items here → items ≡ []
gives_nothing old here piece front back items whole g adds = inner.gives_nothing old here front back items (subst (IsLetGo old) whole g) adds

pub keeps_nothing : (old here : DecoderState) (piece front back : List ℕ) (byte : ℕ) (items : List Item) → piece ≡ front ++ byte ∷ back → IsLetGo old piece
    → Advances old front items here → KeepsParameter here byte → ⊥
keeps_nothing old here piece front back byte items whole g adds keeps =
    inner.wants_none old piece [] items 0 g
    (record { front = front; byte = byte; back = back; whole = whole; items = items; appended = refl; here = here; adds = adds; wanted = inr keeps })
