-- The items that a server end takes while it is lent to its decoder.
use Rattle.std.specs.Prelude.{◌≡◌, ℕ, List, ◌∷◌, ◌++◌, map}
use Rattle.tn_linemode.specs.Prefixes.{AppendsPrefix}
use Rattle.tn_nvt.specs.{Spelling.spells, declared.items.Item.{Item, TheVariants.Byte}}
use Rattle.tn_server.specs.{Calls.End, Steps.{IsShut, IsRefusedFor, end_after_items, says_item, says_items}}
use Rattle.tn_server.specs.declared.{faults.ServerFault.ServerFault, taking.Lent.Lent}

-- One of these bytes was refused, after those before it were done.
pub record RefusesByte (old : End) (bytes : List ℕ) (fault : ServerFault) (new : End) : Type 0 where
  pub done : List ℕ
  pub byte : ℕ
  pub left : List ℕ
  pub whole : bytes ≡ done ++ byte ∷ left
  pub cause : IsRefusedFor (end_after_items old (map Byte done)) (Byte byte) fault
  pub step : IsShut (end_after_items old (map Byte done)) new

-- one end is lent before and after, with one vector to which it appends
pub record IsSameLoan (old new : Lent) : Type 0 where
  pub end : new.end.ghost_name ≡ old.end.ghost_name
  pub out : new.out.ghost_name ≡ old.out.ghost_name

-- the end did these items, one after another
pub record TakesItems (old : Lent) (items : List Item) (new : Lent) : Type 0 where
  pub same : IsSameLoan old new
  pub step : new.end.now ≡ end_after_items old.end.now items
  pub said : new.out.now.items ≡ old.out.now.items ++ spells (says_items old.end.now items)
  pub cause : new.cause ≡ old.cause

-- One of these items was refused, after those before it were done, when a prefix of its reply was appended.
pub record RefusesItems (old : Lent) (items : List Item) (new : Lent) : Type 0 where
  pub same : IsSameLoan old new
  pub done : List Item
  pub item : Item
  pub left : List Item
  pub whole : items ≡ done ++ item ∷ left
  pub cut : AppendsPrefix (says_item (end_after_items old.end.now done) item)
      (old.out.now.items ++ spells (says_items old.end.now done)) new.out.now.items
  pub cause : IsRefusedFor (end_after_items old.end.now done) item new.cause
  pub step : IsShut (end_after_items old.end.now done) new.end.now
