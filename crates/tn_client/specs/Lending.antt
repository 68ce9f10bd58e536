-- The items that a client end takes while it is lent to its decoder.
use Rattle.std.specs.Prelude.{◌≡◌, List, ◌∷◌, ◌++◌}
use Rattle.tn_linemode.specs.Prefixes.{AppendsPrefix}
use Rattle.tn_nvt.specs.{Spelling.spells, declared.items.Item.Item}
use Rattle.tn_client.specs.Steps.{says_got, end_after_items, says_items, items_shown, MayWantMemory}
use Rattle.tn_client.specs.declared.taking.Lent.{Lent}

-- one end is lent before and after, with one vector to which it appends
pub record IsSameLoan (old new : Lent) : Type 0 where
  pub end : new.end.ghost_name ≡ old.end.ghost_name
  pub out : new.out.ghost_name ≡ old.out.ghost_name
  pub screen : new.screen.ghost_name ≡ old.screen.ghost_name

-- the end did these items, one after another
pub record TakesItems (old : Lent) (items : List Item) (new : Lent) : Type 0 where
  pub same : IsSameLoan old new
  pub step : new.end.now ≡ end_after_items old.end.now items
  pub said : new.out.now.items ≡ old.out.now.items ++ spells (says_items old.end.now items)
  pub shown : new.screen.now.items ≡ old.screen.now.items ++ items_shown items

-- The first of these items was refused, when a prefix of its reply was appended.
pub record RefusesItems (old : Lent) (items : List Item) (new : Lent) : Type 0 where
  pub same : IsSameLoan old new
  pub item : Item
  pub later : List Item
  pub whole : items ≡ item ∷ later
  pub cut : AppendsPrefix (says_got old.end.now item) old.out.now.items new.out.now.items
  pub shown : new.screen.now.items ≡ old.screen.now.items
  pub grows : MayWantMemory old.end.now item
