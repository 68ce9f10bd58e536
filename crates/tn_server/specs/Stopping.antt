-- The end after a piece of the stream that was refused.
use Rattle.std.specs.Prelude.{◌≡◌, ℕ, List, ◌++◌, length}
use Rattle.tn_nvt.specs.{Spelling.spells, declared.items.Item.Item}
use Rattle.tn_pty.specs.{Terminal.max_waiting, declared.pty.PtyFault.TheVariants.TooFarAhead}
use Rattle.tn_server.specs.{Events.{History, gets}, Lines.waiting, Replies.items_said, Calls.{End, LeadsTo}}
use Rattle.tn_server.specs.declared.faults.ServerFault.{ServerFault, TheVariants.Pty}

-- The whole piece would have led from one history to the other. The first of the piece's items lead to the
-- end, so that entries, half-typed line and mode are theirs; the appended bytes spell a prefix of the replies
-- to all its items. The end got too far behind only if as many entries waited as there may be.
pub record StopsBetween (h whole : History) (fault : ServerFault) (before after : List ℕ)
    (new : End) : Type 0 where
  pub done : List Item
  pub left : List Item
  pub goes_on : whole ≡ gets (gets h done) left
  pub leads : LeadsTo (gets h done) new
  pub said : List Item
  pub unsaid : List Item
  pub appended : after ≡ before ++ spells said
  pub sends : items_said whole ≡ items_said h ++ (said ++ unsaid)
  pub too_far : fault ≡ Pty TooFarAhead → length (waiting (gets h done)) ≡ max_waiting
