-- The end after a piece of the stream that was refused.
use Rattle.std.specs.Prelude.{◌≡◌, ℕ, List, ◌++◌}
use Rattle.tn_nvt.specs.{Spelling.spells, declared.items.Item.Item}
use Rattle.tn_client.specs.{Events.History, Replies.items_said, Screen.text_shown}

-- The whole piece would have led from one history to the other. The appended bytes spell a prefix of the
-- replies to all its items, and the text that was shown is a prefix of what they all show.
pub record StopsBetween (h whole : History) (before after seen now : List ℕ) : Type 0 where
  pub said : List Item
  pub unsaid : List Item
  pub appended : after ≡ before ++ spells said
  pub sends : items_said whole ≡ items_said h ++ (said ++ unsaid)
  pub text : List ℕ
  pub unshown : List ℕ
  pub displayed : now ≡ seen ++ text
  pub shows : text_shown whole ≡ text_shown h ++ (text ++ unshown)
