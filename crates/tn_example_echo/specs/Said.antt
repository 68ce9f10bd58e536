-- The bytes that an end sends, by the definitions of what is sent in a history.
use Rattle.std.specs.Prelude.{◌≡◌, ℕ, List, ◌∷◌, ◌++◌, length, min}
use Rattle.tn_nvt.specs.{Spelling.spells, declared.items.Item.Item}
use Rattle.tn_server.specs.{Calls.{End, LeadsTo}, Events.{History, next, took, wrote, pulled}, Lines.waiting}
use Rattle.tn_server.specs.{Screen.queue, Replies.items_said}
use Rattle.tn_discipline.specs.declared.reads.Entry.{Entry, TheVariants.Text}

-- a history leads to this end in which this was sent more
pub record Later (h : History) (said : List Item) (end : End) : Type 0 where
  pub history : History
  pub leads : LeadsTo history end
  pub says : items_said history ≡ items_said h ++ said

-- The appended bytes are all that the new end has sent since it was the old one, for any history that led to
-- it.
pub record SaysMore (old : End) (before after : List ℕ) (new : End) : Type 0 where
  pub said : List Item
  pub appended : after ≡ before ++ spells said
  pub later : (h : History) → LeadsTo h old → Later h said new

-- after this line was taken, written back and sent, up to 65,536 symbols of the screen with it
abbrev pub echoed : History → List ℕ → History
echoed h line =
    let shown = next (next h took) (wrote line) in
    next shown (pulled (min 65536 (length (queue shown))))

-- If a line waits first, it comes back.
abbrev pub Echoes : End → End → Type 0
Echoes old new =
    (h : History) (line : List ℕ) (others : List Entry) → LeadsTo h old
    → waiting h ≡ Text line ∷ others → LeadsTo (echoed h line) new
