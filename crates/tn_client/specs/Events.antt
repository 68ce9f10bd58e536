-- The events at a client end: keys are typed, a new line is entered, items come, the window changes,
-- characters are proposed, and commands are sent.
use Rattle.std.specs.Prelude.{ℕ, Option, List, [], ◌∷◌, ◌++◌}
use Rattle.tn_codes.specs.declared.codes.Func.{Func}
use Rattle.tn_nvt.specs.{Spelling.lf, declared.items.Item.Item}
use Rattle.tn_linemode.specs.Folding.{after_all}
use Rattle.tn_client.specs.declared.commands.UserCommand.{UserCommand}

-- RFC 1123, section 3.3.1: a new line that is entered is the key LF, which is sent as CR LF
pub data Event : Type 0 where
  typed : ℕ → Event
  entered : Event
  got : Item → Event
  resized : ℕ → ℕ → Event
  proposed : Func → Option ℕ → Event
  sent : UserCommand → Event

-- The events since the end was started with a window of this width and height, and with lines of at most this
-- number of bytes with the closing one; the latest at the right.
pub data History : Type 0 where
  begun : ℕ → ℕ → ℕ → History
  next : History → Event → History

-- the items of a history
abbrev pub items : History → List Item
items (begun width height limit) = []
items (next h (got item)) = items h ++ item ∷ []
items (next h _) = items h

-- the keys of a history
abbrev pub keys : History → List ℕ
keys (begun width height limit) = []
keys (next h (typed key)) = keys h ++ key ∷ []
keys (next h entered) = keys h ++ lf ∷ []
keys (next h _) = keys h

-- these items came, one after another
abbrev pub gets : History → List Item → History
gets h more = after_all (λ k item. next k (got item)) h more
