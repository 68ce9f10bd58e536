-- The events at a server end: items come and calls are made.
use Rattle.std.specs.Prelude.{ℕ, ◌+◌, ◌%◌, ◌^◌, Bool, Option, List, [], ◌∷◌, ◌++◌}
use Rattle.tn_codes.specs.declared.{codes.{Func.Func, Command.TheVariants.Brk}, masks.Mask.Mask}
use Rattle.tn_discipline.specs.{Canon.Canon, declared.termios.Settings.Settings}
use Rattle.tn_linemode.specs.Folding.{after_all}
use Rattle.tn_nvt.specs.declared.items.Item.{Item, TheVariants.Cmd}
use Rattle.tn_server.specs.declared.{openings.Opening.Opening, wishes.Editing.Editing}

-- an item that came, or a call that was made
pub data Event : Type 0 where
  got : Item → Event
  took : Event
  wrote : List ℕ → Event
  pulled : ℕ → Event
  wished : Editing → Event
  char_set : Func → Option ℕ → Event
  echo_set : Bool → Event
  mask_set : Option Mask → Event

-- the events since the end was opened over a terminal, the latest at the right
pub data History : Type 0 where
  begun : Opening → Canon → History
  next : History → Event → History

-- the settings that the end was started with
abbrev pub opening_settings : History → Settings
opening_settings (begun opening canon) = canon.settings
opening_settings (next h e) = opening_settings h

-- the most bytes of a line, with its closing byte
abbrev pub limit : History → ℕ
limit (begun opening canon) = canon.limit
limit (next h e) = limit h

-- the items of a history
abbrev pub items : History → List Item
items (begun opening canon) = []
items (next h (got item)) = items h ++ item ∷ []
items (next h _) = items h

-- RFC 854: the number of BREAKs after one more item, modulo 2 ^ 32
abbrev pub breaks_after : ℕ → Item → ℕ
breaks_after n (Cmd Brk) = (n + 1) % 2 ^ 32
breaks_after n _ = n

-- the number of BREAKs among the items of a history, modulo 2 ^ 32
abbrev pub breaks : History → ℕ
breaks (begun opening canon) = 0
breaks (next h (got item)) = breaks_after (breaks h) item
breaks (next h _) = breaks h

-- these items came, one after another
abbrev pub gets : History → List Item → History
gets h more = after_all (λ k item. next k (got item)) h more
