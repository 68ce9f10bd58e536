-- The core to which a run leads, and what a message adds to it, for any run.
use Rattle.std.specs.Prelude.{◌≡◌, ℕ, ◌<◌, All, Bool, true, IsTrue, false, IsFalse, List, [], ◌++◌}
use Rattle.tn_client.specs.{Calls.End, Events.items, declared.faults.ClientFault.ClientFault}
use Rattle.tn_client.specs.{Replies.items_said, Screen.text_shown, Steps.{end_after_key, says_key, shows_key}}
use Rattle.tn_client.specs.Calls as client
use Rattle.tn_linemode.specs.Folding.{after_all, said_all}
use Rattle.tn_cores.specs.client.{Marks.{Turns, is_written, is_whole}, Refusing.IsRefusalCause}
use Rattle.tn_cores.specs.{client.Run.{Run, Handles, sent_after}, declared.client.machine.Core.Core}
use Rattle.tn_cores.specs.declared.client.messages.{ClientMark.ClientMark, Told.Told}
use Rattle.tn_nvt.specs.Feeding as nvt
use Rattle.tn_nvt.specs.{Spelling.spells, declared.items.Item.Item}

-- the facts that hold while messages have their effect
pub record IsLive (c : Run) (core : Core) : Type 0 where
  pub leads : client.LeadsTo c.history core.end
  pub read : nvt.LeadsTo c.stream (items c.history) core.end.decoder
  pub bytes : All (λ b. b < 256) c.stream
  pub failed : IsFalse core.end.failed
  pub latest : IsFalse c.progress.closed → c.sent ≡ c.history

-- the run leads to this core
pub record LeadsTo (c : Run) (core : Core) : Type 0 where
  pub live : IsFalse core.progress.over → IsLive c core
  pub progress : core.progress ≡ c.progress

-- the end after some keys, one after another, what it sends and what it shows
abbrev pub end_after_keys : End → List ℕ → End
end_after_keys old keys = after_all end_after_key old keys

-- the items that some keys send, one after another
abbrev pub says_keys : End → List ℕ → List Item
says_keys old keys = said_all end_after_key says_key old keys

-- the bytes that some keys show, one after another
abbrev pub shows_keys : End → List ℕ → List ℕ
shows_keys old keys = said_all end_after_key shows_key old keys

-- Some keys were typed.
pub record TypesAll (old : End) (keys before after seen now : List ℕ) (new : End) : Type 0 where
  pub step : new ≡ end_after_keys old keys
  pub said : after ≡ before ++ spells (says_keys old keys)
  pub shown : now ≡ seen ++ shows_keys old keys

-- a prefix of the keys was typed
abbrev pub TypesPrefix : End → List ℕ → List ℕ → List ℕ → List ℕ → List ℕ → End → Type 0
TypesPrefix old keys before after seen now new =
    (front : List ℕ) × (back : List ℕ) × (keys ≡ front ++ back)
    × TypesAll old front before after seen now new

-- a message was done wholly: from any state of the core, the message leads to its new state
pub record DoesWhole (old : Core) (told : Told) (before after seen now : List ℕ) (new : Core) : Type 0 where
  pub said : List Item
  pub text : List ℕ
  pub appended : after ≡ before ++ spells said
  pub displayed : now ≡ seen ++ text
  pub leads : (c : Run) → LeadsTo c old →
      (next : Run) × Handles c told next × LeadsTo next new
      × (next.sent ≡ sent_after c.progress.closed c.sent next.history)
      × (items_said next.history ≡ items_said c.history ++ said)
      × (text_shown next.history ≡ text_shown c.history ++ text)

-- a call of a message was refused: prefixes of what the whole message sends and shows were appended
pub record StopsWithin (old : Core) (told : Told) (before after seen now : List ℕ) (new : Core) : Type 0 where
  pub part : List ℕ
  pub text : List ℕ
  pub appended : after ≡ before ++ part
  pub displayed : now ≡ seen ++ text
  pub leads : (c : Run) → LeadsTo c old →
      (whole : Run) × Handles c told whole × (new.progress ≡ whole.progress)
      × (whole.sent ≡ sent_after c.progress.closed c.sent whole.history)
      × ((rest : List ℕ)
      × (spells (items_said whole.history) ≡ spells (items_said c.history) ++ (part ++ rest)))
      × ((rest : List ℕ) × (text_shown whole.history ≡ text_shown c.history ++ (text ++ rest)))

-- the call was refused for its cause, wherever the core may have been
abbrev pub RefusesFor : Core → Told → ClientFault → Type 0
RefusesFor old told f = (c : Run) → LeadsTo c old → IsRefusalCause c told.from told.message f

-- the part of the appended bytes that goes to the network
abbrev pub sent_bytes : Bool → List ℕ → List ℕ
sent_bytes true bytes = []
sent_bytes false bytes = bytes

-- these bytes are a prefix of what the longer run sends more
abbrev pub SendsPrefix : Run → Run → List ℕ → Bool → Type 0
SendsPrefix c next bytes all =
    (rest : List ℕ) × (spells (items_said next.sent) ≡ spells (items_said c.sent) ++ (bytes ++ rest))
    × (IsTrue all → rest ≡ [])

-- these bytes are a prefix of those that the longer run shows more
abbrev pub ShowsPrefix : Run → Run → List ℕ → Bool → Type 0
ShowsPrefix c next text all =
    (rest : List ℕ) × (text_shown next.history ≡ text_shown c.history ++ (text ++ rest))
    × (IsTrue all → rest ≡ [])

-- One message with its mark, from wherever the core may have been: these bytes were given for the network and
-- these for the screen, the first of those that the run sends and shows,
-- and all of them unless something failed.
pub record IsTurn (mark : ClientMark) (old : Core) (told : Told) (bytes text : List ℕ)
    (new : Core) : Type 0 where
  pub leads : (c : Run) → LeadsTo c old →
      (next : Run) × Turns c (told, mark) next × LeadsTo next new
      × SendsPrefix c next bytes (is_written mark) × ShowsPrefix c next text (is_whole mark)
  pub over : IsFalse (is_whole mark) → IsTrue new.progress.over
  pub stays : IsTrue old.progress.over → IsTrue new.progress.over
  pub idle : IsTrue old.progress.over → (bytes ≡ []) × (text ≡ []) × IsTrue (is_whole mark)
