-- The effect of each call of a held client end.
use Rattle.std.specs.Prelude.{◌≡◌, ◌≢◌, ◌↔◌, ◌⊎◌, ℕ, Bool, true, IsTrue, false, IsFalse, List, [], ◌++◌, drop}
use Rattle.std.specs.Prelude.{Option, None}
use Rattle.tn_codes.specs.declared.codes.Func.{Func}
use Rattle.tn_discipline.specs.Characters.{slot}
use Rattle.tn_option.specs.Options.{state_of}
use Rattle.tn_client.specs.{Answering.{Feeds, StopsWithin}, Calls.{End, LeadsTo, call_fault, propose_fault}}
use Rattle.tn_client.specs.Steps.{shows_key, LacksMemoryFor, LacksMemoryToEnter, end_after, says}
use Rattle.tn_client.specs.{Steps.LacksRoomFor, Lines.{ahead, count_under, held_bytes}}
use Rattle.tn_client.specs.Events.{History, Event, begun, typed, entered, resized, proposed, sent}
use Rattle.tn_client.specs.{Terms.{chars, mode, options}, declared.commands.UserCommand.UserCommand}
use Rattle.tn_client.specs.declared.faults.ClientFault.{ClientFault}
use Rattle.tn_nvt.specs.Spelling.{lf, spells}
use Rattle.tn_nvt.specs.Feeding as nvt
use Rattle.tn_c.specs.{parts.{Bytes.{Copies, Gives}, Faults.client_refusal}, declared.parts.codes.Code.Code}
use Rattle.tn_c.specs.parts.Readings.{char_number, command_number, side_given, state_number}
use Rattle.tn_c.specs.parts.OwnOptions.{Comes, OwnsNone, PutsWord, PutsSub}
use Rattle.tn_c.specs.declared.parts.{client.HeldClient.HeldClient, owned.Owned.Owned}
use Rattle.tn_c.specs.declared.parts.codes.Code.TheVariants as code

-- All that is held is as it was.
pub record Untouched (old new : HeldClient) : Type 0 where
  pub end : new.end ≡ old.end
  pub pending : new.pending.items ≡ old.pending.items
  pub shown : new.shown.items ≡ old.shown.items
  pub owned : new.owned ≡ old.owned

-- A call of the owner, which is this event, and which may be refused for such a cause.
pub record Acts (e : Event) (cause : End → Option ClientFault) (answer : Code) (before after : HeldClient)
    : Type 0 where
  pub step : answer ≡ code.Done → after.end ≡ end_after before.end e
  pub sends : answer ≡ code.Done → after.pending.items ≡ before.pending.items ++ spells (says before.end e)
  pub accepted : answer ≡ code.Done → cause before.end ≡ None
  pub refused : (answer ≡ code.Done) ⊎ (answer ≡ client_refusal (cause before.end))
  pub err : answer ≢ code.Done → Untouched before after
  pub owned : after.owned ≡ before.owned

-- The call types a key.
pub record KeyCall (key : ℕ) (answer : Code) (before after : HeldClient) : Type 0 where
  pub acts : Acts (typed key) call_fault answer before after
  pub shows : answer ≡ code.Done → after.shown.items ≡ before.shown.items ++ shows_key before.end key
  pub memory : answer ≡ code.Memory → LacksMemoryFor before.end key before.pending before.shown

-- A new line is entered: the key LF, which goes to the server as CR LF.
pub record NewLineCall (answer : Code) (before after : HeldClient) : Type 0 where
  pub acts : Acts entered call_fault answer before after
  pub shows : answer ≡ code.Done → after.shown.items ≡ before.shown.items ++ shows_key before.end lf
  pub memory : answer ≡ code.Memory → LacksMemoryToEnter before.end before.pending before.shown

-- The call takes a new size of the window.
pub record ResizeCall (width height : ℕ) (answer : Code) (before after : HeldClient) : Type 0 where
  pub acts : Acts (resized width height) call_fault answer before after
  pub memory : answer ≡ code.Memory → LacksRoomFor before.end (resized width height) before.pending
  pub shown : after.shown.items ≡ before.shown.items

-- The call proposes a special character.
pub record ProposeCall (value : Option ℕ) (func : Func) (answer : Code) (before after : HeldClient)
    : Type 0 where
  pub acts : Acts (proposed func value) (λ end. propose_fault end func value) answer before after
  pub memory : answer ≡ code.Memory → LacksRoomFor before.end (proposed func value) before.pending
  pub shown : after.shown.items ≡ before.shown.items

-- A command of the user is to be sent, before what is held of a line; nothing is shown.
pub record SendCall (command : UserCommand) (answer : Code) (before after : HeldClient) : Type 0 where
  pub acts : Acts (sent command) call_fault answer before after
  pub memory : answer ≡ code.Memory → LacksRoomFor before.end (sent command) before.pending
  pub shown : after.shown.items ≡ before.shown.items

-- The effect of a call that sends the command with this number, if a user sends one.
pub record SendNumberCall (number : ℕ) (answer : Code) (before after : HeldClient) : Type 0 where
  pub known : (command : UserCommand) → command_number command ≡ number → SendCall command answer before after
  pub unknown : (answer ≡ code.NoCommand) ↔ ((command : UserCommand) → command_number command ≢ number)
  pub stays : answer ≡ code.NoCommand → after ≡ before

-- The end takes a piece of the server's stream: its replies are appended, and so is what it shows.
pub record EndTakes (answer : Code) (old new : End) (before after seen now piece : List ℕ) : Type 0 where
  pub feeds : answer ≡ code.Done → Feeds old piece before after seen now new
  pub accepted : answer ≡ code.Done → call_fault old ≡ None
  pub refused : (answer ≡ code.Done) ⊎ (answer ≡ client_refusal (call_fault old))
  pub memory : answer ≡ code.Memory → StopsWithin old piece before after seen now
  pub err : answer ≢ code.Done → IsTrue new.failed
  pub failed : answer ≡ code.Failed → (new ≡ old) × (after ≡ before) × (now ≡ seen)

-- The end is as it was, and so is what waits to be sent and to be shown.
pub record Rests (old new : HeldClient) : Type 0 where
  pub end : new.end ≡ old.end
  pub pending : new.pending.items ≡ old.pending.items
  pub shown : new.shown.items ≡ old.shown.items

-- the call takes a piece of the server's stream: the end gets it without the items of owned options
abbrev pub FeedCall : List ℕ → Code → HeldClient → HeldClient → Type 0
FeedCall piece answer before after =
    Comes piece answer before.owned after.owned before.end.failed
    (EndTakes answer before.end after.end
    before.pending.items after.pending.items before.shown.items after.shown.items)
    (Rests before after)

-- A call about owned options: R of them before and after, and all else is as it was.
pub record OnOwned (R : Owned → Owned → Type 0) (before after : HeldClient) : Type 0 where
  pub owned : R before.owned after.owned
  pub rests : Rests before after

-- All but what waits to be sent is as it was.
pub record OnlySends (before after : HeldClient) : Type 0 where
  pub end : after.end ≡ before.end
  pub shown : after.shown.items ≡ before.shown.items
  pub owned : after.owned ≡ before.owned

-- The call sends an option message of an owned option.
pub record SayOwnCall (option word : ℕ) (answer : Code) (before after : HeldClient) : Type 0 where
  pub puts : PutsWord before.owned.sieve.options.items option word answer before.pending after.pending
  pub only : OnlySends before after

-- The call sends a subnegotiation of an owned option.
pub record SayOwnSubCall (option : ℕ) (params : List ℕ) (answer : Code) (before after : HeldClient)
    : Type 0 where
  pub puts : PutsSub before.owned.sieve.options.items option params answer before.pending after.pending
  pub only : OnlySends before after

-- bytes that waited to be sent were moved to a buffer
pub record ReadCall (old_buf new_buf : List ℕ) (count : ℕ) (before after : HeldClient) : Type 0 where
  pub copies : Copies before.pending.items old_buf new_buf count
  pub stay : after.pending.items ≡ drop count before.pending.items
  pub end : after.end ≡ before.end
  pub shown : after.shown.items ≡ before.shown.items
  pub owned : after.owned ≡ before.owned

-- bytes that waited to be shown were moved to a buffer
pub record ScreenCall (old_buf new_buf : List ℕ) (count : ℕ) (before after : HeldClient) : Type 0 where
  pub copies : Copies before.shown.items old_buf new_buf count
  pub stay : after.shown.items ≡ drop count before.shown.items
  pub end : after.end ≡ before.end
  pub pending : after.pending.items ≡ before.pending.items
  pub owned : after.owned ≡ before.owned

-- The result of a look at a client end stands in the end, and is that of its history.
pub record GivesHalf (old_buf new_buf : List ℕ) (whole : ℕ) (held : HeldClient) : Type 0 where
  pub value : Gives held.end.line.held old_buf new_buf whole
  pub stands : (h : History) → LeadsTo h held.end → Gives (held_bytes h) old_buf new_buf whole

-- The call gives the two counts of the half-typed line that the server edits.
pub record GivesCounts (trapped plain : ℕ) (held : HeldClient) : Type 0 where
  pub trapped_value : trapped ≡ held.end.trapped
  pub plain_value : plain ≡ held.end.plain
  pub trapped_stands : (h : History) → LeadsTo h held.end → trapped ≡ count_under true h
  pub plain_stands : (h : History) → LeadsTo h held.end → plain ≡ count_under false h

-- The call gives the number of bytes that were sent ahead.
pub record GivesAhead (count : ℕ) (held : HeldClient) : Type 0 where
  pub value : count ≡ held.end.line.ahead
  pub stands : (h : History) → LeadsTo h held.end → count ≡ ahead h

-- The call gives the mask in force.
pub record GivesMode (mask : ℕ) (held : HeldClient) : Type 0 where
  pub value : mask ≡ held.end.mode
  pub stands : (h : History) → LeadsTo h held.end → mask ≡ mode h

-- The call gives the state of a side of an option.
pub record GivesOption (ours : Bool) (option state : ℕ) (held : HeldClient) : Type 0 where
  pub value : state ≡ state_number (state_of held.end.options (side_given ours) option)
  pub stands : (h : History) → LeadsTo h held.end
      → state ≡ state_number (state_of (options h) (side_given ours) option)

-- The number is that of a special character of the client.
pub record IsClientChar (held : HeldClient) (func : Func) (value : ℕ) : Type 0 where
  pub value_is : value ≡ char_number (slot held.end.table func)
  pub stands : (h : History) → LeadsTo h held.end → value ≡ char_number (slot (chars h) func)

-- The client end was just opened, and nothing waits.
pub record IsOpened (width height limit : ℕ) (held : HeldClient) : Type 0 where
  pub leads : LeadsTo (begun width height limit) held.end
  pub reads : nvt.LeadsTo [] [] held.end.decoder
  pub runs : IsFalse held.end.failed
  pub pending : held.pending.items ≡ []
  pub shown : held.shown.items ≡ []
  pub owned : OwnsNone held.owned
