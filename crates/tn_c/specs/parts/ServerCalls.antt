-- The effect of each call of a held server end.
use Rattle.std.specs.Prelude.{◌≡◌, ◌≢◌, ◌↔◌, ◌⊎◌, ◌*◌, ◌<◌, ◌≤◌, ℕ, Bool, IsTrue, IsFalse, List, [], ◌∷◌}
use Rattle.std.specs.Prelude.{◌++◌, length, min, take, drop, Option, Some, None, MatchOption, if◌then◌else◌}
use Rattle.std.specs.Vec.{vec_ptr}
use denote.RawPtr.{Ptr}
use Rattle.tn_codes.specs.{Masks.filled_octets, declared.{codes.Func.Func, masks.Mask.Mask}}
use Rattle.tn_discipline.specs.{Characters.slot, Canon.Canon}
use Rattle.tn_nvt.specs.Feeding as nvt
use Rattle.tn_nvt.specs.{Spelling.spells, Room.LacksRoom}
use Rattle.tn_pty.specs.Terminal.{fitting_count, queue_symbols}
use Rattle.tn_server.specs.{Answering.{Feeds, StopsWithin}, Replies.opening, Steps.LacksRoomFor, Terms.chars}
use Rattle.tn_server.specs.Calls.{End, LeadsTo, call_fault, char_fault_at, mask_fault}
use Rattle.tn_server.specs.Events.{History, Event, begun, took, pulled, wished, char_set, mask_set}
use Rattle.tn_server.specs.declared.openings.Opening.{Opening}
use Rattle.tn_server.specs.{Lines.waiting, Steps.{end_after, end_after_write, end_after_pull, says, sends_mode_now}}
use Rattle.tn_server.specs.declared.{faults.ServerFault.ServerFault, wishes.Editing.Editing}
use Rattle.tn_c.specs.parts.{Bytes.Copies, Changes.IsSeen, Entries.{kind_number, wiped_entry}}
use Rattle.tn_c.specs.parts.{Readings.char_number, Faults.{server_code, server_refusal}}
use Rattle.tn_c.specs.parts.OwnOptions.{Comes, OwnsNone, PutsWord, PutsSub}
use Rattle.tn_c.specs.declared.parts.{codes.Code.Code, owned.Owned.Owned, server.HeldServer.HeldServer}
use Rattle.tn_c.specs.declared.parts.codes.Code.TheVariants as code

-- All that is held is as it was.
pub record Untouched (old new : HeldServer) : Type 0 where
  pub end : new.end ≡ old.end
  pub pending : new.pending.items ≡ old.pending.items
  pub entry : new.entry ≡ old.entry
  pub seen : new.seen ≡ old.seen
  pub owned : new.owned ≡ old.owned

-- The end is as it was, and so is what waits to be sent.
pub record Rests (old new : HeldServer) : Type 0 where
  pub end : new.end ≡ old.end
  pub pending : new.pending.items ≡ old.pending.items

-- A call about owned options: R of them before and after, and all else is as it was.
pub record OnOwned (R : Owned → Owned → Type 0) (before after : HeldServer) : Type 0 where
  pub owned : R before.owned after.owned
  pub rests : Rests before after
  pub entry : after.entry ≡ before.entry
  pub seen : after.seen ≡ before.seen

-- All but what waits to be sent is as it was.
pub record OnlySends (before after : HeldServer) : Type 0 where
  pub end : after.end ≡ before.end
  pub entry : after.entry ≡ before.entry
  pub seen : after.seen ≡ before.seen
  pub owned : after.owned ≡ before.owned

-- The call sends an option message of an owned option.
pub record SayOwnCall (option word : ℕ) (answer : Code) (before after : HeldServer) : Type 0 where
  pub puts : PutsWord before.owned.sieve.options.items option word answer before.pending after.pending
  pub only : OnlySends before after

-- The call sends a subnegotiation of an owned option.
pub record SayOwnSubCall (option : ℕ) (params : List ℕ) (answer : Code) (before after : HeldServer)
    : Type 0 where
  pub puts : PutsSub before.owned.sieve.options.items option params answer before.pending after.pending
  pub only : OnlySends before after

-- A call of the owner, which is this event, and which may be refused for such a cause.
pub record Acts (e : Event) (cause : End → Option ServerFault) (answer : Code) (before after : HeldServer)
    : Type 0 where
  pub step : answer ≡ code.Done → after.end ≡ end_after before.end e
  pub sends : answer ≡ code.Done → after.pending.items ≡ before.pending.items ++ spells (says before.end e)
  pub accepted : answer ≡ code.Done → cause before.end ≡ None
  pub refused : (answer ≡ code.Done) ⊎ (answer ≡ server_refusal (cause before.end))
  pub err : answer ≢ code.Done → Untouched before after
  pub full : answer ≡ code.Memory → LacksRoomFor before.end e before.pending
  pub entry : after.entry ≡ before.entry
  pub seen : after.seen ≡ before.seen
  pub owned : after.owned ≡ before.owned

-- The call requests that one side edit lines.
pub record WishCall (editing : Editing) (old_sent new_sent : Bool) (answer : Code)
    (before after : HeldServer) : Type 0 where
  pub acts : Acts (wished editing) call_fault answer before after
  pub sent : answer ≡ code.Done → new_sent ≡ sends_mode_now before.end editing
  pub unsent : answer ≢ code.Done → new_sent ≡ old_sent

-- the call changes a special character
abbrev pub SetCharCall : Option ℕ → Func → Code → HeldServer → HeldServer → Type 0
SetCharCall value func = Acts (char_set func value) (λ end. char_fault_at end func value)

-- the call asks for a forward mask, or for none
abbrev pub SetMaskCall : Option Mask → Code → HeldServer → HeldServer → Type 0
SetMaskCall mask = Acts (mask_set mask) mask_fault

-- a mask of these octets; those that are left out are zero
pub record SetOctetsCall (octets : List ℕ) (answer : Code) (before after : HeldServer) : Type 0 where
  pub short : length octets ≤ 32 → (mask : Mask) → mask.0 ≡ filled_octets octets
      → SetMaskCall (Some mask) answer before after
  pub long : (answer ≡ code.TooLong) ↔ (32 < length octets)
  pub stays : answer ≡ code.TooLong → after ≡ before

-- The end takes a piece of the client's stream, and its replies are appended.
pub record EndTakes (answer : Code) (old new : End) (before after piece : List ℕ) : Type 0 where
  pub ok : answer ≡ code.Done → Feeds old piece before after new
  pub accepted : answer ≡ code.Done → call_fault old ≡ None
  pub failed : (answer ≡ code.Failed) ↔ IsTrue old.failed
  pub failed_stays : answer ≡ code.Failed → (new ≡ old) × (after ≡ before)
  pub halts : answer ≢ code.Done → answer ≢ code.Failed
      → (f : ServerFault) × (answer ≡ server_code f) × StopsWithin old piece f before after new
  pub err : answer ≢ code.Done → IsTrue new.failed
  pub codes : (answer ≡ code.Done) ⊎ ((answer ≡ code.Memory) ⊎ ((answer ≡ code.Failed)
      ⊎ ((answer ≡ code.TooFarAhead) ⊎ (answer ≡ code.Closed))))
  pub shut : answer ≡ code.Closed → IsTrue old.terminal.closed

-- The call takes a piece of the client's stream: the end gets it without the items of owned options.
pub record FeedCall (piece : List ℕ) (answer : Code) (before after : HeldServer) : Type 0 where
  pub comes : Comes piece answer before.owned after.owned before.end.failed
      (EndTakes answer before.end after.end before.pending.items after.pending.items) (Rests before after)
  pub entry : after.entry ≡ before.entry
  pub seen : after.seen ≡ before.seen

-- the most entries that may wait before a piece that finds room for each entry it makes, and the length of
-- that piece
abbrev pub most_before : ℕ
most_before = 511

-- the most bytes that one call of `feed_some` takes
abbrev pub most_taken : ℕ
most_taken = 512

-- More entries wait than may before such a piece, so no byte was taken, and all stays.
pub record TakesNone (old_taken new_taken : ℕ) (answer : Code) (before after : HeldServer) : Type 0 where
  pub many : (h : History) → LeadsTo h before.end → most_before < length (waiting h)
  pub answers : answer ≡ (if before.end.failed then code.Failed else code.Done)
  pub taken : answer ≡ code.Done → new_taken ≡ 0
  pub untaken : answer ≢ code.Done → new_taken ≡ old_taken
  pub stays : after ≡ before

-- The first bytes were taken, as many as such a piece has.
pub record TakesFirst (bytes : List ℕ) (old_taken new_taken : ℕ) (answer : Code)
    (before after : HeldServer) : Type 0 where
  pub few : (h : History) → LeadsTo h before.end → length (waiting h) ≤ most_before
  pub feeds : FeedCall (take (min (length bytes) most_taken) bytes) answer before after
  pub taken : answer ≡ code.Done → new_taken ≡ min (length bytes) most_taken
  pub untaken : answer ≢ code.Done → new_taken ≡ old_taken

-- the call takes the first bytes of a piece, or none
abbrev pub FeedSomeCall : List ℕ → ℕ → ℕ → Code → HeldServer → HeldServer → Type 0
FeedSomeCall bytes old_taken new_taken answer before after =
    TakesNone old_taken new_taken answer before after
    ⊎ TakesFirst bytes old_taken new_taken answer before after

-- The call takes the first entry that waits.
pub record TakeCall (old_kind new_kind : ℕ) (answer : Code) (before after : HeldServer) : Type 0 where
  pub codes : (answer ≡ code.Done) ⊎ (answer ≡ code.Memory)
  pub step : answer ≡ code.Done → after.end ≡ end_after before.end took
  pub sends : answer ≡ code.Done → after.pending.items ≡ before.pending.items ++ spells (says before.end took)
  pub entry : answer ≡ code.Done → MatchOption after.entry (before.end.terminal.entries ≡ [])
      (λ e. before.end.terminal.entries ≡ e ∷ after.end.terminal.entries)
  pub seen : after.seen ≡ before.seen
  pub owned : after.owned ≡ before.owned
  pub kind : answer ≡ code.Done → new_kind ≡ kind_number after.entry
  pub err : answer ≡ code.Memory → Untouched before after
  pub err_kind : answer ≡ code.Memory → new_kind ≡ old_kind
  pub grows : answer ≡ code.Memory → says before.end took ≢ []
  pub full : answer ≡ code.Memory → LacksRoomFor before.end took before.pending

-- The call writes output of a job.
pub record WriteCall (bytes : List ℕ) (count : ℕ) (before after : HeldServer) : Type 0 where
  pub step : after.end ≡ end_after_write before.end bytes
  pub counts : count ≡ fitting_count before.end.terminal.queue bytes
  pub pending : after.pending.items ≡ before.pending.items
  pub entry : after.entry ≡ before.entry
  pub seen : after.seen ≡ before.seen
  pub owned : after.owned ≡ before.owned

-- The call spells symbols of the screen.
pub record PullCall (max old_count new_count : ℕ) (answer : Code) (before after : HeldServer) : Type 0 where
  pub codes : (answer ≡ code.Done) ⊎ (answer ≡ code.Memory)
  pub step : answer ≡ code.Done → after.end ≡ end_after_pull before.end new_count
  pub sends : answer ≡ code.Done
      → after.pending.items ≡ before.pending.items ++ spells (says before.end (pulled new_count))
  pub counts : answer ≡ code.Done → new_count ≡ min max (length before.end.terminal.queue)
  pub entry : after.entry ≡ before.entry
  pub seen : after.seen ≡ before.seen
  pub owned : after.owned ≡ before.owned
  pub err : answer ≡ code.Memory → Untouched before after
  pub err_count : answer ≡ code.Memory → new_count ≡ old_count
  pub grows : answer ≡ code.Memory → says before.end (pulled max) ≢ []
  pub full : answer ≡ code.Memory
      → LacksRoom before.pending (2 * min max (length before.end.terminal.queue))

-- these bytes were written, as many as found room, and all that waited on the screen then was spelled
pub record SayCall (bytes : List ℕ) (count : ℕ) (answer : Code) (before after : HeldServer) : Type 0 where
  pub middle : HeldServer
  pub symbols : ℕ
  pub writes : WriteCall bytes count before middle
  pub pulls : PullCall queue_symbols 0 symbols answer middle after

-- the place of the bytes that wait to be sent, and their number
pub record GivesPending (at : Ptr) (count : ℕ) (held : HeldServer) : Type 0 where
  pub place : at ≡ vec_ptr held.pending
  pub counts : count ≡ length held.pending.items

-- the first of the bytes that waited to be sent, at most this number, wait no more
pub record SentCall (count : ℕ) (before after : HeldServer) : Type 0 where
  pub stay : after.pending.items ≡ drop count before.pending.items
  pub end : after.end ≡ before.end
  pub entry : after.entry ≡ before.entry
  pub seen : after.seen ≡ before.seen
  pub owned : after.owned ≡ before.owned

-- bytes that waited to be sent were moved to a buffer
pub record ReadCall (old_buf new_buf : List ℕ) (count : ℕ) (before after : HeldServer) : Type 0 where
  pub copies : Copies before.pending.items old_buf new_buf count
  pub stay : after.pending.items ≡ drop count before.pending.items
  pub end : after.end ≡ before.end
  pub entry : after.entry ≡ before.entry
  pub seen : after.seen ≡ before.seen
  pub owned : after.owned ≡ before.owned

-- the text that was taken last was wiped
pub record ForgetCall (before after : HeldServer) : Type 0 where
  pub end : after.end ≡ before.end
  pub pending : after.pending.items ≡ before.pending.items
  pub entry : after.entry ≡ wiped_entry before.entry
  pub seen : after.seen ≡ before.seen
  pub owned : after.owned ≡ before.owned

-- the number is that of a special character of the server
abbrev pub IsServerChar : HeldServer → Func → ℕ → Type 0
IsServerChar server func value =
    (h : History) → LeadsTo h server.end → value ≡ char_number (slot (chars h) func)

-- The server end was just opened so, and its opening messages wait.
pub record IsOpened (o : Opening) (canon : Canon) (held : HeldServer) : Type 0 where
  pub leads : LeadsTo (begun o canon) held.end
  pub reads : nvt.LeadsTo [] [] held.end.decoder
  pub runs : IsFalse held.end.failed
  pub opens : IsFalse held.end.terminal.closed
  pub pending : held.pending.items ≡ spells (opening o)
  pub entry : held.entry ≡ None
  pub seen : (h : History) → LeadsTo h held.end → IsSeen h held.seen
  pub owned : OwnsNone held.owned
