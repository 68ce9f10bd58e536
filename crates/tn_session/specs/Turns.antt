-- The messages that were handled, and what was put and written.
use Rattle.std.specs.Prelude.{◌≡◌, ℕ, ◌+◌, ◌≤◌, Bool, IsTrue, IsFalse, Option, List, [], ◌∷◌, ◌++◌, map}
use Rattle.std.specs.{List.FoldsTo, Io.KnownBytes.Appends}
use Rattle.tn_discipline.specs.declared.reads.Entry.{Entry}
use Rattle.tn_nvt.specs.Spelling.{spells}
use Rattle.tn_server.specs.Replies.{items_said}
use Rattle.tn_session.specs.workers.{Mailbox.with_handled, Stops.StopHand, EntryChannel.EntryHand}
use Rattle.tn_session.specs.declared.workers.{channels.View.View, mail.{Mail.Mail, Sender.TheVariants.Back}}
use Rattle.tn_session.specs.{Notes.{Noted, NotesAll, writes}, Stops.{IsTold, StandsTold, term_stops}}
use Rattle.tn_session.specs.Transcripts.{IsStep, total}
use Rattle.tn_cores.specs.{queue.Queue.putter, streams.{Known.KnownWriting, Writing.Tells}}
use Rattle.tn_cores.specs.server.Marks.{Turns, Runs, is_whole, all_whole, no_write_failed, no_writes_failed}
use Rattle.tn_cores.specs.server.{Reaching.{LeadsTo, IsTurn}, Run.{Run, puts_of}, Welcoming.too_far_ahead}
use Rattle.tn_cores.specs.declared.{server.messages.{ServerMark.ServerMark, Put.Put}, faults.Ended.Ended}
use Rattle.tn_cores.specs.declared.{messages.Message.{Message, TheVariants.Left}, server.terminal.Term.Term}

-- all that was sent on the network so far
abbrev pub says : Run → List ℕ
says c = spells (items_said c.history)

-- nothing has any effect any more
abbrev pub is_over : Run → Bool
is_over c = c.progress.over

-- the message was done wholly, and written
abbrev pub is_marked_whole : Message × ServerMark → Bool
is_marked_whole m = is_whole m.1

-- one message with its mark: what was written of what it sends, and noted, and what was put
pub record TurnsMessage (old : Term) (message : Message) (writer : KnownWriting) (before after : Noted)
    (v w : EntryHand) (new : Term) : Type 0 where
  pub mark : ServerMark
  pub bytes : List ℕ
  pub put : Put
  pub last : Put
  pub wrote : Appends writer.before.bytes writer.after.bytes bytes
  pub noted : after ≡ writes before bytes
  pub tells : Tells (no_write_failed mark) writer.before.calls writer.after.calls
  pub turn : IsTurn mark old message bytes put last new
  pub puts : (l : List (Option Entry)) → v ≡ putter l
      → w ≡ putter (l ++ (puts_of put ++ puts_of last))

-- Some messages with their marks, from wherever the terminal may have been: these bytes were written, the
-- first of those that the run sends, and all of them unless something failed.
pub record GoesOn (old : Term) (messages : List Message) (writer : KnownWriting)
    (puts : List (Option Entry)) (new : Term) : Type 0 where
  pub marked : List (Message × ServerMark)
  pub whole : map (λ m. m.0) marked ≡ messages
  -- each with what was written after it
  pub steps : List ((Message × ServerMark) × List ℕ)
  pub of_steps : map (λ s. s.0) steps ≡ marked
  pub bytes : List ℕ
  pub all_bytes : bytes ≡ total steps
  pub wrote : Appends writer.before.bytes writer.after.bytes bytes
  pub tells : Tells (no_writes_failed marked) writer.before.calls writer.after.calls
  pub leads : (c : Run) → LeadsTo c old →
      (next : Run) × Runs c marked next × LeadsTo next new × (next.puts ≡ c.puts ++ puts)
      × (rest : List ℕ)
      × (spells (items_said next.history) ≡ spells (items_said c.history) ++ (bytes ++ rest))
      × (IsTrue (all_whole marked) → rest ≡ [])
      × FoldsTo (IsStep Turns says is_over is_marked_whole) c steps next
  pub over : IsFalse (all_whole marked) → IsTrue new.progress.over
  pub stays : IsTrue old.progress.over → IsTrue new.progress.over
  pub idle : IsTrue old.progress.over → bytes ≡ []

-- 1 for a Left
abbrev pub left_one : Message → ℕ
left_one Left = 1
left_one _ = 0

-- the number of Lefts among these messages
abbrev pub lefts_of : List Mail → ℕ
lefts_of [] = 0
lefts_of (x ∷ xs) = left_one x.message + lefts_of xs

-- these messages without their senders
abbrev pub messages_of : List Mail → List Message
messages_of mails = map (λ x. x.message) mails

-- the terminal did not come to end so because too many entries waited
abbrev pub StaysInReach : Term → Ended → Type 0
StaysInReach old ended =
    (c : Run) → LeadsTo c old → ended ≡ too_far_ahead → c.progress.ended ≡ too_far_ahead

-- the actions of the terminal: the views, the writer and its notes before and after, and the word to stop. It
-- takes ten, since each is seen before and after.
pub record HandlesAll (old : Term) (v w : View) (before_hand after_hand : EntryHand) (writer : KnownWriting)
    (before after : Noted) (stop : StopHand) (new : Term) : Type 0 where
  pub handled : List Mail
  pub puts : List (Option Entry)
  pub view : w ≡ with_handled v handled
  pub hand : (l : List (Option Entry)) → before_hand ≡ putter l → after_hand ≡ putter (l ++ puts)
  pub lefts : 3 ≤ lefts_of handled
  pub goes : GoesOn old (messages_of handled) writer puts new
  pub noted : NotesAll handled (map (λ s. s.1) goes.steps) before after
  pub told : Bool
  pub word : IsTold told stop
  pub stands : (c : Run) → LeadsTo c old
      → StandsTold Back messages_of (Runs c) (λ r. term_stops r.progress) handled goes.marked
      (term_stops new.progress) told
