-- The messages that the core of a client's session handled, and what was written and shown.
use Rattle.std.specs.{Prelude.{◌≡◌, ℕ, ◌≤◌, Bool, IsTrue, IsFalse, List, map}, List.FoldsTo}
use Rattle.std.specs.Io.KnownBytes.{Appends}
use Rattle.tn_client.specs.Replies.{items_said}
use Rattle.tn_cores.specs.client.Marks.{Turns, Runs, is_written, no_write_failed, no_show_failed, all_by}
use Rattle.tn_cores.specs.{client.Marks.{all_written, all_whole}, declared.client.machine.Core.Core}
use Rattle.tn_cores.specs.client.{Reaching.{LeadsTo, IsTurn, SendsPrefix, ShowsPrefix}, Run.Run}
use Rattle.tn_cores.specs.declared.client.messages.{ClientMark.ClientMark, Origin.Origin, Told.Told}
use Rattle.tn_cores.specs.streams.{Writing.Tells, Known.KnownWriting}
use Rattle.tn_cores.specs.declared.client.messages.Origin.TheVariants as origin
use Rattle.tn_nvt.specs.Spelling.{spells}
use Rattle.tn_session.specs.{workers.{Mailbox.with_handled, Stops.StopHand}, declared.workers.mail.Mail.Mail}
use Rattle.tn_session.specs.declared.workers.{channels.View.View, mail.Sender.{Sender, TheVariants.Keys}}
use Rattle.tn_session.specs.{Notes.{Noted, NotesAll, no_notes, writes}, Transcripts.{IsStep, total}}
use Rattle.tn_session.specs.{Stops.{IsTold, StandsTold, core_stops}, Turns.lefts_of}

-- in a client's session all that is not from the keys is from the network
abbrev pub origin_of : Sender → Origin
origin_of Keys = origin.Keys
origin_of _ = origin.Net

-- a message of the mailbox, as the core gets it
abbrev pub told_of : Mail → Told
told_of mail = record { from = origin_of mail.from; message = mail.message }

-- messages of the mailbox, as the core gets them
abbrev pub all_told : List Mail → List Told
all_told mails = map told_of mails

-- all that was sent on the network so far
abbrev pub says : Run → List ℕ
says c = spells (items_said c.sent)

-- nothing has any effect any more
abbrev pub is_over : Run → Bool
is_over c = c.progress.over

-- the write to the network did not fail
abbrev pub is_marked_written : Told × ClientMark → Bool
is_marked_written m = is_written m.1

-- one message with its mark: what was written and shown of what it sends and shows, what was noted, and what
-- the writer and the screen report
pub record TurnsTold (old : Core) (told : Told) (writer screen : KnownWriting) (before after : Noted)
    (new : Core)
    : Type 0 where
  pub mark : ClientMark
  pub bytes : List ℕ
  pub text : List ℕ
  pub wrote : Appends writer.before.bytes writer.after.bytes bytes
  pub showed : Appends screen.before.bytes screen.after.bytes text
  pub noted : after ≡ writes before bytes
  pub tells : Tells (no_write_failed mark) writer.before.calls writer.after.calls
  pub tells_shown : Tells (no_show_failed mark) screen.before.calls screen.after.calls
  pub turn : IsTurn mark old told bytes text new

-- Some messages with their marks, from wherever the core may have been: these bytes were written and these
-- shown, the first of those that the run sends and shows, and all of them unless something failed.
pub record ToldAll (old : Core) (messages : List Told) (writer screen : KnownWriting) (new : Core)
    : Type 0 where
  pub marked : List (Told × ClientMark)
  pub whole : map (λ m. m.0) marked ≡ messages
  -- each with what was written after it
  pub steps : List ((Told × ClientMark) × List ℕ)
  pub of_steps : map (λ s. s.0) steps ≡ marked
  pub bytes : List ℕ
  pub all_bytes : bytes ≡ total steps
  pub text : List ℕ
  pub wrote : Appends writer.before.bytes writer.after.bytes bytes
  pub showed : Appends screen.before.bytes screen.after.bytes text
  pub tells : Tells (all_by no_write_failed marked) writer.before.calls writer.after.calls
  pub tells_shown : Tells (all_by no_show_failed marked) screen.before.calls screen.after.calls
  pub leads : (c : Run) → LeadsTo c old →
      (next : Run) × Runs c marked next × LeadsTo next new
      × SendsPrefix c next bytes (all_written marked) × ShowsPrefix c next text (all_whole marked)
      × FoldsTo (IsStep Turns says is_over is_marked_written) c steps next
  pub over : IsFalse (all_whole marked) → IsTrue new.progress.over
  pub stays : IsTrue old.progress.over → IsTrue new.progress.over

-- the actions of the core: the views before and after, the writer to the network and the screen, its notes
-- from its beginning, and the word to stop
pub record CoreHandles (old : Core) (v w : View) (writer screen : KnownWriting) (after : Noted)
    (stop : StopHand)
    (new : Core) : Type 0 where
  pub handled : List Mail
  pub view : w ≡ with_handled v handled
  pub lefts : 2 ≤ lefts_of handled
  pub goes : ToldAll old (all_told handled) writer screen new
  pub noted : NotesAll handled (map (λ s. s.1) goes.steps) no_notes after
  pub told : Bool
  pub word : IsTold told stop
  pub stands : (c : Run) → LeadsTo c old
      → StandsTold Keys all_told (Runs c) (λ r. core_stops r.progress) handled goes.marked
      (core_stops new.progress) told
