-- The running client session, of what its ports give back, for every schedule.
use Rattle.std.specs.Prelude.{◌≡◌, ◌⊎◌, ℕ, Bool, IsTrue, false, IsFalse, Some, None, List, [], ◌++◌, length}
use Rattle.std.specs.{Prelude.{IfSome, map}, Io.KnownBytes.Appends}
use Rattle.crossbeam_channel.specs.Claims.{Pass, view, IsSeatAt}
use Rattle.crossbeam_channel.specs.Ends.{sends_on, receives_on, ruled_capacity}
use Rattle.tn_client.specs.{Replies.items_said, Screen.text_shown}
use Rattle.tn_cores.specs.client.Bringing.{Input, inputs_brought, keys_in, input_of, all_asked, brought_from}
use Rattle.tn_cores.specs.client.{Bringing.{brought, TakesInOrder}, Ending.IsEndedAt, Marks.all_whole}
use Rattle.tn_cores.specs.client.Marks.{Turns, Runs, no_write_failed, no_show_failed, all_by, all_written}
use Rattle.tn_cores.specs.{client.{Reaching.LeadsTo, Run.{Run, start}}, declared.client.machine.Core.Core}
use Rattle.tn_cores.specs.{declared.client.messages.{ClientMark.ClientMark, Told.Told}, queue.Queue.putter}
use Rattle.tn_cores.specs.{declared.client.progress.ClientProgress.ClientProgress, streams.Beside.TellsFirst}
use Rattle.tn_cores.specs.declared.faults.{Ended.TheVariants.Fault, SessionFault.SessionFault}
use Rattle.tn_cores.specs.streams.{Writing.{Tells, max_writes}, Foretelling.WillFail, Telling.SomeFailed}
use Rattle.tn_cores.specs.streams.Known.{KnownReader, KnownTyping, KnownWriting}
use Rattle.tn_cores.specs.declared.client.messages.Origin.TheVariants as origin
use Rattle.tn_nvt.specs.Spelling.{spells}
use Rattle.tn_session.specs.CoreTurns as turns
use Rattle.tn_session.specs.{CoreTurns.{all_told, origin_of}, Notes.{Note, notes, no_notes}}
use Rattle.tn_session.specs.{Facts.{ClientResult, Window}, Stops.{AreNewStops, IsTold, LeavesAt, core_stops}}
use Rattle.tn_session.specs.Transcripts.{Exchange, ReadsPrefix, Transcribes, all_read, all_wrote, came_by}
use Rattle.tn_session.specs.{Transcripts.exchange_of, declared.client.{CoreEnds.CoreEnds, Mailbox.Mailbox}}
use Rattle.tn_session.specs.declared.{parties.Report.Report, stops.StopTeller.StopTeller}
use Rattle.tn_session.specs.{declared.threads.ReaderSays.ReaderSays, workers.Reader.ReaderSends}
use Rattle.tn_session.specs.{workers.Mailbox.{Interleaves, four, sender}, declared.workers.mail.Mail.Mail}
use Rattle.tn_session.specs.workers.Reading.{max_reads, pieces_in, controls_in}
use Rattle.tn_session.specs.declared.workers.{channels.View.View, mail.Sender.TheVariants.{Net, Keys}}
use Rattle.tn_cores.specs.declared.faults.SessionFault.TheVariants as fault

-- the view of the one that handles, in a session of two senders; no thread sends as Desk or Back
abbrev pub core_view : List Mail → View
core_view h = record { handled = Some h; net = None; desk = Some []; back = Some []; keys = None }

-- nothing was sent or handled, and the mailbox holds 64 messages
pub record IsReadyForTwo (m : Mailbox) : Type 0 where
  pub one_mailbox : receives_on m.ends.from ≡ sends_on m.ends.to
  pub mails : ruled_capacity (sends_on m.ends.to) ≡ 64
  pub net_to : sends_on m.net.to ≡ sends_on m.ends.to
  pub keys_to : sends_on m.keys.to ≡ sends_on m.ends.to
  pub pass : IsSeatAt (sends_on m.ends.to) m.pass
  pub net : IsSeatAt (sends_on m.ends.to) m.net.pass
  pub keys : IsSeatAt (sends_on m.ends.to) m.keys.pass
  pub pass_is : view m.pass ≡ core_view []
  pub net_is : view m.net.pass ≡ sender Net []
  pub keys_is : view m.keys.pass ≡ sender Keys []

-- The core has handled nothing and told no thread to stop, and two threads promise this: they send to its
-- mailbox as Net and as Keys, and only Keys may be asked to stop.
pub record StandsBeside {N K : Type 0} (ends : CoreEnds) (pass : Pass Mail View) (teller : StopTeller)
    (net : ReaderSays N) (keys : ReaderSays K) : Type 0 where
  pub one_mailbox : receives_on ends.from ≡ sends_on ends.to
  pub pass_at : IsSeatAt (sends_on ends.to) pass
  pub pass_is : view pass ≡ core_view []
  pub net_to : sends_on net.to.value ≡ sends_on ends.to
  pub net_who : net.who ≡ Net
  pub net_job : net.job ≡ None
  pub net_stays : net.stops.value ≡ None
  pub keys_to : sends_on keys.to.value ≡ sends_on ends.to
  pub keys_who : keys.who ≡ Keys
  pub keys_job : keys.job ≡ None
  pub keys_stop : IfSome keys.stops.value (λ seat. AreNewStops teller seat)
  pub teller_at : IsSeatAt (sends_on teller.to) teller.pass
  pub teller_is : view teller.pass ≡ putter []

-- whatever the lists are: they are those of the new passes too, and what was handled begins an interleaving
-- of what was sent
abbrev pub AreTwoSettled : View → View → View → View → View → View → Type 0
AreTwoSettled pass net keys net' keys' core' =
    (h a d : List Mail) → pass ≡ core_view h → net ≡ sender Net a → keys ≡ sender Keys d
    → (net' ≡ sender Net a) × (keys' ≡ sender Keys d) × (core' ≡ core_view h)
    × ((items : List Mail) × Interleaves (h ++ items) (four a [] [] d))

-- the report of a client's session with this progress
abbrev pub client_report : ClientProgress → Report
client_report p = record { ended = p.ended; pieces = p.pieces; entries = 0; stops = 0 }

-- the bytes that a message brings from the network, a message with its mark, and what the client has sent
-- after it
abbrev pub brought_by : Mail → List ℕ
brought_by x = brought_from origin.Net (origin_of x.from) x.message

-- the bytes that a message brings from the network
abbrev pub brings : Told × ClientMark → List ℕ
brings m = brought_from origin.Net m.0.from m.0.message

-- all that the client sent on the network so far
abbrev pub says : Run → List ℕ
says c = turns.says c

-- The record of a client's session: what Keys and Net sent, in the order that these passes know, and what the
-- core handled, wrote and showed.
pub record RunningClient (window : Window) (keys : KnownTyping) (net : KnownReader)
    (writer screen : KnownWriting)
    (result : ClientResult) : Type 0 where
  -- the messages that each sent, and those that were handled
  pub from_keys : List Mail
  pub from_net : List Mail
  pub handled : List Mail
  pub keys_is : result.keys ≡ sender Keys from_keys
  pub net_is : result.net ≡ sender Net from_net
  pub core_is : result.core.handled ≡ Some handled
  -- the messages that were handled are an interleaving of all that were sent
  pub woven : Interleaves handled (four from_net [] [] from_keys)
  -- the pieces are prefixes of what the readers gave
  pub stopped : Bool
  pub typed : ReaderSends Keys None stopped keys.reader result.keys
  pub read : ReaderSends Net None false net result.net
  -- the run of the messages with their marks
  pub marked : List (Told × ClientMark)
  pub messages : map (λ m. m.0) marked ≡ all_told handled
  pub run : Run
  pub runs : Runs (start window.width window.height window.limit) marked run
  -- when the keys' thread left, it had been asked to stop if by then nothing had any effect any more, or
  -- nothing more came from the network, and else not; only if asked it left after a piece
  pub keys_left : LeavesAt Keys all_told (Runs (start window.width window.height window.limit)) handled marked
  pub told : IsTold (core_stops keys_left.by_then.progress) result.told
  pub stopped_for : IsTrue stopped → IsTrue (core_stops keys_left.by_then.progress)
  -- the keys and commands that were typed, and the bytes from the network whose items came, are the first of
  -- those that these messages bring
  pub in_order : TakesInOrder (all_told handled) run
  -- the bytes written, of those that the core sent up to the Left of Keys
  pub written : List ℕ
  pub unwritten : List ℕ
  pub appended : Appends writer.before.bytes writer.after.bytes written
  pub tells : Tells (all_by no_write_failed marked) writer.before.calls writer.after.calls
  pub sends : spells (items_said run.sent) ≡ written ++ unwritten
  pub all_sent : IsTrue (all_written marked) → unwritten ≡ []
  pub sent_whole : IsFalse run.progress.over → unwritten ≡ []
  -- ITS TRANSCRIPT: what it read is what the reader gave and Net sent on, and what it wrote is all that was
  -- written
  pub transcript : List Exchange
  pub was_read : ReadsPrefix net.bytes (all_read transcript)
  pub came : all_read transcript ≡ came_by result.net.net
  pub was_written : all_wrote transcript ≡ written
  -- a step for each message, as the core noted it when it did it; it wrote nothing before the first
  pub steps : List Note
  pub noted : notes result.noted ≡ notes no_notes ++ steps
  pub took : map (λ n. n.took) steps ≡ map (λ x. Some x) handled
  pub as_noted : transcript ≡ map (exchange_of brought_by) steps
  pub transcribed : Transcribes Turns brings says (start window.width window.height window.limit) marked run
      written transcript
  -- the keys that the session read from the user
  pub keys_read : List ℕ
  pub keys_were_read : ReadsPrefix keys.reader.bytes keys_read
  pub keys_are : keys_read ≡ brought origin.Keys (all_told handled)
  -- with the requests between them: what stands among the pieces, the first of what the reader reports
  pub inputs : List Input
  pub inputs_are : inputs ≡ inputs_brought (all_told handled)
  pub keys_among : keys_in inputs ≡ keys_read
  pub asked_among : all_asked inputs ≡ map input_of (controls_in typed.0)
  pub were_asked : TellsFirst keys.controls (controls_in typed.0)
  -- the bytes that were shown, of those that it shows
  pub shown : List ℕ
  pub unshown : List ℕ
  pub displayed : Appends screen.before.bytes screen.after.bytes shown
  pub tells_shown : Tells (all_by no_show_failed marked) screen.before.calls screen.after.calls
  pub shows : text_shown run.history ≡ shown ++ unshown
  pub all_shown : IsTrue (all_whole marked) → unshown ≡ []
  -- the report
  pub report_is : result.report ≡ client_report run.progress
  -- a fault is reported only if its cause was there
  pub caused : (f : SessionFault) → result.report.ended ≡ Fault f
      → IsEndedAt (start window.width window.height window.limit) marked (Fault f)
  -- the fault of reading only if a read failed, or after as many as are made
  pub read_failed : result.report.ended ≡ Fault fault.Read
      → WillFail max_reads (length (pieces_in typed.0)) keys.reader.failures
      ⊎ WillFail max_reads (length (pieces_in read.0)) net.failures
  -- the fault of writing is reported only if a write failed, to the network or to the screen
  pub write_failed : result.report.ended ≡ Fault fault.Write
      → SomeFailed max_writes writer.before.calls writer.after.calls
      ⊎ SomeFailed max_writes screen.before.calls screen.after.calls

-- wherever the core is at first
abbrev pub IsClientRun : Core → KnownTyping → KnownReader → KnownWriting → KnownWriting → ClientResult
    → Type 0
IsClientRun core keys net writer screen result =
    (window : Window) → LeadsTo (start window.width window.height window.limit) core
    → RunningClient window keys net writer screen result
