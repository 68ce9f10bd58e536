-- The running session, of what its ports give back, for every schedule.
use Rattle.std.specs.Prelude.{◌≡◌, ◌⊎◌, ℕ, Bool, IsTrue, false, IsFalse, ◌&&◌, Option, Some, None, List, []}
use Rattle.std.specs.{Prelude.{◌∷◌, ◌++◌, length, map}, Io.KnownBytes.{Appends, Consumes, IsAtEnd}}
use Rattle.tn_discipline.specs.declared.reads.Entry.{Entry}
use Rattle.tn_jobs.specs.{Jobs.Jobs, declared.held_jobs.JobId.JobId}
use Rattle.tn_nvt.specs.{Spelling.spells, declared.items.Item.Item, Prefixes.IsPrefixOf}
use Rattle.tn_server.specs.{Events.items, Lines.entries, Replies.items_said}
use Rattle.tn_session.specs.{workers.Acts.JobActs, Facts.{JobFacts, SessionJobs, SessionResult, TermSettings}}
use Rattle.tn_session.specs.workers.{Mailbox.{Interleaves, four, sender}, Reading.{max_reads, pieces_in}}
use Rattle.tn_session.specs.workers.{Reader.ReaderSends, Turning.{Holds, IsQueue, ids_of, jobs_of, queue_of}}
use Rattle.tn_session.specs.{workers.Stepping.AreSteps, Notes.{Noted, NotesWrite, no_notes, noted_of, notes}}
use Rattle.tn_session.specs.{workers.Talk.{IsJob, IsTalk}, Jobs.Numbered, Makers.AreAll, Turns.messages_of}
use Rattle.tn_session.specs.declared.workers.{back.Runner.Runner, mail.Sender.TheVariants.{Net, Desk, Back}}
use Rattle.tn_session.specs.{declared.workers.mail.Mail.Mail, Stops.{IsTold, LeavesAt, term_stops}}
use Rattle.tn_session.specs.Transcripts.{exchange_of, Exchange, ReadsPrefix, Transcribes, all_read, all_wrote}
use Rattle.tn_session.specs.{Transcripts.came_by, declared.{parties.Report.Report, session.Begun.Begun}}
use Rattle.tn_cores.specs.streams.{Writing.{Tells, max_writes}, Foretelling.WillFail, Telling.SomeFailed}
use Rattle.tn_cores.specs.{streams.Known.{KnownReader, KnownWriter, KnownWriting}, server.Ending.IsFaultCause}
use Rattle.tn_cores.specs.{queue.Queue.{putter, taker}, server.Giving.{GivesPrefix, entries_put}}
use Rattle.tn_cores.specs.server.{Reaching.LeadsTo, Hearing.entries_by, Run.{Run, start, opening}}
use Rattle.tn_cores.specs.{Pieces.bytes_in, declared.faults.Ended.{Ended, TheVariants.{HangUp, Fault}}}
use Rattle.tn_cores.specs.server.Marks.{Turns, Runs, run_after_opening, all_whole, no_writes_failed}
use Rattle.tn_cores.specs.declared.{faults.SessionFault.SessionFault, messages.Message.Message}
use Rattle.tn_cores.specs.declared.server.{messages.ServerMark.ServerMark, terminal.Term.Term}
use Rattle.tn_cores.specs.declared.server.progress.ServerProgress.{ServerProgress}
use Rattle.tn_session.specs.Turns as turns
use Rattle.tn_cores.specs.declared.faults.SessionFault.TheVariants as fault
use Rattle.tn_linemode.specs.Prefixes.{IsRead}

-- the report of a session with this progress
abbrev pub report_of : ServerProgress → Report
report_of p = record { ended = p.ended; pieces = p.pieces; entries = p.entries; stops = p.stops }

-- why a session did not run to its report: memory runs out, there is no first job or a thread could not be
-- started, or a channel has no other end
abbrev pub IsRefusal : SessionFault → Type 0
IsRefusal fault.Memory = Unit {0}
IsRefusal fault.Start = Unit {0}
IsRefusal fault.Channel = Unit {0}
IsRefusal fault.Read = ⊥
IsRefusal fault.Write = ⊥
IsRefusal (fault.Server f) = ⊥
IsRefusal (fault.Client f) = ⊥

-- once it has all that it runs on: a thread could not be started, or a channel has no other end; a piece for
-- which no credit was given counts as such a channel
abbrev pub IsOfThreads : SessionFault → Type 0
IsOfThreads f = (f ≡ fault.Start) ⊎ (f ≡ fault.Channel)

-- the opening messages were written, or the first bytes of them, and noted
pub record IsOpening (old : Term) (words : List ℕ) (writer : KnownWriting) (before after : Noted) (new : Term)
    : Type 0 where
  pub written : Bool
  pub wrote : NotesWrite written writer.before.bytes writer.after.bytes words before after
  pub tells : Tells written writer.before.calls writer.after.calls
  pub leads : (c : Run) → LeadsTo c old → LeadsTo (run_after_opening written c) new
  pub over : IsFalse written → IsTrue new.progress.over

-- Points one, two, three, four and six of a session: what the three threads sent, in the order that these
-- passes know, what the terminal handled, put and wrote, and what the foreground job took.
pub record Schedule {J : Type 0} (acts : JobActs J) (jobs : SessionJobs J) (settings : TermSettings)
    (table : Jobs) (reader : KnownReader) (writer : KnownWriting) (result : SessionResult) : Type 0 where
  -- the messages that each sent, and those that were handled
  pub from_net : List Mail
  pub from_desk : List Mail
  pub from_back : List Mail
  pub handled : List Mail
  pub net_is : result.views.net ≡ sender Net from_net
  pub desk_is : result.views.desk ≡ sender Desk from_desk
  pub back_is : result.views.back ≡ sender Back from_back
  pub term_is : result.views.term.handled ≡ Some handled
  -- one: what was handled is an interleaving of all that was sent
  pub woven : Interleaves handled (four from_net from_desk from_back [])
  -- two: the pieces are a prefix of what the reader gave; before a hang-up stand the reader's last words, if
  -- it has any, as a text of the foreground job
  pub read : ReaderSends Net (Some jobs.first) false reader result.views.net
  -- three: the run of the messages with their marks; what was written of what it sends, and what was put
  pub wrote_opening : Bool
  pub marked : List (Message × ServerMark)
  pub messages : map (λ m. m.0) marked ≡ messages_of handled
  pub run : Run
  pub runs : Runs (run_after_opening wrote_opening (start settings.canon settings.approach table)) marked run
  pub written : List ℕ
  pub unwritten : List ℕ
  pub appended : Appends writer.before.bytes writer.after.bytes written
  pub sends : spells (items_said run.history) ≡ written ++ unwritten
  pub all_written : IsTrue (wrote_opening && all_whole marked) → unwritten ≡ []
  pub tells : Tells (wrote_opening && no_writes_failed marked) writer.before.calls writer.after.calls
  pub put_is : result.views.put ≡ putter run.puts
  -- four: what was taken begins what was put, and what the jobs sent is theirs, from where they began
  pub taken : List (Option Entry)
  pub took_is : result.views.took ≡ taker taken
  pub took_first : IsPrefixOf taken run.puts
  pub talked : IsTalk jobs.first (IsJob jobs.job) acts result.views.desk result.views.took
  pub stopped : Bool
  pub stepped : AreSteps (Holds jobs.queue) acts (queue_of jobs.tostop jobs.queue) stopped result.views.back
  -- when Back left, it had been asked to stop if by then nothing had any effect any more, or nothing more
  -- came from the network, and else not; only if asked it stopped
  pub back_left : LeavesAt Back messages_of
      (Runs (run_after_opening wrote_opening (start settings.canon settings.approach table))) handled marked
  pub told : IsTold (term_stops back_left.by_then.progress) result.views.told
  pub stopped_for : IsTrue stopped → IsTrue (term_stops back_left.by_then.progress)
  -- six: the report
  pub report_is : result.report ≡ report_of run.progress

-- A step of its transcript writes the opening messages, or handles a message; the bytes that it brings from
-- the network, and what the server has sent after it.
abbrev pub OpensOrTurns : Run → Option (Message × ServerMark) → Run → Type 0
OpensOrTurns c None new = new ≡ c
OpensOrTurns c (Some m) new = Turns c m new

-- the bytes that a step brings from the network
abbrev pub brings : Option (Message × ServerMark) → List ℕ
brings None = []
brings (Some m) = bytes_in m.0

-- all that the server sent on the network so far
abbrev pub says : Run → List ℕ
says c = turns.says c

-- the bytes that a message brings
abbrev pub brought_by : Mail → List ℕ
brought_by x = bytes_in x.message

-- Step by step as the terminal noted it: what it wrote before it took the first of these mails, and after
-- each; and the run goes by these steps.
pub record IsNoted (first : Run) (marked : List (Message × ServerMark)) (last : Run) (written : List ℕ)
    (handled : List Mail)
    (noted : Noted) (transcript : List Exchange) : Type 0 where
  pub as_noted : transcript ≡ map (exchange_of brought_by) (notes noted)
  pub took : map (λ n. n.took) (notes noted) ≡ None ∷ map (λ x. Some x) handled
  pub transcribed : Transcribes OpensOrTurns brings says first
      (None ∷ map (λ m. Some m) marked) last written transcript

-- wherever the terminal is at first
abbrev pub IsRun : {J : Type 0} → JobActs J → SessionJobs J → Term → List ℕ → KnownReader → KnownWriting
    → SessionResult → Type 0
IsRun acts jobs term words reader writer result =
    (settings : TermSettings) (table : Jobs) → LeadsTo (start settings.canon settings.approach table) term
    → words ≡ spells (items_said (opening settings.canon settings.approach))
    → (s : Schedule acts jobs settings table reader writer result) × (transcript : List Exchange)
    × IsNoted (run_after_opening s.wrote_opening (start settings.canon settings.approach table)) s.marked s.run
    s.written
    s.handled result.noted transcript

-- the jobs were made, and the terminal is started with them
pub record IsBegun {J : Type 0} (fresh : J → Type 0) (settings : TermSettings) (b : Begun J) : Type 0 where
  pub jobs : Jobs
  pub numbered : Numbered jobs b.posts.first (ids_of b.posts.queue.items)
  pub queue : IsQueue fresh b.posts.queue.items
  pub tostop : b.posts.tostop ≡ settings.canon.settings.flags.tostop
  pub job : fresh b.posts.job
  pub at : LeadsTo (start settings.canon settings.approach jobs) b.term
  pub words : b.output.out.items ≡ spells (items_said (opening settings.canon settings.approach))
  pub noted : noted_of b.output.transcript ≡ no_notes

-- from after the opening messages on, whatever these were
abbrev pub RunsOn : {J : Type 0} → JobActs J → SessionJobs J → KnownReader → KnownWriting → Noted → Term
    → SessionResult → Type 0
RunsOn acts jobs reader writer noted term result =
    (began : Term) (words : List ℕ) (first : KnownWriter)
    → IsOpening began words (record { before = first; after = writer.before }) no_notes noted term
    → IsRun acts jobs began words reader (record { before = first; after = writer.after }) result

-- The stream of the run is the first of the bytes that the reader gave, and all of them if a hang-up ended
-- the session; its items are read by the definitions of the stream.
pub record HearsReader (given : Option (List ℕ)) (ended : Ended) (c : Run) : Type 0 where
  pub left : Option (List ℕ)
  pub consumed : Consumes given left c.stream
  pub all : ended ≡ HangUp → IsAtEnd left
  pub read : IsRead c.stream (items c.history)

-- if the reader's bytes are known: what was taken begins the entries that they give, for every schedule, and
-- is all of them if a hang-up ended the session
abbrev pub TakesEntries : TermSettings → Option (List ℕ) → Ended → List (Option Entry) → Type 0
TakesEntries settings given ended taken =
    (bytes : List ℕ) (xs : List Item) → given ≡ Some bytes → IsRead bytes xs
    → IsPrefixOf (entries_put taken) (entries_by settings.canon settings.approach xs)
    × (ended ≡ HangUp → entries_put taken ≡ entries_by settings.canon settings.approach xs)

-- All points together, for the jobs that were made. `to_make` is the number of jobs that the maker reports to
-- come.
pub record RunningSession {J : Type 0} (facts : JobFacts J) (to_make : Option ℕ) (settings : TermSettings)
    (reader : KnownReader) (writer : KnownWriting) (result : SessionResult) : Type 0 where
  pub jobs : Jobs
  pub first : JobId
  pub job : J
  pub queue : List (Runner J)
  -- the foreground job is the first that was made, and those in the background are the next
  pub begun : facts.begins (job ∷ jobs_of queue)
  pub numbered : Numbered jobs first (ids_of queue)
  -- all that were to come were made, up to sixteen
  pub all : AreAll to_make (ids_of queue)
  pub tostop : Bool
  pub by_flag : tostop ≡ settings.canon.settings.flags.tostop
  pub schedule : Schedule facts.acts (record { first = first; job = job; queue = queue; tostop = tostop })
      settings jobs reader writer result
  -- two: the part of the reader's bytes that the run read
  pub heard : HearsReader reader.bytes result.report.ended schedule.run
  -- five: what the foreground job took is a prefix of the run's entries, and all of them if a hang-up ended
  -- the session; and so of those that the reader's bytes give
  pub in_order : GivesPrefix schedule.taken schedule.run.history
  pub all_taken : result.report.ended ≡ HangUp → entries_put schedule.taken ≡ entries schedule.run.history
  pub by_bytes : TakesEntries settings reader.bytes result.report.ended schedule.taken
  pub entries_taken : List Entry
  pub entries_are : entries_taken ≡ entries_put schedule.taken
  -- ITS TRANSCRIPT: what it read is what the reader gave and Net sent on, and what it wrote is all that was
  -- written
  pub transcript : List Exchange
  pub was_read : ReadsPrefix reader.bytes (all_read transcript)
  pub came : all_read transcript ≡ came_by result.views.net.net
  pub was_written : all_wrote transcript ≡ schedule.written
  -- a step for the opening messages, and one for each message, as the terminal noted it when it acted; all
  -- was read if a hang-up ended the session
  pub noted : IsNoted (run_after_opening schedule.wrote_opening (start settings.canon settings.approach jobs))
      schedule.marked schedule.run schedule.written schedule.handled result.noted transcript
  pub heard_whole : result.report.ended ≡ HangUp → schedule.run.stream ≡ all_read transcript
  -- six: a fault is reported only if its cause was there
  pub caused : (f : SessionFault) → result.report.ended ≡ Fault f
      → IsFaultCause schedule.wrote_opening
      (run_after_opening schedule.wrote_opening (start settings.canon settings.approach jobs))
      schedule.marked f
  -- the fault of reading only if a read failed, or after as many as are made
  pub read_failed : result.report.ended ≡ Fault fault.Read
      → WillFail max_reads (length (pieces_in schedule.read.0)) reader.failures
  -- the fault of writing is reported only if a write failed
  pub write_failed : result.report.ended ≡ Fault fault.Write
      → SomeFailed max_writes writer.before.calls writer.after.calls
