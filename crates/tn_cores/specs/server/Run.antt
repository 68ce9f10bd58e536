-- The effect of the messages: a fold over those that were handled, over the history of the server end.
use Rattle.std.specs.Prelude.{◌≡◌, ℕ, ◌≤◌, Bool, true, false, ◌&&◌, Option, Some, None, List, [], ◌∷◌, ◌++◌}
use Rattle.std.specs.{Prelude.{length, All}, List.concat}
use Rattle.tn_discipline.specs.{Canon.Canon, declared.reads.Entry.Entry}
use Rattle.tn_jobs.specs.{Jobs.{Jobs, state_at, with_state, is_foreground}, Judging.{judged, echo_asked}}
use Rattle.tn_jobs.specs.declared.verdicts.{After.After, JobState.JobState, Why.Why, Verdict.Verdict}
use Rattle.tn_jobs.specs.declared.verdicts.JobState.TheVariants as job
use Rattle.tn_nvt.specs.declared.items.Item.{Item}
use Rattle.tn_server.specs.{Course.in_parts, Lines.waiting, Screen.queue, declared.openings.Approach.Approach}
use Rattle.tn_server.specs.Events.{History, begun, next, took, pulled, wished, echo_set, gets, items}
use Rattle.tn_server.specs.Events.{opening_settings}
use Rattle.tn_linemode.specs.Prefixes.{IsRead}
use Rattle.tn_cores.specs.server.Counting as counting
use Rattle.tn_cores.specs.declared.{faults.Ended.{Ended, TheVariants.{Done, Fault}}, messages.Message.Message}
use Rattle.tn_cores.specs.declared.{faults.SessionFault.SessionFault, server.messages.Put.Put}
use Rattle.tn_cores.specs.declared.messages.Message.TheVariants.{Piece, HangUp, ReadFailed, Take, Said}
use Rattle.tn_cores.specs.declared.messages.Message.TheVariants.{Refused, Left, Resized, Asked}
use Rattle.tn_cores.specs.declared.server.progress.ServerProgress.{ServerProgress}
use Rattle.tn_cores.specs.declared.faults.SessionFault.TheVariants as fault
use Rattle.tn_cores.specs.declared.server.messages.Put.TheVariants as put

-- The state of a run of the terminal: the history of its server end, with the pieces joined; what was put for
-- the foreground job, as which None is the end of its entries; the jobs; and the progress of the session.
pub record Run : Type 0 where
  pub history : History
  pub stream : List ℕ
  pub puts : List (Option Entry)
  pub jobs : Jobs
  pub progress : ServerProgress

-- all symbols are pulled
abbrev pub flushed_history : History → History
flushed_history h = next h (pulled (length (queue h)))

-- a part of a text is no longer than the queue
abbrev pub IsPart : List ℕ → Type 0
IsPart part = length part ≤ 4096

-- the entries for the foreground job: none, one, or the end of its entries
abbrev pub puts_of : Put → List (Option Entry)
puts_of put.Nothing = []
puts_of (put.Entry entry) = Some entry ∷ []
puts_of put.End = None ∷ []

-- no entry answers the request: the end does, if no more bytes come
abbrev pub end_if : Bool → List (Option Entry)
end_if true = None ∷ []
end_if false = []

-- a request is answered by the first of these entries, or waits
abbrev pub answer : Run → List Entry → Run
answer c [] =
    record c { puts = c.puts ++ end_if c.progress.at_end; progress = counting.after_no_entry c.progress }
answer c (entry ∷ entries) =
    record c { puts = c.puts ++ Some entry ∷ []; progress = counting.after_answer c.progress }

-- the first entry that waits is asked for
abbrev pub ask : Run → Run
ask c = answer (record c { history = next c.history took }) (waiting c.history)

-- if a request waits, it is asked again
abbrev pub ask_if : Bool → Run → Run
ask_if true c = ask c
ask_if false c = c

-- the run after a piece, which completes these items
abbrev pub feed : List ℕ → List Item → Run → Run
feed piece xs c =
    record c {
      history = gets c.history xs;
      stream = c.stream ++ piece;
      progress = counting.after_piece c.progress;
    }

-- no more bytes come: a request that waits is answered by the end
abbrev pub hang_up : Run → Run
hang_up c = record c { puts = c.puts ++ end_if c.progress.asks; progress = counting.after_hang_up c.progress }

-- the run with this end, unless it had one
abbrev pub ends_by : Ended → Run → Run
ends_by e c = record c { progress = counting.after_end e c.progress }

-- nothing has any effect from this message on: a request that waits is answered by the end
abbrev pub halt : Run → Run
halt c = record c { puts = c.puts ++ end_if c.progress.asks; progress = counting.after_halt c.progress }

-- something failed
abbrev pub fail : SessionFault → Run → Run
fail f c = halt (ends_by (Fault f) c)

-- the run after a text was shown in these parts
abbrev pub show : List (List ℕ) → Run → Run
show parts c = record c { history = in_parts c.history parts }

-- the run after all symbols were sent
abbrev pub flush : Run → Run
flush c = record c { history = flushed_history c.history }

-- these are the items that the piece completes in the stream
abbrev pub Reads : Run → List ℕ → List Item → Type 0
Reads c piece xs = IsRead (c.stream ++ piece) (items c.history ++ xs)

-- the flag TOSTOP of the terminal
abbrev pub tostop : Run → Bool
tostop c = (opening_settings c.history).flags.tostop

-- the text is not empty
abbrev pub has_text : List ℕ → Bool
has_text [] = false
has_text (byte ∷ bytes) = true

-- a job that the table does not hold has no verdict
abbrev pub verdict_at : Option JobState → Bool → After → Bool → Option Verdict
verdict_at None has after stops = None
verdict_at (Some state) has after stops = judged state has after stops

-- the verdict on a step of this job
abbrev pub verdict : Run → ℕ → List ℕ → After → Option Verdict
verdict c id text after = verdict_at (state_at c.jobs id) (has_text text) after (tostop c)

-- this job is in the foreground
abbrev pub in_foreground : Run → ℕ → Bool
in_foreground c id = is_foreground (state_at c.jobs id)

-- the echo that a job asks for; only the job in the foreground gets it
abbrev pub echo_by : Bool → After → Option Bool
echo_by true after = echo_asked after
echo_by false after = None

-- the history after the echo was set, if it was asked for
abbrev pub echoed : Option Bool → History → History
echoed None h = h
echoed (Some on) h = next h (echo_set on)

-- keys that are typed from this message on are echoed or not, or as before
abbrev pub turn_echo : Option Bool → Run → Run
turn_echo echo c = record c { history = echoed echo c.history }

-- the foreground job that stops is made foreground again: one stop is counted, and its state stays
abbrev pub stop_job : ℕ → Why → Bool → Run → Run
stop_job id why true c = record c { progress = counting.after_stop c.progress }
stop_job id why false c = record c { jobs = with_state c.jobs id (Some (job.Stopped why)) }

-- the run after this job ended; the end of the foreground job ends the session
abbrev pub end_job : ℕ → Bool → Run → Run
end_job id true c =
    record c { jobs = with_state c.jobs id None; progress = counting.after_end Done c.progress }
end_job id false c = record c { jobs = with_state c.jobs id None }

-- the state of the job from this message on
abbrev pub move : ℕ → JobState → Run → Run
move id job.Foreground c = c
move id job.Background c = c
move id (job.Stopped why) c = stop_job id why (in_foreground c id) c
move id job.Ended c = end_job id (in_foreground c id) c

-- the job has ended
abbrev pub is_end : JobState → Bool
is_end job.Ended = true
is_end job.Foreground = false
is_end job.Background = false
is_end (job.Stopped why) = false

-- the run, halted if this test holds
abbrev pub halt_if : Bool → Run → Run
halt_if true c = halt c
halt_if false c = c

-- the effect of a job's reaction once the echo is as it asked: first the job is moved, then its text is
-- shown; the end of the foreground job ends all
abbrev pub after_said : ℕ → List (List ℕ) → Option Verdict → Run → Run
after_said id parts None c = flush c
after_said id parts (Some v) c =
    halt_if (is_end v.next && in_foreground c id) (flush (show parts (move id v.next c)))

-- the verdict lets the text be written
abbrev pub writes : Option Verdict → Bool
writes None = false
writes (Some v) = v.write

-- the parts of a text that is written; there are none of another
abbrev pub Cuts : Bool → List ℕ → List (List ℕ) → Type 0
Cuts true text parts = (concat parts ≡ text) × All IsPart parts
Cuts false text parts = parts ≡ []

-- the entries that are put once nothing has any effect: a request is answered by the end
abbrev pub idle_puts : Message → List (Option Entry)
idle_puts Take = None ∷ []
idle_puts _ = []

-- a message that comes once nothing has any effect
abbrev pub idle : Message → Run → Run
idle m c = record c { puts = c.puts ++ idle_puts m }

-- a message that has its effect
abbrev pub Acts : Run → Message → Run → Type 0
Acts c (Piece piece) new =
    (xs : List Item) × Reads c piece xs × (new ≡ flush (ask_if c.progress.asks (feed piece xs c)))
Acts c HangUp new = new ≡ flush (hang_up c)
Acts c ReadFailed new = new ≡ flush (hang_up (ends_by (Fault fault.Read) c))
Acts c Take new = new ≡ flush (ask c)
Acts c (Said id text after) new =
    (parts : List (List ℕ)) × Cuts (writes (verdict c id.0 text after)) text parts
    × (new ≡ after_said id.0 parts (verdict c id.0 text after)
    (turn_echo (echo_by (in_foreground c id.0) after) c))
Acts c Refused new = new ≡ halt (flush (ends_by (Fault fault.Memory) c))
Acts c Left new = new ≡ flush c
Acts c (Resized size) new = new ≡ flush c
Acts c (Asked control) new = new ≡ flush c

-- the message has its effect, unless all is over
abbrev pub ActsUnless : Bool → Run → Message → Run → Type 0
ActsUnless true c message new = new ≡ idle message c
ActsUnless false c message new = Acts c message new

-- a message that was done wholly
abbrev pub Handles : Run → Message → Run → Type 0
Handles c message new = ActsUnless c.progress.over c message new

-- the end before the first message
abbrev pub opening : Canon → Approach → History
opening canon approach = flushed_history (next (begun approach.opening canon) (wished approach.editing))

-- the terminal before the first message
abbrev pub start : Canon → Approach → Jobs → Run
start canon approach jobs =
    record {
      history = opening canon approach;
      stream = [];
      puts = [];
      jobs = jobs;
      progress = counting.nothing_yet;
    }
