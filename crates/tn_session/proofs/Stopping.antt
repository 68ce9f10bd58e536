-- If a thread is to stop, it is to stop from then on.
use Rattle.std.proofs.Common.{◌≡◌, ℕ, Bool, true, false, ◌||◌, Option, Some, None, List, [], ◌∷◌, refl, sym, ap, ◌∙◌}
use Rattle.tn_cores.specs.client.Counting as core_counting
use Rattle.tn_cores.specs.client.Marks as core_marks
use Rattle.tn_cores.specs.client.Run as core_run
use Rattle.tn_cores.specs.declared.client.messages.ClientMark as core_mark
use Rattle.tn_cores.specs.declared.client.messages.ClientMark.TheVariants as core_is
use Rattle.tn_cores.specs.declared.{client.{messages.{Origin.Origin, Told.Told}, progress.ClientProgress.ClientProgress}, messages.Message.Message}
use Rattle.tn_cores.specs.declared.messages.Message.TheVariants.{Piece, HangUp, ReadFailed, Take, Said, Refused, Left, Resized, Asked}
use Rattle.tn_cores.specs.declared.client.messages.Origin.TheVariants as origin
use Rattle.tn_discipline.specs.declared.reads.Entry.{Entry}
use Rattle.tn_jobs.specs.declared.verdicts.{JobState.JobState, Verdict.Verdict, Why.Why}
use Rattle.tn_jobs.specs.declared.verdicts.JobState.TheVariants as job
use Rattle.tn_server.specs.{Events.{next, took}, Lines.waiting}
use Rattle.tn_session.specs.Stops.{core_stops, term_stops}
use Rattle.tn_cores.specs.server.Marks as term_marks
use Rattle.tn_cores.specs.server.Run as term_run
use Rattle.tn_cores.specs.declared.server.messages.ServerMark as term_mark
use Rattle.tn_cores.specs.declared.server.messages.ServerMark.TheVariants as term_is

by_over : (over at_end : Bool) → over ≡ true → (over || at_end) ≡ true
by_over over at_end e = ap (λ (b : Bool). b || at_end) e

by_end : (over at_end : Bool) → at_end ≡ true → (over || at_end) ≡ true
by_end true at_end e = refl
by_end false at_end e = e

the_end : (over at_end : Bool) → over ≡ false → (over || at_end) ≡ true → at_end ≡ true
the_end over at_end off e = sym (ap (λ (b : Bool). b || at_end) off) ∙ e

-- THE CLIENT'S CORE

message_ends : (from : Origin) (m : Message) (p : ClientProgress) → p.at_end ≡ true → (core_counting.after_message from m p).at_end ≡ true
message_ends origin.Net (Piece q) p on = on
message_ends origin.Net HangUp p on = refl
message_ends origin.Net ReadFailed p on = refl
message_ends origin.Net Take p on = on
message_ends origin.Net (Said id text after) p on = on
message_ends origin.Net Refused p on = on
message_ends origin.Net Left p on = on
message_ends origin.Net (Resized size) p on = on
message_ends origin.Net (Asked control) p on = on
message_ends origin.Keys (Piece q) p on = on
message_ends origin.Keys HangUp p on = on
message_ends origin.Keys ReadFailed p on = on
message_ends origin.Keys Take p on = on
message_ends origin.Keys (Said id text after) p on = on
message_ends origin.Keys Refused p on = on
message_ends origin.Keys Left p on = on
message_ends origin.Keys (Resized size) p on = on
message_ends origin.Keys (Asked control) p on = on

piece_ends : (c new : core_run.Run) (from : Origin) (piece : List ℕ) → core_run.TakesPiece c from piece new → c.progress.at_end ≡ true
    → new.progress.at_end ≡ true
piece_ends c new origin.Keys piece e on = ap (λ (r : core_run.Run). r.progress.at_end) e ∙ on
piece_ends c new origin.Net piece (xs, reads, e) on = ap (λ (r : core_run.Run). r.progress.at_end) e ∙ on

core_acts : (c new : core_run.Run) (from : Origin) (m : Message) → core_run.Acts c from m new → c.progress.at_end ≡ true → new.progress.at_end ≡ true
core_acts c new from (Piece piece) a on = piece_ends c new from piece a on
core_acts c new from (Resized size) e on = ap (λ (r : core_run.Run). r.progress.at_end) e ∙ on
core_acts c new origin.Keys (Asked control) e on = ap (λ (r : core_run.Run). r.progress.at_end) e ∙ on
core_acts c new origin.Net (Asked control) e on = ap (λ (r : core_run.Run). r.progress.at_end) e ∙ on
core_acts c new from HangUp e on = ap (λ (r : core_run.Run). r.progress.at_end) e ∙ message_ends from HangUp c.progress on
core_acts c new from ReadFailed e on = ap (λ (r : core_run.Run). r.progress.at_end) e ∙ message_ends from ReadFailed c.progress on
core_acts c new from Take e on = ap (λ (r : core_run.Run). r.progress.at_end) e ∙ message_ends from Take c.progress on
core_acts c new from (Said id text after) e on = ap (λ (r : core_run.Run). r.progress.at_end) e ∙ message_ends from (Said id text after) c.progress on
core_acts c new from Refused e on = ap (λ (r : core_run.Run). r.progress.at_end) e ∙ message_ends from Refused c.progress on
core_acts c new from Left e on = ap (λ (r : core_run.Run). r.progress.at_end) e ∙ message_ends from Left c.progress on

core_handles : (c new : core_run.Run) (t : Told) → core_run.Handles c t new → core_stops c.progress ≡ true → core_stops new.progress ≡ true
core_handles c new t h on = by c.progress.over refl h
  where
    by : (b : Bool) → c.progress.over ≡ b → core_run.ActsUnless b c t new → core_stops new.progress ≡ true
    by true off e = ap (λ (r : core_run.Run). core_stops r.progress) e ∙ on
    by false off a = by_end new.progress.over new.progress.at_end (core_acts c new t.from t.message a (the_end c.progress.over c.progress.at_end off on))

core_failed : (new failed : core_run.Run) → failed.progress.over ≡ true → new ≡ failed → core_stops new.progress ≡ true
core_failed new failed over e = by_over new.progress.over new.progress.at_end (ap (λ (r : core_run.Run). r.progress.over) e ∙ over)

pub core_stays : (c new : core_run.Run) (t : Told) (k : core_mark.ClientMark) → core_marks.Turns c (t, k) new → core_stops c.progress ≡ true
    → core_stops new.progress ≡ true
core_stays c new t core_is.Whole h on = core_handles c new t h on
core_stays c new t core_is.WriteFailed h on = core_failed new _ refl h.3
core_stays c new t core_is.ShowFailed h on = core_failed new _ refl h.3
core_stays c new t (core_is.Refused f) h on = core_failed new _ refl h.3

-- THE SERVER'S TERMINAL

answer_ends : (c : term_run.Run) (es : List Entry) → (term_run.answer c es).progress.at_end ≡ c.progress.at_end
answer_ends c [] = refl
answer_ends c (e ∷ es) = refl

ask_ends : (b : Bool) (c : term_run.Run) → (term_run.ask_if b c).progress.at_end ≡ c.progress.at_end
ask_ends true c = answer_ends (record c { history = next c.history took }) (waiting c.history)
ask_ends false c = refl

stop_ends : (id : ℕ) (why : Why) (b : Bool) (c : term_run.Run) → (term_run.stop_job id why b c).progress.at_end ≡ c.progress.at_end
stop_ends id why true c = refl
stop_ends id why false c = refl

end_ends : (id : ℕ) (b : Bool) (c : term_run.Run) → (term_run.end_job id b c).progress.at_end ≡ c.progress.at_end
end_ends id true c = refl
end_ends id false c = refl

move_ends : (id : ℕ) (s : JobState) (c : term_run.Run) → (term_run.move id s c).progress.at_end ≡ c.progress.at_end
move_ends id job.Foreground c = refl
move_ends id job.Background c = refl
move_ends id (job.Stopped why) c = stop_ends id why (term_run.in_foreground c id) c
move_ends id job.Ended c = end_ends id (term_run.in_foreground c id) c

halt_ends : (b : Bool) (c : term_run.Run) → (term_run.halt_if b c).progress.at_end ≡ c.progress.at_end
halt_ends true c = refl
halt_ends false c = refl

said_ends : (id : ℕ) (parts : List (List ℕ)) (v : Option Verdict) (c : term_run.Run) → (term_run.after_said id parts v c).progress.at_end ≡ c.progress.at_end
said_ends id parts None c = refl
said_ends id parts (Some v) c = halt_ends _ (term_run.flush (term_run.show parts (term_run.move id v.next c))) ∙ move_ends id v.next c

term_acts : (c new : term_run.Run) (m : Message) → term_run.Acts c m new → c.progress.at_end ≡ true → new.progress.at_end ≡ true
term_acts c new (Piece piece) (xs, reads, e) on = ap (λ (r : term_run.Run). r.progress.at_end) e ∙ ask_ends c.progress.asks (term_run.feed piece xs c) ∙ on
term_acts c new HangUp e on = ap (λ (r : term_run.Run). r.progress.at_end) e
term_acts c new ReadFailed e on = ap (λ (r : term_run.Run). r.progress.at_end) e
term_acts c new Take e on = ap (λ (r : term_run.Run). r.progress.at_end) e ∙ ask_ends true c ∙ on
term_acts c new (Said id text after) (parts, cuts, e) on = ap (λ (r : term_run.Run). r.progress.at_end) e
    ∙ said_ends id.0 parts (term_run.verdict c id.0 text after) (term_run.turn_echo (term_run.echo_by (term_run.in_foreground c id.0) after) c) ∙ on
term_acts c new Refused e on = ap (λ (r : term_run.Run). r.progress.at_end) e ∙ on
term_acts c new Left e on = ap (λ (r : term_run.Run). r.progress.at_end) e ∙ on
term_acts c new (Resized size) e on = ap (λ (r : term_run.Run). r.progress.at_end) e ∙ on
term_acts c new (Asked control) e on = ap (λ (r : term_run.Run). r.progress.at_end) e ∙ on

term_handles : (c new : term_run.Run) (m : Message) → term_run.Handles c m new → term_stops c.progress ≡ true → term_stops new.progress ≡ true
term_handles c new m h on = by c.progress.over refl h
  where
    by : (b : Bool) → c.progress.over ≡ b → term_run.ActsUnless b c m new → term_stops new.progress ≡ true
    by true off e = ap (λ (r : term_run.Run). term_stops r.progress) e ∙ on
    by false off a = by_end new.progress.over new.progress.at_end (term_acts c new m a (the_end c.progress.over c.progress.at_end off on))

term_failed : (new failed : term_run.Run) → failed.progress.over ≡ true → new ≡ failed → term_stops new.progress ≡ true
term_failed new failed over e = by_over new.progress.over new.progress.at_end (ap (λ (r : term_run.Run). r.progress.over) e ∙ over)

pub term_stays : (c new : term_run.Run) (m : Message) (k : term_mark.ServerMark) → term_marks.Turns c (m, k) new → term_stops c.progress ≡ true
    → term_stops new.progress ≡ true
term_stays c new m term_is.Whole h on = term_handles c new m h on
term_stays c new m term_is.WriteFailed h on = term_failed new _ refl h.3
term_stays c new m (term_is.Refused f put) h on = term_failed new _ refl h.3
