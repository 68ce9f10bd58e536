-- Each message is handled as its definition states.
use Rattle.std.proofs.Common.{◌≡◌, ℕ, Bool, true, false, not, ◌&&◌, ◌==◌, length, arith, List, [], ◌∷◌, ◌++◌, Option, Some, None, Result, Ok, Err, IfOk, IfErr}
use Rattle.std.proofs.Common.{refl, sym, ap, ◌∙◌, subst, append-nil}
use Rattle.tn_discipline.specs.declared.reads.Entry.{Entry}
use Rattle.tn_jobs.specs.{Jobs.{Jobs, state_at, is_foreground}, declared.{held_jobs.JobId.JobId, verdicts.{JobState.JobState, After.After, Verdict.Verdict}}}
use Rattle.tn_jobs.specs.{Judging.judged, declared.verdicts.After.TheVariants.{Hide, Show}}
use Rattle.tn_jobs.specs.declared.verdicts.JobState.TheVariants as job
use Rattle.tn_server.specs.{Replies.{items_said, replies}, Events.{History, next, took, echo_set}, Lines.waiting}
use Rattle.tn_cores.specs.declared.messages.Message.{Message, TheVariants.{Piece, HangUp, ReadFailed, Take, Said, Refused, Left, Resized, Asked}}
use Rattle.tn_cores.specs.declared.{faults.Ended.TheVariants.Fault, server.{messages.Put.{Put, TheVariants.Nothing}, progress.ServerProgress.ServerProgress}}
use Rattle.tn_cores.specs.{declared.server.terminal.{Term.Term, Stuck.Stuck}, server.{Refusing.TellsEcho, Counting.{after_request, after_piece}, Marks.unput}}
use Rattle.tn_cores.specs.server.Run.{verdict, verdict_at, has_text, answer, Acts, ActsUnless, Run, puts_of, flush, hang_up, ends_by, feed, ask, ask_if, show}
use Rattle.tn_cores.specs.server.Run.{move, after_said, halt, halt_if, is_end, in_foreground, Cuts, writes, tostop, echo_by, echoed, turn_echo}
use Rattle.tn_cores.specs.server.Reaching.{LeadsTo, AdvancesRun, BreaksOff, Feeds, FeedBreaksOff, Says, SayBreaksOff, DoesWhole, StopsWithin, HaltsIf}
use Rattle.tn_cores.specs.declared.streams.{control.Control.Control, window.WindowSize.WindowSize}
use Rattle.tn_cores.specs.declared.faults.SessionFault.TheVariants as fault
use Rattle.tn_cores.proofs.of_terminal.Doing.{does_then, does_same, does_halt_if, foreground_as}
use Rattle.tn_cores.proofs.of_terminal.Breaking.{Grows, grows_none, grows_parts, in_single, rest_more}
use Rattle.tn_cores.proofs.of_terminal.Breaking.{breaks_after, breaks_same, breaks_halt_if, grows_then, grows_ask, grows_ask_if, grows_flushed, spelled_more}
use Rattle.tn_nvt.specs.Spelling.{spells}
use Rattle.tn_nvt.proofs.lemmas.Reading.{spells-append}

pub does_puts : (f : Run → Run) (a b : Term) (x y : List ℕ) (p q : List (Option Entry)) → p ≡ q → AdvancesRun f a x y p b → AdvancesRun f a x y q b
does_puts f a b x y p q e d = let P : List (Option Entry) → Type 0 = λ ps. AdvancesRun f a x y ps b in subst P e d

pub does_last : (f g : Run → Run) (a b d : Term) (x y z : List ℕ) (p : List (Option Entry)) → AdvancesRun f a x y p b → AdvancesRun g b y z [] d
    → AdvancesRun (λ c. g (f c)) a x z p d
does_last f g a b d x y z p one two = does_puts (λ c. g (f c)) a d x z (p ++ []) p (append-nil p) (does_then f g a b d x y z p [] one two)

on_as : (c : Run) (t : Term) → t.progress.over ≡ false → LeadsTo c t → false ≡ c.progress.over
on_as c t on at = sym on ∙ ap (λ (p : ServerProgress). p.over) at.progress

pub handled_by : (message : Message) (change : Run → Run) (old new : Term) (x y : List ℕ) (put : Put) → old.progress.over ≡ false
    → ((c : Run) → LeadsTo c old → Acts c message (change c)) → AdvancesRun change old x y (puts_of put) new → DoesWhole old message x y put new
handled_by message change old new x y put on acts d = record {
  said = d.said;
  appended = d.appended;
  leads = λ c at.
      let P : Bool → Type 0 = λ b. ActsUnless b c message (change c) in
      (change c, subst P (on_as c old on at) (acts c at), d.leads c at, d.sends c at, d.puts c at);
}

asks_as : (c : Run) (t : Term) (b : Bool) → t.progress.asks ≡ b → LeadsTo c t → c.progress.asks ≡ b
asks_as c t b e at = ap (λ (p : ServerProgress). p.asks) (sym at.progress) ∙ e

pub handled_piece : (piece : List ℕ) (asks : Bool) (old mid last new : Term) (x y z w : List ℕ) (put : Put) → old.progress.over ≡ false
    → old.progress.asks ≡ asks → Feeds old piece x y mid → AdvancesRun (ask_if asks) mid y z (puts_of put) last → AdvancesRun flush last z w [] new
    → DoesWhole old (Piece piece) x w put new
handled_piece piece asks old mid last new x y z w put on is after_piece asked flushed =
    let all = does_last (λ c. ask_if asks (feed piece after_piece.items c)) flush old last new x z w (puts_of put)
    (does_then (feed piece after_piece.items) (ask_if asks) old mid last x y z [] (puts_of put) after_piece.does asked) flushed in
    handled_by (Piece piece) (λ c. flush (ask_if c.progress.asks (feed piece after_piece.items c))) old new x w put on
    (λ c at. (after_piece.items, after_piece.reads c at, refl)) (
    does_same (λ c. flush (ask_if asks (feed piece after_piece.items c))) (λ c. flush (ask_if c.progress.asks (feed piece after_piece.items c))) old new x w
    (puts_of put) (λ c at. ap (λ (b : Bool). flush (ask_if b (feed piece after_piece.items c))) (asks_as c old asks is at)) all
    )

pub handled_take : (old mid new : Term) (x y z : List ℕ) (put : Put) → old.progress.over ≡ false → AdvancesRun ask old x y (puts_of put) mid
    → AdvancesRun flush mid y z [] new → DoesWhole old Take x z put new
handled_take old mid new x y z put on asked flushed =
    handled_by Take (λ c. flush (ask c)) old new x z put on (λ c at. refl) (does_last ask flush old mid new x y z (puts_of put) asked flushed)

pub does_judged : (id : ℕ) (parts : List (List ℕ)) (v : Verdict) (state : JobState) (b : Bool) (old moved mid new : Term) (x y : List ℕ) (put : Put)
    → old.progress.over ≡ false → state_at old.table id ≡ Some state → b ≡ (is_end v.next && is_foreground (Some state))
    → AdvancesRun (move id v.next) old x x [] moved → AdvancesRun (λ c. flush (show parts c)) moved x y [] mid → HaltsIf b mid (puts_of put) new
    → AdvancesRun (after_said id parts (Some v)) old x y (puts_of put) new
does_judged id parts v state b old moved mid new x y put on held is one two three =
    does_same (λ c. halt_if b (flush (show parts (move id v.next c)))) (after_said id parts (Some v)) old new x y (puts_of put)
    (λ c at. ap (λ (u : Bool). halt_if u (flush (show parts (move id v.next c)))) (same c at))
    (does_then (λ c. flush (show parts (move id v.next c))) (halt_if b) old mid new x y y [] (puts_of put)
    (does_then (move id v.next) (λ c. flush (show parts c)) old moved mid x x y [] [] one two) (does_halt_if b mid new (puts_of put) y three))
  where
    same : (c : Run) → LeadsTo c old → (is_end v.next && in_foreground c id) ≡ b
    same c at = ap (λ (u : Bool). is_end v.next && u) (foreground_as old c id state (is_foreground (Some state)) on held refl at) ∙ sym is

pub says_none : (id : ℕ) (text : List ℕ) (v : Option Verdict) (old new : Term) (x y : List ℕ) → v ≡ None → AdvancesRun flush old x y [] new
    → Says id text v old x y Nothing new
says_none id text v old new x y e d = rw e (record { parts = []; cuts = refl; does = d })

-- a call was refused once all of the message but this change was done
pub stops_by : (message : Message) (change : Run → Run) (old new : Term) (x y : List ℕ) (put : Put) → old.progress.over ≡ false
    → ((c : Run) → LeadsTo c old → Acts c message (change c)) → BreaksOff change old x y (puts_of put) new → StopsWithin old message true x y put new
stops_by message change old new x y put on acts b = record {
  part = b.part;
  appended = b.appended;
  leads = λ c at.
      let P : Bool → Type 0 = λ u. ActsUnless u c message (change c) in
      let s = b.sends c at in
      (change c, subst P (on_as c old on at) (acts c at), s.0, s.1, b.progress c at, b.puts c at);
}

pub breaks_none : (id : ℕ) (text : List ℕ) (v : Option Verdict) (old new : Term) (x y : List ℕ) → v ≡ None → BreaksOff flush old x y [] new
    → SayBreaksOff id text v old x y Nothing new
breaks_none id text v old new x y e b = rw e (record { parts = []; cuts = refl; breaks = b })

pub same_verdict : (id : ℕ) (text : List ℕ) (after : After) (old : Term) (c : Run) → old.progress.over ≡ false → LeadsTo c old
    → verdict_at (state_at old.table id) (has_text text) after old.tostop ≡ verdict c id text after
same_verdict id text after old c on at =
    ap (λ (j : Jobs). verdict_at (state_at j id) (has_text text) after old.tostop) (at.live on).jobs
    ∙ ap (λ (b : Bool). verdict_at (state_at c.jobs id) (has_text text) after b) (at.live on).tostop

pub with_ok : {A E : Type 0} (H : A → Type 0) (D : Type 0) (r : Result A E) (p : A) → (D → H p) → IfOk r (λ x. (x ≡ p) × D) → IfOk r H
with_ok {A} H D (Ok x) p make e = subst H (sym e.0) (make e.1)
with_ok H D (Err e) p make is = tt

pub with_stuck : (old : Term) (m : Message) (x y : List ℕ) (new : Term) (D : Type 0) (r : Result Put Stuck) (p : Put) → (D → StopsWithin old m true x y p new)
    → IfErr r (λ s. (s.put ≡ p) × (s.given ≡ true) × D) → IfErr r (λ s. StopsWithin old m s.given x y s.put new)
with_stuck old m x y new D (Ok a) p make is = tt
with_stuck old m x y new D (Err s) p make e =
    let P : Put → Type 0 = λ q. StopsWithin old m s.given x y q new in
    let Q : Bool → Type 0 = λ g. StopsWithin old m g x y p new in
    subst P (sym e.0) (subst Q (sym e.1) (make e.2))

pub with_broken : (id : ℕ) (text : List ℕ) (v : Option Verdict) (old : Term) (x y : List ℕ) (new : Term) (D : Type 0) (r : Result Put Stuck) (p : Put)
    → (D → SayBreaksOff id text v old x y p new) → IfErr r (λ s. (s.put ≡ p) × (s.given ≡ true) × D)
    → IfErr r (λ s. (s.given ≡ true) × SayBreaksOff id text v old x y s.put new)
with_broken id text v old x y new D (Ok a) p make is = tt
with_broken id text v old x y new D (Err s) p make e =
    let P : Put → Type 0 = λ q. SayBreaksOff id text v old x y q new in
    (e.1, subst P (sym e.0) (make e.2))

pub has_text_is : (xs : List ℕ) → has_text xs ≡ not (length xs == 0)
has_text_is [] = refl
has_text_is (x ∷ xs) = grind arith

pub verdict_none : (state : Option JobState) (text : List ℕ) (after : After) (stops : Bool) → state ≡ None → verdict_at state (has_text text) after stops ≡ None
verdict_none state text after stops e = ap (λ (s : Option JobState). verdict_at s (has_text text) after stops) e

pub verdict_judged : (found : Option JobState) (state : JobState) (text : List ℕ) (after : After) (stops empty : Bool) (v : Option Verdict) → found ≡ Some state
    → empty ≡ (length text == 0) → v ≡ judged state (not empty) after stops → verdict_at found (has_text text) after stops ≡ v
verdict_judged found state text after stops empty v e f g =
    ap (λ (s : Option JobState). verdict_at s (has_text text) after stops) e
    ∙ ap (λ (b : Bool). judged state b after stops) (has_text_is text ∙ ap not (sym f))
    ∙ sym g

pub handled_hang_up : (old mid new : Term) (x y : List ℕ) (put : Put) → old.progress.over ≡ false → AdvancesRun hang_up old x x (puts_of put) mid
    → AdvancesRun flush mid x y [] new → DoesWhole old HangUp x y put new
handled_hang_up old mid new x y put on one two =
    handled_by HangUp (λ c. flush (hang_up c)) old new x y put on (λ c at. refl) (does_last hang_up flush old mid new x x y (puts_of put) one two)

pub handled_fault : (old marked mid new : Term) (x y : List ℕ) (put : Put) → old.progress.over ≡ false
    → AdvancesRun (ends_by (Fault fault.Read)) old x x [] marked → AdvancesRun hang_up marked x x (puts_of put) mid → AdvancesRun flush mid x y [] new
    → DoesWhole old ReadFailed x y put new
handled_fault old marked mid new x y put on one two three =
    handled_by ReadFailed (λ c. flush (hang_up (ends_by (Fault fault.Read) c))) old new x y put on (λ c at. refl)
    (does_last (λ c. hang_up (ends_by (Fault fault.Read) c)) flush old mid new x x y (puts_of put)
    (does_then (ends_by (Fault fault.Read)) hang_up old marked mid x x x [] (puts_of put) one two) three)

pub handled_refused : (old marked mid new : Term) (x y : List ℕ) (put : Put) → old.progress.over ≡ false
    → AdvancesRun (ends_by (Fault fault.Memory)) old x x [] marked → AdvancesRun flush marked x y [] mid → HaltsIf true mid (puts_of put) new
    → DoesWhole old Refused x y put new
handled_refused old marked mid new x y put on one two three =
    handled_by Refused (λ c. halt (flush (ends_by (Fault fault.Memory) c))) old new x y put on (λ c at. refl)
    (does_then (λ c. flush (ends_by (Fault fault.Memory) c)) halt old mid new x y y [] (puts_of put)
    (does_then (ends_by (Fault fault.Memory)) flush old marked mid x x y [] [] one two) (does_halt_if true mid new (puts_of put) y three))

pub handled_left : (old new : Term) (x y : List ℕ) → old.progress.over ≡ false → AdvancesRun flush old x y [] new → DoesWhole old Left x y Nothing new
handled_left old new x y on one = handled_by Left flush old new x y Nothing on (λ c at. refl) one

pub handled_resized : (size : WindowSize) (old new : Term) (x y : List ℕ) → old.progress.over ≡ false → AdvancesRun flush old x y [] new
    → DoesWhole old (Resized size) x y Nothing new
handled_resized size old new x y on one = handled_by (Resized size) flush old new x y Nothing on (λ c at. refl) one

pub handled_asked : (control : Control) (old new : Term) (x y : List ℕ) → old.progress.over ≡ false → AdvancesRun flush old x y [] new
    → DoesWhole old (Asked control) x y Nothing new
handled_asked control old new x y on one = handled_by (Asked control) flush old new x y Nothing on (λ c at. refl) one

breaks_last : (f g : Run → Run) (a b d : Term) (x y z : List ℕ) (p : List (Option Entry)) → AdvancesRun f a x y p b → BreaksOff g b y z [] d
    → BreaksOff (λ c. g (f c)) a x z p d
breaks_last f g a b d x y z p one two =
    let P : List (Option Entry) → Type 0 = λ ps. BreaksOff (λ c. g (f c)) a x z ps d in
    subst P (append-nil p) (breaks_after f g a b d x y z p [] one two)

pub stops_hang_up : (old mid new : Term) (x y : List ℕ) (put : Put) → old.progress.over ≡ false → AdvancesRun hang_up old x x (puts_of put) mid
    → BreaksOff flush mid x y [] new → StopsWithin old HangUp true x y put new
stops_hang_up old mid new x y put on one two =
    stops_by HangUp (λ c. flush (hang_up c)) old new x y put on (λ c at. refl) (breaks_last hang_up flush old mid new x x y (puts_of put) one two)

pub stops_fault : (old marked mid new : Term) (x y : List ℕ) (put : Put) → old.progress.over ≡ false
    → AdvancesRun (ends_by (Fault fault.Read)) old x x [] marked → AdvancesRun hang_up marked x x (puts_of put) mid → BreaksOff flush mid x y [] new
    → StopsWithin old ReadFailed true x y put new
stops_fault old marked mid new x y put on one two three =
    stops_by ReadFailed (λ c. flush (hang_up (ends_by (Fault fault.Read) c))) old new x y put on (λ c at. refl)
    (breaks_last (λ c. hang_up (ends_by (Fault fault.Read) c)) flush old mid new x x y (puts_of put)
    (does_then (ends_by (Fault fault.Read)) hang_up old marked mid x x x [] (puts_of put) one two) three)

pub stops_refused : (old marked mid new : Term) (x y : List ℕ) (put : Put) → old.progress.over ≡ false
    → AdvancesRun (ends_by (Fault fault.Memory)) old x x [] marked → BreaksOff flush marked x y [] mid → HaltsIf true mid (puts_of put) new
    → StopsWithin old Refused true x y put new
stops_refused old marked mid new x y put on one two three =
    stops_by Refused (λ c. halt (flush (ends_by (Fault fault.Memory) c))) old new x y put on (λ c at. refl)
    (breaks_halt_if true (λ c. flush (ends_by (Fault fault.Memory) c)) old mid new x y [] (puts_of put)
    (breaks_after (ends_by (Fault fault.Memory)) flush old marked mid x x y [] [] one two) three)

pub stops_left : (old new : Term) (x y : List ℕ) → old.progress.over ≡ false → BreaksOff flush old x y [] new → StopsWithin old Left true x y Nothing new
stops_left old new x y on one = stops_by Left flush old new x y Nothing on (λ c at. refl) one

pub stops_resized : (size : WindowSize) (old new : Term) (x y : List ℕ) → old.progress.over ≡ false → BreaksOff flush old x y [] new
    → StopsWithin old (Resized size) true x y Nothing new
stops_resized size old new x y on one = stops_by (Resized size) flush old new x y Nothing on (λ c at. refl) one

pub stops_asked : (control : Control) (old new : Term) (x y : List ℕ) → old.progress.over ≡ false → BreaksOff flush old x y [] new
    → StopsWithin old (Asked control) true x y Nothing new
stops_asked control old new x y on one = stops_by (Asked control) flush old new x y Nothing on (λ c at. refl) one

pub stops_take : (old mid new : Term) (x y z : List ℕ) (put : Put) → old.progress.over ≡ false → AdvancesRun ask old x y (puts_of put) mid
    → BreaksOff flush mid y z [] new → StopsWithin old Take true x z put new
stops_take old mid new x y z put on asked stuck =
    stops_by Take (λ c. flush (ask c)) old new x z put on (λ c at. refl) (breaks_last ask flush old mid new x y z (puts_of put) asked stuck)

pub stops_piece : (piece : List ℕ) (asks : Bool) (old mid last new : Term) (x y z w : List ℕ) (put : Put) → old.progress.over ≡ false → old.progress.asks ≡ asks
    → Feeds old piece x y mid → AdvancesRun (ask_if asks) mid y z (puts_of put) last → BreaksOff flush last z w [] new
    → StopsWithin old (Piece piece) true x w put new
stops_piece piece asks old mid last new x y z w put on is after_piece asked stuck =
    let all = breaks_last (λ c. ask_if asks (feed piece after_piece.items c)) flush old last new x z w (puts_of put)
    (does_then (feed piece after_piece.items) (ask_if asks) old mid last x y z [] (puts_of put) after_piece.does asked) stuck in
    stops_by (Piece piece) (λ c. flush (ask_if c.progress.asks (feed piece after_piece.items c))) old new x w put on
    (λ c at. (after_piece.items, after_piece.reads c at, refl)) (
    breaks_same (λ c. flush (ask_if asks (feed piece after_piece.items c))) (λ c. flush (ask_if c.progress.asks (feed piece after_piece.items c))) old new x w
    (puts_of put) (λ c at. ap (λ (b : Bool). flush (ask_if b (feed piece after_piece.items c))) (asks_as c old asks is at)) all
    )

-- the run after a message that gave nothing: its request waits
unput_piece : (b : Bool) (c d : Run) → (record ((ask_if b d).progress) { asks = c.progress.asks; entries = c.progress.entries })
    ≡ (record (d.progress) { asks = c.progress.asks; entries = c.progress.entries })
unput_piece false c d = refl
unput_piece true c d = by (waiting d.history)
  where
    by : (ws : List Entry) → (record ((answer (record d { history = next d.history took }) ws).progress)
        { asks = c.progress.asks; entries = c.progress.entries }) ≡ (record (d.progress) { asks = c.progress.asks; entries = c.progress.entries })
    by [] = refl
    by (w ∷ ws) = refl

unput_take : (c : Run) → (unput Take c (flush (ask c))).progress ≡ after_request c.progress
unput_take c = by (waiting c.history)
  where
    by : (ws : List Entry) → (record ((answer (record c { history = next c.history took }) ws).progress) { asks = true; entries = c.progress.entries })
        ≡ after_request c.progress
    by [] = refl
    by (w ∷ ws) = refl

-- the entries could not be asked for
pub stops_ask : (old mid new : Term) (x y : List ℕ) → old.progress.over ≡ false → mid ≡ old → y ≡ x → new ≡ record mid { progress = after_request mid.progress }
    → StopsWithin old Take false x y Nothing new
stops_ask old mid new x y on same is now = record {
  part = [];
  appended = is ∙ sym (append-nil x);
  leads = λ c at.
      let P : Bool → Type 0 = λ u. ActsUnless u c Take (flush (ask c)) in
      let g = spelled_more c.history (flush (ask c)).history (grows_then c.history (ask c).history (flush (ask c)).history (grows_ask c)
      (grows_flushed (ask c).history)) in (
        flush (ask c),
        subst P (on_as c old on at) refl,
        g.0,
        g.1,
        ap (λ (t : Term). t.progress) now ∙ ap (λ (t : Term). after_request t.progress) same ∙ ap after_request at.progress ∙ sym (unput_take c),
        sym (append-nil c.puts),
      );
}

-- a piece could not be fed
pub stops_feed : (piece : List ℕ) (old new : Term) (x y : List ℕ) → old.progress.over ≡ false → FeedBreaksOff old piece x y new
    → StopsWithin old (Piece piece) false x y Nothing new
stops_feed piece old new x y on f = record {
  part = f.part;
  appended = f.appended;
  leads = λ c at.
      let l = f.leads c at in
      let d = feed piece l.0 c in
      let whole = flush (ask_if c.progress.asks d) in
      let P : Bool → Type 0 = λ u. ActsUnless u c (Piece piece) whole in
      let more = grows_then d.history (ask_if c.progress.asks d).history whole.history (grows_ask_if c.progress.asks d)
      (grows_flushed (ask_if c.progress.asks d).history) in
      let r = rest_more c.history d.history whole.history f.part (l.2, l.3) more in (
        whole,
        subst P (on_as c old on at) (l.0, l.1, refl),
        r.0,
        r.1,
        f.progress ∙ ap after_piece at.progress ∙ sym (unput_piece c.progress.asks c d),
        sym (append-nil c.puts),
      );
}

-- a piece was fed, and then the entries could not be asked for
pub stops_fed : (piece : List ℕ) (old mid new : Term) (x y z : List ℕ) → old.progress.over ≡ false → old.progress.asks ≡ true → Feeds old piece x y mid
    → new ≡ mid → z ≡ y → StopsWithin old (Piece piece) false x z Nothing new
stops_fed piece old mid new x y z on asks after_piece same is = record {
  part = spells after_piece.does.said;
  appended = is ∙ after_piece.does.appended;
  leads = λ c at.
      let d = feed piece after_piece.items c in
      let whole = flush (ask_if c.progress.asks d) in
      let P : Bool → Type 0 = λ u. ActsUnless u c (Piece piece) whole in
      let more = grows_then d.history (ask_if c.progress.asks d).history whole.history (grows_ask_if c.progress.asks d)
      (grows_flushed (ask_if c.progress.asks d).history) in
      let fits : spells (items_said d.history) ≡ spells (items_said c.history) ++ (spells after_piece.does.said ++ []) =
      ap spells (after_piece.does.sends c at) ∙ spells-append (items_said c.history) after_piece.does.said
      ∙ ap (λ (bs : List ℕ). spells (items_said c.history) ++ bs) (sym (append-nil (spells after_piece.does.said))) in
      let r = rest_more c.history d.history whole.history (spells after_piece.does.said) ([], fits) more in (
        whole,
        subst P (on_as c old on at) (after_piece.items, after_piece.reads c at, refl),
        r.0,
        r.1,
        ap (λ (t : Term). t.progress) same ∙ (after_piece.does.leads c at).progress ∙ sym (unput_piece c.progress.asks c d),
        sym (append-nil c.puts),
      );
}

pub breaks_judged : (id : ℕ) (parts : List (List ℕ)) (v : Verdict) (state : JobState) (b : Bool) (old moved mid new : Term) (x y : List ℕ) (put : Put)
    → old.progress.over ≡ false → state_at old.table id ≡ Some state → b ≡ (is_end v.next && is_foreground (Some state))
    → AdvancesRun (move id v.next) old x x [] moved → BreaksOff (λ c. flush (show parts c)) moved x y [] mid → HaltsIf b mid (puts_of put) new
    → BreaksOff (after_said id parts (Some v)) old x y (puts_of put) new
breaks_judged id parts v state b old moved mid new x y put on held is one two three =
    breaks_same (λ c. halt_if b (flush (show parts (move id v.next c)))) (after_said id parts (Some v)) old new x y (puts_of put)
    (λ c at. ap (λ (u : Bool). halt_if u (flush (show parts (move id v.next c)))) (same c at))
    (breaks_halt_if b (λ c. flush (show parts (move id v.next c))) old mid new x y [] (puts_of put)
    (breaks_after (move id v.next) (λ c. flush (show parts c)) old moved mid x x y [] [] one two) three)
  where
    same : (c : Run) → LeadsTo c old → (is_end v.next && in_foreground c id) ≡ b
    same c at = ap (λ (u : Bool). is_end v.next && u) (foreground_as old c id state (is_foreground (Some state)) on held refl at) ∙ sym is

-- A JOB'S REACTION, with the echo that it asks for
-- what it is judged to be does not go by the echo
pub echoed_verdict : (id : ℕ) (text : List ℕ) (after : After) (old mid : Term) (c : Run) → old.progress.over ≡ false → mid ≡ record old { end = mid.end }
    → LeadsTo c old → verdict_at (state_at mid.table id) (has_text text) after mid.tostop ≡ verdict c id text after
echoed_verdict id text after old mid c on rest at =
    ap (λ (t : Term). verdict_at (state_at t.table id) (has_text text) after t.tostop) rest ∙ same_verdict id text after old c on at

pub echo_as : (id : ℕ) (after : After) (echo : Option Bool) (old : Term) (c : Run) → old.progress.over ≡ false
    → echo ≡ echo_by (is_foreground (state_at old.table id)) after → LeadsTo c old → echo ≡ echo_by (in_foreground c id) after
echo_as id after echo old c on is at = is ∙ ap (λ (j : Jobs). echo_by (is_foreground (state_at j id)) after) (at.live on).jobs

module _ (id : JobId) (text : List ℕ) (after : After) (echo : Option Bool) (old mid : Term) (on : old.progress.over ≡ false)
    (is : echo ≡ echo_by (is_foreground (state_at old.table id.0)) after) (rest : mid ≡ record old { end = mid.end }) where
  abbrev found : Option Verdict
  found = verdict_at (state_at mid.table id.0) (has_text text) after mid.tostop

  abbrev whole : List (List ℕ) → Run → Run
  whole parts c = after_said id.0 parts (verdict c id.0 text after) (turn_echo (echo_by (in_foreground c id.0) after) c)

  same_whole : (parts : List (List ℕ)) (c : Run) → LeadsTo c old → whole parts c ≡ after_said id.0 parts found (turn_echo echo c)
  same_whole parts c at =
      let v = echoed_verdict id.0 text after old mid c on rest at in
      let e = echo_as id.0 after echo old c on is at in
      λ i. after_said id.0 parts (sym v i) (turn_echo (sym e i) c)

  acts_whole : (parts : List (List ℕ)) → Cuts (writes found) text parts → (c : Run) → LeadsTo c old → Acts c (Said id text after) (whole parts c)
  acts_whole parts cuts c at =
      let C : Option Verdict → Type 0 = λ v. Cuts (writes v) text parts in
      (parts, subst C (echoed_verdict id.0 text after old mid c on rest at) cuts, refl)

  pub handled_said : (new : Term) (x y z : List ℕ) (put : Put) → AdvancesRun (turn_echo echo) old x y [] mid → Says id.0 text found mid y z put new
      → DoesWhole old (Said id text after) x z put new
  handled_said new x y z put one two =
      handled_by (Said id text after) (whole two.parts) old new x z put on (acts_whole two.parts two.cuts)
      (does_same (λ c. after_said id.0 two.parts found (turn_echo echo c)) (whole two.parts) old new x z (puts_of put) (same_whole two.parts)
      (does_then (turn_echo echo) (after_said id.0 two.parts found) old mid new x y z [] (puts_of put) one two.does))

  pub stops_said : (new : Term) (x y z : List ℕ) (put : Put) → AdvancesRun (turn_echo echo) old x y [] mid → SayBreaksOff id.0 text found mid y z put new
      → StopsWithin old (Said id text after) true x z put new
  stops_said new x y z put one two =
      stops_by (Said id text after) (whole two.parts) old new x z put on (acts_whole two.parts two.cuts)
      (breaks_same (λ c. after_said id.0 two.parts found (turn_echo echo c)) (whole two.parts) old new x z (puts_of put) (same_whole two.parts)
      (breaks_after (turn_echo echo) (after_said id.0 two.parts found) old mid new x y z [] (puts_of put) one two.breaks))

-- if the echo is announced to the client, the job goes on in the foreground
goes_on : (h : History) (state : Option JobState) (has stops : Bool) (after : After) → TellsEcho (echo_by (is_foreground state) after) h
    → verdict_at state has after stops ≡ Some (record { write = has; next = job.Foreground })
goes_on h (Some job.Foreground) has stops Hide tells = refl
goes_on h (Some job.Foreground) has stops Show tells = refl
goes_on h (Some job.Foreground) has stops _ tells = absurd tells
goes_on h (Some job.Background) has stops after tells = absurd tells
goes_on h (Some (job.Stopped why)) has stops after tells = absurd tells
goes_on h (Some job.Ended) has stops after tells = absurd tells
goes_on h None has stops after tells = absurd tells

grows_echoed : (echo : Option Bool) (h : History) → Grows h (echoed echo h)
grows_echoed None h = grows_none h
grows_echoed (Some on) h = (replies h (echo_set on), refl)

any_parts : (b : Bool) (text : List ℕ) → (parts : List (List ℕ)) × Cuts b text parts
any_parts true text = let s = in_single text in (s.0, (s.1, s.2))
any_parts false text = ([], refl)

-- the echo could not be announced to the client
pub stops_echo : (id : JobId) (text : List ℕ) (after : After) (echo : Option Bool) (old new : Term) (x y : List ℕ) → old.progress.over ≡ false
    → echo ≡ echo_by (is_foreground (state_at old.table id.0)) after → new ≡ old → y ≡ x → ((c : Run) → LeadsTo c old → TellsEcho echo c.history)
    → StopsWithin old (Said id text after) false x y Nothing new
stops_echo id text after echo old new x y on is same none tells = record {
  part = [];
  appended = none ∙ sym (append-nil x);
  leads = λ c at.
      let asked = echo_by (in_foreground c id.0) after in
      let d = turn_echo asked c in
      let e = subst (λ (o : Option Bool). TellsEcho o c.history) (echo_as id.0 after echo old c on is at) (tells c at) in
      let v : verdict c id.0 text after ≡ Some (record { write = has_text text; next = job.Foreground }) =
      goes_on c.history (state_at c.jobs id.0) (has_text text) (tostop c) after e in
      let cut = any_parts (has_text text) text in
      let whole = flush (show cut.0 d) in
      let C : Option Verdict → Type 0 = λ u. Cuts (writes u) text cut.0 in
      let P : Bool → Type 0 = λ u. ActsUnless u c (Said id text after) whole in
      let g = spelled_more c.history whole.history (grows_then c.history d.history whole.history (grows_echoed asked c.history)
      (grows_then d.history (show cut.0 d).history whole.history (grows_parts d.history cut.0) (grows_flushed (show cut.0 d).history))) in (
        whole,
        subst P (on_as c old on at) (cut.0, subst C (sym v) cut.1, ap (λ (u : Option Verdict). after_said id.0 cut.0 u d) (sym v)),
        g.0,
        g.1,
        ap (λ (t : Term). t.progress) same ∙ at.progress,
        sym (append-nil c.puts),
      );
}
