-- Each call is refused for its cause.
use Rattle.std.proofs.Common.{◌≡◌, ◌⊎◌, inl, inr, ℕ, Bool, true, false, List, [], ◌∷◌, ◌++◌, map, take, Option, Some, None, Result, Ok, Err, OnErr, IfErr, refl, sym}
use Rattle.std.proofs.Common.{ap, ◌∙◌, subst, append-nil, arith, ◌<◌, All, if◌then◌else◌}
use Rattle.std.specs.List.{concat}
use Rattle.tn_discipline.specs.declared.{echo.Symbol.Symbol, reads.Entry.Entry}
use Rattle.tn_jobs.specs.{declared.{held_jobs.JobId.JobId, verdicts.{After.After, JobState.JobState, Verdict.Verdict}}, Jobs.{is_foreground, state_at}}
use Rattle.tn_jobs.specs.declared.verdicts.JobState.TheVariants as job
use Rattle.tn_nvt.specs.{Feeding.DecoderState, declared.items.Item.Item}
use Rattle.tn_nvt.specs.Feeding as nvt
use Rattle.tn_pty.specs.{Terminal.{fitting_count, output_symbols}, declared.pty.PtyFault.PtyFault}
use Rattle.tn_pty.specs.declared.pty.PtyFault.TheVariants as pty
use Rattle.tn_server.proofs.lemmas.{Stopping.has_read, Causes.causes, Leading.stands_all}
use Rattle.tn_server.specs.{Answering.{StopsWithin, IsStopCause}, Calls.End, Steps.end_after_items, Course.in_parts, Lines.waiting, Replies.data_of}
use Rattle.tn_server.specs.{Events.{History, next, took, wrote, pulled, gets, items}, Faults.{IsFault, IsOfItem, IsOfPiece, SaysSomething}, Screen.queue, Terms.settings}
use Rattle.tn_server.specs.declared.faults.ServerFault.{ServerFault}
use Rattle.tn_server.specs.Calls as server_end
use Rattle.tn_server.specs.declared.faults.ServerFault.TheVariants as server
use Rattle.tn_cores.proofs.of_terminal.{Breaking.{read_past, kept_history}, Handling.{echoed_verdict, echo_as}}
use Rattle.tn_cores.specs.server.{Reaching.{LeadsTo, RefusesFor, AdvancesRun, Feeds}, Refusing.{WaitsWithRequest, WaitsIf}, Run.{writes, echo_by}}
use Rattle.tn_cores.specs.server.Refusing.{RefusesAtItem, RefusesAtByte, IsRefusalCause, SymbolsWait, SymbolsWaitWithin, WaitsWithText, TellsEcho}
use Rattle.tn_cores.specs.server.Run.{echoed, turn_echo, Run, Reads, Cuts, ask, feed, move, show, stop_job, end_job, in_foreground, verdict_at, has_text}
use Rattle.tn_cores.specs.declared.messages.Message.{Message, TheVariants.{Piece, HangUp, ReadFailed, Take, Said, Refused, Left, Resized, Asked}}
use Rattle.tn_cores.specs.declared.server.terminal.{Stuck.Stuck, Term.Term}

true_false : true ≡ false → ⊥
true_false e = cc

-- SYMBOLS
-- a pull sends something only if symbols wait
pub symbols_wait : (h : History) → SaysSomething h (pulled 4096) → SymbolsWait h
symbols_wait h says none = says (ap (λ (q : List Symbol). map_of (take 4096 q)) none)
  where
    map_of : List Symbol → List Item
    map_of q = map data_of q

-- one more part of a text was written
pub wait_within : (done : List (List ℕ)) (part left text : List ℕ) (old mid : Term) (x y : List ℕ) → concat done ++ (part ++ left) ≡ text
    → AdvancesRun (show done) old x y [] mid → ((c : Run) → LeadsTo c mid → SymbolsWait (next c.history (wrote part))) → (c : Run) → LeadsTo c old
    → SymbolsWaitWithin c.history text
wait_within done part left text old mid x y whole does waits c at = (done, part, left, whole, waits (show done c) (does.leads c at))

none_taken : (n : ℕ) → take {A = ℕ} n [] ≡ []
none_taken n = grind arith

-- nothing is written in a part of no bytes
wrote_none : (h : History) → queue (next h (wrote [])) ≡ queue h
wrote_none h = ap (λ (bs : List ℕ). queue h ++ output_symbols (settings h).flags bs) (none_taken (fitting_count (queue h) [])) ∙ append-nil (queue h)

-- a text was written, and then symbols wait
pub wait_after : (b : Bool) (parts : List (List ℕ)) (text : List ℕ) (old mid : Term) (x y : List ℕ) → Cuts b text parts
    → AdvancesRun (show parts) old x y [] mid → ((c : Run) → LeadsTo c mid → SymbolsWait c.history) → (c : Run) → LeadsTo c old → WaitsWithText b c.history text
wait_after true parts text old mid x y cuts does waits c at =
    let k = in_parts c.history parts in
    (parts, [], [], append-nil (concat parts) ∙ cuts.0, λ none. waits (show parts c) (does.leads c at) (sym (wrote_none k) ∙ none))
wait_after false parts text old mid x y cuts does waits c at =
    subst (λ (ps : List (List ℕ)). SymbolsWait (in_parts c.history ps)) cuts (waits (show parts c) (does.leads c at))

kept_move : (id : ℕ) (state : JobState) (c : Run) → (move id state c).history ≡ c.history
kept_move id (job.Stopped why) c = stop (in_foreground c id)
  where
    stop : (b : Bool) → (stop_job id why b c).history ≡ c.history
    stop true = refl
    stop false = refl
kept_move id job.Ended c = end (in_foreground c id)
  where
    end : (b : Bool) → (end_job id b c).history ≡ c.history
    end true = refl
    end false = refl
kept_move id _ c = refl

-- the job was moved before
pub wait_moved : (id : ℕ) (state : JobState) (b : Bool) (text : List ℕ) (old mid : Term) (x y : List ℕ) → AdvancesRun (move id state) old x y [] mid
    → ((c : Run) → LeadsTo c mid → WaitsWithText b c.history text) → (c : Run) → LeadsTo c old → WaitsWithText b c.history text
wait_moved id state b text old mid x y does waits c at =
    subst (λ (h : History). WaitsWithText b h text) (kept_move id state c) (waits (move id state c) (does.leads c at))

-- a request was answered before, and that shows nothing
pub wait_asked : (old mid : Term) (x y : List ℕ) (put : List (Option Entry)) → AdvancesRun ask old x y put mid
    → ((c : Run) → LeadsTo c mid → SymbolsWait c.history) → (c : Run) → LeadsTo c old → SymbolsWait c.history
wait_asked old mid x y put does waits c at =
    subst (λ (h : History). SymbolsWait h) (kept_history (record c { history = next c.history took }) (waiting c.history)) (waits (ask c) (does.leads c at))

-- PIECES
at_stop : (c : Run) (end : End) (piece front back : List ℕ) (f : ServerFault) (done left more : List Item) (here : DecoderState) → piece ≡ front ++ back
    → nvt.LeadsTo (c.stream ++ front) (items c.history ++ (done ++ left)) here → Reads c piece (done ++ (left ++ more))
    → server_end.LeadsTo (gets c.history done) end → IsStopCause end left here back f → RefusesAtItem c piece f ⊎ ((f ≡ server.Memory) × RefusesAtByte c piece)
at_stop c end piece front back f done [] more here whole at r s why = inr (why.0, (front, back, whole, done ++ [], here, at, why.1))
at_stop c end piece front back f done (item ∷ left) more here whole at r s why = inl (done, item, left ++ more, r, causes (gets c.history done) end item f s why)

stopped_at : (old : Term) (end : End) (piece x y : List ℕ) (f : ServerFault) → old.progress.over ≡ false → All (λ b. b < 256) piece
    → StopsWithin old.end piece f x y end → (c : Run) → LeadsTo c old → RefusesAtItem c piece f ⊎ ((f ≡ server.Memory) × RefusesAtByte c piece)
stopped_at old end piece x y f on small h c at =
    let l = at.live on in
    let past = read_past old end piece x y f on small h c at in
    at_stop c (end_after_items old.end h.done) piece h.front h.back f h.done h.left past.0 h.here h.whole (h.reads c.stream (items c.history) l.read) past.1
    (stands_all c.history old.end h.done l.leads) (h.cause (has_read old.end.decoder c.stream (items c.history) l.read))

item_refused : (old : Term) (end : End) (piece x y : List ℕ) (g : PtyFault) → old.progress.over ≡ false → All (λ b. b < 256) piece
    → StopsWithin old.end piece (server.Pty g) x y end → (c : Run) → LeadsTo c old → RefusesAtItem c piece (server.Pty g)
item_refused old end piece x y g on small h c at = by (stopped_at old end piece x y (server.Pty g) on small h c at)
  where
    no_memory : server.Pty g ≡ server.Memory → ⊥
    no_memory e = cc

    by : RefusesAtItem c piece (server.Pty g) ⊎ ((server.Pty g ≡ server.Memory) × RefusesAtByte c piece) → RefusesAtItem c piece (server.Pty g)
    by (inl r) = r
    by (inr r) = absurd (no_memory r.0)

memory_refused : (old : Term) (end : End) (piece x y : List ℕ) → old.progress.over ≡ false → All (λ b. b < 256) piece
    → StopsWithin old.end piece server.Memory x y end → (c : Run) → LeadsTo c old → IsRefusalCause c (Piece piece) server.Memory
memory_refused old end piece x y on small h c at = by (stopped_at old end piece x y server.Memory on small h c at)
  where
    by : RefusesAtItem c piece server.Memory ⊎ ((server.Memory ≡ server.Memory) × RefusesAtByte c piece) → IsRefusalCause c (Piece piece) server.Memory
    by (inl r) = inl r
    by (inr r) = inr (inl r.1)

pub feed_cause : (old : Term) (end : End) (piece x y : List ℕ) (f : ServerFault) → old.progress.over ≡ false → All (λ b. b < 256) piece
    → (IsOfItem f → StopsWithin old.end piece f x y end) → (f ≡ server.Failed → old.end.failed ≡ true)
    → (f ≡ server.Pty pty.Closed → old.end.terminal.closed ≡ true) → IsOfPiece f → RefusesFor old (Piece piece) f
feed_cause old end piece x y (server.Pty pty.TooFarAhead) on small halts failed shut none =
    λ c at. item_refused old end piece x y pty.TooFarAhead on small (halts tt) c at
feed_cause old end piece x y (server.Pty pty.Memory) on small halts failed shut none =
    λ c at. item_refused old end piece x y pty.Memory on small (halts tt) c at
feed_cause old end piece x y (server.Pty pty.Closed) on small halts failed shut none = λ c at. absurd (true_false (sym (shut refl) ∙ (at.live on).closed))
feed_cause old end piece x y server.Memory on small halts failed shut none = λ c at. memory_refused old end piece x y on small (halts tt) c at
feed_cause old end piece x y server.Failed on small halts failed shut none = λ c at. absurd (true_false (sym (failed refl) ∙ (at.live on).failed))
feed_cause old end piece x y _ on small halts failed shut none = absurd none

-- if a request waits, and if none does
waits_asked : (b : Bool) (h : History) → b ≡ true → WaitsWithRequest h → WaitsIf b h
waits_asked true h e w = w
waits_asked false h e w = absurd (false_true e)
  where
    false_true : false ≡ true → ⊥
    false_true e = cc

waits_only : (b : Bool) (h : History) → SymbolsWait h → WaitsIf b h
waits_only true h w = inr w
waits_only false h w = w

asks_in : (c : Run) (t : Term) → t.progress.asks ≡ true → LeadsTo c t → c.progress.asks ≡ true
asks_in c t e at = ap (λ p. p.asks) (sym at.progress) ∙ e

after_items : (c : Run) (piece : List ℕ) (xs : List Item) (f : ServerFault) → f ≡ server.Memory → Reads c piece xs → WaitsIf c.progress.asks (gets c.history xs)
    → IsRefusalCause c (Piece piece) f
after_items c piece xs f e r w = subst (λ (g : ServerFault). IsRefusalCause c (Piece piece) g) (sym e) (inr (inr (xs, r, w)))

-- a piece was fed, and then the entries could not be asked for
pub asked_cause : (old mid : Term) (piece x y : List ℕ) (f : ServerFault) → old.progress.asks ≡ true → Feeds old piece x y mid → f ≡ server.Memory
    → ((c : Run) → LeadsTo c mid → SaysSomething c.history took) → RefusesFor old (Piece piece) f
asked_cause old mid piece x y f asks fed e says = λ c at.
    let xs = fed.items in
    after_items c piece xs f e (fed.reads c at) (waits_asked c.progress.asks (gets c.history xs) (asks_in c old asks at)
    (inl (says (feed piece xs c) (fed.does.leads c at))))

fed_waits : (old mid : Term) (piece x y : List ℕ) → Feeds old piece x y mid → ((c : Run) → LeadsTo c mid → SymbolsWait c.history) → (f : ServerFault)
    → f ≡ server.Memory → RefusesFor old (Piece piece) f
fed_waits old mid piece x y fed waits f e = λ c at.
    let xs = fed.items in
    after_items c piece xs f e (fed.reads c at) (waits_only c.progress.asks (gets c.history xs) (waits (feed piece xs c) (fed.does.leads c at)))

-- OTHER MESSAGES
-- the facts of a refused call about its fault and about why memory runs out
pub stuck_cause : {A : Type 0} (old : Term) (m : Message) (r : Result A Stuck) (W : Type 0) → IfErr r (λ s. s.fault ≡ server.Memory) → OnErr r W
    → (W → (f : ServerFault) → f ≡ server.Memory → RefusesFor old m f) → IfErr r (λ s. RefusesFor old m s.fault)
stuck_cause old m (Ok a) W is waits make = tt
stuck_cause old m (Err s) W is waits make = make waits s.fault is

-- a piece was fed, and then its symbols could not be pulled
pub fed_cause : {A : Type 0} (old mid : Term) (piece x y : List ℕ) (r : Result A Stuck) → Feeds old piece x y mid → IfErr r (λ s. s.fault ≡ server.Memory)
    → OnErr r ((c : Run) → LeadsTo c mid → SymbolsWait c.history) → IfErr r (λ s. RefusesFor old (Piece piece) s.fault)
fed_cause old mid piece x y r fed is waits = stuck_cause old (Piece piece) r _ is waits (fed_waits old mid piece x y fed)

-- a piece was fed, the entries were asked for, and then the step was refused
pub answered_cause : {A : Type 0} (old mid last : Term) (piece x y u v : List ℕ) (put : List (Option Entry)) (r : Result A Stuck) → Feeds old piece x y mid
    → AdvancesRun ask mid u v put last → IfErr r (λ s. s.fault ≡ server.Memory) → OnErr r ((c : Run) → LeadsTo c last → SymbolsWait c.history)
    → IfErr r (λ s. RefusesFor old (Piece piece) s.fault)
answered_cause old mid last piece x y u v put r fed asked is waits =
    stuck_cause old (Piece piece) r _ is waits (λ w. fed_waits old mid piece x y fed (wait_asked mid last u v put asked w))

pub take_cause : {A : Type 0} (old : Term) (r : Result A Stuck) → IfErr r (λ s. s.fault ≡ server.Memory)
    → OnErr r ((c : Run) → LeadsTo c old → WaitsWithRequest c.history) → IfErr r (λ s. RefusesFor old Take s.fault)
take_cause old r is waits = stuck_cause old Take r _ is waits (λ w f e c at. (e, w c at))

pub said_cause : {A : Type 0} (old mid : Term) (id : JobId) (text : List ℕ) (after : After) (echo : Option Bool) (x y : List ℕ) (r : Result A Stuck)
    → old.progress.over ≡ false → echo ≡ echo_by (is_foreground (state_at old.table id.0)) after → mid ≡ record old { end = mid.end }
    → AdvancesRun (turn_echo echo) old x y [] mid → IfErr r (λ s. s.fault ≡ server.Memory) → OnErr r ((c : Run) → LeadsTo c mid
    → WaitsWithText (writes (verdict_at (state_at mid.table id.0) (has_text text) after mid.tostop)) c.history text)
    → IfErr r (λ s. RefusesFor old (Said id text after) s.fault)
said_cause old mid id text after echo x y r on asked rest does is waits =
    stuck_cause old (Said id text after) r _ is waits (λ w f e c at.
    let P : Option Verdict × Option Bool → Type 0 = λ u. WaitsWithText (writes u.0) (echoed u.1 c.history) text in
    let v = echoed_verdict id.0 text after old mid c on rest at in
    let o = echo_as id.0 after echo old c on asked at in
    (e, inr (subst P (λ i. (v i, o i)) (w (turn_echo echo c) (does.leads c at)))))

-- the echo could not be announced to the client
pub echo_cause : (old : Term) (id : JobId) (text : List ℕ) (after : After) (echo : Option Bool) (f : ServerFault) → old.progress.over ≡ false
    → echo ≡ echo_by (is_foreground (state_at old.table id.0)) after → ((c : Run) → LeadsTo c old → (f ≡ server.Memory) × TellsEcho echo c.history)
    → RefusesFor old (Said id text after) f
echo_cause old id text after echo f on asked tells = λ c at.
    let t = tells c at in
    (t.0, inl (subst (λ (o : Option Bool). TellsEcho o c.history) (echo_as id.0 after echo old c on asked at) t.1))

-- an end that has not failed refuses a call only when out of memory
pub is_memory : (failed : Bool) (f : ServerFault) → failed ≡ false → IsFault (if failed then Some server.Failed else None) f → f ≡ server.Memory
is_memory true f e is = absurd (true_false e)
is_memory false f e is = is

-- a message that brings nothing itself
abbrev pub IsQuiet : Message → Type 0
IsQuiet HangUp = Unit {0}
IsQuiet ReadFailed = Unit {0}
IsQuiet Refused = Unit {0}
IsQuiet Left = Unit {0}
IsQuiet (Resized size) = Unit {0}
IsQuiet (Asked control) = Unit {0}
IsQuiet _ = ⊥

quiet : (c : Run) (m : Message) (f : ServerFault) → IsQuiet m → f ≡ server.Memory → SymbolsWait c.history → IsRefusalCause c m f
quiet c (Piece piece) f q e w = absurd q
quiet c Take f q e w = absurd q
quiet c (Said id text after) f q e w = absurd q
quiet c _ f q e w = (e, w)

pub quiet_cause : {A : Type 0} (change : Run → Run) (old mid : Term) (m : Message) (x y : List ℕ) (put : List (Option Entry)) (r : Result A Stuck) → IsQuiet m
    → ((c : Run) → (change c).history ≡ c.history) → AdvancesRun change old x y put mid → IfErr r (λ s. s.fault ≡ server.Memory)
    → OnErr r ((c : Run) → LeadsTo c mid → SymbolsWait c.history) → IfErr r (λ s. RefusesFor old m s.fault)
quiet_cause change old mid m x y put r q stays does is waits =
    stuck_cause old m r _ is waits (λ w f e c at. quiet c m f q e (subst SymbolsWait (stays c) (w (change c) (does.leads c at))))

pub on_err : {A E : Type 0} (D W : Type 0) (r : Result A E) → (D → W) → OnErr r D → OnErr r W
on_err D W (Ok x) make h = tt
on_err D W (Err e) make h = make h
