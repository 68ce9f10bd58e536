-- If a hang-up ends the run, all entries were put before the end.
use Rattle.std.proofs.Common.{◌≡◌, ◌≢◌, ℕ, ◌+◌, nat_lt, Bool, true, false, ◌&&◌, Option, Some, None, List, [], ◌∷◌, ◌++◌, length, drop, map, refl, sym, ap, ◌∙◌}
use Rattle.std.proofs.Common.{subst, append-nil, append_assoc, drop-drop, if◌then◌else◌}
use Rattle.std.specs.List.{FoldsTo}
use Rattle.tn_discipline.specs.{Canon.Canon, declared.reads.Entry.Entry}
use Rattle.tn_jobs.specs.{Jobs.{Jobs, state_at, with_state, is_foreground}, declared.verdicts.{After.After, JobState.JobState, Verdict.Verdict}}
use Rattle.tn_jobs.specs.declared.verdicts.After.TheVariants as next
use Rattle.tn_jobs.specs.declared.verdicts.JobState.TheVariants as job
use Rattle.tn_server.specs.{Events.{History, next as grown, took, wrote}, Lines.{entries, taken_count, waiting}, declared.openings.Approach.Approach}
use Rattle.tn_cores.proofs.lemmas.server.Giving.{acts_of, gives_acts, gives_gets, gives_start}
use Rattle.tn_cores.specs.{Counting.first_end, server.{Giving.{entries_put, Gives}, Marks.{Turns, Runs, put_or_not, run_after_opening}}, Pieces.bytes_in}
use Rattle.tn_cores.specs.{server.Hearing.{heard, at_end_after, MayCome, MayAllCome, KeepsOn, AllKeepOn, HangsUp}, declared.faults.Ended.Ended}
use Rattle.tn_cores.specs.server.Run.{Run, Acts, ActsUnless, flush, feed, ask, ask_if, answer, end_if, hang_up, move, stop_job, end_job, in_foreground, verdict}
use Rattle.tn_cores.specs.server.Run.{verdict_at, has_text, tostop, echo_by, turn_echo, after_said, halt_if, is_end, show, start}
use Rattle.tn_cores.specs.declared.{messages.Message.Message, faults.SessionFault.SessionFault, server.messages.ServerMark.ServerMark}
use Rattle.tn_cores.specs.declared.messages.Message.TheVariants.{Piece, HangUp, ReadFailed, Take, Said, Refused, Left, Resized, Asked}
use Rattle.tn_cores.specs.declared.faults.Ended.TheVariants as ended
use Rattle.tn_cores.specs.declared.faults.SessionFault.TheVariants as fault
use Rattle.tn_cores.specs.declared.server.messages.ServerMark.TheVariants as mark

true_false : true ≡ false → ⊥
true_false e = cc

false_true : false ≡ true → ⊥
false_true e = cc

-- WHAT WAS PUT BEFORE THE FIRST END

abbrev cons_end : Entry → Option (List Entry) → Option (List Entry)
cons_end e None = None
cons_end e (Some es) = Some (e ∷ es)

abbrev before_end : List (Option Entry) → Option (List Entry)
before_end [] = None
before_end (None ∷ puts) = Some []
before_end (Some e ∷ puts) = cons_end e (before_end puts)

cons_none : (e : Entry) (o : Option (List Entry)) → cons_end e o ≡ None → o ≡ None
cons_none e None is = refl
cons_none e (Some es) is = cc

cons_some : (e : Entry) (o : Option (List Entry)) (es : List Entry) → cons_end e o ≡ Some es → (fs : List Entry) × (o ≡ Some fs) × (es ≡ e ∷ fs)
cons_some e None es is = absurd (none_some is)
  where
    none_some : None ≡ Some es → ⊥
    none_some is = cc
cons_some e (Some fs) es is = (fs, refl, cc)

-- the first end stays the first if more is put
end_stays : (ps qs : List (Option Entry)) (es : List Entry) → before_end ps ≡ Some es → before_end (ps ++ qs) ≡ Some es
end_stays [] qs es is = cc
end_stays (None ∷ ps) qs es is = is
end_stays (Some e ∷ ps) qs es is =
    let c = cons_some e (before_end ps) es is in
    ap (cons_end e) (end_stays ps qs c.0 c.1) ∙ ap (λ (xs : List Entry). Some xs) (sym c.2)

end_put : (ps : List (Option Entry)) → before_end ps ≡ None → before_end (ps ++ None ∷ []) ≡ Some (entries_put ps)
end_put [] none = refl
end_put (None ∷ ps) none = cc
end_put (Some e ∷ ps) none = ap (cons_end e) (end_put ps (cons_none e (before_end ps) none))

end_entry : (ps : List (Option Entry)) (w : Entry) → before_end ps ≡ None → before_end (ps ++ Some w ∷ []) ≡ None
end_entry [] w none = refl
end_entry (None ∷ ps) w none = cc
end_entry (Some e ∷ ps) w none = ap (cons_end e) (end_entry ps w (cons_none e (before_end ps) none))

end_at : (given : List Entry) (more : List (Option Entry)) → before_end (map (λ e. Some e) given ++ None ∷ more) ≡ Some given
end_at [] more = refl
end_at (e ∷ es) more = ap (cons_end e) (end_at es more)

some_is : (a b : List Entry) → Some a ≡ Some b → a ≡ b
some_is a b e = cc

none_some : (o : Option (List Entry)) (es : List Entry) → o ≡ None → o ≡ Some es → ⊥
none_some o es e f = cc

-- an end was put only once input had ended, and all entries before it
abbrev Ends : Bool → List (Option Entry) → List Entry → Type 0
Ends at_end puts all = (es : List Entry) → before_end puts ≡ Some es → (at_end ≡ true) × (es ≡ all)

ends_more : (at_end : Bool) (ps qs : List (Option Entry)) (all : List Entry) → Ends at_end ps all → (before_end ps ≡ None → Ends at_end (ps ++ qs) all)
    → Ends at_end (ps ++ qs) all
ends_more at_end ps qs all old new = by (before_end ps) refl
  where
    by : (o : Option (List Entry)) → before_end ps ≡ o → Ends at_end (ps ++ qs) all
    by None e = new e
    by (Some fs) e = λ es is. let o = old fs e in (o.0, some_is es fs (sym is ∙ end_stays ps qs fs e) ∙ o.1)

all_put : (ps : List (Option Entry)) (h : History) → Gives ps h → waiting h ≡ [] → entries_put ps ≡ entries h
all_put ps h g none = sym (append-nil (entries_put ps)) ∙ ap (λ (es : List Entry). entries_put ps ++ es) (sym none) ∙ g.all

ends_if : (at_end b : Bool) (ps : List (Option Entry)) (h : History) → Gives ps h → (b ≡ true → (at_end ≡ true) × (waiting h ≡ [])) → Ends at_end ps (entries h)
    → Ends at_end (ps ++ end_if b) (entries h)
ends_if at_end true ps h g on old =
    ends_more at_end ps (None ∷ []) (entries h) old (λ none es is.
    ((on refl).0, some_is es (entries_put ps) (sym is ∙ end_put ps none) ∙ all_put ps h g (on refl).1))
ends_if at_end false ps h g on old = let P : List (Option Entry) → Type 0 = λ qs. Ends at_end qs (entries h) in subst P (sym (append-nil ps)) old

ends_entry : (at_end : Bool) (ps : List (Option Entry)) (w : Entry) (all : List Entry) → Ends at_end ps all → Ends at_end (ps ++ Some w ∷ []) all
ends_entry at_end ps w all old = ends_more at_end ps (Some w ∷ []) all old (λ none es is. absurd (none_some _ es (end_entry ps w none) is))

-- THE END OF THE SESSION

first_none : (a b : Ended) → first_end a b ≡ ended.HangUp → a ≡ ended.HangUp
first_none ended.HangUp b e = refl
first_none _ b e = cc

not_done : (a : Ended) → first_end a ended.Done ≡ ended.HangUp → ⊥
not_done ended.HangUp e = cc
not_done _ e = cc

not_fault : (a : Ended) (f : SessionFault) → first_end a (ended.Fault f) ≡ ended.HangUp → ⊥
not_fault ended.HangUp f e = cc
not_fault _ f e = cc

abbrev pub ended_of : Run → Ended
ended_of c = c.progress.ended

answer_ended : (c : Run) (ws : List Entry) → ended_of (answer c ws) ≡ ended_of c
answer_ended c [] = refl
answer_ended c (w ∷ ws) = refl

pub ask_ended : (b : Bool) (c : Run) → ended_of (ask_if b c) ≡ ended_of c
ask_ended true c = answer_ended (record c { history = grown c.history took }) (waiting c.history)
ask_ended false c = refl

pub halt_ended : (b : Bool) (c : Run) → ended_of (halt_if b c) ≡ ended_of c
halt_ended true c = refl
halt_ended false c = refl

move_ended : (id : ℕ) (state : JobState) (c : Run) → ended_of (move id state c) ≡ ended.HangUp → ended_of c ≡ ended.HangUp
move_ended id (job.Stopped why) c e = stop (in_foreground c id) e
  where
    stop : (b : Bool) → ended_of (stop_job id why b c) ≡ ended.HangUp → ended_of c ≡ ended.HangUp
    stop true e = e
    stop false e = e
move_ended id job.Ended c e = end (in_foreground c id) e
  where
    end : (b : Bool) → ended_of (end_job id b c) ≡ ended.HangUp → ended_of c ≡ ended.HangUp
    end true e = first_none (ended_of c) ended.Done e
    end false e = e
move_ended id _ c e = e

said_ended : (id : ℕ) (parts : List (List ℕ)) (v : Option Verdict) (c : Run) → ended_of (after_said id parts v c) ≡ ended.HangUp → ended_of c ≡ ended.HangUp
said_ended id parts None c e = e
said_ended id parts (Some v) c e = move_ended id v.next c (sym (halt_ended (is_end v.next && in_foreground c id) (flush (show parts (move id v.next c)))) ∙ e)

acts_ended : (c new : Run) (m : Message) → Acts c m new → ended_of new ≡ ended.HangUp → ended_of c ≡ ended.HangUp
acts_ended c new (Piece piece) a e = sym (ask_ended c.progress.asks (feed piece a.0 c)) ∙ sym (ap ended_of a.2) ∙ e
acts_ended c new ReadFailed a e = first_none (ended_of c) (ended.Fault fault.Read) (sym (ap ended_of a) ∙ e)
acts_ended c new Take a e = sym (ask_ended true c) ∙ sym (ap ended_of a) ∙ e
acts_ended c new (Said id text after) a e =
    said_ended id.0 a.0 _ (turn_echo (echo_by (in_foreground c id.0) after) c) (sym (ap ended_of a.2) ∙ e)
acts_ended c new Refused a e = first_none (ended_of c) (ended.Fault fault.Memory) (sym (ap ended_of a) ∙ e)
acts_ended c new _ a e = sym (ap ended_of a) ∙ e

handles_ended : (o : Bool) (c new : Run) (m : Message) → ActsUnless o c m new → ended_of new ≡ ended.HangUp → ended_of c ≡ ended.HangUp
handles_ended true c new m a e = sym (ap ended_of a) ∙ e
handles_ended false c new m a e = acts_ended c new m a e

-- a message after which a hang-up may still end the run was done wholly
turned_whole : (c new : Run) (m : Message) (k : ServerMark) → Turns c (m, k) new → ended_of new ≡ ended.HangUp → ActsUnless c.progress.over c m new
turned_whole c new m mark.Whole t e = t
turned_whole c new m mark.WriteFailed t e = absurd (not_fault (ended_of t.1) fault.Write (sym (ap ended_of t.3) ∙ e))
turned_whole c new m (mark.Refused f put) t e = absurd (not_fault (ended_of (put_or_not put m c t.1)) (fault.Server f) (sym (ap ended_of t.3) ∙ e))

runs_ended : (marked : List (Message × ServerMark)) (c new : Run) → FoldsTo Turns c marked new → ended_of new ≡ ended.HangUp → ended_of c ≡ ended.HangUp
runs_ended [] c new f e = ap ended_of f ∙ e
runs_ended ((m, k) ∷ marked) c new f e =
    let mid = runs_ended marked f.0 new f.2 e in
    handles_ended c.progress.over c f.0 m (turned_whole c f.0 m k f.1 mid) mid

-- A RUN THAT NOTHING HAS ENDED

-- a request waits only while no entry does, an end was put only after all entries, and this job is in the foreground
record Calm (id : ℕ) (c : Run) : Type 0 where
  on : c.progress.over ≡ false
  gives : Gives c.puts c.history
  asks : c.progress.asks ≡ true → waiting c.history ≡ []
  ends : Ends c.progress.at_end c.puts (entries c.history)
  front : state_at c.jobs id ≡ Some job.Foreground

-- the effect of the message, in such a run
record CalmOn (id : ℕ) (m : Message) (c new : Run) : Type 0 where
  calm : Calm id new
  at_end : new.progress.at_end ≡ at_end_after c.progress.at_end m
  keeps : KeepsOn id m
  stream : new.stream ≡ c.stream ++ bytes_in m

calm_as : (id : ℕ) (m : Message) (c d new : Run) → new ≡ d → CalmOn id m c d → CalmOn id m c new
calm_as id m c d new e a = let P : Run → Type 0 = λ u. CalmOn id m c u in subst P (sym e) a

calm_flush : (id : ℕ) (c : Run) → Calm id c → Calm id (flush c)
calm_flush id c s = record { on = s.on; gives = record { all = s.gives.all; taken = s.gives.taken }; asks = s.asks; ends = s.ends; front = s.front }

calm_show : (id : ℕ) (parts : List (List ℕ)) (c : Run) → Calm id c → Calm id (show parts c)
calm_show id [] c s = s
calm_show id (part ∷ parts) c s =
    let d = record c { history = grown c.history (wrote part) } in
    let one : Calm id d = record { on = s.on; gives = record { all = s.gives.all; taken = s.gives.taken }; asks = s.asks; ends = s.ends; front = s.front } in
    calm_show id parts (flush d) (calm_flush id d one)

calm_echo : (id : ℕ) (echo : Option Bool) (c : Run) → Calm id c → Calm id (turn_echo echo c)
calm_echo id None c s = record { on = s.on; gives = s.gives; asks = s.asks; ends = s.ends; front = s.front }
calm_echo id (Some on) c s =
    record { on = s.on; gives = record { all = s.gives.all; taken = s.gives.taken }; asks = s.asks; ends = s.ends; front = s.front }

-- if no entry waits, asking takes none
asked_none : (h : History) → waiting h ≡ [] → waiting (grown h took) ≡ []
asked_none h none = by (nat_lt (taken_count h) (length (entries h)))
  where
    by : (b : Bool) → drop (if b then taken_count h + 1 else taken_count h) (entries h) ≡ []
    by true = sym (drop-drop 1 (taken_count h) (entries h)) ∙ ap (λ (es : List Entry). drop 1 es) none
    by false = none

-- the run after the answer to a request
record IsAsked (c new : Run) : Type 0 where
  on : new.progress.over ≡ c.progress.over
  at_end : new.progress.at_end ≡ c.progress.at_end
  asks : new.progress.asks ≡ true → waiting new.history ≡ []
  ends : Ends new.progress.at_end new.puts (entries new.history)
  jobs : new.jobs ≡ c.jobs
  stream : new.stream ≡ c.stream

answered : (c : Run) (ws : List Entry) → waiting c.history ≡ ws → Gives c.puts c.history → Ends c.progress.at_end c.puts (entries c.history)
    → IsAsked c (answer (record c { history = grown c.history took }) ws)
answered c [] e g old = record {
  on = refl;
  at_end = refl;
  asks = λ a. asked_none c.history e;
  ends = ends_if c.progress.at_end c.progress.at_end c.puts c.history g (λ b. (b, e)) old;
  jobs = refl;
  stream = refl;
}
answered c (w ∷ ws) e g old = record {
  on = refl;
  at_end = refl;
  asks = λ a. absurd (false_true a);
  ends = ends_entry c.progress.at_end c.puts w (entries c.history) old;
  jobs = refl;
  stream = refl;
}

asked_if : (b : Bool) (c : Run) → c.progress.asks ≡ b → Gives c.puts c.history → Ends c.progress.at_end c.puts (entries c.history) → IsAsked c (ask_if b c)
asked_if true c asks g old = answered c (waiting c.history) refl g old
asked_if false c asks g old = record { on = refl; at_end = refl; asks = λ a. absurd (false_true (sym asks ∙ a)); ends = old; jobs = refl; stream = refl }

-- all is pulled after the answer to a request
calm_asked : (id : ℕ) (m : Message) (c d e new : Run) → new ≡ flush e → Gives new.puts new.history → IsAsked d e → d.progress.over ≡ false
    → d.progress.at_end ≡ at_end_after c.progress.at_end m → state_at d.jobs id ≡ Some job.Foreground → d.stream ≡ c.stream ++ bytes_in m → KeepsOn id m
    → CalmOn id m c new
calm_asked id m c d e new is gives a on at_end front stream keeps =
    let P : Run → Type 0 = λ u. Gives u.puts u.history in
    calm_as id m c (flush e) new is (record {
      calm = record {
        on = a.on ∙ on;
        gives = subst P is gives;
        asks = a.asks;
        ends = a.ends;
        front = ap (λ (jobs : Jobs). state_at jobs id) a.jobs ∙ front;
      };
      at_end = a.at_end ∙ at_end;
      keeps = keeps;
      stream = a.stream ∙ stream;
    })

-- no end was put while input goes on
no_end : (at_end : Bool) (puts : List (Option Entry)) (all other : List Entry) → at_end ≡ false → Ends at_end puts all → Ends at_end puts other
no_end at_end puts all other on old = λ es is. absurd (true_false (sym (old es is).0 ∙ on))

-- A JOB'S REACTION

abbrev OthersStay : Type 0
OthersStay = (jobs : Jobs) (id other : ℕ) (state : Option JobState) → other ≢ id → state_at (with_state jobs id state) other ≡ state_at jobs other

-- the job is moved, and another one is in the foreground, or it stays there
record Moved (id : ℕ) (at : ℕ) (state : JobState) (c new : Run) : Type 0 where
  calm : Calm id new
  at_end : new.progress.at_end ≡ c.progress.at_end
  stream : new.stream ≡ c.stream
  no_end : (is_end state && in_foreground c at) ≡ false

apart : (id at : ℕ) (c : Run) → state_at c.jobs id ≡ Some job.Foreground → in_foreground c at ≡ false → id ≢ at
apart id at c front off same =
    true_false (sym (ap (λ (s : Option JobState). is_foreground s) front) ∙ ap (in_foreground c) same ∙ off)

calm_jobs : (id at : ℕ) (c : Run) (state : Option JobState) → OthersStay → Calm id c → in_foreground c at ≡ false
    → Calm id (record c { jobs = with_state c.jobs at state })
calm_jobs id at c state others s off = record {
  on = s.on;
  gives = record { all = s.gives.all; taken = s.gives.taken };
  asks = s.asks;
  ends = s.ends;
  front = others c.jobs at id state (apart id at c s.front off) ∙ s.front;
}

moved : (id at : ℕ) (state : JobState) (c : Run) → OthersStay → Calm id c → ended_of (move at state c) ≡ ended.HangUp → Moved id at state c (move at state c)
moved id at (job.Stopped why) c others s e = stop (in_foreground c at) refl
  where
    stop : (b : Bool) → in_foreground c at ≡ b → Moved id at (job.Stopped why) c (stop_job at why b c)
    stop true is = record {
      calm = record { on = s.on; gives = record { all = s.gives.all; taken = s.gives.taken }; asks = s.asks; ends = s.ends; front = s.front };
      at_end = refl;
      stream = refl;
      no_end = refl;
    }
    stop false is = record { calm = calm_jobs id at c (Some (job.Stopped why)) others s is; at_end = refl; stream = refl; no_end = refl }
moved id at job.Ended c others s e = end (in_foreground c at) refl e
  where
    end : (b : Bool) → in_foreground c at ≡ b → ended_of (end_job at b c) ≡ ended.HangUp → Moved id at job.Ended c (end_job at b c)
    end true is f = absurd (not_done (ended_of c) f)
    end false is f = record { calm = calm_jobs id at c None others s is; at_end = refl; stream = refl; no_end = is }
moved id at _ c others s e = record { calm = s; at_end = refl; stream = refl; no_end = refl }

-- the reaction left the job in the foreground
record SaidOn (id : ℕ) (c new : Run) : Type 0 where
  calm : Calm id new
  at_end : new.progress.at_end ≡ c.progress.at_end
  stream : new.stream ≡ c.stream

said_on : (id at : ℕ) (parts : List (List ℕ)) (v : Option Verdict) (c : Run) → OthersStay → Calm id c → ended_of (after_said at parts v c) ≡ ended.HangUp
    → SaidOn id c (after_said at parts v c)
said_on id at parts None c others s e = record { calm = calm_flush id c s; at_end = refl; stream = refl }
said_on id at parts (Some v) c others s e =
    let m = move at v.next c in
    let d = flush (show parts m) in
    let one = moved id at v.next c others s (sym (halt_ended (is_end v.next && in_foreground c at) d) ∙ e) in
    let P : Bool → Type 0 = λ b. SaidOn id c (halt_if b d) in
    subst P (sym one.no_end) (record { calm = calm_flush id (show parts m) (calm_show id parts m one.calm); at_end = one.at_end; stream = one.stream })

-- the end of the job in the foreground would have ended the session
done_ends : (id : ℕ) (text : List ℕ) (parts : List (List ℕ)) (echo : Option Bool) (c : Run) → state_at c.jobs id ≡ Some job.Foreground
    → ended_of (after_said id parts (verdict c id text next.Done) (turn_echo echo c)) ≡ ended.HangUp → ⊥
done_ends id text parts echo c front e =
    let v : verdict c id text next.Done ≡ Some (record { write = has_text text; next = job.Ended }) =
    ap (λ (s : Option JobState). verdict_at s (has_text text) next.Done (tostop c)) front in
    let there : in_foreground c id ≡ true = ap (λ (s : Option JobState). is_foreground s) front in
    let d : Bool → Run = λ b. flush (show parts (end_job id b (turn_echo echo c))) in
    let P : Option Verdict → Type 0 = λ u. ended_of (after_said id parts u (turn_echo echo c)) ≡ ended.HangUp in
    let Q : Bool → Type 0 = λ b. ended_of (halt_if b (d b)) ≡ ended.HangUp in
    not_done (ended_of c) (subst Q there (subst P v e))

-- ANY MESSAGE

calm_acts : (id : ℕ) (c new : Run) (m : Message) → OthersStay → Acts c m new → ended_of new ≡ ended.HangUp → MayCome c.progress.at_end m → Calm id c
    → CalmOn id m c new
calm_acts id c new (Piece piece) others a e may s =
    let fed = feed piece a.0 c in
    let gives = gives_gets c.puts c.history a.0 s.gives in
    let ends = no_end c.progress.at_end c.puts (entries c.history) (entries fed.history) may s.ends in
    calm_asked id (Piece piece) c fed (ask_if c.progress.asks fed) new a.2 (gives_acts c new (Piece piece) a s.gives)
    (asked_if c.progress.asks fed refl gives ends) s.on refl s.front refl tt
calm_acts id c new HangUp others a e may s =
    calm_as id HangUp c (flush (hang_up c)) new a (record {
      calm = record {
        on = s.on;
        gives = (let P : Run → Type 0 = λ u. Gives u.puts u.history in subst P a (gives_acts c new HangUp a s.gives));
        asks = λ w. absurd (false_true w);
        ends = ends_if true c.progress.asks c.puts c.history s.gives (λ b. (refl, s.asks b)) (λ es is. (refl, (s.ends es is).1));
        front = s.front;
      };
      at_end = refl;
      keeps = tt;
      stream = sym (append-nil c.stream);
    })
calm_acts id c new ReadFailed others a e may s = absurd (not_fault (ended_of c) fault.Read (sym (ap ended_of a) ∙ e))
calm_acts id c new Take others a e may s =
    calm_asked id Take c c (ask c) new a (gives_acts c new Take a s.gives) (answered c (waiting c.history) refl s.gives s.ends) s.on refl s.front
    (sym (append-nil c.stream)) tt
calm_acts id c new (Said job text after) others a e may s =
    let echo = echo_by (in_foreground c job.0) after in
    let f = sym (ap ended_of a.2) ∙ e in
    let one = said_on id job.0 a.0 (verdict c job.0 text after) (turn_echo echo c) others (calm_echo id echo c s) f in
    calm_as id (Said job text after) c (after_said job.0 a.0 (verdict c job.0 text after) (turn_echo echo c)) new a.2 (record {
      calm = one.calm;
      at_end = one.at_end;
      keeps = λ done same. ends_here echo done same f;
      stream = one.stream ∙ sym (append-nil c.stream);
    })
  where
    ends_here : (echo : Option Bool) → after ≡ next.Done → job.0 ≡ id
        → ended_of (after_said job.0 a.0 (verdict c job.0 text after) (turn_echo echo c)) ≡ ended.HangUp → ⊥
    ends_here echo done same f =
        let P : After → Type 0 = λ u. ended_of (after_said job.0 a.0 (verdict c job.0 text u) (turn_echo echo c)) ≡ ended.HangUp in
        done_ends job.0 text a.0 echo c (ap (state_at c.jobs) same ∙ s.front) (subst P done f)
calm_acts id c new Refused others a e may s = absurd (not_fault (ended_of c) fault.Memory (sym (ap ended_of a) ∙ e))
calm_acts id c new Left others a e may s =
    calm_as id Left c (flush c) new a (record { calm = calm_flush id c s; at_end = refl; keeps = tt; stream = sym (append-nil c.stream) })
calm_acts id c new (Resized size) others a e may s =
    calm_as id (Resized size) c (flush c) new a (record { calm = calm_flush id c s; at_end = refl; keeps = tt; stream = sym (append-nil c.stream) })
calm_acts id c new (Asked control) others a e may s =
    calm_as id (Asked control) c (flush c) new a (record { calm = calm_flush id c s; at_end = refl; keeps = tt; stream = sym (append-nil c.stream) })

-- ALL MESSAGES

abbrev messages : List (Message × ServerMark) → List Message
messages marked = map (λ m. m.0) marked

record AllCalm (id : ℕ) (ms : List Message) (c new : Run) : Type 0 where
  calm : Calm id new
  keeps : AllKeepOn id ms
  stream : new.stream ≡ c.stream ++ heard ms

all_calm : (id : ℕ) (marked : List (Message × ServerMark)) (c new : Run) → OthersStay → FoldsTo Turns c marked new → ended_of new ≡ ended.HangUp
    → MayAllCome c.progress.at_end (messages marked) → Calm id c → AllCalm id (messages marked) c new
all_calm id [] c new others f e may s =
    let P : Run → Type 0 = λ u. AllCalm id [] c u in
    subst P f (record { calm = s; keeps = tt; stream = sym (append-nil c.stream) })
all_calm id ((m, k) ∷ marked) c new others f e may s =
    let mid = runs_ended marked f.0 new f.2 e in
    let a = acts_of c.progress.over c f.0 m s.on (turned_whole c f.0 m k f.1 mid) in
    let one = calm_acts id c f.0 m others a mid may.0 s in
    let P : Bool → Type 0 = λ b. MayAllCome b (messages marked) in
    let more = all_calm id marked f.0 new others f.2 e (subst P (sym one.at_end) may.1) one.calm in
    record {
      calm = more.calm;
      keeps = (one.keeps, more.keeps);
      stream = more.stream ∙ ap (λ (bs : List ℕ). bs ++ heard (messages marked)) one.stream ∙ append_assoc c.stream (bytes_in m) (heard (messages marked));
    }

started : (id : ℕ) (canon : Canon) (approach : Approach) (jobs : Jobs) → state_at jobs id ≡ Some job.Foreground → Calm id (start canon approach jobs)
started id canon approach jobs front = record {
  on = refl;
  gives = gives_start canon approach;
  asks = λ a. absurd (false_true a);
  ends = λ es is. absurd (none_some None es refl is);
  front = front;
}

-- if the opening messages were not written, the session has failed
opened : (b : Bool) (canon : Canon) (approach : Approach) (jobs : Jobs) → ended_of (run_after_opening b (start canon approach jobs)) ≡ ended.HangUp → b ≡ true
opened true canon approach jobs e = refl
opened false canon approach jobs e = absurd (not_fault ended.HangUp fault.Write e)

pub hangs_up : (b : Bool) (canon : Canon) (approach : Approach) (jobs : Jobs) (id : ℕ) (marked : List (Message × ServerMark)) (new : Run) → OthersStay
    → Runs (run_after_opening b (start canon approach jobs)) marked new → ended_of new ≡ ended.HangUp → state_at jobs id ≡ Some job.Foreground
    → MayAllCome false (messages marked) → HangsUp id (messages marked) new
hangs_up b canon approach jobs id marked new others runs e front may =
    let begin = opened b canon approach jobs (runs_ended marked (run_after_opening b (start canon approach jobs)) new runs e) in
    let P : Bool → Type 0 = λ o. Runs (run_after_opening o (start canon approach jobs)) marked new in
    let all = all_calm id marked (start canon approach jobs) new others (subst P begin runs) e may (started id canon approach jobs front) in
    record {
      kept_on = all.keeps;
      all_heard = all.stream;
      all_put = λ given more is. (all.calm.ends given (ap before_end is ∙ end_at given more)).1;
    }
