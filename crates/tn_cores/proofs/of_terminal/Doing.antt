-- The steps of the actor, one after another.
use Rattle.std.proofs.{lemmas.List.Elements.{All-append, All-nil}, Common.append_assoc}
use Rattle.std.proofs.Common.{◌≡◌, ◌<◌, All, ℕ, Bool, true, false, List, [], ◌∷◌, ◌++◌, Option, Some, None, MatchOption, refl, sym, ap, ◌∙◌, subst, append-nil}
use Rattle.tn_discipline.specs.{declared.reads.Entry.Entry, Canon.Canon}
use Rattle.tn_cores.proofs.{lemmas.Pieces.read_as, of_terminal.Following.{follows_call, follows_then, follows_none, in_parts-push, spelled_on}}
use Rattle.tn_nvt.specs.Feeding as nvt
use Rattle.tn_nvt.specs.{declared.items.Item.Item, Spelling.spells}
use Rattle.tn_jobs.specs.{Jobs.{Jobs, state_at, is_foreground}, declared.verdicts.{JobState.{JobState, TheVariants.{Stopped, Ended}}, Why.Why}}
use Rattle.tn_server.specs.{Lines.waiting, Answering.Feeds as EndFeeds, Events.{History, next, took, wrote, items, begun, wished}, Calls.End}
use Rattle.tn_server.specs.{Replies.{items_said, opening as opening_words}, declared.openings.Approach.Approach, Steps.{end_after, says, says_items}}
use Rattle.tn_server.proofs.lemmas.{Ends.waits_are, Gathering.items_keep, Leading.{stands_fed, says_as, says_all}, Histories.{items-gets, opening-gets}}
use Rattle.tn_server.specs.Calls as server
use Rattle.tn_cores.specs.{declared.server.progress.ServerProgress.ServerProgress, server.Reaching.{LeadsTo, FollowsPath, AdvancesRun, Feeds, HaltsIf}}
use Rattle.tn_cores.specs.{declared.server.terminal.Term.Term, server.Counting.{after_answer, after_no_entry, after_piece, after_halt, nothing_yet}}
use Rattle.tn_cores.specs.server.Run.{Run, flushed_history, ask, answer, end_if, show, move, stop_job, end_job, in_foreground, halt, halt_if, start, opening}
use Rattle.tn_nvt.proofs.lemmas.Reading.{spells-append}

-- The history goes on by this path, and jobs and progress change.
pub does_all : (path : History → History) (turn : Jobs → Jobs) (step : ServerProgress → ServerProgress) (put : List (Option Entry)) (old new : Term) (end : End)
    (before after : List ℕ) → old.progress.over ≡ false → new ≡ record old { end = end; table = turn old.table; progress = step old.progress }
    → FollowsPath path old.end before after end → AdvancesRun (λ c.
    record { history = path c.history; stream = c.stream; puts = c.puts ++ put; jobs = turn c.jobs; progress = step c.progress }) old before after put new
does_all path turn step put old new end before after on is f = record {
  said = f.said;
  appended = f.appended;
  leads = λ c at. record {
    live = λ _.
        let l = at.live on in
        rw is (record {
          leads = f.leads c.history l.leads;
          read = read_as old.end.decoder end.decoder c.stream _ _ f.decoder (f.items c.history) l.read;
          bytes = l.bytes;
          failed = f.failed ∙ l.failed;
          closed = f.closed ∙ l.closed;
          tostop = l.tostop ∙ ap (λ s. s.flags.tostop) (sym (f.settings c.history));
          jobs = ap turn l.jobs;
        });
    progress = ap (λ (t : Term). t.progress) is ∙ ap step at.progress;
  };
  sends = λ c at. f.sends c.history (at.live on).leads;
  puts = λ c at. refl;
}

pub does_then : (f g : Run → Run) (a b d : Term) (x y z : List ℕ) (p q : List (Option Entry)) → AdvancesRun f a x y p b → AdvancesRun g b y z q d
    → AdvancesRun (λ c. g (f c)) a x z (p ++ q) d
does_then f g a b d x y z p q one two = record {
  said = one.said ++ two.said;
  appended = spelled_on x y z one.said two.said one.appended two.appended;
  leads = λ c at. two.leads (f c) (one.leads c at);
  sends = λ c at. two.sends (f c) (one.leads c at) ∙ ap (λ (xs : List Item). xs ++ two.said) (one.sends c at)
      ∙ append_assoc (items_said c.history) one.said two.said;
  puts = λ c at. two.puts (f c) (one.leads c at) ∙ ap (λ (ps : List (Option Entry)). ps ++ q) (one.puts c at) ∙ append_assoc c.puts p q;
}

pub does_same : (f g : Run → Run) (a b : Term) (x y : List ℕ) (p : List (Option Entry)) → ((c : Run) → LeadsTo c a → g c ≡ f c) → AdvancesRun f a x y p b
    → AdvancesRun g a x y p b
does_same f g a b x y p same one = record {
  said = one.said;
  appended = one.appended;
  leads = λ c at. let P : Run → Type 0 = λ d. LeadsTo d b in subst P (sym (same c at)) (one.leads c at);
  sends = λ c at. ap (λ (d : Run). items_said d.history) (same c at) ∙ one.sends c at;
  puts = λ c at. ap (λ (d : Run). d.puts) (same c at) ∙ one.puts c at;
}

-- a step in which only the history goes on
pub does_follow : (path : History → History) (old new : Term) (end : End) (before after : List ℕ) → old.progress.over ≡ false → new ≡ record old { end = end }
    → FollowsPath path old.end before after end → AdvancesRun (λ c. record c { history = path c.history }) old before after [] new
does_follow path old new end before after on is f =
    does_same _ (λ c. record c { history = path c.history }) old new before after []
    (λ c at. ap (λ (ps : List (Option Entry)). record c { history = path c.history; puts = ps }) (sym (append-nil c.puts)))
    (does_all path (λ j. j) (λ p. p) [] old new end before after on is f)

pub does_nothing : (t : Term) (x : List ℕ) → AdvancesRun (λ c. c) t x x [] t
does_nothing t x = record {
  said = [];
  appended = sym (append-nil x);
  leads = λ c at. at;
  sends = λ c at. sym (append-nil (items_said c.history));
  puts = λ c at. sym (append-nil c.puts);
}

-- an entry goes to Desk
pub does_answer : (old new : Term) (end : End) (e : Entry) (x y : List ℕ) → old.progress.over ≡ false
    → new ≡ record old { end = end; progress = after_answer old.progress } → end ≡ end_after old.end took
    → y ≡ x ++ spells (says old.end took) → old.end.terminal.entries ≡ e ∷ end.terminal.entries → AdvancesRun ask old x y (Some e ∷ []) new
does_answer old new end e x y on is step said entry =
    let f = follows_call old.end end took x y tt step said in
    let first : (h : History) → server.LeadsTo h old.end → waiting h ≡ e ∷ waiting (next h took) = λ h s.
    waits_are h old.end s ∙ entry ∙ ap (λ (es : List Entry). e ∷ es) (sym (waits_are (next h took) end (f.leads h s))) in
    does_same _ ask old new x y (Some e ∷ []) (λ c at. ap (answer (record c { history = next c.history took })) (first c.history (at.live on).leads))
    (does_all (λ h. next h took) (λ j. j) after_answer (Some e ∷ []) old new end x y on is f)

-- no entry waits
pub does_wait : (old new : Term) (end : End) (put : List (Option Entry)) (x y : List ℕ) → old.progress.over ≡ false
    → new ≡ record old { end = end; progress = after_no_entry old.progress } → put ≡ end_if old.progress.at_end → end ≡ end_after old.end took
    → y ≡ x ++ spells (says old.end took) → old.end.terminal.entries ≡ [] → AdvancesRun ask old x y put new
does_wait old new end put x y on is puts step said none =
    does_same _ ask old new x y put same (does_all (λ h. next h took) (λ j. j) after_no_entry put old new end x y on is
    (follows_call old.end end took x y tt step said))
  where
    same : (c : Run) → LeadsTo c old → ask c ≡ record {
      history = next c.history took;
      stream = c.stream;
      puts = c.puts ++ put;
      jobs = c.jobs;
      progress = after_no_entry c.progress;
    }
    same c at =
        ap (answer (record c { history = next c.history took })) (waits_are c.history old.end (at.live on).leads ∙ none)
        ∙ ap (λ (ps : List (Option Entry)). record {
          history = next c.history took;
          stream = c.stream;
          puts = c.puts ++ ps;
          jobs = c.jobs;
          progress = after_no_entry c.progress;
        }) (ap (λ (p : ServerProgress). end_if p.at_end) (sym at.progress) ∙ sym puts)

-- a piece came
pub feeds : (old new : Term) (end : End) (piece x y : List ℕ) → All (λ b. b < 256) piece → old.progress.over ≡ false
    → new ≡ record old { end = end; progress = after_piece old.progress } → EndFeeds old.end piece x y end → Feeds old piece x y new
feeds old new end piece x y small on is f =
    let keeps = f.step ∙ ap (λ (e : End). record e { decoder = end.decoder }) (items_keep old.end f.items) in
    record {
      items = f.items;
      reads = λ c at. let l = at.live on in let r = f.reads c.stream (items c.history) l.read in (r.rest, r.reading);
      does = record {
        said = says_items old.end f.items;
        appended = f.said;
        leads = λ c at. record {
          live = λ _.
              let l = at.live on in
              rw is (record {
                leads = stands_fed c.history old.end end piece x y f l.leads;
                read = rw (items-gets c.history f.items) (f.reads c.stream (items c.history) l.read);
                bytes = All-append (λ b. b < 256) c.stream piece l.bytes small;
                failed = ap (λ (e : End). e.failed) keeps ∙ l.failed;
                closed = ap (λ (e : End). e.terminal.closed) keeps ∙ l.closed;
                tostop = l.tostop ∙ ap (λ s. s.flags.tostop) (sym (opening-gets c.history f.items));
                jobs = l.jobs;
              });
          progress = ap (λ (t : Term). t.progress) is ∙ ap after_piece at.progress;
        };
        sends = λ c at. says_all c.history old.end f.items (at.live on).leads;
        puts = λ c at. sym (append-nil c.puts);
      };
    }

pub does_part : (old new : Term) (mid end : End) (part x y z : List ℕ) → old.progress.over ≡ false → new ≡ record old { end = end }
    → mid ≡ end_after old.end (wrote part) → y ≡ x → FollowsPath flushed_history mid y z end → AdvancesRun (show (part ∷ [])) old x z [] new
does_part old new mid end part x y z on is step same f =
    does_follow (λ h. flushed_history (next h (wrote part))) old new end x z on is
    (follows_then (λ h. next h (wrote part)) flushed_history old.end mid end x y z (follows_call old.end mid (wrote part) x y tt step (same ∙ sym (append-nil x))) f)

-- one more part
pub does_push : (done : List (List ℕ)) (part : List ℕ) (a b d : Term) (x y z : List ℕ) → AdvancesRun (show done) a x y [] b
    → AdvancesRun (show (part ∷ [])) b y z [] d → AdvancesRun (show (done ++ part ∷ [])) a x z [] d
does_push done part a b d x y z one two =
    does_same _ (show (done ++ part ∷ [])) a d x z [] (λ c at. ap (λ (h : History). record c { history = h }) (in_parts-push c.history done part))
    (does_then (show done) (show (part ∷ [])) a b d x y z [] [] one two)

pub of_some : {A : Type 0} (P : Type 0) (Q : A → Type 0) (o : Option A) (x : A) → o ≡ Some x → MatchOption o P Q → Q x
of_some {A} P Q o x e h = let R : Option A → Type 0 = λ u. MatchOption u P Q in subst R e h

pub of_none : {A : Type 0} (P : Type 0) (Q : A → Type 0) (o : Option A) → o ≡ None → MatchOption o P Q → P
of_none {A} P Q o e h = let R : Option A → Type 0 = λ u. MatchOption u P Q in subst R e h

pub does_jobs : (turn : Jobs → Jobs) (step : ServerProgress → ServerProgress) (put : List (Option Entry)) (old new : Term) (x : List ℕ) → old.progress.over
    ≡ false
    → new ≡ record old { table = turn old.table; progress = step old.progress }
    → AdvancesRun (λ c. record { history = c.history; stream = c.stream; puts = c.puts ++ put; jobs = turn c.jobs; progress = step c.progress }) old x x put new
does_jobs turn step put old new x on is = does_all (λ h. h) turn step put old new old.end x x on is (follows_none old.end x)

-- a step in which only jobs and progress change
pub does_turn : (turn : Jobs → Jobs) (step : ServerProgress → ServerProgress) (old new : Term) (x : List ℕ) → old.progress.over ≡ false
    → new ≡ record old { table = turn old.table; progress = step old.progress }
    → AdvancesRun (λ c. record c { jobs = turn c.jobs; progress = step c.progress }) old x x [] new
does_turn turn step old new x on is =
    does_same _ (λ c. record c { jobs = turn c.jobs; progress = step c.progress }) old new x x []
    (λ c at. ap (λ (ps : List (Option Entry)). record c { jobs = turn c.jobs; progress = step c.progress; puts = ps }) (sym (append-nil c.puts)))
    (does_jobs turn step [] old new x on is)

-- progress changes, and a request that waits is answered End
pub does_end : (step : ServerProgress → ServerProgress) (old new : Term) (put : List (Option Entry)) (x : List ℕ) → old.progress.over ≡ false
    → new ≡ record old { progress = step old.progress } → put ≡ end_if old.progress.asks
    → AdvancesRun (λ c. record c { puts = c.puts ++ end_if c.progress.asks; progress = step c.progress }) old x x put new
does_end step old new put x on is puts =
    does_same _ (λ c. record c { puts = c.puts ++ end_if c.progress.asks; progress = step c.progress }) old new x x put
    (λ c at. ap (λ (ps : List (Option Entry)). record c { puts = c.puts ++ ps; progress = step c.progress })
    (ap (λ (p : ServerProgress). end_if p.asks) (sym at.progress) ∙ sym puts)) (does_jobs (λ j. j) step put old new x on is)

pub foreground_as : (old : Term) (c : Run) (id : ℕ) (state : JobState) (b : Bool) → old.progress.over ≡ false → state_at old.table id ≡ Some state
    → b ≡ is_foreground (Some state) → LeadsTo c old → in_foreground c id ≡ b
foreground_as old c id state b on held is at =
    ap (λ (j : Jobs). is_foreground (state_at j id)) (sym (at.live on).jobs) ∙ ap is_foreground held ∙ sym is

pub does_stop : (id : ℕ) (state : JobState) (why : Why) (b : Bool) (old new : Term) (x : List ℕ) → old.progress.over ≡ false
    → state_at old.table id ≡ Some state → b ≡ is_foreground (Some state) → AdvancesRun (stop_job id why b) old x x [] new
    → AdvancesRun (move id (Stopped why)) old x x [] new
does_stop id state why b old new x on held is d =
    does_same (stop_job id why b) (move id (Stopped why)) old new x x []
    (λ c at. ap (λ (u : Bool). stop_job id why u c) (foreground_as old c id state b on held is at)) d

pub does_leave : (id : ℕ) (state : JobState) (b : Bool) (old new : Term) (x : List ℕ) → old.progress.over ≡ false → state_at old.table id ≡ Some state
    → b ≡ is_foreground (Some state) → AdvancesRun (end_job id b) old x x [] new → AdvancesRun (move id Ended) old x x [] new
does_leave id state b old new x on held is d =
    does_same (end_job id b) (move id Ended) old new x x [] (λ c at. ap (λ (u : Bool). end_job id u c) (foreground_as old c id state b on held is at)) d

-- the terminal is over: nothing is known of its end
pub is_over : (c : Run) (t : Term) → t.progress.over ≡ true → t.progress ≡ c.progress → LeadsTo c t
is_over c t off is = record {
  live = λ on. absurd (true_false (sym off ∙ on));
  progress = is;
}
  where
    true_false : true ≡ false → ⊥
    true_false e = cc

-- nothing has any effect from this message on
does_halt : (old new : Term) (put : List (Option Entry)) (x : List ℕ) → new ≡ record old { progress = after_halt old.progress } → put ≡ end_if old.progress.asks
    → AdvancesRun halt old x x put new
does_halt old new put x is puts = record {
  said = [];
  appended = sym (append-nil x);
  leads = λ c at. is_over (halt c) new (ap (λ (t : Term). t.progress.over) is) (ap (λ (t : Term). t.progress) is ∙ ap after_halt at.progress);
  sends = λ c at. sym (append-nil (items_said c.history));
  puts = λ c at. ap (λ (ps : List (Option Entry)). c.puts ++ ps) (ap (λ (p : ServerProgress). end_if p.asks) (sym at.progress) ∙ sym puts);
}

pub does_halt_if : (b : Bool) (old new : Term) (put : List (Option Entry)) (x : List ℕ) → HaltsIf b old put new → AdvancesRun (halt_if b) old x x put new
does_halt_if true old new put x h = does_halt old new put x h.0 h.1
does_halt_if false old new put x h =
    let P : Term → List (Option Entry) → Type 0 = λ t ps. AdvancesRun (λ c. c) old x x ps t in
    subst (λ (t : Term). AdvancesRun (λ c. c) old x x put t) (sym h.0)
    (subst (λ (ps : List (Option Entry)). AdvancesRun (λ c. c) old x x ps old) (sym h.1) (does_nothing old x))

-- the end is started
pub starts : (canon : Canon) (approach : Approach) (jobs : Jobs) (begun_end wished_end end : End) (term : Term) (x y z : List ℕ)
    → server.LeadsTo (begun approach.opening canon) begun_end → nvt.LeadsTo [] [] begun_end.decoder → begun_end.failed ≡ false → begun_end.terminal.closed ≡ false
    → wished_end ≡ end_after begun_end (wished approach.editing) → y ≡ x ++ spells (says begun_end (wished approach.editing)) → FollowsPath flushed_history wished_end y z end
    → term ≡ record { end = end; table = jobs; tostop = canon.settings.flags.tostop; progress = nothing_yet } → LeadsTo (start canon approach jobs) term
starts canon approach jobs begun_end wished_end end term x y z s r runs opens step said f is =
    let goes = follows_call begun_end wished_end (wished approach.editing) x y tt step said in
    rw is (record {
      live = λ _. record {
        leads = f.leads (next (begun approach.opening canon) (wished approach.editing)) (goes.leads (begun approach.opening canon) s);
        read = read_as begun_end.decoder end.decoder [] [] [] (f.decoder ∙ goes.decoder) refl r;
        bytes = All-nil (λ b. b < 256);
        failed = f.failed ∙ goes.failed ∙ runs;
        closed = f.closed ∙ goes.closed ∙ opens;
        tostop = refl;
        jobs = refl;
      };
      progress = refl;
    })

pub start_sends : (canon : Canon) (approach : Approach) (begun_end wished_end end : End) (x₀ x y z : List ℕ) → x₀ ≡ [] → x ≡ x₀ ++ spells (opening_words approach.opening)
    → server.LeadsTo (begun approach.opening canon) begun_end → wished_end ≡ end_after begun_end (wished approach.editing) → y ≡ x ++ spells (says begun_end (wished approach.editing))
    → FollowsPath flushed_history wished_end y z end
    → z ≡ spells (items_said (opening canon approach))
start_sends canon approach begun_end wished_end end x₀ x y z e₀ e s step said f =
    let h = begun approach.opening canon in
    let goes = follows_call begun_end wished_end (wished approach.editing) x y tt step said in
    let first : x ≡ spells (opening_words approach.opening) = e ∙ ap (λ (bs : List ℕ). bs ++ spells (opening_words approach.opening)) e₀ in
    let second : y ≡ spells (items_said (next h (wished approach.editing))) =
    said ∙ ap (λ (bs : List ℕ). bs ++ spells (says begun_end (wished approach.editing))) first
    ∙ sym (spells-append (opening_words approach.opening) (says begun_end (wished approach.editing))) ∙ ap (λ (xs : List Item). spells ((opening_words approach.opening) ++ xs)) (sym (says_as h begun_end (wished approach.editing) s)) in
    f.appended ∙ ap (λ (bs : List ℕ). bs ++ spells f.said) second ∙ sym (spells-append (items_said (next h (wished approach.editing))) f.said)
    ∙ ap spells (sym (f.sends (next h (wished approach.editing)) (goes.leads h s)))
