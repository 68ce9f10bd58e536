-- One more step of a background job.
use Rattle.std.proofs.Common.{◌≡◌, ℕ, ◌==◌, Bool, true, false, not, List, [], ◌∷◌, ◌++◌, ◌⊎◌, ⊎_elim, inl, inr, map, drop, length, length-drop, arith, ◌<◌}
use Rattle.std.proofs.{Common.{None, append_assoc, refl, sym, ap, ◌∙◌, subst, if◌then◌else◌, eq-eqb, eqb-true}, lemmas.{Fn.FoldsTo-push, List.map-append}}
use Rattle.std.specs.List.{FoldsTo}
use Rattle.tn_jobs.specs.{Judging.judged, declared.{held_jobs.JobId.JobId, reactions.Reaction.Reaction}}
use Rattle.tn_jobs.specs.declared.verdicts.JobState.TheVariants as job
use Rattle.tn_session.specs.{declared.workers.{back.Runner.Runner, channels.View.View}, workers.{Acts.JobActs, Stepping.{reactions_of, step_said, turned}}}
use Rattle.tn_session.specs.workers.Stepping.{leaves_in_background, stays, IsIn, AreBy, Steps, AreSteps, LeavesFor, LeavesLast, StepInTurn, TakesItsTurn}
use Rattle.tn_session.specs.{workers.Mailbox.{sender, mail}, declared.workers.mail.Sender.TheVariants.Back}
use Rattle.tn_session.specs.workers.Turning.{ids_of, AreApart, EachBegan, Holds, Chain, EachRuns, AllStay, EachStays, Running, standing, AdvancesQueue}
use Rattle.tn_cores.specs.{server.Run.has_text, declared.messages.Message.{Message, TheVariants.{Refused, Left}}}

abbrev Said : Type 0
Said = JobId × Reaction

one_more : (b : Bool) (x : Reaction) (xs ys : List Reaction) → xs ≡ ys → (if b then x ∷ xs else xs) ≡ (if b then x ∷ ys else ys)
one_more true x xs ys e = ap (λ (zs : List Reaction). x ∷ zs) e
one_more false x xs ys e = e

out_of : (b : Bool) (x y : Reaction) (xs : List Reaction) → (if b then x ∷ (xs ++ y ∷ []) else xs ++ y ∷ []) ≡ (if b then x ∷ xs else xs) ++ y ∷ []
out_of true x y xs = refl
out_of false x y xs = refl

same-push : (said : List Said) (s : Said) (id : ℕ) → (s.0.0 == id) ≡ true → reactions_of id (said ++ s ∷ []) ≡ reactions_of id said ++ s.1 ∷ []
same-push [] s id e = ap (λ (b : Bool). if b then s.1 ∷ [] else []) e
same-push (x ∷ said) s id e = one_more (x.0.0 == id) x.1 _ _ (same-push said s id e) ∙ out_of (x.0.0 == id) x.1 s.1 (reactions_of id said)

other-push : (said : List Said) (s : Said) (id : ℕ) → (s.0.0 == id) ≡ false → reactions_of id (said ++ s ∷ []) ≡ reactions_of id said
other-push [] s id e = ap (λ (b : Bool). if b then s.1 ∷ [] else []) e
other-push (x ∷ said) s id e = one_more (x.0.0 == id) x.1 _ _ (other-push said s id e)

-- one more after those that all left the job in the background
last-push : (tostop : Bool) (xs : List Reaction) (x : Reaction) → AllStay tostop xs → LeavesLast tostop (xs ++ x ∷ [])
last-push tostop [] x all = tt
last-push tostop (y ∷ []) x all = (all.0, tt)
last-push tostop (y ∷ z ∷ xs) x all = (all.0, last-push tostop (z ∷ xs) x all.1)

all-push : (tostop : Bool) (xs : List Reaction) (x : Reaction) → AllStay tostop xs → stays tostop x ≡ true → AllStay tostop (xs ++ x ∷ [])
all-push tostop [] x all on = (on, tt)
all-push tostop (y ∷ xs) x all on = (all.0, all-push tostop xs x all.1 on)

module _ {J : Type 0} (began : ℕ → J → Type 0) (steps : J → Reaction → J → Type 0) (tostop : Bool) (ids : List ℕ) where
  by-push : (said : List Said) (s : Said) → IsIn s.0.0 ids → AreBy ids said → AreBy ids (said ++ s ∷ [])
  by-push [] s i b = (i, tt)
  by-push (x ∷ said) s i b = (b.0, by-push said s i b.1)

  chain_on : (said : List Said) (s : Said) (job new : J) → Chain began steps said s.0.0 job → steps job s.1 new → Chain began steps (said ++ s ∷ []) s.0.0 new
  chain_on said s job new c step =
      let P : List Reaction → Type 0 = λ xs. FoldsTo steps c.0 xs new in
      (c.0, c.1, subst P (sym (same-push said s s.0.0 (eq-eqb s.0.0 s.0.0 refl))) (FoldsTo-push steps c.0 (reactions_of s.0.0 said) job s.1 new c.2 step))

  chain_stays : (said : List Said) (s : Said) (id : ℕ) (job : J) → (s.0.0 == id) ≡ false → Chain began steps said id job
      → Chain began steps (said ++ s ∷ []) id job
  chain_stays said s id job e c = let P : List Reaction → Type 0 = λ xs. FoldsTo steps c.0 xs job in (c.0, c.1, subst P (sym (other-push said s id e)) c.2)

  is_other : (a b : ℕ) → (a ≡ b → ⊥) → (a == b) ≡ false
  is_other a b apart = by (a == b) refl
    where
      by : (t : Bool) → (a == b) ≡ t → (a == b) ≡ false
      by true e = absurd (apart (eqb-true a b e))
      by false e = e

  runs_stay : (said : List Said) (s : Said) (queue : List (Runner J)) → (IsIn s.0.0 (ids_of queue) → ⊥) → EachRuns began steps ids said queue
      → EachRuns began steps ids (said ++ s ∷ []) queue
  runs_stay said s [] none e = tt
  runs_stay said s (r ∷ rs) none e = (
    e.0,
    chain_stays said s r.id.0 r.job (is_other s.0.0 r.id.0 (λ same. none (inl same))) e.1,
    runs_stay said s rs (λ i. none (inr i)) e.2,
  )

  runs-push : (said : List Said) (queue : List (Runner J)) (r : Runner J) → IsIn r.id.0 ids → Chain began steps said r.id.0 r.job
      → EachRuns began steps ids said queue → EachRuns began steps ids said (queue ++ r ∷ [])
  runs-push said [] r i c e = (i, c, tt)
  runs-push said (x ∷ queue) r i c e = (e.0, e.1, runs-push said queue r i c e.2)

  in-push : (queue : List (Runner J)) (r : Runner J) (id : ℕ) → IsIn id (ids_of (queue ++ r ∷ [])) → IsIn id (ids_of queue) ⊎ (id ≡ r.id.0)
  in-push [] r id i = ⊎_elim (λ e. inr e) (λ none. absurd none) i
  in-push (x ∷ queue) r id i = ⊎_elim (λ e. inl (inl e)) (λ later. ⊎_elim (λ a. inl (inr a)) (λ b. inr b) (in-push queue r id later)) i

  apart-push : (queue : List (Runner J)) (r : Runner J) → (IsIn r.id.0 (ids_of queue) → ⊥) → AreApart (ids_of queue) → AreApart (ids_of (queue ++ r ∷ []))
  apart-push [] r none a = (λ i. i, tt)
  apart-push (x ∷ queue) r none a = (
    λ i. ⊎_elim (λ before. a.0 before) (λ same. none (inl (sym same))) (in-push queue r x.id.0 i),
    apart-push queue r (λ i. none (inr i)) a.1,
  )

  each_of : (said : List Said) (s : Said) (job : J) → Chain began steps (said ++ s ∷ []) s.0.0 job → (other : ℕ) → Steps {J = J} began steps said other
      → (b : Bool) → (other == s.0.0) ≡ b → Steps {J = J} began steps (said ++ s ∷ []) other
  each_of said s job next other old true e =
      let P : ℕ → Type 0 = λ n. Steps {J = J} began steps (said ++ s ∷ []) n in
      subst P (sym (eqb-true other s.0.0 e)) (next.0, job, next.1, next.2)
  each_of said s job next other old false e =
      let Q : List Reaction → Type 0 = λ xs. FoldsTo steps old.0 xs old.1 in
      let apart = is_other s.0.0 other (λ same. let t = eq-eqb other s.0.0 (sym same) in cc) in
      (old.0, old.1, old.2, subst Q (sym (other-push said s other apart)) old.3)

  runs_fresh : (queue : List (Runner J)) → ((id : ℕ) → IsIn id (ids_of queue) → IsIn id ids) → EachBegan began queue → EachRuns began steps ids [] queue
  runs_fresh [] inside f = tt
  runs_fresh (r ∷ rs) inside f = (inside r.id.0 (inl refl), (r.job, f.0, refl), runs_fresh rs (λ id i. inside id (inr i)) f.1)

  fresh_steps : (queue : List (Runner J)) → EachBegan began queue → (id : ℕ) → IsIn id (ids_of queue) → Steps {J = J} began steps [] id
  fresh_steps [] f id i = absurd i
  fresh_steps (r ∷ rs) f id i = ⊎_elim (λ e. (r.job, r.job, subst (λ (n : ℕ). began n r.job) (sym e) f.0, refl)) (λ later. fresh_steps rs f.1 id later) i

  -- nothing changes for the jobs in the queue that made no step
  stay_on : (said : List Said) (s : Said) (queue : List (Runner J)) → (IsIn s.0.0 (ids_of queue) → ⊥) → EachStays tostop said queue
      → EachStays tostop (said ++ s ∷ []) queue
  stay_on said s [] none e = tt
  stay_on said s (r ∷ rs) none e =
      let P : List Reaction → Type 0 = λ xs. AllStay tostop xs in
      (subst P (sym (other-push said s r.id.0 (is_other s.0.0 r.id.0 (λ same. none (inl same))))) e.0, stay_on said s rs (λ i. none (inr i)) e.1)

  stay-push : (said : List Said) (queue : List (Runner J)) (r : Runner J) → AllStay tostop (reactions_of r.id.0 said) → EachStays tostop said queue
      → EachStays tostop said (queue ++ r ∷ [])
  stay-push said [] r all e = (all, tt)
  stay-push said (x ∷ queue) r all e = (e.0, stay-push said queue r all e.1)

  leave_of : (said : List Said) (s : Said) → AllStay tostop (reactions_of s.0.0 said) → (other : ℕ) → LeavesLast tostop (reactions_of other said) → (b : Bool)
      → (other == s.0.0) ≡ b → LeavesLast tostop (reactions_of other (said ++ s ∷ []))
  leave_of said s all other old true e =
      let P : List Reaction → Type 0 = λ xs. LeavesLast tostop xs in
      let Q : ℕ → Type 0 = λ n. LeavesLast tostop (reactions_of n (said ++ s ∷ [])) in
      subst Q (sym (eqb-true other s.0.0 e)) (subst P (sym (same-push said s s.0.0 (eq-eqb s.0.0 s.0.0 refl)))
      (last-push tostop (reactions_of s.0.0 said) s.1 all))
  leave_of said s all other old false e =
      let P : List Reaction → Type 0 = λ xs. LeavesLast tostop xs in
      subst P (sym (other-push said s other (is_other s.0.0 other (λ same. let t = eq-eqb other s.0.0 (sym same) in cc)))) old

  none_left : (queue : List (Runner J)) → EachStays tostop [] queue
  none_left [] = tt
  none_left (r ∷ rs) = (tt, none_left rs)

  -- the job stands in the queue no more, or last
  gone_or_last : (on : Bool) (rest new : List (Runner J)) (r : Runner J) → new ≡ standing on rest r → (new ≡ rest) ⊎ ((on ≡ true) × (new ≡ rest ++ r ∷ []))
  gone_or_last true rest new r e = inr (refl, e)
  gone_or_last false rest new r e = inl e

  pub advanced : (said : List Said) (old new : List (Runner J)) (id : JobId) (reaction : Reaction) → Running began steps tostop ids said old
      → AdvancesQueue steps tostop old id reaction new → Running began steps tostop ids (said ++ (id, reaction) ∷ []) new
  advanced said old new id reaction run a =
      let s : Said = (id, reaction) in
      let P : List (Runner J) → Type 0 = λ l. EachRuns began steps ids said l × AreApart (ids_of l) × EachStays tostop said l in
      let here = subst P a.was (run.runs, run.apart, run.stay) in
      let Q : JobId → Type 0 = λ i. IsIn i.0 ids × Chain began steps said i.0 a.runner.job × (IsIn i.0 (ids_of a.rest) → ⊥)
      × AllStay tostop (reactions_of i.0 said) in
      let mine = subst Q (sym a.number) (here.0.0, here.0.1, here.1.0, here.2.0) in
      let next = chain_on said s a.runner.job a.job mine.1 a.step in
      let rest = runs_stay said s a.rest mine.2 here.0.2 in
      let on = stay_on said s a.rest mine.2 here.2.1 in
      let last : Runner J = record { id = id; job = a.job } in
      let W : List Reaction → Type 0 = λ xs. AllStay tostop xs in
      let stands = λ (keeps : stays tostop reaction ≡ true). subst W (sym (same-push said s id.0 (eq-eqb id.0 id.0 refl)))
      (all-push tostop (reactions_of id.0 said) reaction mine.3 keeps) in
      let R : List (Runner J) → Type 0 = λ l. EachRuns began steps ids (said ++ s ∷ []) l × AreApart (ids_of l) × EachStays tostop (said ++ s ∷ []) l in
      let after = ⊎_elim (λ gone. subst R (sym gone) (rest, here.1.1, on))
      (λ stood. subst R (sym stood.1) (
        runs-push (said ++ s ∷ []) a.rest last mine.0 next rest,
        apart-push a.rest last mine.2 here.1.1,
        stay-push (said ++ s ∷ []) a.rest last (stands stood.0) on,
      )) (gone_or_last (stays tostop reaction) a.rest new last a.left) in
      record {
        by = by-push said s mine.0 run.by;
        leave = λ other i. leave_of said s mine.3 other (run.leave other i) (other == id.0) refl;
        stay = after.2;
        each = λ other i. each_of said s a.job next other (run.each other i) (other == id.0) refl;
        runs = after.0;
        apart = after.1;
      }

each_held : {J : Type 0} (all queue : List (Runner J)) → ((id : ℕ) (job : J) → Holds queue id job → Holds all id job) → EachBegan (Holds all) queue
each_held all [] held = tt
each_held all (r ∷ rs) held = (held r.id.0 r.job (inl (refl, refl)), each_held all rs (λ id job h. held id job (inr h)))

pub running_first : {J : Type 0} (steps : J → Reaction → J → Type 0) (tostop : Bool) (queue : List (Runner J)) → AreApart (ids_of queue)
    → Running (Holds queue) steps tostop (ids_of queue) [] queue
running_first steps tostop queue apart =
    let began = each_held queue queue (λ id job h. h) in
    record {
      by = tt;
      leave = λ id i. tt;
      stay = none_left (Holds queue) steps tostop (ids_of queue) queue;
      each = fresh_steps (Holds queue) steps tostop (ids_of queue) queue began;
      runs = runs_fresh (Holds queue) steps tostop (ids_of queue) queue (λ id i. i) began;
      apart = apart;
    }

ids-push : {J : Type 0} (queue : List (Runner J)) (r : Runner J) → ids_of (queue ++ r ∷ []) ≡ ids_of queue ++ r.id.0 ∷ []
ids-push [] r = refl
ids-push (x ∷ queue) r = ap (λ (l : List ℕ). x.id.0 ∷ l) (ids-push queue r)

stands_ids : {J : Type 0} (on : Bool) (rest new : List (Runner J)) (r : Runner J) → new ≡ standing on rest r → turned on r.id.0 (ids_of rest) ≡ ids_of new
stands_ids true rest new r e = sym (ap (λ l. ids_of l) e ∙ ids-push rest r)
stands_ids false rest new r e = sym (ap (λ l. ids_of l) e)

takes_turn : {J : Type 0} (tostop : Bool) (old rest : List (Runner J)) (runner : Runner J) (s : Said) → old ≡ runner ∷ rest → s.0 ≡ runner.id
    → TakesItsTurn tostop (ids_of old) s (turned (stays tostop s.1) s.0.0 (ids_of rest))
takes_turn {J} tostop old rest runner s was number =
    let P : List (Runner J) → Type 0 = λ l. TakesItsTurn tostop (ids_of l) s (turned (stays tostop s.1) s.0.0 (ids_of rest)) in
    subst P (sym was) (ap (λ (i : JobId). i.0) number, ap (λ (i : JobId). turned (stays tostop s.1) i.0 (ids_of rest)) number)

-- one step more, in turn
pub in_turn : {J : Type 0} (steps : J → Reaction → J → Type 0) (tostop : Bool) (ids : List ℕ) (said : List Said) (old new : List (Runner J)) (id : JobId)
    (reaction : Reaction) → StepInTurn tostop ids said (ids_of old) → AdvancesQueue steps tostop old id reaction new
    → StepInTurn tostop ids (said ++ (id, reaction) ∷ []) (ids_of new)
in_turn steps tostop ids said old new id reaction before a =
    let s : Said = (id, reaction) in
    let left = turned (stays tostop reaction) id.0 (ids_of a.rest) in
    subst (λ (l : List ℕ). StepInTurn tostop ids (said ++ s ∷ []) l)
    (stands_ids (stays tostop reaction) a.rest new (record { id = id; job = a.job }) a.left)
    (FoldsTo-push (TakesItsTurn tostop) ids said (ids_of old) s left before (takes_turn tostop old a.rest a.runner s a.was a.number))

pub said_step : (ss : List Said) (s : Said) (v : View) → v ≡ sender Back (map (mail Back) (map step_said ss ++ step_said s ∷ []))
    → v ≡ sender Back (map (mail Back) (map step_said (ss ++ s ∷ [])))
said_step ss s v e = e ∙ ap (λ (ms : List Message). sender Back (map (mail Back) ms)) (sym (map-append step_said ss (s ∷ [])))

abbrev pub IsClose : List Message → Type 0
IsClose close = (close ≡ Left ∷ []) ⊎ (close ≡ Refused ∷ Left ∷ [])

-- the messages at the end are those of a close, for whichever cause the thread left
pub is_close : {J : Type 0} (began : ℕ → J → Type 0) (acts : JobActs J) (stopped : Bool) (said : List Said) (close : List Message) (left : List ℕ)
    → LeavesFor {J = J} began acts stopped said close left → IsClose close
is_close began acts stopped said close [] f = inl f
is_close began acts stopped said close (id ∷ ids) f = ⊎_elim (λ x. inl x.0) (λ y. inr y.0) f

module _ {J : Type 0} (began : ℕ → J → Type 0) (acts : JobActs J) (tostop : Bool) (ids : List ℕ) (said : List Said) (queue : List (Runner J)) (stopped : Bool)
    (v : View)
    (run : Running began acts.steps tostop ids said queue) (turn : StepInTurn tostop ids said (ids_of queue)) where
  with_close : (close : List Message) → LeavesFor {J = J} began acts stopped said close (ids_of queue)
      → v ≡ sender Back (map (mail Back) (map step_said said ++ close)) → AreSteps {J = J} began acts (record { ids = ids; tostop = tostop }) stopped v
  with_close close why e = (said, close, e, run.by, run.each, run.leave, ids_of queue, turn, why)

  -- no job runs any more
  pub closes_idle : queue ≡ [] → v ≡ sender Back (map (mail Back) (map step_said said ++ Left ∷ []))
      → AreSteps {J = J} began acts (record { ids = ids; tostop = tostop }) stopped v
  closes_idle none e = with_close (Left ∷ []) (subst (λ (l : List (Runner J)). LeavesFor {J = J} began acts stopped said (Left ∷ []) (ids_of l))
      (sym none) refl) e

  -- the thread was asked to stop
  pub closes_stopped : stopped ≡ true → v ≡ sender Back (map (mail Back) (map step_said said ++ Left ∷ []))
      → AreSteps {J = J} began acts (record { ids = ids; tostop = tostop }) stopped v
  closes_stopped told e = with_close (Left ∷ []) (by (ids_of queue)) e
    where
      by : (left : List ℕ) → LeavesFor {J = J} began acts stopped said (Left ∷ []) left
      by [] = refl
      by (id ∷ others) = inl (refl, told)

-- memory ran out for the first
pub closes_refused : {J : Type 0} (began : ℕ → J → Type 0) (acts : JobActs J) (tostop : Bool) (ids : List ℕ) (said : List Said) (queue rest : List (Runner J))
    (stopped : Bool) (v : View) (runner : Runner J) → Running began acts.steps tostop ids said queue → StepInTurn tostop ids said (ids_of queue)
    → queue ≡ runner ∷ rest → acts.refuses runner.job None → v ≡ sender Back (map (mail Back) ((map step_said said ++ Refused ∷ []) ++ Left ∷ []))
    → AreSteps {J = J} began acts (record { ids = ids; tostop = tostop }) stopped v
closes_refused {J} began acts tostop ids said queue rest stopped v runner run turn was refused e =
    let runs = subst (λ (l : List (Runner J)). EachRuns began acts.steps ids said l) was run.runs in
    let c = runs.1 in
    let why : LeavesFor {J = J} began acts stopped said (Refused ∷ Left ∷ []) (ids_of (runner ∷ rest)) = inr (refl, (c.0, runner.job, c.1, c.2, refused)) in (
      said,
      Refused ∷ Left ∷ [],
      e ∙ ap (λ (ms : List Message). sender Back (map (mail Back) ms)) (append_assoc (map step_said said) (Refused ∷ []) (Left ∷ [])),
      run.by,
      run.each,
      run.leave,
      ids_of queue,
      turn,
      subst (λ (l : List (Runner J)). LeavesFor {J = J} began acts stopped said (Refused ∷ Left ∷ []) (ids_of l)) (sym was) why,
    )

-- a job that runs on stands last
pub kept_on : {J : Type 0} (on : Bool) (xs new : List (Runner J)) (r : Runner J) → on ≡ true → new ≡ xs ++ r ∷ [] → new ≡ standing on xs r
kept_on on xs new r e n = rw e n

pub let_go : {J : Type 0} (on : Bool) (xs : List (Runner J)) (r : Runner J) → on ≡ false → xs ≡ standing on xs r
let_go on xs r e = rw e refl

-- if none was first, the queue is empty
pub none_first : {A : Type 0} (old new : List A) → old ≡ new → new ≡ drop 1 old → old ≡ []
none_first [] new e f = refl
none_first (x ∷ xs) new e f =
    let g = ap length (e ∙ f) in
    let h = length-drop 1 (x ∷ xs) in
    let some : 0 < length (x ∷ xs) = grind arith in
    let none : ⊥ = omega (arith, g, h, some) in
    absurd none

text_is : (xs : List ℕ) → has_text xs ≡ not (length xs == 0)
text_is [] = refl
text_is (x ∷ xs) = grind arith

-- whether the job stays, as it was judged
pub stays_is : (tostop : Bool) (r : Reaction) (text : List ℕ) (empty on : Bool) → text ≡ r.text → empty ≡ (length text == 0)
    → on ≡ leaves_in_background (judged job.Background (not empty) r.after tostop) → stays tostop r ≡ on
stays_is tostop r text empty on e f g = sym (g ∙ ap (λ (b : Bool). leaves_in_background (judged job.Background b r.after tostop))
    (ap not f ∙ sym (text_is text) ∙ ap has_text e))
