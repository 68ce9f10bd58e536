-- The number of jobs that were made.
use Rattle.std.proofs.Common.{◌≡◌, ℕ, ◌+◌, ◌≤◌, Option, Some, None, IfSome, Ok, Err, List, [], ◌∷◌, ◌++◌, length, refl, sym, ap, ◌∙◌, subst, arith}
use Rattle.std.proofs.lemmas.Fn.{FoldsTo-push}
use Rattle.std.specs.List.{FoldsTo}
use Rattle.tn_session.specs.{workers.Turning.{EachFresh, ids_of, jobs_of}, declared.workers.back.Runner.Runner}
use Rattle.tn_session.specs.Makers.{AreFresh, HasMade, MayBeDone, MayGoOn, MakesJob, AreAll}
use Rattle.tn_cores.specs.declared.faults.SessionFault.TheVariants as fault

pub one_refused : (J E : Type 0) (old new : Option ℕ) (e : E) → MakesJob {J = J} {E = E} old new (Err e) → MayGoOn old
one_refused J E None new e m = tt
one_refused J E (Some n) new e m = m

pub one_came : (J E : Type 0) (old new : Option ℕ) (o : Option J) (job : J) → o ≡ Some job → MakesJob {J = J} {E = E} old new (Ok o) → HasMade 1 old new
one_came J E old new o job e m = by old (subst (λ (x : Option J). MakesJob {J = J} {E = E} old new (Ok x)) e m)
  where
    by : (a : Option ℕ) → MakesJob {J = J} {E = E} a new (Ok (Some job)) → HasMade 1 a new
    by None h = h
    by (Some n) h = h

pub made_more : (made : ℕ) (a b c : Option ℕ) → HasMade made a b → HasMade 1 b c → HasMade (made + 1) a c
made_more made None b c one two = let P : Option ℕ → Type 0 = λ o. HasMade 1 o c in subst P one two
made_more made (Some n) b c (left, e, is) two =
    let P : Option ℕ → Type 0 = λ o. HasMade 1 o c in
    let more : HasMade 1 (Some left) c = subst P is two in
    let f = more.1 in
    (more.0, omega (arith, e, f), more.2)

-- no more came
pub all_made : (made : ℕ) (a b : Option ℕ) (ids : List ℕ) → HasMade (made + 1) a b → MayBeDone b → length ids ≡ made → made ≤ 15 → AreAll a ids
all_made made None b ids h done e small = tt
all_made made (Some n) b ids (left, is, to) done e small =
    let none : left ≡ 0 = subst MayBeDone to done in
    omega (arith, is, none, e, small)

pub some_are : (left : Option ℕ) (ids : List ℕ) → AreAll left ids → MayGoOn left
some_are None ids all = tt
some_are (Some n) ids all = λ e. omega (arith, all, e)

pub no_first : (left : Option ℕ) → left ≡ Some 0 → MayGoOn left → ⊥
no_first left e on = let P : Option ℕ → Type 0 = λ o. MayGoOn o in subst P e on refl

one_longer : {J : Type 0} (queue : List (Runner J)) (r : Runner J) → length (ids_of (queue ++ r ∷ [])) ≡ length (ids_of queue) + 1
one_longer [] r = refl
one_longer (x ∷ queue) r = let ih = one_longer queue r in omega (arith, ih)

-- one job more stands in the queue
pub one_more : {J : Type 0} (queue later : List (Runner J)) (r : Runner J) → later ≡ queue ++ r ∷ [] → length (ids_of later) ≡ length (ids_of queue) + 1
one_more queue later r e = ap (λ l. length (ids_of l)) e ∙ one_longer queue r

pub all_fresh : {J : Type 0} (fresh : J → Type 0) (queue : List (Runner J)) → EachFresh fresh queue → AreFresh fresh (jobs_of queue)
all_fresh fresh [] f = tt
all_fresh fresh (r ∷ rs) f = (f.0, all_fresh fresh rs f.1)

jobs_longer : {J : Type 0} (queue : List (Runner J)) (r : Runner J) → jobs_of (queue ++ r ∷ []) ≡ jobs_of queue ++ r.job ∷ []
jobs_longer [] r = refl
jobs_longer (x ∷ queue) r = ap (λ l. x.job ∷ l) (jobs_longer queue r)

-- the job that was added stands last in the queue
pub one_last : {J : Type 0} (queue later : List (Runner J)) (r : Runner J) → later ≡ queue ++ r ∷ [] → jobs_of later ≡ jobs_of queue ++ r.job ∷ []
one_last queue later r e = ap (λ l. jobs_of l) e ∙ jobs_longer queue r

-- the maker gave the first job
pub gave_first : {M J : Type 0} (gives : M → J → M → Type 0) (a b : M) (job first : J) (queue : List (Runner J)) → gives a job b → first ≡ job → queue ≡ []
    → FoldsTo gives a (first ∷ jobs_of queue) b
gave_first {M} {J} gives a b job first queue one e none =
    let P : List (Runner J) → Type 0 = λ q. FoldsTo gives a (first ∷ jobs_of q) b in
    let Q : J → Type 0 = λ j. FoldsTo gives a (j ∷ []) b in
    subst P (sym none) (subst Q (sym e) (FoldsTo-push gives a [] a job b refl one))

-- the maker gave one job more
pub gave_more : {M J : Type 0} (gives : M → J → M → Type 0) (a b d : M) (first later job : J) (queue more : List (Runner J))
    → FoldsTo gives a (first ∷ jobs_of queue) b → gives b job d → later ≡ first → jobs_of more ≡ jobs_of queue ++ job ∷ []
    → FoldsTo gives a (later ∷ jobs_of more) d
gave_more {M} {J} gives a b d first later job queue more before one same e =
    let P : List J → Type 0 = λ l. FoldsTo gives a (later ∷ l) d in
    let Q : J → Type 0 = λ j. FoldsTo gives a (j ∷ (jobs_of queue ++ job ∷ [])) d in
    subst P (sym e) (subst Q (sym same) (FoldsTo-push gives a (first ∷ jobs_of queue) b job d before one))

pub came : {J : Type 0} (P : J → Type 0) (o : Option J) (job : J) → o ≡ Some job → IfSome o P → P job
came {J} P o job e m = let Q : Option J → Type 0 = λ x. IfSome x P in subst Q e m
