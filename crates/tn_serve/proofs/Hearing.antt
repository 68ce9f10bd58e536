-- A service is called once more.
use Rattle.std.proofs.Common.{◌≡◌, ◌<◌, ◌≤◌, ℕ, ◌+◌, List, [], ◌∷◌, length, get_or, refl, sym, subst, sum_by, swap_remove, arith}
use Rattle.std.proofs.lemmas.List.Sums.{sum_by-swap_remove}
use Rattle.tn_serve.specs.{Ends.whole_of, Turns.{live_of, made_for, times, with_one}, declared.{finished.Finished.Finished, turns.Turn.Turn}}
use Rattle.tn_serve.specs.Turns.{AreApart, EndsFollow, Hears, HearsAll, HearsOfEnd, HearsOfJobs, HearsOfNone, IsOneMore, StillHears, ended_for, is_same}
use Rattle.tn_serve.specs.declared.turns.Turn.TheVariants.{Made, Refused, Ended}

-- jobs were made at most once more often than they were ended
at_most : (number : ℕ) (calls : List Turn) → EndsFollow number calls → times (made_for number) calls ≤ times (ended_for number) calls + 1
at_most number [] follow = omega arith
at_most number (turn ∷ earlier) follow = follow.1

module _ {V : Type 0} (turns : V → Turn → V → Type 0) (HasEnded : Finished → Type 0) where
  pub jobs_made : (number : ℕ) (old new : V) → turns old (Made number) new → HearsOfJobs turns HasEnded number old new
  jobs_made number old new turn whole faulted live live' one apart first h = record {
    calls = Made number ∷ h.calls;
    called = (old, h.called, turn, _);
    each = λ n. omega (arith, h.each n, one n);
    in_order = λ n. (omega (arith, h.each n), omega (arith, h.each n, one n, apart n), h.in_order n);
    unasked = h.unasked;
    all = omega (arith, h.all);
    whole_ones = omega (arith, h.whole_ones);
  }

  pub jobs_refused : (number : ℕ) (old new : V) → turns old (Refused number) new → HearsOfNone turns HasEnded number old new
  jobs_refused number old new turn whole faulted live apart first h = record {
    calls = Refused number ∷ h.calls;
    called = (old, h.called, turn, _);
    each = λ n. omega (arith, h.each n);
    in_order = λ n. (omega (arith, h.each n), omega (arith, at_most n h.calls (h.in_order n)), h.in_order n);
    unasked = h.unasked;
    all = omega (arith, h.all);
    whole_ones = omega (arith, h.whole_ones);
  }

  pub not_asked : (number : ℕ) (old : V) → HearsOfNone turns HasEnded number old old
  not_asked number old whole faulted live apart first h = record {
    calls = h.calls;
    called = h.called;
    each = h.each;
    in_order = h.in_order;
    unasked = h.unasked + 1;
    all = omega (arith, h.all);
    whole_ones = h.whole_ones;
  }

  pub session_ended : (number : ℕ) (finished : Finished) (old new : V) → turns old (Ended number finished) new → HasEnded finished
      → HearsOfEnd turns HasEnded number finished old new
  session_ended number finished old new turn has whole faulted whole' faulted' live live' one counted first h = record {
    calls = Ended number finished ∷ h.calls;
    called = (old, h.called, turn, has);
    each = λ n. omega (arith, h.each n, one n);
    in_order = λ n. (omega (arith, h.each n, one n), omega (arith, at_most n h.calls (h.in_order n)), h.in_order n);
    unasked = h.unasked;
    all = omega (arith, h.all, counted.1);
    whole_ones = omega (arith, h.whole_ones, counted.0);
  }

  -- its jobs were made, and it was not started
  pub made_and_ended : (number : ℕ) (finished : Finished) (old mid new : V) → whole_of finished ≡ 0 → HearsOfJobs turns HasEnded number old mid
      → HearsOfEnd turns HasEnded number finished mid new
      → HearsOfNone turns HasEnded number old new
  made_and_ended number finished old mid new not_whole made ended whole faulted live apart first h =
      ended whole faulted whole (faulted + 1) (λ n. live n + is_same n number) live (λ n. refl) (omega (arith, not_whole), omega arith) first
      (made whole faulted live (λ n. live n + is_same n number) (λ n. refl) apart first h)

  -- the sessions that ran run still, and this number is counted
  pub same_running : {S : Type 0} (started started' : List S) (number_of : S → ℕ) (whole faulted whole' faulted' : ℕ) (first new : V) → started' ≡ started
      → whole' ≡ whole → faulted' ≡ faulted
      → Hears turns HasEnded first whole faulted new (live_of started number_of) → Hears turns HasEnded first whole' faulted' new (live_of started' number_of)
  same_running {S} started started' number_of whole faulted whole' faulted' first new same same' same'' h =
      subst (λ (l : List S). Hears turns HasEnded first whole' faulted' new (live_of l number_of)) (sym same)
      (subst (λ (k : ℕ). Hears turns HasEnded first k faulted' new (live_of started number_of)) (sym same')
      (subst (λ (k : ℕ). Hears turns HasEnded first whole k new (live_of started number_of)) (sym same'') h))

  -- the sessions that ran run still, and no connection more is counted
  pub none_counted : {S : Type 0} (started started' : List S) (number_of : S → ℕ) (whole faulted whole' faulted' : ℕ) (old new : V) → started' ≡ started
      → whole' ≡ whole → faulted' ≡ faulted → new ≡ old
      → StillHears turns HasEnded whole faulted old (live_of started number_of) whole' faulted' new (live_of started' number_of)
  none_counted started started' number_of whole faulted whole' faulted' old new same same' same'' is first h =
      same_running started started' number_of whole faulted whole' faulted' first new same same' same''
      (subst (λ (v : V). Hears turns HasEnded first whole faulted v (live_of started number_of)) (sym is) h)

  -- the sessions that ran run still, and one connection more is counted
  pub one_counted : {S : Type 0} (started started' : List S) (number_of : S → ℕ) (number whole faulted whole' faulted' : ℕ) (old new : V) → started' ≡ started
      → whole' ≡ whole → faulted' ≡ faulted + 1 → AreApart (with_one number (live_of started number_of))
      → HearsOfNone turns HasEnded number old new → StillHears turns HasEnded whole faulted old (live_of started number_of) whole' faulted' new
      (live_of started' number_of)
  one_counted started started' number_of number whole faulted whole' faulted' old new same same' one apart none first h =
      same_running started started' number_of whole (faulted + 1) whole' faulted' first new same same' one
      (none whole faulted (live_of started number_of) apart first h)

  -- one session more runs
  pub one_started : {S : Type 0} (before started started' : List S) (number_of : S → ℕ) (number whole faulted whole' faulted' : ℕ) (old new : V)
      → started ≡ before → whole' ≡ whole → faulted' ≡ faulted
      → IsOneMore number (live_of started number_of) (live_of started' number_of) → AreApart (live_of started' number_of)
      → HearsOfJobs turns HasEnded number old new
      → StillHears turns HasEnded whole faulted old (live_of before number_of) whole' faulted' new (live_of started' number_of)
  one_started {S} before started started' number_of number whole faulted whole' faulted' old new same same' same'' one apart jobs first h =
      same_running started' started' number_of whole faulted whole' faulted' first new refl same' same''
      (jobs whole faulted (live_of before number_of) (live_of started' number_of)
      (subst (λ (l : List S). IsOneMore number (live_of l number_of) (live_of started' number_of)) same one) apart first h)

-- one of them is joined
pub one_joined : {S : Type 0} (started started' : List S) (number_of : S → ℕ) (place : ℕ) (x : S) → place < length started → x ≡ get_or started place x
    → started' ≡ swap_remove started place x
    → IsOneMore (number_of x) (live_of started' number_of) (live_of started number_of)
one_joined {S} started started' number_of place x there is is' m =
    let f : S → ℕ = λ s. is_same m (number_of s) in
    let e = sum_by-swap_remove f started place x there in
    let e' : sum_by f (swap_remove started place x) + f x ≡ sum_by f started =
    subst (λ (y : S). sum_by f (swap_remove started place x) + f y ≡ sum_by f started) (sym is) e in
    subst (λ (l : List S). sum_by f started ≡ sum_by f l + f x) (sym is') (sym e')

pub none_live : {S : Type 0} (started : List S) (number_of : S → ℕ) → length started ≡ 0 → (n : ℕ) → live_of started number_of n ≡ 0
none_live [] number_of none n = refl
none_live (s ∷ started) number_of none n = omega (arith, none)

-- no session runs at first, and none at last
pub hears_all : {V S : Type 0} (turns : V → Turn → V → Type 0) (HasEnded : Finished → Type 0) (started started' : List S) (number_of : S → ℕ)
    (none_yet none_yet' whole faulted : ℕ) (service last : V)
    → (none_yet ≡ 0) × (none_yet' ≡ 0) → length started ≡ 0 → length started' ≡ 0
    → StillHears turns HasEnded none_yet none_yet' service (live_of started number_of) whole faulted last (live_of started' number_of)
    → HearsAll turns HasEnded service whole faulted
hears_all turns HasEnded started started' number_of none_yet none_yet' whole faulted service last is none none' still =
    let h = still service (record {
      calls = [];
      called = refl;
      each = λ n. omega (arith, none_live started number_of none n);
      in_order = λ n. _;
      unasked = 0;
      all = omega (arith, is.0, is.1);
      whole_ones = is.0;
    }) in (
      last,
      record {
        calls = h.calls;
        called = h.called;
        each = λ n. omega (arith, h.each n, none_live started' number_of none' n);
        in_order = h.in_order;
        unasked = h.unasked;
        all = h.all;
        whole_ones = h.whole_ones;
      },
    )
