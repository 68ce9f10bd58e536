-- From what a sink took of each byte and each run to what it took of a piece.
use Rattle.std.proofs.Common.{◌≡◌, ℕ, ◌+◌, ◌<◌, ◌≤◌, inr, length, take, drop, get_or, lit<, arith, List, [], ◌∷◌, ◌++◌, map, Result, Ok, Err, OnErr, IsErrOf}
use Rattle.std.proofs.{Common.{refl, sym, ◌∙◌, ap, subst, append-nil, append_assoc}, lemmas.Grind.flat_map-append}
use Rattle.std.proofs.lemmas.List.{take_all, drop_all, take-append-drop}
use Rattle.tn_nvt.specs.{declared.{decoding.NvtFault.NvtFault, items.Item.{Item, TheVariants.Byte}}, Sinks.{StopsAtSink, StopsForMemory}}
use Rattle.tn_nvt.specs.{Machine.{Gathered, Progress, Outside, Inside, InsideIac, state_of_place, StepAdvances, KeepsByte}, Feeding.{DecoderState, IsLetGo}}
use Rattle.tn_nvt.specs.Sinks.{IsRun, EndsRun, AreSpecial, Part, run, said, bytes_of, part_bytes, calls_of, part_calls, all_of, AreLongest, TakesEach, FeedsTo}
use Rattle.tn_nvt.specs.Runs.{singles, RefusesEach, HandsFront, HandsSome, StopsFront, WantsMemory, Escapes, HasRun, KeepsFront}
use Rattle.tn_nvt.proofs.{Cuts.{rest_of, rest_is, front_is, back_is, parts_is, split_is, within_is, run_is, one_front, first_and}, Escaping.kept_then_iac}
use Rattle.tn_nvt.proofs.{LettingGo.wants_none, Steps.{StepAdvances-none, StepAdvances-append}, Feeding.{Advances-from_advances, kept}}

-- a fact that needs no call holds at a refusal
pub on_err : {T E : Type 0} (r : Result T E) (P : Type 0) → P → OnErr r P
on_err (Ok x) P p = tt
on_err (Err e) P p = p

err_is : {T : Type 0} (x y : NvtFault) → IsErrOf {T = T} (Err x) y → x ≡ y
err_is x y h = cc

pub same_fault : {T U : Type 0} (x y : NvtFault) → IsErrOf {T = T} (Err x) y → IsErrOf {T = U} (Err x) y
same_fault x y h = ap (λ z. Err z) (err_is x y h)

-- PARTS

all_singles : (items : List Item) → all_of (singles items) ≡ items
all_singles [] = refl
all_singles (item ∷ items) = ap (λ xs. item ∷ xs) (all_singles items)

all_more : (calls more : List (List Item)) → all_of (calls ++ more) ≡ all_of calls ++ all_of more
all_more = flat_map-append (λ call. call)

bytes_more : (ps qs : List Part) → bytes_of (ps ++ qs) ≡ bytes_of ps ++ bytes_of qs
bytes_more = flat_map-append part_bytes

calls_more : (ps qs : List Part) → calls_of (ps ++ qs) ≡ calls_of ps ++ calls_of qs
calls_more = flat_map-append part_calls

longest_more : (ps qs : List Part) (last : List ℕ) → AreLongest ps (bytes_of qs ++ last) → AreLongest qs last → AreLongest (ps ++ qs) last
longest_more [] qs last p q = q
longest_more (run bytes ∷ ps) qs last p q =
    let whole : bytes_of ps ++ (bytes_of qs ++ last) ≡ bytes_of (ps ++ qs) ++ last =
    sym (append_assoc (bytes_of ps) (bytes_of qs) last) ∙ ap (λ x. x ++ last) (sym (bytes_more ps qs)) in
    (p.0, subst EndsRun whole p.1, longest_more ps qs last p.2 q)
longest_more (said bytes items ∷ ps) qs last p q = (p.0, longest_more ps qs last p.1 q)

run_items : (items : List Item) (bytes : List ℕ) → items ++ map Byte bytes ≡ all_of (singles items ++ map Byte bytes ∷ [])
run_items items bytes = ap (λ x. x ++ map Byte bytes) (sym (all_singles items)) ∙ ap (λ x. all_of (singles items) ++ x) (sym (append-nil (map Byte bytes)))
    ∙ sym (all_more (singles items) (map Byte bytes ∷ []))

said_calls : (bytes : List ℕ) (items : List Item) → singles items ≡ calls_of (said bytes items ∷ [])
said_calls bytes items = sym (append-nil (singles items))

said_items : (bytes : List ℕ) (items : List Item) → items ≡ all_of (calls_of (said bytes items ∷ []))
said_items bytes items = sym (all_singles items) ∙ ap all_of (said_calls bytes items)

-- a run after these items
abbrev run_parts : List Item → List ℕ → List Part
run_parts items bytes = said [] items ∷ run bytes ∷ []

-- the items of both
items_more : (ps qs : List Part) → all_of (calls_of ps) ++ all_of (calls_of qs) ≡ all_of (calls_of (ps ++ qs))
items_more ps qs = sym (all_more (calls_of ps) (calls_of qs)) ∙ ap all_of (sym (calls_more ps qs))

module _ {S : Type 0} (takes gives_up : S → List Item → S → Type 0) where
  -- CALLS

  pub TakesEach-append : (cs ds : List (List Item)) (a b c : S) → TakesEach takes a cs b → TakesEach takes b ds c → TakesEach takes a (cs ++ ds) c
  TakesEach-append [] ds a b c p q = subst (λ x. TakesEach takes x ds c) (sym p) q
  TakesEach-append (d ∷ cs) ds a b c p q = (p.0, p.1, TakesEach-append cs ds p.0 b c p.2 q)

  pub takes_one : (a b : S) (call : List Item) → takes a call b → TakesEach takes a (call ∷ []) b
  takes_one a b call t = (b, t, refl)

  pub takes_two : (a b c : S) (call next : List Item) → takes a call b → takes b next c → TakesEach takes a (call ∷ next ∷ []) c
  takes_two a b c call next t u = (b, t, (c, u, refl))

  pub refuses_first : (left : List Item) (unseen : List (List Item)) (a b : S) → gives_up a left b → RefusesEach takes gives_up a (left ∷ unseen) b
  refuses_first left unseen a b u = record { done = []; left = left; unseen = unseen; all = refl; middle = a; taken = refl; given_up = u }

  pub refuses_second : (first left : List Item) (a b c : S) → takes a first b → gives_up b left c → RefusesEach takes gives_up a (first ∷ left ∷ []) c
  refuses_second first left a b c t u = record {
    done = first ∷ [];
    left = left;
    unseen = [];
    all = refl;
    middle = b;
    taken = takes_one a b first t;
    given_up = u;
  }

  -- ITEMS AND RUNS

  pub handed_none : (here : Progress) (last : List ℕ) (a : S) → HandsFront takes here [] last a a here
  handed_none here last a = record { parts = []; bytes = refl; longest = tt; taken = refl; advances = StepAdvances-none here }

  pub said_front : (here next : Progress) (front last : List ℕ) (items : List Item) (a b : S) → AreSpecial items → TakesEach takes a (singles items) b
      → StepAdvances here front items next → HandsFront takes here front last a b next
  said_front here next front last items a b special taken advances = record {
    parts = said front items ∷ [];
    bytes = sym (append-nil front);
    longest = (special, tt);
    taken = subst (λ x. TakesEach takes a x b) (said_calls front items) taken;
    advances = subst (λ x. StepAdvances here front x next) (said_items front items) advances;
  }

  pub said_stops : (here next : Progress) (bytes front last : List ℕ) (items : List Item) (a b : S) → bytes ≡ front ++ last → AreSpecial items
      → RefusesEach takes gives_up a (singles items) b → StepAdvances here front items next
      → StopsFront takes gives_up here bytes a b
  said_stops here next bytes front last items a b whole special refused advances = record {
    parts = said front items ∷ [];
    back = last;
    whole = whole ∙ ap (λ x. x ++ last) (sym (append-nil front));
    longest = (special, tt);
    refused = subst (λ x. RefusesEach takes gives_up a x b) (said_calls front items) refused;
    next = next;
    advances = subst (λ x. StepAdvances here x (all_of (calls_of (said front items ∷ []))) next) (sym (append-nil front))
        (subst (λ x. StepAdvances here front x next) (said_items front items) advances);
  }

  -- a run, and the items before it
  pub run_front : (here : Progress) (items : List Item) (bytes last : List ℕ) (a b : S) → AreSpecial items → IsRun bytes → EndsRun last
      → TakesEach takes a (singles items ++ map Byte bytes ∷ []) b → StepAdvances here bytes (items ++ map Byte bytes) Outside
      → HandsFront takes here bytes last a b Outside
  run_front here items bytes last a b special is_run ends taken advances = record {
    parts = run_parts items bytes;
    bytes = sym (append-nil bytes);
    longest = (special, (is_run, ends, tt));
    taken = taken;
    advances = subst (λ x. StepAdvances here bytes x Outside) (run_items items bytes) advances;
  }

  pub run_stops : (here : Progress) (items : List Item) (all bytes last : List ℕ) (a b : S) → all ≡ bytes ++ last → AreSpecial items → IsRun bytes
      → EndsRun last → RefusesEach takes gives_up a (singles items ++ map Byte bytes ∷ []) b → StepAdvances here bytes (items ++ map Byte bytes) Outside
      → StopsFront takes gives_up here all a b
  run_stops here items all bytes last a b whole special is_run ends refused advances = record {
    parts = run_parts items bytes;
    back = last;
    whole = whole ∙ ap (λ x. x ++ last) (sym (append-nil bytes));
    longest = (special, (is_run, ends, tt));
    refused = refused;
    next = Outside;
    advances = subst (λ x. StepAdvances here x (all_of (calls_of (run_parts items bytes))) Outside) (sym (append-nil bytes))
        (subst (λ x. StepAdvances here bytes x Outside) (run_items items bytes) advances);
  }

  -- the byte after some that complete nothing needed memory
  pub said_wants : (here middle : Progress) (bytes front back : List ℕ) (byte : ℕ) (a : S) → bytes ≡ front ++ byte ∷ back → StepAdvances here front [] middle
      → KeepsByte middle byte → WantsMemory takes here bytes a a
  said_wants here middle bytes front back byte a whole advances wanted = record {
    parts = said front [] ∷ [];
    byte = byte;
    back = back;
    whole = whole ∙ ap (λ x. x ++ byte ∷ back) (sym (append-nil front));
    longest = (tt, tt);
    taken = refl;
    middle = middle;
    advances = subst (λ x. StepAdvances here x [] middle) (sym (append-nil front)) advances;
    wanted = wanted;
  }

  -- ONE AFTER ANOTHER

  front_more : (here middle next : Progress) (front more last : List ℕ) (a b c : S) → HandsFront takes here front (more ++ last) a b middle
      → HandsFront takes middle more last b c next → HandsFront takes here (front ++ more) last a c next
  front_more here middle next front more last a b c h g = record {
    parts = h.parts ++ g.parts;
    bytes = ap (λ x. x ++ more) h.bytes ∙ ap (λ x. bytes_of h.parts ++ x) g.bytes ∙ sym (bytes_more h.parts g.parts);
    longest = longest_more h.parts g.parts last (subst (λ x. AreLongest h.parts (x ++ last)) g.bytes h.longest) g.longest;
    taken = subst (λ x. TakesEach takes a x c) (sym (calls_more h.parts g.parts))
        (TakesEach-append (calls_of h.parts) (calls_of g.parts) a b c h.taken g.taken);
    advances = subst (λ x. StepAdvances here (front ++ more) x next) (items_more h.parts g.parts)
        (StepAdvances-append here middle next front more (all_of (calls_of h.parts)) (all_of (calls_of g.parts)) h.advances g.advances);
  }

  refuses_more : (calls more : List (List Item)) (a b c : S) → TakesEach takes a calls b → RefusesEach takes gives_up b more c
      → RefusesEach takes gives_up a (calls ++ more) c
  refuses_more calls more a b c taken r = record {
    done = calls ++ r.done;
    left = r.left;
    unseen = r.unseen;
    all = ap (λ x. calls ++ x) r.all ∙ sym (append_assoc calls r.done (r.left ∷ r.unseen));
    middle = r.middle;
    taken = TakesEach-append calls r.done a b r.middle taken r.taken;
    given_up = r.given_up;
  }

  -- the bytes of both, and the ones after them
  both_whole : (ps qs : List Part) (front bytes back : List ℕ) → front ≡ bytes_of ps → bytes ≡ bytes_of qs ++ back
      → front ++ bytes ≡ bytes_of (ps ++ qs) ++ back
  both_whole ps qs front bytes back first second = ap (λ x. x ++ bytes) first ∙ ap (λ x. bytes_of ps ++ x) second
      ∙ sym (append_assoc (bytes_of ps) (bytes_of qs) back) ∙ ap (λ x. x ++ back) (sym (bytes_more ps qs))

  both_advance : (here middle next : Progress) (ps qs : List Part) (front : List ℕ) → front ≡ bytes_of ps
      → StepAdvances here front (all_of (calls_of ps)) middle → StepAdvances middle (bytes_of qs) (all_of (calls_of qs)) next
      → StepAdvances here (bytes_of (ps ++ qs)) (all_of (calls_of (ps ++ qs))) next
  both_advance here middle next ps qs front first f g =
      let on = StepAdvances-append here middle next front (bytes_of qs) (all_of (calls_of ps)) (all_of (calls_of qs)) f g in
      let bytes : front ++ bytes_of qs ≡ bytes_of (ps ++ qs) = ap (λ x. x ++ bytes_of qs) first ∙ sym (bytes_more ps qs) in
      subst (λ x. StepAdvances here x (all_of (calls_of (ps ++ qs))) next) bytes
      (subst (λ x. StepAdvances here (front ++ bytes_of qs) x next) (items_more ps qs) on)

  stops_more : (here middle : Progress) (front bytes : List ℕ) (a b c : S) → HandsFront takes here front bytes a b middle
      → StopsFront takes gives_up middle bytes b c → StopsFront takes gives_up here (front ++ bytes) a c
  stops_more here middle front bytes a b c h s = record {
    parts = h.parts ++ s.parts;
    back = s.back;
    whole = both_whole h.parts s.parts front bytes s.back h.bytes s.whole;
    longest = longest_more h.parts s.parts s.back (subst (λ x. AreLongest h.parts x) s.whole h.longest) s.longest;
    refused = subst (λ x. RefusesEach takes gives_up a x c) (sym (calls_more h.parts s.parts))
        (refuses_more (calls_of h.parts) (calls_of s.parts) a b c h.taken s.refused);
    next = s.next;
    advances = both_advance here middle s.next h.parts s.parts front h.bytes h.advances s.advances;
  }

  wants_more : (here middle : Progress) (front bytes : List ℕ) (a b c : S) → HandsFront takes here front bytes a b middle → WantsMemory takes middle bytes b c
      → WantsMemory takes here (front ++ bytes) a c
  wants_more here middle front bytes a b c h w = record {
    parts = h.parts ++ w.parts;
    byte = w.byte;
    back = w.back;
    whole = both_whole h.parts w.parts front bytes (w.byte ∷ w.back) h.bytes w.whole;
    longest = longest_more h.parts w.parts (w.byte ∷ w.back) (subst (λ x. AreLongest h.parts x) w.whole h.longest) w.longest;
    taken = subst (λ x. TakesEach takes a x c) (sym (calls_more h.parts w.parts))
        (TakesEach-append (calls_of h.parts) (calls_of w.parts) a b c h.taken w.taken);
    middle = w.middle;
    advances = both_advance here middle w.middle h.parts w.parts front h.bytes h.advances w.advances;
    wanted = w.wanted;
  }

  -- AT AN INDEX

  pub goes_on : (here middle next : Progress) (xs : List ℕ) (i n : ℕ) (a b c : S) → HandsFront takes here (take i xs) (drop i xs) a b middle
      → HandsFront takes middle (take n (rest_of xs i)) (drop n (rest_of xs i)) b c next
      → HandsFront takes here (take (i + n) xs) (drop (i + n) xs) a c next
  goes_on here middle next xs i n a b c h g =
      rw (front_is xs i n, back_is xs i n)
      (front_more here middle next (take i xs) (take n (rest_of xs i)) (drop n (rest_of xs i)) a b c
      (subst (λ x. HandsFront takes here (take i xs) x a b middle) (parts_is xs i n) h) g)

  pub stops_on : (here middle : Progress) (xs : List ℕ) (i : ℕ) (a b c : S) → HandsFront takes here (take i xs) (drop i xs) a b middle
      → StopsFront takes gives_up middle (rest_of xs i) b c → StopsFront takes gives_up here xs a c
  stops_on here middle xs i a b c h s =
      subst (λ x. StopsFront takes gives_up here x a c) (split_is xs i)
      (stops_more here middle (take i xs) (rest_of xs i) a b c (subst (λ x. HandsFront takes here (take i xs) x a b middle) (sym (rest_is xs i)) h) s)

  pub wants_on : (here middle : Progress) (xs : List ℕ) (i : ℕ) (a b c : S) → HandsFront takes here (take i xs) (drop i xs) a b middle
      → WantsMemory takes middle (rest_of xs i) b c → WantsMemory takes here xs a c
  wants_on here middle xs i a b c h w =
      subst (λ x. WantsMemory takes here x a c) (split_is xs i)
      (wants_more here middle (take i xs) (rest_of xs i) a b c (subst (λ x. HandsFront takes here (take i xs) x a b middle) (sym (rest_is xs i)) h) w)

  -- SOME BYTES OF THE REST

  pub byte_front : (here next : Progress) (xs : List ℕ) (items : List Item) (a b : S) → 0 < length xs → AreSpecial items → TakesEach takes a (singles items) b
      → StepAdvances here (get_or xs 0 0 ∷ []) items next → HandsSome takes here xs 1 a b next
  byte_front here next xs items a b some special taken advances = record {
    some = lit< tt;
    within = omega (arith, some);
    handed = said_front here next (take 1 xs) (drop 1 xs) items a b special taken
        (subst (λ x. StepAdvances here x items next) (sym (one_front xs some)) advances);
  }

  pub byte_stops : (here next : Progress) (xs : List ℕ) (items : List Item) (a b : S) → 0 < length xs → AreSpecial items
      → RefusesEach takes gives_up a (singles items) b → StepAdvances here (get_or xs 0 0 ∷ []) items next → StopsFront takes gives_up here xs a b
  byte_stops here next xs items a b some special refused advances =
      said_stops here next xs (get_or xs 0 0 ∷ []) (drop 1 xs) items a b (first_and xs some) special refused advances

  pub byte_wants : (here : Progress) (xs : List ℕ) (a : S) → 0 < length xs → KeepsByte here (get_or xs 0 0) → WantsMemory takes here xs a a
  byte_wants here xs a some wanted = said_wants here here xs [] (drop 1 xs) (get_or xs 0 0) a (first_and xs some) (StepAdvances-none here) wanted

  -- the bytes that are kept of a subnegotiation, and the IAC after them
  pub kept_front : (old new : Gathered) (xs : List ℕ) (n : ℕ) (a : S) → n < length xs → KeepsFront old xs n new
      → HandsFront takes (Inside old) (take (n + 1) xs) (drop (n + 1) xs) a a (InsideIac new)
  kept_front old new xs n a lt k = said_front (Inside old) (InsideIac new) (take (n + 1) xs) (drop (n + 1) xs) [] a a tt refl (kept_then_iac old new xs n lt k)

  pub escape_front : (xs : List ℕ) (n : ℕ) (items : List Item) (next : Progress) (a b : S) → Escapes xs n items next → TakesEach takes a (singles items) b
      → HandsSome takes Outside xs n a b next
  escape_front xs n items next a b e taken = record {
    some = e.some;
    within = e.within;
    handed = said_front Outside next (take n xs) (drop n xs) items a b e.special taken e.advances;
  }

  pub escape_stops : (xs : List ℕ) (n : ℕ) (items : List Item) (next : Progress) (a b : S) → Escapes xs n items next
      → RefusesEach takes gives_up a (singles items) b → StopsFront takes gives_up Outside xs a b
  escape_stops xs n items next a b e refused = said_stops Outside next xs (take n xs) (drop n xs) items a b
      (sym (take-append-drop n xs)) e.special refused e.advances

  pub run_some : (here : Progress) (items : List Item) (xs : List ℕ) (n : ℕ) (a b : S) → AreSpecial items → HasRun xs n
      → TakesEach takes a (singles items ++ map Byte (take n xs) ∷ []) b → StepAdvances here (take n xs) (items ++ map Byte (take n xs)) Outside
      → HandsSome takes here xs n a b Outside
  run_some here items xs n a b special r taken advances = record {
    some = r.some;
    within = r.within;
    handed = run_front here items (take n xs) (drop n xs) a b special (run_is xs n r.some r.within r.plain) r.ends taken advances;
  }

  pub run_refused : (here : Progress) (items : List Item) (xs : List ℕ) (n : ℕ) (a b : S) → AreSpecial items → HasRun xs n
      → RefusesEach takes gives_up a (singles items ++ map Byte (take n xs) ∷ []) b → StepAdvances here (take n xs) (items ++ map Byte (take n xs)) Outside
      → StopsFront takes gives_up here xs a b
  run_refused here items xs n a b special r refused advances =
      run_stops here items xs (take n xs) (drop n xs) a b (sym (take-append-drop n xs)) special (run_is xs n r.some r.within r.plain) r.ends refused advances

  pub some_on : (here middle next : Progress) (xs : List ℕ) (i n : ℕ) (a b c : S) → i ≤ length xs → HandsFront takes here (take i xs) (drop i xs) a b middle
      → HandsSome takes middle (rest_of xs i) n b c next → HandsSome takes here xs (i + n) a c next
  some_on here middle next xs i n a b c low h g = record {
    some = omega (arith, g.some);
    within = within_is xs i n low g.within;
    handed = goes_on here middle next xs i n a b c h g.handed;
  }

  -- all of the bytes
  pub front_all : (here next : Progress) (xs : List ℕ) (i : ℕ) (a b : S) → length xs ≤ i → HandsFront takes here (take i xs) (drop i xs) a b next
      → HandsFront takes here xs [] a b next
  front_all here next xs i a b all h = rw (take_all i xs all, drop_all i xs all) at h

  -- A PIECE

  pub FeedsTo-from_front : (here next : Progress) (piece : List ℕ) (a b : S) → HandsFront takes here piece [] a b next
      → FeedsTo takes (state_of_place here) piece a b (state_of_place next)
  FeedsTo-from_front here next piece a b h =
      record {
        parts = h.parts;
        whole = h.bytes;
        longest = h.longest;
        taken = h.taken;
        adds = Advances-from_advances here next piece (all_of (calls_of h.parts)) h.advances;
      }

  pub StopsAtSink-from_front : (here : Progress) (piece : List ℕ) (a b : S) → StopsFront takes gives_up here piece a b
      → StopsAtSink takes gives_up (state_of_place here) piece a b
  StopsAtSink-from_front here piece a b s = record {
    parts = s.parts;
    back = s.back;
    whole = s.whole;
    longest = s.longest;
    done = s.refused.done;
    left = s.refused.left;
    unseen = s.refused.unseen;
    calls = s.refused.all;
    here = state_of_place s.next;
    adds = Advances-from_advances here s.next (bytes_of s.parts) (all_of (calls_of s.parts)) s.advances;
    middle = s.refused.middle;
    taken = s.refused.taken;
    given_up = s.refused.given_up;
  }

  pub StopsForMemory-from_front : (here : Progress) (piece : List ℕ) (a b : S) → WantsMemory takes here piece a b
      → StopsForMemory takes (state_of_place here) piece a b
  StopsForMemory-from_front here piece a b w = record {
    parts = w.parts;
    byte = w.byte;
    back = w.back;
    whole = w.whole;
    longest = w.longest;
    taken = w.taken;
    here = state_of_place w.middle;
    adds = Advances-from_advances here w.middle (bytes_of w.parts) (all_of (calls_of w.parts)) w.advances;
    wanted = kept w.middle w.byte w.wanted;
  }

  -- no byte of a subnegotiation that is discarded needed memory
  pub wants_nothing : (old : DecoderState) (piece : List ℕ) (a b : S) → IsLetGo old piece → StopsForMemory takes old piece a b → ⊥
  wants_nothing old piece a b lets_go w =
      wants_none old piece [] (all_of (calls_of w.parts)) 0 lets_go
      (record {
        front = bytes_of w.parts;
        byte = w.byte;
        back = w.back;
        whole = w.whole;
        items = all_of (calls_of w.parts);
        appended = refl;
        here = w.here;
        adds = w.adds;
        wanted = inr w.wanted;
      })
