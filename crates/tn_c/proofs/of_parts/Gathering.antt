-- The items that wait gain those of a piece, and no discarded byte is refused.
use Rattle.std.proofs.Common.{◌≡◌, inl, inr, ℕ, ◌<◌, Option, Result, Ok, Err, OnOk, OnErr, IsErrOf, List, [], ◌∷◌, ◌++◌, length, refl, sym, ap, subst, ◌∙◌}
use Rattle.std.proofs.{Common.{append_assoc, append-nil, arith}, lemmas.List.length-map}
use Rattle.std.specs.Prelude.{◌↔◌, map}
use Rattle.tn_nvt.specs.{Feeding.{DecoderState, Feeds, IsLetGo, failed}, declared.{items.Item.{Item, TheVariants.Byte}, decoding.NvtFault.NvtFault}}
use Rattle.tn_nvt.specs.Sinks.{Part, run, said, TakesEach, FeedsTo, StopsAtSink, StopsForMemory, AreLongest, all_of, calls_of, bytes_of}
use Rattle.tn_nvt.specs.declared.decoding.NvtFault.TheVariants as fault
use Rattle.tn_nvt.proofs.lemmas.Dropping.{gives_nothing}
use Rattle.tn_c.specs.parts.{DecoderCalls.FeedCall, Faults.nvt_answer, Waiting.{AddsItems, AddsNone}}

adds_each : (old : List Item) (calls : List (List Item)) (new : List Item) → TakesEach AddsItems old calls new → new ≡ old ++ all_of calls
adds_each old [] new same = sym same ∙ sym (append-nil old)
adds_each old (call ∷ calls) new (middle, adds, then) =
    adds_each middle calls new then
    ∙ ap (λ (l : List Item). l ++ all_of calls) adds
    ∙ append_assoc old call (all_of calls)

pub fed : (old new : DecoderState) (piece : List ℕ) (before after : List Item) → FeedsTo AddsItems old piece before after new → Feeds old piece before after new
fed old new piece before after f =
    record { items = all_of (calls_of f.parts); appended = adds_each before (calls_of f.parts) after f.taken; adds = f.adds }

-- CALLS THAT HAVE ITEMS

abbrev HasItems : List (List Item) → Type 0
HasItems [] = Unit {0}
HasItems (call ∷ calls) = (0 < length call) × HasItems calls

each_alone : (items : List Item) (rest : List (List Item)) → HasItems rest → HasItems (map (λ item. item ∷ []) items ++ rest)
each_alone [] rest h = h
each_alone (item ∷ items) rest h = (omega arith, each_alone items rest h)

parts_have : (parts : List Part) (last : List ℕ) → AreLongest parts last → HasItems (calls_of parts)
parts_have [] last l = tt
parts_have (run bytes ∷ parts) last (is_run, ends, more) = (omega (arith, length-map bytes Byte, is_run.some), parts_have parts last more)
parts_have (said bytes items ∷ parts) last (special, more) = each_alone items (calls_of parts) (parts_have parts last more)

left_has : (done : List (List Item)) (left : List Item) (unseen : List (List Item)) → HasItems (done ++ left ∷ unseen) → 0 < length left
left_has [] left unseen h = h.0
left_has (call ∷ done) left unseen h = left_has done left unseen h.1

none_before : (xs ys : List Item) → xs ++ ys ≡ [] → xs ≡ []
none_before [] ys e = refl
none_before (x ∷ xs) ys e = absurd (cc)

none_after : (xs ys : List Item) → xs ++ ys ≡ [] → ys ≡ []
none_after [] ys e = e
none_after (x ∷ xs) ys e = absurd (cc)

left_none : (done : List (List Item)) (left : List Item) (unseen : List (List Item)) → all_of (done ++ left ∷ unseen) ≡ [] → left ≡ []
left_none [] left unseen e = none_before left (all_of unseen) e
left_none (call ∷ done) left unseen e = left_none done left unseen (none_after call (all_of (done ++ left ∷ unseen)) e)

pub never_refused : (old : DecoderState) (piece : List ℕ) (before after : List Item) → IsLetGo old piece → StopsAtSink AddsItems AddsNone old piece before after → ⊥
never_refused old piece before after g s =
    let none = gives_nothing old s.here piece (bytes_of s.parts) s.back (all_of (calls_of s.parts)) s.whole g s.adds in
    let empty = left_none s.done s.left s.unseen (ap (λ (calls : List (List Item)). all_of calls) (sym s.calls) ∙ none) in
    let some = left_has s.done s.left s.unseen (subst (λ (calls : List (List Item)). HasItems calls) s.calls (parts_have s.parts s.back s.longest)) in
    omega (arith, ap length empty, some)

-- WHAT A FEED ANSWERS

pub fed_by : {T : Type 0} (r : Result T NvtFault) (old new : DecoderState) (piece : List ℕ) (before after : List Item) (item : Option Item)
    → OnOk r (FeedsTo AddsItems old piece before after new)
    → (IsErrOf r fault.Refused → StopsAtSink AddsItems AddsNone old piece before after)
    → (IsErrOf r fault.Memory → StopsForMemory AddsItems old piece before after)
    → (IsLetGo old piece → IsErrOf r fault.Memory → ⊥) → OnErr r (new ≡ failed) → IsErrOf r fault.Failed ↔ (old ≡ failed)
    → (IsErrOf r fault.Failed → after ≡ before)
    → FeedCall piece (nvt_answer r) (record { decoder = old; waiting = before; item = item }) (record { decoder = new; waiting = after; item = item })
fed_by (Ok x) old new piece before after item ok refused memory lets_go fails had stays =
    record {
      codes = inl refl;
      ok = λ _. fed old new piece before after ok;
      memory = λ e. absurd (cc);
      lets_go = λ _. refl;
      refused = (λ e. absurd (cc), λ is. absurd (let e = had.1 is in cc));
      fails = λ other. absurd (other refl);
      failed_waiting = λ e. absurd (cc);
      item = refl;
    }
fed_by (Err fault.Memory) old new piece before after item ok refused memory lets_go fails had stays =
    record {
      codes = inr (inl refl);
      ok = λ e. absurd (cc);
      memory = λ _. inr (memory refl);
      lets_go = λ g. absurd (lets_go g refl);
      refused = (λ e. absurd (cc), λ is. absurd (let e = had.1 is in cc));
      fails = λ _. fails;
      failed_waiting = λ e. absurd (cc);
      item = refl;
    }
fed_by (Err fault.Failed) old new piece before after item ok refused memory lets_go fails had stays =
    record {
      codes = inr (inr refl);
      ok = λ e. absurd (cc);
      memory = λ e. absurd (cc);
      lets_go = λ g. absurd (let e = sym g.letting_go ∙ had.0 refl in cc);
      refused = (λ _. had.0 refl, λ _. refl);
      fails = λ _. fails;
      failed_waiting = λ _. stays refl;
      item = refl;
    }
fed_by (Err fault.Refused) old new piece before after item ok refused memory lets_go fails had stays =
    record {
      codes = inr (inl refl);
      ok = λ e. absurd (cc);
      memory = λ _. inl (refused refl);
      lets_go = λ g. absurd (never_refused old piece before after g (refused refl));
      refused = (λ e. absurd (cc), λ is. absurd (let e = had.1 is in cc));
      fails = λ _. fails;
      failed_waiting = λ e. absurd (cc);
      item = refl;
    }
