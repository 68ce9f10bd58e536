-- The ends to which a course leads.
use Rattle.std.proofs.Common.{◌≡◌, ◌<◌, ℕ, List, [], ◌∷◌, ◌++◌, length, map, take, drop, refl, sym, ap, ◌∙◌, subst, append-nil, append_assoc, arith, min, ◌≤◌}
use Rattle.std.proofs.{Math.Seq.take-length, lemmas.List.Elements.{All-head, All-tail}}
use Rattle.std.specs.{Prelude.All, List.flat_map}
use Rattle.tn_discipline.specs.{declared.{echo.Symbol.Symbol, termios.Flags.Flags}, Canon.Canon}
use Rattle.tn_pty.specs.Terminal.{output_symbol, output_symbols, fitting_count}
use Rattle.tn_nvt.specs.Feeding as nvt
use Rattle.tn_nvt.specs.{Stream.Reading, declared.items.Item.Item}
use Rattle.tn_nvt.proofs.lemmas.Reading.{reads_none, has_reading}
use Rattle.tn_linemode.proofs.lemmas.Reading.{same_more, part_in_two}
use Rattle.tn_server.specs.{Course.{Course, started, fed, called, stream, IsCall, ReadsAs, CourseLeadsTo, in_parts}, Replies.{data_of, items_said}}
use Rattle.tn_server.specs.{Events.{Event, History, begun, next, got, wrote, pulled, items, gets}, Screen.queue, Terms.settings, Answering.Feeds}
use Rattle.tn_server.specs.{Calls.{End, LeadsTo}, Steps.{end_after, says_items}, declared.openings.Opening.Opening}
use Rattle.tn_linemode.specs.Prefixes.{IsRead}
use Rattle.tn_server.proofs.lemmas.{Leading.{stands, stands_fed, says_all}, Gathering.call_keeps, Histories.{items-gets, gets-append}}

pub one_history : (c : Course) (h k : History) → ReadsAs c h → ReadsAs c k → h ≡ k
one_history (started o canon) h k a b = a ∙ sym b
one_history (fed c piece) h k a b =
    let old = one_history c a.0 b.0 a.2 b.2 in
    let more = same_more (stream c ++ piece) (items a.0) (items b.0) a.1 b.1 (ap items old) a.3 b.3 in
    a.4 ∙ ap (λ (x : History). gets x a.1) old ∙ ap (gets b.0) more ∙ sym b.4
one_history (called c e) h k a b = a.3 ∙ ap (λ (x : History). next x e) (one_history c a.0 b.0 a.1 b.1) ∙ sym b.3

pub begins : (opening : Opening) (canon : Canon) (end : End) → LeadsTo (begun opening canon) end → nvt.LeadsTo [] [] end.decoder
    → CourseLeadsTo (started opening canon) end
begins opening canon end stands reads = record { history = begun opening canon; reads_as = refl; leads = stands; reads = reads }

pub fed_on : (c : Course) (old new : End) (piece before after : List ℕ) → CourseLeadsTo c old → Feeds old piece before after new
    → CourseLeadsTo (fed c piece) new
fed_on c old new piece before after a f =
    let read = f.reads (stream c) (items a.history) a.reads in
    record {
      history = gets a.history f.items;
      reads_as = (a.history, f.items, a.reads_as, (read.rest, read.reading), refl);
      leads = stands_fed a.history old new piece before after f a.leads;
      reads = subst (λ (xs : List Item). nvt.LeadsTo (stream c ++ piece) xs new.decoder) (sym (items-gets a.history f.items)) read;
    }

pub fed_says : (c : Course) (old new : End) (piece before after : List ℕ) (h k : History) → CourseLeadsTo c old → (f : Feeds old piece before after new)
    → ReadsAs c h → ReadsAs (fed c piece) k → items_said k ≡ items_said h ++ says_items old f.items
fed_says c old new piece before after h k a f leads also =
    let read = f.reads (stream c) (items a.history) a.reads in
    ap items_said (one_history (fed c piece) k (gets a.history f.items) also (a.history, f.items, a.reads_as, (read.rest, read.reading), refl))
    ∙ says_all a.history old f.items a.leads
    ∙ ap (λ (x : History). items_said x ++ says_items old f.items) (one_history c a.history h a.reads_as leads)

-- a call brings no item
pub calls_read : (h : History) (e : Event) → IsCall e → items (next h e) ≡ items h
calls_read h (got item) is = absurd is
calls_read h _ is = refl

pub called_on : (c : Course) (old : End) (e : Event) → CourseLeadsTo c old → IsCall e → CourseLeadsTo (called c e) (end_after old e)
called_on c old e a call = record {
  history = next a.history e;
  reads_as = (a.history, a.reads_as, call, refl);
  leads = stands a.history old e a.leads;
  reads = subst (λ d. nvt.LeadsTo (stream c) (items (next a.history e)) d) (sym (ap (λ (x : End). x.decoder) (call_keeps old e)))
      (subst (λ (xs : List Item). nvt.LeadsTo (stream c) xs old.decoder) (sym (calls_read a.history e call)) a.reads);
}

-- the items of a history are those of the stream
pub reads_all : (c : Course) (h : History) → ReadsAs c h → IsRead (stream c) (items h)
reads_all (started o canon) h is = ([], subst (λ xs. Reading [] xs []) (sym (ap items is)) reads_none)
reads_all (fed c piece) h (old, more, leads, read, is) =
    (read.0, subst (λ xs. Reading (stream c ++ piece) xs read.0) (sym (ap items is ∙ items-gets old more)) read.1)
reads_all (called c e) h (old, leads, call, is) =
    let read = reads_all c old leads in
    (read.0, subst (λ xs. Reading (stream c) xs read.0) (sym (ap items is ∙ calls_read old e call)) read.1)

pub joined : (c : Course) (p q : List ℕ) (h : History) → ReadsAs (fed (fed c p) q) h → ReadsAs (fed c (p ++ q)) h
joined c p q h (mid, last, (old, more, leads, read, is_mid), reads, is) = (
  old,
  more ++ last,
  leads,
  (
    reads.0,
    subst (λ xs. Reading xs (items old ++ (more ++ last)) reads.0) (append_assoc (stream c) p q)
        (subst (λ xs. Reading ((stream c ++ p) ++ q) xs reads.0)
        (ap (λ xs. xs ++ last) (ap items is_mid ∙ items-gets old more) ∙ append_assoc (items old) more last) reads.1),
  ),
  is ∙ ap (λ (x : History). gets x last) is_mid ∙ sym (gets-append old more last),
)

pub parted : (c : Course) (p q : List ℕ) (h : History) → All (λ b. b < 256) (stream c ++ p) → ReadsAs (fed c (p ++ q)) h → ReadsAs (fed (fed c p) q) h
parted c p q h bytes (old, all, leads, reads, is) =
    let t = part_in_two (stream c) p q (items old) all (reads_all c old leads) (has_reading (stream c ++ p) bytes) reads in (
      gets old t.first,
      t.second,
      (old, t.first, leads, t.front, refl),
      subst (λ (xs : List Item). IsRead ((stream c ++ p) ++ q) (xs ++ t.second)) (sym (items-gets old t.first)) t.all,
      is ∙ ap (gets old) t.whole ∙ gets-append old t.first t.second,
    )

-- a text that was written in parts, while no symbol waited
take_all : (n : ℕ) (xs : List ℕ) → length xs ≤ n → take (min (length xs) n) xs ≡ xs
take_all n xs few = ap (λ (m : ℕ). take m xs) (let e : min (length xs) n ≡ length xs = omega arith in e) ∙ take-length xs

-- one part
part_waits : (h : History) (part : List ℕ) → queue h ≡ [] → length part ≤ 4096 → queue (next h (wrote part)) ≡ output_symbols (settings h).flags part
part_waits h part none few =
    ap (λ (q : List Symbol). q ++ output_symbols (settings h).flags (take (fitting_count q part) part)) none
    ∙ ap (output_symbols (settings h).flags) (take_all 4096 part few)

pub parts_say : (h : History) (parts : List (List ℕ)) → queue h ≡ [] → All (λ part. length part ≤ 4096) parts
    → (items_said (in_parts h parts) ≡ items_said h ++ map data_of (output_symbols (settings h).flags (flat_map (λ part. part) parts)))
    × (queue (in_parts h parts) ≡ [])
parts_say h [] none few = (sym (append-nil (items_said h)), none)
parts_say h (part ∷ parts) none few =
    let f = (settings h).flags in
    let here = next h (wrote part) in
    let q = queue here in
    let there = next here (pulled (length q)) in
    let waits = part_waits h part none (All-head (λ p. length p ≤ 4096) part parts few) in
    let on = parts_say there parts (drop_all q) (All-tail (λ p. length p ≤ 4096) part parts few) in
    let more = map data_of (output_symbols f (flat_map (λ p. p) parts)) in
    let said : items_said there ≡ items_said h ++ map data_of (output_symbols f part) =
    ap (λ xs. xs ++ map data_of (take (length q) q)) (append-nil (items_said h))
    ∙ ap (λ (xs : List Symbol). items_said h ++ map data_of xs) (take-length q ∙ waits) in (
      on.0 ∙ ap (λ xs. xs ++ more) said ∙ append_assoc (items_said h) (map data_of (output_symbols f part)) more
          ∙ ap (λ xs. items_said h ++ xs) (both_shown f part (flat_map (λ p. p) parts)),
      on.1,
    )
  where
    drop_all : (xs : List Symbol) → drop (length xs) xs ≡ []
    drop_all [] = refl
    drop_all (x ∷ xs) = drop_all xs

    both_shown : (f : Flags) (xs ys : List ℕ) → map data_of (output_symbols f xs) ++ map data_of (output_symbols f ys)
        ≡ map data_of (output_symbols f (xs ++ ys))
    both_shown f [] ys = refl
    both_shown f (x ∷ xs) ys = ap (λ zs. data_of (output_symbol f x) ∷ zs) (both_shown f xs ys)
