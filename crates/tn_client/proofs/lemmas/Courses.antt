-- Courses and their histories.
use Rattle.std.proofs.{Common.{◌≡◌, ℕ, List, [], ◌∷◌, ◌++◌, refl, sym, ap, ◌∙◌, subst, append-nil, append_assoc}, lemmas.List.append_cancel_left}
use Rattle.tn_nvt.specs.{Feeding.DecoderState, Stream.Reading, declared.items.Item.Item}
use Rattle.tn_nvt.specs.Feeding as nvt
use Rattle.tn_nvt.proofs.lemmas.Reading.{one_standing, reads_none}
use Rattle.tn_linemode.proofs.lemmas.{Reading.{same_more, part_in_two}, Cutting.{cons_some, back_some}}
use Rattle.tn_client.specs.{Events.{Event, typed, got, History, next, items, gets, entered}, Replies.items_said, Screen.text_shown, Calls.End}
use Rattle.tn_client.specs.{Answering.{Feeds, IsStopCause, StopsWithin}, Steps.{end_after, end_after_items, says_items, items_shown}}
use Rattle.tn_client.specs.Course.{Course, started, fed, called, stream, IsCall, ReadsAs, CourseLeadsTo}
use Rattle.tn_client.proofs.lemmas.{Standings.{stands, says_all, shows_all, stands_fed}, Histories.{items-gets, gets-append}}
use Rattle.tn_linemode.specs.Prefixes.{IsRead}

-- a call brings no item
pub items-call : (h : History) (e : Event) → IsCall e → items (next h e) ≡ items h
items-call h (got item) call = absurd call
items-call h _ call = refl

-- the items of a course are those of its stream
pub leads-read : (c : Course) (h : History) → ReadsAs c h → IsRead (stream c) (items h)
leads-read (started width height limit) h is = subst (λ (k : History). IsRead [] (items k)) (sym is) ([], reads_none)
leads-read (fed c piece) h l =
    subst (λ (xs : List Item). IsRead (stream c ++ piece) xs) (sym (ap items l.4 ∙ items-gets l.0 l.1)) l.3
leads-read (called c e) h l =
    subst (λ (xs : List Item). IsRead (stream c) xs) (sym (ap items l.3 ∙ items-call l.0 e l.2)) (leads-read c l.0 l.1)

-- A course has one history.
pub one_history : (c : Course) (h k : History) → ReadsAs c h → ReadsAs c k → h ≡ k
one_history (started width height limit) h k a b = a ∙ sym b
one_history (fed c piece) h k a b =
    let old = one_history c a.0 b.0 a.2 b.2 in
    let more = same_more (stream c ++ piece) (items a.0) (items b.0) a.1 b.1 (ap items old) a.3 b.3 in
    a.4 ∙ ap (λ (x : History). gets x a.1) old ∙ ap (gets b.0) more ∙ sym b.4
one_history (called c e) h k a b = a.3 ∙ ap (λ (x : History). next x e) (one_history c a.0 b.0 a.1 b.1) ∙ sym b.3

-- one piece more
leads_fed : (c : Course) (old new : End) (piece before after seen now : List ℕ) → (a : CourseLeadsTo c old) → (f : Feeds old piece before after seen now new)
    → ReadsAs (fed c piece) (gets a.history f.items)
leads_fed c old new piece before after seen now a f =
    let read = f.reads (stream c) (items a.history) a.reads in (a.history, f.items, a.reads_as, (read.rest, read.reading), refl)

pub fed_at : (c : Course) (old new : End) (piece before after seen now : List ℕ) → CourseLeadsTo c old → Feeds old piece before after seen now new
    → CourseLeadsTo (fed c piece) new
fed_at c old new piece before after seen now a f =
    let read = f.reads (stream c) (items a.history) a.reads in
    record {
      history = gets a.history f.items;
      reads_as = leads_fed c old new piece before after seen now a f;
      leads = stands_fed a.history old new piece before after seen now f a.leads;
      reads = subst (λ (xs : List Item). nvt.LeadsTo (stream c ++ piece) xs new.decoder) (sym (items-gets a.history f.items)) read;
    }

pub fed_said : (c : Course) (old new : End) (piece before after seen now : List ℕ) (h k : History) → CourseLeadsTo c old
    → (f : Feeds old piece before after seen now new) → ReadsAs c h → ReadsAs (fed c piece) k
    → items_said k ≡ items_said h ++ says_items old f.items
fed_said c old new piece before after seen now h k a f l m =
    let there = leads_fed c old new piece before after seen now a f in
    ap items_said (one_history (fed c piece) k (gets a.history f.items) m there) ∙ says_all a.history old f.items a.leads
    ∙ ap (λ (x : History). items_said x ++ says_items old f.items) (one_history c a.history h a.reads_as l)

pub fed_shown : (c : Course) (old new : End) (piece before after seen now : List ℕ) (h k : History) → CourseLeadsTo c old
    → (f : Feeds old piece before after seen now new) → ReadsAs c h → ReadsAs (fed c piece) k
    → text_shown k ≡ text_shown h ++ items_shown f.items
fed_shown c old new piece before after seen now h k a f l m =
    let there = leads_fed c old new piece before after seen now a f in
    ap text_shown (one_history (fed c piece) k (gets a.history f.items) m there) ∙ shows_all a.history f.items
    ∙ ap (λ (x : History). text_shown x ++ items_shown f.items) (one_history c a.history h a.reads_as l)

-- one call more
pub call_decoder : (old : End) (e : Event) → (end_after old e).decoder ≡ old.decoder
call_decoder old (typed key) = refl
call_decoder old entered = refl
call_decoder old _ = refl

pub call_failed : (old : End) (e : Event) → (end_after old e).failed ≡ old.failed
call_failed old (typed key) = refl
call_failed old entered = refl
call_failed old _ = refl

pub called_at : (c : Course) (old : End) (e : Event) → CourseLeadsTo c old → IsCall e → CourseLeadsTo (called c e) (end_after old e)
called_at c old e a call = record {
  history = next a.history e;
  reads_as = (a.history, a.reads_as, call, refl);
  leads = stands a.history old e a.leads;
  reads =
      let P : DecoderState → Type 0 = λ d. nvt.LeadsTo (stream c) (items (next a.history e)) d in
      subst P (sym (call_decoder old e)) (subst (λ (xs : List Item). nvt.LeadsTo (stream c) xs old.decoder) (sym (items-call a.history e call)) a.reads);
}

-- two pieces are one
pub joined : (c : Course) (p q : List ℕ) (h : History) → ReadsAs (fed (fed c p) q) h → ReadsAs (fed c (p ++ q)) h
joined c p q h l =
    let first = l.2 in
    let old = first.0 in
    let same : items l.0 ++ l.1 ≡ items old ++ (first.1 ++ l.1) =
    ap (λ (xs : List Item). xs ++ l.1) (ap items first.4 ∙ items-gets old first.1) ∙ append_assoc (items old) first.1 l.1 in (
      old,
      first.1 ++ l.1,
      first.2,
      subst (λ (bytes : List ℕ). IsRead bytes (items old ++ (first.1 ++ l.1))) (append_assoc (stream c) p q)
          (subst (λ (xs : List Item). IsRead ((stream c ++ p) ++ q) xs) same l.3),
      l.4 ∙ ap (λ (k : History). gets k l.1) first.4 ∙ sym (gets-append old first.1 l.1),
    )

-- one piece is two, if its front has a reading
pub parted : (c : Course) (p q : List ℕ) (h : History) → (read : List Item) × (rest : List ℕ) × Reading (stream c ++ p) read rest → ReadsAs (fed c (p ++ q)) h
    → ReadsAs (fed (fed c p) q) h
parted c p q h r (old, all, leads, reads, is) =
    let t = part_in_two (stream c) p q (items old) all (leads-read c old leads) r reads in (
      gets old t.first,
      t.second,
      (old, t.first, leads, t.front, refl),
      subst (λ (xs : List Item). IsRead ((stream c ++ p) ++ q) (xs ++ t.second)) (sym (items-gets old t.first)) t.all,
      is ∙ ap (gets old) t.whole ∙ gets-append old t.first t.second,
    )

-- nothing is left if nothing was fed
none_left : (xs done left : List Item) → xs ≡ xs ++ (done ++ left) → left ≡ []
none_left xs done left e = go left (append_cancel_left xs (done ++ left) [] (sym e ∙ sym (append-nil xs)))
  where
    go : (ys : List Item) → done ++ ys ≡ [] → ys ≡ []
    go [] f = refl
    go (y ∷ ys) f = absurd (back_some done (y ∷ ys) (cons_some y ys) f)

never : (end : End) (left part : List Item) (here : DecoderState) → left ≡ [] → IsStopCause end left part here [] → ⊥
never end [] part here e g = g.1
never end (x ∷ xs) part here e g = cons_some x xs e

pub never_refused : (c : Course) (old : End) (before after seen now : List ℕ) → CourseLeadsTo c old → StopsWithin old [] before after seen now → ⊥
never_refused c old before after seen now a b = go b.front b.back b.whole b.reads b.cause
  where
    go : (front back : List ℕ) → [] ≡ front ++ back
        → ((bytes : List ℕ) (had : List Item) → nvt.LeadsTo bytes had old.decoder → nvt.LeadsTo (bytes ++ front) (had ++ (b.done ++ b.left)) b.here)
        → ((bytes : List ℕ) (had : List Item) → nvt.LeadsTo bytes had old.decoder
        → IsStopCause (end_after_items old b.done) b.left b.part b.here back) → ⊥
    go [] [] e reads why =
        let had = items a.history in
        let then : nvt.LeadsTo (stream c) (had ++ (b.done ++ b.left)) b.here =
        subst (λ (bytes : List ℕ). nvt.LeadsTo bytes (had ++ (b.done ++ b.left)) b.here) (append-nil (stream c)) (reads (stream c) had a.reads) in
        let same = (one_standing old.decoder b.here (stream c) had (had ++ (b.done ++ b.left)) a.reads then).1 in
        never (end_after_items old b.done) b.left b.part b.here (none_left had b.done b.left same) (why (stream c) had a.reads)
    go [] (x ∷ xs) e reads why = cons_some x xs (sym e)
    go (x ∷ xs) back e reads why = cons_some x (xs ++ back) (sym e)
