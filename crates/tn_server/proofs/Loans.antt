-- The effects on a server end of being lent to its decoder.
use Rattle.std.proofs.Common.{◌≡◌, ◌↔◌, inl, inr, true, false, ℕ, List, [], ◌∷◌, ◌++◌, map, Result, Err, OnOk, IsErrOf, refl, sym, ap, ◌∙◌, append-nil, append_assoc, subst}
use Rattle.std.proofs.lemmas.List.{map-append}
use Rattle.tn_nvt.specs.{Spelling.spells, Sinks.{TakesEach, FeedsTo, StopsAtSink as RefusesRest, StopsForMemory, all_of, calls_of, bytes_of}}
use Rattle.tn_nvt.specs.{Feeding.{DecoderState, failed}, declared.{decoding.NvtFault.NvtFault, items.Item.{Item, TheVariants.Byte}}}
use Rattle.tn_nvt.specs.Feeding as decoder_words
use Rattle.tn_nvt.specs.declared.decoding.NvtFault.TheVariants as nvt
use Rattle.tn_nvt.proofs.lemmas.Folding.{taken_all, refused_items, kept_by_all}
use Rattle.tn_linemode.specs.Prefixes.{AppendsPrefix}
use Rattle.tn_linemode.proofs.lemmas.Cutting.{spelled_on}
use Rattle.tn_pty.specs.declared.pty.PtyFault.TheVariants.{Closed}
use Rattle.tn_server.specs.{Answering.{Feeds, StopsWithin, IsHalted}, Calls.End, Faults.IsOfPiece, Lending.{IsSameLoan, TakesItems, RefusesItems, RefusesByte}}
use Rattle.tn_server.specs.{Steps.{IsShut, IsRefusedFor, end_after_item, says_item, end_after_items, says_items}, declared.faults.ServerFault.ServerFault}
use Rattle.tn_server.specs.declared.{faults.ServerFault.TheVariants.{Pty, Memory, Failed}, taking.Lent.Lent}
use Rattle.tn_server.proofs.lemmas.Gathering.{after_both, says_both, says_plain, after_aside, item_says, says_aside, items_keep}

-- ONE CALL
pub took_run : (a b : Lent) (bytes : List ℕ) → IsSameLoan a b → b.end.now ≡ end_after_items a.end.now (map Byte bytes)
    → b.out.now.items ≡ a.out.now.items → b.cause ≡ a.cause → TakesItems a (map Byte bytes) b
took_run a b bytes same step out cause = record {
  same = same;
  step = step;
  said = out ∙ sym (append-nil a.out.now.items) ∙ ap (λ (xs : List Item). a.out.now.items ++ spells xs) (sym (says_plain a.end.now bytes));
  cause = cause;
}

pub refused_run : (a b : Lent) (bytes : List ℕ) → IsSameLoan a b → RefusesByte a.end.now bytes b.cause b.end.now → b.out.now.items ≡ a.out.now.items
    → RefusesItems a (map Byte bytes) b
refused_run a b bytes same r out = record {
  same = same;
  done = map Byte r.done;
  item = Byte r.byte;
  left = map Byte r.left;
  whole = ap (map Byte) r.whole ∙ map-append Byte r.done (r.byte ∷ r.left);
  cut = record {
    part = [];
    rest = [];
    whole_is = refl;
    appended =
        out ∙ sym (append-nil a.out.now.items) ∙ ap (λ (xs : List Item). a.out.now.items ++ spells xs) (sym (says_plain a.end.now r.done))
        ∙ sym (append-nil (a.out.now.items ++ spells (says_items a.end.now (map Byte r.done))));
  };
  cause = r.cause;
  step = r.step;
}

pub took_item : (a b : Lent) (item : Item) → IsSameLoan a b → b.end.now ≡ end_after_item a.end.now item
    → b.out.now.items ≡ a.out.now.items ++ spells (says_item a.end.now item) → b.cause ≡ a.cause → TakesItems a (item ∷ []) b
took_item a b item same step out cause = record {
  same = same;
  step = step;
  said = out ∙ ap (λ (xs : List Item). a.out.now.items ++ spells xs) (sym (append-nil (says_item a.end.now item)));
  cause = cause;
}

pub refused_item : (a b : Lent) (item : Item) → IsSameLoan a b → AppendsPrefix (says_item a.end.now item) a.out.now.items b.out.now.items
    → IsRefusedFor a.end.now item b.cause → IsShut a.end.now b.end.now → RefusesItems a (item ∷ []) b
refused_item a b item same cut cause step = record {
  same = same;
  done = [];
  item = item;
  left = [];
  whole = refl;
  cut = record {
    part = cut.part;
    rest = cut.rest;
    whole_is = cut.whole_is;
    appended = cut.appended ∙ ap (λ (xs : List ℕ). xs ++ spells cut.part) (sym (append-nil a.out.now.items));
  };
  cause = cause;
  step = step;
}

-- ALL CALLS
record GetsBy (a : Lent) (items : List Item) (b : Lent) : Type 0 where
  pub step : b.end.now ≡ end_after_items a.end.now items
  pub said : b.out.now.items ≡ a.out.now.items ++ spells (says_items a.end.now items)
  pub cause : b.cause ≡ a.cause

gets_none : (a : Lent) → GetsBy a [] a
gets_none a = record { step = refl; said = sym (append-nil a.out.now.items); cause = refl }

gets_both : (a b c : Lent) (xs ys : List Item) → TakesItems a xs b → GetsBy b ys c → GetsBy a (xs ++ ys) c
gets_both a b c xs ys t g =
    let said = says_items (end_after_items a.end.now xs) ys in
    let there : c.out.now.items ≡ b.out.now.items ++ spells said = g.said ∙ ap (λ (e : End). b.out.now.items ++ spells (says_items e ys)) t.step in
    record {
      step = g.step ∙ ap (λ (e : End). end_after_items e ys) t.step ∙ sym (after_both a.end.now xs ys);
      said =
          spelled_on (says_items a.end.now xs) said a.out.now.items b.out.now.items c.out.now.items t.said there
          ∙ ap (λ (all : List Item). a.out.now.items ++ spells all) (sym (says_both a.end.now xs ys));
      cause = g.cause ∙ t.cause;
    }

gets_all : (a b : Lent) (calls : List (List Item)) → TakesEach TakesItems a calls b → GetsBy a (all_of calls) b
gets_all a b calls t = taken_all TakesItems RefusesItems GetsBy gets_none (λ x y z xs ys u g. gets_both x y z xs ys u g) a b calls t

-- the loan stays the same loan, whatever the decoder answered
pub same_loan : (r : Result (Unit {0}) NvtFault) (old new : DecoderState) (piece : List ℕ) (a b : Lent) → OnOk r (FeedsTo TakesItems old piece a b new)
    → (IsErrOf r nvt.Refused → RefusesRest TakesItems RefusesItems old piece a b) → (IsErrOf r nvt.Memory → StopsForMemory TakesItems old piece a b)
    → (IsErrOf r nvt.Failed → b ≡ a) → IsSameLoan a b
same_loan = kept_by_all TakesItems RefusesItems IsSameLoan (λ x. record { end = refl; out = refl })
    (λ x y z p q. record { end = q.end ∙ p.end; out = q.out ∙ p.out }) (λ x y xs t. t.same) (λ x y xs t. t.same)

-- the end was lent without its decoder
after_lent : (old : End) (held : DecoderState) (a : Lent) (items : List Item) → a.end.now ≡ record old { decoder = held }
    → end_after_items a.end.now items ≡ record (end_after_items old items) { decoder = held }
after_lent old held a items began =
    ap (λ (e : End). end_after_items e items) began ∙ after_aside held old.failed old.terminal.closed old items
    ∙ ap (λ (e : End). record e { decoder = held }) (sym (items_keep old items))

says_lent : (old : End) (held : DecoderState) (a : Lent) (items : List Item) → a.end.now ≡ record old { decoder = held }
    → says_items a.end.now items ≡ says_items old items
says_lent old held a items began =
    ap (λ (e : End). says_items e items) began ∙ says_aside held old.failed old.terminal.closed old items

-- a piece that was read to its end
pub feeds_of : (old new : End) (held d : DecoderState) (piece after : List ℕ) (a b : Lent) → a.end.now ≡ record old { decoder = held }
    → FeedsTo TakesItems old.decoder piece a b d → new ≡ record b.end.now { decoder = d } → after ≡ b.out.now.items → Feeds old piece a.out.now.items after new
feeds_of old new held d piece after a b began hands is outs =
    let items = all_of (calls_of hands.parts) in
    let g = gets_all a b (calls_of hands.parts) hands.taken in
    let decoder : new.decoder ≡ d = ap (λ (e : End). e.decoder) is in
    record {
      items = items;
      reads = subst (λ (e : DecoderState). decoder_words.Advances old.decoder piece items e) (sym decoder) hands.adds;
      step =
          is ∙ ap (λ (e : End). record e { decoder = d }) (g.step ∙ after_lent old held a items began)
          ∙ ap (λ (x : DecoderState). record (end_after_items old items) { decoder = x }) (sym decoder);
      said = outs ∙ g.said ∙ ap (λ (xs : List Item). a.out.now.items ++ spells xs) (says_lent old held a items began);
    }

-- the items that were taken, those that the refused call did, and the rest of it and after it
four_parts : (taken done left unseen : List Item) (item : Item) (call : List Item) → call ≡ done ++ item ∷ left
    → taken ++ (call ++ unseen) ≡ (taken ++ done) ++ (item ∷ left ++ unseen)
four_parts taken done left unseen item call is =
    ap (λ (xs : List Item). taken ++ (xs ++ unseen)) is
    ∙ ap (λ (xs : List Item). taken ++ xs) (append_assoc done (item ∷ left) unseen)
    ∙ sym (append_assoc taken done (item ∷ left ++ unseen))

-- the end comes back, and has failed
halted : (end there new : End) (held d : DecoderState) → IsShut (record end { decoder = held }) there → new ≡ record there { decoder = d; failed = true }
    → IsHalted end new
halted end there new held d (inl same) is =
    let back : new ≡ record end { decoder = d; failed = true } = is ∙ ap (λ (e : End). record e { decoder = d; failed = true }) same in
    rw back refl
halted end there new held d (inr shut) is =
    let back : new ≡ record end { decoder = d; terminal = record (end.terminal) { closed = true }; failed = true } =
    is ∙ ap (λ (e : End). record e { decoder = d; failed = true }) shut in
    rw back refl

-- the reply to the next item, and why it is refused, do not depend on the decoder
first_lent : (end : End) (held : DecoderState) (item : Item) → says_item (record end { decoder = held }) item ≡ says_item end item
first_lent end held item = item_says held end.failed end.terminal.closed end item

cause_lent : (end : End) (held : DecoderState) (item : Item) (f : ServerFault) → IsRefusedFor (record end { decoder = held }) item f → IsRefusedFor end item f
cause_lent end held item (Pty f) x = x
cause_lent end held item Memory (inl some) = inl (λ none. some (first_lent end held item ∙ none))
cause_lent end held item Memory (inr list) = inr list
cause_lent end held item _ x = absurd x

halts_at : (old new : End) (held d : DecoderState) (piece after : List ℕ) (a b : Lent) → a.end.now ≡ record old { decoder = held }
    → RefusesRest TakesItems RefusesItems old.decoder piece a b → new ≡ record b.end.now { decoder = d; failed = true } → after ≡ b.out.now.items
    → StopsWithin old piece b.cause a.out.now.items after new
halts_at old new held d piece after a b began r is outs =
    let t = r.given_up in
    let before = all_of r.done in
    let done = before ++ t.done in
    let unseen = all_of r.unseen in
    let g = gets_all a r.middle r.done r.taken in
    let end = end_after_items old done in
    let there : end_after_items r.middle.end.now t.done ≡ record end { decoder = held } =
    ap (λ (e : End). end_after_items e t.done) g.step ∙ sym (after_both a.end.now before t.done) ∙ after_lent old held a done began in
    let said : says_items a.end.now before ++ says_items r.middle.end.now t.done ≡ says_items old done =
    ap (λ (e : End). says_items a.end.now before ++ says_items e t.done) g.step ∙ sym (says_both a.end.now before t.done) ∙ says_lent old held a done began in
    let heard : r.middle.out.now.items ++ spells (says_items r.middle.end.now t.done) ≡ a.out.now.items ++ spells (says_items old done) =
    spelled_on (says_items a.end.now before) (says_items r.middle.end.now t.done) a.out.now.items r.middle.out.now.items _ g.said refl
    ∙ ap (λ (xs : List Item). a.out.now.items ++ spells xs) said in
    record {
      front = bytes_of r.parts;
      back = r.back;
      whole = r.whole;
      done = done;
      left = t.item ∷ t.left ++ unseen;
      here = r.here;
      reads = subst (λ (xs : List Item). decoder_words.Advances old.decoder (bytes_of r.parts) xs r.here)
          (refused_items TakesItems RefusesItems old.decoder piece a b r ∙ four_parts before t.done t.left unseen t.item r.left t.whole) r.adds;
      part = t.cut.part;
      rest = t.cut.rest;
      said = outs ∙ spelled_on (says_items old done) t.cut.part a.out.now.items _ b.out.now.items heard t.cut.appended;
      begins = sym (ap (λ (e : End). says_item e t.item) there ∙ first_lent end held t.item) ∙ t.cut.whole_is;
      cause = λ on. cause_lent end held t.item b.cause (subst (λ (e : End). IsRefusedFor e t.item b.cause) there t.cause);
      step = halted end b.end.now new held d (subst (λ (e : End). IsShut e b.end.now) there t.step) is;
    }

halts_after : (old new : End) (held d : DecoderState) (piece after : List ℕ) (a b : Lent) → a.end.now ≡ record old { decoder = held }
    → StopsForMemory TakesItems old.decoder piece a b → new ≡ record b.end.now { decoder = d; failed = true } → after ≡ b.out.now.items
    → StopsWithin old piece Memory a.out.now.items after new
halts_after old new held d piece after a b began w is outs =
    let items = all_of (calls_of w.parts) in
    let g = gets_all a b (calls_of w.parts) w.taken in
    record {
      front = bytes_of w.parts;
      back = w.byte ∷ w.back;
      whole = w.whole;
      done = items;
      left = [];
      here = w.here;
      reads = subst (λ (xs : List Item). decoder_words.Advances old.decoder (bytes_of w.parts) xs w.here) (sym (append-nil items)) w.adds;
      part = [];
      rest = [];
      said =
          outs ∙ g.said
          ∙ ap (λ (xs : List Item). a.out.now.items ++ spells xs) (says_lent old held a items began ∙ sym (append-nil (says_items old items)));
      begins = refl;
      cause = λ on. (refl, w.wanted);
      step = halted (end_after_items old items) b.end.now new held d (inl (g.step ∙ after_lent old held a items began)) is;
    }

-- a decoder that has failed reads nothing
halts_unread : (old new : End) (held d : DecoderState) (piece after : List ℕ) (a b : Lent) → a.end.now ≡ record old { decoder = held } → old.decoder ≡ failed
    → b ≡ a → new ≡ record b.end.now { decoder = d; failed = true } → after ≡ b.out.now.items → StopsWithin old piece Memory a.out.now.items after new
halts_unread old new held d piece after a b began dead same is outs = record {
  front = [];
  back = piece;
  whole = refl;
  done = [];
  left = [];
  here = old.decoder;
  reads = λ stream had read. rw (append-nil, append-nil) read;
  part = [];
  rest = [];
  said = outs ∙ ap (λ (x : Lent). x.out.now.items) same ∙ sym (append-nil a.out.now.items);
  begins = refl;
  cause = λ on. absurd (on dead);
  step = halted old b.end.now new held d (inl (ap (λ (x : Lent). x.end.now) same ∙ began)) is;
}

pub halts_of : (r : Result (Unit {0}) NvtFault) (e : NvtFault) → r ≡ Err e → (old new : End) (held d : DecoderState) (piece after : List ℕ) (a b : Lent)
    → a.cause ≡ Memory → a.end.now ≡ record old { decoder = held } → (IsErrOf r nvt.Refused → RefusesRest TakesItems RefusesItems old.decoder piece a b)
    → (IsErrOf r nvt.Memory → StopsForMemory TakesItems old.decoder piece a b) → (IsErrOf r nvt.Failed ↔ (old.decoder ≡ failed))
    → (IsErrOf r nvt.Failed → b ≡ a) → new ≡ record b.end.now { decoder = d; failed = true } → after ≡ b.out.now.items
    → StopsWithin old piece b.cause a.out.now.items after new
halts_of r nvt.Refused e old new held d piece after a b none began refused memory dead same is outs =
    halts_at old new held d piece after a b began (refused e) is outs
halts_of r nvt.Memory e old new held d piece after a b none began refused memory dead same is outs =
    let w = memory e in
    let cause = (gets_all a b (calls_of w.parts) w.taken).cause ∙ none in
    subst (λ (f : ServerFault). StopsWithin old piece f a.out.now.items after new) (sym cause) (halts_after old new held d piece after a b began w is outs)
halts_of r nvt.Failed e old new held d piece after a b none began refused memory dead same is outs =
    let cause = ap (λ (x : Lent). x.cause) (same e) ∙ none in
    subst (λ (f : ServerFault). StopsWithin old piece f a.out.now.items after new) (sym cause)
    (halts_unread old new held d piece after a b began (dead.0 e) (same e) is outs)

-- WHY A PIECE WAS REFUSED by an end that had not failed before
pub record IsRefusal (old : End) (f : ServerFault) : Type 0 where
  pub runs : IsErrOf {T = Unit {0}} (Err f) Failed → ⊥
  pub of_piece : IsOfPiece f
  pub shut : IsErrOf {T = Unit {0}} (Err f) (Pty Closed) → old.terminal.closed ≡ true

-- an item was
closed_before : (end : End) (items : List Item) (item : Item) (f : ServerFault) → IsRefusedFor (end_after_items end items) item f
    → IsErrOf {T = Unit {0}} (Err f) (Pty Closed) → end.terminal.closed ≡ true
closed_before end items item f x is =
    let same : f ≡ Pty Closed = cc in
    sym (ap (λ (e : End). e.terminal.closed) (items_keep end items))
    ∙ subst (λ (g : ServerFault). IsRefusedFor (end_after_items end items) item g) same x

for_item : (end : End) (items : List Item) (item : Item) (f : ServerFault) → IsRefusedFor (end_after_items end items) item f → IsRefusal end f
for_item end items item (Pty x) why = record { runs = λ is. cc; of_piece = tt; shut = closed_before end items item (Pty x) why }
for_item end items item Memory why = record { runs = λ is. cc; of_piece = tt; shut = λ is. absurd (cc) }
for_item end items item _ why = absurd why

for_memory : (end : End) (f : ServerFault) → f ≡ Memory → IsRefusal end f
for_memory end f is =
    let here : IsRefusal end Memory = record { runs = λ e. cc; of_piece = tt; shut = λ e. absurd (cc) } in
    subst (IsRefusal end) (sym is) here

pub true_is_not_false : true ≡ false → ⊥
true_is_not_false e = cc

pub is_refusal : (r : Result (Unit {0}) NvtFault) (e : NvtFault) → r ≡ Err e → (old : DecoderState) (piece : List ℕ) (a b : Lent) → a.cause ≡ Memory
    → (IsErrOf r nvt.Refused → RefusesRest TakesItems RefusesItems old piece a b) → (IsErrOf r nvt.Memory → StopsForMemory TakesItems old piece a b)
    → (IsErrOf r nvt.Failed → b ≡ a) → IsRefusal a.end.now b.cause
is_refusal r nvt.Refused e old piece a b none refused memory same =
    let f = refused e in
    let t = f.given_up in
    let step = (gets_all a f.middle f.done f.taken).step in
    let there : end_after_items f.middle.end.now t.done ≡ end_after_items a.end.now (all_of f.done ++ t.done) =
    ap (λ (x : End). end_after_items x t.done) step ∙ sym (after_both a.end.now (all_of f.done) t.done) in
    for_item a.end.now (all_of f.done ++ t.done) t.item b.cause (subst (λ (x : End). IsRefusedFor x t.item b.cause) there t.cause)
is_refusal r nvt.Memory e old piece a b none refused memory same =
    let w = memory e in
    for_memory a.end.now b.cause ((gets_all a b (calls_of w.parts) w.taken).cause ∙ none)
is_refusal r nvt.Failed e old piece a b none refused memory same =
    for_memory a.end.now b.cause (ap (λ (x : Lent). x.cause) (same e) ∙ none)
