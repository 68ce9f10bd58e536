-- The effects on a client end of being lent to its decoder.
use Rattle.std.proofs.Common.{◌≡◌, ◌≢◌, ◌↔◌, ◌⊎◌, inl, inr, ℕ, List, [], ◌∷◌, ◌++◌, map, Result, Err, OnOk, IsErrOf, refl, sym, ap, ◌∙◌, append-nil, arith}
use Rattle.std.proofs.Common.{subst}
use Rattle.tn_nvt.specs.{Spelling.spells, Sinks.{IsRun, TakesEach, FeedsTo, StopsAtSink as RefusesRest, StopsForMemory, all_of, calls_of, bytes_of}}
use Rattle.tn_nvt.specs.{Feeding.{DecoderState, failed, Advances}, declared.decoding.NvtFault.{NvtFault, TheVariants.{Memory, Failed, Refused}}}
use Rattle.tn_nvt.specs.declared.items.Item.{Item, TheVariants.{Byte, Sub}}
use Rattle.tn_nvt.specs.Feeding as nvt
use Rattle.tn_nvt.proofs.lemmas.Folding.{taken_all, refused_items, kept_by_all}
use Rattle.tn_client.specs.{Answering.{Feeds, IsStopCause, StopsWithin}, Calls.{End, ReadsList}, Terms.payload_at, Screen.item_shown, declared.taking.Lent.Lent}
use Rattle.tn_client.specs.Steps.{end_after_item, says_got, says_sub, end_after_items, says_items, items_shown, MayWantMemory}
use Rattle.tn_client.specs.Lending.{IsSameLoan, TakesItems, RefusesItems}
use Rattle.tn_linemode.specs.Prefixes.{AppendsPrefix}
use Rattle.tn_linemode.proofs.lemmas.Cutting.{added_on, spelled_on, cons_some}
use Rattle.tn_client.proofs.lemmas.Gathering.{after_both, says_both, shown_both, after_beside, says_beside, after_plain, says_plain, shown_plain}

-- ONE CALL
pub took_run : (a b : Lent) (bytes : List ℕ) → IsSameLoan a b → b.end.now ≡ a.end.now → b.out.now.items ≡ a.out.now.items
    → b.screen.now.items ≡ a.screen.now.items ++ bytes → TakesItems a (map Byte bytes) b
took_run a b bytes same end out screen = record {
  same = same;
  step = end ∙ sym (after_plain a.end.now bytes);
  said = out ∙ sym (ap (λ (xs : List Item). a.out.now.items ++ spells xs) (says_plain a.end.now bytes) ∙ append-nil a.out.now.items);
  shown = screen ∙ ap (λ (text : List ℕ). a.screen.now.items ++ text) (sym (shown_plain bytes));
}

pub refused_run : (a b : Lent) (bytes : List ℕ) → IsRun bytes → IsSameLoan a b → b.out.now.items ≡ a.out.now.items → b.screen.now.items ≡ a.screen.now.items
    → RefusesItems a (map Byte bytes) b
refused_run a b [] run same out screen = absurd (omega (arith, run.some))
refused_run a b (byte ∷ bytes) run same out screen = record {
  same = same;
  item = Byte byte;
  later = map Byte bytes;
  whole = refl;
  cut = record { part = []; rest = says_got a.end.now (Byte byte); whole_is = refl; appended = out ∙ sym (append-nil a.out.now.items) };
  shown = screen;
  grows = inr (inl (cons_some byte []));
}

pub took_item : (a b : Lent) (item : Item) → IsSameLoan a b → b.end.now ≡ end_after_item a.end.now item
    → b.out.now.items ≡ a.out.now.items ++ spells (says_got a.end.now item) → b.screen.now.items ≡ a.screen.now.items ++ item_shown item
    → TakesItems a (item ∷ []) b
took_item a b item same end out screen = record {
  same = same;
  step = end;
  said = out ∙ ap (λ (xs : List Item). a.out.now.items ++ spells xs) (sym (append-nil (says_got a.end.now item)));
  shown = screen ∙ ap (λ (text : List ℕ). a.screen.now.items ++ text) (sym (append-nil (item_shown item)));
}

pub refused_item : (a b : Lent) (item : Item) → IsSameLoan a b → AppendsPrefix (says_got a.end.now item) a.out.now.items b.out.now.items
    → b.screen.now.items ≡ a.screen.now.items → MayWantMemory a.end.now item → RefusesItems a (item ∷ []) b
refused_item a b item same cut screen grows =
    record { same = same; item = item; later = []; whole = refl; cut = cut; shown = screen; grows = grows }

-- a subnegotiation shows nothing
pub grows_sub : (old : End) (option : ℕ) (params : List ℕ) → (says_sub old (payload_at old.options (Sub option params)) ≢ [])
    ⊎ ReadsList old.options (Sub option params) → MayWantMemory old (Sub option params)
grows_sub old option params (inl says) = inl says
grows_sub old option params (inr reads) = inr (inr reads)

-- ALL CALLS
record GetsBy (a : Lent) (items : List Item) (b : Lent) : Type 0 where
  pub step : b.end.now ≡ end_after_items a.end.now items
  pub said : b.out.now.items ≡ a.out.now.items ++ spells (says_items a.end.now items)
  pub shown : b.screen.now.items ≡ a.screen.now.items ++ items_shown items

gets_none : (a : Lent) → GetsBy a [] a
gets_none a = record { step = refl; said = sym (append-nil a.out.now.items); shown = sym (append-nil a.screen.now.items) }

gets_both : (a b c : Lent) (xs ys : List Item) → TakesItems a xs b → GetsBy b ys c → GetsBy a (xs ++ ys) c
gets_both a b c xs ys t g =
    let said = says_items (end_after_items a.end.now xs) ys in
    let there : c.out.now.items ≡ b.out.now.items ++ spells said = g.said ∙ ap (λ (e : End). b.out.now.items ++ spells (says_items e ys)) t.step in
    record {
      step = g.step ∙ ap (λ (e : End). end_after_items e ys) t.step ∙ sym (after_both a.end.now xs ys);
      said =
          spelled_on (says_items a.end.now xs) said a.out.now.items b.out.now.items c.out.now.items t.said there
          ∙ ap (λ (all : List Item). a.out.now.items ++ spells all) (sym (says_both a.end.now xs ys));
      shown =
          added_on (items_shown xs) (items_shown ys) a.screen.now.items _ _ t.shown g.shown
          ∙ ap (λ (text : List ℕ). a.screen.now.items ++ text) (sym (shown_both xs ys));
    }

gets_all : (a b : Lent) (calls : List (List Item)) → TakesEach TakesItems a calls b → GetsBy a (all_of calls) b
gets_all a b calls t = taken_all TakesItems RefusesItems GetsBy gets_none (λ x y z xs ys u g. gets_both x y z xs ys u g) a b calls t

-- the loan stays the same loan, whatever the decoder answered
pub same_loan : (r : Result (Unit {0}) NvtFault) (old new : DecoderState) (piece : List ℕ) (a b : Lent) → OnOk r (FeedsTo TakesItems old piece a b new)
    → (IsErrOf r Refused → RefusesRest TakesItems RefusesItems old piece a b) → (IsErrOf r Memory → StopsForMemory TakesItems old piece a b)
    → (IsErrOf r Failed → b ≡ a) → IsSameLoan a b
same_loan = kept_by_all TakesItems RefusesItems IsSameLoan (λ x. record { end = refl; out = refl; screen = refl })
    (λ x y z p q. record { end = q.end ∙ p.end; out = q.out ∙ p.out; screen = q.screen ∙ p.screen }) (λ x y xs t. t.same) (λ x y xs t. t.same)

-- the end was lent without its decoder
after_lent : (old : End) (held : DecoderState) (a : Lent) (items : List Item) → a.end.now ≡ record old { decoder = held }
    → end_after_items a.end.now items ≡ record (end_after_items old items) { decoder = held }
after_lent old held a items began = ap (λ (e : End). end_after_items e items) began ∙ after_beside old held items

says_lent : (old : End) (held : DecoderState) (a : Lent) (items : List Item) → a.end.now ≡ record old { decoder = held }
    → says_items a.end.now items ≡ says_items old items
says_lent old held a items began = ap (λ (e : End). says_items e items) began ∙ says_beside old held items

-- a piece that was read to its end
pub feeds_of : (old new : End) (held d : DecoderState) (piece after now : List ℕ) (a b : Lent) → a.end.now ≡ record old { decoder = held }
    → FeedsTo TakesItems old.decoder piece a b d → new ≡ record b.end.now { decoder = d } → after ≡ b.out.now.items → now ≡ b.screen.now.items
    → Feeds old piece a.out.now.items after a.screen.now.items now new
feeds_of old new held d piece after now a b began hands is outs screens =
    let items = all_of (calls_of hands.parts) in
    let g = gets_all a b (calls_of hands.parts) hands.taken in
    let decoder : new.decoder ≡ d = ap (λ (e : End). e.decoder) is in
    record {
      items = items;
      reads = subst (λ (e : DecoderState). Advances old.decoder piece items e) (sym decoder) hands.adds;
      step =
          is ∙ ap (λ (e : End). record e { decoder = d }) (g.step ∙ after_lent old held a items began)
          ∙ ap (λ (x : DecoderState). record (end_after_items old items) { decoder = x }) (sym decoder);
      said = outs ∙ g.said ∙ ap (λ (xs : List Item). a.out.now.items ++ spells xs) (says_lent old held a items began);
      shown = screens ∙ g.shown;
    }

-- if the first of some items was refused, all that is left gives up
gives_up : (end : End) (left later more : List Item) (item : Item) (part : List Item) (here : DecoderState) (back : List ℕ) → left ≡ item ∷ later
    → IsStopCause end (item ∷ later ++ more) part here back → IsStopCause end (left ++ more) part here back
gives_up end left later more item part here back is g =
    subst (λ (xs : List Item). IsStopCause end (xs ++ more) part here back) (sym is) g

breaks_at : (old : End) (held : DecoderState) (piece after now : List ℕ) (a b : Lent) → a.end.now ≡ record old { decoder = held }
    → RefusesRest TakesItems RefusesItems old.decoder piece a b → after ≡ b.out.now.items → now ≡ b.screen.now.items
    → StopsWithin old piece a.out.now.items after a.screen.now.items now
breaks_at old held piece after now a b began r outs screens =
    let done = all_of r.done in
    let g = gets_all a r.middle r.done r.taken in
    let f = r.given_up in
    let end = end_after_items old done in
    let there : r.middle.end.now ≡ record end { decoder = held } = g.step ∙ after_lent old held a done began in
    let cause : IsStopCause (record end { decoder = held }) (f.item ∷ f.later ++ all_of r.unseen) f.cut.part r.here r.back =
    subst (λ (e : End). IsStopCause e (f.item ∷ f.later ++ all_of r.unseen) f.cut.part r.here r.back) there
    (record { rest = f.cut.rest; whole = f.cut.whole_is; grows = f.grows }) in
    record {
      front = bytes_of r.parts;
      back = r.back;
      whole = r.whole;
      done = done;
      left = r.left ++ all_of r.unseen;
      here = r.here;
      reads = subst (λ (xs : List Item). Advances old.decoder (bytes_of r.parts) xs r.here)
          (refused_items TakesItems RefusesItems old.decoder piece a b r) r.adds;
      part = f.cut.part;
      said =
          outs
          ∙ spelled_on (says_items a.end.now done) f.cut.part a.out.now.items r.middle.out.now.items b.out.now.items g.said f.cut.appended
          ∙ ap (λ (xs : List Item). a.out.now.items ++ spells (xs ++ f.cut.part)) (says_lent old held a done began);
      shown = screens ∙ f.shown ∙ g.shown;
      cause = λ stream had reads. gives_up end r.left f.later (all_of r.unseen) f.item f.cut.part r.here r.back f.whole
          (record { rest = cause.rest; whole = cause.whole; grows = cause.grows });
    }

breaks_after : (old : End) (held : DecoderState) (piece after now : List ℕ) (a b : Lent) → a.end.now ≡ record old { decoder = held }
    → StopsForMemory TakesItems old.decoder piece a b → after ≡ b.out.now.items → now ≡ b.screen.now.items
    → StopsWithin old piece a.out.now.items after a.screen.now.items now
breaks_after old held piece after now a b began w outs screens =
    let items = all_of (calls_of w.parts) in
    let g = gets_all a b (calls_of w.parts) w.taken in
    record {
      front = bytes_of w.parts;
      back = w.byte ∷ w.back;
      whole = w.whole;
      done = items;
      left = [];
      here = w.here;
      reads = subst (λ (xs : List Item). Advances old.decoder (bytes_of w.parts) xs w.here) (sym (append-nil items)) w.adds;
      part = [];
      said =
          outs ∙ g.said
          ∙ ap (λ (xs : List Item). a.out.now.items ++ spells xs) (says_lent old held a items began ∙ sym (append-nil (says_items old items)));
      shown = screens ∙ g.shown;
      cause = λ stream had reads. (refl, w.wanted);
    }

-- a decoder that has failed reads nothing
breaks_unread : (old : End) (piece : List ℕ) (a b : Lent) (after now : List ℕ) → old.decoder ≡ failed → b ≡ a → after ≡ b.out.now.items
    → now ≡ b.screen.now.items → StopsWithin old piece a.out.now.items after a.screen.now.items now
breaks_unread old piece a b after now dead same outs screens =
    let never : (stream : List ℕ) (had : List Item) → nvt.LeadsTo stream had old.decoder → ⊥ =
    λ stream had reads. let r : nvt.LeadsTo stream had failed = subst (λ (d : DecoderState). nvt.LeadsTo stream had d) dead reads in r.stands in
    record {
      front = [];
      back = piece;
      whole = refl;
      done = [];
      left = [];
      here = old.decoder;
      reads = λ stream had reads. absurd (never stream had reads);
      part = [];
      said = outs ∙ ap (λ (x : Lent). x.out.now.items) same ∙ sym (append-nil a.out.now.items);
      shown = screens ∙ ap (λ (x : Lent). x.screen.now.items) same ∙ sym (append-nil a.screen.now.items);
      cause = λ stream had reads. absurd (never stream had reads);
    }

pub breaks_of : (r : Result (Unit {0}) NvtFault) (fault : NvtFault) → r ≡ Err fault → (old : End) (held : DecoderState) (piece after now : List ℕ) (a b : Lent)
    → a.end.now ≡ record old { decoder = held } → (IsErrOf r Refused → RefusesRest TakesItems RefusesItems old.decoder piece a b)
    → (IsErrOf r Memory → StopsForMemory TakesItems old.decoder piece a b) → (IsErrOf r Failed ↔ (old.decoder ≡ failed)) → (IsErrOf r Failed → b ≡ a)
    → after ≡ b.out.now.items → now ≡ b.screen.now.items → StopsWithin old piece a.out.now.items after a.screen.now.items now
breaks_of r Refused is old held piece after now a b began refused memory dead same outs screens =
    breaks_at old held piece after now a b began (refused is) outs screens
breaks_of r Memory is old held piece after now a b began refused memory dead same outs screens =
    breaks_after old held piece after now a b began (memory is) outs screens
breaks_of r Failed is old held piece after now a b began refused memory dead same outs screens =
    breaks_unread old piece a b after now (dead.0 is) (same is) outs screens
