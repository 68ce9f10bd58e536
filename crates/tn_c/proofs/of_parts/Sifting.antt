-- The items of owned options are taken out of a stream, and the others are spelled.
use Rattle.std.proofs.Common.{◌≡◌, ◌≢◌, ◌⊎◌, inl, inr, ℕ, ◌<◌, ◌≤◌, ◌+◌, Option, Some, None, Result, Ok, Err, OnOk, OnErr, Bool, true, false, List, [], ◌∷◌, ◌++◌, length, refl, sym, ap, subst, ◌∙◌, append_assoc, append-nil}
use Rattle.std.proofs.{Common.arith, lemmas.{Bool.Decides.eqb_tells, List.nil_from_length, List.Elements.{All-head, All-tail, filter-append}, List.Concat.flat_map-append}}
use Rattle.std.specs.Prelude.{◌↔◌, All, IsTrue, MatchOption, map, not, option_to_list}
use Rattle.tn_nvt.specs.{declared.items.Item.{Item, TheVariants.Byte}, Feeding.{DecoderState, failed}, Sinks.{IsPlain, TakesEach, FeedsTo, StopsAtSink, StopsForMemory, all_of, calls_of}, Spelling.{spelling, spells}}
use Rattle.tn_c.specs.{parts.OwnOptions.{is_own, own_items, other_items, Sieves, SievesNone, Sifts, SiftCall}, declared.parts.owned.{Owned.Owned, Sieve.Sieve}}
use Rattle.tn_c.specs.declared.parts.codes.Code.TheVariants as code

-- A CALL OF THE SIEVE

spelled_plain : (b : ℕ) → IsPlain b → spelling (Byte b) ≡ b ∷ []
spelled_plain b p =
    elim (eqb_tells b 13) [
      | inl e ↦ absurd (p.0 e.1)
      | inr e ↦
          rw e.0 (elim (eqb_tells b 255) [
            | inl f ↦ absurd (p.1 f.1)
            | inr f ↦ rw f.0 refl
          ])
    ]

-- plain bytes are their own spelling
pub plain_spells : (bytes : List ℕ) → All IsPlain bytes → spells (map Byte bytes) ≡ bytes
plain_spells [] p = refl
plain_spells (b ∷ bs) p =
    ap (λ (l : List ℕ). l ++ spells (map Byte bs)) (spelled_plain b (All-head IsPlain b bs p))
    ∙ ap (λ (l : List ℕ). b ∷ l) (plain_spells bs (All-tail IsPlain b bs p))

-- bytes of data are no one's option
pub no_own : (options bytes : List ℕ) → own_items options (map Byte bytes) ≡ []
no_own options [] = refl
no_own options (b ∷ bs) = no_own options bs

pub all_other : (options bytes : List ℕ) → other_items options (map Byte bytes) ≡ map Byte bytes
all_other options [] = refl
all_other options (b ∷ bs) = ap (λ (l : List Item). Byte b ∷ l) (all_other options bs)

pub sieves_run : (old new : Sieve) (bytes : List ℕ) → All IsPlain bytes → new.options.items ≡ old.options.items → new.waiting.items ≡ old.waiting.items
    → new.rest.items ≡ old.rest.items ++ bytes → Sieves old (map Byte bytes) new
sieves_run old new bytes plain options waiting rest =
    record {
      options = options;
      waiting = waiting ∙ sym (append-nil old.waiting.items) ∙ ap (λ (l : List Item). old.waiting.items ++ l) (sym (no_own old.options.items bytes));
      rest = rest
          ∙ ap (λ (l : List ℕ). old.rest.items ++ l) (sym (plain_spells bytes plain))
          ∙ ap (λ (l : List Item). old.rest.items ++ spells l) (sym (all_other old.options.items bytes));
    }

pub sieves_own : (old new : Sieve) (item : Item) → is_own old.options.items item ≡ true → new.options.items ≡ old.options.items
    → new.waiting.items ≡ old.waiting.items ++ item ∷ [] → new.rest.items ≡ old.rest.items → Sieves old (item ∷ []) new
sieves_own old new item own options waiting rest =
    record {
      options = options;
      waiting = waiting ∙ rw own refl;
      rest = rest ∙ sym (append-nil old.rest.items) ∙ rw own refl;
    }

pub sieves_other : (old new : Sieve) (item : Item) → is_own old.options.items item ≡ false → new.options.items ≡ old.options.items
    → new.waiting.items ≡ old.waiting.items → new.rest.items ≡ old.rest.items ++ spelling item → Sieves old (item ∷ []) new
sieves_other old new item other options waiting rest =
    record {
      options = options;
      waiting = waiting ∙ sym (append-nil old.waiting.items) ∙ rw other refl;
      rest = rest ∙ ap (λ (l : List ℕ). old.rest.items ++ l) (sym (append-nil (spelling item))) ∙ rw other refl;
    }

-- ALL CALLS OF A PIECE

sieves_none : (old : Sieve) → Sieves old [] old
sieves_none old = record { options = refl; waiting = sym (append-nil old.waiting.items); rest = sym (append-nil old.rest.items) }

sieves_more : (old middle new : Sieve) (first more : List Item) → Sieves old first middle → Sieves middle more new → Sieves old (first ++ more) new
sieves_more old middle new first more s t =
    let options : List ℕ = old.options.items in
    record {
      options = t.options ∙ s.options;
      waiting = t.waiting
          ∙ ap (λ (l : List Item). l ++ own_items middle.options.items more) s.waiting
          ∙ ap (λ (o : List ℕ). (old.waiting.items ++ own_items options first) ++ own_items o more) s.options
          ∙ append_assoc old.waiting.items (own_items options first) (own_items options more)
          ∙ ap (λ (l : List Item). old.waiting.items ++ l) (sym (filter-append (is_own options) first more));
      rest = t.rest
          ∙ ap (λ (l : List ℕ). l ++ spells (other_items middle.options.items more)) s.rest
          ∙ ap (λ (o : List ℕ). (old.rest.items ++ spells (other_items options first)) ++ spells (other_items o more)) s.options
          ∙ append_assoc old.rest.items (spells (other_items options first)) (spells (other_items options more))
          ∙ ap (λ (l : List ℕ). old.rest.items ++ l) (sym (flat_map-append spelling (other_items options first) (other_items options more)))
          ∙ ap (λ (l : List Item). old.rest.items ++ spells l) (sym (filter-append (λ item. not (is_own options item)) first more));
    }

pub sieves_each : (old : Sieve) (calls : List (List Item)) (new : Sieve) → TakesEach Sieves old calls new → Sieves old (all_of calls) new
sieves_each old [] new same = subst (λ (s : Sieve). Sieves old [] s) same (sieves_none old)
sieves_each old (call ∷ calls) new (middle, first, then) =
    sieves_more old middle new call (all_of calls) first (sieves_each middle calls new then)

-- A PIECE

pub sifted : (old new : Owned) (empty : Sieve) (piece : List ℕ) → empty.options.items ≡ old.sieve.options.items → empty.waiting.items ≡ old.sieve.waiting.items
    → empty.rest.items ≡ [] → FeedsTo Sieves old.decoder piece empty new.sieve new.decoder → new.failed ≡ old.failed → Sifts piece old new
sifted old new empty piece options waiting none fed still =
    let each = sieves_each empty (calls_of fed.parts) new.sieve fed.taken in
    let items : List Item = all_of (calls_of fed.parts) in
    record {
      items = items;
      adds = fed.adds;
      waiting = each.waiting
          ∙ ap (λ (l : List Item). l ++ own_items empty.options.items items) waiting
          ∙ ap (λ (o : List ℕ). old.sieve.waiting.items ++ own_items o items) options;
      rest = each.rest
          ∙ ap (λ (l : List ℕ). l ++ spells (other_items empty.options.items items)) none
          ∙ ap (λ (o : List ℕ). spells (other_items o items)) options;
      failed = still;
    }

-- the options stay, whatever the sieve takes
pub options_stay : (old : Sieve) (calls : List (List Item)) (new : Sieve) → TakesEach Sieves old calls new → new.options.items ≡ old.options.items
options_stay old calls new taken = (sieves_each old calls new taken).options

pub stopped_options : (old : DecoderState) (piece : List ℕ) (empty new : Sieve) → StopsAtSink Sieves SievesNone old piece empty new
    → new.options.items ≡ empty.options.items
stopped_options old piece empty new s = s.given_up.options ∙ options_stay empty s.done s.middle s.taken

pub starved_options : (old : DecoderState) (piece : List ℕ) (empty new : Sieve) → StopsForMemory Sieves old piece empty new
    → new.options.items ≡ empty.options.items
starved_options old piece empty new s = options_stay empty (calls_of s.parts) new s.taken

pub sift_done : (old new : Owned) (empty : Sieve) (piece : List ℕ) → length old.sieve.waiting.items < 64 → empty.options.items ≡ old.sieve.options.items
    → empty.waiting.items ≡ old.sieve.waiting.items → empty.rest.items ≡ [] → FeedsTo Sieves old.decoder piece empty new.sieve new.decoder
    → IsTrue new.fed → new.item ≡ old.item → new.failed ≡ old.failed → (old.decoder ≡ failed → ⊥) → SiftCall piece code.Done old new
sift_done old new empty piece few options waiting none feeds fed item still runs =
    record {
      codes = inl refl;
      waits = (λ e. absurd (cc), λ many. absurd (omega (arith, few, many)));
      waits_stay = λ e. absurd (cc);
      ok = λ _. sifted old new empty piece options waiting none feeds still;
      memory = λ e. absurd (cc);
      reads_no_more = λ _. (λ e. absurd (cc), λ is. absurd (runs is));
      failed_waiting = λ e. absurd (cc);
      fails = λ other _. absurd (other refl);
      fed = λ _. fed;
      options = options_stay empty (calls_of feeds.parts) new.sieve feeds.taken ∙ options;
      item = item;
    }

stops_options : (old : DecoderState) (piece : List ℕ) (empty new : Sieve)
    → StopsAtSink Sieves SievesNone old piece empty new ⊎ StopsForMemory Sieves old piece empty new → new.options.items ≡ empty.options.items
stops_options old piece empty new (inl s) = stopped_options old piece empty new s
stops_options old piece empty new (inr s) = starved_options old piece empty new s

pub sift_stops : (old new : Owned) (empty : Sieve) (piece : List ℕ) → length old.sieve.waiting.items < 64 → empty.options.items ≡ old.sieve.options.items
    → empty.waiting.items ≡ old.sieve.waiting.items → empty.rest.items ≡ []
    → StopsAtSink Sieves SievesNone old.decoder piece empty new.sieve ⊎ StopsForMemory Sieves old.decoder piece empty new.sieve
    → new.decoder ≡ failed → IsTrue new.fed → new.item ≡ old.item → IsTrue new.failed → (old.decoder ≡ failed → ⊥) → SiftCall piece code.Memory old new
sift_stops old new empty piece few options waiting none stops gone fed item fails runs =
    record {
      codes = inr (inl refl);
      waits = (λ e. absurd (cc), λ many. absurd (omega (arith, few, many)));
      waits_stay = λ e. absurd (cc);
      ok = λ e. absurd (cc);
      memory = λ _. record { empty = empty; options = options; waiting = waiting; rest = none; stops = stops };
      reads_no_more = λ _. (λ e. absurd (cc), λ is. absurd (runs is));
      failed_waiting = λ e. absurd (cc);
      fails = λ _ _. (gone, fails);
      fed = λ _. fed;
      options = stops_options old.decoder piece empty new.sieve stops ∙ options;
      item = item;
    }

pub sift_fails : (old new : Owned) (empty : Sieve) (piece : List ℕ) → length old.sieve.waiting.items < 64 → empty.options.items ≡ old.sieve.options.items
    → empty.waiting.items ≡ old.sieve.waiting.items → new.sieve ≡ empty → old.decoder ≡ failed → new.decoder ≡ failed → IsTrue new.fed → new.item ≡ old.item → IsTrue new.failed
    → SiftCall piece code.Failed old new
sift_fails old new empty piece few options waiting same had gone fed item fails =
    record {
      codes = inr (inr (inl refl));
      waits = (λ e. absurd (cc), λ many. absurd (omega (arith, few, many)));
      waits_stay = λ e. absurd (cc);
      ok = λ e. absurd (cc);
      memory = λ e. absurd (cc);
      reads_no_more = λ _. (λ _. had, λ _. refl);
      failed_waiting = λ _. ap (λ (x : Sieve). x.waiting.items) same ∙ waiting;
      fails = λ _ _. (gone, fails);
      fed = λ _. fed;
      options = ap (λ (s : Sieve). s.options.items) same ∙ options;
      item = item;
    }

-- AN ITEM

pub own_on : {T E : Type 0} (r : Result T E) (old new : Sieve) (item : Item) → is_own old.options.items item ≡ true → new.options.items ≡ old.options.items
    → new.rest.items ≡ old.rest.items → OnOk r (new.waiting.items ≡ old.waiting.items ++ item ∷ []) → OnOk r (Sieves old (item ∷ []) new)
own_on (Ok x) old new item own options rest waiting = sieves_own old new item own options waiting rest
own_on (Err e) old new item own options rest waiting = tt

pub own_none : {T E : Type 0} (r : Result T E) (old new : Sieve) (item : Item) → new.options.items ≡ old.options.items → new.rest.items ≡ old.rest.items
    → OnErr r (new.waiting.items ≡ old.waiting.items) → OnErr r (SievesNone old (item ∷ []) new)
own_none (Ok x) old new item options rest waiting = tt
own_none (Err e) old new item options rest waiting = record { options = options; waiting = waiting; rest = rest }

pub other_on : {T E : Type 0} (r : Result T E) (old new : Sieve) (item : Item) → is_own old.options.items item ≡ false → new.options.items ≡ old.options.items
    → new.waiting.items ≡ old.waiting.items → OnOk r (new.rest.items ≡ old.rest.items ++ spelling item) → OnOk r (Sieves old (item ∷ []) new)
other_on (Ok x) old new item other options waiting rest = sieves_other old new item other options waiting rest
other_on (Err e) old new item other options waiting rest = tt

pub other_none : {T E : Type 0} (r : Result T E) (old new : Sieve) (item : Item) → new.options.items ≡ old.options.items
    → new.waiting.items ≡ old.waiting.items → OnErr r (new.rest.items ≡ old.rest.items) → OnErr r (SievesNone old (item ∷ []) new)
other_none (Ok x) old new item options waiting rest = tt
other_none (Err e) old new item options waiting rest = record { options = options; waiting = waiting; rest = rest }

-- the first item leaves
pub first_of : (first : Option Item) (old new : List Item) (n m : ℕ) → old ≡ option_to_list first ++ new
    → MatchOption first ((n ≡ 0) × (m ≡ 0)) (λ _. m + 1 ≡ n) → n ≡ length old → MatchOption first (old ≡ []) (λ x. old ≡ x ∷ new)
first_of None old new n m is none long = nil_from_length old (sym long ∙ none.0)
first_of (Some x) old new n m is some long = is

pub none_then : (first : Option Item) (old new : List Item) → old ≡ option_to_list first ++ new → old ≡ [] → new ≡ []
none_then None old new is none = sym is ∙ none
none_then (Some x) old new is none = absurd (let e = sym is ∙ none in cc)

-- AN END

-- a test that is false shows that it is not so
pub tells_not : {P : Type 0} (b : Bool) → IsTrue b ↔ P → b ≡ false → P → ⊥
tells_not b is other p = let both = sym other ∙ is.1 p in cc
