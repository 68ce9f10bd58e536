-- From places to the standings that the decoder's contract names.
use Rattle.std.proofs.Common.{◌≡◌, ◌≢◌, ℕ, ◌<◌, inl, inr, List, [], ◌∷◌, ◌++◌, length, get_or, take, drop, ◌+◌, refl, sym, ◌∙◌, ap, arith, append_assoc, lit<}
use Rattle.std.proofs.lemmas.{List.{append-nil, take_more, take-append-drop}, Grind.flat_map-append}
use Rattle.tn_codes.specs.{Codes.verb_code, declared.codes.Verb.Verb}
use Rattle.tn_codes.specs.declared.codes.Verb.TheVariants as verb
use Rattle.tn_nvt.specs.{declared.{items.Item.{Item, TheVariants.{Newline, Neg}}, places.Body.Body}, Machine.{PlaceHasRest, StepAdvances, KeepsByte}}
use Rattle.tn_nvt.specs.Machine.{Nothing, Kept, Overlong, Progress, Outside, AfterCr, AfterIac, AfterVerb, Inside, InsideIac, Failed, state_of_place, progress}
use Rattle.tn_nvt.specs.{declared.places.{Given.Given, Place.Place}, Spelling.doubled_bytes, Stream.{spelled, escaped, cut, IsPartial}}
use Rattle.tn_nvt.specs.Feeding.{HasRest, LeadsTo, Advances, Feeds, KeepsParameter, StopsWithin}
use Rattle.tn_nvt.specs.declared.places.Given.TheVariants as given
use Rattle.tn_nvt.specs.declared.places.Place.TheVariants as place
use Rattle.tn_nvt.proofs.Steps.{Splits-append, StepAdvances-append}

-- each place stands at less than a segment
pub partial_of : (place : Progress) (rest : List ℕ) → PlaceHasRest place rest → IsPartial rest
partial_of Outside rest h = record { segment = spelled Newline; more = 13 ∷ 10 ∷ []; is_segment = tt; proper = lit< tt; begins = rw h refl }
partial_of AfterCr rest h = record { segment = spelled Newline; more = 10 ∷ []; is_segment = tt; proper = lit< tt; begins = rw h refl }
partial_of AfterIac rest h = record { segment = escaped 0; more = 0 ∷ []; is_segment = inl (lit< tt); proper = lit< tt; begins = rw h refl }
partial_of (AfterVerb v) rest h = record { segment = spelled (Neg v 0); more = 0 ∷ []; is_segment = tt; proper = lit< tt; begins = rw h refl }
partial_of (Inside body) rest h = record {
  segment = cut h.0 0;
  more = 255 ∷ 0 ∷ [];
  is_segment = (omega arith, omega arith);
  proper = lit< tt;
  begins = rw h.2 refl;
}
partial_of (InsideIac body) rest h = record {
  segment = cut h.0 0;
  more = 0 ∷ [];
  is_segment = (omega arith, omega arith);
  proper = lit< tt;
  begins = rw h.2 (ap (λ x. 255 ∷ 250 ∷ x) (append_assoc (doubled_bytes h.0) (255 ∷ []) (0 ∷ [])));
}
partial_of Failed rest h = absurd h

verb_no_sb : (v : Verb) → verb_code v ≢ 250
verb_no_sb verb.Will e = omega arith
verb_no_sb verb.Wont e = omega arith
verb_no_sb verb.DoIt e = omega arith
verb_no_sb verb.DontIt e = omega arith

ends : (bytes : List ℕ) → 255 ∷ 250 ∷ doubled_bytes bytes ≡ 255 ∷ 250 ∷ doubled_bytes bytes ++ []
ends bytes = ap (λ x. 255 ∷ 250 ∷ x) (sym (append-nil (doubled_bytes bytes)))

-- the known part of the rest is that the place stands there
pub known : (place : Progress) (rest : List ℕ) → PlaceHasRest place rest → HasRest (state_of_place place) rest
known Outside rest h = (h, λ more e. cc)
known AfterCr rest h = (h, λ more e. cc)
known AfterIac rest h = (h, λ more e. cc)
known (AfterVerb v) rest h = (h, λ more e. verb_no_sb v (ap (λ xs. get_or xs 1 0) e))
known (Inside Nothing) rest h = (omega arith, h.2 ∙ ap (λ x. 255 ∷ 250 ∷ doubled_bytes x) h.1 ∙ ends [])
known (Inside (Kept option params)) rest h = (omega (arith, h.1.1), h.2 ∙ ap (λ x. 255 ∷ 250 ∷ doubled_bytes x) h.1.0 ∙ ends (option ∷ params))
known (Inside Overlong) rest h = (h.0, h.1, h.2 ∙ ends h.0)
known (InsideIac Nothing) rest h = (omega arith, h.2 ∙ ap (λ x. 255 ∷ 250 ∷ doubled_bytes x ++ 255 ∷ []) h.1)
known (InsideIac (Kept option params)) rest h = (omega (arith, h.1.1), h.2 ∙ ap (λ x. 255 ∷ 250 ∷ doubled_bytes x ++ 255 ∷ []) h.1.0)
known (InsideIac Overlong) rest h = h
known Failed rest h = absurd h

-- a place whose state has this rest has it too
pub stood : (place : Progress) (rest : List ℕ) → HasRest (state_of_place place) rest → PlaceHasRest place rest
stood Outside rest h = h.0
stood AfterCr rest h = h.0
stood AfterIac rest h = h.0
stood (AfterVerb v) rest h = h.0
stood (Inside Nothing) rest h = ([], refl, h.1 ∙ sym (ends []))
stood (Inside (Kept option params)) rest h = (option ∷ params, (refl, omega (arith, h.0)), h.1 ∙ sym (ends (option ∷ params)))
stood (Inside Overlong) rest h = (h.0, h.1, h.2 ∙ sym (ends h.0))
stood (InsideIac Nothing) rest h = ([], refl, h.1)
stood (InsideIac (Kept option params)) rest h = (option ∷ params, (refl, omega (arith, h.0)), h.1)
stood (InsideIac Overlong) rest h = h
stood Failed rest h = absurd h

pub at_start : LeadsTo [] [] (state_of_place Outside)
at_start = record {
  rest = [];
  reading = record { segments = []; splits = refl; partial = partial_of Outside [] refl; read = refl };
  stands = known Outside [] refl;
}

pub Advances-from_advances : (here next : Progress) (more : List ℕ) (items : List Item) → StepAdvances here more items next
    → Advances (state_of_place here) more items (state_of_place next)
Advances-from_advances here next more items f = λ stream had h.
    let a = f h.rest (stood here h.rest h.stands) in
    record {
      rest = a.new;
      reading = record {
        segments = h.reading.segments ++ a.segments;
        splits = Splits-append h.reading.segments a.segments h.rest a.new stream more h.reading.splits a.splits;
        partial = partial_of next a.new a.stands;
        read = rw (flat_map-append, h.reading.read, a.read) refl;
      };
      stands = known next a.new a.stands;
    }

-- a list round one of its elements
pub at_element : (xs : List ℕ) (i : ℕ) → i < length xs → xs ≡ take i xs ++ get_or xs i 0 ∷ drop (i + 1) xs
at_element xs i lt = sym (take-append-drop (i + 1) xs) ∙ ap (λ ys. ys ++ drop (i + 1) xs) (take_more xs i 0 lt)
    ∙ append_assoc (take i xs) (get_or xs i 0 ∷ []) (drop (i + 1) xs)

-- the list has gained what the bytes complete
pub record Appends (here : Progress) (more : List ℕ) (before after : List Item) (next : Progress) : Type 0 where
  pub items : List Item
  pub appended : after ≡ before ++ items
  pub advances : StepAdvances here more items next

pub Appends-push : (here middle next : Progress) (more : List ℕ) (b : ℕ) (given before between after : List Item) → Appends here more before between middle
    → StepAdvances middle (b ∷ []) given next → after ≡ between ++ given → Appends here (more ++ b ∷ []) before after next
Appends-push here middle next more b given before between after a f e = record {
  items = a.items ++ given;
  appended = rw (e, a.appended) (append_assoc before a.items given);
  advances = StepAdvances-append here middle next more (b ∷ []) a.items given a.advances f;
}

pub Feeds-from_appends : (here next : Progress) (piece : List ℕ) (before after : List Item) → Appends here piece before after next
    → Feeds (state_of_place here) piece before after (state_of_place next)
Feeds-from_appends here next piece before after a = record {
  items = a.items;
  appended = a.appended;
  adds = Advances-from_advances here next piece a.items a.advances;
}

pub kept : (place : Progress) (b : ℕ) → KeepsByte place b → KeepsParameter (state_of_place place) b
kept Outside b k = absurd k
kept AfterCr b k = absurd k
kept AfterIac b k = absurd k
kept (AfterVerb v) b k = absurd k
kept (Inside Nothing) b k = absurd k.1
kept (Inside (Kept option params)) b k = k
kept (Inside Overlong) b k = absurd k.1
kept (InsideIac Nothing) b k = absurd k.1
kept (InsideIac (Kept option params)) b k = k
kept (InsideIac Overlong) b k = absurd k.1
kept Failed b k = absurd k

-- a parameter was to be kept
pub StopsWithin-from_kept : (here next : Progress) (front back : List ℕ) (b : ℕ) (piece : List ℕ) (before after : List Item) (room : ℕ)
    → piece ≡ front ++ b ∷ back → Appends here front before after next → KeepsByte next b → StopsWithin (state_of_place here) piece before after room
StopsWithin-from_kept here next front back b piece before after room whole a k = record {
  front = front;
  byte = b;
  back = back;
  whole = whole;
  items = a.items;
  appended = a.appended;
  here = state_of_place next;
  adds = Advances-from_advances here next front a.items a.advances;
  wanted = inr (kept next b k);
}

-- there was no room for what the byte completes
pub StopsWithin-from_no_room : (here next then : Progress) (front back : List ℕ) (b : ℕ) (piece : List ℕ) (before after given : List Item) (room : ℕ)
    → piece ≡ front ++ b ∷ back → Appends here front before after next → StepAdvances next (b ∷ []) given then → room < length given
    → StopsWithin (state_of_place here) piece before after room
StopsWithin-from_no_room here next then front back b piece before after given room whole a f no_room = record {
  front = front;
  byte = b;
  back = back;
  whole = whole;
  items = a.items;
  appended = a.appended;
  here = state_of_place next;
  adds = Advances-from_advances here next front a.items a.advances;
  wanted = inl (record { items = given; next = state_of_place then; no_room = no_room; adds = Advances-from_advances next then (b ∷ []) given f });
}

-- a subnegotiation that was handed on is of no more account
pub still : (next : Place) (all : Given) (old new : Body) → (all ≡ given.Sub → next ≡ place.Outside) → (all ≢ given.Sub → new ≡ old)
    → progress next new ≡ progress next old
still next given.Nothing old new outside same = ap (progress next) (same (λ e. cc))
still next (given.Byte byte) old new outside same = ap (progress next) (same (λ e. cc))
still next (given.CrByte byte) old new outside same = ap (progress next) (same (λ e. cc))
still next given.Newline old new outside same = ap (progress next) (same (λ e. cc))
still next (given.Cmd command) old new outside same = ap (progress next) (same (λ e. cc))
still next (given.Neg verb option) old new outside same = ap (progress next) (same (λ e. cc))
still next given.Sub old new outside same = rw (outside refl) refl

-- one place leads to one state
pub same_state : (here stood : Place) (body : Body) → here ≡ stood → state_of_place (progress here body) ≡ state_of_place (progress stood body)
same_state here stood body is = ap (λ place. state_of_place (progress place body)) is
