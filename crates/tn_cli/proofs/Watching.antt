-- Each byte from each stand of a watch completes the segments that the definition has.
use Rattle.std.proofs.Common.{◌≡◌, ◌≢◌, ℕ, ◌+◌, ◌<◌, ◌≤◌, ◌⊎◌, inl, inr, List, [], ◌∷◌, ◌++◌, length, refl, sym, ◌∙◌, ap, arith, append_assoc, append-nil}
use Rattle.std.proofs.lemmas.Bool.{ne_eqb, Decides.eqb_tells}
use Rattle.std.specs.Prelude.{min, flat_map}
use Rattle.tn_codes.specs.{Codes.{command_code, verb_code}, declared.codes.{Command.Command, Verb.Verb}}
use Rattle.tn_codes.specs.declared.codes.Command.TheVariants as command
use Rattle.tn_codes.specs.declared.codes.Verb.TheVariants as verb
use Rattle.tn_nvt.specs.{declared.items.Item.TheVariants.{Byte, Newline, Cmd, Neg, Sub}, Spelling.{doubled_byte, doubled_bytes, subnegotiation, spelling}}
use Rattle.tn_nvt.specs.Stream.{Segment, spelled, lone_cr, escaped, unread, cut, IsSegment, IsPartial, text, look_ahead, gives, Splits}
use Rattle.tn_cli.specs.Unprinted.{IsCount, IsLeft, Leads, LeavesUnprinted, StandsAt, Watches, WatchesOn, counted, dropped_escape, dropped_subnegotiation, none}
use Rattle.tn_cli.specs.{Unprinted.total, declared.unprinted.{Dropped.Dropped, Stand.Stand, Unprinted.Unprinted, Watch.Watch}}
use Rattle.tn_cli.specs.declared.unprinted.Stand.TheVariants.{Between, AfterCr, AfterIac, AfterVerb, Inside, InsideIac}

-- LISTS

doubled-append : (xs ys : List ℕ) → doubled_bytes (xs ++ ys) ≡ doubled_bytes xs ++ doubled_bytes ys
unfolding doubled_bytes
doubled-append [] ys = refl
doubled-append (x ∷ xs) ys = rw (doubled-append xs ys) (sym (append_assoc (doubled_byte x) (doubled_bytes xs) (doubled_bytes ys)))

doubled_plain : (b : ℕ) → b ≢ 255 → doubled_bytes (b ∷ []) ≡ b ∷ []
unfolding doubled_bytes
doubled_plain b h = rw (ne_eqb b 255 h) refl

doubled_iac : doubled_bytes (255 ∷ []) ≡ 255 ∷ 255 ∷ []
unfolding doubled_bytes
doubled_iac = refl

doubled_none : doubled_bytes [] ≡ []
unfolding doubled_bytes
doubled_none = refl

-- a splitting goes on at its rest
splits_both : (ss ts : List Segment) (rest new stream more : List ℕ) → Splits ss rest stream → Splits ts new (rest ++ more)
    → Splits (ss ++ ts) new (stream ++ more)
splits_both [] ts rest new stream more p q = rw p q
splits_both (s ∷ ss) ts rest new stream more p q =
    let again : Splits (ss ++ ts) new ((look_ahead s ++ p.0) ++ more) = splits_both ss ts rest new (look_ahead s ++ p.0) more p.3 q in
    (p.0 ++ more, p.1, rw p.2 (simp append_assoc), rw append_assoc at again)

total_both : (count : Segment → ℕ) (xs ys : List Segment) → total count (xs ++ ys) ≡ total count xs + total count ys
total_both count [] ys = omega arith
total_both count (x ∷ xs) ys = omega (arith, total_both count xs ys)

-- ONE BYTE

-- one segment was completed
one : (s : Segment) (here next : Stand) (b : ℕ) → IsSegment s → StandsAt next (look_ahead s)
    → ((rest : List ℕ) → StandsAt here rest → rest ++ b ∷ [] ≡ text s ++ look_ahead s)
    → Leads here b (record { escapes = dropped_escape s; subnegotiations = dropped_subnegotiation s }) next
one s here next b is st whole rest h = record {
  segments = s ∷ [];
  left = look_ahead s;
  splits = ([], is, rw append-nil (whole rest h), append-nil (look_ahead s));
  stands = st;
  escapes = omega arith;
  subnegotiations = omega arith;
}

-- none was
no_segment : (here next : Stand) (b : ℕ) → ((rest : List ℕ) → StandsAt here rest → StandsAt next (rest ++ b ∷ [])) → Leads here b none next
no_segment here next b f rest h = record { segments = []; left = rest ++ b ∷ []; splits = refl; stands = f rest h; escapes = refl; subnegotiations = refl }

spelling_plain : (b : ℕ) → b ≢ 13 → b ≢ 255 → spelling (Byte b) ≡ b ∷ []
spelling_plain b h k = rw (ne_eqb b 13 h, ne_eqb b 255 k) refl

pub plain : (b : ℕ) → b ≢ 13 → b ≢ 255 → Leads Between b none Between
plain b h k = one (spelled (Byte b)) Between Between b tt refl (λ rest r. rw (r, spelling_plain b h k) refl)

pub cr_lf : (b : ℕ) → b ≡ 10 → Leads AfterCr b none Between
cr_lf b h = one (spelled Newline) AfterCr Between b tt refl (λ rest r. rw (r, h) refl)

pub cr_nul : (b : ℕ) → b ≡ 0 → Leads AfterCr b none Between
cr_nul b h = one (spelled (Byte 13)) AfterCr Between b tt refl (λ rest r. rw (r, h) refl)

pub cr_cr : (b : ℕ) → b ≡ 13 → Leads AfterCr b none AfterCr
cr_cr b h = one (lone_cr b) AfterCr AfterCr b (omega arith, omega arith) (rw h refl) (λ rest r. rw r refl)

pub cr_iac : (b : ℕ) → b ≡ 255 → Leads AfterCr b none AfterIac
cr_iac b h = one (lone_cr b) AfterCr AfterIac b (omega arith, omega arith) (rw h refl) (λ rest r. rw r refl)

pub cr_plain : (b : ℕ) → b ≢ 10 → b ≢ 0 → b ≢ 13 → b ≢ 255 → Leads AfterCr b none Between
cr_plain b h k i j rest r = record {
  segments = lone_cr b ∷ spelled (Byte b) ∷ [];
  left = [];
  splits = ([], (h, k), rw r refl, ([], tt, rw (spelling_plain b i j) refl, refl));
  stands = refl;
  escapes = refl;
  subnegotiations = refl;
}

pub iac_iac : (b : ℕ) → b ≡ 255 → Leads AfterIac b none Between
iac_iac b h = one (spelled (Byte 255)) AfterIac Between b tt refl (λ rest r. rw (r, h) refl)

pub iac_sb : (b : ℕ) → b ≡ 250 → Leads AfterIac b none (Inside 0)
unfolding doubled_bytes
iac_sb b h = no_segment AfterIac (Inside 0) b (λ rest r. ([], (omega arith, λ few. refl), rw (r, h) refl))

pub iac_verb : (v : Verb) (b : ℕ) → verb_code v ≡ b → Leads AfterIac b none AfterVerb
iac_verb v b h = no_segment AfterIac AfterVerb b (λ rest r. (v, rw (r, h) refl))

pub iac_command : (k : Command) (b : ℕ) → command_code k ≡ b → Leads AfterIac b none Between
iac_command k b h = one (spelled (Cmd k)) AfterIac Between b tt refl (λ rest r. rw (r, h) refl)

-- a byte that is neither 250, 255, a verb nor a command
no_meaning : (b : ℕ) → b < 256 → b ≢ 255 → b ≢ 250 → ((v : Verb) → verb_code v ≢ b) → ((k : Command) → command_code k ≢ b) → (b < 236) ⊎ (b ≡ 240)
no_meaning b fits h k v c =
    let v0 = v verb.Will in
    let v1 = v verb.Wont in
    let v2 = v verb.DoIt in
    let v3 = v verb.DontIt in
    let c0 = c command.Eof in
    let c1 = c command.Susp in
    let c2 = c command.Abort in
    let c3 = c command.Eor in
    let c4 = c command.Nop in
    let c5 = c command.Dm in
    let c6 = c command.Brk in
    let c7 = c command.Ip in
    let c8 = c command.Ao in
    let c9 = c command.Ayt in
    let c10 = c command.Ec in
    let c11 = c command.El in
    let c12 = c command.Ga in
    elim (eqb_tells b 240) [ inl e ↦ inr e.1 | inr e ↦ inl (omega arith) ]

pub iac_other : (b : ℕ) → b < 256 → b ≢ 255 → b ≢ 250 → ((v : Verb) → verb_code v ≢ b) → ((k : Command) → command_code k ≢ b)
    → Leads AfterIac b (record { escapes = 1; subnegotiations = 0 }) Between
iac_other b fits h k v c = one (escaped b) AfterIac Between b (no_meaning b fits h k v c) refl (λ rest r. rw r refl)

pub verb_option : (b : ℕ) → Leads AfterVerb b none Between
verb_option b rest r = record {
  segments = spelled (Neg r.0 b) ∷ [];
  left = [];
  splits = ([], tt, rw r.1 refl, refl);
  stands = refl;
  escapes = refl;
  subnegotiations = refl;
}

-- SUBNEGOTIATIONS

abbrev pub IsLonger : ℕ → ℕ → Type 0
IsLonger old new = (bytes : List ℕ) (byte : ℕ) → IsCount old bytes → IsCount new (bytes ++ byte ∷ [])

pub inside_iac : (count b : ℕ) → b ≡ 255 → Leads (Inside count) b none (InsideIac count)
inside_iac count b h = no_segment (Inside count) (InsideIac count) b (λ rest r. (r.0, r.1, rw (r.2, h) refl))

pub inside_plain : (count longer b : ℕ) → b ≢ 255 → IsLonger count longer → Leads (Inside count) b none (Inside longer)
inside_plain count longer b h p = no_segment (Inside count) (Inside longer) b
    (λ rest r. (r.0 ++ b ∷ [], p r.0 b r.1, rw (r.2, doubled-append, doubled_plain b h) refl))

pub inside_iac_iac : (count longer b : ℕ) → b ≡ 255 → IsLonger count longer → Leads (InsideIac count) b none (Inside longer)
inside_iac_iac count longer b h p = no_segment (InsideIac count) (Inside longer) b
    (λ rest r. (
      r.0 ++ 255 ∷ [],
      p r.0 255 r.1,
      rw (r.2, h, doubled-append, doubled_iac)
          (ap (λ x. 255 ∷ 250 ∷ x) (append_assoc (doubled_bytes r.0) (255 ∷ []) (255 ∷ []))),
    ))

closing : (bytes : List ℕ) → (255 ∷ 250 ∷ doubled_bytes bytes ++ 255 ∷ []) ++ 240 ∷ [] ≡ subnegotiation bytes
closing bytes = ap (λ x. 255 ∷ 250 ∷ x) (append_assoc (doubled_bytes bytes) (255 ∷ []) (240 ∷ []))

empty_of : (bytes : List ℕ) → length bytes ≡ 0 → bytes ≡ []
empty_of [] e = refl
empty_of (b ∷ bs) e = absurd (omega arith)

-- none of its bytes, or too many
pub ends_unread : (count : ℕ) → ((bytes : List ℕ) → IsCount count bytes → (bytes ≡ []) ⊎ (513 < length bytes))
    → Leads (InsideIac count) 240 (record { escapes = 0; subnegotiations = 1 }) Between
ends_unread count f rest r = record {
  segments = unread r.0 ∷ [];
  left = [];
  splits = ([], f r.0 r.1, rw r.2 (closing r.0 ∙ sym (append-nil (subnegotiation r.0))), refl);
  stands = refl;
  escapes = refl;
  subnegotiations = refl;
}

pub is_empty : (count : ℕ) → count ≡ 0 → (bytes : List ℕ) → IsCount count bytes → (bytes ≡ []) ⊎ (513 < length bytes)
is_empty count zero bytes is = inl (empty_of bytes (omega (arith, is.1 (omega arith))))

pub is_long : (count : ℕ) → 514 ≤ count → (bytes : List ℕ) → IsCount count bytes → (bytes ≡ []) ⊎ (513 < length bytes)
is_long count many bytes is = inr (omega (arith, is.0))

pub ends_read : (count : ℕ) → count ≢ 0 → count < 514 → Leads (InsideIac count) 240 none Between
ends_read count some few rest ([], is, whole) = absurd (some (is.1 few))
ends_read count some few rest (option ∷ params, is, whole) = record {
  segments = spelled (Sub option params) ∷ [];
  left = [];
  splits = ([], omega (arith, is.1 few), rw whole (closing (option ∷ params) ∙ sym (append-nil (subnegotiation (option ∷ params)))), refl);
  stands = refl;
  escapes = refl;
  subnegotiations = refl;
}

-- a subnegotiation is cut off, and the two bytes are read as outside
pub cut_off : (count b : ℕ) (dropped : Dropped) (next : Stand) → b ≢ 255 → b ≢ 240 → dropped.subnegotiations ≡ 0 → Leads AfterIac b dropped next
    → Leads (InsideIac count) b (record { escapes = dropped.escapes; subnegotiations = 1 }) next
cut_off count b dropped next h k none_of a rest r =
    let g = a (255 ∷ []) refl in
    record {
      segments = cut r.0 b ∷ g.segments;
      left = g.left;
      splits = ([], (h, k), rw r.2 (ap (λ x. 255 ∷ 250 ∷ x) (append_assoc (doubled_bytes r.0) (255 ∷ []) (b ∷ []))), g.splits);
      stands = g.stands;
      escapes = omega (arith, g.escapes);
      subnegotiations = omega (arith, g.subnegotiations, none_of);
    }

-- WATCHING ON

-- a count that stops at its greatest value
counts_both : (a b n m : ℕ) → a ≡ counted n → b ≡ m → min (a + b) 18446744073709551615 ≡ counted (n + m)
counts_both a b n m is same = rw (is, same) (omega arith)

pub watches_byte : (old new : Watch) (byte : ℕ) (dropped : Dropped) → Leads old.stand byte dropped new.stand
    → new.dropped.escapes ≡ min (old.dropped.escapes + dropped.escapes) 18446744073709551615
    → new.dropped.subnegotiations ≡ min (old.dropped.subnegotiations + dropped.subnegotiations) 18446744073709551615 → WatchesOn old (byte ∷ []) new
watches_byte old new byte dropped leads escapes subs stream had =
    let r = leads had.rest had.stands in
    record {
      segments = had.segments ++ r.segments;
      rest = r.left;
      splits = splits_both had.segments r.segments had.rest r.left stream (byte ∷ []) had.splits r.splits;
      stands = r.stands;
      escapes = escapes ∙ counts_both _ _ _ _ had.escapes r.escapes ∙ ap counted (sym (total_both dropped_escape had.segments r.segments));
      subnegotiations = subs ∙ counts_both _ _ _ _ had.subnegotiations r.subnegotiations
          ∙ ap counted (sym (total_both dropped_subnegotiation had.segments r.segments));
    }

-- THE END

-- the rest of a stream that ends at this byte is less than a segment
partial_at : (stand : Stand) (rest : List ℕ) → StandsAt stand rest → IsPartial rest
partial_at Between rest is = record { segment = spelled Newline; more = 13 ∷ 10 ∷ []; is_segment = tt; proper = omega arith; begins = rw is refl }
partial_at AfterCr rest is = record { segment = spelled Newline; more = 10 ∷ []; is_segment = tt; proper = omega arith; begins = rw is refl }
partial_at AfterIac rest is = record { segment = spelled (Byte 255); more = 255 ∷ []; is_segment = tt; proper = omega arith; begins = rw is refl }
partial_at AfterVerb rest is = record { segment = spelled (Neg is.0 0); more = 0 ∷ []; is_segment = tt; proper = omega arith; begins = rw is.1 refl }
partial_at (Inside count) rest is = record {
  segment = cut is.0 0;
  more = 255 ∷ 0 ∷ [];
  is_segment = (omega arith, omega arith);
  proper = omega arith;
  begins = rw is.2 refl;
}
partial_at (InsideIac count) rest is = record {
  segment = cut is.0 0;
  more = 0 ∷ [];
  is_segment = (omega arith, omega arith);
  proper = omega arith;
  begins = rw is.2 (ap (λ x. 255 ∷ 250 ∷ x) (append_assoc (doubled_bytes is.0) (255 ∷ []) (0 ∷ [])));
}

pub leaves : (watch : Watch) (unprinted : Unprinted) → unprinted.dropped ≡ watch.dropped
    → ((rest : List ℕ) → StandsAt watch.stand rest → IsLeft unprinted.left rest)
    → (stream : List ℕ) → Watches stream watch → LeavesUnprinted stream unprinted
leaves watch unprinted same left stream had = record {
  items = flat_map gives had.segments;
  rest = had.rest;
  reading = record { segments = had.segments; splits = had.splits; partial = partial_at watch.stand had.rest had.stands; read = refl };
  escapes = ap (λ (d : Dropped). d.escapes) same ∙ had.escapes;
  subnegotiations = ap (λ (d : Dropped). d.subnegotiations) same ∙ had.subnegotiations;
  left = left had.rest had.stands;
}
