-- The meanings that a triple can have for a function with a character, and the answers to them.
use Rattle.std.proofs.Common.{◌≡◌, ℕ, Bool, true, false, ◌||◌, ◌==◌, Option, Some, None, is_none, List, [], ◌∷◌, refl, sym, ap, subst, ◌∙◌, if◌then◌else◌}
use Rattle.std.proofs.Common.{arith}
use Rattle.tn_codes.specs.{Codes.func_code, declared.{codes.{Func.Func, Level.Level}, triples.Triple.Triple}}
use Rattle.tn_codes.specs.declared.codes.Func.TheVariants as func
use Rattle.tn_codes.specs.declared.codes.Level.TheVariants as level
use Rattle.tn_discipline.specs.Characters.{Characters, AreAllowed, slot, with_slot, special_functions, standard_characters, is_settable, is_reserved, is_set_to}
use Rattle.tn_discipline.specs.Characters.{char_fault}
use Rattle.tn_linemode.specs.{declared.triples.Saying.Saying, Triples.{acknowledged_triple, unsupported_triple, IsOffer}}
use Rattle.tn_linemode.specs.Triples.{has_ack, special_at, level_of, wanted_character, saying_of_all, saying_of_function, saying_of, triple_of}
use Rattle.tn_linemode.specs.Exchange.{cleared_character, without_character, is_line_end, is_same_value, server_takes, server_replies, server_next}
use Rattle.tn_linemode.specs.Exchange.{server_answer, client_takes, client_replies, client_next, client_answer, Answers, table_after}
use Rattle.tn_linemode.specs.declared.triples.Saying.TheVariants as saying
use Rattle.tn_discipline.proofs.lemmas.Functions.{found}
use Rattle.tn_linemode.proofs.Taking.{slot-without, accepts_offer}

-- a triple about a function with a character is an offer
abbrev Settable : Option Func → Type 0
Settable o = (f : Func) → o ≡ Some f → is_settable f ≡ true

settable_at : (code : ℕ) → Settable (special_at code)
settable_at code f e = (found (λ g. func_code g == code) f special_functions e).1

no_escape_below : (value : ℕ) → is_set_to (if value == 255 then None else Some value) 255 ≡ false
no_escape_below value = grind arith

no_escape_standard : (f : Func) → is_set_to (slot standard_characters f) 255 ≡ false
no_escape_standard func.Ip = refl
no_escape_standard _ = refl

no_escape_wanted : (f : Func) (l : Level) (value : ℕ) → is_set_to (wanted_character f l value) 255 ≡ false
no_escape_wanted f level.NoSupport value = refl
no_escape_wanted f level.CantChange value = no_escape_below value
no_escape_wanted f level.Value value = no_escape_below value
no_escape_wanted f level.ByDefault value = no_escape_standard f

about_offer : (o : Option Func) (l : Level) (code value : ℕ) (f : Func) (character : Option ℕ) → Settable o
    → saying_of_function o l code value ≡ saying.Character f character → IsOffer f character
about_offer (Some g) l code value f character settable e =
    let same_f : g ≡ f = cc in
    let same_value : wanted_character g l value ≡ character = cc in
    record { settable = ap is_settable (sym same_f) ∙ settable g refl; no_escape = ap (λ v. is_set_to v 255) (sym same_value) ∙ no_escape_wanted g l value }
about_offer None level.NoSupport code value f character settable e = cc
about_offer None level.CantChange code value f character settable e = cc
about_offer None level.Value code value f character settable e = cc
about_offer None level.ByDefault code value f character settable e = cc

all_offer : (l : Level) (zero : Bool) (f : Func) (character : Option ℕ) → saying_of_all l zero ≡ saying.Character f character → IsOffer f character
all_offer level.NoSupport zero f character e = cc
all_offer level.CantChange zero f character e = cc
all_offer level.Value true f character e = cc
all_offer level.Value false f character e = cc
all_offer level.ByDefault true f character e = cc
all_offer level.ByDefault false f character e = cc

either_offer : (zero : Bool) (all one : Saying) (f : Func) (character : Option ℕ)
    → (all ≡ saying.Character f character → IsOffer f character) → (one ≡ saying.Character f character → IsOffer f character)
    → (if zero then all else one) ≡ saying.Character f character → IsOffer f character
either_offer true all one f character from_all from_one e = from_all e
either_offer false all one f character from_all from_one e = from_one e

-- a triple about a function with a character is an offer
pub says_offer : (t : Triple) (f : Func) (character : Option ℕ) → saying_of t ≡ saying.Character f character → IsOffer f character
says_offer t f character e =
    either_offer (t.func == 0) _ _ f character (all_offer (level_of t) (t.value == 0) f character)
    (about_offer (special_at t.func) (level_of t) t.func t.value f character (settable_at t.func)) e

-- TABLES STAY ALLOWED
-- a change that a table accepts leaves it allowed, and so are the standard characters
abbrev pub Accepts : Type 0
Accepts = (c : Characters) (f : Func) (v : Option ℕ) → AreAllowed c → char_fault c f v ≡ None → AreAllowed (with_slot c f v)

allowed_if : (test : Bool) (c d : Characters) → (test ≡ true → AreAllowed c) → AreAllowed d → AreAllowed (if test then c else d)
allowed_if true c d h k = h refl
allowed_if false c d h k = k

none_is : {X : Type 0} (o : Option X) → is_none o ≡ true → o ≡ None
none_is None e = refl
none_is (Some x) e = cc

server_takes-allowed : (c : Characters) (s : Saying) → Accepts → AreAllowed standard_characters → AreAllowed c → AreAllowed (server_takes c s)
server_takes-allowed c saying.Standard accepts standard allowed = standard
server_takes-allowed c saying.Table accepts standard allowed = allowed
server_takes-allowed c (saying.Character f v) accepts standard allowed =
    allowed_if (is_none (char_fault c f v)) _ _ (λ e. accepts c f v allowed (none_is (char_fault c f v) e)) allowed
server_takes-allowed c (saying.Unsupported code) accepts standard allowed = allowed
server_takes-allowed c saying.Nothing accepts standard allowed = allowed

server_next-allowed : (c : Characters) (t : Triple) → Accepts → AreAllowed standard_characters → AreAllowed c → AreAllowed (server_next c t)
server_next-allowed c t accepts standard allowed =
    allowed_if (has_ack t) _ _ (λ e. allowed) (server_takes-allowed c (saying_of t) accepts standard allowed)

left_over : (x : Option ℕ) (byte b : ℕ) → cleared_character x byte ≡ Some b → x ≡ Some b
left_over None byte b e = cc
left_over (Some a) byte b e = over (a == byte) a b e
  where
    over : (test : Bool) (a b : ℕ) → (if test then None else Some a) ≡ Some b → Some a ≡ Some b
    over true a b e = cc
    over false a b e = e

left_at : (c : Characters) (byte b : ℕ) (f : Func) → slot (without_character c (Some byte)) f ≡ Some b → slot c f ≡ Some b
left_at c byte b f e = left_over (slot c f) byte b (sym (slot-without c byte f) ∙ e)

without-allowed : (c : Characters) (v : Option ℕ) → AreAllowed c → AreAllowed (without_character c v)
without-allowed c None allowed = allowed
without-allowed c (Some byte) allowed =
    record {
      distinct = λ f g b p q. allowed.distinct f g b (left_at c byte b f p) (left_at c byte b g q);
      unreserved = λ f b p. allowed.unreserved f b (left_at c byte b f p);
    }

by_test : (test : Bool) (A : Type 0) → (test ≡ true → A) → (test ≡ false → A) → A
by_test true A h k = h refl
by_test false A h k = k refl

client_takes-allowed : (c : Characters) (s : Saying) → ((f : Func) (v : Option ℕ) → s ≡ saying.Character f v → IsOffer f v) → Accepts → AreAllowed c
    → AreAllowed (client_takes c s)
client_takes-allowed c saying.Standard offers accepts allowed = allowed
client_takes-allowed c saying.Table offers accepts allowed = allowed
client_takes-allowed c (saying.Character f v) offers accepts allowed =
    by_test (is_line_end v) _
    (λ e. rw e allowed)
    (λ e. rw e (accepts (without_character c v) f v (without-allowed c v allowed) (accepts_offer c f v (offers f v refl) e)))
client_takes-allowed c (saying.Unsupported code) offers accepts allowed = allowed
client_takes-allowed c saying.Nothing offers accepts allowed = allowed

client_next-allowed : (c : Characters) (t : Triple) → Accepts → AreAllowed c → AreAllowed (client_next c t)
client_next-allowed c t accepts allowed = client_takes-allowed c (saying_of t) (says_offer t) accepts allowed

pub server_after-allowed : (ts : List Triple) (c : Characters) → Accepts → AreAllowed standard_characters → AreAllowed c
    → AreAllowed (table_after server_next c ts)
server_after-allowed [] c accepts standard allowed = allowed
server_after-allowed (t ∷ ts) c accepts standard allowed =
    server_after-allowed ts (server_next c t) accepts standard (server_next-allowed c t accepts standard allowed)

pub client_after-allowed : (ts : List Triple) (c : Characters) → Accepts → AreAllowed c → AreAllowed (table_after client_next c ts)
client_after-allowed [] c accepts allowed = allowed
client_after-allowed (t ∷ ts) c accepts allowed = client_after-allowed ts (client_next c t) accepts (client_next-allowed c t accepts allowed)

-- ANSWERS SPEAK OF THE SAME FUNCTION
abbrev Names : ℕ → Option Func → Type 0
Names code o = (f : Func) → o ≡ Some f → func_code f ≡ code

names_at : (code : ℕ) → Names code (special_at code)
names_at code f e = let same : (func_code f == code) ≡ true = (found (λ g. func_code g == code) f special_functions e).0 in grind arith

-- the function that a saying names is that of the triple
abbrev Speaks : ℕ → Saying → Type 0
Speaks code saying.Standard = Unit {0}
Speaks code saying.Table = Unit {0}
Speaks code (saying.Character f v) = (func_code f ≡ code) × (is_set_to v 255 ≡ false)
Speaks code (saying.Unsupported other) = other ≡ code
Speaks code saying.Nothing = Unit {0}

speaks_all : (l : Level) (zero : Bool) (code : ℕ) → Speaks code (saying_of_all l zero)
speaks_all level.NoSupport zero code = tt
speaks_all level.CantChange zero code = tt
speaks_all level.Value true code = tt
speaks_all level.Value false code = tt
speaks_all level.ByDefault true code = tt
speaks_all level.ByDefault false code = tt

speaks_of : (o : Option Func) (l : Level) (code value : ℕ) → Names code o → Speaks code (saying_of_function o l code value)
speaks_of (Some f) l code value names = (names f refl, no_escape_wanted f l value)
speaks_of None level.NoSupport code value names = tt
speaks_of None level.CantChange code value names = refl
speaks_of None level.Value code value names = refl
speaks_of None level.ByDefault code value names = refl

speaks_either : (code : ℕ) (test : Bool) (r s : Saying) → Speaks code r → Speaks code s → Speaks code (if test then r else s)
speaks_either code true r s h k = h
speaks_either code false r s h k = k

speaks : (t : Triple) → Speaks t.func (saying_of t)
speaks t =
    speaks_either t.func (t.func == 0) _ _ (speaks_all (level_of t) (t.value == 0) t.func)
    (speaks_of (special_at t.func) (level_of t) t.func t.value (names_at t.func))

-- the answer, if there is one
abbrev AllAnswer : Triple → Option Triple → Type 0
AllAnswer t None = Unit {0}
AllAnswer t (Some a) = Answers t a

answers_none : (t a : Triple) (o : Option Triple) → AllAnswer t o → o ≡ Some a → Answers t a
answers_none t a None h e = cc
answers_none t a (Some b) h e = let same : b ≡ a = cc in subst (Answers t) same h

answer_if : (t : Triple) (test : Bool) (o p : Option Triple) → AllAnswer t o → AllAnswer t p → AllAnswer t (if test then o else p)
answer_if t true o p h k = h
answer_if t false o p h k = k

unsupported_answers : (t : Triple) (code : ℕ) → code ≡ t.func → Answers t (unsupported_triple code)
unsupported_answers t code same = record { function = same; modifier = λ e. omega (arith, e); character = λ e. omega (arith, e) }

plain_answers : (t : Triple) (f : Func) (v : Option ℕ) → func_code f ≡ t.func → is_set_to v 255 ≡ false → Answers t (triple_of f v)
plain_answers t f None same other = unsupported_answers t (func_code f) same
plain_answers t f (Some b) same other = record { function = same; modifier = λ e. omega (arith, e); character = λ e. grind (arith, e) }

acknowledging_answers : (t : Triple) (f : Func) (v : Option ℕ) → func_code f ≡ t.func → is_set_to v 255 ≡ false
    → Answers t (acknowledged_triple (triple_of f v))
acknowledging_answers t f None same other = record { function = same; modifier = λ e. omega (arith, e); character = λ e. omega (arith, e) }
acknowledging_answers t f (Some b) same other = record { function = same; modifier = λ e. omega (arith, e); character = λ e. grind (arith, e) }

own_value : (v : Option ℕ) → ((b : ℕ) → v ≡ Some b → is_reserved b ≡ false) → is_set_to v 255 ≡ false
own_value None fine = refl
own_value (Some b) fine = let ok : is_reserved b ≡ false = fine b refl in grind arith

server_replies-answer : (c : Characters) (t : Triple) (s : Saying) → AreAllowed c → Speaks t.func s → AllAnswer t (server_replies c s)
server_replies-answer c t saying.Standard allowed h = tt
server_replies-answer c t saying.Table allowed h = tt
server_replies-answer c t (saying.Character f v) allowed h =
    answer_if t (is_same_value (slot c f) v) None _ tt
    (answer_if t (is_none (char_fault c f v)) (Some (acknowledged_triple (triple_of f v))) (Some (triple_of f (slot c f))) (acknowledging_answers t f v h.0 h.1)
    (plain_answers t f (slot c f) h.0 (own_value (slot c f) (allowed.unreserved f))))
server_replies-answer c t (saying.Unsupported code) allowed h = unsupported_answers t code h
server_replies-answer c t saying.Nothing allowed h = tt

pub server_answer-answers : (c : Characters) (t a : Triple) → AreAllowed c → server_answer c t ≡ Some a → Answers t a
server_answer-answers c t a allowed e =
    answers_none t a (server_answer c t) (answer_if t (has_ack t) None _ tt (server_replies-answer c t (saying_of t) allowed (speaks t))) e

client_replies-answer : (c : Characters) (t : Triple) (s : Saying) → Speaks t.func s → AllAnswer t (client_replies c s)
client_replies-answer c t saying.Standard h = tt
client_replies-answer c t saying.Table h = tt
client_replies-answer c t (saying.Character f v) h =
    answer_if t (is_line_end v || is_same_value (slot c f) v) None (Some (acknowledged_triple (triple_of f v))) tt (acknowledging_answers t f v h.0 h.1)
client_replies-answer c t (saying.Unsupported code) h = unsupported_answers t code h
client_replies-answer c t saying.Nothing h = tt

pub client_answer-answers : (c : Characters) (t a : Triple) → client_answer c t ≡ Some a → Answers t a
client_answer-answers c t a e =
    answers_none t a (client_answer c t) (answer_if t (has_ack t) None _ tt (client_replies-answer c t (saying_of t) (speaks t))) e
