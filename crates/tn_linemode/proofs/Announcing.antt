-- A client that is sent a whole table, and a server that is sent acknowledgements.
use Rattle.std.proofs.Common.{◌≡◌, ◌≢◌, ◌⊎◌, ℕ, ◌==◌, Bool, true, false, ◌&&◌, ◌||◌, Option, Some, None, option_to_list, List, [], ◌∷◌, ◌++◌, map, refl, sym}
use Rattle.std.proofs.Common.{ap, ◌∙◌, inl, inr, if◌then◌else◌, arith}
use Rattle.std.specs.List.{list_all}
use Rattle.tn_codes.specs.{Codes.func_code, declared.{codes.Func.Func, triples.Triple.Triple}}
use Rattle.tn_codes.specs.declared.codes.Func.TheVariants as func
use Rattle.tn_codes.specs.declared.codes.Level.TheVariants as level
use Rattle.tn_discipline.specs.Characters.{Characters, AreAllowed, slot, with_slot, special_functions, is_same, is_settable, is_reserved, is_set_to}
use Rattle.tn_discipline.proofs.lemmas.Functions.{same_function, apart, is_same-refl, is_among, among_more, finds, slot-with_slot, slot-with_slot-other}
use Rattle.tn_discipline.proofs.lemmas.Functions.{same_slots}
use Rattle.tn_linemode.specs.declared.triples.Saying.TheVariants as saying
use Rattle.tn_linemode.specs.Triples.{has_ack, special_at, saying_of_all, saying_of_function, saying_of, triple_of, acknowledged_triple}
use Rattle.tn_linemode.specs.Exchange.{without_character, is_line_end, is_same_value, announcement, answers_along, server_next, server_answer, server_after}
use Rattle.tn_linemode.specs.Exchange.{server_answers, client_next, client_answer, client_takes, client_after, client_answers}
use Rattle.tn_linemode.proofs.Taking.{slot-without, stays}

and_true : (a b : Bool) → (a && b) ≡ true → (a ≡ true) × (b ≡ true)
and_true true b e = (refl, e)
and_true false b e = cc

true_and : (a b : Bool) → a ≡ true → b ≡ true → (a && b) ≡ true
true_and a b p q = rw (p, q)

-- acknowledgements change nothing at the server, and it is silent
pub acknowledged_table : (c : Characters) (ts : List Triple) → list_all has_ack ts ≡ true → server_after c ts ≡ c
unfolding server_after
acknowledged_table c [] acks = refl
acknowledged_table c (t ∷ ts) acks =
    let both = and_true (has_ack t) (list_all has_ack ts) acks in
    let same : server_next c t ≡ c = rw both.0 in
    ap (λ d. server_after d ts) same ∙ acknowledged_table c ts both.1

pub acknowledged_answers : (c : Characters) (ts : List Triple) → list_all has_ack ts ≡ true → server_answers c ts ≡ []
unfolding answers_along server_answers server_after
acknowledged_answers c [] acks = refl
acknowledged_answers c (t ∷ ts) acks =
    let both = and_true (has_ack t) (list_all has_ack ts) acks in
    let same : server_next c t ≡ c = rw both.0 in
    let silent : server_answer c t ≡ None = rw both.0 in
    ap (λ o. option_to_list o ++ server_answers (server_next c t) ts) silent ∙ ap (λ d. server_answers d ts) same ∙ acknowledged_answers c ts both.1

-- a function that has another character than the one that is taken away keeps it
slot-without-other : (c : Characters) (v : Option ℕ) (f : Func) → ((byte : ℕ) → v ≡ Some byte → slot c f ≢ Some byte)
    → slot (without_character c v) f ≡ slot c f
slot-without-other c None f other = refl
slot-without-other c (Some byte) f other = slot-without c byte f ∙ stays (slot c f) byte (other byte refl)

-- a client's table that took the character of one function of an allowed table
abbrev took : Characters → Characters → Func → Characters
took s c k = with_slot (without_character c (slot s k)) k (slot s k)

took_at : (s c : Characters) (k : Func) → is_settable k ≡ true → slot (took s c k) k ≡ slot s k
took_at s c k settable = slot-with_slot (without_character c (slot s k)) k (slot s k) settable

took_keeps : (s c : Characters) (k f : Func) → AreAllowed s → is_settable k ≡ true → slot c f ≡ slot s f → slot (took s c k) f ≡ slot s f
took_keeps s c k f allowed settable same = by_test (is_same f k) refl
  where
    by_test : (test : Bool) → is_same f k ≡ test → slot (took s c k) f ≡ slot s f
    by_test true e =
        let one : f ≡ k = same_function f k e in ap (slot (took s c k)) one ∙ took_at s c k settable ∙ ap (slot s) (sym one)
    by_test false e =
        slot-with_slot-other (without_character c (slot s k)) k f (slot s k) e
        ∙ slot-without-other c (slot s k) f (λ byte held there. let one : f ≡ k = allowed.distinct f k byte (sym same ∙ there) held in absurd (apart f k e one))
        ∙ same

-- a value of an allowed table is neither a line end nor 255
plain_value : (v : Option ℕ) → ((byte : ℕ) → v ≡ Some byte → is_reserved byte ≡ false) → (is_line_end v ≡ false) × (is_set_to v 255 ≡ false)
plain_value None fine = (refl, refl)
plain_value (Some byte) fine = let ok : is_reserved byte ≡ false = fine byte refl in (grind arith, grind arith)

-- the code of a function that has a character is its own, and not that of all
above_zero : (k : Func) → (func_code k == 0) ≡ false
above_zero func.Synch = refl
above_zero _ = refl

special_at-code : (k : Func) → is_settable k ≡ true → special_at (func_code k) ≡ Some k
special_at-code k settable = finds (λ f. func_code f == func_code k) k special_functions settable (is_same-refl k) (λ f e. same_function f k e)

-- a triple means what it is made of
pub says-triple_of : (k : Func) (v : Option ℕ) → is_settable k ≡ true → is_set_to v 255 ≡ false → saying_of (triple_of k v) ≡ saying.Character k v
says-triple_of k None settable other =
    ap (λ (zero : Bool). if zero then saying.Nothing else saying_of_function (special_at (func_code k)) level.NoSupport (func_code k) 0) (above_zero k)
    ∙ ap (λ o. saying_of_function o level.NoSupport (func_code k) 0) (special_at-code k settable)
says-triple_of k (Some byte) settable other =
    ap (λ (zero : Bool). if zero then saying_of_all level.Value (byte == 0) else saying_of_function (special_at (func_code k)) level.Value (func_code k) byte)
    (above_zero k)
    ∙ ap (λ o. saying_of_function o level.Value (func_code k) byte) (special_at-code k settable)
    ∙ ap (λ (escape : Bool). saying.Character k (if escape then None else Some byte)) other

client_next-own : (s c : Characters) (k : Func) → AreAllowed s → is_settable k ≡ true → client_next c (triple_of k (slot s k)) ≡ took s c k
client_next-own s c k allowed settable =
    let plain = plain_value (slot s k) (allowed.unreserved k) in
    ap (client_takes c) (says-triple_of k (slot s k) settable plain.1) ∙ taken plain.0
  where
    taken : is_line_end (slot s k) ≡ false → client_takes c (saying.Character k (slot s k)) ≡ took s c k
    taken plain = rw plain

-- the triples of some functions of a table
abbrev told : Characters → List Func → List Triple
told s ks = map (λ k. triple_of k (slot s k)) ks

-- a function that was announced, or agreed before, agrees after
told_agrees : (s : Characters) (ks : List Func) (c : Characters) (f : Func) → AreAllowed s → list_all is_settable ks ≡ true → (is_among f ks ≡ true)
    ⊎ (slot c f ≡ slot s f) → slot (client_after c (told s ks)) f ≡ slot s f
unfolding client_after
told_agrees s [] c f allowed settable h = elim h [ inl among ↦ cc | inr same ↦ same ]
told_agrees s (k ∷ ks) c f allowed settable h =
    let both = and_true (is_settable k) (list_all is_settable ks) settable in
    ap (λ d. slot (client_after d (told s ks)) f) (client_next-own s c k allowed both.0)
    ∙ told_agrees s ks (took s c k) f allowed both.1 (next both.0 h)
  where
    next : is_settable k ≡ true → (is_among f (k ∷ ks) ≡ true) ⊎ (slot c f ≡ slot s f) → (is_among f ks ≡ true) ⊎ (slot (took s c k) f ≡ slot s f)
    next here h =
        elim h [
          | inl among ↦ elim (among_more f k ks among) [
            | inl e ↦ inr
                (ap (slot (took s c k)) (sym e) ∙ took_at s c k here ∙ ap (slot s) e)
            | inr later ↦ inl later
          ]
          | inr same ↦ inr (took_keeps s c k f allowed here same)
        ]

announced_at : (s c : Characters) → AreAllowed s → (f : Func) → is_settable f ≡ true → slot (client_after c (announcement s)) f ≡ slot s f
unfolding client_after announcement
announced_at s c allowed f settable = told_agrees s special_functions c f allowed refl (inl settable)

-- a client that is sent a whole table has it
pub announced : (c s : Characters) → AreAllowed s → client_after c (announcement s) ≡ s
announced c s allowed = same_slots _ _ (announced_at s c allowed)

-- a client's answers to a table are acknowledgements
acknowledges : (k : Func) (v : Option ℕ) → has_ack (acknowledged_triple (triple_of k v)) ≡ true
acknowledges k None = refl
acknowledges k (Some byte) = refl

abbrev Acks : Option Triple → Type 0
Acks o = list_all has_ack (option_to_list o) ≡ true

acks_if : (test : Bool) (o : Option Triple) → Acks o → Acks (if test then None else o)
acks_if true o acks = refl
acks_if false o acks = acks

client_answer-own : (s c : Characters) (k : Func) → AreAllowed s → is_settable k ≡ true → Acks (client_answer c (triple_of k (slot s k)))
client_answer-own s c k allowed settable =
    let plain = plain_value (slot s k) (allowed.unreserved k) in
    acks_if (has_ack (triple_of k (slot s k))) _
    (rw (says-triple_of k (slot s k) settable plain.1)
    (acks_if (is_line_end (slot s k) || is_same_value (slot c k) (slot s k)) _ (true_and _ true (acknowledges k (slot s k)) refl)))

list_all-append : (xs ys : List Triple) → list_all has_ack xs ≡ true → list_all has_ack ys ≡ true → list_all has_ack (xs ++ ys) ≡ true
list_all-append [] ys p q = q
list_all-append (x ∷ xs) ys p q =
    let both = and_true (has_ack x) (list_all has_ack xs) p in true_and _ _ both.0 (list_all-append xs ys both.1 q)

told_acks : (s : Characters) (ks : List Func) (c : Characters) → AreAllowed s → list_all is_settable ks ≡ true
    → list_all has_ack (client_answers c (told s ks)) ≡ true
unfolding answers_along client_answers
told_acks s [] c allowed settable = refl
told_acks s (k ∷ ks) c allowed settable =
    let both = and_true (is_settable k) (list_all is_settable ks) settable in
    list_all-append (option_to_list (client_answer c (triple_of k (slot s k)))) _ (client_answer-own s c k allowed both.0)
    (told_acks s ks (client_next c (triple_of k (slot s k))) allowed both.1)

pub announced_acks : (c s : Characters) → AreAllowed s → list_all has_ack (client_answers c (announcement s)) ≡ true
unfolding announcement
announced_acks c s allowed = told_acks s special_functions c allowed refl
