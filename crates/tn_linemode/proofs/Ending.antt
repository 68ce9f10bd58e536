-- Answers to answers end.
use Rattle.std.proofs.Common.{◌≡◌, ◌⊎◌, ◌<◌, ◌≤◌, ◌+◌, ℕ, zero, suc, ◌==◌, Bool, true, false, not, ◌&&◌, ◌||◌, Option, Some, None, is_none, option_to_list}
use Rattle.std.proofs.Common.{List, [], ◌∷◌, ◌++◌, length, refl, sym, ap, subst, ◌∙◌, inl, inr, if◌then◌else◌, arith, rules, length-append}
use Rattle.std.proofs.lemmas.List.Elements.{All-nil, All-cons, All-append, All-head, All-tail}
use Rattle.std.specs.Prelude.{All}
use Rattle.tn_codes.specs.declared.{codes.{Func.Func, Level.Level}, triples.Triple.Triple}
use Rattle.tn_codes.specs.declared.codes.Func.TheVariants as func
use Rattle.tn_codes.specs.declared.codes.Level.TheVariants as level
use Rattle.tn_discipline.specs.Characters.{Characters, AreAllowed, slot, with_slot, is_reserved, is_set_to, char_fault}
use Rattle.tn_linemode.specs.{declared.triples.Saying.Saying, Triples.{unsupported_triple, IsOffer}, Repeating.repeated}
use Rattle.tn_linemode.specs.Triples.{has_ack, special_at, level_of, saying_of_all, saying_of_function, saying_of, triple_of, acknowledged_triple}
use Rattle.tn_linemode.specs.Exchange.{is_line_end, is_same_value, answers_along, server_takes, server_replies, server_next, server_answer, server_after}
use Rattle.tn_linemode.specs.Exchange.{server_answers, server_is_asked, asks_for_table, wants_table, client_replies, client_next, client_answer, client_answers}
use Rattle.tn_linemode.specs.declared.triples.Saying.TheVariants as saying
use Rattle.tn_linemode.proofs.{Announcing.says-triple_of, Offers.says_offer}

-- A TRIPLE THAT ENDS AN EXCHANGE: an acknowledgement, or one that means nothing
abbrev IsFinal : Triple → Type 0
IsFinal t = (has_ack t ≡ true) ⊎ (saying_of t ≡ saying.Nothing)

none_if : (test : Bool) (o : Option Triple) → o ≡ None → (if test then None else o) ≡ None
none_if true o e = refl
none_if false o e = e

same_if : (test : Bool) (c d : Characters) → d ≡ c → (if test then c else d) ≡ c
same_if true c d e = refl
same_if false c d e = e

final_answer : (s : Characters) (t : Triple) → IsFinal t → server_answer s t ≡ None
final_answer s t h = elim h [ inl e ↦ rw e refl | inr e ↦ none_if (has_ack t) _ (ap (server_replies s) e) ]

final_next : (s : Characters) (t : Triple) → IsFinal t → server_next s t ≡ s
final_next s t h = elim h [ inl e ↦ rw e refl | inr e ↦ same_if (has_ack t) s _ (ap (server_takes s) e) ]

final_heard : (d : Characters) (t : Triple) → IsFinal t → client_answer d t ≡ None
final_heard d t h = elim h [ inl e ↦ rw e refl | inr e ↦ none_if (has_ack t) _ (ap (client_replies d) e) ]

asks_none : (acks : Bool) (s : Saying) → s ≡ saying.Nothing → (not acks && wants_table s) ≡ false
asks_none true s e = refl
asks_none false s e = ap wants_table e

final_asks : (t : Triple) → IsFinal t → asks_for_table t ≡ false
final_asks t h = elim h [ inl e ↦ rw e refl | inr e ↦ asks_none (has_ack t) (saying_of t) e ]

-- ALL THAT A CLIENT ANSWERS ends the exchange
about_unsupported : (o : Option Func) (l : Level) (code value wanted : ℕ) → special_at code ≡ o → saying_of_function o l code value ≡ saying.Unsupported wanted
    → special_at wanted ≡ None
about_unsupported (Some f) l code value wanted is e = cc
about_unsupported None level.NoSupport code value wanted is e = cc
about_unsupported None level.CantChange code value wanted is e = let same : code ≡ wanted = cc in ap special_at (sym same) ∙ is
about_unsupported None level.Value code value wanted is e = let same : code ≡ wanted = cc in ap special_at (sym same) ∙ is
about_unsupported None level.ByDefault code value wanted is e = let same : code ≡ wanted = cc in ap special_at (sym same) ∙ is

all_unsupported : (l : Level) (none : Bool) (wanted : ℕ) → saying_of_all l none ≡ saying.Unsupported wanted → special_at wanted ≡ None
all_unsupported level.NoSupport none wanted e = cc
all_unsupported level.CantChange none wanted e = cc
all_unsupported level.Value true wanted e = cc
all_unsupported level.Value false wanted e = cc
all_unsupported level.ByDefault true wanted e = cc
all_unsupported level.ByDefault false wanted e = cc

either_unsupported : (test : Bool) (all one : Saying) (wanted : ℕ)
    → (all ≡ saying.Unsupported wanted → special_at wanted ≡ None) → (one ≡ saying.Unsupported wanted → special_at wanted ≡ None)
    → (if test then all else one) ≡ saying.Unsupported wanted → special_at wanted ≡ None
either_unsupported true all one wanted from_all from_one e = from_all e
either_unsupported false all one wanted from_all from_one e = from_one e

-- a function that is not supported has no character
unsupported_none : (t : Triple) (wanted : ℕ) → saying_of t ≡ saying.Unsupported wanted → special_at wanted ≡ None
unsupported_none t wanted e =
    either_unsupported (t.func == 0) _ _ wanted (all_unsupported (level_of t) (t.value == 0) wanted)
    (about_unsupported (special_at t.func) (level_of t) t.func t.value wanted refl) e

nothing_if : (test : Bool) (s : Saying) → s ≡ saying.Nothing → (if test then saying.Nothing else s) ≡ saying.Nothing
nothing_if true s e = refl
nothing_if false s e = e

-- a triple that answers "unsupported" means nothing
unsupported_says : (code : ℕ) → special_at code ≡ None → saying_of (unsupported_triple code) ≡ saying.Nothing
unsupported_says code none =
    nothing_if (code == 0) _ (ap (λ o. saying_of_function o level.NoSupport code 0) none)

acknowledges : (f : Func) (v : Option ℕ) → has_ack (acknowledged_triple (triple_of f v)) ≡ true
acknowledges f None = refl
acknowledges f (Some byte) = refl

abbrev AllFinal : Option Triple → Type 0
AllFinal None = Unit {0}
AllFinal (Some a) = IsFinal a

all_final_if : (test : Bool) (o : Option Triple) → AllFinal o → AllFinal (if test then None else o)
all_final_if true o h = tt
all_final_if false o h = h

client_replies-final : (c : Characters) (s : Saying) → ((code : ℕ) → s ≡ saying.Unsupported code → special_at code ≡ None) → AllFinal (client_replies c s)
client_replies-final c saying.Standard h = tt
client_replies-final c saying.Table h = tt
client_replies-final c (saying.Character f v) h = all_final_if (is_line_end v || is_same_value (slot c f) v) _ (inl (acknowledges f v))
client_replies-final c (saying.Unsupported code) h = inr (unsupported_says code (h code refl))
client_replies-final c saying.Nothing h = tt

listed : (o : Option Triple) → AllFinal o → All IsFinal (option_to_list o)
listed None h = All-nil IsFinal
listed (Some a) h = All-cons IsFinal a [] h (All-nil IsFinal)

client_answers-final : (c : Characters) (ts : List Triple) → All IsFinal (client_answers c ts)
unfolding answers_along client_answers
client_answers-final c [] = All-nil IsFinal
client_answers-final c (t ∷ ts) =
    All-append IsFinal (option_to_list (client_answer c t)) _
    (listed (client_answer c t) (all_final_if (has_ack t) _ (client_replies-final c (saying_of t) (unsupported_none t))))
    (client_answers-final (client_next c t) ts)

-- NOBODY ANSWERS such triples, and they change nothing at a server
silent_server : (s : Characters) (ts : List Triple) → All IsFinal ts → server_answers s ts ≡ []
unfolding answers_along server_answers
silent_server s [] h = refl
silent_server s (t ∷ ts) h =
    ap (λ o. option_to_list o ++ answers_along server_next server_answer (server_next s t) ts) (final_answer s t (All-head IsFinal t ts h))
    ∙ silent_server (server_next s t) ts (All-tail IsFinal t ts h)

silent_client : (d : Characters) (ts : List Triple) → All IsFinal ts → client_answers d ts ≡ []
unfolding answers_along client_answers
silent_client d [] h = refl
silent_client d (t ∷ ts) h =
    ap (λ o. option_to_list o ++ answers_along client_next client_answer (client_next d t) ts) (final_heard d t (All-head IsFinal t ts h))
    ∙ silent_client (client_next d t) ts (All-tail IsFinal t ts h)

same_table : (s : Characters) (ts : List Triple) → All IsFinal ts → server_after s ts ≡ s
unfolding server_after
same_table s [] h = refl
same_table s (t ∷ ts) h = same_table (server_next s t) ts (All-tail IsFinal t ts h) ∙ final_next s t (All-head IsFinal t ts h)

asks_not : (ts : List Triple) → All IsFinal ts → server_is_asked ts ≡ false
unfolding server_is_asked
asks_not [] h = refl
asks_not (t ∷ ts) h = rw (final_asks t (All-head IsFinal t ts h)) (asks_not ts (All-tail IsFinal t ts h))

pub unanswered_by_server : (c s : Characters) (ts : List Triple) → server_answers s (client_answers c ts) ≡ []
unanswered_by_server c s ts = silent_server s (client_answers c ts) (client_answers-final c ts)

pub unanswered_by_client : (c d : Characters) (ts : List Triple) → client_answers d (client_answers c ts) ≡ []
unanswered_by_client c d ts = silent_client d (client_answers c ts) (client_answers-final c ts)

pub changes_nothing : (c s : Characters) (ts : List Triple) → server_after s (client_answers c ts) ≡ s
changes_nothing c s ts = same_table s (client_answers c ts) (client_answers-final c ts)

pub asks_for_none : (c : Characters) (ts : List Triple) → server_is_asked (client_answers c ts) ≡ false
asks_for_none c ts = asks_not (client_answers c ts) (client_answers-final c ts)

-- A SERVER THAT RECEIVES ITS OWN ANSWERS
-- a triple that a table has already is skipped
abbrev IsSilent : Characters → Triple → Type 0
IsSilent c t = (server_answer c t ≡ None) × (server_next c t ≡ c)

silent_final : (c : Characters) (t : Triple) → IsFinal t → IsSilent c t
silent_final c t h = (final_answer c t h, final_next c t h)

same_value : (v : Option ℕ) → is_same_value v v ≡ true
same_value None = refl
same_value (Some a) = search rules

with_own : (c : Characters) (f : Func) → with_slot c f (slot c f) ≡ c
with_own c func.Ip = refl
with_own c _ = refl

own_silent : (c : Characters) (f : Func) → saying_of (triple_of f (slot c f)) ≡ saying.Character f (slot c f) → IsSilent c (triple_of f (slot c f))
own_silent c f e = (
  none_if (has_ack t) _ (ap (server_replies c) e ∙ rw (same_value (slot c f)) refl),
  same_if (has_ack t) c _ (ap (server_takes c) e ∙ kept (is_none (char_fault c f (slot c f)))),
)
  where
    t : Triple
    t = triple_of f (slot c f)

    kept : (test : Bool) → (if test then with_slot c f (slot c f) else c) ≡ c
    kept true = with_own c f
    kept false = refl

own_value : (v : Option ℕ) → ((b : ℕ) → v ≡ Some b → is_reserved b ≡ false) → is_set_to v 255 ≡ false
own_value None fine = refl
own_value (Some b) fine = let ok : is_reserved b ≡ false = fine b refl in grind arith

-- the answer: an acknowledgement, or the character that the table has and keeps
abbrev Reply : Characters → Saying → Option Triple → Type 0
Reply c s None = Unit {0}
Reply c s (Some a) = (has_ack a ≡ true) ⊎ ((server_takes c s ≡ c) × IsSilent c a)

reply_if : (c : Characters) (s : Saying) (test : Bool) (o p : Option Triple) → Reply c s o → (test ≡ false → Reply c s p) → Reply c s (if test then o else p)
reply_if c s true o p h k = h
reply_if c s false o p h k = k refl

server_reply : (c : Characters) (s : Saying) → AreAllowed c → ((code : ℕ) → s ≡ saying.Unsupported code → special_at code ≡ None)
    → ((f : Func) (v : Option ℕ) → s ≡ saying.Character f v → IsOffer f v) → Reply c s (server_replies c s)
server_reply c saying.Standard allowed h offers = tt
server_reply c saying.Table allowed h offers = tt
server_reply c (saying.Character f v) allowed h offers =
    let s : Saying = saying.Character f v in
    reply_if c s (is_same_value (slot c f) v) None _ tt
    (λ other. reply_if c s (is_none (char_fault c f v)) (Some (acknowledged_triple (triple_of f v))) (Some (triple_of f (slot c f))) (inl (acknowledges f v))
    (λ refused. inr (rw refused refl, own_silent c f (says-triple_of f (slot c f) (offers f v refl).settable (own_value (slot c f) (allowed.unreserved f))))))
server_reply c (saying.Unsupported code) allowed h offers = inr (refl, silent_final c (unsupported_triple code) (inr (unsupported_says code (h code refl))))
server_reply c saying.Nothing allowed h offers = tt

-- the number of triples that acknowledge nothing
abbrev open_if : Bool → ℕ
open_if true = 0
open_if false = 1

abbrev open_count : List Triple → ℕ
open_count [] = 0
open_count (t ∷ ts) = open_if (has_ack t) + open_count ts

within_if : (acks : Bool) (few many : ℕ) → few ≤ many → open_if acks + few ≤ 1 + many
within_if true few many h = omega (arith, h)
within_if false few many h = omega (arith, h)

open_count-within : (ts : List Triple) → open_count ts ≤ length ts
open_count-within [] = omega arith
open_count-within (t ∷ ts) = omega (arith, within_if (has_ack t) (open_count ts) (length ts) (open_count-within ts))

-- each of them is answered at most once, and no other
few_of : (acks : Bool) (o : Option Triple) → length (option_to_list (if acks then None else o)) ≤ open_if acks
few_of true o = omega arith
few_of false None = omega arith
few_of false (Some a) = omega arith

few_answers : (c : Characters) (ts : List Triple) → length (server_answers c ts) ≤ open_count ts
unfolding answers_along server_answers
few_answers c [] = omega arith
few_answers c (t ∷ ts) =
    omega (
      arith,
      few_of (has_ack t) (server_replies c (saying_of t)),
      few_answers (server_next c t) ts,
      length-append (option_to_list (server_answer c t)) (answers_along server_next server_answer (server_next c t) ts),
    )

-- After one round fewer triples are open; or else nothing was taken, and what is on its way is what the table has.
abbrev Settles : Characters → List Triple → Characters → List Triple → Type 0
Settles c ts d us = (open_count us < open_count ts) ⊎ ((d ≡ c) × All (IsSilent c) us)

settles_open : (c d : Characters) (t : Triple) (ts us : List Triple) (reply : Option Triple) → has_ack t ≡ false → Reply c (saying_of t) reply
    → open_count us ≤ open_count ts
    → (server_takes c (saying_of t) ≡ c → Settles c ts d us) → Settles c (t ∷ ts) d (option_to_list reply ++ us)
settles_open c d t ts us None is h few later = inl (omega (arith, ap open_if is, few))
settles_open c d t ts us (Some a) is h few later =
    elim h [
      | inl ack ↦ inl (omega (arith, ap open_if is, ap open_if ack, few))
      | inr own ↦ elim (later own.0) [
        | inl less ↦ inl (omega (arith, ap open_if is, within_if (has_ack a) (open_count us) (open_count us) (omega arith), less))
        | inr rest ↦ inr (rest.0, All-cons (IsSilent c) a us own.1 rest.1)
      ]
    ]

-- an exchange settles once the table after the first triple is named
settles_by : (c : Characters) (t : Triple) (ts : List Triple) (acks : Bool) → has_ack t ≡ acks → AreAllowed c
    → Settles c ts (server_after c ts) (server_answers c ts)
    → Settles c (t ∷ ts) (server_after (if acks then c else server_takes c (saying_of t)) ts)
    (option_to_list (if acks then None else server_replies c (saying_of t)) ++ server_answers (if acks then c else server_takes c (saying_of t)) ts)
settles_by c t ts true is allowed again = elim again [ inl less ↦ inl (omega (arith, ap open_if is, less)) | inr rest ↦ inr rest ]
settles_by c t ts false is allowed again =
    let d : Characters = server_takes c (saying_of t) in
    settles_open c (server_after d ts) t ts (server_answers d ts) (server_replies c (saying_of t)) is
    (server_reply c (saying_of t) allowed (unsupported_none t) (says_offer t))
    (omega (arith, few_answers d ts, open_count-within (server_answers d ts)))
    (λ same. subst (λ x. Settles c ts (server_after x ts) (server_answers x ts)) (sym same) again)

settles : (c : Characters) (ts : List Triple) → AreAllowed c → Settles c ts (server_after c ts) (server_answers c ts)
unfolding answers_along server_answers server_after
settles c [] allowed = inr (refl, All-nil (IsSilent c))
settles c (t ∷ ts) allowed = settles_by c t ts (has_ack t) refl allowed (settles c ts allowed)

silent_all : (c : Characters) (ts : List Triple) → All (IsSilent c) ts → server_answers c ts ≡ []
unfolding answers_along server_answers
silent_all c [] h = refl
silent_all c (t ∷ ts) h =
    let here : IsSilent c t = All-head (IsSilent c) t ts h in
    ap (λ o. option_to_list o ++ answers_along server_next server_answer (server_next c t) ts) here.0
    ∙ ap (λ d. answers_along server_next server_answer d ts) here.1
    ∙ silent_all c ts (All-tail (IsSilent c) t ts h)

repeated_none : (n : ℕ) (c : Characters) → repeated n c [] ≡ []
unfolding repeated answers_along server_answers
repeated_none zero c = refl
repeated_none (suc n) c = repeated_none n (server_after c [])

repeated_silent : (n : ℕ) (c : Characters) (ts : List Triple) → length ts ≤ n → All (IsSilent c) ts → repeated n c ts ≡ []
unfolding repeated
repeated_silent zero c [] few h = refl
repeated_silent zero c (t ∷ ts) few h = absurd (omega (arith, few))
repeated_silent (suc n) c ts few h = ap (repeated n (server_after c ts)) (silent_all c ts h) ∙ repeated_none n (server_after c ts)

open_repeated : (n : ℕ) (c : Characters) (ts : List Triple) → ((c : Characters) (ts : List Triple) → AreAllowed c → AreAllowed (server_after c ts))
    → AreAllowed c → open_count ts < n → repeated n c ts ≡ []
unfolding repeated
open_repeated zero c ts stays allowed few = absurd (omega (arith, few))
open_repeated (suc n) c ts stays allowed few =
    elim (settles c ts allowed) [
      | inl less ↦ open_repeated n (server_after c ts) (server_answers c ts) stays (stays c ts allowed) (omega (arith, less, few))
      | inr rest ↦ ap (λ d. repeated n d (server_answers c ts)) rest.0 ∙ repeated_silent n c (server_answers c ts) (omega (arith, few_answers c ts, few)) rest.1
    ]

-- such a peer is answered fewer times than its list has triples, and once more
pub repeating_ends : (c : Characters) (ts : List Triple) (n : ℕ) → ((c : Characters) (ts : List Triple) → AreAllowed c → AreAllowed (server_after c ts))
    → AreAllowed c → length ts < n → repeated n c ts ≡ []
repeating_ends c ts n stays allowed few = open_repeated n c ts stays allowed (omega (arith, open_count-within ts, few))
