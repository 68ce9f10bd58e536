-- The effect of messages about LINEMODE on the engine of an end, and what a message about another option
-- leaves.
use Rattle.std.proofs.Common.{◌≡◌, ◌≢◌, inl, ℕ, ◌==◌, Bool, true, false, Option, Some, None, [], ◌∷◌, refl, sym, ◌∙◌, subst}
use Rattle.std.proofs.lemmas.List.Elements.{All-nil, All-cons}
use Rattle.std.specs.Prelude.{All}
use Rattle.tn_codes.specs.declared.codes.Verb.{Verb, TheVariants.{Will, DoIt}}
use Rattle.tn_discipline.specs.declared.termios.Flags.{Flags}
use Rattle.tn_server.specs.{declared.{wishes.Editing.Editing, openings.Opening.{Opening, TheVariants.{Keys, Lines}}}, Replies.{asked_word_items, echo_items}}
use Rattle.tn_nvt.specs.declared.items.Item.{Item, TheVariants.{Neg, Sub}}
use Rattle.tn_option.specs.{QMethod.{cell, side_of, cause_of, wish_for, word_on, word_off, word_of_answer, result_of_answer}, declared.known.Known.Known}
use Rattle.tn_option.specs.Options.{known_option, cell_now, word_now, answer_now, answer_to, Options, new_options, options_after_word, options_after_wish}
use Rattle.tn_option.specs.{Options.{reply_to, state_of, is_yes, agrees_to}, declared.q_method.{Answer.Answer, OptionEvent.{OptionEvent, TheVariants.HeardOn}}}
use Rattle.tn_option.specs.declared.q_method.{Side.{Side, TheVariants.{Us, Them}}, QState.{QState, TheVariants.{No, Yes, WantYesEmpty}}}
use Rattle.tn_option.specs.declared.q_method.Answer.TheVariants as answer
use Rattle.tn_option.proofs.lemmas.OptionLaws.{LeavesOthers-moved, AgreesAsBefore-moved}
use Rattle.tn_linemode.specs.Words.{word_items}
use Rattle.tn_server.specs.Events as server_calls
use Rattle.tn_server.specs.Terms as server_terms
use Rattle.tn_client.specs.Events as client_calls
use Rattle.tn_client.specs.Terms as client_terms
use Rattle.tn_world.specs.relation.Pictures.{NeverEnds, IsOffOrOn}

-- OPTION MESSAGES that an end sends are about the option for which it was asked
pub one : (P : Item → Type 0) (item : Item) → P item → All P (item ∷ [])
one P item p = All-cons P item [] p (All-nil P)

answer_made : (P : Item → Type 0) (side : Side) (option : ℕ) (a : Answer) → ((verb : Verb) → P (Neg verb option)) → All P (word_items (word_of_answer side option a))
answer_made P side option answer.SayOn p = one P (Neg (word_on side) option) (p (word_on side))
answer_made P side option answer.SayOff p = one P (Neg (word_off side) option) (p (word_off side))
answer_made P side option _ p = All-nil P

word_made : (P : Item → Type 0) (o : Options) (side : Side) (option : ℕ) (cause : OptionEvent) (k : Option Known) → ((verb : Verb) → P (Neg verb option))
    → All P (word_items (word_now o side option cause k))
word_made P o side option cause (Some k) p = answer_made P side option (cell_now o side k cause).1 p
word_made P o side option HeardOn None p = one P (Neg (word_off side) option) (p (word_off side))
word_made P o side option _ None p = All-nil P

pub reply_made : (P : Item → Type 0) (o : Options) (verb : Verb) (option : ℕ) → ((v : Verb) → P (Neg v option)) → All P (word_items (reply_to o verb option))
unfolding reply_to
reply_made P o verb option p = word_made P o (side_of verb) option (cause_of verb) (known_option option) p

result_made : (P : Item → Type 0) (side : Side) (option : ℕ) (a : Answer) → ((verb : Verb) → P (Neg verb option)) → All P (asked_word_items (result_of_answer side option a))
result_made P side option answer.SayOn p = one P (Neg (word_on side) option) (p (word_on side))
result_made P side option answer.SayOff p = one P (Neg (word_off side) option) (p (word_off side))
result_made P side option _ p = All-nil P

asked_made : (P : Item → Type 0) (o : Options) (side : Side) (option : ℕ) (cause : OptionEvent) (k : Option Known) → ((verb : Verb) → P (Neg verb option))
    → All P (asked_word_items (answer_now o side option cause k))
asked_made P o side option cause (Some k) p = result_made P side option (cell_now o side k cause).1 p
asked_made P o side option cause None p = All-nil P

pub echo_made : (P : Item → Type 0) (due wanted : Bool) (o : Options) → ((verb : Verb) → P (Neg verb 1)) → All P (echo_items due wanted o)
unfolding answer_to
echo_made P true wanted o p = asked_made P o Us 1 (wish_for wanted) (known_option 1) p
echo_made P false wanted o p = All-nil P

-- THE SERVER'S, of which LINEMODE is the client's side
-- LINEMODE comes on
server_cell : (a : Bool) (q : QState) → a ≡ true → NeverEnds q → (cell a HeardOn q).0 ≡ Yes
unfolding cell
server_cell false q e n = absurd (cc)
server_cell true No e n = refl
server_cell true Yes e n = refl
server_cell true WantYesEmpty e n = refl
server_cell true _ e n = absurd n

pub server_turned : (o : Options) → agrees_to o Them 34 ≡ true → NeverEnds (state_of o Them 34) → state_of (options_after_word o Will 34) Them 34 ≡ Yes
unfolding options_after_word state_of agrees_to
server_turned o a n = server_cell o.them.linemode.agreed o.them.linemode.state a n

-- the answer to WILL LINEMODE is at most DO LINEMODE
server_answer : (P : Item → Type 0) (a : Bool) (q : QState) → a ≡ true → NeverEnds q → P (Neg DoIt 34)
    → All P (word_items (word_of_answer Them 34 (cell a HeardOn q).1))
unfolding cell
server_answer P false q e n p = absurd (cc)
server_answer P true No e n p = one P (Neg DoIt 34) p
server_answer P true Yes e n p = All-nil P
server_answer P true WantYesEmpty e n p = All-nil P
server_answer P true _ e n p = absurd n

pub server_asks : (P : Item → Type 0) (o : Options) → agrees_to o Them 34 ≡ true → NeverEnds (state_of o Them 34) → P (Neg DoIt 34)
    → All P (word_items (reply_to o Will 34))
unfolding reply_to state_of agrees_to
server_asks P o a n p = server_answer P o.them.linemode.agreed o.them.linemode.state a n p

-- the server's own message for ECHO
pub echo_keeps_state : (due wanted : Bool) (o : Options) → state_of (server_terms.options_with_echo due wanted o) Them 34 ≡ state_of o Them 34
unfolding options_after_wish state_of
echo_keeps_state true wanted o = refl
echo_keeps_state false wanted o = refl

pub echo_agrees : (due wanted : Bool) (o : Options) → agrees_to (server_terms.options_with_echo due wanted o) Them 34 ≡ agrees_to o Them 34
unfolding options_after_wish agrees_to
echo_agrees true wanted o = refl
echo_agrees false wanted o = refl

-- any option message
pub word_agrees : (o : Options) (side : Side) (verb : Verb) (option : ℕ) → agrees_to (options_after_word o verb option) side 34 ≡ agrees_to o side 34
unfolding options_after_word
word_agrees o side verb option = AgreesAsBefore-moved o (side_of verb) option (cause_of verb) side 34

-- a message about another option
other_code : (option : ℕ) → (option == 34) ≡ false → 34 ≢ option
other_code option e = λ same. let f : (34 == 34) ≡ false = subst (λ (n : ℕ). (n == 34) ≡ false) (sym same) e in cc

pub word_keeps_state : (o : Options) (side : Side) (verb : Verb) (option : ℕ) → (option == 34) ≡ false
    → state_of (options_after_word o verb option) side 34 ≡ state_of o side 34
unfolding options_after_word
word_keeps_state o side verb option e = LeavesOthers-moved o (side_of verb) option (cause_of verb) side 34 (inl (other_code option e))

-- the server agrees to the client's LINEMODE
begun_agrees : (o : Opening) → agrees_to (server_terms.opening_options o) Them 34 ≡ true
unfolding new_options options_after_wish agrees_to
begun_agrees Keys = refl
begun_agrees Lines = refl

heard_agrees : (o : Options) (item : Item) → agrees_to (server_terms.options_after o (server_calls.got item)) Them 34 ≡ agrees_to o Them 34
heard_agrees o (Neg verb option) = word_agrees o Them verb option
heard_agrees o (Sub option params) = refl
heard_agrees o item = refl

settled_agrees : (f : Flags) (t : server_terms.Terms) (o : Options) (ed : Option Editing) (set : Bool)
    → agrees_to (server_terms.terms_by f t o ed set).options Them 34 ≡ agrees_to o Them 34
settled_agrees f t o ed set =
    let wish = server_terms.wish_after f t.wish ed in
    echo_agrees (server_terms.asks_echo t.options o (server_terms.mask_told t o wish) set) (server_terms.wants_echo t.opening o (server_terms.asked_mask_of o wish) f) o

pub server_agrees : (h : server_calls.History) → agrees_to (server_terms.options h) Them 34 ≡ true
server_agrees (server_calls.begun o canon) = begun_agrees o
server_agrees (server_calls.next h (server_calls.got item)) =
    settled_agrees (server_terms.flags h) (server_terms.terms h) (server_terms.options_after (server_terms.options h) (server_calls.got item))
    (server_terms.wish_at (server_terms.options h) (server_calls.got item)) false
    ∙ heard_agrees (server_terms.options h) item ∙ server_agrees h
server_agrees (server_calls.next h (server_calls.wished editing)) =
    settled_agrees (server_terms.flags h) (server_terms.terms h) (server_terms.options h) (Some editing) false ∙ server_agrees h
server_agrees (server_calls.next h (server_calls.echo_set on)) =
    settled_agrees (server_terms.flags (server_calls.next h (server_calls.echo_set on))) (server_terms.terms h) (server_terms.options h) None true
    ∙ server_agrees h
server_agrees (server_calls.next h _) = server_agrees h

-- THE CLIENT'S, of which LINEMODE is its own side
client_cell : (a : Bool) (q : QState) → a ≡ true → IsOffOrOn q → (cell a HeardOn q).0 ≡ Yes
unfolding cell
client_cell false q e n = absurd (cc)
client_cell true No e n = refl
client_cell true Yes e n = refl
client_cell true _ e n = absurd n

pub client_turned : (o : Options) → agrees_to o Us 34 ≡ true → IsOffOrOn (state_of o Us 34) → state_of (options_after_word o DoIt 34) Us 34 ≡ Yes
unfolding options_after_word state_of agrees_to
client_turned o a n = client_cell o.us.linemode.agreed o.us.linemode.state a n

-- the answer, by whether LINEMODE was on
abbrev pub consent : Bool → Option (Verb × ℕ)
consent true = None
consent false = Some (Will, 34)

client_answer : (a : Bool) (q : QState) → a ≡ true → IsOffOrOn q → word_of_answer Us 34 (cell a HeardOn q).1 ≡ consent (is_yes q)
unfolding cell
client_answer false q e n = absurd (cc)
client_answer true No e n = refl
client_answer true Yes e n = refl
client_answer true _ e n = absurd n

pub client_consents : (o : Options) → agrees_to o Us 34 ≡ true → IsOffOrOn (state_of o Us 34) → reply_to o DoIt 34 ≡ consent (client_terms.linemode o)
unfolding reply_to state_of agrees_to
client_consents o a n = client_answer o.us.linemode.agreed o.us.linemode.state a n

client_begun : agrees_to (new_options client_terms.agreement) Us 34 ≡ true
unfolding new_options agrees_to
client_begun = refl

client_heard : (o : Options) (item : Item) → agrees_to (client_terms.options_after o item) Us 34 ≡ agrees_to o Us 34
client_heard o (Neg verb option) = word_agrees o Us verb option
client_heard o item = refl

pub client_agrees : (h : client_calls.History) → agrees_to (client_terms.options h) Us 34 ≡ true
client_agrees (client_calls.begun width height limit) = client_begun
client_agrees (client_calls.next h (client_calls.got item)) = client_heard (client_terms.options h) item ∙ client_agrees h
client_agrees (client_calls.next h _) = client_agrees h
