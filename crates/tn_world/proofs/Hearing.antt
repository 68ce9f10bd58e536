-- How a server takes items that request no mode, once no option message is on its way to its client.
use Rattle.std.proofs.Common.{◌≡◌, ℕ, nat_le, Bool, true, false, ◌&&◌, ◌||◌, Option, Some, None, is_some, List, [], ◌∷◌, ◌++◌, length, refl, sym, ap, ◌∙◌}
use Rattle.std.proofs.{Common.{subst, if◌then◌else◌, append-nil, append_assoc}, lemmas.List.Elements.{All-head, All-tail}}
use Rattle.std.specs.Prelude.{All, option_to_list}
use Rattle.tn_codes.specs.{PayloadOf.payload_of, declared.{codes.Verb.Verb, payloads.Payload.Payload, triples.Triple.Triple}}
use Rattle.tn_codes.specs.declared.payloads.Payload.TheVariants as payload
use Rattle.tn_discipline.specs.Characters.{Characters}
use Rattle.tn_linemode.specs.{Exchange.{server_answers, server_is_asked}, Modes.edits, OptionWords.words_in, Words.{differ, word_items, mode_items, list_items}}
use Rattle.tn_nvt.specs.declared.items.Item.{Item, TheVariants.{Byte, Newline, Cmd, Neg, Sub}}
use Rattle.tn_option.specs.{EnginePair.{EnginePair, engine_step, got_here}, declared.q_method.Side.TheVariants.{Us, Them}}
use Rattle.tn_option.specs.Options.{Options, options_after_word, reply_to, options_after_wish, answer_to, state_of, is_yes}
use Rattle.tn_linemode.proofs.lemmas.OptionWords.{words_in-append, words_in-word}
use Rattle.tn_server.specs.{Events.{History, next, got, gets}, declared.wishes.Editing.Editing}
use Rattle.tn_server.specs.Replies.{reply_items, items_by, list_replies, table_items, new_table_items, echo_items, replies, items_said}
use Rattle.tn_server.specs.Terms.{Terms, terms, options, flags, chars, linemode, options_after, wish_in, wish_at, editing_of, terms_by, payload_at, chars_after}
use Rattle.tn_server.specs.Terms.{mode_sent, asked_mask_while, asked_mask_of, mask_told, wants_echo, asks_echo, options_with_echo}
use Rattle.tn_server.proofs.lemmas.{Terms.{terms_stay, says_nothing, told_again}, Words.{pair, got_words, by_words, asked_in}}
use Rattle.tn_world.specs.Past.{IsNoWish, WishesNothing}
use Rattle.tn_world.proofs.Quieting.{IsWaiting, echo_due, heard_by, waits_on, IsCalm, IsUnanswered, calm_answers, calm_on}

-- NO REQUEST
wish_none : (p : Option Payload) → IsNoWish p → wish_in p ≡ None
wish_none (Some (payload.Mode mask)) h = ap (λ (b : Bool). editing_of (if b then None else Some (edits mask))) h
wish_none _ h = refl

wish_if : (b : Bool) (p : Option Payload) → IsNoWish p → wish_in (if b then p else None) ≡ None
wish_if true p h = wish_none p h
wish_if false p h = refl

no_wish_at : (o : Options) (item : Item) → WishesNothing item → wish_at o (got item) ≡ None
no_wish_at o (Sub option params) h = wish_if (is_yes (state_of o Them option) && nat_le (length params) 512) (payload_of option params) h
no_wish_at o _ h = refl

-- NO LIST but one that is answered by nothing
abbrev pub IsNoList : Option Payload → Type 0
IsNoList (Some (payload.Slc triples)) = ((c : Characters) → server_answers c triples ≡ []) × (server_is_asked triples ≡ false)
IsNoList _ = Unit {0}

abbrev pub AsksNothing : Item → Type 0
AsksNothing (Sub option params) = IsNoList (payload_of option params)
AsksNothing _ = Unit {0}

list_none : (c : Characters) (p : Option Payload) → IsNoList p → list_replies c p ≡ []
list_none c (Some (payload.Slc triples)) h =
    ap (λ (xs : List Triple). list_items xs ++ table_items (server_is_asked triples) (chars_after c (Some (payload.Slc triples)))) (h.0 c)
    ∙ ap (λ (b : Bool). table_items b (chars_after c (Some (payload.Slc triples)))) h.1
list_none c _ h = refl

list_if : (c : Characters) (b : Bool) (p : Option Payload) → IsNoList p → list_replies c (if b then p else None) ≡ []
list_if c true p h = list_none c p h
list_if c false p h = refl

-- AN ITEM that is no option message
module _ (h : History) (item : Item) (no : wish_at (options h) (got item) ≡ None) (same : options_after (options h) (got item) ≡ options h)
    (mute : reply_items (options h) (got item) ≡ []) where
  item_keeps : options (next h (got item)) ≡ options h
  item_keeps =
      ap (λ (t : Terms). t.options)
      (ap (λ (w : Option Editing). terms_by (flags h) (terms h) (options_after (options h) (got item)) w false) no
      ∙ ap (λ (o : Options). terms_by (flags h) (terms h) o None false) same
      ∙ terms_stay (flags h) (terms h) None refl)

  said_by : items_by (flags h) (chars h) (terms h) (options_after (options h) (got item)) (wish_at (options h) (got item)) false ≡ []
  said_by =
      ap (λ (w : Option Editing). items_by (flags h) (chars h) (terms h) (options_after (options h) (got item)) w false) no
      ∙ ap (λ (o : Options). items_by (flags h) (chars h) (terms h) o None false) same
      ∙ says_nothing (flags h) (chars h) (terms h) None refl

  item_wordless : words_in (replies h (got item)) ≡ []
  item_wordless =
      got_words h item
      ∙ ap (λ (x : List Item). words_in x ++ words_in (items_by (flags h) (chars h) (terms h) (options_after (options h) (got item))
      (wish_at (options h) (got item)) false)) mute
      ∙ ap words_in said_by

  item_silent : list_replies (chars h) (payload_at (options h) item) ≡ [] → replies h (got item) ≡ []
  item_silent e =
      ap (λ (x : List Item). x ++ list_replies (chars h) (payload_at (options h) item))
      (ap (λ (x : List Item). x ++ items_by (flags h) (chars h) (terms h) (options_after (options h) (got item)) (wish_at (options h) (got item)) false) mute
      ∙ said_by)
      ∙ e

-- AN OPTION MESSAGE: LINEMODE stays, or it changes and ECHO is due
due_is : (was on : Bool) (wish : ℕ) → (differ was on || (is_some (mode_sent on (asked_mask_while was wish) wish) || false)) ≡ differ was on
due_is true true wish = rw (told_again true wish) refl
due_is false false wish = refl
due_is true false wish = refl
due_is false true wish = refl

none_due : (was on : Bool) (wish : ℕ) (c : Characters) (wanted : Bool) (o : Options) → differ was on ≡ false
    → new_table_items was on c ++ (mode_items (mode_sent on (asked_mask_while was wish) wish)
    ++ echo_items (differ was on || (is_some (mode_sent on (asked_mask_while was wish) wish) || false)) wanted o) ≡ []
none_due true true wish c wanted o e = rw (told_again true wish) refl
none_due false false wish c wanted o e = refl
none_due true false wish c wanted o e = absurd (cc)
none_due false true wish c wanted o e = absurd (cc)

module _ (h : History) (verb : Verb) (code : ℕ) where
  abbrev pub here : Options
  here = options h

  abbrev pub later : Options
  later = options_after_word here verb code

  abbrev pub wanted : Bool
  wanted = wants_echo (terms h).opening later (asked_mask_of later (terms h).wish) (flags h)

  abbrev pub due : Bool
  due = differ (linemode here) (linemode later)

  due_here : asks_echo here later (mask_told (terms h) later (terms h).wish) false ≡ due
  due_here = due_is (linemode here) (linemode later) (terms h).wish

  word_options : options (next h (got (Neg verb code))) ≡ options_with_echo due wanted later
  word_options = ap (λ (b : Bool). options_with_echo b wanted later) due_here

  word_words : words_in (replies h (got (Neg verb code))) ≡ option_to_list (reply_to here verb code) ++ words_in (echo_items due wanted later)
  word_words =
      got_words h (Neg verb code)
      ∙ ap (λ (x : List (Verb × ℕ)). x ++ words_in (items_by (flags h) (chars h) (terms h) later None false)) (words_in-word (reply_to here verb code))
      ∙ ap (λ (x : List (Verb × ℕ)). option_to_list (reply_to here verb code) ++ x)
      (by_words (flags h) (chars h) (terms h) later None false ∙ ap (λ (b : Bool). words_in (echo_items b wanted later)) due_here)

  echoed : (b : Bool) (there : Options) (ws vs : List (Verb × ℕ))
      → pair (options_with_echo b wanted later) there ws (vs ++ words_in (echo_items b wanted later)) ≡ echo_due b wanted (pair later there ws vs)
  echoed true there ws vs = ap (λ (x : List (Verb × ℕ)). pair (options_after_wish later Us 1 wanted) there ws (vs ++ x))
      (asked_in (answer_to later Us 1 wanted))
  echoed false there ws vs = ap (λ (x : List (Verb × ℕ)). pair later there ws x) (append-nil vs)

  word_heard : (there : Options) (ws vs : List (Verb × ℕ)) → pair (options (next h (got (Neg verb code)))) there ws
      (vs ++ words_in (replies h (got (Neg verb code)))) ≡ heard_by wanted (pair here there ((verb, code) ∷ ws) vs)
  word_heard there ws vs =
      let r = option_to_list (reply_to here verb code) in
      ap (λ (o : Options). pair o there ws (vs ++ words_in (replies h (got (Neg verb code))))) word_options
      ∙ ap (λ (x : List (Verb × ℕ)). pair (options_with_echo due wanted later) there ws x)
      (ap (λ (x : List (Verb × ℕ)). vs ++ x) word_words ∙ sym (append_assoc vs r (words_in (echo_items due wanted later))))
      ∙ echoed due there ws (vs ++ r)

  word_silent : reply_to here verb code ≡ None → due ≡ false → replies h (got (Neg verb code)) ≡ []
  word_silent none stays =
      append-nil (word_items (reply_to here verb code) ++ items_by (flags h) (chars h) (terms h) later None false)
      ∙ ap (λ (w : Option (Verb × ℕ)). word_items w ++ items_by (flags h) (chars h) (terms h) later None false) none
      ∙ none_due (linemode here) (linemode later) (terms h).wish (chars h) wanted later stays

  word_leaves : due ≡ false → options (next h (got (Neg verb code))) ≡ later
  word_leaves stays = word_options ∙ ap (λ (b : Bool). options_with_echo b wanted later) stays

-- WHILE A SERVER READS what is on its way to it
other_waits : (h : History) (item : Item) (there : Options) (ws vs : List (Verb × ℕ)) → options (next h (got item)) ≡ options h
    → words_in (replies h (got item)) ≡ [] → IsWaiting (pair (options h) there ws vs)
    → IsWaiting (pair (options (next h (got item))) there ws (vs ++ words_in (replies h (got item))))
other_waits h item there ws vs same none p =
    subst (λ (o : Options). IsWaiting (pair o there ws (vs ++ words_in (replies h (got item))))) (sym same)
    (subst (λ (x : List (Verb × ℕ)). IsWaiting (pair (options h) there ws x)) (sym (ap (λ (x : List (Verb × ℕ)). vs ++ x) none ∙ append-nil vs)) p)

step_waits : (h : History) (item : Item) (items : List Item) (there : Options) (vs : List (Verb × ℕ)) → WishesNothing item
    → IsWaiting (pair (options h) there (words_in (item ∷ items)) vs)
    → IsWaiting (pair (options (next h (got item))) there (words_in items) (vs ++ words_in (replies h (got item))))
step_waits h (Neg verb code) items there vs w p =
    subst IsWaiting (sym (word_heard h verb code there (words_in items) vs))
    (waits_on (wanted h verb code) (pair (options h) there ((verb, code) ∷ words_in items) vs) p)
step_waits h (Sub option params) items there vs w p =
    let no = no_wish_at (options h) (Sub option params) w in
    other_waits h (Sub option params) there (words_in items) vs (item_keeps h (Sub option params) no refl refl)
    (item_wordless h (Sub option params) no refl refl) p
step_waits h (Byte b) items there vs w p = other_waits h (Byte b) there (words_in items) vs (item_keeps h (Byte b) refl refl refl)
    (item_wordless h (Byte b) refl refl refl) p
step_waits h Newline items there vs w p = other_waits h Newline there (words_in items) vs (item_keeps h Newline refl refl refl)
    (item_wordless h Newline refl refl refl) p
step_waits h (Cmd command) items there vs w p = other_waits h (Cmd command) there (words_in items) vs (item_keeps h (Cmd command) refl refl refl)
    (item_wordless h (Cmd command) refl refl refl) p

pub record HasRead (h : History) (items : List Item) (there : Options) (vs : List (Verb × ℕ)) : Type 0 where
  pub said : List Item
  pub sends : items_said (gets h items) ≡ items_said h ++ said
  pub waits : IsWaiting (pair (options (gets h items)) there [] (vs ++ words_in said))

pub all_read : (items : List Item) (h : History) (there : Options) (vs : List (Verb × ℕ)) → All WishesNothing items
    → IsWaiting (pair (options h) there (words_in items) vs) → HasRead h items there vs
all_read [] h there vs w p = record {
  said = [];
  sends = sym (append-nil (items_said h));
  waits = subst (λ (x : List (Verb × ℕ)). IsWaiting (pair (options h) there [] x)) (sym (append-nil vs)) p;
}
all_read (item ∷ items) h there vs w p =
    let said = replies h (got item) in
    let rest = all_read items (next h (got item)) there (vs ++ words_in said) (All-tail WishesNothing item items w)
    (step_waits h item items there vs (All-head WishesNothing item items w) p) in
    record {
      said = said ++ rest.said;
      sends = rest.sends ∙ append_assoc (items_said h) said rest.said;
      waits =
          subst (λ (x : List (Verb × ℕ)). IsWaiting (pair (options (gets (next h (got item)) items)) there [] x))
          (append_assoc vs (words_in said) (words_in rest.said) ∙ ap (λ (x : List (Verb × ℕ)). vs ++ x) (sym (words_in-append said rest.said)))
          rest.waits;
    }

-- WHILE IT READS the last answers
pub record IsSilent (h : History) (item : Item) (items : List Item) (there : Options) (vs : List (Verb × ℕ)) : Type 0 where
  pub none : replies h (got item) ≡ []
  pub calm : IsCalm (pair (options (next h (got item))) there (words_in items) vs)

other_silent : (h : History) (item : Item) (items : List Item) (there : Options) (vs : List (Verb × ℕ)) → options (next h (got item)) ≡ options h
    → replies h (got item) ≡ [] → IsCalm (pair (options h) there (words_in items) vs) → IsSilent h item items there vs
other_silent h item items there vs same none p =
    record { none = none; calm = subst (λ (o : Options). IsCalm (pair o there (words_in items) vs)) (sym same) p }

step_silent : (h : History) (item : Item) (items : List Item) (there : Options) (vs : List (Verb × ℕ)) → WishesNothing item → AsksNothing item
    → IsCalm (pair (options h) there (words_in (item ∷ items)) vs) → IsSilent h item items there vs
step_silent h (Neg verb code) items there vs w a p =
    let u : IsUnanswered (options h) ((verb, code) ∷ words_in items) = subst (λ (x : EnginePair). IsUnanswered x.here x.to_here) (sym p.is) (calm_answers p.suppressed p.calm) in
    let on : IsCalm (engine_step got_here (pair (options h) there ((verb, code) ∷ words_in items) vs)) =
    subst (λ (x : EnginePair). IsCalm (engine_step got_here x)) (sym p.is) (calm_on p.suppressed p.calm) in
    record {
      none = word_silent h verb code u.0 u.1;
      calm =
          subst (λ (o : Options). IsCalm (pair o there (words_in items) vs)) (sym (word_leaves h verb code u.1))
          (subst (λ (x : List (Verb × ℕ)). IsCalm (pair (later h verb code) there (words_in items) x))
          (ap (λ (r : Option (Verb × ℕ)). vs ++ option_to_list r) u.0 ∙ append-nil vs) on);
    }
step_silent h (Sub option params) items there vs w a p =
    let item = Sub option params in
    let no = no_wish_at (options h) item w in
    other_silent h item items there vs (item_keeps h item no refl refl)
    (item_silent h item no refl refl (list_if (chars h) (is_yes (state_of (options h) Them option) && nat_le (length params) 512) (payload_of option params) a))
    p
step_silent h (Byte b) items there vs w a p = other_silent h (Byte b) items there vs (item_keeps h (Byte b) refl refl refl)
    (item_silent h (Byte b) refl refl refl refl) p
step_silent h Newline items there vs w a p = other_silent h Newline items there vs (item_keeps h Newline refl refl refl)
    (item_silent h Newline refl refl refl refl) p
step_silent h (Cmd command) items there vs w a p = other_silent h (Cmd command) items there vs (item_keeps h (Cmd command) refl refl refl)
    (item_silent h (Cmd command) refl refl refl refl) p

pub all_silent : (items : List Item) (h : History) (there : Options) (vs : List (Verb × ℕ)) → All WishesNothing items → All AsksNothing items
    → IsCalm (pair (options h) there (words_in items) vs) → items_said (gets h items) ≡ items_said h
all_silent [] h there vs w a p = refl
all_silent (item ∷ items) h there vs w a p =
    let s = step_silent h item items there vs (All-head WishesNothing item items w) (All-head AsksNothing item items a) p in
    all_silent items (next h (got item)) there vs (All-tail WishesNothing item items w) (All-tail AsksNothing item items a) s.calm
    ∙ ap (λ (x : List Item). items_said h ++ x) s.none
    ∙ append-nil (items_said h)
