-- The option messages of a server end are those of its option engine, step by step.
use Rattle.std.proofs.Common.{◌≡◌, ℕ, Bool, true, false, not, ◌&&◌, Option, None, Some, Result, Ok, Err, List, [], ◌∷◌, ◌++◌, map, take, refl, sym, ap, ◌∙◌}
use Rattle.std.proofs.{Common.{if◌then◌else◌, append-nil, append_assoc}, lemmas.List.append_cancel_left}
use Rattle.std.specs.Prelude.{option_to_list}
use Rattle.tn_codes.specs.declared.{codes.{Command.TheVariants.Ga, Func.Func, Verb.Verb}, masks.Mask.Mask, payloads.Payload.Payload}
use Rattle.tn_codes.specs.declared.payloads.Payload.TheVariants as payload
use Rattle.tn_discipline.specs.{Characters.{Characters, slot}, declared.{echo.Symbol.Symbol, termios.Flags.Flags}}
use Rattle.tn_discipline.specs.declared.echo.Symbol.TheVariants as symbol
use Rattle.tn_linemode.specs.{Exchange.{announcement, server_answers, server_is_asked, is_same_value}, Triples.triple_of, OptionWords.words_in}
use Rattle.tn_linemode.specs.Words.{payload_items, list_items, mode_items}
use Rattle.tn_nvt.specs.declared.items.Item.{Item, TheVariants.{Byte, Newline, Cmd, Neg, Sub}}
use Rattle.tn_option.specs.{EnginePair.{EnginePair, talk_steps, wishes_echo, server_hears, asked_word, ask_here, LeadTo}, QMethod.cell}
use Rattle.tn_option.specs.{Options.{Options, new_options, options_after_word, options_after_wish, reply_to, answer_to}, declared.negotiation.Agree.Agree}
use Rattle.tn_option.specs.declared.q_method.{AskFault.AskFault, Side.TheVariants.{Us, Them}}
use Rattle.tn_option.proofs.lemmas.Agreement.{Moves, then-Moves}
use Rattle.tn_linemode.proofs.lemmas.OptionWords.{words_in-append, words_in-word, words_in-list, words_in-mode}
use Rattle.tn_server.specs.{Calls.{End, LeadsTo}, Events.{Event, History, next, got, took, wrote, pulled, wished, char_set, echo_set, mask_set, gets}}
use Rattle.tn_server.specs.{Steps.{end_after, says, end_after_items, says_items}, Replies.{forward_payload, data_of, opening, replies, items_said}}
use Rattle.tn_server.specs.{Course.IsCall, declared.{wishes.Editing.Editing, openings.Opening.{Opening, TheVariants.{Keys, Lines}}}}
use Rattle.tn_server.specs.Replies.{asked_word_items, reply_items, table_items, new_table_items, echo_items, items_by, items_at, list_replies, triple_items}
use Rattle.tn_server.specs.{Screen.{queue, sends_ga, none_waits, due}, Terms.{mask_told, asks_echo, asked_mask_of, wants_echo, options_with_echo, chars_after}}
use Rattle.tn_server.specs.Terms.{Terms, terms, agreement, opening_options, options, flags, chars, linemode, payload_at, options_after, wish_at, wish_after}
use Rattle.tn_server.proofs.lemmas.Leading.{stands, says_as, stands_all, says_all}

-- a server's options and those of its client, and the messages that are on their way to each
abbrev pub pair : Options → Options → List (Verb × ℕ) → List (Verb × ℕ) → EnginePair
pair here there to_here to_there = record { here = here; there = there; to_here = to_here; to_there = to_there }

-- ITEMS THAT ARE NO OPTION MESSAGE
none_in : (xs ys : List Item) → words_in xs ≡ [] → words_in ys ≡ [] → words_in (xs ++ ys) ≡ []
none_in xs ys a b = words_in-append xs ys ∙ ap (λ (t : List (Verb × ℕ)). t ++ words_in ys) a ∙ b

none_first : (xs ys : List Item) → words_in xs ≡ [] → words_in (xs ++ ys) ≡ words_in ys
none_first xs ys a = words_in-append xs ys ∙ ap (λ (t : List (Verb × ℕ)). t ++ words_in ys) a

none_last : (xs ys : List Item) → words_in ys ≡ [] → words_in (xs ++ ys) ≡ words_in xs
none_last xs ys a = words_in-append xs ys ∙ ap (λ (t : List (Verb × ℕ)). words_in xs ++ t) a ∙ append-nil (words_in xs)

table_none : (b : Bool) (c : Characters) → words_in (table_items b c) ≡ []
table_none true c = words_in-list (announcement c)
table_none false c = refl

list_none : (c : Characters) (p : Option Payload) → words_in (list_replies c p) ≡ []
list_none c (Some (payload.Slc triples)) =
    none_in (list_items (server_answers c triples)) (table_items (server_is_asked triples) (chars_after c (Some (payload.Slc triples))))
    (words_in-list (server_answers c triples)) (table_none (server_is_asked triples) (chars_after c (Some (payload.Slc triples))))
list_none c _ = refl

triple_none : (told : Bool) (func : Func) (value : Option ℕ) → words_in (triple_items told func value) ≡ []
triple_none true func value = words_in-list (triple_of func value ∷ [])
triple_none false func value = refl

data_none : (symbols : List Symbol) → words_in (map data_of symbols) ≡ []
data_none [] = refl
data_none (symbol.Byte b ∷ symbols) = data_none symbols
data_none (symbol.Newline ∷ symbols) = data_none symbols

ga_none : (b : Bool) → words_in (if b then Cmd Ga ∷ [] else []) ≡ []
ga_none true = refl
ga_none false = refl

-- THE SERVER'S MESSAGE FOR ECHO is a request
pub asked_in : (r : Result (Option (Verb × ℕ)) AskFault) → words_in (asked_word_items r) ≡ option_to_list (asked_word r)
asked_in (Ok said) = words_in-word said
asked_in (Err fault) = refl

echo_moves : (due wanted : Bool) (o there : Options) (ws vs : List (Verb × ℕ))
    → Moves (pair o there ws vs) (pair (options_with_echo due wanted o) there ws (vs ++ words_in (echo_items due wanted o)))
echo_moves true wanted o there ws vs = (
  wishes_echo wanted ∷ [],
  ap (λ (x : List (Verb × ℕ)). pair (options_after_wish o Us 1 wanted) there ws (vs ++ x)) (sym (asked_in (answer_to o Us 1 wanted))),
)
echo_moves false wanted o there ws vs = ([], ap (λ (x : List (Verb × ℕ)). pair o there ws x) (sym (append-nil vs)))

pub by_words : (f : Flags) (c : Characters) (t : Terms) (o : Options) (ed : Option Editing) (set : Bool)
    → words_in (items_by f c t o ed set)
    ≡ words_in (echo_items (asks_echo t.options o (mask_told t o (wish_after f t.wish ed)) set) (wants_echo t.opening o (asked_mask_of o (wish_after f t.wish ed)) f) o)
by_words f c t o ed set =
    none_first (new_table_items (linemode t.options) (linemode o) c) _ (table_none (linemode o && not (linemode t.options)) c)
    ∙ none_first (mode_items (mask_told t o (wish_after f t.wish ed))) _ (words_in-mode (mask_told t o (wish_after f t.wish ed)))

-- the messages that are sent once the options are new
by_moves : (f : Flags) (c : Characters) (t : Terms) (o there : Options) (ed : Option Editing) (set : Bool) (ws vs : List (Verb × ℕ))
    → Moves (pair o there ws vs)
    (pair (options_with_echo (asks_echo t.options o (mask_told t o (wish_after f t.wish ed)) set) (wants_echo t.opening o (asked_mask_of o (wish_after f t.wish ed)) f) o)
    there ws (vs ++ words_in (items_by f c t o ed set)))
by_moves f c t o there ed set ws vs =
    let wish = wish_after f t.wish ed in
    let due = asks_echo t.options o (mask_told t o wish) set in
    let wanted = wants_echo t.opening o (asked_mask_of o wish) f in
    let m = echo_moves due wanted o there ws vs in
    (m.0, m.1 ∙ ap (λ (x : List (Verb × ℕ)). pair (options_with_echo due wanted o) there ws (vs ++ x)) (sym (by_words f c t o ed set)))

-- AN ITEM: an option message is answered, and then the rest is sent
reply_moves : (o there : Options) (item : Item) (ws vs : List (Verb × ℕ))
    → Moves (pair o there (words_in (item ∷ []) ++ ws) vs) (pair (options_after o (got item)) there ws (vs ++ words_in (reply_items o (got item))))
reply_moves o there (Neg verb option) ws vs = (
  server_hears ∷ [],
  ap (λ (x : List (Verb × ℕ)). pair (options_after_word o verb option) there ws (vs ++ x)) (sym (words_in-word (reply_to o verb option))),
)
reply_moves o there (Byte b) ws vs = ([], ap (λ (x : List (Verb × ℕ)). pair o there ws x) (sym (append-nil vs)))
reply_moves o there Newline ws vs = ([], ap (λ (x : List (Verb × ℕ)). pair o there ws x) (sym (append-nil vs)))
reply_moves o there (Cmd command) ws vs = ([], ap (λ (x : List (Verb × ℕ)). pair o there ws x) (sym (append-nil vs)))
reply_moves o there (Sub option params) ws vs = ([], ap (λ (x : List (Verb × ℕ)). pair o there ws x) (sym (append-nil vs)))

pub got_words : (h : History) (item : Item) → words_in (replies h (got item)) ≡ words_in (reply_items (options h) (got item))
    ++ words_in (items_by (flags h) (chars h) (terms h) (options_after (options h) (got item)) (wish_at (options h) (got item)) false)
got_words h item =
    none_last (items_at (flags h) (chars h) (terms h) (got item)) _ (list_none (chars h) (payload_at (options h) item))
    ∙ words_in-append (reply_items (options h) (got item)) _

got_moves : (h : History) (item : Item) (there : Options) (ws vs : List (Verb × ℕ))
    → Moves (pair (options h) there (words_in (item ∷ []) ++ ws) vs) (pair (options (next h (got item))) there ws (vs ++ words_in (replies h (got item))))
got_moves h item there ws vs =
    let o = options_after (options h) (got item) in
    let back = words_in (reply_items (options h) (got item)) in
    let later = words_in (items_by (flags h) (chars h) (terms h) o (wish_at (options h) (got item)) false) in
    let m = then-Moves (pair (options h) there (words_in (item ∷ []) ++ ws) vs) (pair o there ws (vs ++ back)) _
    (reply_moves (options h) there item ws vs)
    (by_moves (flags h) (chars h) (terms h) o there (wish_at (options h) (got item)) false ws (vs ++ back)) in (
      m.0,
      m.1 ∙ ap (λ (x : List (Verb × ℕ)). pair (options (next h (got item))) there ws x)
          (append_assoc vs back later ∙ ap (λ (x : List (Verb × ℕ)). vs ++ x) (sym (got_words h item))),
    )

-- the first of some messages
cons_words : (item : Item) (items : List Item) (ws : List (Verb × ℕ)) → words_in (item ∷ items) ++ ws ≡ words_in (item ∷ []) ++ (words_in items ++ ws)
cons_words item items ws = ap (λ (x : List (Verb × ℕ)). x ++ ws) (words_in-append (item ∷ []) items) ∙ append_assoc (words_in (item ∷ [])) (words_in items) ws

-- ITEMS, one after another
pub gets_moves : (h : History) (items : List Item) (there : Options) (ws vs : List (Verb × ℕ))
    → (said : List Item) × (items_said (gets h items) ≡ items_said h ++ said)
    × Moves (pair (options h) there (words_in items ++ ws) vs) (pair (options (gets h items)) there ws (vs ++ words_in said))
gets_moves h [] there ws vs = ([], sym (append-nil (items_said h)), ([], ap (λ (x : List (Verb × ℕ)). pair (options h) there ws x) (sym (append-nil vs))))
gets_moves h (item ∷ items) there ws vs =
    let said = replies h (got item) in
    let here = got_moves h item there (words_in items ++ ws) vs in
    let later = gets_moves (next h (got item)) items there ws (vs ++ words_in said) in
    let all = then-Moves (pair (options h) there (words_in (item ∷ []) ++ (words_in items ++ ws)) vs)
    (pair (options (next h (got item))) there (words_in items ++ ws) (vs ++ words_in said))
    (pair (options (gets h (item ∷ items))) there ws ((vs ++ words_in said) ++ words_in later.0)) here later.2 in (
      said ++ later.0,
      later.1 ∙ append_assoc (items_said h) said later.0,
      (
        all.0,
        ap (λ (x : List (Verb × ℕ)). talk_steps all.0 (pair (options h) there x vs)) (cons_words item items ws)
            ∙ all.1
            ∙ ap (λ (x : List (Verb × ℕ)). pair (options (gets h (item ∷ items))) there ws x)
            (append_assoc vs (words_in said) (words_in later.0) ∙ ap (λ (x : List (Verb × ℕ)). vs ++ x) (sym (words_in-append said later.0))),
      ),
    )

-- THE OWNER'S CALLS
quiet_call : (o there : Options) (said : List Item) (ws vs : List (Verb × ℕ)) → words_in said ≡ []
    → Moves (pair o there ws vs) (pair o there ws (vs ++ words_in said))
quiet_call o there said ws vs none = (
  [],
  ap (λ (x : List (Verb × ℕ)). pair o there ws x)
      (sym (append-nil vs) ∙ ap (λ (x : List (Verb × ℕ)). vs ++ x) (sym none)),
)

mask_none : (mask : Option Mask) → words_in (payload_items (forward_payload mask)) ≡ []
mask_none (Some mask) = refl
mask_none None = refl

pub call_moves : (h : History) (e : Event) (there : Options) (ws vs : List (Verb × ℕ)) → IsCall e
    → Moves (pair (options h) there ws vs) (pair (options (next h e)) there ws (vs ++ words_in (replies h e)))
call_moves h (got item) there ws vs is = absurd is
call_moves h took there ws vs is = quiet_call (options h) there (replies h took) ws vs (ga_none (sends_ga (none_waits h) (options h) (due h)))
call_moves h (wrote bytes) there ws vs is = quiet_call (options h) there [] ws vs refl
call_moves h (pulled n) there ws vs is = quiet_call (options h) there (replies h (pulled n)) ws vs (data_none (take n (queue h)))
call_moves h (wished editing) there ws vs is = by_moves (flags h) (chars h) (terms h) (options h) there (Some editing) false ws vs
call_moves h (char_set func value) there ws vs is =
    quiet_call (options h) there (replies h (char_set func value)) ws vs
    (triple_none (linemode (options h) && not (is_same_value (slot (chars h) func) value)) func value)
call_moves h (echo_set on) there ws vs is = by_moves (flags (next h (echo_set on))) (chars h) (terms h) (options h) there None true ws vs
call_moves h (mask_set mask) there ws vs is = quiet_call (options h) there (replies h (mask_set mask)) ws vs (mask_none mask)

-- THE OPENING MESSAGES are requests: five, or two
pub opening_leads : (o : Opening) (there : Agree) → LeadTo agreement there (pair (opening_options o) (new_options there) [] (words_in (opening o)))
unfolding new_options options_after_wish answer_to cell
opening_leads Lines there = record { list = ask_here Them 34 true ∷ ask_here Them 31 true ∷ []; is = refl }
opening_leads Keys there = record {
  list = ask_here Them 34 true ∷ ask_here Them 31 true ∷ ask_here Us 3 true ∷ ask_here Them 3 true ∷ ask_here Us 1 true ∷ [];
  is = refl;
}

-- AN END, after a piece and after a call
from_to : (o p q r there : Options) (ws us vs : List (Verb × ℕ)) (xs ys : List Item) → o ≡ p → q ≡ r → xs ≡ ys
    → Moves (pair o there ws vs) (pair q there us (vs ++ words_in xs)) → Moves (pair p there ws vs) (pair r there us (vs ++ words_in ys))
from_to o p q r there ws us vs xs ys a b e m = rw (← a, ← b, ← e) m

pub feeds_moves : (h : History) (old : End) (xs : List Item) (there : Options) (ws vs : List (Verb × ℕ)) → LeadsTo h old
    → Moves (pair old.terms.options there (words_in xs ++ ws) vs) (pair (end_after_items old xs).terms.options there ws (vs ++ words_in (says_items old xs)))
feeds_moves h old xs there ws vs s =
    let all = gets_moves h xs there ws vs in
    let said = says_items old xs in
    let same : all.0 ≡ said = append_cancel_left (items_said h) all.0 said (sym all.1 ∙ says_all h old xs s) in
    let was = ap (λ (t : Terms). t.options) s.terms in
    let is = ap (λ (t : Terms). t.options) (stands_all h old xs s).terms in
    from_to (options h) old.terms.options (options (gets h xs)) (end_after_items old xs).terms.options there (words_in xs ++ ws) ws vs all.0 said (sym was) (sym is)
    same all.2

pub event_moves : (h : History) (old : End) (e : Event) (there : Options) (ws vs : List (Verb × ℕ)) → IsCall e → LeadsTo h old
    → Moves (pair old.terms.options there ws vs) (pair (end_after old e).terms.options there ws (vs ++ words_in (says old e)))
event_moves h old e there ws vs call s =
    let was = ap (λ (t : Terms). t.options) s.terms in
    let is = ap (λ (t : Terms). t.options) (stands h old e s).terms in
    from_to (options h) old.terms.options (options (next h e)) (end_after old e).terms.options there ws ws vs (replies h e) (says old e) (sym was) (sym is)
    (says_as h old e s) (call_moves h e there ws vs call)
