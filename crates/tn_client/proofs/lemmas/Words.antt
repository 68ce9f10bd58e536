-- The option messages of a client end are those of its option engine, which sends none of its own accord.
use Rattle.std.proofs.Common.{◌≡◌, ℕ, Bool, true, false, not, ◌&&◌, Option, None, Some, List, [], ◌∷◌, ◌++◌, refl, sym, ap, ◌∙◌, if◌then◌else◌, append-nil}
use Rattle.std.proofs.{Common.{subst, append_assoc}, lemmas.List.append_cancel_left}
use Rattle.tn_codes.specs.declared.{codes.{Command.Command, Verb.Verb}, masks.Mask.Mask, payloads.Payload.Payload}
use Rattle.tn_codes.specs.declared.payloads.Payload.TheVariants as payload
use Rattle.tn_discipline.specs.{Characters.Characters, HalfLine.{HalfLine, line_length, has_held, has_ahead, line_after}, declared.keys.Role.Role}
use Rattle.tn_discipline.specs.declared.keys.Role.TheVariants as role
use Rattle.tn_linemode.specs.{Exchange.client_answers, Modes.{edits, mode_answer}, Triples.triple_of, OptionWords.words_in, Words.word_items}
use Rattle.tn_nvt.specs.{declared.items.Item.{Item, TheVariants.{Byte, Newline, Cmd, Neg, Sub}}, Spelling.lf}
use Rattle.tn_option.specs.{EnginePair.{EnginePair, talk_steps, client_hears}, Options.{Options, options_after_word, reply_to}}
use Rattle.tn_option.proofs.lemmas.Agreement.{Moves, then-Moves}
use Rattle.tn_linemode.proofs.lemmas.OptionWords.{words_in-append, words_in-word, words_in-list, words_in-mode}
use Rattle.tn_client.specs.{Answering.Feeds, Calls.{End, LeadsTo}, Course.IsCall, Lines.{role_at, sends_ahead, line}, Steps.{end_after, says, says_items}}
use Rattle.tn_client.specs.Events.{Event, History, next, typed, got, resized, proposed, sent, gets, entered}
use Rattle.tn_client.specs.Replies.{byte_items, command_of, command_items, raw_items, edited_key_items, sent_ahead_items, typed_items, sent_as, size_items}
use Rattle.tn_client.specs.Replies.{new_size_items, payload_answers, answer_items, end_of_edit_items, is_same_size, replies, items_said}
use Rattle.tn_client.specs.Terms.{options, mode, forward, chars, size, tells_size, payload_at, options_after, mode_at}
use Rattle.tn_client.proofs.lemmas.Standings.{says_as, says_all, stands_fed}

-- the options of a server and of its client, and the messages that are on their way to each
abbrev pub pair : Options → Options → List (Verb × ℕ) → List (Verb × ℕ) → EnginePair
pair here there to_here to_there = record { here = here; there = there; to_here = to_here; to_there = to_there }

-- ITEMS THAT ARE NO OPTION MESSAGE
none_first : (xs ys : List Item) → words_in xs ≡ [] → words_in (xs ++ ys) ≡ words_in ys
none_first xs ys a = words_in-append xs ys ∙ ap (λ (t : List (Verb × ℕ)). t ++ words_in ys) a

none_last : (xs ys : List Item) → words_in ys ≡ [] → words_in (xs ++ ys) ≡ words_in xs
none_last xs ys a = words_in-append xs ys ∙ ap (λ (t : List (Verb × ℕ)). words_in xs ++ t) a ∙ append-nil (words_in xs)

bytes_none : (bytes : List ℕ) → words_in (byte_items bytes) ≡ []
bytes_none [] = refl
bytes_none (b ∷ bytes) = bytes_none bytes

command_none : (c : Option Command) → words_in (command_items c) ≡ []
command_none None = refl
command_none (Some c) = refl

if_none : (b : Bool) (xs : List Item) → words_in xs ≡ [] → words_in (if b then xs else []) ≡ []
if_none true xs none = none
if_none false xs none = refl

size_none : (z : ℕ × ℕ) → words_in (size_items z) ≡ []
size_none (width, height) = refl

edited_none : (r : Role) (l : HalfLine) → words_in (edited_key_items r l) ≡ []
edited_none role.Nl l = none_first (byte_items l.held) (Newline ∷ []) (bytes_none l.held)
edited_none (role.Eol b) l = none_first (byte_items l.held) (Byte b ∷ []) (bytes_none l.held)
edited_none (role.Eol2 b) l = none_first (byte_items l.held) (Byte b ∷ []) (bytes_none l.held)
edited_none role.Eof l = none_first (byte_items l.held) (command_items (command_of role.Eof)) (bytes_none l.held) ∙ command_none (command_of role.Eof)
edited_none (role.Signal sig) l = command_none (command_of (role.Signal sig))
edited_none role.Erase l = if_none (not (has_held l) && has_ahead l) (command_items (command_of role.Erase)) (command_none (command_of role.Erase))
edited_none role.Kill l = if_none (has_ahead l) (command_items (command_of role.Kill)) (command_none (command_of role.Kill))
edited_none _ l = refl

as_none : (is_line : Bool) (key : ℕ) → words_in (sent_as is_line key ∷ []) ≡ []
as_none true key = refl
as_none false key = refl

raw_none : (r : Role) (is_line : Bool) (key : ℕ) → words_in (raw_items r (sent_as is_line key)) ≡ []
raw_none (role.Signal sig) is_line key = command_none (command_of (role.Signal sig))
raw_none _ is_line key = as_none is_line key

ahead_none : (sends : Bool) (l : HalfLine) → words_in (sent_ahead_items sends l) ≡ []
ahead_none true l = bytes_none l.held
ahead_none false l = refl

key_none : (edit : Bool) (forward : Option Mask) (r : Role) (l : HalfLine) (is_line : Bool) (key : ℕ)
    → words_in (typed_items edit forward r l (sent_as is_line key)) ≡ []
key_none true forward r l is_line key =
    let sends = sends_ahead forward l.limit (line_length l) r in
    none_first (edited_key_items r l) (sent_ahead_items sends (line_after l r)) (edited_none r l) ∙ ahead_none sends (line_after l r)
key_none false forward r l is_line key = raw_none r is_line key

payload_none : (m : ℕ) (c : Characters) (p : Option Payload) → words_in (payload_answers m c p) ≡ []
payload_none m c (Some (payload.Mode mask)) = words_in-mode (mode_answer m mask)
payload_none m c (Some (payload.Slc triples)) = words_in-list (client_answers c triples)
payload_none m c _ = refl

ending_none : (before after : Bool) (bytes : List ℕ) → words_in (end_of_edit_items before after bytes) ≡ []
ending_none true false bytes = bytes_none bytes
ending_none true true bytes = refl
ending_none false after bytes = refl

-- AN ITEM: an option message is answered
answer_moves : (here o : Options) (m : ℕ) (c : Characters) (z : ℕ × ℕ) (item : Item) (ws vs : List (Verb × ℕ))
    → Moves (pair here o ws (words_in (item ∷ []) ++ vs)) (pair here (options_after o item) (ws ++ words_in (answer_items o m c z item)) vs)
answer_moves here o m c z (Neg verb option) ws vs = (
  client_hears ∷ [],
  ap (λ (x : List (Verb × ℕ)). pair here (options_after_word o verb option) (ws ++ x) vs)
      (sym (none_last (word_items (reply_to o verb option)) (new_size_items (tells_size o) (tells_size (options_after o (Neg verb option))) z)
      (if_none (tells_size (options_after o (Neg verb option)) && not (tells_size o)) (size_items z) (size_none z))
      ∙ words_in-word (reply_to o verb option))),
)
answer_moves here o m c z (Sub option params) ws vs = (
  [],
  ap (λ (x : List (Verb × ℕ)). pair here o x vs) (sym (append-nil ws)
      ∙ ap (λ (x : List (Verb × ℕ)). ws ++ x) (sym (payload_none m c (payload_at o (Sub option params))))),
)
answer_moves here o m c z (Byte b) ws vs = ([], ap (λ (x : List (Verb × ℕ)). pair here o x vs) (sym (append-nil ws)))
answer_moves here o m c z Newline ws vs = ([], ap (λ (x : List (Verb × ℕ)). pair here o x vs) (sym (append-nil ws)))
answer_moves here o m c z (Cmd command) ws vs = ([], ap (λ (x : List (Verb × ℕ)). pair here o x vs) (sym (append-nil ws)))

got_moves : (h : History) (item : Item) (here : Options) (ws vs : List (Verb × ℕ))
    → Moves (pair here (options h) ws (words_in (item ∷ []) ++ vs)) (pair here (options (next h (got item))) (ws ++ words_in (replies h (got item))) vs)
got_moves h item here ws vs =
    let m = answer_moves here (options h) (mode h) (chars h) (size h) item ws vs in (
      m.0,
      m.1
          ∙ ap (λ (x : List (Verb × ℕ)). pair here (options (next h (got item))) (ws ++ x) vs)
          (sym (none_first (end_of_edit_items (edits (mode h)) (edits (mode_at (options h) (mode h) item)) (line h).held)
          (answer_items (options h) (mode h) (chars h) (size h) item)
          (ending_none (edits (mode h)) (edits (mode_at (options h) (mode h) item)) (line h).held))),
    )

cons_words : (item : Item) (items : List Item) (ws : List (Verb × ℕ)) → words_in (item ∷ items) ++ ws ≡ words_in (item ∷ []) ++ (words_in items ++ ws)
cons_words item items ws = ap (λ (x : List (Verb × ℕ)). x ++ ws) (words_in-append (item ∷ []) items) ∙ append_assoc (words_in (item ∷ [])) (words_in items) ws

-- ITEMS, one after another
pub gets_moves : (h : History) (items : List Item) (here : Options) (ws vs : List (Verb × ℕ))
    → (said : List Item) × (items_said (gets h items) ≡ items_said h ++ said)
    × Moves (pair here (options h) ws (words_in items ++ vs)) (pair here (options (gets h items)) (ws ++ words_in said) vs)
gets_moves h [] here ws vs = ([], sym (append-nil (items_said h)), ([], ap (λ (x : List (Verb × ℕ)). pair here (options h) x vs) (sym (append-nil ws))))
gets_moves h (item ∷ items) here ws vs =
    let said = replies h (got item) in
    let first = got_moves h item here ws (words_in items ++ vs) in
    let later = gets_moves (next h (got item)) items here (ws ++ words_in said) vs in
    let all = then-Moves (pair here (options h) ws (words_in (item ∷ []) ++ (words_in items ++ vs)))
    (pair here (options (next h (got item))) (ws ++ words_in said) (words_in items ++ vs))
    (pair here (options (gets h (item ∷ items))) ((ws ++ words_in said) ++ words_in later.0) vs) first later.2 in (
      said ++ later.0,
      later.1 ∙ append_assoc (items_said h) said later.0,
      (
        all.0,
        ap (λ (x : List (Verb × ℕ)). talk_steps all.0 (pair here (options h) ws x)) (cons_words item items vs)
            ∙ all.1
            ∙ ap (λ (x : List (Verb × ℕ)). pair here (options (gets h (item ∷ items))) x vs)
            (append_assoc ws (words_in said) (words_in later.0) ∙ ap (λ (x : List (Verb × ℕ)). ws ++ x) (sym (words_in-append said later.0))),
      ),
    )

-- CALLS of the owner send no option message, and leave the options
call_none : (h : History) (e : Event) → IsCall e → words_in (replies h e) ≡ []
call_none h (typed key) is = key_none (edits (mode h)) (forward h) (role_at h key) (line h) false key
call_none h entered is = key_none (edits (mode h)) (forward h) (role_at h lf) (line h) true lf
call_none h (got item) is = absurd is
call_none h (resized width height) is = if_none (tells_size (options h) && not (is_same_size (size h) (width, height))) (size_items (width, height)) refl
call_none h (proposed func value) is = words_in-list (triple_of func value ∷ [])
call_none h (sent command) is = refl

-- AN END, after a piece and after a call
pub feeds_moves : (h : History) (old new : End) (piece before after seen now : List ℕ) (here : Options) (ws vs : List (Verb × ℕ)) → LeadsTo h old
    → (f : Feeds old piece before after seen now new) → Moves (pair here old.options ws (words_in f.items ++ vs))
    (pair here new.options (ws ++ words_in (says_items old f.items)) vs)
feeds_moves h old new piece before after seen now here ws vs s f =
    let all = gets_moves h f.items here ws vs in
    let same : all.0 ≡ says_items old f.items = append_cancel_left (items_said h) all.0 (says_items old f.items) (sym all.1 ∙ says_all h old f.items s) in
    let led = stands_fed h old new piece before after seen now f s in
    let there = pair here old.options ws (words_in f.items ++ vs) in
    subst (λ (o : Options). Moves there (pair here o (ws ++ words_in (says_items old f.items)) vs)) (sym led.options)
    (subst (λ (o : Options). Moves (pair here o ws (words_in f.items ++ vs)) (pair here (options (gets h f.items)) (ws ++ words_in (says_items old f.items)) vs))
    (sym s.options) (subst (λ (xs : List Item). Moves (pair here (options h) ws (words_in f.items ++ vs))
    (pair here (options (gets h f.items)) (ws ++ words_in xs) vs)) same all.2))

pub says_none : (h : History) (old : End) (e : Event) → IsCall e → LeadsTo h old → words_in (says old e) ≡ []
says_none h old e call s = ap words_in (sym (says_as h old e s)) ∙ call_none h e call

pub keeps_options : (old : End) (e : Event) → IsCall e → (end_after old e).options ≡ old.options
keeps_options old (got item) is = absurd is
keeps_options old _ is = refl
