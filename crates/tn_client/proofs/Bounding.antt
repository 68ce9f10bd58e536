-- The most bytes that a client end sends.
use Rattle.std.proofs.Common.{◌∙◌, ◌≡◌, ◌≢◌, ℕ, ◌+◌, ◌-◌, ◌*◌, ◌≤◌, ◌==◌, Bool, true, false, not, ◌&&◌, ◌||◌, Option, Some, None, List, [], ◌∷◌, ◌++◌, length}
use Rattle.std.proofs.{Common.{take, drop, take-append-drop, refl, ap, arith, if◌then◌else◌}, lemmas.{List.map-append, Nat.and_le_r}}
use Rattle.std.specs.{Prelude.bit_or, Int.{w16, to_be_bytes, Bits.or_add_and}}
use Rattle.tn_codes.specs.declared.{codes.Command.Command, payloads.Payload.{Payload, TheVariants.{Mode, ForwardOn, ForwardOff, ForwardYes, ForwardNo, Slc}}}
use Rattle.tn_codes.specs.declared.triples.Triple.{Triple}
use Rattle.tn_discipline.specs.{Characters.Characters, HalfLine.{HalfLine, is_full, has_held, has_ahead, line_after}, Steps.front, declared.keys.Role.Role}
use Rattle.tn_discipline.specs.declared.keys.Role.TheVariants as role
use Rattle.tn_linemode.specs.{Exchange.{client_next, client_answer, client_answers, Answers}, Modes.{edits, mode_of, is_acknowledged, mode_answer}}
use Rattle.tn_linemode.specs.{Prefixes.IsRead, Words.{word_items, payload_items, mode_items, payload_under}}
use Rattle.tn_nvt.specs.{Spelling.{cr, doubled_byte, doubled_bytes, spelling, Fits, lf}, declared.items.Item.{Item, TheVariants.{Byte, Newline, Cmd, Neg, Sub}}}
use Rattle.tn_nvt.proofs.lemmas.Sizes.{doubled_within, total, total-append, weighs_at_most}
use Rattle.tn_option.specs.Options.{Options, options_after_word, reply_to}
use Rattle.tn_linemode.proofs.lemmas.Sizes.{size, size-append, size-one, size-word, size-mode, size-list, size-triple, answers-size, says_under, size-came}
use Rattle.tn_linemode.proofs.lemmas.Sizes.{size-least, size-params}
use Rattle.tn_client.specs.{Bounds.{held_sent, max_answered, max_of_calls, bytes_due}, Steps.{is_sent_now, line_sent, line_left, count_told, line_typed}}
use Rattle.tn_client.specs.{Events.{History, typed, got, resized, proposed, sent, begun, next, items, entered}, Lines.{role_at, held_bytes, count_under, line}}
use Rattle.tn_client.specs.Replies.{byte_items, command_of, command_items, raw_items, edited_key_items, sent_ahead_items, typed_items, sent_as, size_items}
use Rattle.tn_client.specs.Replies.{new_size_items, payload_answers, answer_items, end_of_edit_items, is_same_size, resize_items, command_sent, replies}
use Rattle.tn_client.specs.{Replies.items_said, Terms.{options, mode, forward, chars, size as window, linemode, tells_size, options_after, payload_at}}
use Rattle.tn_client.proofs.lemmas.{Histories.unedited-held, Lines.line_next}

-- ANSWERS
size-window : (z : ℕ × ℕ) → size (size_items z) ≤ 13
size-window (width, height) =
    let params : List ℕ = to_be_bytes w16 width ++ to_be_bytes w16 height in
    let most : size (size_items (width, height)) ≤ 2 * length params + 5 = size-params 31 params (λ e. omega (arith, e)) in
    omega (arith, most)

size-window_if : (test : Bool) (z : ℕ × ℕ) → size (if test then size_items z else []) ≤ 13
size-window_if true z = size-window z
size-window_if false z = omega arith

-- LINEMODE's answer to a mask
small_answer : (mask : ℕ) → bit_or (mode_of mask) 4 ≢ 255
small_answer mask e = omega (arith, e, or_add_and (mode_of mask) 4, and_le_r mask 3)

size-mode_if : (test : Bool) (mask : ℕ) → size (mode_items (if test then None else Some (bit_or (mode_of mask) 4))) ≤ 7
size-mode_if true mask = omega arith
size-mode_if false mask = omega (arith, size-mode (bit_or (mode_of mask) 4) (small_answer mask))

size-mode_answer : (m mask : ℕ) → size (mode_items (mode_answer m mask)) ≤ 7
size-mode_answer m mask = size-mode_if (is_acknowledged mask || mode_of mask == m) mask

size-yes : size (payload_items ForwardYes) ≡ 7
unfolding doubled_bytes
size-yes = refl

size-no : size (payload_items ForwardNo) ≡ 7
unfolding doubled_bytes
size-no = refl

-- an answer is no longer than what it answers
size-payload : (m : ℕ) (c : Characters) (on : Bool) (option : ℕ) (params : List ℕ) (p : Option Payload) → payload_under on option params ≡ p
    → ((c : Characters) (t a : Triple) → client_answer c t ≡ Some a → Answers t a)
    → size (payload_answers m c p) ≤ length (spelling (Sub option params))
unfolding client_answers
size-payload m c on option params (Some (Mode mask)) e names =
    let says = says_under on option params (Mode mask) e in
    omega (arith, size-mode_answer m mask, size-least option params, ap length says.1)
size-payload m c on option params (Some (ForwardOn mask)) e names =
    let says = says_under on option params (ForwardOn mask) e in
    omega (arith, size-yes, size-least option params, ap length says.1.1)
size-payload m c on option params (Some ForwardOff) e names =
    let says = says_under on option params ForwardOff e in
    omega (arith, size-no, size-least option params, ap length says.1)
size-payload m c on option params (Some (Slc ts)) e names =
    let says = says_under on option params (Slc ts) e in
    omega (
      arith,
      size-list (client_answers c ts),
      answers-size client_next client_answer (λ d. Unit {0}) (λ d t h. tt) (λ d t a h. names d t a) c ts tt,
      size-came option params ts says,
    )
size-payload m c on option params _ e names = omega arith

-- AN ITEM
module _ (names : (c : Characters) (t a : Triple) → client_answer c t ≡ Some a → Answers t a) where
  size-answer : (o : Options) (m : ℕ) (c : Characters) (z : ℕ × ℕ) (item : Item) → size (answer_items o m c z item) ≤ max_answered item
  size-answer o m c z (Neg verb option) =
      let back : List Item = new_size_items (tells_size o) (tells_size (options_after o (Neg verb option))) z in
      omega (
        arith,
        size-append (word_items (reply_to o verb option)) back,
        size-word (reply_to o verb option),
        size-window_if (tells_size (options_after o (Neg verb option)) && not (tells_size o)) z,
      )
  size-answer o m c z (Sub option params) =
      size-payload m c ((option == 34) && linemode o) option params (payload_at o (Sub option params)) refl names
  size-answer o m c z _ = omega arith

  pub said_at_most : (h : History) (item : Item) → size (replies h (got item)) ≤ size (held_sent h item) + max_answered item
  said_at_most h item =
      let answers : List Item = answer_items (options h) (mode h) (chars h) (window h) item in
      omega (arith, size-append (held_sent h item) answers, size-answer (options h) (mode h) (chars h) (window h) item)

-- WHAT IS HELD OF A LINE is sent once
size-held_left : (before after : Bool) (n : ℕ) (l : HalfLine) → size (end_of_edit_items before after l.held)
    + size (byte_items (line_left before after n l).held) ≤ size (byte_items l.held)
size-held_left true false n l = omega arith
size-held_left true true n l = omega arith
size-held_left false true n l = omega arith
size-held_left false false n l = omega arith

held_pays : (h : History) (item : Item) → size (held_sent h item) + size (byte_items (held_bytes (next h (got item)))) ≤ size (byte_items (held_bytes h))
held_pays h item =
    let n : ℕ = count_told (mode (next h (got item))) (count_under true h) (count_under false h) in
    omega (
      arith,
      size-held_left (edits (mode h)) (edits (mode (next h (got item)))) n (line h),
      ap (λ (l : HalfLine). size (byte_items l.held)) (line_next h (got item)),
    )

-- a byte is spelled in at most two
size-byte : (b : ℕ) → length (spelling (Byte b)) ≤ 2
size-byte b = within (b == cr)
  where
    within : (test : Bool) → length (if test then cr ∷ 0 ∷ [] else doubled_byte b) ≤ 2
    within true = omega arith
    within false = doubled_within b

size-command : (c : Option Command) → size (command_items c) ≤ 2
size-command None = omega arith
size-command (Some c) = omega (arith, size-one (Cmd c))

size-sent : (is_line : Bool) (key : ℕ) → size (sent_as is_line key ∷ []) ≤ 2
size-sent true key = omega (arith, size-one Newline)
size-sent false key = omega (arith, size-one (Byte key), size-byte key)

size-raw : (r : Role) (is_line : Bool) (key : ℕ) → size (raw_items r (sent_as is_line key)) ≤ 2
size-raw (role.Signal sig) is_line key = size-command (command_of (role.Signal sig))
size-raw _ is_line key = size-sent is_line key

size-bytes-push : (bytes : List ℕ) (byte : ℕ) → size (byte_items (bytes ++ byte ∷ [])) ≤ size (byte_items bytes) + 2
size-bytes-push bytes byte =
    omega (
      arith,
      ap size (map-append Byte bytes (byte ∷ [])),
      size-append (byte_items bytes) (Byte byte ∷ []),
      size-one (Byte byte),
      size-byte byte,
    )

size-kept : (full : Bool) (l : HalfLine) (byte : ℕ) → size (byte_items (if full then l else record l { held = l.held ++ byte ∷ [] }).held) ≤ size
    (byte_items l.held) + 2
size-kept true l byte = omega arith
size-kept false l byte = size-bytes-push l.held byte

size-if : (test : Bool) (c : Option Command) → size (if test then command_items c else []) ≤ 2
size-if true c = size-command c
size-if false c = omega arith

size-front : (bytes : List ℕ) → size (byte_items (front bytes)) ≤ size (byte_items bytes)
size-front bytes =
    let n : ℕ = length bytes - 1 in
    omega (
      arith,
      size-append (byte_items (take n bytes)) (byte_items (drop n bytes)),
      ap size (map-append Byte (take n bytes) (drop n bytes)),
      ap (λ (xs : List ℕ). size (byte_items xs)) (take-append-drop n bytes),
    )

size-erased : (some : Bool) (l : HalfLine) → size (byte_items (if some then record l { held = front l.held }
    else record l { held = []; ahead = l.ahead - 1 }).held) ≤ size (byte_items l.held)
size-erased true l = size-front l.held
size-erased false l = omega arith

-- A KEY with EDIT
edited_pays : (r : Role) (l : HalfLine) → size (edited_key_items r l) + size (byte_items (line_after l r).held) ≤ size (byte_items l.held) + 2
edited_pays role.Nl l = omega (arith, size-append (byte_items l.held) (Newline ∷ []))
edited_pays (role.Eol b) l = omega (arith, size-append (byte_items l.held) (Byte b ∷ []), size-one (Byte b), size-byte b)
edited_pays (role.Eol2 b) l = omega (arith, size-append (byte_items l.held) (Byte b ∷ []), size-one (Byte b), size-byte b)
edited_pays role.Eof l = omega (arith, size-append (byte_items l.held) (command_items (command_of role.Eof)), size-command (command_of role.Eof))
edited_pays (role.Signal sig) l = omega (arith, size-command (command_of (role.Signal sig)))
edited_pays role.Erase l = omega (arith, size-if (not (has_held l) && has_ahead l) (command_of role.Erase), size-erased (has_held l) l)
edited_pays role.Kill l = omega (arith, size-if (has_ahead l) (command_of role.Kill))
edited_pays role.Ignored l = omega arith
edited_pays (role.Ordinary byte) l = omega (arith, size-kept (is_full l) l byte)

ahead_pays : (sends : Bool) (l : HalfLine) → size (sent_ahead_items sends l) + size (byte_items (line_sent sends l).held) ≤ size (byte_items l.held)
ahead_pays true l = omega arith
ahead_pays false l = omega arith

typed_pays : (h : History) (is_line : Bool) (key : ℕ) (edit : Bool) → edits (mode h) ≡ edit
    → size (typed_items (edits (mode h)) (forward h) (role_at h key) (line h) (sent_as is_line key))
    + size (byte_items (held_bytes (next h (typed key)))) ≤ size (byte_items (held_bytes h)) + 2
typed_pays h is_line key true e =
    let r : Role = role_at h key in
    let l : HalfLine = line h in
    let item : Item = sent_as is_line key in
    let sends : Bool = is_sent_now (forward h) l r in
    let says : typed_items (edits (mode h)) (forward h) r l item ≡ edited_key_items r l ++ sent_ahead_items sends (line_after l r) =
    ap (λ (b : Bool). typed_items b (forward h) r l item) e in
    omega (
      arith,
      ap size says,
      size-append (edited_key_items r l) (sent_ahead_items sends (line_after l r)),
      edited_pays r l,
      ahead_pays sends (line_after l r),
      ap (λ (x : HalfLine). size (byte_items x.held)) (line_next h (typed key)
          ∙ ap (λ (b : Bool). line_typed b (forward h) l r) e),
    )
typed_pays h is_line key false e =
    let r : Role = role_at h key in
    let item : Item = sent_as is_line key in
    let says : typed_items (edits (mode h)) (forward h) r (line h) item ≡ raw_items r item =
    ap (λ (b : Bool). typed_items b (forward h) r (line h) item) e in
    omega (
      arith,
      ap size says,
      size-raw r is_line key,
      ap (λ (x : HalfLine). size (byte_items x.held)) (line_next h (typed key)
          ∙ ap (λ (b : Bool). line_typed b (forward h) (line h) r) e),
    )

-- WHAT AN ITEM WEIGHS: what it is answered by is paid by it, and by NAWS that was off before
abbrev credit : Bool → ℕ
credit true = 0
credit false = 4

abbrev weight : Item → ℕ
weight (Byte b) = 0
weight Newline = 0
weight (Cmd command) = 0
weight (Neg verb option) = 12
weight (Sub option params) = length (spelling (Sub option params))

size-new_window : (was on : Bool) (z : ℕ × ℕ) → size (new_size_items was on z) + credit on ≤ 9 + credit was
size-new_window true true z = omega arith
size-new_window true false z = omega arith
size-new_window false false z = omega arith
size-new_window false true z = omega (arith, size-window z)

module _ (names : (c : Characters) (t a : Triple) → client_answer c t ≡ Some a → Answers t a) where
  answer_pays : (h : History) (item : Item) → size (answer_items (options h) (mode h) (chars h) (window h) item)
      + credit (tells_size (options (next h (got item)))) ≤ weight item + credit (tells_size (options h))
  answer_pays h (Neg verb option) =
      let o : Options = options_after_word (options h) verb option in
      omega (
        arith,
        size-append (word_items (reply_to (options h) verb option)) (new_size_items (tells_size (options h)) (tells_size o) (window h)),
        size-word (reply_to (options h) verb option),
        size-new_window (tells_size (options h)) (tells_size o) (window h),
      )
  answer_pays h (Sub option params) = omega (arith, size-answer names (options h) (mode h) (chars h) (window h) (Sub option params))
  answer_pays h _ = omega arith

  item_pays : (h : History) (item : Item) → size (replies h (got item)) + size (byte_items (held_bytes (next h (got item))))
      + credit (tells_size (options (next h (got item)))) ≤ size (byte_items (held_bytes h)) + weight item + credit (tells_size (options h))
  item_pays h item =
      let answers : List Item = answer_items (options h) (mode h) (chars h) (window h) item in
      omega (arith, size-append (held_sent h item) answers, answer_pays h item, held_pays h item)

-- CALLS
resized_pays : (on : Bool) (old new : ℕ × ℕ) → size (resize_items on old new) ≤ 13
resized_pays on old new = size-window_if (on && not (is_same_size old new)) new

-- THE WHOLE HISTORY
abbrev Bounded : History → Type 0
Bounded h = bytes_due h + credit (tells_size (options h)) ≤ total weight (items h) + max_of_calls h + 4

credit_most : (on : Bool) → credit on ≤ 4
credit_most true = omega arith
credit_most false = omega arith

bounded : ((c : Characters) (t a : Triple) → client_answer c t ≡ Some a → Answers t a) → (h : History) → Bounded h
bounded names (begun width height limit) =
    omega (
      arith,
      credit_most (tells_size (options (begun width height limit))),
      ap (λ (xs : List ℕ). size (byte_items xs)) (unedited-held (begun width height limit) refl),
    )
bounded names (next h (got item)) =
    omega (arith, bounded names h, total-append weight (items h) (item ∷ []), size-append (items_said h) (replies h (got item)), item_pays names h item)
bounded names (next h (typed key)) =
    omega (arith, bounded names h, size-append (items_said h) (replies h (typed key)), typed_pays h false key (edits (mode h)) refl)
bounded names (next h entered) =
    omega (arith, bounded names h, size-append (items_said h) (replies h entered), typed_pays h true lf (edits (mode h)) refl)
bounded names (next h (resized width height)) =
    omega (
      arith,
      bounded names h,
      size-append (items_said h) (replies h (resized width height)),
      resized_pays (tells_size (options h)) (window h)
          (width, height),
    )
bounded names (next h (proposed func value)) =
    omega (arith, bounded names h, size-append (items_said h) (replies h (proposed func value)), size-triple func value)
bounded names (next h (sent command)) =
    omega (arith, bounded names h, size-append (items_said h) (replies h (sent command)), size-one (Cmd (command_sent command)))

-- WEIGHTS OF A STREAM
weight-most : (item : Item) → Fits item → weight item ≤ 4 * length (spelling item)
weight-most (Byte b) fits = omega arith
weight-most _ fits = omega arith

-- the bytes that are sent, or held, for the bytes of a stream
pub sent_at_most : ((c : Characters) (t a : Triple) → client_answer c t ≡ Some a → Answers t a) → (h : History) (bytes : List ℕ) → IsRead bytes (items h)
    → bytes_due h ≤ 4 * length bytes + max_of_calls h + 4
sent_at_most names h bytes (rest, reading) =
    omega (arith, bounded names h, weighs_at_most weight 4 (record { spelled = weight-most; alone = omega arith }) bytes rest (items h) reading)
