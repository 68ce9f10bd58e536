-- The items that a client sends request no mode, and its reply to an item is answered by nothing, unless it
-- is an option message.
use Rattle.std.proofs.Common.{◌≡◌, ℕ, suc, arith, ◌<◌, ◌==◌, Bool, true, false, not, ◌&&◌, ◌||◌, Option, Some, None, List, [], ◌∷◌, refl, sym, subst}
use Rattle.std.proofs.{Common.if◌then◌else◌, lemmas.{List.Elements.{All-nil, All-cons, All-append}, Nat.and_mask}}
use Rattle.std.specs.Prelude.{All, bit_or}
use Rattle.tn_codes.specs.{Payloads.parameters_of, declared.{codes.{Command.Command, Func.Func, Verb.Verb}, masks.Mask.Mask, payloads.Payload.Payload}}
use Rattle.tn_codes.specs.declared.triples.Triple.{Triple}
use Rattle.tn_codes.specs.declared.payloads.Payload.TheVariants as payload
use Rattle.tn_codes.proofs.lemmas.Telling.{told}
use Rattle.tn_discipline.specs.{Characters.Characters, HalfLine.{HalfLine, line_length, has_held, has_ahead, line_after}, declared.keys.Role.Role}
use Rattle.tn_discipline.specs.declared.keys.Role.TheVariants as role
use Rattle.tn_linemode.specs.{Exchange.client_answers, Modes.{edits, mode_of, is_acknowledged}, Triples.triple_of, Words.{word_items, mode_items, list_items}}
use Rattle.tn_nvt.specs.{declared.items.Item.{Item, TheVariants.{Byte, Newline, Cmd, Neg, Sub}}, Spelling.lf}
use Rattle.tn_option.specs.Options.{Options, reply_to}
use Rattle.tn_client.specs.{Events.{Event, History, begun, next, typed, entered, got, resized, proposed, sent}, Lines.{role_at, sends_ahead, line}}
use Rattle.tn_client.specs.Replies.{byte_items, command_of, command_items, raw_items, sent_as, edited_key_items, sent_ahead_items, typed_items, size_items}
use Rattle.tn_client.specs.Replies.{new_size_items, payload_answers, answer_items, end_of_edit_items, is_same_size, command_sent, replies, items_said}
use Rattle.tn_client.specs.Terms.{options, mode, forward, chars, size, tells_size, payload_at, options_after, mode_at}
use Rattle.tn_world.specs.Past.{IsNoWish, WishesNothing}

pub small : (mask : ℕ) → mode_of mask < 4
small mask = omega (arith, and_mask mask 2)

pub is-ack : (n : ℕ) → n < 4 → is_acknowledged (bit_or n 4) ≡ true
is-ack (suc (suc (suc (suc n)))) h = absurd (omega arith)
is-ack _ h = refl

-- EACH FACT OF BYTES, NEW LINES AND COMMANDS holds of what a key makes the client send
module _ (P : Item → Type 0) (byte : (b : ℕ) → P (Byte b)) (newline : P Newline) (command : (c : Command) → P (Cmd c)) where
  one_all : (item : Item) → P item → All P (item ∷ [])
  one_all item p = All-cons P item [] p (All-nil P)

  bytes_all : (bytes : List ℕ) → All P (byte_items bytes)
  bytes_all [] = All-nil P
  bytes_all (b ∷ bytes) = All-cons P (Byte b) (byte_items bytes) (byte b) (bytes_all bytes)

  command_all : (c : Option Command) → All P (command_items c)
  command_all None = All-nil P
  command_all (Some c) = one_all (Cmd c) (command c)

  if_all : (b : Bool) (xs : List Item) → All P xs → All P (if b then xs else [])
  if_all true xs all = all
  if_all false xs all = All-nil P

  edited_all : (r : Role) (l : HalfLine) → All P (edited_key_items r l)
  edited_all role.Nl l = All-append P (byte_items l.held) (Newline ∷ []) (bytes_all l.held) (one_all Newline newline)
  edited_all (role.Eol b) l = All-append P (byte_items l.held) (Byte b ∷ []) (bytes_all l.held) (one_all (Byte b) (byte b))
  edited_all (role.Eol2 b) l = All-append P (byte_items l.held) (Byte b ∷ []) (bytes_all l.held) (one_all (Byte b) (byte b))
  edited_all role.Eof l = All-append P (byte_items l.held) (command_items (command_of role.Eof)) (bytes_all l.held) (command_all (command_of role.Eof))
  edited_all (role.Signal sig) l = command_all (command_of (role.Signal sig))
  edited_all role.Erase l = if_all (not (has_held l) && has_ahead l) (command_items (command_of role.Erase)) (command_all (command_of role.Erase))
  edited_all role.Kill l = if_all (has_ahead l) (command_items (command_of role.Kill)) (command_all (command_of role.Kill))
  edited_all _ l = All-nil P

  as_all : (is_line : Bool) (key : ℕ) → All P (sent_as is_line key ∷ [])
  as_all true key = one_all Newline newline
  as_all false key = one_all (Byte key) (byte key)

  raw_all : (r : Role) (is_line : Bool) (key : ℕ) → All P (raw_items r (sent_as is_line key))
  raw_all (role.Signal sig) is_line key = command_all (command_of (role.Signal sig))
  raw_all _ is_line key = as_all is_line key

  ahead_all : (sends : Bool) (l : HalfLine) → All P (sent_ahead_items sends l)
  ahead_all true l = bytes_all l.held
  ahead_all false l = All-nil P

  pub key_all : (edit : Bool) (forward : Option Mask) (r : Role) (l : HalfLine) (is_line : Bool) (key : ℕ)
      → All P (typed_items edit forward r l (sent_as is_line key))
  key_all true forward r l is_line key =
      let sends = sends_ahead forward l.limit (line_length l) r in
      All-append P (edited_key_items r l) (sent_ahead_items sends (line_after l r)) (edited_all r l) (ahead_all sends (line_after l r))
  key_all false forward r l is_line key = raw_all r is_line key

-- WHATEVER HOLDS OF EACH KIND OF ITEM
module _ (P : Item → Type 0) (byte : (b : ℕ) → P (Byte b)) (newline : P Newline) (command : (c : Command) → P (Cmd c)) (word : (v : Verb) (o : ℕ) → P (Neg v o))
    (window : (w h : ℕ) → P (Sub 31 (parameters_of (payload.Naws w h)))) (ack : (n : ℕ) → n < 4 → P (Sub 34 (parameters_of (payload.Mode (bit_or n 4)))))
    (yes : P (Sub 34 (parameters_of payload.ForwardYes))) (no : P (Sub 34 (parameters_of payload.ForwardNo)))
    (list : (c : Characters) (ts : List Triple) → P (Sub 34 (parameters_of (payload.Slc (client_answers c ts))))) where
  size_all : (z : ℕ × ℕ) → All P (size_items z)
  size_all (w, h) = one_all P byte newline command (Sub 31 (parameters_of (payload.Naws w h))) (window w h)

  word_all : (w : Option (Verb × ℕ)) → All P (word_items w)
  word_all None = All-nil P
  word_all (Some w) = one_all P byte newline command (Neg w.0 w.1) (word w.0 w.1)

  mode_if : (b : Bool) (n : ℕ) → n < 4 → All P (mode_items (if b then None else Some (bit_or n 4)))
  mode_if true n fits = All-nil P
  mode_if false n fits = one_all P byte newline command (Sub 34 (parameters_of (payload.Mode (bit_or n 4)))) (ack n fits)

  listed : (xs : List Triple) → P (Sub 34 (parameters_of (payload.Slc xs))) → All P (list_items xs)
  listed [] p = All-nil P
  listed (t ∷ ts) p = one_all P byte newline command (Sub 34 (parameters_of (payload.Slc (t ∷ ts)))) p

  payload_all : (m : ℕ) (c : Characters) (p : Option Payload) → All P (payload_answers m c p)
  payload_all m c (Some (payload.Mode mask)) = mode_if (is_acknowledged mask || mode_of mask == m) (mode_of mask) (small mask)
  payload_all m c (Some (payload.ForwardOn mask)) = one_all P byte newline command (Sub 34 (parameters_of payload.ForwardYes)) yes
  payload_all m c (Some payload.ForwardOff) = one_all P byte newline command (Sub 34 (parameters_of payload.ForwardNo)) no
  payload_all m c (Some (payload.Slc triples)) = listed (client_answers c triples) (list c triples)
  payload_all m c _ = All-nil P

  answer_all : (o : Options) (m : ℕ) (c : Characters) (z : ℕ × ℕ) (item : Item) → All P (answer_items o m c z item)
  answer_all o m c z (Neg verb option) =
      All-append P (word_items (reply_to o verb option)) (new_size_items (tells_size o) (tells_size (options_after o (Neg verb option))) z)
      (word_all (reply_to o verb option)) (if_all P byte newline command (tells_size (options_after o (Neg verb option)) && not (tells_size o)) (size_items z) (size_all z))
  answer_all o m c z (Sub option params) = payload_all m c (payload_at o (Sub option params))
  answer_all o m c z _ = All-nil P

  ending_all : (before after : Bool) (bytes : List ℕ) → All P (end_of_edit_items before after bytes)
  ending_all true false bytes = bytes_all P byte newline command bytes
  ending_all true true bytes = All-nil P
  ending_all false after bytes = All-nil P

  pub answers_all : (h : History) (item : Item) → All P (replies h (got item))
  answers_all h item =
      All-append P (end_of_edit_items (edits (mode h)) (edits (mode_at (options h) (mode h) item)) (line h).held)
      (answer_items (options h) (mode h) (chars h) (size h) item)
      (ending_all (edits (mode h)) (edits (mode_at (options h) (mode h) item)) (line h).held) (answer_all (options h) (mode h) (chars h) (size h) item)

  replies_all : (h : History) (e : Event) → ((f : Func) (v : Option ℕ) → P (Sub 34 (parameters_of (payload.Slc (triple_of f v ∷ []))))) → All P (replies h e)
  replies_all h (typed key) p = key_all P byte newline command (edits (mode h)) (forward h) (role_at h key) (line h) false key
  replies_all h entered p = key_all P byte newline command (edits (mode h)) (forward h) (role_at h lf) (line h) true lf
  replies_all h (got item) p = answers_all h item
  replies_all h (resized width height) p = if_all P byte newline command (tells_size (options h) && not (is_same_size (size h) (width, height))) (size_items (width, height))
      (size_all (width, height))
  replies_all h (proposed func value) p = one_all P byte newline command (Sub 34 (parameters_of (payload.Slc (triple_of func value ∷ [])))) (p func value)
  replies_all h (sent c) p = one_all P byte newline command (Cmd (command_sent c)) (command (command_sent c))

-- NO REQUEST
pub list_no_wish : (ts : List Triple) → WishesNothing (Sub 34 (parameters_of (payload.Slc ts)))
list_no_wish ts = subst IsNoWish (sym (told 34 (parameters_of (payload.Slc ts)) (payload.Slc ts) (refl, refl))) tt

pub ack_no_wish : (n : ℕ) → n < 4 → WishesNothing (Sub 34 (parameters_of (payload.Mode (bit_or n 4))))
ack_no_wish n fits = is-ack n fits

pub says_no_wish : (h : History) (e : Event) → All WishesNothing (replies h e)
says_no_wish h e =
    replies_all WishesNothing (λ b. tt) tt (λ c. tt) (λ v o. tt) (λ w h. tt) ack_no_wish tt tt (λ c ts. list_no_wish (client_answers c ts)) h e
    (λ f v. list_no_wish (triple_of f v ∷ []))

pub said_no_wish : (h : History) → All WishesNothing (items_said h)
said_no_wish (begun width height limit) = All-nil WishesNothing
said_no_wish (next h e) = All-append WishesNothing (items_said h) (replies h e) (said_no_wish h) (says_no_wish h e)
