-- Each item that a client end sends fits a stream.
use Rattle.std.proofs.{Common.{ℕ, Bool, true, false, not, ◌==◌, ◌&&◌, Option, Some, None, List, [], ◌∷◌, arith}, lemmas.List.Elements.All-cons}
use Rattle.std.specs.Prelude.{All}
use Rattle.tn_codes.specs.{Payloads.parameters_of, declared.{codes.Command.Command, masks.Mask.Mask, payloads.Payload.Payload}}
use Rattle.tn_codes.specs.declared.payloads.Payload.TheVariants as payload
use Rattle.tn_discipline.specs.{Characters.Characters, HalfLine.{HalfLine, line_length, has_held, has_ahead, line_after}, declared.keys.Role.Role}
use Rattle.tn_discipline.specs.declared.keys.Role.TheVariants as role
use Rattle.tn_linemode.specs.{Modes.{edits, mode_answer}, Exchange.{client_answers, client_next, client_answer}, Triples.triple_of, Words.word_items}
use Rattle.tn_nvt.specs.{Spelling.{Fits, lf}, declared.items.Item.{Item, TheVariants.{Byte, Newline, Cmd, Neg, Sub}}}
use Rattle.tn_option.specs.Options.{Options, reply_to}
use Rattle.tn_client.specs.{Events.{History, Event, typed, got, resized, proposed, sent, begun, next, entered}, Lines.{role_at, sends_ahead, line}}
use Rattle.tn_client.specs.Terms.{options, mode, forward, chars, size, linemode, tells_size, options_after, payload_at, mode_at}
use Rattle.tn_client.specs.Replies.{byte_items, command_of, command_items, raw_items, edited_key_items, sent_ahead_items, typed_items, sent_as, size_items}
use Rattle.tn_client.specs.Replies.{new_size_items, payload_answers, answer_items, end_of_edit_items, is_same_size, command_sent, replies, items_said}
use Rattle.tn_linemode.proofs.lemmas.{Answering.length-answers_along, Fitting.{Fit, none, one, both, unless, word-fits, mode-fits, list-fits}}
use Rattle.tn_linemode.proofs.lemmas.Listing.{IsShortOrNone, short_under}

bytes-fit : (bs : List ℕ) → Fit (byte_items bs)
bytes-fit [] = none
bytes-fit (b ∷ bs) = All-cons Fits (Byte b) (byte_items bs) tt (bytes-fit bs)

command-fits : (c : Option Command) → Fit (command_items c)
command-fits None = none
command-fits (Some c) = one (Cmd c) tt

as-fits : (is_line : Bool) (key : ℕ) → Fit (sent_as is_line key ∷ [])
as-fits true key = one Newline tt
as-fits false key = one (Byte key) tt

raw-fits : (r : Role) (is_line : Bool) (key : ℕ) → Fit (raw_items r (sent_as is_line key))
raw-fits (role.Signal sig) is_line key = command-fits (command_of (role.Signal sig))
raw-fits _ is_line key = as-fits is_line key

edited-fits : (r : Role) (l : HalfLine) → Fit (edited_key_items r l)
edited-fits role.Nl l = both (byte_items l.held) (Newline ∷ []) (bytes-fit l.held) (one Newline tt)
edited-fits (role.Eol b) l = both (byte_items l.held) (Byte b ∷ []) (bytes-fit l.held) (one (Byte b) tt)
edited-fits (role.Eol2 b) l = both (byte_items l.held) (Byte b ∷ []) (bytes-fit l.held) (one (Byte b) tt)
edited-fits role.Eof l = both (byte_items l.held) (command_items (command_of role.Eof)) (bytes-fit l.held) (command-fits (command_of role.Eof))
edited-fits (role.Signal sig) l = command-fits (command_of (role.Signal sig))
edited-fits role.Erase l = unless (not (has_held l) && has_ahead l) (command_items (command_of role.Erase)) (command-fits (command_of role.Erase))
edited-fits role.Kill l = unless (has_ahead l) (command_items (command_of role.Kill)) (command-fits (command_of role.Kill))
edited-fits _ l = none

ahead-fits : (sends : Bool) (l : HalfLine) → Fit (sent_ahead_items sends l)
ahead-fits true l = bytes-fit l.held
ahead-fits false l = none

key-fits : (edit : Bool) (forward : Option Mask) (r : Role) (l : HalfLine) (is_line : Bool) (key : ℕ)
    → Fit (typed_items edit forward r l (sent_as is_line key))
key-fits true forward r l is_line key =
    let sends = sends_ahead forward l.limit (line_length l) r in
    both (edited_key_items r l) (sent_ahead_items sends (line_after l r)) (edited-fits r l) (ahead-fits sends (line_after l r))
key-fits false forward r l is_line key = raw-fits r is_line key

size-fits : (z : ℕ × ℕ) → Fit (size_items z)
size-fits (width, height) = one (Sub 31 (parameters_of (payload.Naws width height))) (omega arith)

payload-fits : (m : ℕ) (c : Characters) (p : Option Payload) → IsShortOrNone p → Fit (payload_answers m c p)
unfolding client_answers
payload-fits m c (Some (payload.Mode mask)) h = mode-fits (mode_answer m mask)
payload-fits m c (Some (payload.ForwardOn mask)) h = one (Sub 34 (parameters_of payload.ForwardYes)) (omega arith)
payload-fits m c (Some payload.ForwardOff) h = one (Sub 34 (parameters_of payload.ForwardNo)) (omega arith)
payload-fits m c (Some (payload.Slc triples)) h = list-fits (client_answers c triples)
    (omega (arith, length-answers_along client_next client_answer c triples, h))
payload-fits m c _ h = none

answer-fits : (o : Options) (m : ℕ) (c : Characters) (z : ℕ × ℕ) (item : Item) → Fit (answer_items o m c z item)
answer-fits o m c z (Neg verb option) =
    both (word_items (reply_to o verb option)) (new_size_items (tells_size o) (tells_size (options_after o (Neg verb option))) z)
    (word-fits (reply_to o verb option)) (unless (tells_size (options_after o (Neg verb option)) && not (tells_size o)) (size_items z) (size-fits z))
answer-fits o m c z (Sub option params) = payload-fits m c (payload_at o (Sub option params)) (short_under ((option == 34) && linemode o) option params)
answer-fits o m c z _ = none

ending-fits : (before after : Bool) (bs : List ℕ) → Fit (end_of_edit_items before after bs)
ending-fits true false bs = bytes-fit bs
ending-fits true true bs = none
ending-fits false after bs = none

-- The items that are sent at an event fit.
pub replies-fit : (h : History) (e : Event) → All Fits (replies h e)
replies-fit h (typed key) = key-fits (edits (mode h)) (forward h) (role_at h key) (line h) false key
replies-fit h entered = key-fits (edits (mode h)) (forward h) (role_at h lf) (line h) true lf
replies-fit h (got item) =
    both (end_of_edit_items (edits (mode h)) (edits (mode_at (options h) (mode h) item)) (line h).held)
    (answer_items (options h) (mode h) (chars h) (size h) item)
    (ending-fits (edits (mode h)) (edits (mode_at (options h) (mode h) item)) (line h).held) (answer-fits (options h) (mode h) (chars h) (size h) item)
replies-fit h (resized width height) = unless (tells_size (options h) && not (is_same_size (size h) (width, height))) (size_items (width, height))
    (size-fits (width, height))
replies-fit h (proposed func value) = list-fits (triple_of func value ∷ []) (omega arith)
replies-fit h (sent command) = one (Cmd (command_sent command)) tt

-- All items that were sent fit.
pub sent-fits : (h : History) → All Fits (items_said h)
sent-fits (begun width height limit) = none
sent-fits (next h e) = both (items_said h) (replies h e) (sent-fits h) (replies-fit h e)
