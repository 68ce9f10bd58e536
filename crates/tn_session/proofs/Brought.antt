-- The bytes that the messages to the core bring, of those that the readers gave.
use Rattle.std.proofs.Common.{◌≡◌, ℕ, Bool, true, false, List, [], ◌∷◌, ◌++◌, Option, Some, None, refl, sym, ap, ◌∙◌, ⊎_elim, map, subst, append-nil}
use Rattle.std.proofs.{Common.append_assoc, lemmas.{List.map-append, Grind.flat_map-append}}
use Rattle.std.specs.{Io.KnownBytes.Consumes, List.concat}
use Rattle.tn_client.specs.declared.commands.UserCommand.{UserCommand}
use Rattle.tn_cores.specs.client.Bringing.{Input, key_typed, asked_in, all_asked, input_by, input_of, inputs_in, inputs_brought, brought_from, brought}
use Rattle.tn_cores.specs.{client.Commands.command_of, Pieces.bytes_in, declared.messages.Message.Message, streams.{Foretelling.Failures, Known.KnownReader}}
use Rattle.tn_cores.specs.declared.messages.Message.TheVariants.{Piece, HangUp, ReadFailed, Take, Said, Refused, Left, Resized, Asked}
use Rattle.tn_cores.specs.declared.streams.control.Control.{Control}
use Rattle.tn_cores.specs.declared.client.messages.Origin.TheVariants as origin
use Rattle.tn_session.proofs.{Mailbox.sender_share, lemmas.Plain.{PlainlyCloses, plainly}}
use Rattle.tn_session.specs.{CoreTurns.all_told, Transcripts.bytes_sent, workers.{Mailbox.{same, from, mail, sender}, Reader.ReaderSends}}
use Rattle.tn_session.specs.declared.workers.{channels.View.View, mail.{Mail.Mail, Sender.{Sender, TheVariants.{Net, Desk, Back, Keys}}}}
use Rattle.tn_session.specs.workers.Reading.{IsEnding, Telling, piece_told, size_told, control_told, told_messages, pieces_in, controls_in}

keys_bytes : (m : Message) → brought_from origin.Keys origin.Keys m ≡ bytes_in m
keys_bytes (Piece piece) = refl
keys_bytes HangUp = refl
keys_bytes ReadFailed = refl
keys_bytes Take = refl
keys_bytes (Said job text after) = refl
keys_bytes Refused = refl
keys_bytes Left = refl
keys_bytes (Resized size) = refl
keys_bytes (Asked control) = refl

net_bytes : (m : Message) → brought_from origin.Net origin.Net m ≡ bytes_in m
net_bytes (Piece piece) = refl
net_bytes HangUp = refl
net_bytes ReadFailed = refl
net_bytes Take = refl
net_bytes (Said job text after) = refl
net_bytes Refused = refl
net_bytes Left = refl
net_bytes (Resized size) = refl
net_bytes (Asked control) = refl

-- the keys are what Keys sent
keys_more : (s : Sender) (m : Message) (xs : List Mail) → brought origin.Keys (all_told xs) ≡ bytes_sent (from Keys xs)
    → brought origin.Keys (all_told (mail s m ∷ xs)) ≡ bytes_sent (from Keys (mail s m ∷ xs))
keys_more Keys m xs ih = λ i. keys_bytes m i ++ ih i
keys_more Net m xs ih = ih
keys_more Desk m xs ih = ih
keys_more Back m xs ih = ih

keys_all : (xs : List Mail) → brought origin.Keys (all_told xs) ≡ bytes_sent (from Keys xs)
keys_all [] = refl
keys_all (x ∷ xs) = keys_more x.from x.message xs (keys_all xs)

-- if no other thread sends, the rest is what Net sent
some_mail : (x : Mail) (xs : List Mail) → x ∷ xs ≡ [] → ⊥
some_mail x xs e = cc

net_more : (s : Sender) (m : Message) (xs : List Mail) → from Desk (mail s m ∷ xs) ≡ [] → from Back (mail s m ∷ xs) ≡ []
    → brought origin.Net (all_told xs) ≡ bytes_sent (from Net xs) → brought origin.Net (all_told (mail s m ∷ xs)) ≡ bytes_sent (from Net (mail s m ∷ xs))
net_more Net m xs desk back ih = λ i. net_bytes m i ++ ih i
net_more Keys m xs desk back ih = ih
net_more Desk m xs desk back ih = absurd (some_mail (mail Desk m) (from Desk xs) desk)
net_more Back m xs desk back ih = absurd (some_mail (mail Back m) (from Back xs) back)

none_later : (who : Sender) (x : Mail) (xs : List Mail) → from who (x ∷ xs) ≡ [] → from who xs ≡ []
none_later who x xs e = at_test (same x.from who) refl
  where
    here : same x.from who ≡ true → from who (x ∷ xs) ≡ x ∷ from who xs
    here is = rw is refl

    passed : same x.from who ≡ false → from who (x ∷ xs) ≡ from who xs
    passed is = rw is refl

    at_test : (t : Bool) → same x.from who ≡ t → from who xs ≡ []
    at_test true is = absurd (some_mail x (from who xs) (sym (here is) ∙ e))
    at_test false is = sym (passed is) ∙ e

pub net_all : (xs : List Mail) → from Desk xs ≡ [] → from Back xs ≡ [] → brought origin.Net (all_told xs) ≡ bytes_sent (from Net xs)
net_all [] desk back = refl
net_all (x ∷ xs) desk back = net_more x.from x.message xs desk back (net_all xs (none_later Desk x xs desk) (none_later Back x xs back))

-- a reader's thread sends its pieces, and nothing else that brings bytes
told_bytes : (s : Sender) (told : List Telling) (close : List Message)
    → bytes_sent (map (mail s) (told_messages told ++ close)) ≡ concat (pieces_in told) ++ bytes_sent (map (mail s) close)
told_bytes s [] close = refl
told_bytes s (piece_told p ∷ told) close = ap (λ (bs : List ℕ). p ++ bs) (told_bytes s told close)
    ∙ sym (append_assoc p (concat (pieces_in told)) (bytes_sent (map (mail s) close)))
told_bytes s (size_told z ∷ told) close = told_bytes s told close
told_bytes s (control_told c ∷ told) close = told_bytes s told close

ending_bytes : (m : Message) (left : Option (List ℕ)) → IsEnding m left → bytes_in m ≡ []
ending_bytes (Piece piece) left e = absurd e
ending_bytes HangUp left e = refl
ending_bytes ReadFailed left e = refl
ending_bytes Take left e = refl
ending_bytes (Said job text after) left e = refl
ending_bytes Refused left e = refl
ending_bytes Left left e = refl
ending_bytes (Resized s) left e = refl
ending_bytes (Asked control) left e = refl

close_bytes : (s : Sender) (may_stop : Bool) (pieces : List (List ℕ)) (left : Option (List ℕ)) (foretold : Option Failures) (close : List Message)
    → PlainlyCloses may_stop pieces left foretold close → bytes_sent (map (mail s) close) ≡ []
close_bytes s may_stop pieces left foretold close closes =
    let B : List Message → List ℕ = λ ms. bytes_sent (map (mail s) ms) in
    ⊎_elim
    (λ x. ap B x.2 ∙ ap (λ (bs : List ℕ). bs ++ []) (ending_bytes x.0 left x.1.0))
    (λ x. ap B x.2)
    closes

one_list : (s : Sender) (a b : List Mail) (v : View) → v ≡ sender s a → v ≡ sender s b → a ≡ b
one_list s a b v e f = is_some a b (sym (sender_share s a v e) ∙ sender_share s b v f)
  where
    is_some : {A : Type 0} (x y : A) → Some x ≡ Some y → x ≡ y
    is_some x y eq = cc

reader_bytes : (who : Sender) (may_stop : Bool) (reader : KnownReader) (v : View) (mails : List Mail) → ReaderSends who None may_stop reader v → v
    ≡ sender who mails
    → (left : Option (List ℕ)) × Consumes reader.bytes left (bytes_sent mails)
reader_bytes who may_stop reader v mails (told, left, close, consumed, closes, is, small, sizes) e =
    let pieces = pieces_in told in
    let all : bytes_sent mails ≡ concat pieces =
    ap bytes_sent (one_list who mails (map (mail who) (told_messages told ++ close)) v e is) ∙ told_bytes who told close
    ∙ ap (λ (bs : List ℕ). concat pieces ++ bs) (close_bytes who may_stop pieces left reader.failures close (plainly may_stop reader pieces left close closes))
    ∙ append-nil (concat pieces) in
    let P : List ℕ → Type 0 = λ bs. Consumes reader.bytes left bs in
    (left, subst P (sym all) consumed)

pub keys_brought : (stopped : Bool) (reader : KnownReader) (v : View) (handled mails : List Mail) → ReaderSends Keys None stopped reader v → v
    ≡ sender Keys mails
    → from Keys handled ≡ mails → (left : Option (List ℕ)) × Consumes reader.bytes left (brought origin.Keys (all_told handled))
keys_brought stopped reader v handled mails sent e is =
    let r = reader_bytes Keys stopped reader v mails sent e in
    let P : List ℕ → Type 0 = λ bs. Consumes reader.bytes r.0 bs in
    (r.0, subst P (sym (keys_all handled ∙ ap bytes_sent is)) r.1)

pub net_brought : (reader : KnownReader) (v : View) (handled mails : List Mail) → ReaderSends Net None false reader v → v ≡ sender Net mails
    → from Net handled ≡ mails → from Desk handled ≡ [] → from Back handled ≡ [] → (left : Option (List ℕ))
    × Consumes reader.bytes left (brought origin.Net (all_told handled))
net_brought reader v handled mails sent e is desk back =
    let r = reader_bytes Net false reader v mails sent e in
    let P : List ℕ → Type 0 = λ bs. Consumes reader.bytes r.0 bs in
    (r.0, subst P (sym (net_all handled desk back ∙ ap bytes_sent is)) r.1)

-- WHAT IS ASKED FOR between keys
abbrev control_in : Message → List Control
control_in (Asked control) = control ∷ []
control_in _ = []

abbrev asked_sent : List Mail → List Control
asked_sent [] = []
asked_sent (x ∷ xs) = control_in x.message ++ asked_sent xs

no_request : (piece : List ℕ) → all_asked (map key_typed piece) ≡ []
no_request [] = refl
no_request (key ∷ keys) = no_request keys

request_asked : (m : Message) → all_asked (inputs_in m) ≡ map input_of (control_in m)
request_asked (Piece piece) = no_request piece
request_asked (Asked control) = by_command (command_of control)
  where
    by_command : (command : Option UserCommand) → all_asked (input_by command ∷ []) ≡ input_by command ∷ []
    by_command (Some command) = refl
    by_command None = refl
request_asked HangUp = refl
request_asked ReadFailed = refl
request_asked Take = refl
request_asked (Said job text after) = refl
request_asked Refused = refl
request_asked Left = refl
request_asked (Resized size) = refl

-- they are those that Keys sent
requests_more : (s : Sender) (m : Message) (xs : List Mail) → all_asked (inputs_brought (all_told xs)) ≡ map input_of (asked_sent (from Keys xs))
    → all_asked (inputs_brought (all_told (mail s m ∷ xs))) ≡ map input_of (asked_sent (from Keys (mail s m ∷ xs)))
requests_more Keys m xs ih =
    flat_map-append asked_in (inputs_in m) (inputs_brought (all_told xs))
    ∙ (λ i. request_asked m i ++ ih i)
    ∙ sym (map-append input_of (control_in m) (asked_sent (from Keys xs)))
requests_more Net m xs ih = ih
requests_more Desk m xs ih = ih
requests_more Back m xs ih = ih

requests_all : (xs : List Mail) → all_asked (inputs_brought (all_told xs)) ≡ map input_of (asked_sent (from Keys xs))
requests_all [] = refl
requests_all (x ∷ xs) = requests_more x.from x.message xs (requests_all xs)

told_asked : (s : Sender) (told : List Telling) (close : List Message)
    → asked_sent (map (mail s) (told_messages told ++ close)) ≡ controls_in told ++ asked_sent (map (mail s) close)
told_asked s [] close = refl
told_asked s (piece_told p ∷ told) close = told_asked s told close
told_asked s (size_told z ∷ told) close = told_asked s told close
told_asked s (control_told c ∷ told) close = ap (λ (cs : List Control). c ∷ cs) (told_asked s told close)

ending_asks : (m : Message) (left : Option (List ℕ)) → IsEnding m left → control_in m ≡ []
ending_asks (Piece piece) left e = absurd e
ending_asks HangUp left e = refl
ending_asks ReadFailed left e = refl
ending_asks Take left e = refl
ending_asks (Said job text after) left e = refl
ending_asks Refused left e = refl
ending_asks Left left e = refl
ending_asks (Resized s) left e = refl
ending_asks (Asked control) left e = absurd e

close_asks : (s : Sender) (may_stop : Bool) (pieces : List (List ℕ)) (left : Option (List ℕ)) (foretold : Option Failures) (close : List Message)
    → PlainlyCloses may_stop pieces left foretold close → asked_sent (map (mail s) close) ≡ []
close_asks s may_stop pieces left foretold close closes =
    let A : List Message → List Control = λ ms. asked_sent (map (mail s) ms) in
    ⊎_elim
    (λ x. ap A x.2 ∙ ap (λ (cs : List Control). cs ++ []) (ending_asks x.0 left x.1.0))
    (λ x. ap A x.2)
    closes

pub requests_brought : (stopped : Bool) (reader : KnownReader) (v : View) (handled mails : List Mail) (sent : ReaderSends Keys None stopped reader v)
    → v ≡ sender Keys mails → from Keys handled ≡ mails → all_asked (inputs_brought (all_told handled)) ≡ map input_of (controls_in sent.0)
requests_brought stopped reader v handled mails (told, left, close, consumed, closes, is, small, sizes) e of =
    let asked : asked_sent mails ≡ controls_in told =
    ap asked_sent (one_list Keys mails (map (mail Keys) (told_messages told ++ close)) v e is) ∙ told_asked Keys told close
    ∙ ap (λ (cs : List Control). controls_in told ++ cs) (close_asks Keys stopped (pieces_in told) left reader.failures close
    (plainly stopped reader (pieces_in told) left close closes))
    ∙ append-nil (controls_in told) in
    requests_all handled ∙ ap (λ (ms : List Mail). map input_of (asked_sent ms)) of ∙ ap (map input_of) asked
