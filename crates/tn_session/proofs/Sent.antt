-- Each thread sends one Left, its last message.
use Rattle.std.proofs.{Common.{◌≡◌, ℕ, Bool, List, [], ◌∷◌, ◌++◌, Option, refl, sym, ap, ◌∙◌, ⊎_elim, map, subst, append_assoc, arith}, lemmas.List.map-append}
use Rattle.tn_session.proofs.{Lefts.{EndsLeft, lefts-append}, lemmas.workers.Readers.{if_said, is_said}}
use Rattle.tn_jobs.specs.declared.held_jobs.JobId.{JobId}
use Rattle.tn_session.specs.{workers.{Mailbox.{sender, mail}, Reader.ReaderSends}, declared.workers.{channels.View.View, mail.{Mail.Mail, Sender.Sender}}}
use Rattle.tn_session.specs.{workers.Reading.{IsEnding, Telling, piece_told, size_told, control_told, told_messages}, Turns.{left_one, lefts_of}}
use Rattle.tn_cores.specs.{streams.Known.KnownReader, declared.messages.Message.Message}
use Rattle.tn_cores.specs.declared.messages.Message.TheVariants.{Piece, HangUp, ReadFailed, Take, Said, Refused, Left, Resized, Asked}

abbrev pub NoLeft : List Message → Type 0
NoLeft [] = Unit {0}
NoLeft (m ∷ ms) = (left_one m ≡ 0) × NoLeft ms

record OneLeft (mails : List Mail) : Type 0 where
  ends : EndsLeft mails
  one : lefts_of mails ≡ 1

ends_last : (xs : List Mail) (x : Mail) → left_one x.message ≡ 1 → EndsLeft (xs ++ x ∷ [])
ends_last [] x e = e
ends_last (y ∷ []) x e = e
ends_last (y ∷ z ∷ zs) x e = ends_last (z ∷ zs) x e

none_left : (s : Sender) (ms : List Message) → NoLeft ms → lefts_of (map (mail s) ms) ≡ 0
none_left s [] n = refl
none_left s (m ∷ ms) n = let ih = none_left s ms n.1 in let e = n.0 in omega (arith, ih, e)

pub no_left-append : (xs ys : List Message) → NoLeft xs → NoLeft ys → NoLeft (xs ++ ys)
no_left-append [] ys n m = m
no_left-append (x ∷ xs) ys n m = (n.0, no_left-append xs ys n.1 m)

one_left : (s : Sender) (ms all : List Message) (mails : List Mail) → NoLeft ms → all ≡ ms ++ Left ∷ [] → mails ≡ map (mail s) all → OneLeft mails
one_left s ms all mails n e is =
    let split : mails ≡ map (mail s) ms ++ mail s Left ∷ [] = is ∙ ap (map (mail s)) e ∙ map-append (mail s) ms (Left ∷ []) in
    record {
      ends = subst EndsLeft (sym split) (ends_last (map (mail s) ms) (mail s Left) refl);
      one = ap lefts_of split ∙ (let a = lefts-append (map (mail s) ms) (mail s Left ∷ []) in let z = none_left s ms n in omega (arith, a, z));
    }

told_stay : (told : List Telling) → NoLeft (told_messages told)
told_stay [] = tt
told_stay (piece_told p ∷ told) = (refl, told_stay told)
told_stay (size_told s ∷ told) = (refl, told_stay told)
told_stay (control_told c ∷ told) = (refl, told_stay told)

ending_stays : (m : Message) (left : Option (List ℕ)) → IsEnding m left → left_one m ≡ 0
ending_stays HangUp left e = refl
ending_stays ReadFailed left e = refl
ending_stays Refused left e = refl
ending_stays (Piece p) left e = refl
ending_stays Take left e = refl
ending_stays (Said id t a) left e = refl
ending_stays Left left e = absurd e
ending_stays (Resized s) left e = absurd e
ending_stays (Asked control) left e = absurd e

-- the facts of a sender's view
pub record Sent (s : Sender) (v : View) : Type 0 where
  pub mails : List Mail
  pub is : v ≡ sender s mails
  pub ends : EndsLeft mails
  pub one : lefts_of mails ≡ 1

pub sent_by : (s : Sender) (ms all : List Message) (v : View) → NoLeft ms → all ≡ ms ++ Left ∷ [] → v ≡ sender s (map (mail s) all) → Sent s v
sent_by s ms all v n e is =
    let o = one_left s ms all (map (mail s) all) n e refl in
    record { mails = map (mail s) all; is = is; ends = o.ends; one = o.one }

-- a thread that reads
pub reader_sent : (who : Sender) (job : Option JobId) (may_stop : Bool) (reader : KnownReader) (v : View) → ReaderSends who job may_stop reader v → Sent who v
reader_sent who job may_stop reader v (told, left, close, consumed, closes, is, small, sizes) =
    let read = told_messages told in
    let P : List Message → Type 0 = λ ms. v ≡ sender who (map (mail who) (read ++ ms)) in
    ⊎_elim
    (λ x.
    let last = x.2 ++ x.0 ∷ [] in
    let stay = if_said (λ (ms : List Message). NoLeft (ms ++ x.0 ∷ [])) x.2 (is_said job reader.words x.0 x.2 x.3)
    (ending_stays x.0 left x.1.0, tt) (λ id text. (refl, (ending_stays x.0 left x.1.0, tt))) in
    let whole = ap (λ (ms : List Message). read ++ ms) (sym (append_assoc x.2 (x.0 ∷ []) (Left ∷ []))) ∙ sym (append_assoc read last (Left ∷ [])) in
    sent_by who (read ++ last) (read ++ (x.2 ++ x.0 ∷ Left ∷ [])) v (no_left-append read last (told_stay told) stay) whole (subst P x.4 is))
    (λ x. sent_by who read (read ++ Left ∷ []) v (told_stay told) refl (subst P x.2 is))
    closes
