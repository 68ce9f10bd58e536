-- Why a client's session ended by a read or a write.
use Rattle.std.proofs.Common.{◌≡◌, ℕ, Bool, false, ◌&&◌, ◌⊎◌, inl, inr, ⊎_elim, List, [], ◌∷◌, ◌++◌, Option, None, refl, sym, ap, ◌∙◌, subst, map, length}
use Rattle.tn_cores.specs.{client.{Ending.IsEndedAt, Marks.{no_write_failed, no_show_failed, all_by}, Run.Run}, declared.client.messages.Told.Told}
use Rattle.tn_cores.specs.{declared.{client.messages.ClientMark.ClientMark, messages.Message.{Message, TheVariants.ReadFailed}}, streams.Known.KnownReader}
use Rattle.tn_cores.specs.streams.{Writing.{Tells, max_writes}, Foretelling.{Failures, WillFail}, Telling.{Calls, SomeFailed}}
use Rattle.tn_session.proofs.{Causes.{HasFailure, has_split, failure_from, failure_last, failure_never, never_and}, Ending.messages_from}
use Rattle.tn_session.proofs.lemmas.Plain.{PlainlyCloses, plainly}
use Rattle.tn_session.specs.{CoreTurns.all_told, Turns.messages_of, workers.{Mailbox.{Interleaves, from, four, sender}, Reader.ReaderSends}}
use Rattle.tn_session.specs.{workers.Reading.{IsReadCause, max_reads, Telling, told_messages, pieces_in}, declared.workers.{channels.View.View, mail.Mail.Mail}}
use Rattle.tn_session.specs.declared.workers.mail.Sender.{Sender, TheVariants.{Net, Desk, Back, Keys}}
use Rattle.tn_cores.proofs.lemmas.streams.Telling.{some_failed}
use Rattle.tn_cores.specs.declared.faults.Ended.TheVariants as ended
use Rattle.tn_cores.specs.declared.faults.SessionFault.TheVariants as fault

messages_told : (mails : List Mail) → map (λ (t : Told). t.message) (all_told mails) ≡ messages_of mails
messages_told [] = refl
messages_told (x ∷ xs) = ap (λ (ms : List Message). x.message ∷ ms) (messages_told xs)

-- the message in which the run ended, of those that were handled
failure_told : (marked before : List (Told × ClientMark)) (last : Told × ClientMark) (after : List (Told × ClientMark)) (mails : List Mail) → marked
    ≡ before ++ last ∷ after
    → map (λ m. m.0) marked ≡ all_told mails → last.0.message ≡ ReadFailed → HasFailure (messages_of mails)
failure_told marked before last after mails whole is e =
    let told = has_split (λ (m : Told × ClientMark). m.0.message) before last after e in
    let all : HasFailure (map (λ (m : Told × ClientMark). m.0.message) marked) =
    subst (λ (ms : List (Told × ClientMark)). HasFailure (map (λ (m : Told × ClientMark). m.0.message) ms)) (sym whole) told in
    let same : map (λ (m : Told × ClientMark). m.0.message) marked ≡ messages_of mails = twice marked ∙ ap (map (λ (t : Told). t.message)) is
    ∙ messages_told mails in
    subst HasFailure same all
  where
    twice : (ms : List (Told × ClientMark)) → map (λ (m : Told × ClientMark). m.0.message) ms ≡ map (λ (t : Told). t.message) (map (λ m. m.0) ms)
    twice [] = refl
    twice (m ∷ ms) = ap (λ (xs : List Message). m.0.message ∷ xs) (twice ms)

cause_of : (foretold : Option Failures) (count : ℕ) (last : Message) → last ≡ ReadFailed → IsReadCause foretold count last → WillFail max_reads count foretold
cause_of foretold count last e cause = subst (λ (m : Message). IsReadCause foretold count m) e cause

close_cause : (may_stop : Bool) (foretold : Option Failures) (told : List Telling) (left : Option (List ℕ)) (close : List Message)
    → PlainlyCloses may_stop (pieces_in told) left foretold close → HasFailure (told_messages told ++ close) →
    WillFail max_reads (length (pieces_in told)) foretold
close_cause may_stop foretold told left close closes h =
    let Fails : List Message → Type 0 = λ ms. HasFailure (told_messages told ++ ms) in
    ⊎_elim
    (λ x. cause_of foretold (length (pieces_in told)) x.0 (failure_last told x.0 (subst Fails x.2 h)) x.1.1)
    (λ x. absurd (failure_never told (subst Fails x.2 h)))
    closes

pub read_cause : (stopped : Bool) (keys_reader net_reader : KnownReader) (from_keys from_net handled : List Mail) (keys net : View)
    (marked : List (Told × ClientMark)) → keys ≡ sender Keys from_keys → net ≡ sender Net from_net → Interleaves handled (four from_net [] [] from_keys)
    → (typed : ReaderSends Keys None stopped keys_reader keys) → (read : ReaderSends Net None false net_reader net) → map (λ m. m.0) marked ≡ all_told handled
    → (c : Run)
    → IsEndedAt c marked (ended.Fault fault.Read) → WillFail max_reads (length (pieces_in typed.0)) keys_reader.failures
    ⊎ WillFail max_reads (length (pieces_in read.0)) net_reader.failures
read_cause stopped keys_reader net_reader from_keys from_net handled keys net marked keys_is net_is woven typed read messages c r =
    let who = failure_from handled (failure_told marked r.before r.last r.after handled r.whole messages r.ends) in
    by who.0 who.1
  where
    none : (s : Sender) → from s handled ≡ [] → HasFailure (messages_of (from s handled)) → ⊥
    none s is h = let Fails : List Mail → Type 0 = λ l. HasFailure (messages_of l) in subst Fails is h

    by : (s : Sender) → HasFailure (messages_of (from s handled)) → WillFail max_reads (length (pieces_in typed.0)) keys_reader.failures
        ⊎ WillFail max_reads (length (pieces_in read.0)) net_reader.failures
    by Net h = inr (close_cause false net_reader.failures read.0 read.1 read.2 (plainly false net_reader (pieces_in read.0) read.1 read.2 read.4)
        (subst HasFailure (messages_from Net net from_net handled (told_messages read.0 ++ read.2) net_is read.5 (woven Net)) h))
    by Keys h = inl (close_cause stopped keys_reader.failures typed.0 typed.1 typed.2 (plainly stopped keys_reader (pieces_in typed.0) typed.1 typed.2 typed.4)
        (subst HasFailure (messages_from Keys keys from_keys handled (told_messages typed.0 ++ typed.2) keys_is typed.5 (woven Keys)) h))
    by Desk h = absurd (none Desk (woven Desk) h)
    by Back h = absurd (none Back (woven Back) h)

-- a mark that is not so
by_false : (is : ClientMark → Bool) (marked before : List (Told × ClientMark)) (last : Told × ClientMark) (after : List (Told × ClientMark)) → marked
    ≡ before ++ last ∷ after
    → is last.1 ≡ false → all_by is marked ≡ false
by_false is marked before last after whole e = ap (all_by is) whole ∙ at before
  where
    at : (front : List (Told × ClientMark)) → all_by is (front ++ last ∷ after) ≡ false
    at [] = ap (λ (b : Bool). b && all_by is after) e
    at ((m, k) ∷ ms) = never_and (is k) (all_by is (ms ++ last ∷ after)) (at ms)

pub write_cause : (p q r t : Option Calls) (marked : List (Told × ClientMark)) → Tells (all_by no_write_failed marked) p q →
    Tells (all_by no_show_failed marked) r t
    → (c : Run) → IsEndedAt c marked (ended.Fault fault.Write) → SomeFailed max_writes p q ⊎ SomeFailed max_writes r t
write_cause p q r t marked tells shows c at =
    ⊎_elim
    (λ e. inl (some_failed max_writes (all_by no_write_failed marked) p q tells
    (by_false no_write_failed marked at.before at.last at.after at.whole (ap no_write_failed e))))
    (λ e. inr (some_failed max_writes (all_by no_show_failed marked) r t shows
    (by_false no_show_failed marked at.before at.last at.after at.whole (ap no_show_failed e))))
    at.ends
