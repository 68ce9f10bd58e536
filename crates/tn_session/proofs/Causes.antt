-- Why a session ended by a read or a write.
use Rattle.std.proofs.Common.{◌≡◌, ℕ, Bool, true, false, ◌&&◌, ◌⊎◌, inl, inr, ⊎_elim, List, [], ◌∷◌, ◌++◌, refl, sym, ap, ◌∙◌, subst, map}
use Rattle.tn_session.proofs.Lefts.{same_self}
use Rattle.tn_session.specs.{workers.{Mailbox.{same, from}, Reading.{Telling, piece_told, size_told, control_told, told_messages}}, Turns.messages_of}
use Rattle.tn_session.specs.declared.workers.mail.{Mail.Mail, Sender.Sender}
use Rattle.tn_cores.specs.{server.Marks.{no_write_failed, no_writes_failed}, declared.{server.messages.ServerMark.ServerMark, messages.Message.Message}}
use Rattle.tn_cores.specs.declared.{messages.Message.TheVariants.{Piece, ReadFailed, Left, Resized, Asked}, streams.control.Control.Control}
use Rattle.tn_cores.specs.declared.streams.window.WindowSize.{WindowSize}
use Rattle.tn_cores.specs.declared.server.messages.ServerMark.TheVariants as mark

pub from_hit : (s : Sender) (x : Mail) (xs : List Mail) → same x.from s ≡ true → from s (x ∷ xs) ≡ x ∷ from s xs
from_hit s x xs is = rw is refl

pub from_miss : (s : Sender) (x : Mail) (xs : List Mail) → same x.from s ≡ false → from s (x ∷ xs) ≡ from s xs
from_miss s x xs is = rw is refl

-- one of these messages reports that reading failed
abbrev pub HasFailure : List Message → Type 0
HasFailure [] = ⊥
HasFailure (m ∷ ms) = (m ≡ ReadFailed) ⊎ HasFailure ms

pub has_split : {A : Type 0} (message : A → Message) (before : List A) (last : A) (after : List A) → message last ≡ ReadFailed
    → HasFailure (map message (before ++ last ∷ after))
has_split {A} message [] last after e = inl e
has_split {A} message (m ∷ before) last after e = inr (has_split message before last after e)

pub has_failure : {K : Type 0} (marked : List (Message × K)) (before : List (Message × K)) (last : Message × K) (after : List (Message × K))
    → marked ≡ before ++ last ∷ after → last.0 ≡ ReadFailed → HasFailure (map (λ m. m.0) marked)
has_failure {K} marked before last after whole e = subst (λ (ms : List (Message × K)). HasFailure (map (λ m. m.0) ms)) (sym whole)
    (has_split (λ (m : Message × K). m.0) before last after e)

-- a report that reading failed is in the list of its sender
pub failure_from : (mails : List Mail) → HasFailure (messages_of mails) → (s : Sender) × HasFailure (messages_of (from s mails))
failure_from [] h = absurd h
failure_from (x ∷ xs) h =
    let Fails : List Mail → Type 0 = λ l. HasFailure (messages_of l) in
    ⊎_elim (λ e. (x.from, subst Fails (sym (from_hit x.from x xs (same_self x.from))) (inl e)))
    (λ more. let later = failure_from xs more in (later.0, by later.0 later.1 (same x.from later.0) refl)) h
  where
    by : (s : Sender) → HasFailure (messages_of (from s xs)) → (b : Bool) → same x.from s ≡ b → HasFailure (messages_of (from s (x ∷ xs)))
    by s f true is = subst (λ (l : List Mail). HasFailure (messages_of l)) (sym (from_hit s x xs is)) (inr f)
    by s f false is = subst (λ (l : List Mail). HasFailure (messages_of l)) (sym (from_miss s x xs is)) f

no_piece : (p : List ℕ) → Piece p ≡ ReadFailed → ⊥
no_piece p e = cc

no_size : (s : WindowSize) → Resized s ≡ ReadFailed → ⊥
no_size s e = cc

no_control : (c : Control) → Asked c ≡ ReadFailed → ⊥
no_control c e = cc

no_left : Left ≡ ReadFailed → ⊥
no_left e = cc

-- a thread that reads reports a failure after its pieces
pub failure_last : (told : List Telling) (last : Message) → HasFailure (told_messages told ++ last ∷ Left ∷ []) → last ≡ ReadFailed
failure_last [] last h = ⊎_elim (λ e. e) (λ f. ⊎_elim (λ e. absurd (no_left e)) (λ none. absurd none) f) h
failure_last (piece_told p ∷ told) last h = ⊎_elim (λ e. absurd (no_piece p e)) (λ f. failure_last told last f) h
failure_last (size_told s ∷ told) last h = ⊎_elim (λ e. absurd (no_size s e)) (λ f. failure_last told last f) h
failure_last (control_told c ∷ told) last h = ⊎_elim (λ e. absurd (no_control c e)) (λ f. failure_last told last f) h

pub failure_never : (told : List Telling) → HasFailure (told_messages told ++ Left ∷ []) → ⊥
failure_never [] h = ⊎_elim (λ e. no_left e) (λ none. none) h
failure_never (piece_told p ∷ told) h = ⊎_elim (λ e. no_piece p e) (λ f. failure_never told f) h
failure_never (size_told s ∷ told) h = ⊎_elim (λ e. no_size s e) (λ f. failure_never told f) h
failure_never (control_told c ∷ told) h = ⊎_elim (λ e. no_control c e) (λ f. failure_never told f) h

pub never_and : (a b : Bool) → b ≡ false → (a && b) ≡ false
never_and true b e = e
never_and false b e = refl

-- one of these messages was not written
pub write_failed : (marked before : List (Message × ServerMark)) (last : Message × ServerMark) (after : List (Message × ServerMark)) → marked
    ≡ before ++ last ∷ after
    → last.1 ≡ mark.WriteFailed → no_writes_failed marked ≡ false
write_failed marked before last after whole e = ap no_writes_failed whole ∙ at before
  where
    at : (front : List (Message × ServerMark)) → no_writes_failed (front ++ last ∷ after) ≡ false
    at [] = ap (λ (k : ServerMark). no_write_failed k && no_writes_failed after) e
    at (m ∷ ms) = never_and (no_write_failed m.1) (no_writes_failed (ms ++ last ∷ after)) (at ms)
