-- The state of a thread that reads, between two of its reads.
use Rattle.std.proofs.Common.{◌≡◌, ℕ, ◌+◌, Bool, true, All, Option, Some, None, List, [], ◌∷◌, ◌++◌, length, refl, sym, subst, ◌∙◌, ◌⊎◌, ⊎_elim}
use Rattle.std.proofs.lemmas.List.Elements.{All-nil, All-push}
use Rattle.std.specs.{Io.KnownBytes.Consumes, List.concat}
use Rattle.tn_session.proofs.of_workers.Counting.{taken_none, taken_piece, paid_ends, paid_stops}
use Rattle.tn_session.proofs.of_workers.Reading.{consumes_piece, consumes_end, come_piece, come_interrupted, cause_on}
use Rattle.tn_session.proofs.lemmas.workers.Readers.{Says, said_piece, said_beside, beside, pieces-beside, sizes-beside, controls-beside, pieces-push}
use Rattle.tn_session.proofs.lemmas.workers.Readers.{sizes-push, controls-push, is_said, tells_none, tells_next, reader_ends, reader_stops}
use Rattle.tn_jobs.specs.declared.held_jobs.JobId.{JobId}
use Rattle.tn_session.specs.workers.{Credits.{HaveTaken, pieces_among}, Mailbox.sender, Reader.{TypingSends, SaysBeside, SaysEnd, SaysLast, sends}}
use Rattle.tn_session.specs.workers.Reading.{IsEnding, IsPiece, IsReadCause, max_reads, Telling, piece_told, told_messages, pieces_in, sizes_in, controls_in}
use Rattle.tn_session.specs.declared.workers.{channels.View.View, credit.CreditSeat.CreditSeat, mail.{Mail.Mail, Sender.Sender}}
use Rattle.tn_cores.specs.{declared.messages.Message.{Message, TheVariants.{Piece, ReadFailed, Refused, Left}}, streams.Foretelling.{Failures, HasCome}}
use Rattle.tn_cores.specs.{streams.{Beside.TellsList, Known.KnownTyping}, declared.streams.{control.Control.Control, window.WindowSize.WindowSize}}
use Rattle.tn_cores.proofs.lemmas.streams.Foretelling.{come_none, come_passed}

-- After this number of reads: what the thread sent of what its reader gave, and the credits that it took.
pub record HasTold (who : Sender) (old now : KnownTyping) (calls : ℕ) (a b : Option CreditSeat) (v : View) : Type 0 where
  pub told : List Telling
  pub consumed : Consumes old.reader.bytes now.reader.bytes (concat (pieces_in told))
  pub sent : v ≡ sends who (told_messages told)
  pub come : HasCome calls (length (pieces_in told)) old.reader.failures now.reader.failures
  pub small : All IsPiece (pieces_in told)
  pub taken : HaveTaken (length (pieces_in told)) a b
  pub sizes : TellsList old.reader.sizes (sizes_in told) now.reader.sizes
  pub controls : TellsList old.controls (controls_in told) now.controls
  pub words : now.reader.words ≡ old.reader.words

-- a size was sent, or none, and a control function, or none
pub told_beside : (who : Sender) (old now new : KnownTyping) (calls : ℕ) (a b : Option CreditSeat) (v w : View) → HasTold who old now calls a b v
    → SaysBeside who now new v w → HasTold who old new calls a b w
told_beside who old now new calls a b v w h says =
    let told = h.told ++ beside says.size says.control in
    let is : pieces_in told ≡ pieces_in h.told = pieces-beside h.told says.size says.control in
    let Bytes : Option (List ℕ) → Type 0 = λ o. Consumes old.reader.bytes o (concat (pieces_in told)) in
    let Came : Option Failures → Type 0 = λ o. HasCome calls (length (pieces_in told)) old.reader.failures o in
    record {
      told = told;
      consumed = subst Bytes (sym says.bytes) (subst (λ (ps : List (List ℕ)). Consumes old.reader.bytes now.reader.bytes (concat ps)) (sym is) h.consumed);
      sent = said_beside who h.told says.size says.control v w h.sent says.says;
      come = subst Came (sym says.failures) (subst (λ (ps : List (List ℕ)). HasCome calls (length ps) old.reader.failures now.reader.failures) (sym is) h.come);
      small = subst (λ (ps : List (List ℕ)). All IsPiece ps) (sym is) h.small;
      taken = subst (λ (ps : List (List ℕ)). HaveTaken (length ps) a b) (sym is) h.taken;
      sizes = subst (λ (ss : List WindowSize). TellsList old.reader.sizes ss new.reader.sizes) (sym (sizes-beside h.told says.size says.control))
          (tells_next old.reader.sizes now.reader.sizes new.reader.sizes (sizes_in h.told) says.size h.sizes says.sizes);
      controls = subst (λ (cs : List Control). TellsList old.controls cs new.controls) (sym (controls-beside h.told says.size says.control))
          (tells_next old.controls now.controls new.controls (controls_in h.told) says.control h.controls says.controls);
      words = says.words ∙ h.words;
    }

-- a piece was read, paid for and sent
pub told_one : (who : Sender) (old now new : KnownTyping) (calls : ℕ) (p : List ℕ) (a b d : Option CreditSeat) (v w : View) → HasTold who old now calls a b v
    → Consumes now.reader.bytes new.reader.bytes p → IsPiece p → HasCome 1 1 now.reader.failures new.reader.failures → new.reader.sizes ≡ now.reader.sizes
    → new.controls ≡ now.controls → new.reader.words ≡ now.reader.words → HaveTaken 1 b d → Says who (Piece p) v w → HasTold who old new (calls + 1) a d w
told_one who old now new calls p a b d v w h gives fits come same alike still paid says =
    let told = h.told ++ piece_told p ∷ [] in
    let is : pieces_in told ≡ pieces_in h.told ++ p ∷ [] = pieces-push h.told p in
    let Told : Option (List WindowSize) → Type 0 = λ o. TellsList old.reader.sizes (sizes_in told) o in
    let Asked : Option (List Control) → Type 0 = λ o. TellsList old.controls (controls_in told) o in
    record {
      told = told;
      consumed = subst (λ (ps : List (List ℕ)). Consumes old.reader.bytes new.reader.bytes (concat ps)) (sym is)
          (consumes_piece old.reader.bytes now.reader.bytes new.reader.bytes (pieces_in h.told) p h.consumed gives);
      sent = said_piece who h.told p v w h.sent says;
      come = subst (λ (ps : List (List ℕ)). HasCome (calls + 1) (length ps) old.reader.failures new.reader.failures) (sym is)
          (come_piece calls (pieces_in h.told) p old.reader.failures now.reader.failures new.reader.failures h.come come);
      small = subst (λ (ps : List (List ℕ)). All IsPiece ps) (sym is) (All-push IsPiece (pieces_in h.told) p h.small fits);
      taken = subst (λ (ps : List (List ℕ)). HaveTaken (length ps) a d) (sym is) (taken_piece (pieces_in h.told) p a b d h.taken paid);
      sizes = subst Told (sym same) (subst (λ (ss : List WindowSize). TellsList old.reader.sizes ss now.reader.sizes) (sym (sizes-push h.told p)) h.sizes);
      controls = subst Asked (sym alike) (subst (λ (cs : List Control). TellsList old.controls cs now.controls) (sym (controls-push h.told p)) h.controls);
      words = still ∙ h.words;
    }

-- a read was interrupted
pub told_none : (who : Sender) (old now new : KnownTyping) (calls : ℕ) (a b : Option CreditSeat) (v : View) → HasTold who old now calls a b v
    → Consumes now.reader.bytes new.reader.bytes [] → HasCome 1 0 now.reader.failures new.reader.failures → new.reader.sizes ≡ now.reader.sizes
    → new.controls ≡ now.controls → new.reader.words ≡ now.reader.words → HasTold who old new (calls + 1) a b v
told_none who old now new calls a b v h gives come same alike still = record {
  told = h.told;
  consumed = consumes_end old.reader.bytes now.reader.bytes new.reader.bytes (concat (pieces_in h.told)) h.consumed gives;
  sent = h.sent;
  come = come_interrupted calls (pieces_in h.told) old.reader.failures now.reader.failures new.reader.failures h.come come;
  small = h.small;
  taken = h.taken;
  sizes = subst (λ (o : Option (List WindowSize)). TellsList old.reader.sizes (sizes_in h.told) o) (sym same) h.sizes;
  controls = subst (λ (o : Option (List Control)). TellsList old.controls (controls_in h.told) o) (sym alike) h.controls;
  words = still ∙ h.words;
}

-- the end that is sent is the one that came, or there was no memory for the last words before it
ends_as : (last end : Message) (left : Option (List ℕ)) → (end ≡ last) ⊎ (end ≡ Refused) → IsEnding last left → IsEnding end left
ends_as last end left is ending =
    ⊎_elim (λ e. subst (λ (m : Message). IsEnding m left) (sym e) ending) (λ e. subst (λ (m : Message). IsEnding m left) (sym e) tt) is

caused_as : (last end : Message) (foretold : Option Failures) (count : ℕ) → (end ≡ last) ⊎ (end ≡ Refused) → IsReadCause foretold count last
    → IsReadCause foretold count end
caused_as last end foretold count is cause =
    ⊎_elim
    (λ e. subst (λ (m : Message). IsReadCause foretold count m) (sym e) cause)
    (λ e. subst (λ (m : Message). IsReadCause foretold count m) (sym e) tt)
    is

-- the reading ended
pub told_end : (who : Sender) (job : Option JobId) (may_stop : Bool) (old now new : KnownTyping) (calls : ℕ) (a b : Option CreditSeat) (last : Message)
    (v w : View)
    → HasTold who old now calls a b v → Consumes now.reader.bytes new.reader.bytes [] → IsEnding last new.reader.bytes → IsReadCause now.reader.failures 0 last
    → new.reader.words ≡ now.reader.words → SaysEnd who job new.reader.words last v w → TypingSends who job may_stop old w
told_end who job may_stop old now new calls a b last v w h gives ending cause still s =
    reader_ends who job may_stop old new.reader.bytes h.told s.end s.said v w
    (consumes_end old.reader.bytes now.reader.bytes new.reader.bytes (concat (pieces_in h.told)) h.consumed gives)
    (ends_as last s.end new.reader.bytes s.is ending)
    (caused_as last s.end old.reader.failures (length (pieces_in h.told)) s.is
    (cause_on calls (pieces_in h.told) last old.reader.failures now.reader.failures h.come cause))
    (subst (λ (ws : List (List ℕ)). SaysLast job ws s.end s.said) (still ∙ h.words) s.lasts)
    h.sent h.small (now.reader.sizes, h.sizes) (now.controls, h.controls) s.says

-- the reading was given up after as many reads as are made
pub told_all : (who : Sender) (job : Option JobId) (may_stop : Bool) (old now : KnownTyping) (calls : ℕ) (a b : Option CreditSeat) (v w : View)
    → calls ≡ max_reads → HasTold who old now calls a b v → SaysEnd who job now.reader.words ReadFailed v w → TypingSends who job may_stop old w
told_all who job may_stop old now calls a b v w is h s =
    let come : HasCome max_reads (length (pieces_in h.told)) old.reader.failures now.reader.failures =
    subst (λ (n : ℕ). HasCome n (length (pieces_in h.told)) old.reader.failures now.reader.failures) is h.come in
    reader_ends who job may_stop old now.reader.bytes h.told s.end s.said v w h.consumed (ends_as ReadFailed s.end now.reader.bytes s.is tt)
    (caused_as ReadFailed s.end old.reader.failures (length (pieces_in h.told)) s.is
    (come_passed max_reads (length (pieces_in h.told)) old.reader.failures now.reader.failures come))
    (subst (λ (ws : List (List ℕ)). SaysLast job ws s.end s.said) h.words s.lasts)
    h.sent h.small (now.reader.sizes, h.sizes) (now.controls, h.controls) s.says

-- the reading was stopped after a piece
pub told_stop : (who : Sender) (job : Option JobId) (may_stop : Bool) (old now new : KnownTyping) (calls : ℕ) (p : List ℕ) (a b : Option CreditSeat)
    (v w u : View)
    → HasTold who old now calls a b v → may_stop ≡ true → Consumes now.reader.bytes new.reader.bytes p → IsPiece p → Says who (Piece p) v w → Says who Left w u
    → TypingSends who job may_stop old u
told_stop who job may_stop old now new calls p a b v w u h may gives fits one two =
    reader_stops who job may_stop old new.reader.bytes h.told p v w u
    (consumes_piece old.reader.bytes now.reader.bytes new.reader.bytes (pieces_in h.told) p h.consumed gives) may
    h.sent h.small fits (now.reader.sizes, h.sizes) (now.controls, h.controls) one two

-- WHAT WAS PAID

-- the thread has taken as many credits as pieces, if the reading ended
pub paid_end : (who : Sender) (job : Option JobId) (words : List (List ℕ)) (old now : KnownTyping) (calls : ℕ) (a b : Option CreditSeat) (last : Message)
    (left : Option (List ℕ)) (v w : View)
    → HasTold who old now calls a b v → IsEnding last left → SaysEnd who job words last v w → (mails : List Mail) → w ≡ sender who mails
    → HaveTaken (pieces_among mails) a b
paid_end who job words old now calls a b last left v w h ending s =
    paid_ends who h.told s.end left s.said v w a b (ends_as last s.end left s.is ending) (is_said job words s.end s.said s.lasts) h.taken h.sent s.says

-- the thread has taken as many credits as pieces, if the reading was stopped
pub paid_stop : (who : Sender) (old now : KnownTyping) (calls : ℕ) (p : List ℕ) (a b d : Option CreditSeat) (v w u : View) → HasTold who old now calls a b v
    → HaveTaken 1 b d → Says who (Piece p) v w → Says who Left w u → (mails : List Mail) → u ≡ sender who mails → HaveTaken (pieces_among mails) a d
paid_stop who old now calls p a b d v w u h paid one two = paid_stops who h.told p v w u a b d h.taken paid h.sent one two

-- AT FIRST
consumes_nothing : (o : Option (List ℕ)) → Consumes o o []
consumes_nothing None = tt
consumes_nothing (Some bytes) = refl

-- nothing was read yet
pub told_nothing : (who : Sender) (typing : KnownTyping) (a : Option CreditSeat) (v : View) → v ≡ sender who [] → HasTold who typing typing 0 a a v
told_nothing who typing a v e = record {
  told = [];
  consumed = consumes_nothing typing.reader.bytes;
  sent = e;
  come = come_none typing.reader.failures;
  small = All-nil IsPiece;
  taken = taken_none a;
  sizes = tells_none typing.reader.sizes;
  controls = tells_none typing.controls;
  words = refl;
}
