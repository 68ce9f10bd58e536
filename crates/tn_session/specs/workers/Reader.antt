-- The messages of a thread that reads, of whichever source.
use Rattle.std.specs.Prelude.{◌≡◌, ◌≢◌, ℕ, Bool, IsTrue, List, Option, None, Some, [], ◌∷◌, ◌++◌, ◌⊎◌, length}
use Rattle.std.specs.{Prelude.{map, option_to_list, All}, Io.KnownBytes.Consumes, List.concat}
use Rattle.tn_jobs.specs.declared.{held_jobs.JobId.JobId, verdicts.After.TheVariants.Stay}
use Rattle.tn_session.specs.{workers.Mailbox.{mail, sender}, declared.workers.channels.View.View}
use Rattle.tn_session.specs.workers.Reading.{IsEnding, IsPiece, IsReadCause, Telling, size_told, control_told}
use Rattle.tn_session.specs.workers.Reading.{told_messages, pieces_in, sizes_in, controls_in}
use Rattle.tn_session.specs.declared.workers.mail.{Sender.Sender, Mail.Mail}
use Rattle.tn_cores.specs.streams.{Beside.{IsOneOf, TellsNext, TellsFirst}, Known.{KnownReader, KnownTyping}}
use Rattle.tn_cores.specs.declared.streams.{control.Control.Control, window.WindowSize.WindowSize}
use Rattle.tn_cores.specs.declared.messages.Message.{Message, TheVariants.{HangUp, Said, Refused, Left}}

-- a text that is sent as this job's, or none
abbrev pub said_by : JobId → List ℕ → List Message
said_by job [] = []
said_by job (byte ∷ bytes) = Said job (byte ∷ bytes) Stay ∷ []

-- The text that comes right before such an end: if nothing more comes from the reader, its last words, which
-- are one of these, as the text of this job; for any other end, or if no job sends them, none.
abbrev pub SaysLast : Option JobId → List (List ℕ) → Message → List Message → Type 0
SaysLast None all last said = said ≡ []
SaysLast (Some job) all HangUp said = (words : List ℕ) × IsOneOf all words × (said ≡ said_by job words)
SaysLast (Some job) all _ said = said ≡ []

-- After the pieces comes how the reading ended, for its cause, with the reader's last words before it, and
-- then Left. A thread that may be stopped may leave right after a piece.
abbrev pub Closes : Option JobId → Bool → KnownReader → List (List ℕ) → Option (List ℕ) → List Message
    → Type 0
Closes job may_stop reader pieces left close =
    ((last : Message) × (IsEnding last left × IsReadCause reader.failures (length pieces) last)
    × (said : List Message) × SaysLast job reader.words last said × (close ≡ said ++ last ∷ Left ∷ []))
    ⊎ (IsTrue may_stop × (pieces ≢ []) × (close ≡ Left ∷ []))

-- the view of a sender that has sent these messages
abbrev pub sends : Sender → List Message → View
sends who messages = sender who (map (mail who) messages)

-- these messages were sent
abbrev pub SaysAll : Sender → List Message → View → View → Type 0
SaysAll who messages v w = (l : List Mail) → v ≡ sender who l → w ≡ sender who (l ++ map (mail who) messages)

-- A thread sent how its reading ended, and before that its reader's last words; there may be no memory for
-- those.
pub record SaysEnd (who : Sender) (job : Option JobId) (words : List (List ℕ)) (last : Message)
    (v w : View) : Type 0 where
  pub end : Message
  pub said : List Message
  pub is : (end ≡ last) ⊎ (end ≡ Refused)
  pub lasts : SaysLast job words end said
  pub says : SaysAll who (said ++ end ∷ Left ∷ []) v w

-- these reports were sent
abbrev pub SaysThese : Sender → List Telling → View → View → Type 0
SaysThese who told v w =
    (l : List Mail) → v ≡ sender who l → w ≡ sender who (l ++ map (mail who) (told_messages told))

-- a size that was reported, if there is one
abbrev pub one_size : Option WindowSize → List Telling
one_size size = map size_told (option_to_list size)

-- a control function that was reported, if there is one
abbrev pub one_control : Option Control → List Telling
one_control control = map control_told (option_to_list control)

-- one size more was sent, or none
abbrev pub SaysSize : Sender → Option (List WindowSize) → Option (List WindowSize) → View → View → Type 0
SaysSize who old new v w =
    (told : Option WindowSize) × TellsNext old told new × SaysThese who (one_size told) v w

-- one control function more was sent, or none
abbrev pub SaysControl : Sender → Option (List Control) → Option (List Control) → View → View → Type 0
SaysControl who old new v w =
    (told : Option Control) × TellsNext old told new × SaysThese who (one_control told) v w

-- the messages between two reads: a size, if there is one, and then a control function
pub record SaysBeside (who : Sender) (old new : KnownTyping) (v w : View) : Type 0 where
  pub size : Option WindowSize
  pub control : Option Control
  pub sizes : TellsNext old.reader.sizes size new.reader.sizes
  pub controls : TellsNext old.controls control new.controls
  pub says : SaysThese who (one_size size ++ one_control control) v w
  pub bytes : new.reader.bytes ≡ old.reader.bytes
  pub failures : new.reader.failures ≡ old.reader.failures
  pub words : new.reader.words ≡ old.reader.words

-- the pieces joined are the first of the bytes that the reader gives, and each has some of them; between them
-- stand the sizes that it reports, and the control functions
abbrev pub ReaderSends : Sender → Option JobId → Bool → KnownReader → View → Type 0
ReaderSends who job may_stop reader v =
    (told : List Telling) × (left : Option (List ℕ)) × (close : List Message)
    × Consumes reader.bytes left (concat (pieces_in told))
    × Closes job may_stop reader (pieces_in told) left close
    × (v ≡ sends who (told_messages told ++ close)) × All IsPiece (pieces_in told)
    × TellsFirst reader.sizes (sizes_in told)

-- `ReaderSends`, if the control functions are the first of those that the reader reports
abbrev pub TypingSends : Sender → Option JobId → Bool → KnownTyping → View → Type 0
TypingSends who job may_stop typing v =
    (sent : ReaderSends who job may_stop typing.reader v) × TellsFirst typing.controls (controls_in sent.0)
