-- A thread that reads, if no job sends text for its reader.
use Rattle.std.proofs.Common.{◌≡◌, ◌≢◌, ℕ, Bool, true, List, [], ◌∷◌, ◌++◌, Option, None, ap, ◌∙◌, ◌⊎◌, ⊎_elim, inl, inr, length}
use Rattle.tn_cores.specs.{declared.messages.Message.{Message, TheVariants.Left}, streams.{Foretelling.Failures, Known.KnownReader}}
use Rattle.tn_session.specs.workers.{Reader.Closes, Reading.{IsEnding, IsReadCause}}

-- the messages after its pieces: how the reading ended, and then Left, or only Left
abbrev pub PlainlyCloses : Bool → List (List ℕ) → Option (List ℕ) → Option Failures → List Message → Type 0
PlainlyCloses may_stop pieces left foretold close =
    ((last : Message) × (IsEnding last left × IsReadCause foretold (length pieces) last) × (close ≡ last ∷ Left ∷ []))
    ⊎ ((may_stop ≡ true) × (pieces ≢ []) × (close ≡ Left ∷ []))

pub plainly : (may_stop : Bool) (reader : KnownReader) (pieces : List (List ℕ)) (left : Option (List ℕ)) (close : List Message)
    → Closes None may_stop reader pieces left close → PlainlyCloses may_stop pieces left reader.failures close
plainly may_stop reader pieces left close closes =
    ⊎_elim (λ x. inl (x.0, x.1, x.4 ∙ ap (λ (ms : List Message). ms ++ x.0 ∷ Left ∷ []) x.3)) (λ x. inr x) closes
