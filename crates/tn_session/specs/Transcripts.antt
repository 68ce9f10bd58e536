-- The observations of a session on its connection: step by step, which bytes it read and which it wrote. Read
-- `Exchange`, `all_read`, `all_wrote` and `came_by`; what follows ties them to a run.
use Rattle.std.specs.Prelude.{◌≡◌, ◌⊎◌, ℕ, Bool, IsTrue, IsFalse, Option, Some, None, List, [], ◌∷◌, ◌++◌}
use Rattle.std.specs.{Prelude.map, Io.KnownBytes.Consumes, List.FoldsTo}
use Rattle.tn_cores.specs.Pieces.{bytes_in}
use Rattle.tn_session.specs.{Notes.Note, declared.workers.mail.Mail.Mail}
use Rattle.tn_nvt.specs.Prefixes.{IsPrefixOf}

-- A STEP of a session, in the order in which its core took them: the bytes from the network that came in it,
-- and those that it wrote to the network in it
pub record Exchange : Type 0 where
  pub read : List ℕ
  pub wrote : List ℕ

-- all that was read, and all that was written
abbrev pub all_read : List Exchange → List ℕ
all_read [] = []
all_read (x ∷ xs) = x.read ++ all_read xs

-- all bytes that these steps wrote, in order
abbrev pub all_wrote : List Exchange → List ℕ
all_wrote [] = []
all_wrote (x ∷ xs) = x.wrote ++ all_wrote xs

-- the bytes of the pieces among these messages, and of those that a pass knows
abbrev pub bytes_sent : List Mail → List ℕ
bytes_sent [] = []
bytes_sent (x ∷ xs) = bytes_in x.message ++ bytes_sent xs

-- the bytes that these messages brought, if they are known
abbrev pub came_by : Option (List Mail) → List ℕ
came_by None = []
came_by (Some mails) = bytes_sent mails

-- these bytes were read: they are the first of those that the reader gives
abbrev pub ReadsPrefix : Option (List ℕ) → List ℕ → Type 0
ReadsPrefix given bytes = (left : Option (List ℕ)) × Consumes given left bytes

-- a run, and the bytes written so far
pub record Point (R : Type 0) : Type 0 where
  pub run : R
  pub wrote : List ℕ

-- One step of a run, in which a message brings these bytes, and these are sent: the bytes written so far are
-- all that was sent so far, or all that was ever written.
pub record IsExchange {R M : Type 0} (turns : R → M → R → Type 0) (brings : M → List ℕ) (says : R → List ℕ)
    (written : List ℕ) (old : Point R) (step : M × Exchange) (new : Point R) : Type 0 where
  pub turn : turns old.run step.0 new.run
  pub read : step.1.read ≡ brings step.0
  pub wrote : new.wrote ≡ old.wrote ++ step.1.wrote
  pub said : IsPrefixOf new.wrote (says new.run)
  pub whole : (new.wrote ≡ says new.run) ⊎ (new.wrote ≡ written)

-- One step of a run, and the bytes written in it: the first of what it sends more, all of that if the message
-- was done and written wholly, and none once nothing has any effect.
pub record IsStep {R M : Type 0} (turns : R → M → R → Type 0) (says : R → List ℕ) (is_over : R → Bool)
    (is_whole : M → Bool) (old : R) (step : M × List ℕ) (new : R) : Type 0 where
  pub turn : turns old step.0 new
  pub rest : List ℕ
  pub said : says new ≡ says old ++ (step.1 ++ rest)
  pub all : IsTrue (is_whole step.0) → rest ≡ []
  pub over : IsFalse (is_whole step.0) → IsTrue (is_over new)
  pub stays : IsTrue (is_over old) → IsTrue (is_over new)
  pub idle : IsTrue (is_over old) → step.1 ≡ []

-- all that was written in these steps
abbrev pub total : {M : Type 0} → List (M × List ℕ) → List ℕ
total [] = []
total (s ∷ ss) = s.1 ++ total ss

-- the bytes that a message brings, if one was taken
abbrev pub came_in : (Mail → List ℕ) → Option Mail → List ℕ
came_in brings None = []
came_in brings (Some mail) = brings mail

-- the steps as the core noted them
abbrev pub exchange_of : (Mail → List ℕ) → Note → Exchange
exchange_of brings note = record { read = came_in brings note.took; wrote = note.wrote }

-- a step for each message of a run, in which all was written that was
pub record Transcribes {R M : Type 0} (turns : R → M → R → Type 0) (brings : M → List ℕ)
    (says : R → List ℕ) (first : R) (messages : List M) (last : R) (written : List ℕ)
    (transcript : List Exchange) : Type 0 where
  pub steps : List (M × Exchange)
  pub of_messages : map (λ s. s.0) steps ≡ messages
  pub of_steps : map (λ s. s.1) steps ≡ transcript
  pub goes : FoldsTo (IsExchange turns brings says written) (record { run = first; wrote = [] }) steps
      (record { run = last; wrote = written })
