-- Credits, as each pass counts them: the thread that reads the network takes one for each piece that it
-- sends, and the one of the background jobs uses one for each step that it sends.
use Rattle.std.specs.Prelude.{◌≡◌, ℕ, Bool, true, false, ◌+◌, ◌≤◌, List, Option, Some, None, [], ◌∷◌, ◌++◌}
use Rattle.std.specs.Prelude.{length, ⊤}
use Rattle.crossbeam_channel.specs.{Claims.{view, IsSeatAt}, Ends.receives_on}
use Rattle.tn_cores.specs.declared.messages.Message.{Message, TheVariants.{Piece, Said}}
use Rattle.tn_session.specs.declared.workers.{credit.{Credit.Credit, CreditSeat.CreditSeat}, mail.Mail.Mail}
use Rattle.tn_session.specs.declared.workers.credit.{StepCredits.StepCredits, CreditTally.CreditTally}
use Rattle.tn_session.specs.declared.workers.mail.Sender.{Sender, TheVariants.Back}

-- no credit was taken or given
abbrev pub none_taken : CreditTally
none_taken = record { taken = []; given = [] }

-- one more credit was taken
abbrev pub one_taken : CreditTally → Credit → CreditTally
one_taken v x = record v { taken = v.taken ++ x ∷ [] }

-- one more credit was given
abbrev pub one_given : CreditTally → Credit → CreditTally
one_given v x = record v { given = v.given ++ x ∷ [] }

-- a credit is owed, or none is
abbrev pub owed_one : Bool → ℕ
owed_one true = 1
owed_one false = 0

-- each pass counts its own, whatever the channel holds
abbrev pub AnyTally : List Credit → List CreditTally → Type 0
AnyTally items views = ⊤

-- a thread that needs no credit, or one at its seat
abbrev pub IsSeated : Option CreditSeat → Type 0
IsSeated None = ⊤
IsSeated (Some seat) = IsSeatAt (receives_on seat.from) seat.pass

-- this number of credits more was taken, if any are needed
abbrev pub HaveTaken : ℕ → Option CreditSeat → Option CreditSeat → Type 0
HaveTaken n None None = ⊤
HaveTaken n (Some old) (Some new) = length (view new.pass).taken ≡ length (view old.pass).taken + n
HaveTaken n _ _ = ⊥

-- 1 for a piece
abbrev pub piece_one : Message → ℕ
piece_one (Piece piece) = 1
piece_one _ = 0

-- the number of these messages that are pieces
abbrev pub pieces_among : List Mail → ℕ
pieces_among [] = 0
pieces_among (x ∷ xs) = piece_one x.message + pieces_among xs

-- a step that a background job sent
abbrev pub step_one : Sender → Message → ℕ
step_one Back (Said job text after) = 1
step_one _ _ = 0

-- the number of these messages that are steps
abbrev pub steps_among : List Mail → ℕ
steps_among [] = 0
steps_among (x ∷ xs) = step_one x.from x.message + steps_among xs

-- at least this number of credits for steps was used: of those that were there at first, and of those that
-- were taken
abbrev pub HaveUsed : ℕ → StepCredits → StepCredits → Type 0
HaveUsed n old new =
    new.left + length (view old.seat.pass).taken + n ≤ old.left + length (view new.seat.pass).taken
