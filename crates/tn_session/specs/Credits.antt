-- The credits that a session gives: one at first and one for each piece that was handled, and one for
-- each step.
use Rattle.std.specs.Prelude.{◌≡◌, ◌+◌, ◌≤◌, List, length}
use Rattle.crossbeam_channel.specs.{Claims.IsSeatAt, Ends.{sends_on, receives_on, ruled_capacity}}
use Rattle.tn_session.specs.{declared.credit.CreditGiver.CreditGiver, workers.Mailbox.with_handled}
use Rattle.tn_session.specs.{workers.Credits.{pieces_among, steps_among}, declared.workers.channels.View.View}
use Rattle.tn_session.specs.declared.workers.{credit.CreditTally.CreditTally, mail.Mail.Mail}
use Rattle.tn_session.specs.declared.workers.credit.StepCredits.{StepCredits}

-- one credit at most is given for each step that was handled
abbrev pub GivesStepCredits : View → View → CreditTally → CreditTally → Type 0
GivesStepCredits v w old new =
    (handled : List Mail) × (w ≡ with_handled v handled)
    × (length new.given ≤ length old.given + steps_among handled)

-- both are at one channel, and none was given
pub record AreNewCredits (giver : CreditGiver) (credits : StepCredits) : Type 0 where
  pub one_channel : receives_on credits.seat.from ≡ sends_on giver.to
  pub giver_at : IsSeatAt (sends_on giver.to) giver.pass
  pub seat_at : IsSeatAt (sends_on giver.to) credits.seat.pass
  pub room : ruled_capacity (sends_on giver.to) ≡ 32
  pub first : credits.left ≡ 32

-- one credit is given at first at most, and one more for each piece that was handled
abbrev pub GivesCredits : View → View → CreditTally → CreditTally → Type 0
GivesCredits v w old new =
    (handled : List Mail) × (w ≡ with_handled v handled)
    × (length new.given ≤ length old.given + 1 + pieces_among handled)
