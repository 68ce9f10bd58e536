-- The reason why a thread stops that has more to do: it was asked to. It is asked after the first message by
-- which nothing has any effect any more, or nothing more comes from the network, unless it has left by then.
use Rattle.std.specs.Prelude.{◌≡◌, Bool, true, IsTrue, false, IsFalse, ◌||◌, ◌&&◌, List, [], ◌∷◌, ◌++◌, map}
use Rattle.crossbeam_channel.specs.{Claims.{view, IsSeatAt}, Ends.{sends_on, receives_on}}
use Rattle.tn_cores.specs.declared.{client.progress.ClientProgress.ClientProgress, messages.Message.Message}
use Rattle.tn_cores.specs.{declared.messages.Message.TheVariants.Left, queue.Queue.{putter, taker}}
use Rattle.tn_cores.specs.declared.server.progress.ServerProgress.{ServerProgress}
use Rattle.tn_session.specs.{workers.{Mailbox.{same, mail}, Stops.StopHand}, declared.workers.mail.Mail.Mail}
use Rattle.tn_session.specs.declared.workers.{mail.Sender.Sender, stops.{Stop.Stop, StopSeat.StopSeat}}
use Rattle.tn_session.specs.declared.stops.StopTeller.{StopTeller}

-- no thread was asked to stop
pub record AreNewStops (teller : StopTeller) (seat : StopSeat) : Type 0 where
  pub one_channel : receives_on seat.from ≡ sends_on teller.to
  pub teller_at : IsSeatAt (sends_on teller.to) teller.pass
  pub seat_at : IsSeatAt (sends_on teller.to) seat.pass
  pub teller_is : view teller.pass ≡ putter []
  pub seat_is : view seat.pass ≡ taker []

-- the word to stop was put once, or not at all
abbrev pub IsTold : Bool → StopHand → Type 0
IsTold true v = (word : Stop) × (v ≡ putter (word ∷ []))
IsTold false v = v ≡ putter []

-- the message says that a thread has left
abbrev pub is_left : Message → Bool
is_left Left = true
is_left _ = false

-- this message says that the thread has left
abbrev pub leaves : Sender → Mail → Bool
leaves who x = same x.from who && is_left x.message

-- some of these messages says that this thread has left
abbrev pub has_left : Sender → List Mail → Bool
has_left who [] = false
has_left who (x ∷ xs) = leaves who x || has_left who xs

-- a thread is to stop: nothing has any effect any more, or nothing more comes from the network
abbrev pub core_stops : ClientProgress → Bool
core_stops p = p.over || p.at_end

-- the background jobs are to stop: nothing has any effect any more, or nothing more comes
abbrev pub term_stops : ServerProgress → Bool
term_stops p = p.over || p.at_end

-- When this thread left: the messages that were handled before that, with their marks, lead so far.
pub record LeavesAt {Said Mark Run : Type 0} (who : Sender) (said : List Mail → List Said)
    (runs : List (Said × Mark) → Run → Type 0) (handled : List Mail)
    (marked : List (Said × Mark)) : Type 0 where
  pub before : List Mail
  pub after : List Mail
  pub whole : handled ≡ before ++ mail who Left ∷ after
  pub here : IsFalse (has_left who before)
  pub first : List (Said × Mark)
  pub later : List (Said × Mark)
  pub marks : marked ≡ first ++ later
  pub messages : map (λ m. m.0) first ≡ said before
  pub by_then : Run
  pub leads : runs first by_then

-- As long as this thread has not left, it is asked to stop if the session stands so; and then, when it stood
-- so.
pub record StandsTold {Said Mark Run : Type 0} (who : Sender) (said : List Mail → List Said)
    (runs : List (Said × Mark) → Run → Type 0) (stops : Run → Bool) (handled : List Mail)
    (marked : List (Said × Mark)) (now told : Bool) : Type 0 where
  pub here : IsFalse (has_left who handled) → told ≡ now
  pub gone : IsTrue (has_left who handled)
      → (at : LeavesAt who said runs handled marked) × (told ≡ stops at.by_then)
