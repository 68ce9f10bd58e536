-- The word to stop, as the thread that is asked takes it.
use Rattle.std.specs.Prelude.{◌≡◌, Bool, true, IsTrue, false, Option, Some, None, List, ◌∷◌, ⊤}
use Rattle.crossbeam_channel.specs.{Claims.{view, IsSeatAt}, Ends.receives_on}
use Rattle.tn_cores.specs.{queue.Queue.taker, declared.queue.Hand.Hand}
use Rattle.tn_session.specs.declared.workers.stops.{Stop.Stop, StopSeat.StopSeat}

-- the view of a pass of the channel for the word to stop
abbrev pub StopHand : Type 0
StopHand = Hand Stop

-- the word to stop was taken
abbrev pub took_some : Option (List Stop) → Bool
took_some (Some (stop ∷ stops)) = true
took_some _ = false

-- the thread took the word to stop
abbrev pub has_stopped : Option StopSeat → Bool
has_stopped (Some seat) = took_some (view seat.pass).taken
has_stopped None = false

-- one was taken, or none
abbrev pub TakesStop : Bool → StopHand → StopHand → Type 0
TakesStop took v w =
    (l : List Stop) → v ≡ taker l → (k : List Stop) × (w ≡ taker k)
    × (IsTrue took → IsTrue (took_some (Some k)))

-- the seat stays at its channel
abbrev pub StopsStay : Option StopSeat → Option StopSeat → Type 0
StopsStay None None = ⊤
StopsStay (Some old) (Some new) =
    (new.from ≡ old.from) × IsSeatAt (receives_on new.from) new.pass
    × ((l : List Stop) × (view new.pass ≡ taker l))
StopsStay _ _ = ⊥
