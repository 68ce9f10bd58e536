-- The way in which a world comes to rest: rounds of deliveries, and what is in flight after them.
use Rattle.std.specs.Prelude.{◌≡◌, ◌⊎◌, ℕ, zero, suc, ◌+◌, ◌*◌, ◌≤◌, IsFalse, [], length}
use Rattle.tn_discipline.specs.Canon.{Canon}
use Rattle.tn_world.specs.{Headline.{Follows, NoneFailed, NothingInFlight}, declared.faults.Cause.Cause}
use Rattle.tn_world.specs.Worlds.{World, RunsEvent, Refuses}
use Rattle.tn_world.specs.declared.events.Event.TheVariants.{ToServer, ToClient}

-- A ROUND: all that is in flight to the client arrives, and then all that is in flight to the server.
pub record IsRound (old new : World) : Type 0 where
  pub mid : World
  pub to_client : RunsEvent old (ToClient (length old.to_client)) mid
  pub to_server : RunsEvent mid (ToServer (length mid.to_server)) new

-- the first delivery of a round is refused, or the second
abbrev pub RefusesRound : World → ℕ → Cause → World → Type 0
RefusesRound old at cause new =
    ((at ≡ 0) × Refuses old (ToClient (length old.to_client)) cause new)
    ⊎ ((mid : World) × (at ≡ 1) × RunsEvent old (ToClient (length old.to_client)) mid
    × Refuses mid (ToServer (length mid.to_server)) cause new)

-- this number of rounds, with something in flight before each
abbrev pub RunsRounds : ℕ → World → World → Type 0
RunsRounds zero old new = new ≡ old
RunsRounds (suc n) old new = (mid : World) × RunsRounds n old mid × (¬ NothingInFlight mid) × IsRound mid new

-- Rounds until nothing is in flight, and at most two.
pub record Settles (old new : World) : Type 0 where
  pub count : ℕ
  pub rounds : RunsRounds count old new
  pub most : count ≤ 2
  pub ended : NothingInFlight new ⊎ (count ≡ 2)

-- One of their deliveries is refused, this one of them.
pub record StopsSettling (old : World) (at : ℕ) (cause : Cause) (new : World) : Type 0 where
  pub count : ℕ
  pub mid : World
  pub rounds : RunsRounds count old mid
  pub less : count + 1 ≤ 2
  pub flies : ¬ NothingInFlight mid
  pub place : ℕ
  pub is_at : at ≡ 2 * count + place
  pub refuses : RefusesRound mid place cause new

-- Nothing is in flight to an end, unless it was stopped before.
pub record IsAtRest (old new : World) : Type 0 where
  pub to_server : IsFalse old.server_stopped → new.to_server ≡ []
  pub to_client : IsFalse old.client_stopped → new.to_client ≡ []

-- THE USER'S CASE: quiet events after a beginning, and then a world that settled, no end having stopped or
-- failed.
pub record HasSettled (canon : Canon) (w : World) : Type 0 where
  pub before : World
  pub follows : Follows canon before
  pub server_goes_on : IsFalse before.server_stopped
  pub client_goes_on : IsFalse before.client_stopped
  pub settles : Settles before w
  pub none_failed : NoneFailed w
