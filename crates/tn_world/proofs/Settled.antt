-- Two rounds of deliveries bring a world to rest, and it goes on from its beginning.
use Rattle.std.proofs.Common.{◌≡◌, ◌⊎◌, inl, inr, ℕ, zero, suc, ◌+◌, Bool, true, false, List, [], ◌∷◌, ◌++◌, length, refl, ap, ◌∙◌, subst, arith}
use Rattle.std.proofs.lemmas.List.{drop_all}
use Rattle.tn_codes.specs.declared.triples.Triple.{Triple}
use Rattle.tn_discipline.specs.{Canon.Canon, Characters.Characters}
use Rattle.tn_linemode.specs.Exchange.{client_answers, server_answers, server_is_asked}
use Rattle.tn_world.specs.{Headline.{IsQuietEvent, AreQuietEvents, Follows, NothingInFlight, entries_made, half_made, local_entries, local_half}, Past.HasPast}
use Rattle.tn_world.specs.{Settling.{IsRound, RefusesRound, RunsRounds, Settles, StopsSettling, IsAtRest, HasSettled}, declared.events.Event.Event}
use Rattle.tn_world.specs.Worlds.{World, UnlessStopped, DeliversToServer, DeliversToClient, RunsEvent, Refuses, Runs, StopsWithin, ShowsCause}
use Rattle.tn_world.specs.declared.{events.Event.TheVariants.{ToServer, ToClient}, faults.Cause.Cause}
use Rattle.tn_world.proofs.{Following.passes_ran, Promise.{runs_on, runs_pass, run_follows, end_follows, quiet_always, headline, related}, TooFar.shows_cause}
use Rattle.tn_world.proofs.{Rounds.{first_none, first_empty, second_empty}, Soundness.{sound_reaches, sound_returns}}

-- WHAT A DELIVERY KEEPS, whether its end was stopped or not
to_client : (old new : World) (n : ℕ) → old.client_stopped ≡ false → RunsEvent old (ToClient n) new → DeliversToClient old n new
to_client old new n goes r = subst (λ b. UnlessStopped b old new (DeliversToClient old n new)) goes r

to_server : (old new : World) (n : ℕ) → old.server_stopped ≡ false → RunsEvent old (ToServer n) new → DeliversToServer old n new
to_server old new n goes r = subst (λ b. UnlessStopped b old new (DeliversToServer old n new)) goes r

record SameStops (old new : World) : Type 0 where
  pub server : new.server_stopped ≡ old.server_stopped
  pub client : new.client_stopped ≡ old.client_stopped

same_stops : (old new : World) → new ≡ old → SameStops old new
same_stops old new is = record { server = ap (λ (w : World). w.server_stopped) is; client = ap (λ (w : World). w.client_stopped) is }

to_client_stops : (old new : World) (n : ℕ) → RunsEvent old (ToClient n) new → SameStops old new
to_client_stops old new n r = by_stop old.client_stopped r
  where
    by_stop : (b : Bool) → UnlessStopped b old new (DeliversToClient old n new) → SameStops old new
    by_stop true is = same_stops old new is
    by_stop false d = record { server = ap (λ (w : World). w.server_stopped) d.rest; client = ap (λ (w : World). w.client_stopped) d.rest }

to_server_stops : (old new : World) (n : ℕ) → RunsEvent old (ToServer n) new → SameStops old new
to_server_stops old new n r = by_stop old.server_stopped r
  where
    by_stop : (b : Bool) → UnlessStopped b old new (DeliversToServer old n new) → SameStops old new
    by_stop true is = same_stops old new is
    by_stop false d = record { server = ap (λ (w : World). w.server_stopped) d.rest; client = ap (λ (w : World). w.client_stopped) d.rest }

round_stops : (old new : World) → IsRound old new → SameStops old new
round_stops old new r =
    let a = to_client_stops old r.mid (length old.to_client) r.to_client in
    let b = to_server_stops r.mid new (length r.mid.to_server) r.to_server in
    record { server = b.server ∙ a.server; client = b.client ∙ a.client }

-- TWO ROUNDS
pub two_rounds : ((c s : Characters) (ts : List Triple) → server_answers s (client_answers c ts) ≡ [])
    → ((c : Characters) (ts : List Triple) → server_is_asked (client_answers c ts) ≡ false)
    → (old mid new : World) → HasPast old → old.server_stopped ≡ false → old.client_stopped ≡ false → IsRound old mid → IsRound mid new → NothingInFlight new
two_rounds answered asked old mid new past server_goes client_goes r q =
    let s = round_stops old mid r in
    let n = length old.to_client in
    let m = length r.mid.to_server in
    let k = length mid.to_client in
    let l = length q.mid.to_server in
    let x = to_client old r.mid n client_goes r.to_client in
    let y = to_server r.mid mid m ((to_client_stops old r.mid n r.to_client).server ∙ server_goes) r.to_server in
    let z = to_client mid q.mid k (s.client ∙ client_goes) q.to_client in
    let v = to_server q.mid new l ((to_client_stops mid q.mid k q.to_client).server ∙ s.server ∙ server_goes) q.to_server in
    second_empty answered asked mid q.mid new k l (sound_reaches r.mid mid m y (sound_returns old r.mid n x past))
    (first_empty old r.mid mid n m past x (omega arith) y (omega arith)) (first_none old r.mid mid n m past x (omega arith) y (omega arith)) z (omega arith) v
    (omega arith)

-- the last delivery of a round leaves nothing for its end
none_to_server : (old new : World) → IsRound old new → old.server_stopped ≡ false → new.to_server ≡ []
none_to_server old new r goes =
    let d = to_server r.mid new (length r.mid.to_server) ((to_client_stops old r.mid (length old.to_client) r.to_client).server ∙ goes) r.to_server in
    ap (λ (w : World). w.to_server) d.rest ∙ drop_all (length r.mid.to_server) r.mid.to_server (omega arith)

-- if the server was stopped, nothing comes back
none_to_client : (old new : World) → IsRound old new → old.server_stopped ≡ true → old.client_stopped ≡ false → new.to_client ≡ []
none_to_client old new r stopped goes =
    let d = to_client old r.mid (length old.to_client) goes r.to_client in
    let s = to_client_stops old r.mid (length old.to_client) r.to_client in
    let same : new ≡ r.mid = subst (λ b. UnlessStopped b r.mid new (DeliversToServer r.mid (length r.mid.to_server) new)) (s.server ∙ stopped) r.to_server in
    ap (λ (w : World). w.to_client) same ∙ ap (λ (w : World). w.to_client) d.rest ∙ drop_all (length old.to_client) old.to_client (omega arith)

pub settles_rest : ((c s : Characters) (ts : List Triple) → server_answers s (client_answers c ts) ≡ [])
    → ((c : Characters) (ts : List Triple) → server_is_asked (client_answers c ts) ≡ false)
    → (old new : World) → HasPast old → Settles old new → IsAtRest old new
settles_rest answered asked old new past s = by_end s.ended
  where
    by_stop : (b : Bool) → old.server_stopped ≡ b → old.client_stopped ≡ false → (mid : World) → IsRound old mid → IsRound mid new → new.to_client ≡ []
    by_stop true is goes mid r q = let stops = round_stops old mid r in none_to_client mid new q (stops.server ∙ is) (stops.client ∙ goes)
    by_stop false is goes mid r q = (two_rounds answered asked old mid new past is goes r q).1

    by_end : (NothingInFlight new ⊎ (s.count ≡ 2)) → IsAtRest old new
    by_end (inl none) = record { to_server = λ goes. none.0; to_client = λ goes. none.1 }
    by_end (inr two) =
        let x : RunsRounds 2 old new = subst (λ n. RunsRounds n old new) two s.rounds in
        let mid = x.0 in
        let first : IsRound old mid = subst (λ (w : World). IsRound w mid) x.1.1 x.1.3 in
        let stops = round_stops old mid first in
        record {
          to_server = λ goes. none_to_server mid new x.3 (stops.server ∙ goes);
          to_client = λ goes. by_stop old.server_stopped refl goes mid first x.3;
        }

-- THE LIST of its deliveries, which are quiet
record Delivered (old new : World) : Type 0 where
  pub events : List Event
  pub quiet : AreQuietEvents events
  pub runs : Runs old events new

quiet_on : (events : List Event) (e : Event) → AreQuietEvents events → ((w : World) → IsQuietEvent w e) → AreQuietEvents (events ++ e ∷ [])
quiet_on [] e q here = (here, tt)
quiet_on (d ∷ events) e q here = (q.0, quiet_on events e q.1 here)

delivered_on : (old mid new : World) (e : Event) → Delivered old mid → ((w : World) → IsQuietEvent w e) → RunsEvent mid e new → Delivered old new
delivered_on old mid new e d quiet r = record {
  events = d.events ++ e ∷ [];
  quiet = quiet_on d.events e d.quiet quiet;
  runs = runs_on old mid new d.events e d.runs r;
}

delivered : (n : ℕ) (old new : World) → RunsRounds n old new → Delivered old new
delivered zero old new is = record { events = []; quiet = tt; runs = is }
delivered (suc n) old new r =
    let q = r.3 in
    delivered_on old q.mid new (ToServer (length q.mid.to_server))
    (delivered_on old r.0 q.mid (ToClient (length r.0.to_client)) (delivered n old r.0 r.1) (λ w. tt) q.to_client) (λ w. tt) q.to_server

record DeliveredBut (old : World) (cause : Cause) (new : World) : Type 0 where
  pub events : List Event
  pub quiet : AreQuietEvents events
  pub at : ℕ
  pub stops : StopsWithin old events at cause new

stopped_on : (old mid new : World) (e : Event) (cause : Cause) → Delivered old mid → ((w : World) → IsQuietEvent w e) → Refuses mid e cause new
    → DeliveredBut old cause new
stopped_on old mid new e cause d quiet r =
    record {
      events = d.events ++ e ∷ [];
      quiet = quiet_on d.events e d.quiet quiet;
      at = length d.events;
      stops = record { done = d.events; event = e; left = []; whole = refl; place = refl; mid = mid; runs = d.runs; refuses = r };
    }

stopped_round : (old mid new : World) (at : ℕ) (cause : Cause) → Delivered old mid → RefusesRound mid at cause new → DeliveredBut old cause new
stopped_round old mid new at cause d (inl x) = stopped_on old mid new (ToClient (length mid.to_client)) cause d (λ w. tt) x.1
stopped_round old mid new at cause d (inr x) =
    stopped_on old x.0 new (ToServer (length x.0.to_server)) cause (delivered_on old mid x.0 (ToClient (length mid.to_client)) d (λ w. tt) x.2) (λ w. tt) x.3

stopped : (old new : World) (at : ℕ) (cause : Cause) → StopsSettling old at cause new → DeliveredBut old cause new
stopped old new at cause s = stopped_round old s.mid new s.place cause (delivered s.count old s.mid s.rounds) s.refuses

-- IT GOES ON from its beginning
pub settles_follow : (old new : World) → Settles old new → (canon : Canon) → Follows canon old → Follows canon new
settles_follow old new s canon f =
    let d = delivered s.count old new s.rounds in
    run_follows old new d.events d.runs canon f (quiet_always old d.events d.quiet)

pub stops_follow : (old new : World) (at : ℕ) (cause : Cause) → StopsSettling old at cause new → (canon : Canon) → Follows canon old → Follows canon new
stops_follow old new at cause s canon f =
    let d = stopped old new at cause s in
    end_follows old new d.events d.at cause d.stops canon f (quiet_always old d.events d.quiet)

pub stops_cause : (old new : World) (at : ℕ) (cause : Cause) → HasPast old → StopsSettling old at cause new → ShowsCause cause new
stops_cause old new at cause past s =
    let d = stopped old new at cause s in
    shows_cause old new d.events d.at cause past d.stops

-- THE USER'S CASE
module _ (answered : (c s : Characters) (ts : List Triple) → server_answers s (client_answers c ts) ≡ [])
    (asked : (c : Characters) (ts : List Triple) → server_is_asked (client_answers c ts) ≡ false) (canon : Canon) (w : World) (s : HasSettled canon w) where
  settled_past : HasPast s.before
  settled_past =
      let d = delivered s.settles.count s.before w s.settles.rounds in
      (related canon s.before s.follows (passes_ran s.before w d.events
      (runs_pass s.before w d.events (quiet_always s.before d.events d.quiet) d.runs) s.none_failed)).past

  settled_empty : w.to_server ≡ []
  settled_empty = (settles_rest answered asked s.before w settled_past s.settles).to_server s.server_goes_on

  pub settled_entries : entries_made w ≡ local_entries canon w.typed
  settled_entries = (headline canon w (settles_follow s.before w s.settles canon s.follows)).complete s.none_failed settled_empty

  pub settled_half : half_made w ≡ local_half canon w.typed
  settled_half = (headline canon w (settles_follow s.before w s.settles canon s.follows)).half s.none_failed settled_empty

-- THE CALL, which stops if nothing is in flight
pub one_round : (old mid : World) → ¬ NothingInFlight old → IsRound old mid → NothingInFlight mid → Settles old mid
one_round old mid some r none = record { count = 1; rounds = (old, refl, some, r); most = omega arith; ended = inl none }

pub both_rounds : (old mid new : World) → ¬ NothingInFlight old → IsRound old mid → ¬ NothingInFlight mid → IsRound mid new → Settles old new
both_rounds old mid new some r more q = record { count = 2; rounds = (mid, (old, refl, some, r), more, q); most = omega arith; ended = inr refl }

pub first_stops : (old new : World) (at : ℕ) (cause : Cause) → ¬ NothingInFlight old → RefusesRound old at cause new → StopsSettling old at cause new
first_stops old new at cause some r = record {
  count = 0;
  mid = old;
  rounds = refl;
  less = omega arith;
  flies = some;
  place = at;
  is_at = omega arith;
  refuses = r;
}

pub second_stops : (old mid new : World) (at : ℕ) (cause : Cause) → ¬ NothingInFlight old → IsRound old mid → ¬ NothingInFlight mid
    → RefusesRound mid at cause new → StopsSettling old (at + 2) cause new
second_stops old mid new at cause some r more q = record {
  count = 1;
  mid = mid;
  rounds = (old, refl, some, r);
  less = omega arith;
  flies = more;
  place = at;
  is_at = omega arith;
  refuses = q;
}
