use Rattle.std.proofs.Common.{◌≡◌, true, false, refl, subst}
use Rattle.tn_world.proofs.{Promise.headline, SettledOutput.{settles_output, stays_output, stops_output}}
use Rattle.tn_world.proofs.Settled.{both_rounds, first_stops, one_round, second_stops, settles_follow, settles_rest, stops_cause, stops_follow}
use Rattle.tn_world.specs.{Past.HasPast, Worlds.World}
use Rattle.tn_world.proofs.world.World.settle.Goals as goal

pub returns-then-is_flight_empty-clause-headline : goal.returns-then-is_flight_empty-clause-headline
returns-then-is_flight_empty-clause-headline c = λ canon f. headline canon c.args.self.now f

pub returns-in-Err-clause-ends : goal.returns-in-Err-clause-ends
returns-in-Err-clause-ends c =
    first_stops c.args.self.now c.round.new.self c.in-Err.fault.at c.in-Err.fault.cause
    (λ none. let turned : false ≡ true = c.if-is_flight_empty.ensures.1 none in cc) c.in-Err.ensures.refused

pub returns-in-Err-clause-causes : goal.returns-in-Err-clause-causes
returns-in-Err-clause-causes c =
    stops_cause c.args.self.now c.round.new.self c.in-Err.fault.at c.in-Err.fault.cause
    (subst (λ (w : World). HasPast w) c.self.view_is c.self.invariant) (returns-in-Err-clause-ends c)

pub returns-in-Err-clause-follows : goal.returns-in-Err-clause-follows
returns-in-Err-clause-follows c =
    stops_follow c.args.self.now c.round.new.self c.in-Err.fault.at c.in-Err.fault.cause (returns-in-Err-clause-ends c)

pub returns-in-Err-clause-headline : goal.returns-in-Err-clause-headline
returns-in-Err-clause-headline c = λ canon f. headline canon c.round.new.self (returns-in-Err-clause-follows c canon f)

pub returns-then-is_flight_empty-2-clause-settles : goal.returns-then-is_flight_empty-2-clause-settles
returns-then-is_flight_empty-2-clause-settles c =
    one_round c.args.self.now c.round.new.self
    (λ none. let turned : false ≡ true = c.if-is_flight_empty.ensures.1 none in cc) c.in-Ok.ensures.done
    (c.if-is_flight_empty-2.ensures.0 refl)

pub returns-then-is_flight_empty-2-clause-follows : goal.returns-then-is_flight_empty-2-clause-follows
returns-then-is_flight_empty-2-clause-follows c =
    settles_follow c.args.self.now c.round.new.self (returns-then-is_flight_empty-2-clause-settles c)

pub returns-then-is_flight_empty-2-clause-headline : goal.returns-then-is_flight_empty-2-clause-headline
returns-then-is_flight_empty-2-clause-headline c = λ canon f.
    headline canon c.round.new.self (returns-then-is_flight_empty-2-clause-follows c canon f)

pub returns-in-Ok-round-clause-settles : goal.returns-in-Ok-round-clause-settles
returns-in-Ok-round-clause-settles c =
    both_rounds c.args.self.now c.round.new.self c.round-2.new.self
    (λ none. let turned : false ≡ true = c.if-is_flight_empty.ensures.1 none in cc) c.in-Ok.ensures.done
    (λ none. let turned : false ≡ true = c.if-is_flight_empty-2.ensures.1 none in cc) c.in-Ok-round.ensures.done

pub returns-in-Ok-round-clause-rest : goal.returns-in-Ok-round-clause-rest
returns-in-Ok-round-clause-rest c =
    settles_rest c.exchanges_end.ensures.answers c.exchanges_end.ensures.asks c.args.self.now c.round-2.new.self
    (subst (λ (w : World). HasPast w) c.self.view_is c.self.invariant) (returns-in-Ok-round-clause-settles c)

pub returns-in-Ok-round-clause-follows : goal.returns-in-Ok-round-clause-follows
returns-in-Ok-round-clause-follows c =
    settles_follow c.args.self.now c.round-2.new.self (returns-in-Ok-round-clause-settles c)

pub returns-in-Ok-round-clause-headline : goal.returns-in-Ok-round-clause-headline
returns-in-Ok-round-clause-headline c = λ canon f.
    headline canon c.round-2.new.self (returns-in-Ok-round-clause-follows c canon f)

pub returns-in-Err-round-clause-ends : goal.returns-in-Err-round-clause-ends
returns-in-Err-round-clause-ends c =
    second_stops c.args.self.now c.round.new.self c.round-2.new.self c.in-Err-round.fault.at c.in-Err-round.fault.cause
    (λ none. let turned : false ≡ true = c.if-is_flight_empty.ensures.1 none in cc) c.in-Ok.ensures.done
    (λ none. let turned : false ≡ true = c.if-is_flight_empty-2.ensures.1 none in cc) c.in-Err-round.ensures.refused

pub returns-in-Err-round-clause-causes : goal.returns-in-Err-round-clause-causes
returns-in-Err-round-clause-causes c =
    stops_cause c.args.self.now c.round-2.new.self _ c.in-Err-round.fault.cause
    (subst (λ (w : World). HasPast w) c.self.view_is c.self.invariant) (returns-in-Err-round-clause-ends c)

pub returns-in-Err-round-clause-follows : goal.returns-in-Err-round-clause-follows
returns-in-Err-round-clause-follows c =
    stops_follow c.args.self.now c.round-2.new.self _ c.in-Err-round.fault.cause (returns-in-Err-round-clause-ends c)

pub returns-in-Err-round-clause-headline : goal.returns-in-Err-round-clause-headline
returns-in-Err-round-clause-headline c = λ canon f.
    headline canon c.round-2.new.self (returns-in-Err-round-clause-follows c canon f)

pub returns-then-is_flight_empty-clause-output : goal.returns-then-is_flight_empty-clause-output
returns-then-is_flight_empty-clause-output c = stays_output c.args.self.now

pub returns-in-Err-clause-output_before : goal.returns-in-Err-clause-output_before
returns-in-Err-clause-output_before c =
    stops_output c.args.self.now c.round.new.self c.in-Err.fault.at c.in-Err.fault.cause
    (subst (λ (w : World). HasPast w) c.self.view_is c.self.invariant) (returns-in-Err-clause-ends c)

pub returns-then-is_flight_empty-2-clause-output : goal.returns-then-is_flight_empty-2-clause-output
returns-then-is_flight_empty-2-clause-output c =
    settles_output c.args.self.now c.round.new.self (subst (λ (w : World). HasPast w) c.self.view_is c.self.invariant)
    (returns-then-is_flight_empty-2-clause-settles c)

pub returns-in-Ok-round-clause-output : goal.returns-in-Ok-round-clause-output
returns-in-Ok-round-clause-output c =
    settles_output c.args.self.now c.round-2.new.self (subst (λ (w : World). HasPast w) c.self.view_is c.self.invariant)
    (returns-in-Ok-round-clause-settles c)

pub returns-in-Err-round-clause-output_before : goal.returns-in-Err-round-clause-output_before
returns-in-Err-round-clause-output_before c =
    stops_output c.args.self.now c.round-2.new.self _ c.in-Err-round.fault.cause
    (subst (λ (w : World). HasPast w) c.self.view_is c.self.invariant) (returns-in-Err-round-clause-ends c)
