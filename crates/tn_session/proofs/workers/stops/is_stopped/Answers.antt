use Rattle.tn_session.proofs.of_workers.Stopping.{seat_stays, has_told}
use Rattle.tn_session.proofs.workers.stops.is_stopped.Goals as goal

pub returns-in-Some-clause-stays : goal.returns-in-Some-clause-stays
returns-in-Some-clause-stays g c = seat_stays c.args.stops.now c.in-Some.seat c.take_stop.new.seat c.take_stop.result c.in-Some.is c.take_stop.ensures.from c.take_stop.ensures.seat
    c.requires.seat c.take_stop.ensures.took

pub returns-in-Some-clause-told : goal.returns-in-Some-clause-told
returns-in-Some-clause-told g c = has_told c.args.stops.now c.in-Some.seat c.take_stop.new.seat c.take_stop.result c.in-Some.is c.requires.seat c.take_stop.ensures.took
