use Rattle.std.proofs.Common.{arith}
use Rattle.tn_nvt.proofs.Taking.{same_fault, some_on, stops_on, wants_on, front_all}
use Rattle.tn_nvt.proofs.places.Place.hand_all.Goals as goal

pub loop-at-preserved : goal.loop-at-preserved
loop-at-preserved g c =
    let on = some_on g.S.Sink.takes g.S.Sink.gives_up _ _ _ c.args.piece.now c.loop-at.at c.in-Ok.count _ _ _ c.loop-at.invariant.within
    c.loop-at.invariant.handed c.in-Ok.ensures.ok in
    record { within = on.within; handed = on.handed }

pub returns-in-Err-clause-refused : goal.returns-in-Err-clause-refused
returns-in-Err-clause-refused g c = λ refused.
    stops_on g.S.Sink.takes g.S.Sink.gives_up _ _ c.args.piece.now c.loop-at.at _ _ _ c.loop-at.invariant.handed
    (c.in-Err.ensures.refused (same_fault _ _ refused))

pub returns-in-Err-clause-memory : goal.returns-in-Err-clause-memory
returns-in-Err-clause-memory g c = λ memory.
    wants_on g.S.Sink.takes g.S.Sink.gives_up _ _ c.args.piece.now c.loop-at.at _ _ _ c.loop-at.invariant.handed
    (c.in-Err.ensures.memory (same_fault _ _ memory))

pub returns-clause-ok : goal.returns-clause-ok
returns-clause-ok g c = front_all g.S.Sink.takes g.S.Sink.gives_up _ _ c.args.piece.now c.loop-at.at _ _ (omega arith) c.loop-at.invariant.handed
