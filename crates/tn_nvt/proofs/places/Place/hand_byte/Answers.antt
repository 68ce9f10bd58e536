use Rattle.tn_nvt.proofs.{Feeding.still, Taking.{byte_front, byte_stops, byte_wants}}
use Rattle.tn_nvt.proofs.places.Place.hand_byte.Goals as goal

pub returns-in_err-next-clause-memory : goal.returns-in_err-next-clause-memory
returns-in_err-next-clause-memory g c = λ _. byte_wants g.S.Sink.takes g.S.Sink.gives_up _ c.args.rest.now _ c.requires.some c.in_err-next.ensures.err

pub returns-in_err-hand_to-clause-refused : goal.returns-in_err-hand_to-clause-refused
returns-in_err-hand_to-clause-refused g c = λ _.
    byte_stops g.S.Sink.takes g.S.Sink.gives_up _ _ c.args.rest.now _ _ _ c.requires.some
    (c.in_ok-next.ensures.special c.requires.none) c.in_err-hand_to.ensures.err c.in_ok-next.ensures.ok

pub returns-clause-ok : goal.returns-clause-ok
returns-clause-ok g c =
    rw (still c.in_ok-next.next c.in_ok-next.given c.step.new.body c.hand_to.new.body c.in_ok-next.ensures.closes c.hand_to.ensures.body)
    (byte_front g.S.Sink.takes g.S.Sink.gives_up _ _ c.args.rest.now _ _ _ c.requires.some
    (c.in_ok-next.ensures.special c.requires.none) c.in_ok-hand_to.ensures.ok c.in_ok-next.ensures.ok)
