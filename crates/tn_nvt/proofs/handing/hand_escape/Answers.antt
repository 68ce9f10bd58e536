use Rattle.tn_nvt.proofs.{Feeding.still, Taking.{on_err, escape_front, escape_stops}}
use Rattle.tn_nvt.proofs.handing.hand_escape.Goals as goal

pub returns-in_err-hand_to-clause-refused : goal.returns-in_err-hand_to-clause-refused
returns-in_err-hand_to-clause-refused g c =
    on_err _ _ (escape_stops g.S.Sink.takes g.S.Sink.gives_up c.args.here.now _ _ _ _ _ c.escape-next.ensures.escapes c.in_err-hand_to.ensures.err)

pub returns-clause-ok : goal.returns-clause-ok
returns-clause-ok g c =
    rw (still c.escape-next.result.0 c.escape-next.result.1 c.escape-next.new.body c.hand_to.new.body
    (λ is. absurd (c.escape-next.ensures.closes is)) c.hand_to.ensures.body)
    (escape_front g.S.Sink.takes g.S.Sink.gives_up c.args.here.now _ _ _ _ _ c.escape-next.ensures.escapes c.in_ok-hand_to.ensures.ok)
