use Rattle.std.proofs.Common.{refl, true}
use Rattle.tn_lines.proofs.{Ending.{by_bytes, by_room, writes_none}, Going.waited}
use Rattle.tn_lines.proofs.talk.Talk.turn.Goals as goal

pub returns-in_ok-take_keys-in-Keys-clause-goes_on : goal.returns-in_ok-take_keys-in-Keys-clause-goes_on
returns-in_ok-take_keys-in-Keys-clause-goes_on g c = λ e at first had.
    c.in_ok-take_keys-in-Keys.ensures _ _ _ _ e at first (waited e at first _ _ _ _ _ _ c.args.self.now c.next.ensures had)

pub returns-in_ok-over-in-Bytes-clause-goes_on : goal.returns-in_ok-over-in-Bytes-clause-goes_on
returns-in_ok-over-in-Bytes-clause-goes_on g c = λ e at first had.
    c.in_ok-over-in-Bytes.ensures.goes_on _ _ e at first (waited e at first _ _ _ _ _ _ c.args.self.now c.next.ensures had)

pub returns-in-Room-clause-goes_on : goal.returns-in-Room-clause-goes_on
returns-in-Room-clause-goes_on g c = λ e at first had.
    c.tell-stands.ensures.goes_on _ _ _ _ e at first (waited e at first _ _ _ _ _ _ c.args.self.now c.next.ensures had)

pub returns-in-End-clause-goes_on : goal.returns-in-End-clause-goes_on
returns-in-End-clause-goes_on g c = λ e at first had.
    c.finish.ensures.goes_on _ _ _ _ e at first (waited e at first _ _ _ _ _ _ c.args.self.now c.next.ensures had)

pub returns-in-Interrupt-clause-goes_on : goal.returns-in-Interrupt-clause-goes_on
returns-in-Interrupt-clause-goes_on g c = λ e at first had. waited e at first _ _ _ _ _ _ c.args.self.now c.next.ensures had

pub returns-in-Leave-clause-goes_on : goal.returns-in-Leave-clause-goes_on
returns-in-Leave-clause-goes_on g c = λ e at first had. waited e at first _ _ _ _ _ _ c.args.self.now c.next.ensures had

pub returns-in_ok-over-in-Bytes-clause-ends : goal.returns-in_ok-over-in-Bytes-clause-ends
returns-in_ok-over-in-Bytes-clause-ends g c =
    let over = c.in_ok-over-in-Bytes.ensures in
    by_bytes _ _ _ _ _ c.in_ok-over-in-Bytes.over over.closes over.reads refl

pub returns-in-Room-clause-ends : goal.returns-in-Room-clause-ends
returns-in-Room-clause-ends g c =
    by_room _ _ _ _ c.tell-stands.result _ c.broken_unless.ensures c.tell-stands.ensures.writes

pub returns-in-End-clause-ends : goal.returns-in-End-clause-ends
returns-in-End-clause-ends g c = by_room _ _ _ _ true _ refl (writes_none _ _ c.finish.ensures.told)
