use Rattle.std.proofs.Common.{refl, sym, ◌∙◌}
use Rattle.tn_session.proofs.{CoreGoing.{turned_on, turned_off}, Finishing.or_elim, Going.writes_as}
use Rattle.tn_session.proofs.client_loop.turn.Goals as goal

pub returns-then-is_done-clause-turned : goal.returns-then-is_done-clause-turned
returns-then-is_done-clause-turned g c =
    let bytes = c.handle-mark.new.out.items in
    let text = c.handle-mark.new.screen.items in
    let w = c.write_out-written in
    let s = c.write_all-shown in
    turned_on w.result s.result c.handle-mark.result c.args.core.now c.handle-mark.new.self c.args.told bytes text _ _ _ _
    (sym c.is_done.ensures ∙ c.if-is_done.true) c.handle-mark.ensures.unwritten c.handle-mark.ensures.unshown w.ensures.writes w.ensures.tells
    (writes_as s.result s.result _ _ _ text refl c.deref.ensures.value s.ensures.writes) s.ensures.tells c.handle-mark.ensures.turns

pub returns-clause-turned : goal.returns-clause-turned
returns-clause-turned g c =
    let bytes = c.handle-mark.new.out.items in
    let text = c.handle-mark.new.screen.items in
    let w = c.write_out-written in
    let s = c.write_all-shown in
    turned_off w.result s.result c.handle-mark.result c.args.core.now c.handle-mark.new.self c.write_failed.new.self c.args.told bytes text _ _ _ _
    (sym c.is_done.ensures ∙ c.if-is_done.false) w.ensures.writes w.ensures.tells
    (writes_as s.result s.result _ _ _ text refl c.deref.ensures.value s.ensures.writes) s.ensures.tells w.ensures.none
    (λ f. s.ensures.none (c.deref.ensures.value ∙ f)) c.handle-mark.ensures.turns c.write_failed.ensures.leads c.write_failed.ensures.over

pub returns-then-is_done-clause-silent : goal.returns-then-is_done-clause-silent
returns-then-is_done-clause-silent g c done = c.write_out-written.ensures.silent
    (or_elim c.args.core.now.progress.over c.args.core.now.progress.closed done
    (λ over. (c.handle-mark.ensures.turns.idle over).0) c.handle-mark.ensures.silent)

pub returns-clause-silent : goal.returns-clause-silent
returns-clause-silent g c done = c.write_out-written.ensures.silent
    (or_elim c.args.core.now.progress.over c.args.core.now.progress.closed done
    (λ over. (c.handle-mark.ensures.turns.idle over).0) c.handle-mark.ensures.silent)

pub returns-clause-closed : goal.returns-clause-closed
returns-clause-closed g c closed = c.write_failed.ensures.closed ∙ c.handle-mark.ensures.closed closed
