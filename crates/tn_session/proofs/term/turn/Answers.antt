use Rattle.std.proofs.{Common.{◌++◌, sym, ◌∙◌}, lemmas.Option.IfSome_then}
use Rattle.crossbeam_channel.specs.Claims.{view}
use Rattle.tn_cores.specs.server.Run.{puts_of}
use Rattle.tn_session.proofs.Going.{turned_on, turned_off, puts_two}
use Rattle.tn_session.proofs.term.turn.Goals as goal

pub put_if-requires-clause-role : goal.put_if-requires-clause-role
put_if-requires-clause-role g c =
    (c.requires.role.0 ++ puts_of c.handle-put.result.put, c.in_ok-is_put.ensures.put c.requires.role.0 c.requires.role.1)

pub put_if-requires-2-clause-role : goal.put_if-requires-2-clause-role
put_if-requires-2-clause-role g c =
    (c.requires.role.0 ++ puts_of c.handle-put.result.put, c.in_ok-is_put.ensures.put c.requires.role.0 c.requires.role.1)

pub returns-then-is_done-clause-turned : goal.returns-then-is_done-clause-turned
returns-then-is_done-clause-turned g c =
    let written = c.write_out-written.result in
    let r = c.handle-put.result in
    IfSome_then c.put_if.result c.put_if.ensures.put (λ h p. turned_on written r.mark c.args.term.now c.handle-put.new.self c.args.message
    c.handle-put.new.out.items _ _ _ (view c.args.hand.now) (view c.put_if.new.hand) r.put r.last
    (sym c.is_done.ensures ∙ c.if-is_done.true) c.handle-put.ensures.unwritten c.write_out-written.ensures.writes c.write_out-written.ensures.tells
    c.handle-put.ensures.turns (puts_two (view c.args.hand.now) (view c.put_if-is_put.new.hand) (view c.put_if.new.hand) (puts_of r.put) (puts_of r.last) c.in_ok-is_put.ensures.put p))

pub returns-clause-turned : goal.returns-clause-turned
returns-clause-turned g c =
    let written = c.write_out-written.result in
    let r = c.handle-put.result in
    let last = c.write_failed-last in
    IfSome_then c.put_if-2.result c.put_if-2.ensures.put (λ h p.
    turned_off written r.mark c.args.term.now c.handle-put.new.self last.new.self c.args.message c.handle-put.new.out.items _ _ _ (view c.args.hand.now)
    (view c.put_if-2.new.hand) r.put r.last last.result (sym c.is_done.ensures ∙ c.if-is_done.false) c.write_out-written.ensures.writes c.write_out-written.ensures.tells
    c.write_out-written.ensures.none c.handle-put.ensures.turns c.handle-put.ensures.none last.ensures.leads last.ensures.puts last.ensures.over
    (puts_two (view c.args.hand.now) (view c.put_if-is_put.new.hand) (view c.put_if-2.new.hand) (puts_of r.put) (puts_of last.result) c.in_ok-is_put.ensures.put p))

pub returns-then-is_done-clause-silent : goal.returns-then-is_done-clause-silent
returns-then-is_done-clause-silent g c over = c.write_out-written.ensures.silent (c.handle-put.ensures.turns.idle over).0

pub returns-clause-silent : goal.returns-clause-silent
returns-clause-silent g c over = c.write_out-written.ensures.silent (c.handle-put.ensures.turns.idle over).0
