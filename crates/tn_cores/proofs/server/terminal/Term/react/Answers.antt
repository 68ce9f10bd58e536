use Rattle.std.proofs.{Common.{Bool, subst, sym}, lemmas.Result.err_from_is_err_and}
use Rattle.tn_cores.specs.{declared.messages.Message.TheVariants.Said, server.Reaching.StopsWithin}
use Rattle.tn_cores.proofs.of_terminal.{Breaking.{if_ok, if_err}, Handling.{handled_said, stops_said, stops_echo}, Refusing.{said_cause, echo_cause}}
use Rattle.tn_cores.proofs.server.terminal.Term.react.Goals as goal

pub returns-in_err-turn_echo-clause-err : goal.returns-in_err-turn_echo-clause-err
returns-in_err-turn_echo-clause-err c =
    let p = err_from_is_err_and c.from_residual.result c.from_residual.ensures.1 in
    rw (p.1, p.2) (stops_echo c.args.id c.args.text.now c.args.after c.echo_by-echo.result c.args.self.now c.turn_echo.new.self _ _ c.requires
    c.echo_by-echo.ensures c.in_err-turn_echo.ensures.err c.in_err-turn_echo.ensures.err_appends (λ d at. (c.in_err-turn_echo.ensures.cause d at).1))

pub returns-in_err-turn_echo-clause-cause : goal.returns-in_err-turn_echo-clause-cause
returns-in_err-turn_echo-clause-cause c =
    let p = err_from_is_err_and c.from_residual.result c.from_residual.ensures.1 in
    rw (p.1, p.2) (echo_cause c.args.self.now c.args.id c.args.text.now c.args.after c.echo_by-echo.result _ c.requires c.echo_by-echo.ensures
    c.in_err-turn_echo.ensures.cause)

pub returns-clause-ok : goal.returns-clause-ok
returns-clause-ok c =
    if_ok _ _ c.said.result c.said.ensures.ok (λ put says. handled_said c.args.id c.args.text.now c.args.after c.echo_by-echo.result c.args.self.now
    c.turn_echo.new.self c.requires c.echo_by-echo.ensures c.turn_echo.ensures.rest c.said.new.self _ _ _ put c.in_ok-turn_echo.ensures.ok says)

pub returns-clause-err : goal.returns-clause-err
returns-clause-err c =
    if_err _ _ c.said.result c.said.ensures.err (λ s breaks.
    let P : Bool → Type 0 = λ given. StopsWithin c.args.self.now (Said c.args.id c.args.text.now c.args.after) given c.args.out.now.items c.said.new.out.items s.put
    c.said.new.self in
    subst P (sym breaks.0) (stops_said c.args.id c.args.text.now c.args.after c.echo_by-echo.result c.args.self.now c.turn_echo.new.self c.requires
    c.echo_by-echo.ensures c.turn_echo.ensures.rest c.said.new.self _ _ _ s.put c.in_ok-turn_echo.ensures.ok breaks.1))

pub returns-clause-cause : goal.returns-clause-cause
returns-clause-cause c =
    said_cause c.args.self.now c.turn_echo.new.self c.args.id c.args.text.now c.args.after c.echo_by-echo.result _ _ c.said.result c.requires
    c.echo_by-echo.ensures c.turn_echo.ensures.rest c.in_ok-turn_echo.ensures.ok c.said.ensures.fault c.said.ensures.grows
