use Rattle.std.proofs.Common.{ap, inl, inr}
use Rattle.tn_cores.specs.declared.{server.progress.ServerProgress.ServerProgress, messages.Message.TheVariants.Take}
use Rattle.tn_cores.proofs.of_terminal.{Handling.{with_ok, with_stuck, handled_take, stops_take, stops_ask}, Refusing.{on_err, wait_asked}}
use Rattle.tn_cores.proofs.server.terminal.Term.take.Goals as goal

pub returns-in-Ok-clause-ok : goal.returns-in-Ok-clause-ok
returns-in-Ok-clause-ok c =
    with_ok _ _ c.finish.result c.in-Ok.put (λ d. handled_take c.args.self.now c.ask.new.self c.finish.new.self _ _ _ c.in-Ok.put c.requires c.in-Ok.ensures.ok
    d) c.finish.ensures.ok

pub returns-in-Ok-clause-err : goal.returns-in-Ok-clause-err
returns-in-Ok-clause-err c =
    with_stuck c.args.self.now Take _ _ c.finish.new.self _ c.finish.result c.in-Ok.put
    (λ d. stops_take c.args.self.now c.ask.new.self c.finish.new.self _ _ _ c.in-Ok.put c.requires c.in-Ok.ensures.ok d) c.finish.ensures.err

pub returns-in-Err-clause-err : goal.returns-in-Err-clause-err
returns-in-Err-clause-err c =
    stops_ask c.args.self.now c.ask.new.self _ _ _ c.requires c.in-Err.ensures.err c.in-Err.ensures.err_appends
    (ap (λ (p : ServerProgress). record c.ask.new.self { progress = p }) c.asking-self.ensures)

pub returns-in-Ok-clause-grows : goal.returns-in-Ok-clause-grows
returns-in-Ok-clause-grows c =
    on_err _ _ c.finish.result (λ w d at. inr (wait_asked c.args.self.now c.ask.new.self _ _ _ c.in-Ok.ensures.ok w d at)) c.finish.ensures.grows

pub returns-in-Err-clause-grows : goal.returns-in-Err-clause-grows
returns-in-Err-clause-grows c = λ d at. inl (c.in-Err.ensures.grows d at)
