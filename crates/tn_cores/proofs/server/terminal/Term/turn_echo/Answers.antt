use Rattle.std.proofs.Common.{Err, ap, refl, sym, ◌∙◌}
use Rattle.tn_server.specs.Events.{next, echo_set}
use Rattle.tn_server.proofs.lemmas.{Leading.says_as, Wanting.says_something}
use Rattle.tn_cores.proofs.of_terminal.{Doing.{does_follow, does_nothing}, Following.follows_call, Refusing.is_memory}
use Rattle.tn_cores.proofs.server.terminal.Term.turn_echo.Goals as goal

pub returns-in_default-clause-ok : goal.returns-in_default-clause-ok
returns-in_default-clause-ok c = rw c.in_default.is (does_nothing c.args.self.now _)

pub returns-in-Ok-clause-ok : goal.returns-in-Ok-clause-ok
returns-in-Ok-clause-ok c =
    let on = c.in-Some.on in
    rw c.in-Some.is (does_follow (λ h. next h (echo_set on)) c.args.self.now _ c.set_echo.new.self _ _ c.requires refl
    (follows_call c.args.self.now.end c.set_echo.new.self (echo_set on) _ _ tt c.in-Ok.ensures.step c.in-Ok.ensures.out))

pub returns-in-Err-clause-cause : goal.returns-in-Err-clause-cause
returns-in-Err-clause-cause c =
    let on = c.in-Some.on in
    let end = c.args.self.now.end in
    rw c.in-Some.is (λ d at.
    let l = at.live c.requires in
    let memory = is_memory end.failed c.in-Err.fault l.failed c.in-Err.ensures.fault in (
      memory,
      λ none. says_something end (echo_set on) c.args.out.now (c.in-Err.ensures.full (ap Err memory)) (sym (says_as d.history end (echo_set on) l.leads) ∙ none),
    ))
