use Rattle.std.proofs.{Common.{◌≡◌, ◌++◌, Option, Some, None, refl, sym, ◌∙◌, subst, append-nil}, lemmas.Result.err_from_is_err_and}
use Rattle.tn_client.specs.{Steps.{end_after, says, displays}, declared.commands.UserCommand.UserCommand}
use Rattle.tn_nvt.specs.Spelling.{spells}
use Rattle.tn_cores.specs.client.Commands.{command_of, event_by}
use Rattle.tn_cores.proofs.of_core.{Doing.{does_send, stops_send}, Refusing.send_cause}
use Rattle.tn_cores.proofs.client.machine.Core.send.Goals as goal

pub returns-in_ok-send-in-Some-clause-ok : goal.returns-in_ok-send-in-Some-clause-ok
returns-in_ok-send-in-Some-clause-ok c =
    let old = c.args.self.now.end in
    let is : Some c.in-Some.command ≡ command_of c.args.control = sym c.in-Some.is ∙ c.command_of.ensures in
    does_send c.args.control c.args.self.now _ _ _ _ _ c.requires refl
    (subst (λ (k : Option UserCommand). c.send.new.self ≡ end_after old (event_by k)) is c.in_ok-send-in-Some.ensures.step)
    (subst (λ (k : Option UserCommand). c.send.new.out.items ≡ c.args.out.now.items ++ spells (says old (event_by k))) is c.in_ok-send-in-Some.ensures.out)
    (subst (λ (k : Option UserCommand). c.args.screen.now.items ≡ c.args.screen.now.items ++ displays old (event_by k)) is (sym (append-nil _)))

pub returns-in_ok-new_line-in-None-clause-ok : goal.returns-in_ok-new_line-in-None-clause-ok
returns-in_ok-new_line-in-None-clause-ok c =
    let old = c.args.self.now.end in
    let is : None ≡ command_of c.args.control = sym c.in-None.is ∙ c.command_of.ensures in
    does_send c.args.control c.args.self.now _ _ _ _ _ c.requires refl
    (subst (λ (k : Option UserCommand). c.new_line.new.self ≡ end_after old (event_by k)) is c.in_ok-new_line-in-None.ensures.step)
    (subst (λ (k : Option UserCommand). c.new_line.new.out.items ≡ c.args.out.now.items ++ spells (says old (event_by k))) is c.in_ok-new_line-in-None.ensures.out)
    (subst (λ (k : Option UserCommand). c.new_line.new.screen.items ≡ c.args.screen.now.items ++ displays old (event_by k)) is
    c.in_ok-new_line-in-None.ensures.screen)

pub returns-in_err-send-in-Some-clause-err : goal.returns-in_err-send-in-Some-clause-err
returns-in_err-send-in-Some-clause-err c =
    let p = err_from_is_err_and c.from_residual.result c.from_residual.ensures.1 in
    rw p.1 (stops_send c.args.control c.args.self.now _ _ _ _ _ c.requires refl c.in_err-send-in-Some.ensures.err.out refl)

pub returns-in_err-send-in-Some-clause-cause : goal.returns-in_err-send-in-Some-clause-cause
returns-in_err-send-in-Some-clause-cause c =
    let p = err_from_is_err_and c.from_residual.result c.from_residual.ensures.1 in
    rw (p.1, p.2) (send_cause c.args.control c.args.self.now _ c.requires c.in_err-send-in-Some.ensures.failed)

pub returns-in_err-new_line-in-None-clause-err : goal.returns-in_err-new_line-in-None-clause-err
returns-in_err-new_line-in-None-clause-err c =
    let p = err_from_is_err_and c.from_residual-in_err-new_line-in-None.result c.from_residual-in_err-new_line-in-None.ensures.1 in
    let same = c.in_err-new_line-in-None.ensures.err in
    rw p.1 (stops_send c.args.control c.args.self.now _ _ _ _ _ c.requires refl same.out same.screen)

pub returns-in_err-new_line-in-None-clause-cause : goal.returns-in_err-new_line-in-None-clause-cause
returns-in_err-new_line-in-None-clause-cause c =
    let p = err_from_is_err_and c.from_residual-in_err-new_line-in-None.result c.from_residual-in_err-new_line-in-None.ensures.1 in
    rw (p.1, p.2) (send_cause c.args.control c.args.self.now _ c.requires c.in_err-new_line-in-None.ensures.failed)
