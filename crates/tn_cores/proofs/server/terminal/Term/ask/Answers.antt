use Rattle.std.proofs.Common.{sym, ap, ◌∙◌}
use Rattle.tn_server.specs.Events.{took}
use Rattle.tn_server.proofs.lemmas.Leading.{says_as}
use Rattle.tn_cores.specs.declared.server.progress.ServerProgress.{ServerProgress}
use Rattle.tn_cores.proofs.of_terminal.Doing.{does_answer, does_wait, of_some, of_none}
use Rattle.tn_cores.proofs.server.terminal.Term.ask.Goals as goal

pub returns-in-Ok-Some-clause-ok : goal.returns-in-Ok-Some-clause-ok
returns-in-Ok-Some-clause-ok c =
    does_answer c.args.self.now _ c.take.new.self c.in-Ok-Some.entry _ _ c.requires
    (ap (λ (p : ServerProgress). record c.args.self.now { end = c.take.new.self; progress = p }) c.answered-self.ensures) c.in-Ok-Some.ensures.step
    c.in-Ok-Some.ensures.out (of_some _ _ c.in-Ok-Some.field-0 _ c.in-Ok-Some.field-0-is c.in-Ok-Some.ensures.entry)

pub returns-in-Ok-None-clause-ok : goal.returns-in-Ok-None-clause-ok
returns-in-Ok-None-clause-ok c =
    does_wait c.args.self.now _ c.take.new.self _ _ _ c.requires
    (ap (λ (p : ServerProgress). record c.args.self.now { end = c.take.new.self; progress = p }) c.unanswered-self.ensures) c.end_if-put.ensures
    c.in-Ok-None.ensures.step c.in-Ok-None.ensures.out (of_none _ _ c.in-Ok-None.field-0 c.in-Ok-None.field-0-is c.in-Ok-None.ensures.entry)

pub returns-in-Err-clause-grows : goal.returns-in-Err-clause-grows
returns-in-Err-clause-grows c = λ d at none. c.in-Err.ensures.grows (sym (says_as d.history c.args.self.now.end took (at.live c.requires).leads) ∙ none)
