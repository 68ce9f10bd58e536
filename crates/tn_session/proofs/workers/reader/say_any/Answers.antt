use Rattle.std.proofs.Common.{Option, option_to_list, subst, sym, ap, ◌∙◌, append-nil}
use Rattle.crossbeam_channel.specs.Claims.{view}
use Rattle.tn_cores.specs.declared.messages.Message.{Message}
use Rattle.tn_session.specs.workers.{Mailbox.sender, Reader.SaysAll}
use Rattle.tn_session.proofs.workers.reader.say_any.Goals as goal

pub returns-in-None-clause-said : goal.returns-in-None-clause-said
returns-in-None-clause-said g c =
    subst (λ (m : Option Message). SaysAll c.args.who (option_to_list m) (view c.args.pass.now) (view c.args.pass.now)) (sym c.in-None.is)
    (λ l e. e ∙ ap (sender c.args.who) (sym (append-nil l)))
