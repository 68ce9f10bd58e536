use Rattle.std.proofs.{Common.{Some, None, sym, ap, ◌∙◌, append-nil}, lemmas.Option.IfSome_then}
use Rattle.tn_session.specs.workers.Mailbox.{sender}
use Rattle.tn_session.proofs.workers.reader.tell_control.Goals as goal

pub returns-in-Some-clause-told : goal.returns-in-Some-clause-told
returns-in-Some-clause-told g c =
    IfSome_then c.say.result c.say.ensures.said (λ p f. (Some c.in-Some.control, c.in-Some.ensures.tells, f))

pub returns-in-None-clause-told : goal.returns-in-None-clause-told
returns-in-None-clause-told g c = (None, c.in-None.ensures.tells, λ l e. e ∙ ap (sender c.args.who) (sym (append-nil l)))
