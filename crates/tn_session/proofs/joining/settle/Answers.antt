use Rattle.crossbeam_channel.specs.Claims.{view}
use Rattle.tn_session.proofs.{Mailbox.{joins, totals, cut}, Whole.settles}
use Rattle.tn_cores.proofs.lemmas.queue.Queue as channel
use Rattle.tn_session.specs.declared.workers.mail.Sender.TheVariants.{Net, Desk, Back}
use Rattle.tn_session.proofs.joining.settle.Goals as goal

pub absorb-requires-clause-rule : goal.absorb-requires-clause-rule
absorb-requires-clause-rule c = joins c.args.passes.mails.id (view c.args.passes.mails) c.args.returned.net.id (view c.args.returned.net)

pub absorb-requires-2-clause-rule : goal.absorb-requires-2-clause-rule
absorb-requires-2-clause-rule c = joins c.absorb.new.pass.id (view c.absorb.new.pass) c.args.returned.desk.id (view c.args.returned.desk)

pub absorb-requires-3-clause-rule : goal.absorb-requires-3-clause-rule
absorb-requires-3-clause-rule c = joins c.absorb-2.new.pass.id (view c.absorb-2.new.pass) c.args.returned.back.pass.id (view c.args.returned.back.pass)

pub learn_as-requires-clause-rule : goal.learn_as-requires-clause-rule
learn_as-requires-clause-rule c = totals c.absorb-3.new.pass.id (view c.absorb-3.new.pass)

pub absorb-requires-4-clause-rule : goal.absorb-requires-4-clause-rule
absorb-requires-4-clause-rule c = channel.joins c.args.passes.hand.id (view c.args.passes.hand) c.args.returned.took.id (view c.args.returned.took)

pub learn_as-requires-2-clause-rule : goal.learn_as-requires-2-clause-rule
learn_as-requires-2-clause-rule c = channel.leaves c.absorb-4.new.pass.id (view c.absorb-4.new.pass)

pub another-net-requires-clause-rule : goal.another-net-requires-clause-rule
another-net-requires-clause-rule c = cut Net c.learn_as.new.pass.id (view c.learn_as.new.pass)

pub another-desk-requires-clause-rule : goal.another-desk-requires-clause-rule
another-desk-requires-clause-rule c = cut Desk c.another-net.new.pass.id (view c.another-net.new.pass)

pub another-back-requires-clause-rule : goal.another-back-requires-clause-rule
another-back-requires-clause-rule c = cut Back c.another-desk.new.pass.id (view c.another-desk.new.pass)

pub another-took-requires-clause-rule : goal.another-took-requires-clause-rule
another-took-requires-clause-rule c = channel.cut_taker c.learn_as-2.new.pass.id (view c.learn_as-2.new.pass)

pub returns-clause-settled : goal.returns-clause-settled
returns-clause-settled c =
    settles (view c.args.passes.mails) (view c.args.returned.net) (view c.args.returned.desk) (view c.args.returned.back.pass) (view c.args.passes.hand)
    (view c.args.returned.took)
    (view c.absorb.new.pass) (view c.absorb-2.new.pass) (view c.absorb-3.new.pass) (view c.learn_as.new.pass) (view c.another-net.result)
    (view c.another-net.new.pass) (view c.another-desk.result) (view c.another-desk.new.pass) (view c.another-back.result) (view c.another-back.new.pass)
    (view c.absorb-4.new.pass) (view c.learn_as-2.new.pass) (view c.another-took.new.pass) (view c.another-took.result) (view c.args.teller.pass)
    (view c.settle-told.result)
    c.absorb.ensures.rule c.absorb-2.ensures.rule c.absorb-3.ensures.rule c.learn_as.ensures.channel.2 c.learn_as.ensures.rule
    c.absorb-4.ensures.rule c.learn_as-2.ensures.channel.2 c.learn_as-2.ensures.rule
    c.another-net.ensures.rule.1 c.another-net.ensures.rule.0 c.another-desk.ensures.rule.1 c.another-desk.ensures.rule.0 c.another-back.ensures.rule.1
    c.another-back.ensures.rule.0 c.another-took.ensures.rule.0 c.another-took.ensures.rule.1 c.settle-told.ensures.same
