use Rattle.crossbeam_channel.specs.Claims.{view}
use Rattle.tn_session.proofs.{ClientWhole.settles_two, Mailbox.{joins, totals, cut}}
use Rattle.tn_session.specs.declared.workers.mail.Sender.TheVariants.{Net, Keys}
use Rattle.tn_session.proofs.client.settle.Goals as goal

pub absorb-requires-clause-rule : goal.absorb-requires-clause-rule
absorb-requires-clause-rule c = joins c.args.pass.id (view c.args.pass) c.args.net.id (view c.args.net)

pub absorb-requires-2-clause-rule : goal.absorb-requires-2-clause-rule
absorb-requires-2-clause-rule c = joins c.absorb.new.pass.id (view c.absorb.new.pass) c.args.keys.id (view c.args.keys)

pub learn_as-requires-clause-rule : goal.learn_as-requires-clause-rule
learn_as-requires-clause-rule c = totals c.absorb-2.new.pass.id (view c.absorb-2.new.pass)

pub another-net-requires-clause-rule : goal.another-net-requires-clause-rule
another-net-requires-clause-rule c = cut Net c.learn_as.new.pass.id (view c.learn_as.new.pass)

pub another-keys-requires-clause-rule : goal.another-keys-requires-clause-rule
another-keys-requires-clause-rule c = cut Keys c.another-net.new.pass.id (view c.another-net.new.pass)

pub returns-clause-settled : goal.returns-clause-settled
returns-clause-settled c =
    settles_two (view c.args.pass) (view c.args.net) (view c.args.keys) (view c.absorb.new.pass) (view c.absorb-2.new.pass) (view c.learn_as.new.pass)
    (view c.another-net.result) (view c.another-net.new.pass) (view c.another-keys.result) (view c.another-keys.new.pass)
    c.absorb.ensures.rule c.absorb-2.ensures.rule c.learn_as.ensures.channel.2 c.learn_as.ensures.rule
    c.another-net.ensures.rule.1 c.another-net.ensures.rule.0 c.another-keys.ensures.rule.1 c.another-keys.ensures.rule.0
