use Rattle.crossbeam_channel.specs.Claims.{view}
use Rattle.tn_session.proofs.{ClientWhole.ready_two, Mailbox.{starts, cut}}
use Rattle.tn_session.specs.declared.workers.mail.Sender.TheVariants.{Net, Keys}
use Rattle.tn_session.proofs.client.make_mailbox.Goals as goal

pub bounded_with-requires-clause-rule : goal.bounded_with-requires-clause-rule
bounded_with-requires-clause-rule c = starts

pub another-net-requires-clause-rule : goal.another-net-requires-clause-rule
another-net-requires-clause-rule c = cut Net c.in_ok-to.pass.id (view c.in_ok-to.pass)

pub another-keys-requires-clause-rule : goal.another-keys-requires-clause-rule
another-keys-requires-clause-rule c = cut Keys c.another-net.new.pass.id (view c.another-net.new.pass)

pub returns : goal.returns
returns c =
    let b = c.in_ok-to.ensures in
    let v = ready_two (view c.in_ok-to.pass) (view c.another-net.new.pass) (view c.another-keys.new.pass) (view c.another-net.result)
    (view c.another-keys.result) b.3 c.another-net.ensures.rule.0 c.another-net.ensures.rule.1 c.another-keys.ensures.rule.0 c.another-keys.ensures.rule.1
    in
    record {
      one_mailbox = b.0;
      mails = b.1;
      net_to = c.in_ok-net_to.ensures;
      keys_to = c.in_ok-keys_to.ensures;
      pass = c.another-keys.ensures.channel.0;
      net = c.another-net.ensures.channel.2;
      keys = c.another-keys.ensures.channel.2;
      pass_is = v.0;
      net_is = v.1;
      keys_is = v.2;
    }
