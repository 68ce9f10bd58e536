use Rattle.crossbeam_channel.specs.Claims.{view}
use Rattle.tn_session.proofs.{Mailbox.{starts, cut}, Credits.cuts, Whole.{ready_views, ready_hands}}
use Rattle.tn_cores.proofs.lemmas.queue.Queue as channel
use Rattle.tn_session.specs.declared.workers.mail.Sender.TheVariants.{Net, Desk, Back}
use Rattle.tn_session.proofs.session.make_channels.Goals as goal

pub bounded_with-requires-clause-rule : goal.bounded_with-requires-clause-rule
bounded_with-requires-clause-rule c = starts

pub bounded_with-requires-2-clause-rule : goal.bounded_with-requires-2-clause-rule
bounded_with-requires-2-clause-rule c = channel.starts

pub bounded_with-requires-3-clause-rule : goal.bounded_with-requires-3-clause-rule
bounded_with-requires-3-clause-rule c = tt

pub another-taken-requires-clause-rule : goal.another-taken-requires-clause-rule
another-taken-requires-clause-rule c = cuts c.in_ok-give.credit.id (view c.in_ok-give.credit)

pub another-net-requires-clause-rule : goal.another-net-requires-clause-rule
another-net-requires-clause-rule c = cut Net c.in_ok-to.mails.id (view c.in_ok-to.mails)

pub another-desk-requires-clause-rule : goal.another-desk-requires-clause-rule
another-desk-requires-clause-rule c = cut Desk c.another-net.new.pass.id (view c.another-net.new.pass)

pub another-back-requires-clause-rule : goal.another-back-requires-clause-rule
another-back-requires-clause-rule c = cut Back c.another-desk.new.pass.id (view c.another-desk.new.pass)

pub another-took-requires-clause-rule : goal.another-took-requires-clause-rule
another-took-requires-clause-rule c = channel.cut_taker c.in_ok-put.hand.id (view c.in_ok-put.hand)

pub returns : goal.returns
returns c =
    let b = c.in_ok-to.ensures in
    let q = c.in_ok-put.ensures in
    let v = ready_views (view c.in_ok-to.mails) (view c.another-net.new.pass) (view c.another-desk.new.pass) (view c.another-back.new.pass)
    (view c.another-net.result) (view c.another-desk.result)
    (view c.another-back.result) b.3 c.another-net.ensures.rule.0 c.another-net.ensures.rule.1 c.another-desk.ensures.rule.0 c.another-desk.ensures.rule.1
    c.another-back.ensures.rule.0 c.another-back.ensures.rule.1 in
    let h = ready_hands (view c.in_ok-put.hand) (view c.another-took.new.pass)
    (view c.another-took.result) q.3 c.another-took.ensures.rule.0 c.another-took.ensures.rule.1 in
    record {
      one_mailbox = b.0;
      mails = b.1;
      net_to = c.in_ok-net_to.ensures;
      desk_to = c.in_ok-desk_to.ensures;
      back_to = c.in_ok-back_to.ensures;
      pass = c.another-back.ensures.channel.0;
      net = c.another-net.ensures.channel.2;
      desk = c.another-desk.ensures.channel.2;
      back = c.another-back.ensures.channel.2;
      pass_is = v.0;
      net_is = v.1;
      desk_is = v.2;
      back_is = v.3;
      one_channel = q.0;
      entries = q.1;
      hand = c.another-took.ensures.channel.0;
      took = c.another-took.ensures.channel.2;
      hand_is = h.0;
      took_is = h.1;
      one_credit = c.in_ok-give.ensures.0;
      give = c.another-taken.ensures.channel.0;
      credits = c.another-taken.ensures.channel.2;
      step_credits = c.in_ok-step_giver.ensures;
    }
