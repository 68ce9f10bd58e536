use Rattle.crossbeam_channel.specs.Claims.{view}
use Rattle.tn_session.specs.workers.Mailbox.{mail as mail_of}
use Rattle.tn_session.proofs.Mailbox.{sends, sender_share}
use Rattle.tn_session.proofs.waiting.WaitingPost.say.Goals as goal

pub send_as-requires-clause-rule : goal.send_as-requires-clause-rule
send_as-requires-clause-rule g c = (
  sends _ c.args.pass.now.id (view c.args.pass.now) (mail_of c.args.who c.args.message) c.requires.role.0
      (sender_share c.args.who c.requires.role.0 (view c.args.pass.now) c.requires.role.1),
  λ items views kept at. tt,
)
