use Rattle.std.proofs.Common.{◌≡◌, Ok}
use Rattle.crossbeam_channel.specs.Claims.{view}
use Rattle.tn_net.proofs.lemmas.Sent.{is_sent}
use Rattle.tn_net.specs.{Logs.logged, declared.sending.Sent.TheVariants.Whole}
use Rattle.tn_connect.proofs.connecting.talk_and_send.Goals as goal

pub returns-clause-sent : goal.returns-clause-sent
returns-clause-sent g c =
    let delivered = c.join-sent.result in
    is_sent (view c.end.new.self.pass) (view delivered.taker) (view c.settle-queue.result) c.settle-queue.ensures
    (delivered.sent ≡ Ok Whole) (logged delivered.log) c.join-sent.ensures.sent c.join-sent.ensures.whole
