use Rattle.crossbeam_channel.specs.Ends.{sends_on}
use Rattle.tn_connect.proofs.connecting.connect.Given as goal

-- the queue is this one
abbrev pub ghosts-talk_and_send : goal.ghosts-talk_and_send
ghosts-talk_and_send g a = record {
  table = (sends_on a.opened.queue.to).stamps.shared.table_id;
  key = (sends_on a.opened.queue.to).stamps.shared.key;
}
