use Rattle.std.proofs.Common.{[], ap}
use Rattle.crossbeam_channel.specs.Claims.{view}
use Rattle.tn_cores.proofs.lemmas.queue.Queue as channel
use Rattle.tn_session.proofs.Stopped.{not_told, told_now}
use Rattle.tn_session.proofs.stops.StopTeller.tell.Goals as goal

pub send_as-requires-clause-rule : goal.send_as-requires-clause-rule
send_as-requires-clause-rule g c =
    let none = not_told c.args.told (view c.args.self.now.pass) c.if-told.false c.requires.word in (
      channel.puts _ c.args.self.now.pass.id (view c.args.self.now.pass) _ [] (ap (λ v. v.put) none),
      channel.leaves c.args.self.now.pass.id (view c.args.self.now.pass),
    )

pub returns-in-Ok-clause-word : goal.returns-in-Ok-clause-word
returns-in-Ok-clause-word g c = told_now (view c.args.self.now.pass) _ _
    (not_told c.args.told (view c.args.self.now.pass) c.if-told.false c.requires.word) c.in-Ok.ensures.rule
