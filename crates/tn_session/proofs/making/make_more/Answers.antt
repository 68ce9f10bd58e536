use Rattle.tn_session.proofs.{Makers.{one_last, one_more}, Numbering.queue_more}
use Rattle.tn_session.proofs.making.make_more.Goals as goal

pub returns-clause-more : goal.returns-clause-more
returns-clause-more g c =
    let m = queue_more g.J.Job.fresh c.args.made.table c.add.new.self c.args.made.first c.args.made.queue.items c.push_back.new.self.items
    (record { id = c.in-Ok.id; job = c.args.job }) c.requires.made.numbered c.in-Ok.ensures.adds c.in-Ok-push_back.ensures.items c.requires.fresh
    c.requires.made.queue in
    record { numbered = m.0; queue = m.1; job = c.requires.made.job }

pub returns-clause-one : goal.returns-clause-one
returns-clause-one g c = one_more c.args.made.queue.items c.push_back.new.self.items
    (record { id = c.in-Ok.id; job = c.args.job }) c.in-Ok-push_back.ensures.items

pub returns-clause-next : goal.returns-clause-next
returns-clause-next g c = one_last c.args.made.queue.items c.push_back.new.self.items
    (record { id = c.in-Ok.id; job = c.args.job }) c.in-Ok-push_back.ensures.items
