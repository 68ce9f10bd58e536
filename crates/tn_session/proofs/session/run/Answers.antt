use Rattle.std.proofs.Common.{Bool, IfOk, subst}
use Rattle.tn_jobs.specs.declared.held_jobs.JobId.{JobId}
use Rattle.tn_session.specs.{workers.Acts.job_acts, Facts.session_result, Session.RunsOn, Notes.noted_of}
use Rattle.tn_cores.specs.streams.Known.{known_reader, known_writing}
use Rattle.tn_session.proofs.session.run.Goals as goal

pub returns-clause-ran : goal.returns-clause-ran
returns-clause-ran g c =
    let posts = c.args.posts in
    let net = c.in-Some.net in
    let desk = c.in-Ok.jobs.desk in
    let back = c.in-Ok.jobs.back in
    let acts = job_acts g.J.Job.reacts g.J.Job.steps g.J.Job.refuses in
    let reader = known_reader g.Rd.Source.remaining g.Rd.Source.foretold g.Rd.Source.sizes g.Rd.Source.words in
    let writer = known_writing g.W.Drain.contents g.W.Drain.told c.args.writer.now c.run_beside.new.writer in
    let by_id = subst (λ (id : JobId). IfOk c.run_beside.result (λ r.
    RunsOn acts (record { first = id; job = desk.promise.job.value; queue = back.promise.queue.value.items; tostop = back.promise.tostop })
    (reader net.promise.reader.value) writer (noted_of c.args.output.transcript) c.args.term.now (session_result r.0 r.1)))
    c.in-Ok.ensures.desk.2 c.run_beside.ensures.ran in
    let by_job = subst (λ job. IfOk c.run_beside.result (λ r. RunsOn acts
    (record { first = posts.first; job = job; queue = back.promise.queue.value.items; tostop = back.promise.tostop })
    (reader net.promise.reader.value) writer (noted_of c.args.output.transcript) c.args.term.now (session_result r.0 r.1)))
    c.in-Ok.ensures.desk.3 by_id in
    let by_queue = subst (λ queue. IfOk c.run_beside.result (λ r.
    RunsOn acts (record { first = posts.first; job = posts.job; queue = queue.items; tostop = back.promise.tostop })
    (reader net.promise.reader.value) writer (noted_of c.args.output.transcript) c.args.term.now (session_result r.0 r.1)))
    c.in-Ok.ensures.back.1 by_job in
    let by_tostop = subst (λ (tostop : Bool). IfOk c.run_beside.result
    (λ r. RunsOn acts (record { first = posts.first; job = posts.job; queue = posts.queue.items; tostop = tostop }) (reader net.promise.reader.value) writer
    (noted_of c.args.output.transcript) c.args.term.now (session_result r.0 r.1))) c.in-Ok.ensures.back.2 by_queue in
    subst (λ read. IfOk c.run_beside.result (λ r. RunsOn acts (record
    { first = posts.first; job = posts.job; queue = posts.queue.items; tostop = posts.tostop }) (reader read) writer
    (noted_of c.args.output.transcript) c.args.term.now (session_result r.0 r.1))) c.in-Some.ensures.1 by_tostop
