use Rattle.std.proofs.Common.{false, Some, ap, subst, sym, ◌∙◌}
use Rattle.crossbeam_channel.specs.Claims.{view}
use Rattle.tn_session.proofs.{Whole.scheduled, Stopped.{told_words, seat_at}, lemmas.workers.Readers.sends_as}
use Rattle.tn_session.specs.{declared.workers.mail.Sender.TheVariants.Net, workers.{Acts.job_acts, Stops.has_stopped}, Facts.session_result, Session.report_of}
use Rattle.tn_session.specs.{Turns.HandlesAll, declared.parties.Report.Report, Notes.noted_of}
use Rattle.tn_cores.specs.{streams.Known.{known_typing, known_writer}, declared.server.progress.ServerProgress.ServerProgress}
use Rattle.tn_session.proofs.session.run_beside.Goals as goal

pub returns-clause-ran : goal.returns-clause-ran
returns-clause-ran g c began words first opened settings table at ew =
    let ports = c.settle-ports.result in
    let started = c.args.started in
    let back = started.back.promise in
    let join = c.in-Some-join in
    let returned = join.returned in
    let ended = c.in-Some in
    let typing = known_typing g.Rd.Source.remaining g.Rd.Source.foretold g.Rd.Source.sizes g.Rd.Source.words g.Rd.Source.controls
    started.net.promise.reader.value in
    let reader = typing.reader in
    let writer = known_writer g.W.Drain.contents g.W.Drain.told in
    scheduled (job_acts g.J.Job.reacts g.J.Job.steps g.J.Job.refuses)
    (record { first = started.desk.promise.id; job = started.desk.promise.job.value; queue = back.queue.value.items; tostop = back.tostop })
    (has_stopped returned.back.stops) words reader first (writer c.args.writer.now) (writer c.run_term.new.writer)
    (noted_of c.args.output.transcript) began c.args.term.now c.run_term.new.term (view c.args.passes.mails) (view c.args.passes.hand)
    (record {
      net = view returned.net;
      desk = view returned.desk;
      back = view returned.back.pass;
      term = view c.run_term.new.passes.mails;
      put = view c.run_term.new.passes.hand;
      took = view returned.took;
      told = view c.run_term.new.watched.stops.pass;
    })
    (session_result c.report.result ports)
    c.requires.mailbox.2 c.requires.entries.1 opened (subst (λ n.
    HandlesAll c.args.term.now (view c.args.passes.mails) (view c.run_term.new.passes.mails) (view c.args.passes.hand) (view c.run_term.new.passes.hand)
    (record { before = writer c.args.writer.now; after = writer c.run_term.new.writer }) (noted_of c.args.output.transcript) n
    (view c.run_term.new.watched.stops.pass) c.run_term.new.term) (sym (ap noted_of c.settle-ports.ensures.transcript)) ended.ensures.acted)
    (sends_as started.net.promise.who Net started.net.promise.job (Some started.desk.promise.id) false typing
    (view returned.net) c.requires.net.1 c.requires.net.3
    (join.ensures.net.1 c.requires.net.2)).0 join.ensures.desk.2
    join.ensures.back.1 c.settle-ports.ensures.stopped
    c.settle-ports.ensures.settled (c.report.ensures ∙ ap report_of c.progress.ensures)
    settings table at ew

pub returns-clause-in_reach : goal.returns-clause-in_reach
returns-clause-in_reach g c d at e = c.in-Some.ensures.in_reach d at
    (ap (λ (p : ServerProgress). p.ended) (sym c.progress.ensures) ∙ ap (λ (r : Report). r.ended) (sym c.report.ensures) ∙ e)

pub settle-ports-requires-clause-told : goal.settle-ports-requires-clause-told
settle-ports-requires-clause-told g c = told_words c.in-Some.ensures.acted.told (view c.run_term.new.watched.stops.pass) c.in-Some.ensures.acted.word

pub settle-ports-requires-clause-stops : goal.settle-ports-requires-clause-stops
settle-ports-requires-clause-stops g c = seat_at c.args.started.back.promise.stops.value c.in-Some-join.returned.back.stops c.args.watched.stops
    c.run_term.new.watched.stops c.in-Some-join.ensures.stays c.requires.stops c.in-Some.ensures.stops.0
