use Rattle.std.proofs.Common.{false, None, ap, subst, sym, ◌∙◌}
use Rattle.crossbeam_channel.specs.Claims.{view}
use Rattle.tn_session.proofs.{ClientWhole.client_ran, Stopped.{told_words, seat_at}, lemmas.workers.Readers.sends_as}
use Rattle.tn_session.specs.{CoreTurns.CoreHandles, Client.client_report, Facts.client_result, Notes.noted_of, workers.Stops.has_stopped}
use Rattle.tn_session.specs.declared.workers.mail.Sender.TheVariants.{Net, Keys}
use Rattle.tn_cores.specs.streams.Known.{known_typing, known_writing}
use Rattle.tn_session.proofs.client.run_beside.Goals as goal

pub returns-clause-ran : goal.returns-clause-ran
returns-clause-ran g c =
    let stands = c.requires.stands in
    let ports = c.settle-ports.result in
    let started = c.args.beside.started in
    let join = c.in-Some-join in
    let returned = join.returned in
    let ended = c.in-Some in
    let keys_reader = known_typing g.K.Source.remaining g.K.Source.foretold g.K.Source.sizes g.K.Source.words g.K.Source.controls
    started.keys.promise.reader.value in
    let net_typing = known_typing g.N.Source.remaining g.N.Source.foretold g.N.Source.sizes g.N.Source.words g.N.Source.controls
    started.net.promise.reader.value in
    let net_reader = net_typing.reader in
    let writer = known_writing g.W.Drain.contents g.W.Drain.told c.args.writer.now c.run_core.new.writer in
    let screen = known_writing g.S.Drain.contents g.S.Drain.told c.args.screen.now c.run_core.new.screen in
    let same = ap (λ p. view p) c.settle-ports.ensures.told ∙ c.settle-told.ensures.same in
    client_ran c.args.core.now c.run_core.new.core (has_stopped returned.keys.stops) keys_reader net_reader writer screen (view c.args.beside.pass)
    (view c.run_core.new.pass) (view returned.net) (view returned.keys.pass) (client_result c.report.result ports)
    stands.pass_is (subst (λ n. CoreHandles c.args.core.now (view c.args.beside.pass) (view c.run_core.new.pass) writer screen n (view ports.told) c.run_core.new.core)
    (sym (ap noted_of c.settle-ports.ensures.transcript)) (subst
    (λ v. CoreHandles c.args.core.now (view c.args.beside.pass) (view c.run_core.new.pass) writer screen (noted_of ended.transcript) v c.run_core.new.core)
    (sym same) ended.ensures.acted))
    (sends_as started.net.promise.who Net started.net.promise.job None false net_typing (view returned.net) stands.net_who stands.net_job
    (join.ensures.net.1 stands.net_stays)).0
    (sends_as started.keys.promise.who Keys started.keys.promise.job None (has_stopped returned.keys.stops) keys_reader (view returned.keys.pass)
    stands.keys_who stands.keys_job join.ensures.keys.1)
    (λ on none. c.settle-told.ensures.told on (sym same ∙ none))
    c.settle-ports.ensures.settled (c.report.ensures ∙ ap client_report c.progress.ensures)

pub settle-told-requires : goal.settle-told-requires
settle-told-requires g c =
    let ended = c.in-Some.ensures.stops in
    record {
      teller = ended.1;
      told = told_words c.in-Some.ensures.acted.told (view c.run_core.new.watched.stops.pass) c.in-Some.ensures.acted.word;
      seat = seat_at c.args.beside.started.keys.promise.stops.value c.in-Some-join.returned.keys.stops c.args.beside.watched.stops c.run_core.new.watched.stops
          c.in-Some-join.ensures.stays c.requires.stands.keys_stop ended.0;
    }
