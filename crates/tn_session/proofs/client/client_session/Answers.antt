use Rattle.std.proofs.{Common.{IfOk, subst}, lemmas.Result.IfOk-weaker}
use Rattle.tn_session.specs.{Client.RunningClient, Facts.{Window, client_result}}
use Rattle.tn_cores.specs.streams.{Known.{known_reader, known_typing, known_writing}, Sending.IsFinished}
use Rattle.tn_session.proofs.client.client_session.Goals as goal

pub returns-clause-ran : goal.returns-clause-ran
returns-clause-ran g c =
    let result = c.run_beside.result in
    let started = c.in-Some.beside.started in
    let window : Window = record { width = c.args.width; height = c.args.height; limit = c.args.limit } in
    let keys_reader = known_typing g.K.Source.remaining g.K.Source.foretold g.K.Source.sizes g.K.Source.words g.K.Source.controls in
    let net_reader = known_reader g.N.Source.remaining g.N.Source.foretold g.N.Source.sizes g.N.Source.words in
    let writer = known_writing g.W.Drain.contents g.W.Drain.told c.start_readers.new.writer c.run_beside.new.writer in
    let screen = known_writing g.S.Drain.contents g.S.Drain.told c.args.screen.now c.run_beside.new.screen in
    let ran = IfOk-weaker result _ (λ r. RunningClient window (keys_reader started.keys.promise.reader.value)
    (net_reader started.net.promise.reader.value) writer screen (client_result r.0 r.1)) (λ r ran. ran window c.in-Ok.ensures.leads)
    c.run_beside.ensures.ran in
    let by_keys = subst (λ keys. IfOk result (λ r. RunningClient window (keys_reader keys) (net_reader started.net.promise.reader.value) writer screen
    (client_result r.0 r.1))) c.in-Some.ensures.keys ran in
    let by_net = subst (λ net. IfOk result (λ r. RunningClient window (keys_reader c.args.keys_reader) (net_reader net) writer screen
    (client_result r.0 r.1))) c.in-Some.ensures.net by_keys in
    subst (λ old. IfOk result (λ r. RunningClient window (keys_reader c.args.keys_reader) (net_reader c.args.net_reader)
    (known_writing g.W.Drain.contents g.W.Drain.told old c.run_beside.new.writer) screen (client_result r.0 r.1))) c.in-Some.ensures.unwritten by_net

pub returns-clause-finished : goal.returns-clause-finished
returns-clause-finished g c =
    subst (λ old. IfOk c.run_beside.result (λ r. IsFinished (g.W.Drain.sending old) (g.W.Drain.sending c.run_beside.new.writer)))
    c.in-Some.ensures.unwritten c.run_beside.ensures.finished
