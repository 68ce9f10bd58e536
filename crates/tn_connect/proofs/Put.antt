-- The bytes that a client's session put into its queue, which held nothing.
use Rattle.std.proofs.Common.{◌≡◌, ℕ, List, [], Option, Some, None, Result, Ok, Err, IfOk, subst, sym}
use Rattle.crossbeam_channel.specs.Claims.{view}
use Rattle.tn_connect.specs.{Clients.{RunsClient, RunsWriting}, declared.connected.Connected.Connected}
use Rattle.tn_cores.specs.{declared.faults.SessionFault.SessionFault, queue.Queue.putter, streams.Beside.no_words}
use Rattle.tn_cores.specs.streams.Known.{KnownReader, KnownTyping, KnownWriting}
use Rattle.tn_session.specs.{Client.RunningClient, Facts.{Window, client_result}, declared.parties.{ClientPorts.ClientPorts, Report.Report}}
use Rattle.tn_net.specs.Queue.{PieceHand, PiecePass, put_bytes}

abbrev pub writing : Option (List ℕ) → Option (List ℕ) → KnownWriting
writing old new = record { before = record { bytes = old; calls = None }; after = record { bytes = new; calls = None } }

abbrev pub unforeseen : KnownReader
unforeseen = record { bytes = None; failures = None; sizes = Some []; words = no_words }

module _ (window : Window) (keys : KnownTyping) (seen now : Option (List ℕ)) where
  pub runs : (old : PieceHand) (put : Option (List ℕ)) → old ≡ putter [] → (r : Result (Report × ClientPorts) SessionFault)
      → IfOk r (λ r. RunningClient window keys unforeseen (writing (put_bytes old) put) (writing seen now) (client_result r.0 r.1))
      → IfOk r (λ r. RunsWriting window keys seen now put r.0 r.1)
  runs old put e (Err x) h = tt
  runs old put e (Ok x) h =
      subst (λ (v : PieceHand). RunningClient window keys unforeseen (writing (put_bytes v) put) (writing seen now) (client_result x.0 x.1)) e h

  -- the queue has what was put
  pub still : (put queue : Option (List ℕ)) → queue ≡ put → (r : Result (Report × ClientPorts) SessionFault)
      → IfOk r (λ r. RunsWriting window keys seen now put r.0 r.1) → IfOk r (λ r. RunsWriting window keys seen now queue r.0 r.1)
  still put queue e r h =
      let P : Option (List ℕ) → Type 0 = λ o. IfOk r (λ r. RunsWriting window keys seen now o r.0 r.1) in
      subst P (sym e) h

  -- a session that is over ran as a client that writes what was put
  pub gives : (ended : Result (Report × ClientPorts) SessionFault) (queue : PiecePass) (r : Connected) → ended ≡ Ok (r.report, r.ports) → r.queue ≡ queue
      → IfOk ended (λ r. RunsWriting window keys seen now (put_bytes (view queue)) r.0 r.1) → RunsClient window keys seen now r
  gives ended queue r e same h =
      let P : Result (Report × ClientPorts) SessionFault → Type 0 = λ x. IfOk x (λ u. RunsWriting window keys seen now (put_bytes (view queue)) u.0 u.1) in
      let one : RunsWriting window keys seen now (put_bytes (view queue)) r.report r.ports = subst P e h in
      subst (λ (q : PiecePass). RunsWriting window keys seen now (put_bytes (view q)) r.report r.ports) (sym same) one
