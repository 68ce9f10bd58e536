use Rattle.tn_serve.proofs.services.sending.SendingLines.end.Goals as goal

pub returns-clause-nothing : goal.returns-clause-nothing
returns-clause-nothing g c = record { bytes = search depth 0; calls = search depth 0 }
