use Rattle.tn_server.proofs.Overflowing.{entries_fit, waiting_texts_fit}
use Rattle.tn_server.proofs.laws.texts_fit.Goals as goal

pub returns : goal.returns
returns c = record { entries = entries_fit; waiting = waiting_texts_fit }
