use Rattle.tn_server.proofs.OtherClients.{whole_entries, whole_half}
use Rattle.tn_server.proofs.laws.whole_lines.Goals as goal

pub returns : goal.returns
returns c = record { entries = whole_entries; half = whole_half }
