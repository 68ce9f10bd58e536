use Rattle.tn_server.proofs.OtherClients.{remote_entries, remote_half, remote_typed, remote_typed_half}
use Rattle.tn_server.proofs.laws.remote_clients.Goals as goal

pub returns : goal.returns
returns c = record { entries = remote_entries; half = remote_half; typed_entries = remote_typed; typed_half = remote_typed_half }
