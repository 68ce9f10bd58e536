use Rattle.tn_server.proofs.OtherClients.{plain_lines, text_unechoed, never_echoes}
use Rattle.tn_server.proofs.laws.plain_clients.Goals as goal

pub returns : goal.returns
returns c = record { lines = plain_lines; unechoed = text_unechoed; off = never_echoes }
