use Rattle.tn_cores.proofs.lemmas.server.Welcoming.{stays_in_reach}
use Rattle.tn_cores.proofs.server.laws.welcome_messages_find_room.Goals as goal

pub returns : goal.returns
returns c = stays_in_reach
