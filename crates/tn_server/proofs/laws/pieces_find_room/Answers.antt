use Rattle.tn_server.proofs.lemmas.Room.{makes_few, finds_room}
use Rattle.tn_server.proofs.laws.pieces_find_room.Goals as goal

pub returns : goal.returns
returns c = record { entries = makes_few; room = finds_room }
