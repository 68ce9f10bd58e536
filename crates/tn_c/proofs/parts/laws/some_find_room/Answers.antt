use Rattle.tn_c.proofs.of_parts.FindingRoom.{some_fit}
use Rattle.tn_c.proofs.parts.laws.some_find_room.Goals as goal

pub returns : goal.returns
returns c = some_fit c.pieces_find_room.ensures.room
