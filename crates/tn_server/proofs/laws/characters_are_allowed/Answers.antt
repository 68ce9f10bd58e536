use Rattle.tn_server.proofs.Bounding.{chars_allowed}
use Rattle.tn_server.proofs.laws.characters_are_allowed.Goals as goal

pub returns : goal.returns
returns c = chars_allowed c.tables_stay_allowed.ensures.server c.accepted_characters.ensures.allowed
