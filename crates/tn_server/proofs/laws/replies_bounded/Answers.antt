use Rattle.tn_server.proofs.Bounding.{said_at_most}
use Rattle.tn_server.proofs.laws.replies_bounded.Goals as goal

pub returns : goal.returns
returns c = said_at_most c.tables_stay_allowed.ensures.server c.answers_name_their_function.ensures.server
