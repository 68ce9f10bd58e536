use Rattle.tn_client.proofs.Bounding.{said_at_most}
use Rattle.tn_client.proofs.laws.replies_bounded.Goals as goal

pub returns : goal.returns
returns c = said_at_most c.answers_name_their_function.ensures.client
