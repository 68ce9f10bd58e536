use Rattle.tn_client.proofs.Bounding.{sent_at_most}
use Rattle.tn_client.proofs.laws.sending_bounded.Goals as goal

pub returns : goal.returns
returns c = sent_at_most c.answers_name_their_function.ensures.client
