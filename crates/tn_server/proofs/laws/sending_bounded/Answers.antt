use Rattle.tn_server.proofs.Bounding.{sent_at_most}
use Rattle.tn_server.proofs.laws.sending_bounded.Goals as goal

pub returns : goal.returns
returns c =
    sent_at_most c.tables_stay_allowed.ensures.server c.answers_name_their_function.ensures.server c.accepted_characters.ensures.allowed
