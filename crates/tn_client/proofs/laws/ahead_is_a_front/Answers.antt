use Rattle.tn_client.proofs.lemmas.Histories.{ahead-within, parts-whole}
use Rattle.tn_client.proofs.laws.ahead_is_a_front.Goals as goal

pub returns-clause-within : goal.returns-clause-within
returns-clause-within c = ahead-within

pub returns-clause-parts : goal.returns-clause-parts
returns-clause-parts c = parts-whole
