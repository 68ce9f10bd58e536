use Rattle.tn_discipline.proofs.Allowed.{allowed_with}
use Rattle.tn_discipline.proofs.laws.accepted_characters.Goals as goal

pub returns : goal.returns
returns c = record { distinct = λ chars f g byte allowed. allowed.distinct f g byte; allowed = allowed_with }
