use Rattle.tn_discipline.proofs.lemmas.Histories.{half_of-fits}
use Rattle.tn_server.specs.{Events.limit, Lines.roles}
use Rattle.tn_server.proofs.Overflowing.{queue_fits}
use Rattle.tn_server.proofs.laws.nothing_overflows.Goals as goal

pub returns-clause-symbols : goal.returns-clause-symbols
returns-clause-symbols c = queue_fits

pub returns-clause-half : goal.returns-clause-half
returns-clause-half c = λ h. half_of-fits (limit h) (roles h)
