use Rattle.tn_serve.proofs.of_services.Shown.{in_order}
use Rattle.tn_serve.proofs.services.laws.all_is_shown.Goals as goal

pub returns : goal.returns
returns g c = in_order g.R.Source.remaining g.R.Source.foretold g.R.Source.sizes g.R.Source.words
