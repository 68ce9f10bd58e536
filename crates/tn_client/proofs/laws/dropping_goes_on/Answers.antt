use Rattle.tn_client.proofs.Dropping.{dropping_goes_on}
use Rattle.tn_client.proofs.laws.dropping_goes_on.Goals as goal

pub returns : goal.returns
returns c = dropping_goes_on
