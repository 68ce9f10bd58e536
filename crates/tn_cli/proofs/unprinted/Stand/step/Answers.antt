use Rattle.tn_cli.proofs.Watching.{verb_option}
use Rattle.tn_cli.proofs.unprinted.Stand.step.Goals as goal

pub returns-in-AfterVerb : goal.returns-in-AfterVerb
returns-in-AfterVerb c = rw c.in-AfterVerb.is (verb_option c.args.byte)
