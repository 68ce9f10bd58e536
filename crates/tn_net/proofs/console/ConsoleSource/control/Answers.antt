use Rattle.tn_net.proofs.console.ConsoleSource.control.Goals as goal

pub returns-clause-asked : goal.returns-clause-asked
returns-clause-asked g c = c.take.ensures.after
