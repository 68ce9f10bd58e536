use Rattle.tn_cores.proofs.of_terminal.Hanging.{hangs_up}
use Rattle.tn_cores.proofs.server.laws.all_goes_before_a_hang_up.Goals as goal

pub returns : goal.returns
returns c = λ opens canon approach jobs id marked new. hangs_up opens canon approach jobs id marked new c.one_job_changes.ensures.others
