use Rattle.tn_pty.specs.declared.pty.Input.TheVariants.{Edited}
use Rattle.tn_pty.proofs.lemmas.Typed.{run_advance_or, run_entries_or}
use Rattle.tn_pty.proofs.pty.Pair.edited_run.Goals as goal

pub returns-clause-advances : goal.returns-clause-advances
returns-clause-advances c = run_advance_or Edited c.take_each.result c.args.self.now c.take_each.new.self c.args.bytes.now c.take_each.ensures.pair

pub returns-clause-entries : goal.returns-clause-entries
returns-clause-entries c = run_entries_or Edited c.take_each.result c.args.self.now c.take_each.new.self c.args.bytes.now c.take_each.ensures.pair

pub returns-clause-pair : goal.returns-clause-pair
returns-clause-pair c = c.take_each.ensures.pair

pub returns-clause-accepted : goal.returns-clause-accepted
returns-clause-accepted c = c.take_each.ensures.accepted

pub returns-clause-refused : goal.returns-clause-refused
returns-clause-refused c = c.take_each.ensures.refused
