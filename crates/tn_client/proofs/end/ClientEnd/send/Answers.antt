use Rattle.std.proofs.Common.{[], ◌∷◌, ◌++◌, ap, ◌∙◌}
use Rattle.tn_codes.specs.declared.codes.Command.{Command}
use Rattle.tn_nvt.specs.{Spelling.spells, declared.items.Item.TheVariants.Cmd}
use Rattle.tn_client.proofs.end.ClientEnd.send.Goals as goal
use Rattle.tn_client.proofs.end.ClientEnd.send.Goals.{in-Ok, in-Err}

pub returns-clause-out : goal.returns-clause-out
returns-clause-out c = elim c.match-put_cmd.branch [
  | in-Ok w ↦ rw w.result-is (w.in-Ok.ensures.ok ∙ ap (λ (x : Command). c.args.out.now.items ++ spells (Cmd x ∷ [])) c.command.ensures)
  | in-Err w ↦ rw w.result-is tt
]
