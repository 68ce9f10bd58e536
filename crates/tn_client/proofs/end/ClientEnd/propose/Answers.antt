use Rattle.std.proofs.Common.{[], ◌∷◌, ◌++◌, ap, ◌∙◌}
use Rattle.tn_codes.specs.declared.triples.Triple.{Triple}
use Rattle.tn_linemode.specs.Words.{list_items}
use Rattle.tn_nvt.specs.Spelling.{spells}
use Rattle.tn_client.proofs.end.ClientEnd.propose.Goals as goal
use Rattle.tn_client.proofs.end.ClientEnd.propose.Goals.{in-Err, in-Ok+in-Ok-put_triple, in-Ok+in-Err-put_triple}

pub returns-clause-out : goal.returns-clause-out
returns-clause-out c = elim c.match-propose.branch [
  | in-Err w ↦ rw w.result-is tt
  | in-Ok+in-Ok-put_triple w ↦
      rw (w.result-is, w.out-is)
      (w.in-Ok-put_triple.ensures.ok ∙ ap (λ (t : Triple). c.args.out.now.items ++ spells (list_items (t ∷ []))) w.in-Ok.ensures.triple)
  | in-Ok+in-Err-put_triple w ↦ rw w.result-is tt
]
