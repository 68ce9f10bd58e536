use Rattle.std.proofs.Common.{◌++◌, length, ap, subst, ◌∙◌, ℕ, List}
use Rattle.tn_nvt.specs.Room.{LacksRoom}
use Rattle.tn_client.proofs.Growing.{spells_bytes}
use Rattle.tn_client.proofs.sending.put_bytes.Goals as goal

pub returns-in-Ok-clause-ok : goal.returns-in-Ok-clause-ok
returns-in-Ok-clause-ok c = c.in-Ok.ensures.ok ∙ ap (λ (xs : List ℕ). c.args.out.now.items ++ xs) (spells_bytes c.args.bytes.now)

pub returns-in-Err-clause-full : goal.returns-in-Err-clause-full
returns-in-Err-clause-full c = subst (λ (xs : List ℕ). LacksRoom c.args.out.now (length xs)) (spells_bytes c.args.bytes.now) c.in-Err.ensures.full
