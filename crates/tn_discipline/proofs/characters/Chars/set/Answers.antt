use Rattle.std.proofs.Common.{rules, ◌≡◌, None}
use Rattle.tn_discipline.specs.Characters.{char_fault}
use Rattle.tn_discipline.proofs.Allowed.{allowed_with}
use Rattle.tn_discipline.proofs.characters.Chars.set.Goals as goal

pub put-requires : goal.put-requires
put-requires c =
    let fine : char_fault c.args.self.now c.args.func c.args.value ≡ None = search rules in
    allowed_with c.args.self.now c.args.func c.args.value c.refusal.ensures.allowed fine

pub returns-in-None-clause-allowed : goal.returns-in-None-clause-allowed
returns-in-None-clause-allowed c =
    let fine : char_fault c.args.self.now c.args.func c.args.value ≡ None = search rules in
    rw c.put.ensures (allowed_with c.args.self.now c.args.func c.args.value c.refusal.ensures.allowed fine)
