use Rattle.std.proofs.Common.{rules}
use Rattle.tn_discipline.specs.Characters.{AreAllowed}
use Rattle.tn_discipline.proofs.Allowed.{found_exactly}
use Rattle.tn_discipline.proofs.characters.Chars.holder.Goals as goal

pub returns-clause-found : goal.returns-clause-found
returns-clause-found c =
    let allowed : AreAllowed c.args.self.now = search rules in
    found_exactly c.args.self.now c.args.byte c.first_with.result allowed c.first_with.ensures
