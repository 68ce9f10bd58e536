use Rattle.std.proofs.{Common.{◌≡◌, arith, subst}, lemmas.Grind.common_steps}
use Rattle.tn_discipline.specs.{HalfLine.line_after, Keys.literal_role, Advancing.Advances}
use Rattle.tn_discipline.proofs.lemmas.{KeyRoles.literal_roles, Lines.advances}
use Rattle.tn_pty.specs.Typing.{gain_of}
use Rattle.tn_pty.proofs.pty.Pair.edited_byte.Goals as goal

pub returns-in-Ok-clause-advances : goal.returns-in-Ok-clause-advances
returns-in-Ok-clause-advances c =
    let old = c.args.self.now in
    let r = literal_role old.settings.chars c.args.byte in
    let line : c.enter.new.self.line ≡ line_after old.line r = grind (arith, common_steps) in
    subst (λ roles. Advances old.line roles (gain_of old.line r) c.enter.new.self.line) (literal_roles old.settings.chars c.args.byte)
    (rw line (advances old.line r))
