use Rattle.std.proofs.{Common.{◌≡◌, arith, subst}, lemmas.Grind.common_steps}
use Rattle.tn_discipline.specs.{HalfLine.line_after, Keys.role_of_key, Advancing.Advances}
use Rattle.tn_discipline.proofs.lemmas.{KeyRoles.roles_of-one, Lines.advances}
use Rattle.tn_pty.specs.Typing.{gain_of}
use Rattle.tn_pty.proofs.pty.Pair.raw_key.Goals as goal

pub returns-then-echo-clause-advances : goal.returns-then-echo-clause-advances
returns-then-echo-clause-advances c =
    let old = c.args.self.now in
    let r = role_of_key old.settings c.args.key in
    let line : c.show_echo.new.self.line ≡ line_after old.line r = grind (arith, common_steps) in
    subst (λ roles. Advances old.line roles (gain_of old.line r) c.show_echo.new.self.line) (roles_of-one old.settings c.args.key)
    (rw line (advances old.line r))

pub returns-else-echo-clause-advances : goal.returns-else-echo-clause-advances
returns-else-echo-clause-advances c =
    let old = c.args.self.now in
    let r = role_of_key old.settings c.args.key in
    let line : c.enter.new.self.line ≡ line_after old.line r = grind (arith, common_steps) in
    subst (λ roles. Advances old.line roles (gain_of old.line r) c.enter.new.self.line) (roles_of-one old.settings c.args.key) (rw line (advances old.line r))
