use Rattle.std.proofs.{Common.{◌≡◌, arith}, lemmas.Grind.common_steps}
use Rattle.tn_discipline.specs.HalfLine.{line_after}
use Rattle.tn_discipline.proofs.lemmas.Lines.{advances}
use Rattle.tn_pty.specs.Typing.{command_role}
use Rattle.tn_pty.proofs.pty.Pair.command.Goals as goal

pub returns-in-Ok-clause-advances : goal.returns-in-Ok-clause-advances
returns-in-Ok-clause-advances c =
    let line : c.show.new.self.line ≡ line_after c.args.self.now.line (command_role c.args.command) = grind (arith, common_steps) in
    rw line (advances c.args.self.now.line (command_role c.args.command))
