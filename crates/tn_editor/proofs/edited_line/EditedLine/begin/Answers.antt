use Rattle.std.proofs.Common.{arith}
use Rattle.tn_editor.proofs.EditedLines.{few_listed}
use Rattle.tn_editor.proofs.edited_line.EditedLine.begin.Goals as goal

pub push_reserved-requires : goal.push_reserved-requires
push_reserved-requires c =
    let i = c.self.invariant in
    let few = few_listed c.self.inside.characters.items i.1 in
    omega (arith, few, i.0, c.requires, i.4)
