use Rattle.std.proofs.Common.{length, sym, ap, ◌∙◌}
use Rattle.tn_pty.proofs.Marked.{length-marked}
use Rattle.tn_pty.proofs.symbols.Queue.len.Goals as goal

pub returns-clause-len : goal.returns-clause-len
returns-clause-len c =
    let p = c.self.inside in
    c.len.ensures.len ∙ sym (length-marked p.bytes.items p.marks.items) ∙ ap length c.self.view_is
