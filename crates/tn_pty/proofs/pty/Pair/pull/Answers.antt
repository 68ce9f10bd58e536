use Rattle.std.proofs.Common.{length, ap, ◌∙◌}
use Rattle.std.specs.Prelude.{min}
use Rattle.tn_pty.specs.Terminal.{Terminal}
use Rattle.tn_pty.proofs.pty.Pair.pull.Goals as goal

pub returns-clause-count : goal.returns-clause-count
returns-clause-count c =
    c.min-count.ensures ∙ ap (min c.args.max) (c.len.ensures.len ∙ ap (λ (t : Terminal). length t.queue) c.self.view_is)
