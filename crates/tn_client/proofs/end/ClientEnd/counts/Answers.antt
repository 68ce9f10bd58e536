use Rattle.std.proofs.Common.{ℕ, true, refl, ap, ◌∙◌}
use Rattle.tn_client.specs.Lines.{count_under}
use Rattle.tn_client.proofs.end.ClientEnd.counts.Goals as goal

pub returns : goal.returns
returns c =
    rw (← c.self.view_is) (record {
      value = refl;
      stands = λ h leads. ap (λ (n : ℕ). (n, c.self.inside.plain)) leads.trapped ∙ ap (λ (n : ℕ). (count_under true h, n)) leads.plain;
    })
