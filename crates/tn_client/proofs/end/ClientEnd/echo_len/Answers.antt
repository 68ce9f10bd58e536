use Rattle.std.proofs.Common.{◌≡◌, false, sym, ◌∙◌}
use Rattle.tn_client.specs.Terms.{is_echoed}
use Rattle.tn_client.proofs.end.ClientEnd.echo_len.Goals as goal

pub returns-clause-value : goal.returns-clause-value
returns-clause-value c =
    let off : is_echoed c.args.self.now.options ≡ false = sym c.is_echoed.ensures ∙ c.if-is_echoed.false in
    rw (off, ← c.self.view_is) (c.shown_len.ensures.value c.self.inside.mode c.self.inside.table)
