use Rattle.std.proofs.lemmas.Result.{on_err_weaker}
use Rattle.tn_server.proofs.Listing.{table_some}
use Rattle.tn_server.proofs.terms.put_table.Goals as goal

pub returns-clause-some : goal.returns-clause-some
returns-clause-some c =
    rw (c.if-was_on.false, c.if-not-is_on.false) (on_err_weaker c.announce.result (λ _. table_some c.args.table.now) c.announce.ensures.err)
