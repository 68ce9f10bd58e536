use Rattle.std.proofs.lemmas.Result.{err_from_is_err_and}
use Rattle.tn_cores.proofs.server.terminal.Term.show_if.Goals as goal

pub returns-in_err-show-clause-grows : goal.returns-in_err-show-clause-grows
returns-in_err-show-clause-grows c = let p = err_from_is_err_and c.from_residual.result c.from_residual.ensures.1
    in rw p.1 (λ d at. rw c.if-writes.true (c.in_err-show.ensures.grows d at))
