use Rattle.std.proofs.{Common.{sym, ◌∙◌}, lemmas.Result.err_from_is_err_and}
use Rattle.tn_server.specs.Events.{pulled}
use Rattle.tn_server.proofs.lemmas.Leading.{says_as}
use Rattle.tn_cores.proofs.of_terminal.{Following.follows_pulled, Refusing.symbols_wait}
use Rattle.tn_cores.proofs.server.terminal.pull_all.Goals as goal

pub returns-clause-ok : goal.returns-clause-ok
returns-clause-ok c = follows_pulled _ _ _ _ _ c.in_ok-pull.ensures.step c.in_ok-pull.ensures.out c.in_ok-pull.ensures.count

pub returns-in_err-pull-clause-grows : goal.returns-in_err-pull-clause-grows
returns-in_err-pull-clause-grows c = let p = err_from_is_err_and c.from_residual.result c.from_residual.ensures.1
    in rw p.1 (λ h at. symbols_wait h (λ none. c.in_err-pull.ensures.grows (sym (says_as h c.args.end.now (pulled 4096) at) ∙ none)))
