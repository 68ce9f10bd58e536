use Rattle.std.proofs.{Common.{◌≡◌, ◌&&◌, not, true, arith}, lemmas.{Grind.common_steps, Result.err_from_is_err_and}}
use Rattle.tn_client.specs.{Replies.is_same_size, Terms.tells_size}
use Rattle.tn_client.proofs.end.ClientEnd.set_size.Goals as goal

pub returns-in_err-put_size-clause-full : goal.returns-in_err-put_size-clause-full
returns-in_err-put_size-clause-full c =
    let old = c.self.inside in
    let told : (tells_size old.options && not (is_same_size (old.width, old.height) (c.args.width, c.args.height))) ≡ true =
    grind (arith, common_steps) in
    let p = err_from_is_err_and c.from_residual.result c.from_residual.ensures.1 in
    rw (p.1, ← c.self.view_is, told) c.in_err-put_size.ensures.full

pub returns-then-is_new-clause-out : goal.returns-then-is_new-clause-out
returns-then-is_new-clause-out c =
    let old = c.self.inside in
    let told : (tells_size old.options && not (is_same_size (old.width, old.height) (c.args.width, c.args.height))) ≡ true =
    grind (arith, common_steps) in
    rw (← c.self.view_is, told) c.in_ok-put_size.ensures.ok
