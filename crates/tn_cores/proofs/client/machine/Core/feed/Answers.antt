use Rattle.std.proofs.{Common.{ap, Err, ◌<◌}, lemmas.{List.Elements.All-from_get_or, Result.err_from_is_err_and}}
use Rattle.tn_cores.proofs.of_core.{Doing.{does_feed, feed_stops}, Refusing.feed_cause}
use Rattle.tn_cores.specs.declared.client.progress.ClientProgress.{ClientProgress}
use Rattle.tn_cores.proofs.client.machine.Core.feed.Goals as goal

pub returns-clause-ok : goal.returns-clause-ok
returns-clause-ok c =
    does_feed c.args.piece.now c.args.self.now _ c.feed.new.self _ _ _ _
    (All-from_get_or (λ b. b < 256) c.args.piece.now 0 (λ i within. (c.type_inv.piece i).fits)) c.requires
    (ap (λ (p : ClientProgress). record { end = c.feed.new.self; progress = p }) c.fed-self.ensures) c.in_ok-feed.ensures.ok

pub returns-in_err-feed-clause-err : goal.returns-in_err-feed-clause-err
returns-in_err-feed-clause-err c =
    let p = err_from_is_err_and c.from_residual.result c.from_residual.ensures.1 in
    rw p.1 (feed_stops c.args.piece.now c.args.self.now _ c.feed.new.self _ _ _ _ _
    (All-from_get_or (λ b. b < 256) c.args.piece.now 0 (λ i within. (c.type_inv.piece i).fits)) c.requires
    (ap (λ (p : ClientProgress). record { end = c.feed.new.self; progress = p }) c.fed-self.ensures) c.in_err-feed.ensures.failed
    (λ e. c.in_err-feed.ensures.memory (ap Err e)) (λ e. c.in_err-feed.ensures.again (ap Err e)))

pub returns-in_err-feed-clause-cause : goal.returns-in_err-feed-clause-cause
returns-in_err-feed-clause-cause c =
    let p = err_from_is_err_and c.from_residual.result c.from_residual.ensures.1 in
    rw (p.1, p.2) (feed_cause c.args.piece.now c.args.self.now _ _ _ _ _
    (All-from_get_or (λ b. b < 256) c.args.piece.now 0 (λ i within. (c.type_inv.piece i).fits)) c.requires c.in_err-feed.ensures.failed
    (λ e. c.in_err-feed.ensures.memory (ap Err e)))
