use Rattle.std.proofs.{Common.{ap, Err, ◌<◌}, lemmas.List.Elements.All-from_get_or}
use Rattle.tn_cores.specs.declared.server.progress.ServerProgress.{ServerProgress}
use Rattle.tn_cores.proofs.of_terminal.{Breaking.feed_breaks, Doing.feeds, Refusing.feed_cause}
use Rattle.tn_cores.proofs.server.terminal.Term.feed.Goals as goal

pub returns-in-Ok-clause-ok : goal.returns-in-Ok-clause-ok
returns-in-Ok-clause-ok c =
    feeds c.args.self.now _ c.feed.new.self c.args.piece.now _ _
    (All-from_get_or (λ b. b < 256) c.args.piece.now 0 (λ i within. (c.type_inv.piece i).fits)) c.requires
    (ap (λ (p : ServerProgress). record c.args.self.now { end = c.feed.new.self; progress = p }) c.fed-self.ensures) c.in-Ok.ensures.ok

pub returns-in-Err-clause-err : goal.returns-in-Err-clause-err
returns-in-Err-clause-err c =
    feed_breaks c.args.self.now _ c.feed.new.self c.args.piece.now _ _ c.in-Err.fault c.requires
    (ap (λ (p : ServerProgress). record c.args.self.now { end = c.feed.new.self; progress = p }) c.fed-self-in-Err.ensures)
    (All-from_get_or (λ b. b < 256) c.args.piece.now 0 (λ i within. (c.type_inv.piece i).fits)) c.in-Err.ensures.halts
    (λ e. (c.in-Err.ensures.failed.0 (ap Err e), c.in-Err.ensures.failed_appends (ap Err e))) c.in-Err.ensures.of_piece

pub returns-in-Err-clause-cause : goal.returns-in-Err-clause-cause
returns-in-Err-clause-cause c =
    feed_cause c.args.self.now c.feed.new.self c.args.piece.now _ _ c.in-Err.fault c.requires
    (All-from_get_or (λ b. b < 256) c.args.piece.now 0 (λ i within. (c.type_inv.piece i).fits)) c.in-Err.ensures.halts
    (λ e. c.in-Err.ensures.failed.0 (ap Err e)) (λ e. c.in-Err.ensures.shut (ap Err e)) c.in-Err.ensures.of_piece
