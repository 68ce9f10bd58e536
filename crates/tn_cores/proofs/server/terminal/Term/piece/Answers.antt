use Rattle.std.proofs.{Common.{true, false}, lemmas.Result.err_from_is_err_and}
use Rattle.tn_cores.specs.declared.{messages.Message.TheVariants.Piece, server.messages.Put.TheVariants.Nothing}
use Rattle.tn_cores.proofs.of_terminal.{Doing.does_nothing, Handling.{with_ok, with_stuck, handled_piece, stops_piece, stops_feed, stops_fed}}
use Rattle.tn_cores.proofs.of_terminal.Refusing.{asked_cause, fed_cause, answered_cause}
use Rattle.tn_cores.proofs.server.terminal.Term.piece.Goals as goal

pub returns-in_err-feed-clause-err : goal.returns-in_err-feed-clause-err
returns-in_err-feed-clause-err c =
    let p = err_from_is_err_and c.from_residual.result c.from_residual.ensures.1 in
    rw (p.1, p.2) (stops_feed c.args.piece.now c.args.self.now c.feed.new.self _ _ c.requires c.in_err-feed.ensures.err)

pub returns-in_ok-put-clause-ok : goal.returns-in_ok-put-clause-ok
returns-in_ok-put-clause-ok c =
    with_ok _ _ c.finish.result c.in_ok-put.put (λ d. handled_piece c.args.piece.now true c.args.self.now c.feed.new.self c.ask.new.self c.finish.new.self _ _ _
    _ c.in_ok-put.put c.requires c.if-asks.true c.in_ok-feed.ensures.ok c.in_ok-put.ensures.ok d) c.finish.ensures.ok

pub returns-in_ok-put-clause-err : goal.returns-in_ok-put-clause-err
returns-in_ok-put-clause-err c =
    with_stuck c.args.self.now (Piece c.args.piece.now) _ _ c.finish.new.self _ c.finish.result c.in_ok-put.put
    (λ d. stops_piece c.args.piece.now true c.args.self.now c.feed.new.self c.ask.new.self c.finish.new.self _ _ _ _ c.in_ok-put.put c.requires
    c.if-asks.true c.in_ok-feed.ensures.ok c.in_ok-put.ensures.ok d) c.finish.ensures.err

pub returns-in_err-put-clause-err : goal.returns-in_err-put-clause-err
returns-in_err-put-clause-err c =
    let p = err_from_is_err_and c.from_residual-in_err-put.result c.from_residual-in_err-put.ensures.1 in
    rw (p.1, p.2) (stops_fed c.args.piece.now c.args.self.now c.feed.new.self c.ask.new.self _ _ _ c.requires c.if-asks.true c.in_ok-feed.ensures.ok
    c.in_err-put.ensures.err c.in_err-put.ensures.err_appends)

pub returns-else-asks-clause-ok : goal.returns-else-asks-clause-ok
returns-else-asks-clause-ok c =
    with_ok _ _ c.finish-else-asks.result Nothing (λ d. handled_piece c.args.piece.now false c.args.self.now c.feed.new.self c.feed.new.self
    c.finish-else-asks.new.self _ _ _ _ Nothing c.requires c.if-asks.false c.in_ok-feed.ensures.ok (does_nothing c.feed.new.self _) d)
    c.finish-else-asks.ensures.ok

pub returns-else-asks-clause-err : goal.returns-else-asks-clause-err
returns-else-asks-clause-err c =
    with_stuck c.args.self.now (Piece c.args.piece.now) _ _ c.finish-else-asks.new.self _ c.finish-else-asks.result Nothing
    (λ d. stops_piece c.args.piece.now false c.args.self.now c.feed.new.self c.feed.new.self c.finish-else-asks.new.self _ _ _ _ Nothing c.requires
    c.if-asks.false c.in_ok-feed.ensures.ok (does_nothing c.feed.new.self _) d) c.finish-else-asks.ensures.err

pub returns-in_err-feed-clause-cause : goal.returns-in_err-feed-clause-cause
returns-in_err-feed-clause-cause c =
    let p = err_from_is_err_and c.from_residual.result c.from_residual.ensures.1 in
    rw (p.1, p.2) c.in_err-feed.ensures.cause

pub returns-in_ok-put-clause-cause : goal.returns-in_ok-put-clause-cause
returns-in_ok-put-clause-cause c =
    answered_cause c.args.self.now c.feed.new.self c.ask.new.self c.args.piece.now _ _ _ _ _ c.finish.result c.in_ok-feed.ensures.ok c.in_ok-put.ensures.ok
    c.finish.ensures.fault c.finish.ensures.grows

pub returns-in_err-put-clause-cause : goal.returns-in_err-put-clause-cause
returns-in_err-put-clause-cause c =
    let p = err_from_is_err_and c.from_residual-in_err-put.result c.from_residual-in_err-put.ensures.1 in
    rw (p.1, p.2) (asked_cause c.args.self.now c.feed.new.self c.args.piece.now _ _ _ c.if-asks.true c.in_ok-feed.ensures.ok c.in_err-put.ensures.fault
    c.in_err-put.ensures.grows)

pub returns-else-asks-clause-cause : goal.returns-else-asks-clause-cause
returns-else-asks-clause-cause c =
    fed_cause c.args.self.now c.feed.new.self c.args.piece.now _ _ c.finish-else-asks.result c.in_ok-feed.ensures.ok c.finish-else-asks.ensures.fault
    c.finish-else-asks.ensures.grows
