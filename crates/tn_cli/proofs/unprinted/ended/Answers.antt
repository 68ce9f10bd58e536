use Rattle.std.proofs.Common.{arith}
use Rattle.tn_cli.proofs.Watching.{ends_read, ends_unread, is_empty, is_long}
use Rattle.tn_cli.proofs.unprinted.ended.Goals as goal

pub returns-then-count-eq0 : goal.returns-then-count-eq0
returns-then-count-eq0 c = ends_unread c.args.count (is_empty c.args.count c.if-count-eq0.true)

pub returns-then-count-lt-TOO_MANY : goal.returns-then-count-lt-TOO_MANY
returns-then-count-lt-TOO_MANY c = ends_read c.args.count c.if-count-eq0.false c.if-count-lt-TOO_MANY.true

pub returns : goal.returns
returns c = ends_unread c.args.count (is_long c.args.count (omega (arith, c.if-count-lt-TOO_MANY.false)))
