use Rattle.std.proofs.Common.{◌∙◌, ap, sym, arith}
use Rattle.std.specs.Prelude.{option_copied}
use Rattle.tn_server.specs.Lines.{waiting}
use Rattle.tn_cores.proofs.of_terminal.Room.{all_fit, all_seen, one_too_long, next_left}
use Rattle.tn_cores.proofs.server.terminal.Term.has_few_bytes.Goals as goal

pub returns-then-bytes-room-clause-many : goal.returns-then-bytes-room-clause-many
returns-then-bytes-room-clause-many c = λ r at _.
    let seen = c.waiting.ensures r.history (at.live c.requires.on).leads in
    one_too_long (waiting r.history) c.loop-index.room c.loop-index.index c.line_bytes-bytes.result c.in-Some.entry.now (c.loop-index.invariant r at)
    (sym seen ∙ ap option_copied c.in-Some.is) c.line_bytes-bytes.ensures c.if-bytes-room.true

pub returns-in-None-clause-few : goal.returns-in-None-clause-few
returns-in-None-clause-few c = λ r at _.
    let seen = c.waiting.ensures r.history (at.live c.requires.on).leads in
    all_seen (waiting r.history) c.loop-index.room c.loop-index.index (c.loop-index.invariant r at) (sym seen ∙ ap option_copied c.in-None.is)

pub loop-index-preserved : goal.loop-index-preserved
loop-index-preserved c = λ r at.
    let seen = c.waiting.ensures r.history (at.live c.requires.on).leads in
    next_left (waiting r.history) c.loop-index.room c.loop-index.index c.line_bytes-bytes.result c.in-Some.entry.now (c.loop-index.invariant r at)
    (sym seen ∙ ap option_copied c.in-Some.is) c.line_bytes-bytes.ensures (omega (arith, c.if-bytes-room.false))

pub returns-clause-few : goal.returns-clause-few
returns-clause-few c = λ r at _.
    all_fit (waiting r.history) c.loop-index.room c.loop-index.index (c.loop-index.invariant r at) (omega (arith, c.loop-index-test.false, c.requires.few r at))
