use Rattle.std.proofs.Common.{[], refl, sym, append-nil}
use Rattle.tn_cli.proofs.Played.{lent_played_more, lent_bad, lent_refused}
use Rattle.tn_cli.proofs.world.play_in.Goals as goal

pub loop-index-init : goal.loop-index-init
loop-index-init c =
    ([], record { start = c.args.world.now; opened = c.requires; plays = (refl, refl) }, sym (append-nil c.args.printed.now.items))

pub returns-in-Err-Bad : goal.returns-in-Err-Bad
returns-in-Err-Bad c =
    let bad = rw c.in-Err-Bad.field-0-is at c.in-Err-Bad.ensures.bad in
    lent_bad c.loop-index.world c.args.lines.now c.loop-index.index
    (record { ref_ptr = (0, 0); now = [] }) c.args.printed.now.items c.loop-index.printed.items c.play_line.new.out.items c.loop-index-test.true
    c.loop-index.invariant (bad refl)

pub returns-in-Err-Refused : goal.returns-in-Err-Refused
returns-in-Err-Refused c =
    let refused = rw c.in-Err-Refused.field-0-is at c.in-Err-Refused.ensures.refused in
    lent_refused c.loop-index.world c.args.lines.now c.loop-index.index
    (record { ref_ptr = (0, 0); now = [] }) c.args.printed.now.items c.loop-index.printed.items c.play_line.new.out.items c.loop-index-test.true
    c.loop-index.invariant (refused refl)

pub loop-index-preserved : goal.loop-index-preserved
loop-index-preserved c =
    lent_played_more c.loop-index.world c.play_line.new.world c.args.lines.now c.loop-index.index
    (record { ref_ptr = (0, 0); now = [] }) c.args.printed.now.items c.loop-index.printed.items c.play_line.new.out.items c.loop-index-test.true
    c.loop-index.invariant c.in-Ok.ensures.ok
