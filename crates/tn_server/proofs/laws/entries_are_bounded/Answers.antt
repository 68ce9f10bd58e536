use Rattle.std.proofs.Common.{arith}
use Rattle.tn_server.proofs.Overflowing.{waiting_fits}
use Rattle.tn_server.proofs.laws.entries_are_bounded.Goals as goal

pub returns : goal.returns
returns c = λ h leads.
    waiting_fits h c.args.end.now leads (rw (← c.end.view_is) (omega (arith, c.waiting_count-count.ensures.value, c.waiting_count-count.ensures.within)))
