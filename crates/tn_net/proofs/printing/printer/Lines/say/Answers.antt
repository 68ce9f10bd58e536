use Rattle.std.proofs.Common.{refl}
use Rattle.tn_net.proofs.lemmas.printing.Taking.{takes_single}
use Rattle.tn_net.proofs.printing.printer.Lines.say.Goals as goal

pub returns-clause-ok : goal.returns-clause-ok
returns-clause-ok c = rw (← c.self.view_is) (takes_single _ _ c.args.item.now c.requires refl
    (rw c.as_slice.ensures.value at c.in_ok-append_item.ensures.ok) c.clear.ensures)
