use Rattle.std.proofs.{Common.{refl, sym}, lemmas.Bool.{eqb-true, eqb-false}}
use Rattle.tn_net.proofs.lemmas.printing.Taking.{ends_nothing, ends_held}
use Rattle.tn_net.proofs.printing.printer.Lines.end_data.Goals as goal

pub returns-then-is_empty-clause-ok : goal.returns-then-is_empty-clause-ok
returns-then-is_empty-clause-ok c = rw (← c.self.view_is) (ends_nothing _ (eqb-true _ _ (sym c.if-is_empty.ensures)))

pub returns-clause-ok : goal.returns-clause-ok
returns-clause-ok c = rw (← c.self.view_is) (ends_held _ _ (eqb-false _ _ (sym c.if-is_empty.ensures)) c.self.invariant refl
    (rw c.as_slice.ensures.value at c.in_ok-append_data.ensures.ok) c.clear.ensures)
