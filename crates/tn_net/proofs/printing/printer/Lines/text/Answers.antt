use Rattle.tn_net.proofs.printing.printer.Lines.text.Goals as goal

pub returns : goal.returns
returns c = rw (← c.self.view_is) c.as_slice.ensures.value
