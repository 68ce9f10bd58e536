use Rattle.tn_server.proofs.end.ServerEnd.breaks.Goals as goal

pub returns : goal.returns
returns c = rw (← c.self.view_is) (λ h leads. leads.breaks)
