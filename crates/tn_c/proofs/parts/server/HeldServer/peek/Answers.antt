use Rattle.std.proofs.Common.{◌∙◌}
use Rattle.tn_c.proofs.parts.server.HeldServer.peek.Goals as goal

pub returns : goal.returns
returns c = record { place = c.as_ptr.ensures; counts = c.len.ensures ∙ c.args.self.now.pending.ok.0 }
