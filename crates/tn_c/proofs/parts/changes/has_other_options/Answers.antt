use Rattle.std.proofs.Common.{refl}
use Rattle.tn_c.proofs.of_parts.Changing.{differs}
use Rattle.tn_c.proofs.parts.changes.has_other_options.Goals as goal

pub returns : goal.returns
returns c = differs c.args.new.now.options c.args.old.now.options _ c.ne.result refl c.ne.ensures
