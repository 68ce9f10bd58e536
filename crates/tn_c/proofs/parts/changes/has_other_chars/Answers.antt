use Rattle.std.proofs.Common.{refl}
use Rattle.tn_c.proofs.of_parts.Changing.{differs}
use Rattle.tn_c.proofs.parts.changes.has_other_chars.Goals as goal

pub returns : goal.returns
returns c = differs c.args.new.now.chars c.args.old.now.chars _ c.ne.result refl c.ne.ensures
