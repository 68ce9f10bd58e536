use Rattle.std.proofs.Common.{inl, refl}
use Rattle.tn_cores.proofs.streams.nothing_to_say.Goals as goal

pub returns : goal.returns
returns c = inl refl
