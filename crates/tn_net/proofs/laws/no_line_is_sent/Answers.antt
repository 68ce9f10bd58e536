use Rattle.std.proofs.Common.{refl}
use Rattle.tn_net.proofs.Sorting.{only_escape}
use Rattle.tn_net.proofs.laws.no_line_is_sent.Goals as goal

pub returns : goal.returns
returns c keyboard prompt byte key opens is = only_escape keyboard prompt byte key prompt.is_open refl opens is
