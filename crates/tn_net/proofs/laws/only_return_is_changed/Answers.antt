use Rattle.tn_net.proofs.Sorting.{unchanged}
use Rattle.tn_net.proofs.laws.only_return_is_changed.Goals as goal

pub returns : goal.returns
returns c keyboard prompt byte r other = unchanged keyboard prompt byte r prompt.is_open other
