use Rattle.tn_net.proofs.lemmas.printing.Taking.{taken_whole}
use Rattle.tn_net.proofs.printing.laws.all_is_printed.Goals as goal

pub returns : goal.returns
returns c old new items = taken_whole old new items
