use Rattle.std.proofs.Common.{sym}
use Rattle.tn_discipline.proofs.lemmas.Histories as histories
use Rattle.tn_discipline.proofs.laws.count_is_length.Goals as goal

pub returns : goal.returns
returns c = record { count = λ limit history. sym (histories.length-half_of limit history); fits = histories.half_of-fits }
