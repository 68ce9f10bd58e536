use Rattle.std.proofs.Common.{refl}
use Rattle.tn_lines.proofs.Going.{kept_more}
use Rattle.tn_cores.proofs.lemmas.streams.Writing.{keeps_same}
use Rattle.tn_lines.proofs.talk.Talk.finish.Goals as goal

pub returns-then-is_to_finish-clause-goes_on : goal.returns-then-is_to_finish-clause-goes_on
returns-then-is_to_finish-clause-goes_on g c = λ keys service screen warned e at first had.
    kept_more e at first keys keys service service _ _ screen warned c.args.self.now _ (keeps_same keys)
    (keeps_same service) c.finish.ensures.contents refl refl refl refl refl refl had
