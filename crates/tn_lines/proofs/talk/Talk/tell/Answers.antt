use Rattle.std.proofs.Common.{refl}
use Rattle.tn_lines.proofs.{Going.{kept_more, told_more}, Writing.appends_zero}
use Rattle.tn_cores.proofs.lemmas.streams.Writing.{keeps_same}
use Rattle.tn_lines.proofs.talk.Talk.tell.Goals as goal

pub returns-in-Ok-eq0-clause-goes_on : goal.returns-in-Ok-eq0-clause-goes_on
returns-in-Ok-eq0-clause-goes_on g c = λ keys service screen warned e at first had.
    kept_more e at first keys keys service service _ _ screen warned c.args.self.now _ (keeps_same keys) (keeps_same service)
    (appends_zero _ _ c.in-Ok-eq0.field-0 _ c.in-Ok-eq0.field-0-test c.in-Ok-eq0.ensures.bytes) refl refl refl refl refl refl had

pub returns-in-Ok-clause-goes_on : goal.returns-in-Ok-clause-goes_on
returns-in-Ok-clause-goes_on g c = λ keys service screen warned e at first had.
    let wrote = rw c.as_slice.ensures at c.in-Ok.ensures.bytes in
    told_more e at first keys service _ _ screen warned c.args.self.now _ c.in-Ok.count wrote c.take.ensures refl refl refl refl refl had

pub returns-in-Err-clause-goes_on : goal.returns-in-Err-clause-goes_on
returns-in-Err-clause-goes_on g c = λ keys service screen warned e at first had.
    kept_more e at first keys keys service service _ _ screen warned c.args.self.now _ (keeps_same keys)
    (keeps_same service) c.in-Err.ensures.bytes refl refl refl refl refl refl had
