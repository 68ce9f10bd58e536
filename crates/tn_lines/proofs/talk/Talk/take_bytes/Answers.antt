use Rattle.std.proofs.Common.{refl}
use Rattle.tn_lines.proofs.{Going.{kept_more, bytes_more}, Writing.reads_zero}
use Rattle.tn_cores.proofs.lemmas.streams.Writing.{keeps_same}
use Rattle.tn_lines.proofs.talk.Talk.take_bytes.Goals as goal

pub returns-in-Ok-eq0-clause-goes_on : goal.returns-in-Ok-eq0-clause-goes_on
returns-in-Ok-eq0-clause-goes_on g c = λ keys told e at first had.
    kept_more e at first keys keys _ _ told told _ _ c.args.self.now _ (keeps_same keys)
    (reads_zero _ _ c.read_some.result c.in-Ok-eq0.field-0 _ c.in-Ok-eq0.is c.in-Ok-eq0.field-0-test c.read_some.ensures.bytes)
    (keeps_same told) refl refl refl refl refl refl had

pub returns-in_ok-show-in-Ok-clause-goes_on : goal.returns-in_ok-show-in-Ok-clause-goes_on
returns-in_ok-show-in-Ok-clause-goes_on g c = λ keys told e at first had.
    bytes_more e at first keys _ _ told _ _ _ _ _ c.args.self.now c.show.new.self c.in-Ok.ensures.bytes.0 c.in_ok-show-in-Ok.ensures had

pub returns-in-Err-clause-goes_on : goal.returns-in-Err-clause-goes_on
returns-in-Err-clause-goes_on g c = λ keys told e at first had.
    kept_more e at first keys keys _ _ told told _ _ c.args.self.now _ (keeps_same keys) c.in-Err.ensures.bytes
    (keeps_same told) refl refl refl refl refl refl had

pub returns-in-Err-2-clause-goes_on : goal.returns-in-Err-2-clause-goes_on
returns-in-Err-2-clause-goes_on g c = λ keys told e at first had.
    kept_more e at first keys keys _ _ told told _ _ c.args.self.now _ (keeps_same keys) c.in-Err-2.ensures.bytes
    (keeps_same told) refl refl refl refl refl refl had
