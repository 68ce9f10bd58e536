use Rattle.std.proofs.Common.{inl, arith}
use Rattle.tn_serve.proofs.of_services.Steps.{ends, shows_again, shows_bytes, shows_failed, shows_no_more}
use Rattle.tn_cores.specs.streams.Known.{known_reader}
use Rattle.tn_serve.proofs.services.showing.Showing.step.Goals as goal

pub returns-in-Ok-eq0 : goal.returns-in-Ok-eq0
returns-in-Ok-eq0 g c =
    let known = known_reader g.R.Source.remaining g.R.Source.foretold g.R.Source.sizes g.R.Source.words in
    let r = c.release in
    let end = ends _ _ c.read_some.result c.in-Ok-eq0.field-0 c.read_some.new.buf c.in-Ok-eq0.is c.in-Ok-eq0.field-0-test
    (omega (arith, c.read_some.auto.buf)) c.read_some.ensures.bytes in
    rw r.ensures.reader (shows_no_more c.args.self.now.waits r.result.text r.result.after r.new.self.waits (known c.args.self.now.reader)
    (known c.read_some.new.self) r.ensures.text r.ensures.after r.ensures.waits end.0 (inl end.1))

pub returns-in-Ok : goal.returns-in-Ok
returns-in-Ok g c =
    let known = known_reader g.R.Source.remaining g.R.Source.foretold g.R.Source.sizes g.R.Source.words in
    let r = c.show in
    rw r.ensures.reader (shows_bytes c.args.self.now.waits r.result.text r.result.after r.new.self.waits (known c.args.self.now.reader)
    (known c.read_some.new.self) c.read_some.new.buf c.in-Ok.n r.ensures.text r.ensures.after r.ensures.waits c.in-Ok.n-test.1 c.in-Ok.ensures.bound.0
    (omega (arith, c.read_some.auto.buf)) c.in-Ok.ensures.bytes.0 c.in-Ok.ensures.foretells)

pub returns-in-Err : goal.returns-in-Err
returns-in-Err g c =
    let known = known_reader g.R.Source.remaining g.R.Source.foretold g.R.Source.sizes g.R.Source.words in
    let r = c.release-in-Err in
    rw r.ensures.reader (shows_again c.args.self.now.waits r.result.text r.result.after r.new.self.waits (known c.args.self.now.reader)
    (known c.read_some.new.self) c.in-Err.error r.ensures.text r.ensures.after r.ensures.waits c.in-Err.ensures.bytes
    (c.is_interrupted.ensures.again c.if-is_interrupted.true) c.in-Err.ensures.foretells)

pub returns-in-Err-2 : goal.returns-in-Err-2
returns-in-Err-2 g c =
    let known = known_reader g.R.Source.remaining g.R.Source.foretold g.R.Source.sizes g.R.Source.words in
    let r = c.release-in-Err-2 in
    rw r.ensures.reader (shows_failed c.args.self.now.waits r.result.text r.result.after r.new.self.waits (known c.args.self.now.reader)
    (known c.read_some.new.self) c.in-Err.error r.ensures.text r.ensures.after r.ensures.waits c.in-Err-2.ensures.bytes
    (c.is_interrupted.ensures.failed c.if-is_interrupted.false) c.in-Err.ensures.foretells)
