use Rattle.std.proofs.Common.{◌<◌, length, arith}
use Rattle.tn_pty.proofs.lemmas.Typed.{after_next, accepts_next, stops_at}
use Rattle.tn_pty.proofs.pty.Pair.take_front.Goals as goal

pub returns-in-Ok-clause-pair : goal.returns-in-Ok-clause-pair
returns-in-Ok-clause-pair c =
    let quiet = c.take_quiet-count in
    let within : quiet.result < length c.args.bytes.now = omega (arith, quiet.ensures.within, c.if-count-bytes.false) in
    after_next c.args.input c.args.self.now quiet.new.self c.take_one.new.self c.args.bytes.now quiet.result quiet.ensures.pair quiet.ensures.accepted within
    c.in-Ok.ensures.pair

pub returns-in-Ok-clause-accepted : goal.returns-in-Ok-clause-accepted
returns-in-Ok-clause-accepted c =
    let quiet = c.take_quiet-count in
    let within : quiet.result < length c.args.bytes.now = omega (arith, quiet.ensures.within, c.if-count-bytes.false) in
    accepts_next c.args.input c.args.self.now quiet.new.self c.take_one.new.self c.args.bytes.now quiet.result quiet.ensures.pair quiet.ensures.accepted within
    c.in-Ok.ensures.accepted

pub returns-in-Err-clause-refused : goal.returns-in-Err-clause-refused
returns-in-Err-clause-refused c =
    let quiet = c.take_quiet-count in
    let within : quiet.result < length c.args.bytes.now = omega (arith, quiet.ensures.within, c.if-count-bytes.false) in
    stops_at c.args.input c.args.self.now quiet.new.self c.take_one.new.self c.args.bytes.now quiet.result quiet.ensures.pair quiet.ensures.accepted
    c.in-Err.fault within c.in-Err.ensures.refused
