use Rattle.std.proofs.{Common.{◌≡◌, ◌-◌, length, take, drop, ap, arith}, lemmas.List.{take_all, length-drop}}
use Rattle.tn_net.proofs.lemmas.printing.Taking.{takes_nothing, takes_front, some_of_run}
use Rattle.tn_net.proofs.printing.printer.LinesSink.run.Goals as goal

pub loop-taken-init : goal.loop-taken-init
loop-taken-init c = record { within = omega arith; takes = takes_nothing c.args.self.now }

pub loop-taken-preserved : goal.loop-taken-preserved
loop-taken-preserved c =
    let bytes = c.args.bytes.now in
    let n = c.loop-taken.taken in
    let rest : take (length bytes - n) (drop n bytes) ≡ drop n bytes = take_all (length bytes - n) (drop n bytes) (omega (arith, length-drop n bytes)) in
    record {
      within = omega (arith, c.in-Ok.ensures.within, ap length rest, length-drop n bytes, c.loop-taken.invariant.within);
      takes = takes_front _ _ _ bytes n c.in-Ok.count c.loop-taken.invariant.takes (rw rest at c.in-Ok.ensures.takes);
    }

pub returns-in-Err-clause-err : goal.returns-in-Err-clause-err
returns-in-Err-clause-err c =
    let bytes = c.args.bytes.now in
    let n = c.loop-taken.taken in
    let rest : take (length bytes - n) (drop n bytes) ≡ drop n bytes = take_all (length bytes - n) (drop n bytes) (omega (arith, length-drop n bytes)) in
    rw c.in-Err.ensures.err (some_of_run _ _ bytes n c.loop-taken.invariant.takes (rw rest at c.in-Err.ensures.fills))

pub returns-clause-ok : goal.returns-clause-ok
returns-clause-ok c =
    let bytes = c.args.bytes.now in
    let whole : take c.loop-taken.taken bytes ≡ bytes = take_all c.loop-taken.taken bytes (omega arith) in
    rw whole at c.loop-taken.invariant.takes
