use Rattle.std.proofs.{Common.{◌-◌, length, drop, arith}, lemmas.List.{length-drop, length-take}}
use Rattle.tn_pty.proofs.lemmas.Typed.{after_more, accepts_more, stops_more}
use Rattle.tn_pty.proofs.pty.Pair.take_each.Goals as goal

pub loop-taken-preserved : goal.loop-taken-preserved
loop-taken-preserved c =
    let old = c.args.self.now in
    let bytes = c.args.bytes.now in
    let i = c.loop-taken.taken in
    let before = c.loop-taken.invariant in
    record {
      within = omega (arith, c.in-Ok.ensures.within, length-take (length bytes - i) (drop i bytes), length-drop i bytes, before.within);
      pair = after_more c.args.input old c.loop-taken.self c.take_front.new.self bytes i before.pair before.accepted c.in-Ok.count c.in-Ok.ensures.pair;
      accepted = accepts_more c.args.input old c.loop-taken.self c.take_front.new.self bytes i before.pair before.accepted c.in-Ok.count
          c.in-Ok.ensures.accepted;
    }

pub returns-in-Err-clause-refused : goal.returns-in-Err-clause-refused
returns-in-Err-clause-refused c =
    let before = c.loop-taken.invariant in
    stops_more c.args.input c.args.self.now c.loop-taken.self c.take_front.new.self c.args.bytes.now c.loop-taken.taken before.pair before.accepted
    c.in-Err.fault c.in-Err.ensures.refused
