use Rattle.std.proofs.Common.{◌+◌, ◌<◌, [], length, take, drop, refl, arith}
use Rattle.tn_nvt.proofs.Taking.{same_fault, said_front, said_wants, kept_front, some_on, stops_on, wants_on}
use Rattle.tn_nvt.proofs.handing.hand_inside.Goals as goal

pub returns-in_err-count-clause-memory : goal.returns-in_err-count-clause-memory
returns-in_err-count-clause-memory g c = λ _.
    let w = c.in_err-count.ensures.err in
    said_wants g.S.Sink.takes g.S.Sink.gives_up _ w.middle c.args.rest.now w.front w.back w.byte _ w.whole w.advances w.wanted

pub returns-then-count-rest-clause-ok : goal.returns-then-count-rest-clause-ok
returns-then-count-rest-clause-ok g c =
    let k = c.in_ok-count.ensures.ok in
    let n = c.in_ok-count.count in
    let rest = c.args.rest.now in
    record {
      some = omega (arith, c.requires, c.if-count-rest.true);
      within = k.within;
      handed = said_front g.S.Sink.takes g.S.Sink.gives_up _ _ (take n rest) (drop n rest) [] _ _ tt refl k.advances;
    }

pub returns-then-after-rest-clause-ok : goal.returns-then-after-rest-clause-ok
returns-then-after-rest-clause-ok g c =
    let k = c.in_ok-count.ensures.ok in
    let n = c.in_ok-count.count in
    let rest = c.args.rest.now in
    let lt : n < length rest = omega (arith, k.within, c.if-count-rest.false) in
    record {
      some = omega arith;
      within = omega (arith, c.if-after-rest.true);
      handed = kept_front g.S.Sink.takes g.S.Sink.gives_up _ _ rest n _ lt k;
    }

pub returns-in-Ok-clause-ok : goal.returns-in-Ok-clause-ok
returns-in-Ok-clause-ok g c =
    let k = c.in_ok-count.ensures.ok in
    let n = c.in_ok-count.count in
    let rest = c.args.rest.now in
    let lt : n < length rest = omega (arith, k.within, c.if-count-rest.false) in
    some_on g.S.Sink.takes g.S.Sink.gives_up _ _ _ rest (n + 1) c.in-Ok.more _ _ _ (omega (arith, lt))
    (kept_front g.S.Sink.takes g.S.Sink.gives_up _ _ rest n _ lt k) c.in-Ok.ensures.ok

pub returns-in-Err-clause-refused : goal.returns-in-Err-clause-refused
returns-in-Err-clause-refused g c = λ refused.
    let k = c.in_ok-count.ensures.ok in
    let n = c.in_ok-count.count in
    let rest = c.args.rest.now in
    let lt : n < length rest = omega (arith, k.within, c.if-count-rest.false) in
    stops_on g.S.Sink.takes g.S.Sink.gives_up _ _ rest (n + 1) _ _ _ (kept_front g.S.Sink.takes g.S.Sink.gives_up _ _ rest n _ lt k)
    (c.in-Err.ensures.refused (same_fault _ _ refused))

pub returns-in-Err-clause-memory : goal.returns-in-Err-clause-memory
returns-in-Err-clause-memory g c = λ memory.
    let k = c.in_ok-count.ensures.ok in
    let n = c.in_ok-count.count in
    let rest = c.args.rest.now in
    let lt : n < length rest = omega (arith, k.within, c.if-count-rest.false) in
    wants_on g.S.Sink.takes g.S.Sink.gives_up _ _ rest (n + 1) _ _ _ (kept_front g.S.Sink.takes g.S.Sink.gives_up _ _ rest n _ lt k)
    (c.in-Err.ensures.memory (same_fault _ _ memory))
