use Rattle.std.proofs.{Common.{refl, arith, ◌≤◌, length}, lemmas.Result.on_ok_weaker}
use Rattle.tn_lines.proofs.{Going.{kept_more, keys_more}, Writing.reads_zero}
use Rattle.tn_cores.proofs.lemmas.streams.Writing.{keeps_same}
use Rattle.tn_lines.proofs.talk.Talk.take_keys.Goals as goal

pub returns-in-Ok-eq0 : goal.returns-in-Ok-eq0
returns-in-Ok-eq0 g c = λ service told screen warned e at first had.
    kept_more e at first _ _ service service told told screen warned c.args.self.now _
    (reads_zero _ _ c.read_some.result c.in-Ok-eq0.field-0 _ c.in-Ok-eq0.is c.in-Ok-eq0.field-0-test c.read_some.ensures.bytes)
    (keeps_same service) (keeps_same told) refl refl refl refl refl refl had

pub returns-in-Ok : goal.returns-in-Ok
returns-in-Ok g c =
    let none : length c.args.self.now.waiting ≤ 0 = omega (arith, c.if-unsent-gt0.false, c.unsent.ensures) in
    on_ok_weaker c.type_keys.result
    (λ types. λ service told screen warned e at first had.
    keys_more e at first _ _ service told screen warned _ c.args.self.now c.type_keys.new.self none c.in-Ok.ensures.bytes.0 types had)
    c.type_keys.ensures

pub returns-in-Err : goal.returns-in-Err
returns-in-Err g c = λ service told screen warned e at first had.
    kept_more e at first _ _ service service told told screen warned c.args.self.now _ c.in-Err.ensures.bytes (keeps_same service)
    (keeps_same told) refl refl refl refl refl refl had
