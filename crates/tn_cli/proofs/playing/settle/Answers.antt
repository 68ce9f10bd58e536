use Rattle.std.proofs.Common.{◌≡◌, true, false}
use Rattle.tn_cli.proofs.Played.{settles_again, settling_refused}
use Rattle.tn_cli.proofs.playing.settle.Goals as goal

pub returns-in-Err-clause-err : goal.returns-in-Err-clause-err
returns-in-Err-clause-err c =
    settling_refused c.loop-settling._settling c.args.world.now c.loop-settling.world c.settle.new.self _ _ c.loop-settling-test.true c.loop-settling.invariant
    (λ none. let turned : false ≡ true = c.if-is_flight_empty.ensures.1 none in cc) c.in-Err.ensures.ends

pub loop-settling-preserved : goal.loop-settling-preserved
loop-settling-preserved c =
    settles_again c.loop-settling._settling c.args.world.now c.loop-settling.world c.settle.new.self c.loop-settling.invariant
    (λ none. let turned : false ≡ true = c.if-is_flight_empty.ensures.1 none in cc) c.in-Ok.ensures.settles
