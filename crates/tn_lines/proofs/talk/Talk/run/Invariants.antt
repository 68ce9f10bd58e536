use Rattle.std.proofs.Common.{false}
use Rattle.tn_lines.specs.{Ending.{ReadsFail, WritesFail}, Talking.{GoesOn, streams}}
use Rattle.tn_lines.proofs.talk.Talk.run.Given as goal

-- the talk went on from where it began
abbrev pub invariant-loop : goal.invariant-loop
invariant-loop g l =
    (goal.iterator-loop g).can_next l.iterator' × (goal.iterator-loop g).is_finite l.iterator'
    × GoesOn (streams (g.K.Source.remaining l.fn.keys) (g.N.Source.remaining l.fn.service) (g.W.Drain.contents l.fn.writer) (g.S.Drain.contents l.fn.screen)
    (g.A.Await.warned l.fn.ready)) l.fn.self
    (streams (g.K.Source.remaining l.keys) (g.N.Source.remaining l.service) (g.W.Drain.contents l.writer) (g.S.Drain.contents l.screen)
    (g.A.Await.warned l.ready)) l.self
    × ReadsFail false (g.N.Source.foretold l.fn.service) (g.N.Source.foretold l.service)
    × WritesFail false (g.W.Drain.told l.fn.writer) (g.W.Drain.told l.writer)
