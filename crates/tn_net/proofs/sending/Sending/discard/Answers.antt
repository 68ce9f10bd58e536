use Rattle.std.proofs.Common.{◌∷◌, [], ◌++◌, ◌∙◌}
use Rattle.crossbeam_channel.specs.Claims.{view}
use Rattle.tn_net.proofs.Queued.{takes_more}
use Rattle.tn_net.proofs.sending.Sending.discard.Goals as goal

pub loop-preserved-in-Some-piece : goal.loop-preserved-in-Some-piece
loop-preserved-in-Some-piece g c =
    let i = c.loop.invariant in
    let n = c.in-Some-next in (
      tt,
      tt,
      n.ensures.writer ∙ i.2,
      (
        i.3.0 ++ n.piece ∷ [],
        takes_more (view c.args.self.now.pass) (view c.loop.self.pass)
            (view c.next-in-loop.new.self.pass) i.3.0 n.piece i.3.1 n.ensures.took,
      ),
    )

pub returns-in_default-piece-clause-took : goal.returns-in_default-piece-clause-took
returns-in_default-piece-clause-took g c =
    let i = c.loop.invariant in
    let n = c.in-Some-next in (
      i.3.0 ++ n.piece ∷ [],
      takes_more (view c.args.self.now.pass) (view c.loop.self.pass)
          (view c.next-in-loop.new.self.pass) i.3.0 n.piece i.3.1 n.ensures.took,
    )
