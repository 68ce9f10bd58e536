use Rattle.std.proofs.Common.{ap, refl, ◌∙◌}
use Rattle.crossbeam_channel.specs.Claims.{view}
use Rattle.tn_cores.specs.queue.Queue.{taken_more}
use Rattle.tn_net.specs.Queue.{Piece}
use Rattle.tn_net.proofs.{Queued.{all_ended, all_more, broken, discarded, end_written}, Writing.{open_finished, open_sent}}
use Rattle.tn_net.proofs.sending.Sending.run.Goals as goal

pub returns-then-not-is_given_up-clause-sent : goal.returns-then-not-is_given_up-clause-sent
returns-then-not-is_given_up-clause-sent g c =
    let contents = g.W.Drain.contents in
    let n = c.in-Some-next in
    broken (view c.args.self.now.pass) (view c.loop.self.pass) (view c.next-in-loop.new.self.pass) c.in-Some-piece.bytes c.deref-in-loop.result.now
    (contents c.args.self.now.writer) (contents c.loop.self.writer) (contents c.next-in-loop.new.self.writer) (contents c.send_whole.new.writer)
    c.loop.invariant.2 (n.ensures.took ∙ ap (λ (x : Piece). taken_more (view c.loop.self.pass) x) c.in-Some-piece.is)
    (ap contents n.ensures.writer) c.deref-in-loop.ensures.value c.in-Err.ensures.begun

pub returns-in-Err-clause-sent : goal.returns-in-Err-clause-sent
returns-in-Err-clause-sent g c =
    let contents = g.W.Drain.contents in
    let n = c.in-Some-next in
    let sent = broken (view c.args.self.now.pass) (view c.loop.self.pass) (view c.next-in-loop.new.self.pass) c.in-Some-piece.bytes c.deref-in-loop.result.now
    (contents c.args.self.now.writer) (contents c.loop.self.writer) (contents c.next-in-loop.new.self.writer) (contents c.send_whole.new.writer)
    c.loop.invariant.2 (n.ensures.took ∙ ap (λ (x : Piece). taken_more (view c.loop.self.pass) x) c.in-Some-piece.is)
    (ap contents n.ensures.writer) c.deref-in-loop.ensures.value c.in-Err.ensures.begun in
    discarded (view c.args.self.now.pass) (view c.next-in-loop.new.self.pass) (view c.discard.new.self.pass)
    (contents c.args.self.now.writer) (contents c.send_whole.new.writer) (contents c.discard.new.self.writer) (contents c.finish-in-Err.new.self)
    sent c.discard.ensures.took (ap contents c.discard.ensures.writer) c.finish-in-Err.ensures.contents

pub returns-in_default-piece-clause-whole : goal.returns-in_default-piece-clause-whole
returns-in_default-piece-clause-whole g c _ =
    let contents = g.W.Drain.contents in
    let n = c.in-Some-next in
    all_ended (view c.args.self.now.pass) (view c.loop.self.pass) (view c.next-in-loop.new.self.pass)
    (contents c.args.self.now.writer) (contents c.loop.self.writer) (contents c.next-in-loop.new.self.writer) (contents c.finish.new.self)
    c.loop.invariant.2 (n.ensures.took ∙ ap (λ (x : Piece). taken_more (view c.loop.self.pass) x) c.in_default-piece.is)
    (ap contents n.ensures.writer) c.finish.ensures.contents

pub returns-in_default-piece-clause-sent : goal.returns-in_default-piece-clause-sent
returns-in_default-piece-clause-sent g c =
    let contents = g.W.Drain.contents in
    end_written (view c.args.self.now.pass) (view c.next-in-loop.new.self.pass) (contents c.args.self.now.writer) (contents c.finish.new.self)
    (returns-in_default-piece-clause-whole g c refl)

pub loop-preserved : goal.loop-preserved
loop-preserved g c =
    let contents = g.W.Drain.contents in
    let n = c.in-Some-next in (
      tt,
      tt,
      all_more (view c.args.self.now.pass) (view c.loop.self.pass) (view c.next-in-loop.new.self.pass) c.in-Some-piece.bytes c.deref-in-loop.result.now
          (contents c.args.self.now.writer) (contents c.loop.self.writer) (contents c.next-in-loop.new.self.writer) (contents c.send_whole.new.writer)
          c.loop.invariant.2 (n.ensures.took ∙ ap (λ (x : Piece). taken_more (view c.loop.self.pass) x) c.in-Some-piece.is)
          (ap contents n.ensures.writer) c.deref-in-loop.ensures.value c.in_default-send_whole.ensures.whole,
      open_sent _ _ _ _ c.loop.invariant.3 (ap g.W.Drain.sending n.ensures.writer) c.send_whole.ensures.going,
    )

pub returns-in_default-piece-clause-finished : goal.returns-in_default-piece-clause-finished
returns-in_default-piece-clause-finished g c =
    open_finished _ _ _ _ c.loop.invariant.3 (ap g.W.Drain.sending c.in-Some-next.ensures.writer) c.finish.ensures.finishes

pub returns-in-Err-clause-finished : goal.returns-in-Err-clause-finished
returns-in-Err-clause-finished g c =
    let sent = open_sent _ _ _ _ c.loop.invariant.3 (ap g.W.Drain.sending c.in-Some-next.ensures.writer) c.send_whole.ensures.going in
    open_finished _ _ _ _ sent (ap g.W.Drain.sending c.discard.ensures.writer) c.finish-in-Err.ensures.finishes
