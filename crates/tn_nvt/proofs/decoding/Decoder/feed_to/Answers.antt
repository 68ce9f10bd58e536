use Rattle.std.proofs.Common.{◌∙◌}
use Rattle.tn_nvt.specs.Machine.{progress}
use Rattle.tn_nvt.proofs.{Feeding.same_state, Taking.{same_fault, FeedsTo-from_front, StopsAtSink-from_front, StopsForMemory-from_front, wants_nothing}}
use Rattle.tn_nvt.proofs.decoding.Decoder.feed_to.Goals as goal

pub returns-in-Err-clause-refused : goal.returns-in-Err-clause-refused
returns-in-Err-clause-refused g c = λ refused.
    let began = same_state _ _ c.self.inside.body c.in_ok-place.ensures.ok ∙ c.self.view_is in
    let stops = StopsAtSink-from_front g.S.Sink.takes g.S.Sink.gives_up (progress c.in_ok-place.place c.self.inside.body) c.args.piece.now _ _
    (c.in-Err.ensures.refused (same_fault _ _ refused)) in
    rw began at stops

pub returns-in-Err-clause-memory : goal.returns-in-Err-clause-memory
returns-in-Err-clause-memory g c = λ memory.
    let began = same_state _ _ c.self.inside.body c.in_ok-place.ensures.ok ∙ c.self.view_is in
    let wants = StopsForMemory-from_front g.S.Sink.takes g.S.Sink.gives_up (progress c.in_ok-place.place c.self.inside.body) c.args.piece.now _ _
    (c.in-Err.ensures.memory (same_fault _ _ memory)) in
    rw began at wants

pub returns-in-Err-clause-lets_go : goal.returns-in-Err-clause-lets_go
returns-in-Err-clause-lets_go g c = λ lets_go memory.
    let began = same_state _ _ c.self.inside.body c.in_ok-place.ensures.ok ∙ c.self.view_is in
    let wants = StopsForMemory-from_front g.S.Sink.takes g.S.Sink.gives_up (progress c.in_ok-place.place c.self.inside.body) c.args.piece.now _ _
    (c.in-Err.ensures.memory (same_fault _ _ memory)) in
    wants_nothing g.S.Sink.takes g.S.Sink.gives_up c.args.self.now c.args.piece.now _ _ lets_go (rw began at wants)

pub returns-in-Ok-clause-ok : goal.returns-in-Ok-clause-ok
returns-in-Ok-clause-ok g c =
    let began = same_state _ _ c.self.inside.body c.in_ok-place.ensures.ok ∙ c.self.view_is in
    let feeds = FeedsTo-from_front g.S.Sink.takes g.S.Sink.gives_up (progress c.in_ok-place.place c.self.inside.body)
    (progress c.in-Ok.next c.hand_all.new.body) c.args.piece.now _ _ c.in-Ok.ensures.ok in
    rw began at feeds
