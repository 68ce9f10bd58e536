use Rattle.std.proofs.Common.{ap, ◌∙◌, Err}
use Rattle.tn_world.proofs.Bodies.{returns_sound, breaks_or_again}
use Rattle.tn_world.proofs.world.World.part_reaches_client.Goals as goal

pub invariant_of-self-2 : goal.invariant_of-self-2
invariant_of-self-2 c = returns_sound _ _ c.args.count _ _ _ _ c.in_ok-feed.ensures.failed
    (c.deref.ensures.value ∙ c.in_ok-piece.ensures.piece) c.in_ok-piece.ensures.left c.in_ok-feed.ensures.ok c.self.invariant

pub invariant_of-self-in_err-feed : goal.invariant_of-self-in_err-feed
invariant_of-self-in_err-feed c =
    breaks_or_again _ _ _ _ _ _ _ c.in_err-feed.ensures.failed (λ is. c.in_err-feed.ensures.memory (ap Err is)) (λ is. c.in_err-feed.ensures.again (ap Err is))
    c.in_err-feed.ensures.err c.self.invariant
