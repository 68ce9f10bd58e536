use Rattle.std.proofs.Common.{ap, ◌∙◌, Err}
use Rattle.tn_world.proofs.{Bodies.reaches_sound, Soundness.halts_sound}
use Rattle.tn_world.proofs.world.World.part_reaches_server.Goals as goal

pub invariant_of-self-2 : goal.invariant_of-self-2
invariant_of-self-2 c = reaches_sound _ _ c.args.count _ _ _ c.in_ok-feed.ensures.accepted
    (c.deref.ensures.value ∙ c.in_ok-piece.ensures.piece) c.in_ok-piece.ensures.left c.in_ok-feed.ensures.ok c.self.invariant

pub invariant_of-self-in_err-feed : goal.invariant_of-self-in_err-feed
invariant_of-self-in_err-feed c =
    halts_sound _ _ _ _ _ _ (λ is. c.in_err-feed.ensures.failed_stays (ap Err is))
    (λ is. c.in_err-feed.ensures.failed_appends (ap Err is)) c.in_err-feed.ensures.halts c.in_err-feed.ensures.of_piece c.in_err-feed.ensures.err
    c.self.invariant
