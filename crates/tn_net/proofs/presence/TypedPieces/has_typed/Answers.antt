use Rattle.std.proofs.Common.{refl}
use Rattle.tn_net.proofs.Hearing.{hears, hears_no_more}
use Rattle.tn_net.proofs.presence.TypedPieces.has_typed.Goals as goal

pub returns-in-Ok : goal.returns-in-Ok
returns-in-Ok c = hears _ _ _ _ c.feed_to.new.sink refl c.in-Ok.ensures.ok

pub returns-in-Err : goal.returns-in-Err
returns-in-Err c =
    hears_no_more c.feed_to.result c.in-Err.field-0 _ _ _ _ c.feed_to.new.sink c.in-Err.is c.feed_to.ensures.refused c.feed_to.ensures.memory
    c.feed_to.ensures.failed c.in-Err.ensures.fails
