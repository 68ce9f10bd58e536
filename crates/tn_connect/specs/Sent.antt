-- The bytes of a session that a connection took.
use Rattle.std.specs.Prelude.{◌≡◌, IsTrue, Ok, Some, []}
use Rattle.crossbeam_channel.specs.Claims.{view}
use Rattle.tn_connect.specs.declared.{connected.Connected.Connected, sending.Delivered.Delivered}
use Rattle.tn_cores.specs.queue.Queue.{taker}
use Rattle.tn_net.specs.{Logs.logged, declared.sending.Sent.TheVariants.Whole}
use Rattle.tn_net.specs.Queue.{put_bytes, IsSeatIn, IsSent, PieceKey, PieceTable, WritesTaken, WritesToTheEnd}

-- the pieces that were taken from the queue with this table and this key were written to the connection
pub record IsDelivered (table : PieceTable) (key : PieceKey) (delivered : Delivered) : Type 0 where
  pub seat : IsSeatIn table key delivered.taker
  pub sent : WritesTaken (taker []) (view delivered.taker) (Some []) (Some (logged delivered.log))
  pub whole : delivered.sent ≡ Ok Whole
      → WritesToTheEnd (taker []) (view delivered.taker) (Some []) (Some (logged delivered.log))

-- The connection took the first of the bytes that the session wrote, each once and in their order, and all of
-- them if the session reports so.
abbrev pub TookWhatWasWritten : Connected → Type 0
TookWhatWasWritten connected =
    IsSent (put_bytes (view connected.queue)) (IsTrue connected.all_sent) (logged connected.log)
