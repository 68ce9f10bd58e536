-- Both ends of a queue: as they begin, and once they are joined.
use Rattle.std.specs.Prelude.{◌≡◌, None, Some, []}
use Rattle.crossbeam_channel.specs.{Claims.{view, IsSeatAt}, Ends.{sends_on, receives_on}}
use Rattle.tn_cores.specs.queue.Queue.{LeftOver, joined_hands, putter, taker}
use Rattle.tn_net.specs.{Queue.{PieceHand, Pieces, count_behind}, declared.outgoing.NewQueue.NewQueue}

-- Both ends are of one channel, and nothing was put or taken.
pub record IsNew (queue : NewQueue) : Type 0 where
  pub one : receives_on queue.from ≡ sends_on queue.to
  pub put : IsSeatAt (sends_on queue.to) queue.pass
  pub taken : IsSeatAt (sends_on queue.to) queue.taker
  pub put_is : view queue.pass ≡ putter []
  pub taken_is : view queue.taker ≡ taker []

-- A queue is over: the views of the one that put and of the one that took, and that of both.
pub record IsSettled (put taken both : PieceHand) : Type 0 where
  pub joined : both ≡ joined_hands put taken
  pub left : (items : Pieces) × LeftOver both items
  pub known : (pieces : Pieces) × (put.put ≡ Some pieces)
  pub alone : put.taken ≡ None
  -- nothing was put after the end
  pub last : count_behind put.put ≡ 0
