-- A queue that is given room keeps its keys.
use Rattle.std.proofs.Common.{◌∙◌, ap, sym, arith}
use Rattle.std.specs.VecDeque.{deque_capacity}
use Rattle.static_priority.specs.Room.{keys_of}
use Rattle.static_priority.proofs.reserve_each.Goals as goal
use Rattle.static_priority.proofs.QueuesKeepRoom.{keys-stay, holds-stay, holds-more}

pub returns-in_err-reserve-clause-keys : goal.returns-in_err-reserve-clause-keys
returns-in_err-reserve-clause-keys c =
    keys-stay c.loop-queue.queues c.loop-queue.queue-index c.queue-item.result c.reserve.new.self (omega arith) c.queue-item.is
    (c.reserve.ensures.items ∙ ap keys_of (sym c.queue-item.is))
    ∙ c.loop-queue.invariant.keys

pub returns-in_err-reserve-clause-grows : goal.returns-in_err-reserve-clause-grows
returns-in_err-reserve-clause-grows c least holds =
    holds-stay c.loop-queue.queues c.loop-queue.queue-index least c.queue-item.result c.reserve.new.self (omega arith) c.queue-item.is
    (omega (arith, ap deque_capacity c.queue-item.is, c.reserve.ensures.capacity)) (c.loop-queue.invariant.grows least holds)

pub loop-queue-preserved : goal.loop-queue-preserved
loop-queue-preserved c = record {
  keys = keys-stay c.loop-queue.queues c.loop-queue.queue-index c.queue-item.result c.reserve.new.self (omega arith) c.queue-item.is
      (c.reserve.ensures.items ∙ ap keys_of (sym c.queue-item.is))
      ∙ c.loop-queue.invariant.keys;
  grows = λ least holds. holds-stay c.loop-queue.queues c.loop-queue.queue-index least c.queue-item.result c.reserve.new.self (omega arith) c.queue-item.is
      (omega (arith, ap deque_capacity c.queue-item.is, c.reserve.ensures.capacity)) (c.loop-queue.invariant.grows least holds);
  room = holds-more c.loop-queue.queues c.loop-queue.queue-index c.args.room c.reserve.new.self (omega arith) (omega (arith, c.in_ok-reserve.ensures.ok))
      c.loop-queue.invariant.room;
}
