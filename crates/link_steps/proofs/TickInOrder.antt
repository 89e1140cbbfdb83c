-- A tick is made in the order that its rule tells.
use Rattle.std.specs.Prelude.{refl, ℕ, suc}
use Rattle.link_steps.specs.declared.shape.LinkShape.{LinkShape}
use Rattle.link_steps.specs.Replies.{tick_reply}
use Rattle.link_steps.specs.Scan.{Scan, after_tick, without_expired, with_sources}
use Rattle.link_steps.specs.Service.{here_at, starts_below}
use Rattle.link_steps.specs.Ticks.{MakesTick, ATickIsMadeInOrder}

makes-tick : (shape : LinkShape) (t : ℕ) (scan : Scan) → MakesTick shape t scan (after_tick shape t scan) (tick_reply shape t scan)
unfolding after_tick starts_below
makes-tick shape t scan = record {
  expired = without_expired shape.bounds t scan;
  expires = refl;
  arrived = with_sources shape.bounds (here_at shape.rate scan.packets t) t (without_expired shape.bounds t scan);
  arrives = refl;
  joins = refl;
  starts = starts_below shape.rate (after_tick shape t scan).packets (suc t);
  serves = refl;
  departs = refl;
}

pub tick-in-order : ATickIsMadeInOrder
tick-in-order = makes-tick
