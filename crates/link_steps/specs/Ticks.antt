-- One tick of a link, in its order. Rows whose hold has ended expire. The source packets planned for the tick arrive, in the order
-- in which their rows were reserved; one that finds its row's slots taken is dropped. The best-effort packet planned for the tick
-- joins the others, or is lost where as many wait as may. If no packet occupies the link, the first in line of the eligible ones
-- starts. And the packet whose last tick this is departs at its end.
use Rattle.std.specs.Prelude.{◌≡◌, ℕ, suc, nat_eq, List}
use Rattle.link_steps.specs.declared.replies.Reply.{Reply}
use Rattle.link_steps.specs.declared.replies.Reply.TheVariants.{Ticked}
use Rattle.link_steps.specs.declared.shape.LinkShape.{LinkShape}
use Rattle.link_steps.specs.Replies.{tick_reply, sent_at, best_sent_at}
use Rattle.link_steps.specs.Scan.{Scan, after_tick, without_expired, with_sources, with_best, best_step_at}
use Rattle.link_steps.specs.Service.{Start, here_at, serve_tick, starts_below}
use Rattle.link_steps.specs.Sources.{dropped_by, dropped_in}

-- tick t makes this scan of that one, and gets this reply
pub record MakesTick (shape : LinkShape) (t : ℕ) (before after : Scan) (reply : Reply) : Type 0 where
  pub expired : Scan
  pub expires : expired ≡ without_expired shape.bounds t before
  pub arrived : Scan
  pub arrives : arrived ≡ with_sources shape.bounds (here_at shape.rate before.packets t) t expired
  pub joins : after ≡ with_best shape.bounds (best_step_at shape t before) t arrived
  pub starts : List Start
  pub serves : starts ≡ serve_tick shape.rate after.packets t (starts_below shape.rate after.packets t)
  pub departs : reply ≡ Ticked t
      (dropped_in shape.bounds (here_at shape.rate before.packets t) t expired.rows)
      (sent_at shape (suc t) starts)
      (best_sent_at shape (suc t) starts)
      (nat_eq (dropped_by (best_step_at shape t before)) 1)

-- every tick is made so
abbrev pub ATickIsMadeInOrder : Type 0
ATickIsMadeInOrder = (shape : LinkShape) (t : ℕ) (scan : Scan) → MakesTick shape t scan (after_tick shape t scan) (tick_reply shape t scan)
