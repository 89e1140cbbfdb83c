use Rattle.std.proofs.Common.{◌≡◌, ◌+◌, take}
use Rattle.plane_workers.specs.Answered.{IsAnswered, ticks_in}
use Rattle.plane_workers.proofs.desk.answer.Given as goal

-- the asks so far are answered, and the clock has made their ticks
abbrev pub invariant-loop-ask : goal.invariant-loop-ask
invariant-loop-ask g l = record {
  so_far : IsAnswered g.L.LinkStep.link_of g.L.LinkStep.stands_for l.initial.link l.link (take l.ask-index l.asks) l.replies.items;
  clock : g.L.LinkStep.clock_at l.link ≡ g.L.LinkStep.clock_at l.initial.link + ticks_in (take l.ask-index l.asks);
}
