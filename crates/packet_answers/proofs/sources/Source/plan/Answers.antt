use Rattle.std.proofs.Common.{◌≡◌, ◌-◌, refl, sym, ◌∙◌, arith, append-nil}
use Rattle.channel_report.specs.ChannelTallies.{never}
use Rattle.channel_report.proofs.PlannedTicks.{made-next, made-end}
use Rattle.packet_answers.proofs.sources.Source.plan.Goals as goal

pub loop-planned-init : goal.loop-planned-init
loop-planned-init c =
    let all : c.args.count - 0 ≡ c.args.count = omega arith in
    record { ticks = rw all refl; refused = refl; clock = refl }

pub loop-planned-preserved : goal.loop-planned-preserved
loop-planned-preserved c = record {
  ticks = rw c.in_ok-push.ensures.items (made-next c.loop-planned.self.ticks.items never c.loop-planned.next c.args.gap _ c.args.count c.loop-planned._planned _ c.loop-planned-test.true c.if-next-ge-NEVER.false (omega arith) c.saturating_add-next.ensures c.loop-planned.invariant.ticks);
  refused = c.loop-planned.invariant.refused;
  clock = c.loop-planned.invariant.clock;
}

pub returns-then-next-ge-NEVER-clause-ticks : goal.returns-then-next-ge-NEVER-clause-ticks
returns-then-next-ge-NEVER-clause-ticks c =
    made-end c.loop-planned.self.ticks.items never c.loop-planned.next c.args.gap _ _ c.if-next-ge-NEVER.true c.loop-planned.invariant.ticks

pub returns-clause-ticks : goal.returns-clause-ticks
returns-clause-ticks c =
    let none : c.args.count - c.loop-planned._planned ≡ 0 = omega arith in
    sym (append-nil c.loop-planned.self.ticks.items) ∙ (rw none at c.loop-planned.invariant.ticks)
