use Rattle.std.proofs.Common.{arith}
use Rattle.link_steps.proofs.ClockAdvances.{clock_of-most}
use Rattle.net_units.specs.Numbers.{channel_number}
use Rattle.channel_report.proofs.ChannelTallies.{refused-most}
use Rattle.channel_report.specs.Sources.{planned_in}
use Rattle.packet_answers.proofs.SourceSteps.{source-more}
use Rattle.packet_answers.proofs.sources.Source.take.Goals as goal

pub keep-requires : goal.keep-requires
keep-requires c =
    let h = c.requires.0 in
    record { few = omega (arith, c.requires.1.0.refuses, refused-most (channel_number c.args.chan) h, c.requires.1.1) }

pub overflow_add-self : goal.overflow_add-self
overflow_add-self c =
    let h = c.requires.0 in
    omega (arith, c.requires.1.0.clock, clock_of-most h, c.requires.1.1, c.in_ok-keep.ensures.clock, c.ticks.ensures.most)

pub returns : goal.returns
returns c = λ h keeps.
    source-more (channel_number c.args.chan) h c.args.ask.now c.args.reply.now c.act_for.result c.args.self.now _ keeps c.act_for.ensures
    (omega (arith, c.in_ok-keep.ensures.clock, c.ticks.ensures.value c.args.self.now.clock))
    (c.in_ok-keep.ensures.ticks (planned_in (channel_number c.args.chan) h) keeps.ticks)
    c.in_ok-keep.ensures.refused
