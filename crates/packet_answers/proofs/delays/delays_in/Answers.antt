use Rattle.std.proofs.Common.{take, reverse, refl, sym, ap, ◌∙◌, arith}
use Rattle.channel_report.specs.Delays.{worst_of}
use Rattle.report_laws.specs.RowDelays.{first_in, nearer, row_delays_of}
use Rattle.report_laws.proofs.DelaysRowByRow.{first-more, front-more}
use Rattle.packet_answers.specs.ChannelDelays.{delays_as}
use Rattle.packet_answers.proofs.delays.delays_in.Goals as goal

pub loop-row-init : goal.loop-row-init
unfolding first_in row_delays_of worst_of
loop-row-init c = record { few = omega arith; first = refl; delays = λ request ends. refl }

pub loop-row-preserved : goal.loop-row-preserved
loop-row-preserved c =
    let rows = c.args.rows.now in
    let before = reverse (take c.loop-row.row-index rows) in
    let more = front-more rows c.loop-row.row-index c.row-item.result c.loop-row-test.true c.row-item.is in
    let first = c.nearer-first.ensures ∙ (ap (nearer c.row-item.result) c.loop-row.invariant.first ∙ first-more c.row-item.result before) in
    record {
      few = omega (arith, c.deliver.ensures.few, c.loop-row.invariant.few);
      first = first ∙ ap first_in (sym more);
      delays = λ request ends. c.deliver.ensures.told request before ends first (c.loop-row.invariant.delays request ends) ∙ ap (λ rs. delays_as (row_delays_of request rs)) (sym more);
    }

pub deliver-requires : goal.deliver-requires
deliver-requires c = omega (arith, c.loop-row.invariant.few, c.loop-row-test.true, c.requires)
