use Rattle.std.proofs.Common.{◌∷◌, [], length, ap, arith, length-append}
use Rattle.packet_answers.proofs.RowSteps.{rows-more}
use Rattle.packet_answers.specs.Plays.{run_in}
use Rattle.packet_answers.proofs.rows.rows_told.Goals as goal

pub loop-number-preserved : goal.loop-number-preserved
loop-number-preserved c =
    let told = c.loop-number.told.items in
    let row = c.in_ok-row_of.field-0 in
    record {
      count = omega (arith, ap length c.in_ok-push.ensures.items, length-append told (row ∷ []), c.loop-number.invariant.count);
      each = rows-more c.args.plan.now.requests (run_in c.args.played.now) c.loop-number.number told c.push.new.self.items row c.in_ok-push.ensures.items c.loop-number.invariant.count c.loop-number.invariant.each c.in_ok-row_of.ensures;
    }

pub returns : goal.returns
returns c = record {
  all = omega (arith, c.loop-number.invariant.count, c.loop-number-test.false, c.loop-number.auto.number-end, ap length c.requests-number-end.ensures.value);
  each = c.loop-number.invariant.each;
}
