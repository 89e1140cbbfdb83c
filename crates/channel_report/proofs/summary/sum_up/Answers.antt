-- One more request.
use Rattle.std.proofs.Common.{◌<◌, length, reverse, ◌∙◌}
use Rattle.std.specs.Prelude.{option_map}
use Rattle.run_engine.proofs.Keeping.Lookups.{held}
use Rattle.channel_report.specs.Delays.{departures_of}
use Rattle.setup_protocol.specs.State.{outcome_of}
use Rattle.channel_report.proofs.SumsOverRequests.{few-more, sums-more}
use Rattle.channel_report.proofs.summary.sum_up.Goals as goal
use Rattle.call_script.proofs.Walks.{read-at}

pub loop-number-preserved : goal.loop-number-preserved
loop-number-preserved c =
    let requests = c.args.plan.now.requests in
    let number = c.loop-number.number in
    let outcome = option_map outcome_of c.verdict-verdict.result in
    let inside : number < length requests = rw (← c.requests-number-end.ensures.value) c.loop-number-test.true in
    let entry = held requests number inside in
    let few = few-more outcome c.delivered_on.result c.loop-number.sums c.add.new.self number c.add.ensures c.delivered_on.ensures.small c.loop-number.invariant.accepted c.loop-number.invariant.denied c.loop-number.invariant.delivered in
    record {
      accepted = few.accepted;
      denied = few.denied;
      delivered = few.delivered;
      told = λ entries found.
          c.add.ensures
          ∙ sums-more (departures_of entries) (reverse entries) requests number entry.item outcome c.delivered_on.result c.loop-number.sums inside (read-at requests number entry.item entry.found) (c.verdict-verdict.ensures (reverse entries) entry.item found.run found.callers entry.found)
          (c.delivered_on.ensures.told c.args.plan.now entries entry.item found entry.found) (c.loop-number.invariant.told entries found);
    }
