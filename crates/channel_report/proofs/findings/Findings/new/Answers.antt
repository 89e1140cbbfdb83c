-- The tally is of each run that it has seen, and the rows that it keeps tell the run's delays.
use Rattle.std.proofs.Common.{length, map, reverse, sym, ap, subst, ◌∙◌, arith}
use Rattle.std.proofs.lemmas.List.{length-reverse, reverse-reverse}
use Rattle.call_script.specs.Tasks.{network_of}
use Rattle.run_engine.specs.runs.Runs.{IsRun}
use Rattle.run_engine.specs.schedules.Standing.{CallersStand}
use Rattle.run_engine.proofs.Runs.RunLength.{run-short}
use Rattle.channel_report.specs.ChannelTallies.{AreChannelTallies}
use Rattle.channel_report.specs.Tallies.{AreLinkTallies}
use Rattle.channel_report.specs.declared.flow.Flow.{Flow}
use Rattle.channel_report.proofs.FlowsKept.{found-delays}
use Rattle.channel_report.proofs.RowsStayKept.{kept-rows}
use Rattle.channel_report.proofs.findings.Findings.new.Goals as goal

pub returns-clause-found : goal.returns-clause-found
returns-clause-found c = λ run told.
    let parts = c.args.plan.now in
    let tally = c.args.tally in
    let plan = c.requests-requests.ensures.valid in
    let back = reverse-reverse run in
    let rows = c.in_ok-rows.ensures (reverse run) told.tallied.hops in
    record {
      run = subst (IsRun (network_of parts)) (sym back) told.is_run;
      callers = subst (CallersStand parts c.args.callers) (sym back) told.stand;
      links = subst (λ past. AreLinkTallies (length parts.links) past tally.links.items) (sym back) told.tallied.links;
      rows = λ whole. rows ∙ kept-rows (reverse run) tally.rows.items (told.tallied.rows whole);
      channels = subst (λ past. AreChannelTallies parts.requests past tally.channels.items) (sym back) told.tallied.channels;
      delays = found-delays parts run tally.flows.items c.in_ok-delays.delays.items plan told.is_run (told.tallied.flows (reverse run)) (c.in_ok-delays.ensures ∙ ap (map (λ (flow : Flow). flow.delays)) c.as_slice.ensures.value);
      short = (let short = run-short parts run plan told.is_run in omega (arith, short, length-reverse run));
      steps = told.tallied.steps ∙ sym (length-reverse run);
    }
