-- The counts and the rows have what the tick tells, and there is nothing else to keep of it.
use Rattle.std.proofs.Common.{◌≡◌, ◌<◌, [], ◌∷◌, ◌++◌, length, refl, reverse, sym, subst, ◌∙◌, arith}
use Rattle.std.proofs.lemmas.List.{reverse-append}
use Rattle.std.proofs.lemmas.Option.{none-some}
use Rattle.link_steps.specs.declared.asks.Ask.TheVariants.{Tick}
use Rattle.call_script.specs.Tasks.{network_of}
use Rattle.run_engine.specs.schedules.PlaneSteps.{plane_step}
use Rattle.run_engine.proofs.Runs.RunLength.{run-short}
use Rattle.run_record.proofs.OfferPlaces.{hops-kept}
use Rattle.run_record.specs.Hops.{AreHops}
use Rattle.run_record.specs.Rows.{departures_in}
use Rattle.run_record.specs.Runs.{part_of}
use Rattle.run_record.specs.declared.done.Done.{Done}
use Rattle.channel_report.specs.KeptRows.{AreKeptIf}
use Rattle.channel_report.specs.Tallies.{IsToldTally}
use Rattle.channel_report.proofs.ChannelTallies.{sources-same}
use Rattle.channel_report.proofs.EarlyTicks.{next-early}
use Rattle.channel_report.proofs.FlowsKept.{flows-go_on, rows-few}
use Rattle.channel_report.proofs.LinkTallies.{link-within, part-short, told-more}
use Rattle.channel_report.proofs.tally.TallyWatch.see_told.Goals as goal

pub index_mut-requires : goal.index_mut-requires
index_mut-requires c =
    let run = c.requires.1.0 in
    let next = c.requires.1.1 in
    omega (arith, c.from.ensures, c.get.ensures.value, link-within c.args._plan.now run (plane_step (network_of c.args._plan.now) c.args.link Tick c.args.reply.now) next.next, next.lag.links.all, c.args.self.now.links.ok.0)

pub tell-requires : goal.tell-requires
tell-requires c =
    let run = c.requires.1.0 in
    let next = c.requires.1.1 in
    let place = c.from.result in
    let within = link-within c.args._plan.now run (plane_step (network_of c.args._plan.now) c.args.link Tick c.args.reply.now) next.next in
    let tally = next.lag.links.tells place c.index_mut.result.now (omega (arith, c.from.ensures, c.get.ensures.value, within)) in
    (part_of place run, (subst (IsToldTally (part_of place run)) (sym c.index_mut.ensures.value) tally, omega (arith, part-short place run, run-short c.args._plan.now run next.plan next.run_is)))

pub pair-requires : goal.pair-requires
pair-requires c =
    let run = c.requires.1.0 in
    let next = c.requires.1.1 in
    let short = run-short c.args._plan.now run next.plan next.run_is in
    let few = rows-few [] run in
    (c.args._plan.now.requests, reverse (departures_in [] (reverse run)), (next.lag.flows [], omega (arith, few, short)))

pub keep_row-requires : goal.keep_row-requires
keep_row-requires c =
    let run = c.requires.1.0 in
    let next = c.requires.1.1 in
    next-early c.args._plan.now run (plane_step (network_of c.args._plan.now) c.args.link Tick c.args.reply.now) next.plan next.run_is next.next (run-short c.args._plan.now run next.plan next.run_is)

pub returns-clause-seen : goal.returns-clause-seen
returns-clause-seen c = λ past run next.
    let parts = c.args._plan.now in
    let old = c.args.self.now in
    let done : Done = plane_step (network_of parts) c.args.link Tick c.args.reply.now in
    let lag = next.lag in
    let turned : reverse run ++ done ∷ [] ≡ reverse (done ∷ run) = sym (reverse-append (done ∷ []) run) in
    let noted = hops-kept (reverse run) done old.hops.channels.items refl lag.hops in
    let place = c.from.result in
    let number = c.from.ensures ∙ c.get.ensures.value in
    let inside : place < length parts.links = omega (arith, number, link-within parts run done next.next) in
    let tally = lag.links.tells place c.index_mut.result.now inside in
    let told = c.tell.ensures (part_of place run) (subst (IsToldTally (part_of place run)) (sym c.index_mut.ensures.value) tally) in
    record {
      links = told-more (length parts.links) run done old.links.items place c.tell.new.self lag.links (sym number) inside told;
      channels = sources-same parts.requests run done old.channels.items lag.channels (λ n entry chan found on of own. none-some _ of);
      flows = flows-go_on parts.requests run done old.flows.items c.pair.new.flows.items (λ rows whole are. c.in_ok-pair.ensures parts.requests rows whole are) lag.flows;
      hops = subst (λ entries. AreHops entries old.hops.channels.items) turned noted;
      rows = subst (λ entries. AreKeptIf old.packets entries c.keep_row.new.rows.items) turned (c.in_ok-keep_row.ensures (reverse run) done refl refl noted lag.rows);
      made = lag.made;
      steps = lag.steps;
    }
