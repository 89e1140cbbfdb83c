-- The clock of the link and the counts of steps go on, and all else stays.
use Rattle.std.proofs.Common.{◌≡◌, ◌<◌, [], ◌∷◌, ◌++◌, length, refl, reverse, sym, ap, subst, ◌∙◌, arith}
use Rattle.std.proofs.lemmas.List.{reverse-append}
use Rattle.net_units.specs.Numbers.{actor_number}
use Rattle.link_steps.specs.declared.asks.Ask.TheVariants.{Tick}
use Rattle.link_steps.specs.Quiet.{quiet_reply}
use Rattle.call_script.specs.Tasks.{network_of}
use Rattle.run_engine.specs.schedules.PlaneSteps.{plane_step}
use Rattle.run_engine.proofs.Runs.RunLength.{run-short}
use Rattle.run_record.proofs.OfferPlaces.{hops-kept}
use Rattle.run_record.specs.Hops.{AreHops}
use Rattle.run_record.specs.Runs.{part_of}
use Rattle.run_record.specs.declared.done.Done.{Done}
use Rattle.channel_report.specs.KeptRows.{AreKeptIf}
use Rattle.channel_report.specs.Tallies.{IsTally}
use Rattle.channel_report.proofs.ChannelTallies.{sources-same}
use Rattle.channel_report.proofs.RowsStayKept.{row-none}
use Rattle.channel_report.proofs.FlowsKept.{flows-stay}
use Rattle.channel_report.proofs.LinkTallies.{link-within, part-short, tallies-more}
use Rattle.channel_report.proofs.tally.TallyWatch.passed.Goals as goal
use Rattle.std.proofs.lemmas.Option.{none-some}

pub index_mut-requires : goal.index_mut-requires
index_mut-requires c =
    let next = c.requires.1 in
    omega (arith, c.from.ensures, c.get.ensures.value, link-within c.args.plan.now c.requires.0 (plane_step (network_of c.args.plan.now) c.args.link Tick (quiet_reply c.args._clock)) next.next, next.seen.links.all, c.args.self.now.links.ok.0)

pub count_step-requires : goal.count_step-requires
count_step-requires c = (c.requires.0, (c.requires.1.seen.made, run-short c.args.plan.now c.requires.0 c.requires.1.plan c.requires.1.run))

pub overflow_add-self : goal.overflow_add-self
overflow_add-self c = (let short = run-short c.args.plan.now c.requires.0 c.requires.1.plan c.requires.1.run in omega (arith, short, c.requires.1.seen.steps))

pub pass-requires : goal.pass-requires
pass-requires c =
    let past = c.requires.0 in
    let next = c.requires.1 in
    let place = c.from.result in
    let within = link-within c.args.plan.now past (plane_step (network_of c.args.plan.now) c.args.link Tick (quiet_reply c.args._clock)) next.next in
    let tally = next.seen.links.tells place c.index_mut.result.now (omega (arith, c.from.ensures, c.get.ensures.value, within)) in
    (part_of place past, (subst (IsTally (part_of place past)) (sym c.index_mut.ensures.value) tally, omega (arith, part-short place past, run-short c.args.plan.now past next.plan next.run)))

pub returns-clause-seen : goal.returns-clause-seen
returns-clause-seen c = λ past next.
    let parts = c.args.plan.now in
    let old = c.args.self.now in
    let done : Done = plane_step (network_of parts) c.args.link Tick (quiet_reply c.args._clock) in
    let seen = next.seen in
    let turned : reverse past ++ done ∷ [] ≡ reverse (done ∷ past) = sym (reverse-append (done ∷ []) past) in
    let place = c.from.result in
    let number = c.from.ensures ∙ c.get.ensures.value in
    let inside : place < length parts.links = omega (arith, number, link-within parts past done next.next) in
    let tally = seen.links.tells place c.index_mut.result.now inside in
    let passed = c.pass.ensures (part_of place past) c.args._clock (subst (IsTally (part_of place past)) (sym c.index_mut.ensures.value) tally) in
    record {
      links = tallies-more (length parts.links) past done old.links.items place c.pass.new.self seen.links (sym number) inside passed;
      channels = sources-same parts.requests past done old.channels.items seen.channels (λ n entry chan found on of own. none-some _ of);
      flows = flows-stay parts.requests past done old.flows.items (λ run. refl) seen.flows;
      hops = subst (λ entries. AreHops entries old.hops.channels.items) turned (hops-kept (reverse past) done old.hops.channels.items refl seen.hops);
      rows = subst (λ entries. AreKeptIf old.packets entries old.rows.items) turned (row-none old.packets (reverse past) done old.rows.items (λ run. refl) seen.rows);
      made = c.count_step.ensures past done seen.made (ap actor_number (sym c.plane_of-actor.ensures));
      steps = omega (arith, seen.steps);
    }
