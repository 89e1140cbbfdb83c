-- The counts and the rows have the new entry, and there is nothing else to keep of it; or it is seen as any other.
use Rattle.std.proofs.Common.{◌≡◌, ◌<◌, List, [], ◌∷◌, ◌++◌, length, refl, reverse, sym, ap, subst, ◌∙◌, arith}
use Rattle.std.proofs.lemmas.List.{reverse-append}
use Rattle.net_units.specs.Numbers.{actor_number}
use Rattle.net_units.specs.declared.numbers.ActorNo.{ActorNo}
use Rattle.call_script.specs.Tasks.{network_of}
use Rattle.run_engine.specs.schedules.PlaneSteps.{plane_step}
use Rattle.call_script.specs.Parts.{PlanParts}
use Rattle.run_engine.specs.schedules.Watching.{IsNextSeen}
use Rattle.run_engine.proofs.Runs.RunLength.{run-short}
use Rattle.run_record.proofs.OfferPlaces.{hops-kept}
use Rattle.run_record.specs.Hops.{AreHops}
use Rattle.run_record.specs.Rows.{departures_in}
use Rattle.run_record.specs.Runs.{part_of}
use Rattle.run_record.specs.declared.done.Done.{Done}
use Rattle.channel_report.specs.KeptRows.{AreKeptIf}
use Rattle.channel_report.specs.Tallied.{IsTallied}
use Rattle.channel_report.specs.Tallies.{IsTally}
use Rattle.channel_report.specs.declared.tally.Tally.{Tally}
use Rattle.channel_report.proofs.ChannelTallies.{for-none, sources-same}
use Rattle.channel_report.proofs.CountsPerLink.{tally-same}
use Rattle.channel_report.proofs.EarlyTicks.{next-early}
use Rattle.channel_report.proofs.FlowsKept.{flows-go_on, flows-stay, rows-few}
use Rattle.channel_report.proofs.LinkTallies.{link-within, part-short, tallies-more, tallies-same}
use Rattle.channel_report.proofs.RowsStayKept.{row-none}
use Rattle.channel_report.proofs.tally.TallyWatch.see_plane.Goals as goal

pub index_mut-requires : goal.index_mut-requires
index_mut-requires c =
    let next = c.requires.1 in
    omega (arith, c.from.ensures, c.get.ensures.value, link-within c.args.plan.now c.requires.0 (plane_step (network_of c.args.plan.now) c.args.link c.args.ask.now c.args.reply.now) next.next, next.seen.links.all, c.args.self.now.links.ok.0)

pub pair-requires : goal.pair-requires
pair-requires c =
    let past = c.requires.0 in
    let next = c.requires.1 in
    let short = run-short c.args.plan.now past next.plan next.run in
    let few = rows-few [] past in
    (c.args.plan.now.requests, reverse (departures_in [] (reverse past)), (next.seen.flows [], omega (arith, few, short)))

pub keep_row-requires : goal.keep_row-requires
keep_row-requires c =
    let next = c.requires.1 in
    next-early c.args.plan.now c.requires.0 (plane_step (network_of c.args.plan.now) c.args.link c.args.ask.now c.args.reply.now) next.plan next.run next.next (run-short c.args.plan.now c.requires.0 next.plan next.run)

pub count_step-requires : goal.count_step-requires
count_step-requires c = (c.requires.0, (c.requires.1.seen.made, run-short c.args.plan.now c.requires.0 c.requires.1.plan c.requires.1.run))

pub overflow_add-self : goal.overflow_add-self
overflow_add-self c = (let short = run-short c.args.plan.now c.requires.0 c.requires.1.plan c.requires.1.run in omega (arith, short, c.requires.1.seen.steps))

pub count_step-requires-then-is_for_no_source : goal.count_step-requires-then-is_for_no_source
count_step-requires-then-is_for_no_source c = (c.requires.0, (c.requires.1.seen.made, run-short c.args.plan.now c.requires.0 c.requires.1.plan c.requires.1.run))

pub overflow_add-self-then-is_for_no_source : goal.overflow_add-self-then-is_for_no_source
overflow_add-self-then-is_for_no_source c = (let short = run-short c.args.plan.now c.requires.0 c.requires.1.plan c.requires.1.run in omega (arith, short, c.requires.1.seen.steps))

pub add-requires : goal.add-requires
add-requires c =
    let past = c.requires.0 in
    let next = c.requires.1 in
    let place = c.from.result in
    let within = link-within c.args.plan.now past (plane_step (network_of c.args.plan.now) c.args.link c.args.ask.now c.args.reply.now) next.next in
    let tally = next.seen.links.tells place c.index_mut.result.now (omega (arith, c.from.ensures, c.get.ensures.value, within)) in
    (part_of place past, (subst (IsTally (part_of place past)) (sym c.index_mut.ensures.value) tally, omega (arith, part-short place past, run-short c.args.plan.now past next.plan next.run)))

-- ---- a step that tells nothing

pub returns-then-tells_nothing-clause-seen : goal.returns-then-tells_nothing-clause-seen
returns-then-tells_nothing-clause-seen c = λ past next.
    let parts = c.args.plan.now in
    let old = c.args.self.now in
    let done : Done = plane_step (network_of parts) c.args.link c.args.ask.now c.args.reply.now in
    let seen = next.seen in
    let nothing = c.tells_nothing.ensures c.if-tells_nothing.true in
    let turned : reverse past ++ done ∷ [] ≡ reverse (done ∷ past) = sym (reverse-append (done ∷ []) past) in
    record {
      links = tallies-same (length parts.links) past done old.links.items seen.links (λ h tally is. tally-same h c.args.ask.now c.args.reply.now tally nothing is);
      channels = sources-same parts.requests past done old.channels.items seen.channels (λ n entry chan found on of own. for-none _ chan nothing.source of);
      flows = flows-stay parts.requests past done old.flows.items (λ run. nothing.rows run c.args.link) seen.flows;
      hops = subst (λ entries. AreHops entries old.hops.channels.items) turned (hops-kept (reverse past) done old.hops.channels.items nothing.offer seen.hops);
      rows = subst (λ entries. AreKeptIf old.packets entries old.rows.items) turned (row-none old.packets (reverse past) done old.rows.items (λ run. nothing.rows run c.args.link) seen.rows);
      made = c.count_step.ensures past done seen.made (ap actor_number (sym c.plane_of-actor.ensures));
      steps = omega (arith, seen.steps);
    }

-- ---- any other of the plane's

pub returns-then-is_for_no_source-clause-seen : goal.returns-then-is_for_no_source-clause-seen
returns-then-is_for_no_source-clause-seen c = λ past next.
    let parts = c.args.plan.now in
    let old = c.args.self.now in
    let done : Done = plane_step (network_of parts) c.args.link c.args.ask.now c.args.reply.now in
    let seen = next.seen in
    let alone = c.if-is_for_no_source.true in
    let turned : reverse past ++ done ∷ [] ≡ reverse (done ∷ past) = sym (reverse-append (done ∷ []) past) in
    let noted = hops-kept (reverse past) done old.hops.channels.items (c.is_for_no_source.ensures.offers alone c.args.reply.now) seen.hops in
    let place = c.from.result in
    let number = c.from.ensures ∙ c.get.ensures.value in
    let inside : place < length parts.links = omega (arith, number, link-within parts past done next.next) in
    let tally = seen.links.tells place c.index_mut.result.now inside in
    let added = c.add.ensures (part_of place past) (subst (IsTally (part_of place past)) (sym c.index_mut.ensures.value) tally) in
    record {
      links = tallies-more (length parts.links) past done old.links.items place c.add.new.self seen.links (sym number) inside added;
      channels = sources-same parts.requests past done old.channels.items seen.channels (λ n entry chan found on of own. for-none _ chan (c.is_for_no_source.ensures.sources alone c.args.reply.now) of);
      flows = flows-go_on parts.requests past done old.flows.items c.pair.new.flows.items (λ rows whole are. c.in_ok-pair.ensures parts.requests rows whole are) seen.flows;
      hops = subst (λ entries. AreHops entries old.hops.channels.items) turned noted;
      rows = subst (λ entries. AreKeptIf old.packets entries c.keep_row.new.rows.items) turned (c.in_ok-keep_row.ensures (reverse past) done refl refl noted seen.rows);
      made = c.count_step-then-is_for_no_source.ensures past done seen.made (ap actor_number (sym c.plane_of-actor.ensures));
      steps = omega (arith, seen.steps);
    }

-- the entry is that of the actor, by whatever name
seen-by : (parts : PlanParts) (tally : Tally) (past : List Done) (done : Done) (actor : ActorNo) → actor ≡ done.actor → IsNextSeen (λ (t : Tally) ps run. IsTallied ps run t) parts tally past done → IsNextSeen (λ (t : Tally) ps run. IsTallied ps run t) parts tally past (record done { actor = actor })
seen-by parts tally past done actor is next = subst (λ a. IsNextSeen (λ (t : Tally) ps run. IsTallied ps run t) parts tally past (record done { actor = a })) (sym is) next

pub see-requires : goal.see-requires
see-requires c =
    let done = plane_step (network_of c.args.plan.now) c.args.link c.args.ask.now c.args.reply.now in
    (c.requires.0, seen-by c.args.plan.now c.args.self.now c.requires.0 done c.plane_of-actor.result c.plane_of-actor.ensures c.requires.1)

pub returns-clause-seen : goal.returns-clause-seen
returns-clause-seen c = λ past next.
    let done = plane_step (network_of c.args.plan.now) c.args.link c.args.ask.now c.args.reply.now in
    subst (λ (actor : ActorNo). IsTallied c.args.plan.now (record done { actor = actor } ∷ past) c.see.new.self) c.plane_of-actor.ensures
    (c.in_ok-see.ensures.seen past (seen-by c.args.plan.now c.args.self.now past done c.plane_of-actor.result c.plane_of-actor.ensures next))
