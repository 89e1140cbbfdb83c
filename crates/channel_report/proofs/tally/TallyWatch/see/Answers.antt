-- Each part of the tally has the new entry.
use Rattle.std.proofs.Common.{◌≡◌, [], ◌∷◌, ◌++◌, refl, reverse, sym, subst, arith}
use Rattle.std.proofs.lemmas.List.{reverse-append}
use Rattle.run_engine.proofs.Runs.RunLength.{run-short}
use Rattle.run_record.specs.Hops.{AreHops}
use Rattle.run_record.specs.Rows.{departures_in}
use Rattle.channel_report.specs.KeptRows.{AreKeptIf}
use Rattle.channel_report.specs.Tallies.{AreLinkTallies}
use Rattle.channel_report.proofs.EarlyTicks.{next-early}
use Rattle.channel_report.proofs.FlowsKept.{flows-go_on, rows-few}
use Rattle.channel_report.proofs.LinkTallies.{link-within}
use Rattle.channel_report.proofs.tally.TallyWatch.see.Goals as goal

pub count_link-clock-requires-clause-inside : goal.count_link-clock-requires-clause-inside
count_link-clock-requires-clause-inside c =
    let next = c.requires.1 in
    omega (arith, link-within c.args.plan.now c.requires.0 c.args.done.now next.next, next.seen.links.all)

pub count_link-clock-requires-clause-short : goal.count_link-clock-requires-clause-short
count_link-clock-requires-clause-short c =
    let past = c.requires.0 in
    let next = c.requires.1 in
    (past, (subst (λ n. AreLinkTallies n past c.args.self.now.links.items) (sym next.seen.links.all) next.seen.links, run-short c.args.plan.now past next.plan next.run))

pub keep_source-requires : goal.keep_source-requires
keep_source-requires c = (c.requires.0, (c.requires.1.seen.channels, run-short c.args.plan.now c.requires.0 c.requires.1.plan c.requires.1.run))

pub pair-requires : goal.pair-requires
pair-requires c =
    let past = c.requires.0 in
    let next = c.requires.1 in
    let short = run-short c.args.plan.now past next.plan next.run in
    let few = rows-few [] past in
    (c.args.plan.now.requests, reverse (departures_in [] (reverse past)), (next.seen.flows [], omega (arith, few, short)))

pub keep_row-requires : goal.keep_row-requires
keep_row-requires c =
    let next = c.requires.1 in
    next-early c.args.plan.now c.requires.0 c.args.done.now next.plan next.run next.next (run-short c.args.plan.now c.requires.0 next.plan next.run)

pub count_step-requires : goal.count_step-requires
count_step-requires c = (c.requires.0, (c.requires.1.seen.made, run-short c.args.plan.now c.requires.0 c.requires.1.plan c.requires.1.run))

pub overflow_add-self : goal.overflow_add-self
overflow_add-self c = (let short = run-short c.args.plan.now c.requires.0 c.requires.1.plan c.requires.1.run in omega (arith, short, c.requires.1.seen.steps))

pub returns-clause-seen : goal.returns-clause-seen
returns-clause-seen c = λ past next.
    let parts = c.args.plan.now in
    let done = c.args.done.now in
    let seen = next.seen in
    let turned : reverse past ++ done ∷ [] ≡ reverse (done ∷ past) = sym (reverse-append (done ∷ []) past) in
    let links = subst (λ n. AreLinkTallies n past c.args.self.now.links.items) (sym seen.links.all) seen.links in
    let noted = c.in_ok-note.ensures (reverse past) seen.hops in
    record {
      links = subst (λ n. AreLinkTallies n (done ∷ past) c.count_link-clock.new.links.items) seen.links.all (c.count_link-clock.ensures.counted past links);
      channels = c.in_ok-keep_source.ensures past seen.channels (c.count_link-clock.ensures.clock past links);
      flows = flows-go_on parts.requests past done c.args.self.now.flows.items c.pair.new.flows.items (λ rows whole are. c.in_ok-pair.ensures parts.requests rows whole are) seen.flows;
      hops = subst (λ entries. AreHops entries c.note.new.self.channels.items) turned noted;
      rows = subst (λ entries. AreKeptIf c.args.self.now.packets entries c.keep_row.new.rows.items) turned (c.in_ok-keep_row.ensures (reverse past) done refl refl noted seen.rows);
      made = c.count_step.ensures past done seen.made refl;
      steps = omega (arith, seen.steps);
    }
