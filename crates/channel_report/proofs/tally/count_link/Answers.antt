-- The link of the entry has one more entry.
use Rattle.std.proofs.Common.{◌<◌, length, sym, ap, subst, ◌∙◌, arith}
use Rattle.link_steps.specs.Scan.{clock_of}
use Rattle.run_record.specs.Runs.{part_of}
use Rattle.channel_report.specs.Tallies.{IsTally}
use Rattle.channel_report.specs.declared.link_tally.LinkTally.{LinkTally}
use Rattle.channel_report.proofs.LinkTallies.{part-short, tallies-more}
use Rattle.channel_report.proofs.tally.count_link.Goals as goal

pub index-requires : goal.index-requires
index-requires c = omega (arith, c.from-place.ensures, c.get.ensures.value, c.requires.inside, c.args.links.now.ok.0)

pub index_mut-requires : goal.index_mut-requires
index_mut-requires c = omega (arith, c.from-place.ensures, c.get.ensures.value, c.requires.inside, c.args.links.now.ok.0)

pub add-requires : goal.add-requires
add-requires c =
    let past = c.requires.short.0 in
    let tally = c.requires.short.1.0.tells c.from-place.result c.index_mut.result.now (omega (arith, c.from-place.ensures, c.get.ensures.value, c.requires.inside)) in
    (part_of c.from-place.result past, (subst (IsTally (part_of c.from-place.result past)) (sym c.index_mut.ensures.value) tally, omega (arith, part-short c.from-place.result past, c.requires.short.1.1)))

pub returns-clause-clock : goal.returns-clause-clock
returns-clause-clock c = λ past are.
    let number = c.from-place.ensures ∙ c.get.ensures.value in
    let read = are.tells c.from-place.result c.index.result.now (omega (arith, number, c.requires.inside)) in
    ap (λ (t : LinkTally). t.clock) (c.index.ensures ∙ read.is) ∙ ap (λ n. clock_of (part_of n past)) number

pub returns-clause-counted : goal.returns-clause-counted
returns-clause-counted c = λ past are.
    let number = c.from-place.ensures ∙ c.get.ensures.value in
    let inside : c.from-place.result < length c.args.links.now.items = omega (arith, number, c.requires.inside) in
    let tally = are.tells c.from-place.result c.index_mut.result.now inside in
    let added = c.add.ensures (part_of c.from-place.result past) (subst (IsTally (part_of c.from-place.result past)) (sym c.index_mut.ensures.value) tally) in
    tallies-more (length c.args.links.now.items) past c.args.done.now c.args.links.now.items c.from-place.result c.add.new.self are (sym number) inside added
