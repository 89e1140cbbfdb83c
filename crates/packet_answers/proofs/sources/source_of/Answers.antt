use Rattle.std.proofs.Common.{List, reverse, take, sym, subst, arith}
use Rattle.std.proofs.lemmas.List.{take_all}
use Rattle.net_units.specs.Numbers.{channel_number, link_number}
use Rattle.run_engine.proofs.Runs.RunFronts.{front-more}
use Rattle.run_record.specs.Runs.{part_of}
use Rattle.run_record.specs.declared.done.Done.{Done}
use Rattle.channel_report.proofs.LinkTallies.{past-short}
use Rattle.packet_answers.specs.SourceTallies.{KeepsSource}
use Rattle.packet_answers.proofs.sources.source_of.Goals as goal

pub loop-done-init : goal.loop-done-init
unfolding part_of
loop-done-init c = c.new-source.ensures (channel_number c.args.chan)

pub see-requires : goal.see-requires
see-requires c =
    let past = reverse (take c.loop-done.done-index c.args.entries.now) in
    (past, (c.loop-done.invariant, omega (arith, past-short c.args.entries.now c.loop-done.done-index, c.requires)))

pub loop-done-preserved : goal.loop-done-preserved
loop-done-preserved c =
    let past = reverse (take c.loop-done.done-index c.args.entries.now) in
    let more = front-more c.args.entries.now c.loop-done.done-index c.done-item.result c.loop-done-test.true c.done-item.is in
    subst (λ (run : List Done). KeepsSource (channel_number c.args.chan) (part_of (link_number c.args.first) run) c.see.new.self) (sym more) (c.in_ok-see.ensures past c.loop-done.invariant)

pub returns : goal.returns
returns c = subst (λ (entries : List Done). KeepsSource (channel_number c.args.chan) (part_of (link_number c.args.first) (reverse entries)) c.loop-done.source) (take_all c.loop-done.done-index c.args.entries.now c.loop-done-test.false) c.loop-done.invariant
