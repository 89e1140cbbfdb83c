use Rattle.std.proofs.Common.{sym, ◌∙◌, arith}
use Rattle.net_units.specs.Numbers.{link_number}
use Rattle.run_engine.proofs.Runs.RunLegal.{part-on, part-off}
use Rattle.run_record.specs.Runs.{part_of}
use Rattle.channel_report.proofs.LinkTallies.{part-short}
use Rattle.packet_answers.proofs.sources.Source.see.Goals as goal

pub take-requires : goal.take-requires
take-requires c =
    let past = c.requires.0 in
    let first = link_number c.args.first in
    (part_of first past, (c.requires.1.0, omega (arith, part-short first past, c.requires.1.1)))

pub returns-then-get : goal.returns-then-get
returns-then-get c = λ past keeps.
    rw (part-off (link_number c.args.first) c.args.done.now past (λ same. c.if-get.true (c.get.ensures.value ∙ (same ∙ sym c.get-2.ensures.value)))) keeps

pub returns : goal.returns
returns c = λ past keeps.
    rw (part-on (link_number c.args.first) c.args.done.now past (sym c.get.ensures.value ∙ (c.if-get.false ∙ c.get-2.ensures.value))) (c.in_ok-take.ensures (part_of (link_number c.args.first) past) keeps)
