use Rattle.std.proofs.Common.{◌≡◌, ◌<◌, ◌≤◌, length, get_or}
use Rattle.run_record.specs.Runs.{part_of}
use Rattle.channel_report.specs.Links.{link_line, told_link}
use Rattle.channel_report.proofs.LinesByItem.{found-item, line-at}
use Rattle.channel_report.proofs.LinkTallies.{nothing}
use Rattle.text_writer.proofs.TextsTold.{all-told, item-failed, item-told}
use Rattle.channel_report.proofs.link_lines.tell_links.Goals as goal

pub returns-in_err-tell_link : goal.returns-in_err-tell_link
returns-in_err-tell_link g c = λ run are.
    let links = c.args.plan.now.links in
    let number = c.loop-number.number in
    let entry = c.entry-item.result in
    let inside : number < length links = rw (← c.links-entry-items.ensures.value) c.loop-number-test.true in
    let at : entry ≡ get_or links number entry = rw (← c.links-entry-items.ensures.value) c.entry-item.is in
    let line = line-at c.args.plan.now run number entry c.version-version.result c.takes_best-best.result c.links-entry-items.ensures.valid (found-item links number entry inside at) c.version-version.ensures c.takes_best-best.ensures in
    item-failed (link_line c.args.plan.now.version run) links number entry (told_link entry.name c.takes_best-best.result (part_of number run)) _ (g.K.Sink.written c.loop-number.sink) _ c.args.gather.now c.loop-number.gather c.tell_link.new.gather _ (g.K.Sink.faults c.loop-number.sink) _
    c.from_residual.result c.in_err-tell_link.field-0.0 c.from_residual.ensures.1 inside at line (c.loop-number.invariant run are) (c.in_err-tell_link.ensures (part_of number run) (are.tells number nothing inside).is)

pub loop-number-preserved : goal.loop-number-preserved
loop-number-preserved g c = λ run are.
    let links = c.args.plan.now.links in
    let number = c.loop-number.number in
    let entry = c.entry-item.result in
    let inside : number < length links = rw (← c.links-entry-items.ensures.value) c.loop-number-test.true in
    let at : entry ≡ get_or links number entry = rw (← c.links-entry-items.ensures.value) c.entry-item.is in
    let line = line-at c.args.plan.now run number entry c.version-version.result c.takes_best-best.result c.links-entry-items.ensures.valid (found-item links number entry inside at) c.version-version.ensures c.takes_best-best.ensures in
    item-told (link_line c.args.plan.now.version run) links number entry (told_link entry.name c.takes_best-best.result (part_of number run)) _ (g.K.Sink.written c.loop-number.sink) _ c.args.gather.now c.loop-number.gather c.tell_link.new.gather _ _ _ inside at line
    (c.loop-number.invariant run are) (c.in_ok-tell_link.ensures (part_of number run) (are.tells number nothing inside).is)

pub returns : goal.returns
returns g c = λ run are.
    let links = c.args.plan.now.links in
    let past : length links ≤ c.loop-number.number = rw (← c.links-entry-items.ensures.value) c.loop-number-test.false in
    all-told (link_line c.args.plan.now.version run) links c.loop-number.number _ (g.K.Sink.written c.loop-number.sink) c.args.gather.now c.loop-number.gather _ _ past (c.loop-number.invariant run are)
