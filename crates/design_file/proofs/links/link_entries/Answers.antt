use Rattle.design_file.proofs.LinksOneByOne.{no-links, links-more, all-links}
use Rattle.design_file.proofs.links.link_entries.Goals as goal

pub loop-link-init : goal.loop-link-init
loop-link-init c = no-links c.args.scale.now.tick c.args.scale.now.unit c.args.links.now c.new-entries.result.items c.new-entries.ensures.items

pub loop-link-preserved : goal.loop-link-preserved
loop-link-preserved c =
    links-more c.args.scale.now.tick c.args.scale.now.unit c.args.links.now c.loop-link.link-index c.link-item.result c.loop-link.entries.items c.add_link.new.entries.items
    c.loop-link-test.true c.link-item.is c.loop-link.invariant c.in_ok-add_link.ensures

pub returns : goal.returns
returns c = all-links c.args.scale.now.tick c.args.scale.now.unit c.args.links.now c.loop-link.link-index c.loop-link.entries.items c.loop-link-test.false c.loop-link.invariant
