use Rattle.std.proofs.Common.{IfSome, subst, sym, ◌∙◌}
use Rattle.std.specs.List.{AllZip}
use Rattle.link_steps.specs.Lists.{Each}
use Rattle.call_script.specs.Parts.{FollowsLink}
use Rattle.design_file.specs.Planned.{IsHopOver}
use Rattle.design_file.proofs.LinksOneByOne.{route-follows}
use Rattle.design_file.proofs.ListSteps.{zipped-more, zipped-all}
use Rattle.design_file.proofs.ways.route_over.Goals as goal

pub loop-name-preserved : goal.loop-name-preserved
loop-name-preserved c =
    subst (AllZip (IsHopOver c.args.links.now) _) (sym c.in_ok-push.ensures.items)
    (zipped-more (IsHopOver c.args.links.now) c.args.names.now c.loop-name.hops.items c.loop-name.name-index c.name-item.result c.in_ok-hop.hop
    c.loop-name-test.true c.name-item.is c.loop-name.invariant
    (subst (λ o. IfSome o (IsHopOver c.args.links.now c.name-item.result)) c.in_ok-hop.ensures.ok_part c.hop_over.ensures))

pub returns-in-Ok-clause-over : goal.returns-in-Ok-clause-over
returns-in-Ok-clause-over c =
    subst (AllZip (IsHopOver c.args.links.now) c.args.names.now) (sym (c.in-Ok.ensures.value ∙ c.deref.ensures.value))
    (zipped-all (IsHopOver c.args.links.now) c.args.names.now c.loop-name.hops.items c.loop-name.name-index c.loop-name-test.false c.loop-name.invariant)

pub returns-in-Ok-clause-follows : goal.returns-in-Ok-clause-follows
returns-in-Ok-clause-follows c =
    subst (Each (FollowsLink c.args.links.now)) (sym (c.in-Ok.ensures.value ∙ c.deref.ensures.value))
    (route-follows c.args.links.now c.args.names.now c.loop-name.hops.items (zipped-all (IsHopOver c.args.links.now) c.args.names.now c.loop-name.hops.items c.loop-name.name-index c.loop-name-test.false c.loop-name.invariant))
