use Rattle.std.proofs.Common.{ap, map, subst, sym, ◌∙◌}
use Rattle.std.specs.List.{AllZip, each_same}
use Rattle.call_script.specs.Parts.{opening_of}
use Rattle.design_file.specs.Rounded.{IsLinkOf}
use Rattle.design_file.specs.Planned.{AreRequestsOf, IsPlanOf, IsRequestOf}
use Rattle.design_file.proofs.DesignIsPlan.{may-be-planned}
use Rattle.design_file.proofs.plan.made.Goals as goal

pub new-requires : goal.new-requires
new-requires c =
    let tick = c.args.scale.now.tick in
    let unit = c.args.scale.now.unit in
    let asked : AreRequestsOf tick unit c.in_ok-links.links.items c.deref-3.result.now c.in_ok-requests.requests.items =
    subst (λ links. AreRequestsOf tick unit links c.deref-3.result.now c.in_ok-requests.requests.items) c.deref-2.ensures.value c.in_ok-requests.ensures in
    may-be-planned tick unit c.version_of-version.result c.deref.result.now c.deref-3.result.now c.in_ok-links.links.items c.in_ok-requests.requests.items c.in_ok-groups.groups.items c.in_ok-called.called.callers.items c.rounds_in-rounds.result 0
    c.in_ok-links.ensures asked (c.in_ok-called.ensures ∙ ap (map opening_of) c.deref-5.ensures.value)

pub returns : goal.returns
returns c =
    let tick = c.args.scale.now.tick in
    let unit = c.args.scale.now.unit in
    let asked : AreRequestsOf tick unit c.in_ok-links.links.items c.deref-3.result.now c.in_ok-requests.requests.items =
    subst (λ links. AreRequestsOf tick unit links c.deref-3.result.now c.in_ok-requests.requests.items) c.deref-2.ensures.value c.in_ok-requests.ensures in
    subst (IsPlanOf tick unit c.args.design.now) (sym c.in_ok-plan.ensures.value) (record {
      links = subst (λ links. AllZip (IsLinkOf tick unit) links c.in_ok-links.links.items) c.deref.ensures.value c.in_ok-links.ensures.each;
      requests = subst (λ streams. AllZip (IsRequestOf tick unit c.in_ok-links.links.items) streams c.in_ok-requests.requests.items) c.deref-3.ensures.value asked.each;
      groups = each_same c.args.design.now.groups.items c.in_ok-groups.groups.items c.in_ok-groups.ensures.cases.0;
    })
