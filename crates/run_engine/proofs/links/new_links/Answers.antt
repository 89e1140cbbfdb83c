use Rattle.std.proofs.Common.{◌≡◌, Some, [], ◌∷◌, length, map, refl, sym, ap, ◌∙◌, subst, arith}
use Rattle.std.proofs.lemmas.List.{take_all}
use Rattle.std.proofs.lemmas.Option.{slice_get_read}
use Rattle.std.specs.List.{slice_get}
use Rattle.link_quota.specs.Any.{any_rules, AnyStands}
use Rattle.link_quota.specs.declared.any_link.AnyLink.{AnyLink}
use Rattle.link_steps.specs.Lists.{Each}
use Rattle.link_steps.proofs.SearchAndFilter.{Each-append}
use Rattle.call_script.specs.Splits.{entry_link, groups_in}
use Rattle.call_script.specs.Tasks.{network_of}
use Rattle.run_engine.proofs.Keeping.OneByOne.{mapped-more}
use Rattle.run_engine.proofs.links.new_links.Goals as goal

pub new_link-requires : goal.new_link-requires
new_link-requires c =
    let entries = c.links-entries.result.now in
    let found = slice_get_read entries (length entries) c.loop-entry.entry-index c.entry-item.result refl c.loop-entry-test.true c.entry-item.is in
    let there = ap (λ es. slice_get es c.loop-entry.entry-index) (sym c.links-entries.ensures.value) ∙ found in
    subst (λ n. slice_get c.args.plan.now.links n ≡ Some c.entry-item.result) (sym (c.links-entries.ensures.valid.planned.links c.loop-entry.entry-index c.entry-item.result there)) there

pub loop-entry-preserved : goal.loop-entry-preserved
loop-entry-preserved c = (
  ap (map any_rules) c.in_ok-push.ensures.items
      ∙ mapped-more any_rules (entry_link (groups_in c.args.plan.now)) c.links-entries.result.now c.loop-entry.links.items c.loop-entry.entry-index c.entry-item.result c.in_ok-new_link.field-0 c.loop-entry-test.true c.entry-item.is c.loop-entry.invariant.0 c.in_ok-new_link.ensures.rules,
  subst (Each (λ (link : AnyLink). AnyStands link [])) (sym c.in_ok-push.ensures.items) (Each-append (λ (link : AnyLink). AnyStands link []) c.loop-entry.links.items (c.in_ok-new_link.field-0 ∷ []) c.loop-entry.invariant.1 (c.in_ok-new_link.ensures.stands, tt)),
)

pub returns-clause-rules : goal.returns-clause-rules
unfolding network_of
returns-clause-rules c =
    let link = entry_link (groups_in c.args.plan.now) in
    c.loop-entry.invariant.0 ∙ ap (map link) (take_all c.loop-entry.entry-index c.links-entries.result.now (omega (arith, c.loop-entry-test.false))) ∙ ap (map link) c.links-entries.ensures.value
