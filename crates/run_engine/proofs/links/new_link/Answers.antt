-- The link is whole, or split as the plan says.
use Rattle.std.proofs.Common.{ap, sym, ◌∙◌, subst}
use Rattle.run_engine.proofs.Words.{slice_get_within, link_number, SplitFits, whole, groups_in}
use Rattle.run_engine.proofs.Keeping.SplitLinks.{unsplit, split-so, entry-split-fits}
use Rattle.run_engine.proofs.links.new_link.Goals as goal

pub split-requires : goal.split-requires
split-requires c = slice_get_within c.args.plan.now.links (link_number c.args.entry.now.shape.link) c.args.entry.now c.requires

pub new-requires : goal.new-requires
new-requires c =
    let entry = c.args.entry.now in
    let is = sym c.in-Some.is ∙ c.in_ok-split.ensures.split entry c.requires in
    subst SplitFits (sym (split-so (groups_in c.args.plan.now) entry c.in-Some.split is))
    (entry-split-fits c.args.plan.now (link_number entry.shape.link) entry c.in_ok-split.ensures.valid c.requires)

pub returns-in_ok-new-in-Some-clause-rules : goal.returns-in_ok-new-in-Some-clause-rules
returns-in_ok-new-in-Some-clause-rules c =
    let entry = c.args.entry.now in
    let is = sym c.in-Some.is ∙ c.in_ok-split.ensures.split entry c.requires in
    c.in_ok-new-in-Some.ensures.rules ∙ split-so (groups_in c.args.plan.now) entry c.in-Some.split is

pub returns-in_ok-new-in-None-clause-rules : goal.returns-in_ok-new-in-None-clause-rules
returns-in_ok-new-in-None-clause-rules c =
    let entry = c.args.entry.now in
    let is = sym c.in-None.is ∙ c.in_ok-split.ensures.split entry c.requires in
    ap whole c.in_ok-new-in-None.ensures.shape ∙ unsplit (groups_in c.args.plan.now) entry is
