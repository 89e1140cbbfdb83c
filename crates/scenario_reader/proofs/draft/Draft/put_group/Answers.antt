use Rattle.std.proofs.Common.{sym, subst}
use Rattle.scenario_reader.specs.Drafts.{Said}
use Rattle.scenario_reader.specs.line.Table.{MayAdd}
use Rattle.scenario_reader.specs.declared.item.Item.TheVariants as item
use Rattle.scenario_reader.proofs.Passing.DraftBecomesPlan.{draft-more}
use Rattle.scenario_reader.proofs.Passing.KeptBesideDraft.{kept-group}
use Rattle.scenario_reader.proofs.draft.Draft.put_group.Goals as goal

pub invariant_of-self-2 : goal.invariant_of-self-2
invariant_of-self-2 c =
    let may = subst (λ (s : Said). MayAdd s (item.Group c.args.name)) (sym c.self.view_is) c.requires in
    rw c.in_ok-push.ensures.items
    (draft-more _ (item.Group c.args.name) c.self.invariant.0 may, kept-group _ _ _ _ _ _ c.args.name c.self.invariant.1)
