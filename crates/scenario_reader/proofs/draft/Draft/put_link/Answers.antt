use Rattle.std.proofs.Common.{sym, subst}
use Rattle.scenario_reader.specs.Drafts.{Said}
use Rattle.scenario_reader.specs.line.Table.{MayAdd}
use Rattle.scenario_reader.specs.declared.item.Item.TheVariants as item
use Rattle.scenario_reader.proofs.Passing.DraftBecomesPlan.{draft-more}
use Rattle.scenario_reader.proofs.Passing.KeptBesideDraft.{kept-link}
use Rattle.scenario_reader.proofs.draft.Draft.put_link.Goals as goal

pub invariant_of-self-2 : goal.invariant_of-self-2
invariant_of-self-2 c =
    let may = subst (λ (s : Said). MayAdd s (item.Link c.args.entry)) (sym c.self.view_is) c.requires in
    rw (c.in_ok-push.ensures.items, c.add.ensures)
    (draft-more _ (item.Link c.args.entry) c.self.invariant.0 may, kept-link _ _ _ _ _ _ c.args.entry c.self.invariant.1 may)
