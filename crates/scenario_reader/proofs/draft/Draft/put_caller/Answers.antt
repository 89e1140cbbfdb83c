use Rattle.std.proofs.Common.{sym, subst}
use Rattle.scenario_reader.specs.Drafts.{Said}
use Rattle.scenario_reader.specs.line.Table.{MayAdd}
use Rattle.scenario_reader.specs.declared.item.Item.TheVariants as item
use Rattle.scenario_reader.proofs.Passing.DraftBecomesPlan.{draft-more}
use Rattle.scenario_reader.proofs.Passing.KeptBesideDraft.{kept-caller}
use Rattle.scenario_reader.proofs.draft.Draft.put_caller.Goals as goal

pub invariant_of-self-2 : goal.invariant_of-self-2
invariant_of-self-2 c =
    let may = subst (λ (s : Said). MayAdd s (item.Caller c.args.name.now c.args.group)) (sym c.self.view_is) c.requires in
    rw (c.push_reserved.ensures.items, c.reserve.ensures.items, c.new-2.ensures, c.new.ensures.items, c.add.ensures)
    (draft-more _ (item.Caller c.args.name.now c.args.group) c.self.invariant.0 may, kept-caller _ _ _ _ _ _ c.args.name.now c.args.group c.self.invariant.0 c.self.invariant.1 may)
