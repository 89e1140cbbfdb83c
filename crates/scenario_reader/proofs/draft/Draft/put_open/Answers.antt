use Rattle.std.proofs.Common.{sym, subst}
use Rattle.scenario_reader.specs.Drafts.{Said}
use Rattle.scenario_reader.specs.line.Table.{MayAdd}
use Rattle.scenario_reader.specs.declared.item.Item.TheVariants as item
use Rattle.scenario_reader.proofs.Passing.DraftBecomesPlan.{draft-more}
use Rattle.scenario_reader.proofs.Passing.KeptBesideDraft.{kept-open}
use Rattle.scenario_reader.proofs.draft.Draft.put_open.Goals as goal

pub invariant_of-self-2 : goal.invariant_of-self-2
invariant_of-self-2 c =
    let may = subst (λ (s : Said). MayAdd s (item.Open c.args.entry.now)) (sym c.self.view_is) c.requires in
    rw (c.push_reserved.ensures, c.reserve.ensures.items, c.in_ok-add_op.ensures.ok, c.push_reserved-2.ensures.items, c.reserve-2.ensures.items, c.blank.ensures, c.add.ensures)
    (draft-more _ (item.Open c.args.entry.now) c.self.invariant.0 may, kept-open _ _ _ _ _ _ c.args.entry.now c.self.invariant.0 c.self.invariant.1 may)
