use Rattle.std.proofs.Common.{sym, subst}
use Rattle.scenario_reader.specs.Drafts.{Said}
use Rattle.scenario_reader.specs.line.Table.{MayAdd}
use Rattle.scenario_reader.specs.declared.item.Item.TheVariants as item
use Rattle.scenario_reader.proofs.Passing.DraftBecomesPlan.{draft-more}
use Rattle.scenario_reader.proofs.Passing.KeptBesideDraft.{kept-header}
use Rattle.scenario_reader.proofs.draft.Draft.put_header.Goals as goal

pub invariant_of-self : goal.invariant_of-self
invariant_of-self c =
    let what = item.Header c.args.version in
    let may = subst (λ (s : Said). MayAdd s (item.Header c.args.version)) (sym c.self.view_is) c.requires in
    (draft-more _ what c.self.invariant.0 may, kept-header _ _ _ _ _ _ c.args.version c.self.invariant.1)
