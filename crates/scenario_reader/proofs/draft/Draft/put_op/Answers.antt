use Rattle.std.proofs.Common.{sym, subst, ap, ◌∙◌}
use Rattle.call_script.specs.Rules.{load_of, loads_in}
use Rattle.scenario_reader.specs.Drafts.{Said}
use Rattle.scenario_reader.specs.line.Table.{MayAdd}
use Rattle.scenario_reader.specs.declared.item.Item.TheVariants as item
use Rattle.scenario_reader.proofs.Passing.DraftBecomesPlan.{draft-more}
use Rattle.scenario_reader.proofs.Passing.KeptBesideDraft.{kept-op}
use Rattle.scenario_reader.proofs.draft.Draft.put_op.Goals as goal

pub invariant_of-self-2 : goal.invariant_of-self-2
invariant_of-self-2 c =
    let may = subst (λ (s : Said). MayAdd s (item.Op c.args.op.now)) (sym c.self.view_is) c.requires in
    let packets = c.packets_of-packets.ensures ∙ ap (λ (s : Said). load_of s.requests (loads_in s.callers) c.args.op.now) (sym c.self.view_is) in
    rw (c.in_ok-add_op.ensures.ok, c.use_by.ensures.value)
    (draft-more _ (item.Op c.args.op.now) c.self.invariant.0 may, kept-op _ _ _ _ _ _ c.packets_of-packets.result c.args.op.now c.self.invariant.0 c.self.invariant.1 may packets)
