use Rattle.std.proofs.Common.{refl}
use Rattle.std.proofs.lemmas.List.{get_or_default}
use Rattle.scenario_reader.specs.line.Quota.{quota_text}
use Rattle.text_writer.proofs.TextsTold.{item-failed, item-told}
use Rattle.scenario_reader.proofs.writer.write_some_quotas.Goals as goal

pub returns-in_err-tell_line : goal.returns-in_err-tell_line
returns-in_err-tell_line g c =
    item-failed (quota_text c.args.groups.now c.args.entry.now) c.args.quotas.now c.loop-quota.quota-index _ _ _ _ _ _ _ _ _ _ _ c.from_residual.result c.in_err-tell_line.field-0.0 c.from_residual.ensures.1 c.loop-quota-test.true (get_or_default _ _ _ _ c.loop-quota-test.true) refl c.loop-quota.invariant (c.in_err-tell_line.ensures.told (quota_text c.args.groups.now c.args.entry.now _) c.quota_line.ensures)

pub loop-quota-preserved : goal.loop-quota-preserved
loop-quota-preserved g c =
    item-told (quota_text c.args.groups.now c.args.entry.now) c.args.quotas.now c.loop-quota.quota-index _ _ _ _ _ _ _ _ _ _ _ c.loop-quota-test.true (get_or_default _ _ _ _ c.loop-quota-test.true) refl c.loop-quota.invariant (c.in_ok-tell_line.ensures.told (quota_text c.args.groups.now c.args.entry.now _) c.quota_line.ensures)
