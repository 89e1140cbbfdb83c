use Rattle.std.proofs.Common.{refl}
use Rattle.scenario_reader.specs.line.Quota.{quotas_text}
use Rattle.text_writer.proofs.TextsTold.{item-failed, item-told}
use Rattle.scenario_reader.proofs.writer.write_shares.Goals as goal

pub returns-in_err-write_quotas : goal.returns-in_err-write_quotas
returns-in_err-write_quotas g c =
    item-failed (quotas_text c.args.groups.now) c.args.links.now c.loop-entry.entry-index c.entry-item.result _ _ _ _ _ _ _ _ _ _ c.from_residual.result c.in_err-write_quotas.field-0.0 c.from_residual.ensures.1 c.loop-entry-test.true c.entry-item.is refl c.loop-entry.invariant c.in_err-write_quotas.ensures

pub loop-entry-preserved : goal.loop-entry-preserved
loop-entry-preserved g c =
    item-told (quotas_text c.args.groups.now) c.args.links.now c.loop-entry.entry-index c.entry-item.result _ _ _ _ _ _ _ _ _ _ c.loop-entry-test.true c.entry-item.is refl c.loop-entry.invariant c.in_ok-write_quotas.ensures
