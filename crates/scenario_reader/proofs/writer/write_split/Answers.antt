use Rattle.std.specs.List.{flat_map}
use Rattle.scenario_reader.specs.line.Group.{group_text}
use Rattle.scenario_reader.specs.line.Quota.{quotas_text}
use Rattle.scenario_reader.specs.PlanText.{split_text}
use Rattle.text_writer.proofs.TextsTold.{both-told, first-failed}
use Rattle.scenario_reader.proofs.writer.write_split.Goals as goal

pub returns-in_err-write_groups : goal.returns-in_err-write_groups
unfolding split_text
returns-in_err-write_groups g c =
    first-failed c.from_residual.result c.in_err-write_groups.field-0.0 _ _ c.args.out.now c.write_groups.new.out _ _ (flat_map group_text c.args.groups.now) (flat_map (quotas_text c.args.groups.now) c.args.links.now) c.from_residual.ensures.1 c.in_err-write_groups.ensures

pub returns : goal.returns
unfolding split_text
returns g c =
    both-told c.write_shares.result _ _ _ _ _ _ _ _ _ (flat_map group_text c.args.groups.now) (flat_map (quotas_text c.args.groups.now) c.args.links.now) c.in_ok-write_groups.ensures c.write_shares.ensures
