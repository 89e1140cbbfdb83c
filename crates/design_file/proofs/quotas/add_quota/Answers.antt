use Rattle.design_file.proofs.quotas.add_quota.Goals as goal

pub returns : goal.returns
returns c = record {
  quota = c.in_ok-quota.quota;
  added = c.in_ok-push.ensures.items;
  rounded = c.in_ok-quota.ensures;
}
