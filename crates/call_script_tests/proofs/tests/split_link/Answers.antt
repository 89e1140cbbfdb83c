-- The one quota has no load after its levels.
use Rattle.std.proofs.Common.{◌∙◌, ◌∷◌, ◌++◌, [], List, ap}
use Rattle.link_steps.specs.declared.quota.Quota.{Quota}
use Rattle.one_link_plans.proofs.OneLinkFits.{one-leaves}
use Rattle.call_script_tests.proofs.tests.split_link.Goals as goal

pub returns : goal.returns
returns c = record {
  number = c.in_ok-entry.ensures.is.number;
  bounds = c.in_ok-entry.ensures.is.bounds;
  prop = c.in_ok-entry.ensures.is.prop;
  unused = one-leaves _ c.quota.result (c.in_ok-push.ensures.ok ∙ ap (λ (qs : List Quota). qs ++ c.quota.result ∷ []) c.in_ok-entry.ensures.unsplit) c.quota.ensures;
}
