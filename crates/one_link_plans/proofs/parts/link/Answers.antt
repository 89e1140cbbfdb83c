-- No quotas leave the levels after the last one unused.
use Rattle.std.proofs.Common.{rules}
use Rattle.one_link_plans.proofs.OneLinkFits.{none-leaves}
use Rattle.one_link_plans.proofs.parts.link.Goals as goal

pub returns-clause-is : goal.returns-clause-is
returns-clause-is c = record {
  number = search rules;
  bounds = search rules;
  prop = search rules;
  unused = none-leaves _ c.none.ensures;
}
