use Rattle.std.proofs.Common.{◌≡◌, take, drop}
use Rattle.std.specs.List.{list_all}
use Rattle.link_steps.specs.Lists.{Each}
use Rattle.call_script.specs.Rules.{request_in_range}
use Rattle.call_script.specs.Plans.{HasTerms}
use Rattle.call_script.proofs.rules.ranges.requests_in_range.Given as goal

-- the requests so far are in range, so those left decide
abbrev pub invariant-loop-entry : goal.invariant-loop-entry
invariant-loop-entry l = record {
  left : list_all request_in_range l.requests ≡ list_all request_in_range (drop l.entry-index l.requests);
  terms : Each HasTerms (take l.entry-index l.requests);
}
