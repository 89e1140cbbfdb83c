use Rattle.std.proofs.Common.{◌≡◌, drop}
use Rattle.call_script.specs.Rules.{is_joined}
use Rattle.scenario_reader.proofs.draft.Draft.is_joined.Given as goal

-- the hops so far are joined, so those left decide
abbrev pub invariant-loop-index : goal.invariant-loop-index
invariant-loop-index l = is_joined l.self.links l.route ≡ is_joined l.self.links (drop l.index l.route)
