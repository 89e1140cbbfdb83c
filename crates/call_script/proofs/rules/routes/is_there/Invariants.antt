use Rattle.std.proofs.Common.{◌≡◌, drop}
use Rattle.std.specs.List.{list_all}
use Rattle.call_script.specs.Rules.{has_link}
use Rattle.call_script.proofs.rules.routes.is_there.Given as goal

-- the links so far are there, so those left decide
abbrev pub invariant-loop-index : goal.invariant-loop-index
invariant-loop-index l = list_all (λ hop. has_link l.links hop.link) l.route ≡ list_all (λ hop. has_link l.links hop.link) (drop l.index l.route)
