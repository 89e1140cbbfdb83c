use Rattle.std.proofs.Common.{◌≡◌, take}
use Rattle.question_plans.proofs.alone.links_of.Given as goal

-- the links so far
abbrev pub invariant-loop-link : goal.invariant-loop-link
invariant-loop-link l = l.copied.items ≡ take l.link-index l.links
