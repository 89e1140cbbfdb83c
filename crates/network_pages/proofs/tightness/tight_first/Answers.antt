use Rattle.std.proofs.Common.{rules}
use Rattle.std.proofs.lemmas.List.Sorted.{IsNonDecreasingBy-from_sort_by_key}
use Rattle.network_pages.specs.Tight.{tightness_at}
use Rattle.network_pages.proofs.tightness.tight_first.Goals as goal

pub returns-clause-first : goal.returns-clause-first
returns-clause-first c = IsNonDecreasingBy-from_sort_by_key (tightness_at c.args.facts.now.requests.items) c.sort_by_key.new.self.items c.in_ok-sort_by_key.ensures.sorted (λ a r q k. search rules)
