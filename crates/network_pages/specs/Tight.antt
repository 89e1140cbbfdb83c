-- Requests stand on a page in the order of how tight they are. Those that are denied come first, then those whose setup doesn't end, and then the
-- accepted ones, those with the least to spare before the others. What an accepted request has to spare is the delay that it wants less the one
-- that it is promised, and nothing where it is promised more.
use Rattle.std.specs.Prelude.{ℕ, ◌+◌, ◌-◌, Option, Some, None, List}
use Rattle.std.specs.List.{slice_get}
use Rattle.network_pictures.specs.declared.facts.Outcome.{Outcome}
use Rattle.network_pictures.specs.declared.facts.Outcome.TheVariants as outcome
use Rattle.network_pictures.specs.declared.facts.RequestFacts.{RequestFacts}

-- how tight a request is that came to this and wants this delay: less is tighter
abbrev pub tightness_with : Outcome → ℕ → ℕ
tightness_with (outcome.Accepted promised) wanted = 2 + (wanted - promised)
tightness_with (outcome.Denied _ _) _ = 0
tightness_with outcome.Pending _ = 1

abbrev pub tightness_of : RequestFacts → ℕ
tightness_of request = tightness_with request.outcome request.terms.delay

abbrev pub tightness_in : Option RequestFacts → ℕ
tightness_in (Some request) = tightness_of request
tightness_in None = 0

-- how tight the request at a place is
abbrev pub tightness_at : List RequestFacts → ℕ → ℕ
tightness_at requests place = tightness_in (slice_get requests place)

-- what an accepted request has to spare
abbrev pub spare_with : Outcome → ℕ → Option ℕ
spare_with (outcome.Accepted promised) wanted = Some (wanted - promised)
spare_with (outcome.Denied _ _) _ = None
spare_with outcome.Pending _ = None

abbrev pub spare_of : RequestFacts → Option ℕ
spare_of request = spare_with request.outcome request.terms.delay
