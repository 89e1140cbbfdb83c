-- The scenario's language has versions. In the first one a link compares the load of a level in the window as long as the level's
-- bound; from the second one on in some window up to the bound. From the third one on a link may take best-effort packets, and a
-- caller may send them. From the fourth one on the route of a request may be found between two nodes. From the fifth one on callers
-- may belong to groups, between which links may be split. From the sixth one on the packets of a channel may move to another one.
use Rattle.std.specs.Prelude.{Bool, true, false}
use Rattle.traffic_contract.specs.declared.admission.Test.{Test}
use Rattle.traffic_contract.specs.declared.admission.Test.TheVariants.{Whole, Least}
use Rattle.call_script.specs.declared.attributes.Feature.{Feature}
use Rattle.call_script.specs.declared.attributes.Feature.TheVariants as feature
use Rattle.call_script.specs.declared.version.Version.{Version}
use Rattle.call_script.specs.declared.version.Version.TheVariants.{One, Two, Three, Four, Five, Six}

-- the test of the links
abbrev pub test_of : Version → Test
test_of One = Whole
test_of Two = Least
test_of Three = Least
test_of Four = Least
test_of Five = Least
test_of Six = Least

-- whether a plan may have best-effort packets
abbrev pub has_best_effort : Version → Bool
has_best_effort One = false
has_best_effort Two = false
has_best_effort Three = true
has_best_effort Four = true
has_best_effort Five = true
has_best_effort Six = true

-- whether the route of a request may be found between two nodes
abbrev pub has_found_routes : Version → Bool
has_found_routes One = false
has_found_routes Two = false
has_found_routes Three = false
has_found_routes Four = true
has_found_routes Five = true
has_found_routes Six = true

-- whether callers may be of groups, and links have quotas
abbrev pub has_groups : Version → Bool
has_groups One = false
has_groups Two = false
has_groups Three = false
has_groups Four = false
has_groups Five = true
has_groups Six = true

-- whether callers may move the packets of a channel to another one
abbrev pub has_moves : Version → Bool
has_moves One = false
has_moves Two = false
has_moves Three = false
has_moves Four = false
has_moves Five = false
has_moves Six = true

-- whether a version has what an operation needs
abbrev pub has_feature : Version → Feature → Bool
has_feature version feature.Always = true
has_feature version feature.BestEffort = has_best_effort version
has_feature version feature.Moves = has_moves version

-- whether two tests are the same
abbrev pub is_test : Test → Test → Bool
is_test Whole Whole = true
is_test Whole Least = false
is_test Least Whole = false
is_test Least Least = true
