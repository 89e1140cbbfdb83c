-- Worked readings, computed from the definitions: a small scenario, which is read and whose plan has that text again, and
-- two that are refused.
use Rattle.std.proofs.Common.{◌≡◌, ℕ, List, [], ◌∷◌, ◌++◌, codes, refl}
use Rattle.std.specs.Prelude.{map}
use Rattle.std.specs.Fmt.{digits}
use Rattle.hop_reservation.specs.Routes.{repeated_from}
use Rattle.call_script.specs.Parts.{PlanParts}
use Rattle.call_script.specs.declared.entries.LinkEntry.{LinkEntry}
use Rattle.call_script.specs.declared.entries.RequestEntry.{RequestEntry}
use Rattle.call_script.specs.Rules.{ops_load, ops_over}
use Rattle.scenario_reader.specs.Entries.{shape_of}
use Rattle.scenario_reader.specs.Grammar.{judge}
use Rattle.scenario_reader.specs.PlanText.{plan_text}
use Rattle.scenario_reader.specs.Reading.{Reading, PlanRead, BadLine, TooManyBytes, reading}
use Rattle.scenario_reader.specs.declared.cause.LineCause.TheVariants as cause

-- two links, a caller and its request over both
abbrev front : List ℕ
front = codes "tenet 1\nlink A n1 n2 rate 1 cap 4 prop 2 buffer 100 levels 10 20\nlink B n2 n3 rate 2 cap 4 prop 3 buffer 90 levels 10\ncaller k1\nopen r1 route A B contract 5 10 20 2 delay 50 rate\n"

abbrev small : List ℕ
small = front ++ codes "send r1 3 10 2\nrounds 30\ntail 1\n"

-- the text of the plan that was read
abbrev text_again : Reading → List ℕ
text_again (PlanRead parts schedule) = plan_text parts schedule
text_again (BadLine line cause) = []
text_again TooManyBytes = []

-- numbers of the plan that was read: the rounds, those of each link, and those of each request
abbrev numbers_of_link : LinkEntry → List ℕ
numbers_of_link entry = entry.shape.rate ∷ entry.shape.cap ∷ entry.shape.prop ∷ entry.shape.buffer ∷ entry.shape.bounds

abbrev numbers_of_request : RequestEntry → List ℕ
numbers_of_request entry = entry.request.contract.xmin ∷ entry.request.contract.xave ∷ entry.request.contract.interval ∷ entry.request.contract.smax ∷ entry.request.delay ∷ []

abbrev numbers_of : PlanParts → List (List ℕ)
numbers_of parts = (parts.rounds ∷ parts.tail ∷ []) ∷ (map numbers_of_link parts.links ++ map numbers_of_request parts.requests)

abbrev numbers_read : Reading → List (List ℕ)
numbers_read (PlanRead parts schedule) = numbers_of parts
numbers_read (BadLine line cause) = []
numbers_read TooManyBytes = []

small-numbers : numbers_read (reading 4194304 small) ≡ (30 ∷ 1 ∷ []) ∷ (1 ∷ 4 ∷ 2 ∷ 100 ∷ 10 ∷ 20 ∷ []) ∷ (2 ∷ 4 ∷ 3 ∷ 90 ∷ 10 ∷ []) ∷ (5 ∷ 10 ∷ 20 ∷ 2 ∷ 50 ∷ []) ∷ []
unfolding reading judge shape_of repeated_from ops_load ops_over
small-numbers = refl

small-again : text_again (reading 4194304 small) ≡ small
unfolding reading judge shape_of repeated_from plan_text digits ops_load ops_over
small-again = refl

-- a request that isn't known, and a line that was cut
send-of-another : reading 4194304 (front ++ codes "send r2 3 10 2\nrounds 30\ntail 1\n") ≡ BadLine 6 cause.Unknown
unfolding reading judge shape_of repeated_from ops_load ops_over
send-of-another = refl

tail-cut : reading 4194304 (front ++ codes "rounds 30\ntail 1") ≡ BadLine 7 cause.Cut
unfolding reading judge shape_of repeated_from ops_load ops_over
tail-cut = refl
