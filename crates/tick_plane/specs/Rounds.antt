-- What is left of a round. The packets that reach their next links in it arrive, in the order in which they departed, and then the
-- links that haven't made its tick make it. No reply of the round changes that, since what leaves a link in a round reaches
-- another in a later one.
use Rattle.std.specs.Prelude.{◌≡◌, ℕ, zero, suc, ◌-◌, ◌<◌, nat_lt, if◌then◌else◌, Some, List, [], ◌∷◌, ◌++◌, length, map, filter}
use Rattle.net_units.specs.declared.numbers.LinkNo.{LinkNo}
use Rattle.net_units.specs.Numbers.{link_at}
use Rattle.link_steps.specs.Lists.{Each}
use Rattle.link_steps.specs.declared.asks.Ask.{Ask}
use Rattle.link_steps.specs.declared.asks.Ask.TheVariants.{Arrive, Tick}
use Rattle.link_steps.specs.declared.replies.Reply.{Reply}
use Rattle.tick_plane.specs.declared.flight.Flight.{Flight}
use Rattle.tick_plane.specs.Planes.{Plane, is_due, plane_after, plane_ask, IsDueLater}

abbrev pub arrival_of : Flight → LinkNo × Ask
arrival_of flight = (flight.to, Arrive flight.packet)

-- the ticks of this many links from number n on
unfoldable pub ticks_from : ℕ → ℕ → List (LinkNo × Ask)
ticks_from n zero = []
ticks_from n (suc count) = (link_at n, Tick) ∷ ticks_from (suc n) count

-- nothing is left once all rounds are made
abbrev pub rest_of : ℕ → ℕ → Plane → List (LinkNo × Ask)
rest_of links rounds plane =
    if nat_lt plane.round rounds
    then map arrival_of (filter (is_due plane.round) plane.flights) ++ ticks_from plane.ticked (links - plane.ticked)
    else []

-- ---- the law

-- the plane asks these in turn as it gets these replies, in the order of time, and stands there after them
abbrev pub AskedInTurn : ℕ → ℕ → Plane → List (LinkNo × Ask) → List Reply → Plane → Type 0
AskedInTurn links rounds plane [] [] after = after ≡ plane
AskedInTurn links rounds plane [] (reply ∷ replies) after = ⊥
AskedInTurn links rounds plane (to ∷ asks) [] after = ⊥
AskedInTurn links rounds plane (to ∷ asks) (reply ∷ replies) after =
    (plane_ask rounds plane ≡ Some to) × AskedInTurn links rounds (plane_after links reply plane) asks replies after

-- what is left of a round is what the plane asks in it, whatever it is replied; and then the next round begins
abbrev pub RoundsAreAskedInTurn : Type 0
RoundsAreAskedInTurn = (links rounds : ℕ) (plane : Plane) (replies : List Reply) → plane.ticked < links → plane.round < rounds
    → length replies ≡ length (rest_of links rounds plane) → Each (IsDueLater plane.round) replies
    → (after : Plane) × AskedInTurn links rounds plane (rest_of links rounds plane) replies after × (after.round ≡ suc plane.round) × (after.ticked ≡ 0)
