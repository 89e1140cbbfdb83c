-- The destination adds up what the hops of a route have offered. It denies the request where that delay is over the
-- request's bound, and else, under delay-jitter control, where the bound offered by the last hop is over the jitter
-- bound. Otherwise the slack, what the delay bound leaves, relaxes the reservations on the way back, from the last hop to
-- the first. With h hops left, this one included, a hop may go beyond its offered bound by the h-th part of the slack,
-- rounded down, and gets the largest level whose bound is within that. The last hop of a channel under delay-jitter
-- control stays within the jitter bound too. What a hop gets beyond its offer is gone from the slack. (Relaxing on the
-- way back is the Tenet suite's, Banerjea, Ferrari et al. 1996; this way of sharing the slack is this project's.)
use Rattle.std.specs.Prelude.{◌≡◌, ℕ, suc, ◌+◌, ◌-◌, ◌/◌, ◌≤◌, nat_lt, if◌then◌else◌, min, Option, Some, None, List, [], ◌∷◌}
use Rattle.net_units.specs.LevelBounds.{bound_at, levels_within}
use Rattle.hop_reservation.specs.declared.route.Hop.{Hop}
use Rattle.hop_reservation.specs.Offers.{delay_over}
use Rattle.relaxation.specs.declared.EndDenial.{EndDenial}
use Rattle.relaxation.specs.declared.EndDenial.TheVariants.{Delay, Jitter}

-- the bound of the last hop that has a level, in ticks, or 0 where none has
unfoldable pub bound_at_end : List Hop → List ℕ → ℕ
bound_at_end [] levels = 0
bound_at_end (hop ∷ hops) [] = 0
bound_at_end (hop ∷ hops) (level ∷ []) = bound_at hop.bounds level
bound_at_end (hop ∷ hops) (level ∷ next ∷ levels) = bound_at_end hops (next ∷ levels)

-- a number of ticks is within a limit, where there is one
abbrev pub IsWithin : Option ℕ → ℕ → Type 0
IsWithin limit ticks = (most : ℕ) → limit ≡ Some most → ticks ≤ most

-- the jitter test, where there is a jitter bound
abbrev pub jitter_denial : ℕ → Option ℕ → Option EndDenial
jitter_denial last None = None
jitter_denial last (Some bound) = if nat_lt bound last then Some (Jitter last bound) else None

-- why the destination denies these offers, if it does: for the delay, or else for the jitter
abbrev pub denial_of : List Hop → List ℕ → ℕ → Option ℕ → Option EndDenial
denial_of hops offers delay jitter =
    if nat_lt delay (delay_over hops offers) then Some (Delay (delay_over hops offers) delay)
    else jitter_denial (bound_at_end hops offers) jitter

-- ---- the way back

-- the levels of some hops, and the slack that is left for the hops before them
pub record Allotment : Type 0 where
  pub levels : List ℕ
  pub slack : ℕ

-- a number of ticks, cut to a limit where there is one
abbrev pub capped : Option ℕ → ℕ → ℕ
capped None ticks = ticks
capped (Some limit) ticks = min limit ticks

-- the limit of a hop with these offers after it: the last hop alone has one
abbrev pub limit_before : Option ℕ → List ℕ → Option ℕ
limit_before jitter [] = jitter
limit_before jitter (offer ∷ after) = None

-- the largest level whose bound is within the offered bound and a share of the slack
abbrev pub relaxed : Option ℕ → Hop → ℕ → ℕ → ℕ
relaxed limit hop offer share = levels_within hop.bounds (capped limit (bound_at hop.bounds offer + share))

-- a hop gets this level, before the hops that have theirs
abbrev pub with_level : Hop → ℕ → Allotment → ℕ → Allotment
with_level hop offer after level = record {
  levels = level ∷ after.levels;
  slack = after.slack - (bound_at hop.bounds level - bound_at hop.bounds offer);
}

-- what these hops are allotted of the slack, with `before` hops before them
unfoldable pub allotment : Option ℕ → ℕ → ℕ → List Hop → List ℕ → Allotment
allotment jitter slack before [] offers = record { levels = []; slack = slack }
allotment jitter slack before (hop ∷ hops) [] = record { levels = []; slack = slack }
allotment jitter slack before (hop ∷ hops) (offer ∷ offers) =
    with_level hop offer (allotment jitter slack (suc before) hops offers)
    (relaxed (limit_before jitter offers) hop offer ((allotment jitter slack (suc before) hops offers).slack / suc before))

-- the levels of the whole route
abbrev pub allotted : List Hop → List ℕ → ℕ → Option ℕ → List ℕ
allotted hops offers delay jitter = (allotment jitter (delay - delay_over hops offers) 0 hops offers).levels
