-- A released reservation is closing: it stays in the admission test and keeps its buffer until its hold ends. So
-- all channels with an eligible packet in a running busy period are in the test together. With n the count of its
-- packets, it expires in the first tick made after the release by which all n were taken and the last of them has
-- been eligible for as long as the largest bound of the link; with n = 0 it expires in the first tick after the
-- release.
use Rattle.std.specs.Prelude.{ℕ, ◌+◌, Bool, nat_eq, nat_le, ◌&&◌, ◌||◌, not, List, length}
use Rattle.net_units.specs.LevelBounds.{last_bound}
use Rattle.traffic_contract.specs.Eligible.{newest}
use Rattle.link_steps.specs.declared.replies.Phase.TheVariants.{Closing}
use Rattle.link_steps.specs.Reservation.{Reservation, is_phase}
use Rattle.link_steps.specs.Rows.{Row}

-- whether the hold of a closing reservation has ended by tick t, after `taken` packets of which the last was
-- eligible at the tick `last`
unfoldable pub hold_ended : List ℕ → Reservation → ℕ → ℕ → ℕ → Bool
hold_ended bounds terms taken last t =
    is_phase terms.phase Closing
    && (nat_eq terms.count 0 || (nat_eq taken terms.count && nat_le (last + last_bound bounds) t))

-- whether a row expires in tick t
abbrev pub expires : List ℕ → ℕ → Row → Bool
expires bounds t row = hold_ended bounds row.terms (length row.ticks) (newest row.ticks) t

-- whether it stays held
abbrev pub stays : List ℕ → ℕ → Row → Bool
stays bounds t row = not (expires bounds t row)
