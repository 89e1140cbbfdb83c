-- What an entry of a history does to a link is its effect, and there are few: a row is added, a row is changed, a row is
-- taken out, a row takes a packet, a tick passes, best-effort packets are planned, or nothing. A change commits a row at a
-- level, plans packets of its source, or closes it; it leaves the row's channel, contract, hop and ticks as they are.
-- `effect_of` reads the effect off an ask and its reply, and `with_effect` is the scan with it. So what every history keeps
-- is shown for the effects, whatever was asked.
use Rattle.std.specs.Prelude.{ℕ, suc, Bool, true, Option, Some, None, List, [], ◌∷◌, ◌++◌, find}
use Rattle.net_units.specs.declared.numbers.ChanNo.{ChanNo}
use Rattle.net_units.specs.declared.numbers.Level.{Level}
use Rattle.link_steps.specs.declared.asks.Ask.{Ask}
use Rattle.link_steps.specs.declared.asks.Ask.TheVariants.{Reserve, Relax, Deny, Submit, Release, Arrive, Tick, Pour}
use Rattle.link_steps.specs.declared.asks.Packet.{Packet}
use Rattle.link_steps.specs.declared.replies.Phase.{Phase}
use Rattle.link_steps.specs.declared.replies.Phase.TheVariants.{Committed, Closing}
use Rattle.link_steps.specs.declared.replies.Reply.{Reply}
use Rattle.link_steps.specs.declared.replies.Reply.TheVariants as Is
use Rattle.link_steps.specs.declared.shape.LinkShape.{LinkShape}
use Rattle.link_steps.specs.Lists.{change_first, without_first}
use Rattle.link_steps.specs.Reservation.{Reservation, tentative}
use Rattle.link_steps.specs.Rows.{Row, SourcePacket, new_row, planned_from, made_by}
use Rattle.link_steps.specs.Scan.{Scan, with_rows, with_arrival, after_tick, is_row_of, is_row_at_hop, names_first_hop}

-- ---- a change of a row

-- it is committed at a level, with the bound allotted before it; a count of packets of its source is planned, one each
-- gap, of a size; or it closes, at the first hop or a later one, with the count of its packets
pub data Change : Type 0 where
  Commits : Level → ℕ → Change
  Plans : ℕ → ℕ → ℕ → Change
  Closes : Bool → ℕ → Change

-- the parts of a row that a change sets
abbrev pub phase_with : Change → Phase → Phase
phase_with (Commits level up_bound) phase = Committed
phase_with (Plans count gap size) phase = phase
phase_with (Closes first count) phase = Closing

abbrev pub level_with : Change → Level → Level
level_with (Commits level up_bound) before = level
level_with (Plans count gap size) before = before
level_with (Closes first count) before = before

abbrev pub bound_with : Change → ℕ → ℕ
bound_with (Commits level up_bound) before = up_bound
bound_with (Plans count gap size) before = before
bound_with (Closes first count) before = before

abbrev pub count_with : Change → ℕ → ℕ
count_with (Commits level up_bound) before = before
count_with (Plans count gap size) before = before
count_with (Closes first count) before = count

abbrev pub plan_with : ℕ → Change → List SourcePacket → List SourcePacket
plan_with t (Commits level up_bound) plan = plan
plan_with t (Plans count gap size) plan = plan ++ planned_from t gap size count
plan_with t (Closes first count) plan = made_by t plan

-- the reservation, and the row at clock t, with the change
abbrev pub terms_with : Change → Reservation → Reservation
terms_with change terms = record terms {
  phase = phase_with change terms.phase;
  level = level_with change terms.level;
  up_bound = bound_with change terms.up_bound;
  count = count_with change terms.count;
}

abbrev pub changed_row : ℕ → Change → Row → Row
changed_row t change row = record row { terms = terms_with change row.terms; plan = plan_with t change row.plan }

-- whether a row is the one of the channel that is changed so: packets are planned at the first hop alone
abbrev pub is_changed : ChanNo → Change → Row → Bool
is_changed chan (Commits level up_bound) row = is_row_of chan row
is_changed chan (Plans count gap size) row = is_row_at_hop chan true row
is_changed chan (Closes first count) row = is_row_at_hop chan first row

-- ---- an effect

-- a row with this reservation is added; a channel's row is changed, or taken out; this row takes a packet; a tick passes;
-- a count of best-effort packets is planned, one every gap, of a size; or nothing
pub data Effect : Type 0 where
  Adds : Reservation → Effect
  Changes : ChanNo → Change → Effect
  Removes : ChanNo → Effect
  Takes : Packet → Row → Effect
  Ticks : Effect
  PlansBest : ℕ → ℕ → ℕ → Effect
  Nothing : Effect

-- a packet that is taken, where there is a row for it
abbrev pub takes_if : Packet → Option Row → Effect
takes_if packet None = Nothing
takes_if packet (Some row) = Takes packet row

-- the effect of an ask and its reply; none where the ask was refused
unfoldable pub effect_of : Scan → Ask → Reply → Effect
effect_of scan (Reserve chan contract kind delay up_reach first next) (Is.Offer level reach) = Adds (tentative chan contract kind first next up_reach level reach)
effect_of scan (Relax chan level up_bound) (Is.Relaxed clock) = Changes chan (Commits level up_bound)
effect_of scan (Deny chan) Is.Denied = Removes chan
effect_of scan (Submit chan count gap size) (Is.Planned clock) = Changes chan (Plans count gap size)
effect_of scan (Release chan upstream) (Is.Closing count cancelled) = Changes chan (Closes (names_first_hop upstream) count)
effect_of scan (Arrive packet) (Is.Taken clock eligible) = takes_if packet (find (is_row_of packet.chan) scan.rows)
effect_of scan Tick reply = Ticks
effect_of scan (Pour count gap size) (Is.Planned clock) = PlansBest count gap size
effect_of scan _ _ = Nothing

-- the scan with an effect at clock t
unfoldable pub with_effect : LinkShape → ℕ → Scan → Effect → Scan
with_effect shape t scan (Adds terms) = with_rows scan (scan.rows ++ new_row terms ∷ [])
with_effect shape t scan (Changes chan change) = with_rows scan (change_first (is_changed chan change) (changed_row t change) scan.rows)
with_effect shape t scan (Removes chan) = with_rows scan (without_first (is_row_of chan) scan.rows)
with_effect shape t scan (Takes packet row) = with_arrival t packet scan (Some row)
with_effect shape t scan Ticks = after_tick shape t scan
with_effect shape t scan (PlansBest count gap size) = record scan { best_plan = scan.best_plan ++ planned_from t gap size count }
with_effect shape t scan Nothing = scan

-- and the clock with it
abbrev pub clock_by : Effect → ℕ → ℕ
clock_by Ticks t = suc t
clock_by _ t = t
