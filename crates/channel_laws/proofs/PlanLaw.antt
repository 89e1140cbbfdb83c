-- What the plans of a link's rows keep, whatever the channel: a fact of a clock, a row's channel, whether it is a first hop's, and its
-- plan. Where time, a fresh row, a release and each planned submit keep it, every scan does.
use Rattle.std.proofs.Common.{◌≡◌, ℕ, suc, ◌+◌, Bool, true, List, [], ◌∷◌, length, Option, Some, None}
use Rattle.std.specs.Prelude.{filter, find}
use Rattle.net_units.specs.Numbers.{channel_number}
use Rattle.link_steps.specs.declared.asks.Ask.{Ask}
use Rattle.link_steps.specs.declared.asks.Ask.TheVariants.{Reserve, Relax, Deny, Submit, Release, Arrive, Tick}
use Rattle.link_steps.specs.declared.asks.Packet.{Packet}
use Rattle.link_steps.specs.declared.replies.Reply.{Reply}
use Rattle.link_steps.specs.declared.replies.Reply.TheVariants as Is
use Rattle.link_steps.specs.declared.shape.LinkShape.{LinkShape}
use Rattle.link_steps.specs.Hold.{stays}
use Rattle.link_steps.specs.Lists.{Each}
use Rattle.link_steps.specs.Rows.{Row, SourcePacket, made_by}
use Rattle.link_steps.specs.Scan.{Scan, plan_row, clock_with, is_row_of, is_row_at_hop, arrived_row, with_arrival, without_expired, with_sources, with_best, after_tick, after}
use Rattle.link_steps.specs.Service.{Arrival, here_at}
use Rattle.link_steps.specs.Sources.{SourceStep, Rests, Brings, Drops, row_after, rows_after, step_of, taken_by}
use Rattle.link_steps.proofs.FoundElements.{Each-change_found}
use Rattle.link_steps.proofs.SearchAndFilter.{Each-append, Each-filter, Each-change_first, Each-without_first}
use Rattle.channel_laws.specs.Channels.{channel_of}

-- what a row's plan is at clock t, given its channel's number
abbrev pub On : (ℕ → ℕ → Bool → List SourcePacket → Type 0) → ℕ → Row → Type 0
On Q t row = Q t (channel_of row) row.terms.first row.plan

pub record IsPlanLaw (Q : ℕ → ℕ → Bool → List SourcePacket → Type 0) : Type 0 where
  pub later : (t c : ℕ) (b : Bool) (plan : List SourcePacket) → Q t c b plan → Q (suc t) c b plan
  pub fresh : (t c : ℕ) (b : Bool) → Q t c b []
  pub made : (t c : ℕ) (b : Bool) (plan : List SourcePacket) → Q t c b plan → Q t c b (made_by t plan)

-- a submit that is planned keeps it
abbrev pub SubmitKeeps : (ℕ → ℕ → Bool → List SourcePacket → Type 0) → ℕ → Scan → Ask → Reply → Type 0
SubmitKeeps Q t scan (Submit chan count gap size) (Is.Planned clock) = (row : Row) → find (is_row_at_hop chan true) scan.rows ≡ Some row → On Q t row → On Q t (plan_row t count gap size row)
SubmitKeeps Q t scan _ _ = Unit {0}

step-keeps : (Q : ℕ → ℕ → Bool → List SourcePacket → Type 0) (t u place : ℕ) (step : SourceStep) (row : Row) → On Q t row → On Q t (row_after step u place row)
step-keeps Q t u place Rests row on = on
step-keeps Q t u place (Brings size) row on = on
step-keeps Q t u place Drops row on = on

sources-keep : (Q : ℕ → ℕ → Bool → List SourcePacket → Type 0) → (law : IsPlanLaw Q) → (bounds : List ℕ) (here : List Arrival) (t taken : ℕ) (rows : List Row) → Each (On Q t) rows → Each (On Q (suc t)) (rows_after bounds here t taken rows)
unfolding rows_after
sources-keep Q law bounds here t taken [] each = tt
sources-keep Q law bounds here t taken (row ∷ rows) each = (
  later (row_after (step_of bounds here t row) t (suc taken) row) (step-keeps Q t t (suc taken) (step_of bounds here t row) row each.0),
  sources-keep Q law bounds here t (taken + taken_by (step_of bounds here t row)) rows each.1,
) where
  later : (r : Row) → On Q t r → On Q (suc t) r
  later r on = law.later t (channel_of r) r.terms.first r.plan on

arrival-keeps : (Q : ℕ → ℕ → Bool → List SourcePacket → Type 0) (t : ℕ) (packet : Packet) (scan : Scan) (found : Option Row) → Each (On Q t) scan.rows → Each (On Q t) (with_arrival t packet scan found).rows
unfolding with_arrival
arrival-keeps Q t packet scan None each = each
arrival-keeps Q t packet scan (Some row) each = Each-change_first (On Q t) (is_row_of packet.chan) (arrived_row t (suc (length scan.packets)) packet) scan.rows (λ r on. on) each

pub after-keeps : (Q : ℕ → ℕ → Bool → List SourcePacket → Type 0) → (law : IsPlanLaw Q) → (shape : LinkShape) (t : ℕ) (scan : Scan) (ask : Ask) (reply : Reply) → SubmitKeeps Q t scan ask reply → Each (On Q t) scan.rows → Each (On Q (clock_with ask t)) (after shape t scan ask reply).rows
unfolding after after_tick with_best with_sources without_expired
after-keeps Q law shape t scan (Reserve chan contract kind delay up_reach first next) (Is.Offer level reach) keeps each = Each-append (On Q t) scan.rows _ each (law.fresh t (channel_number chan) first, tt)
after-keeps Q law shape t scan (Relax chan level up_bound) (Is.Relaxed clock) keeps each = Each-change_first (On Q t) _ _ scan.rows (λ r on. on) each
after-keeps Q law shape t scan (Deny chan) Is.Denied keeps each = Each-without_first (On Q t) _ scan.rows each
after-keeps Q law shape t scan (Submit chan count gap size) (Is.Planned clock) keeps each = Each-change_found (On Q t) (is_row_at_hop chan true) (plan_row t count gap size) scan.rows keeps each
after-keeps Q law shape t scan (Release chan upstream) (Is.Closing count cancelled) keeps each = Each-change_first (On Q t) _ _ scan.rows (λ r on. law.made t (channel_of r) r.terms.first r.plan on) each
after-keeps Q law shape t scan (Arrive packet) (Is.Taken clock e) keeps each = arrival-keeps Q t packet scan (find (is_row_of packet.chan) scan.rows) each
after-keeps Q law shape t scan Tick reply keeps each = sources-keep Q law shape.bounds (here_at shape.rate scan.packets t) t (length scan.packets) (filter (stays shape.bounds t) scan.rows) (Each-filter (On Q t) (stays shape.bounds t) scan.rows each)
after-keeps Q law shape t scan _ (Is.Planned clock) keeps each = each
after-keeps Q law shape t scan _ _ keeps each = each
