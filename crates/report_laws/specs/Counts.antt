-- What the report counts of a link, of a channel's sends and of the run. A link's *sent* is the number of the channels' packets
-- that have left it, and *full* that of the source packets that its rows have dropped, those of rows that are gone among them. Its
-- *best* is the number of the best-effort packets that have left it, *lost* that of those whose tick was made and which it hasn't
-- taken, and its *refused* that of the pours that were refused. A channel's *refused* is the number of its submits at its first
-- link that were. The last line states how many steps the run has.
use Rattle.std.specs.Prelude.{◌≡◌, ℕ, ◌+◌, Bool, true, false, nat_eq, nat_le, not, ◌&&◌, Some, List, ◌++◌, length, filter, reverse}
use Rattle.std.specs.List.{slice_get}
use Rattle.net_units.specs.Numbers.{channel_number}
use Rattle.traffic_contract.specs.Admission.{total}
use Rattle.link_steps.specs.BestEffort.{is_best}
use Rattle.link_steps.specs.declared.asks.Ask.{Ask}
use Rattle.link_steps.specs.declared.asks.Ask.TheVariants.{Submit, Pour}
use Rattle.link_steps.specs.declared.replies.Entry.{Entry}
use Rattle.link_steps.specs.declared.replies.Reply.{Reply}
use Rattle.link_steps.specs.declared.replies.Reply.TheVariants.{Refused}
use Rattle.link_steps.specs.declared.shape.LinkShape.{LinkShape}
use Rattle.link_steps.specs.Rows.{Row, made_by}
use Rattle.link_steps.specs.Scan.{Scan, clock_of, scan_of, starts_of}
use Rattle.link_steps.specs.Service.{Start, leaves_at}
use Rattle.link_steps.specs.Split.{Link}
use Rattle.call_script.specs.Parts.{PlanParts}
use Rattle.call_script.specs.Plans.{IsPlan}
use Rattle.call_script.specs.Tasks.{network_of}
use Rattle.call_script.specs.declared.entries.RequestEntry.{RequestEntry}
use Rattle.run_record.specs.Runs.{part_of}
use Rattle.run_record.specs.declared.done.Done.{Done}
use Rattle.run_engine.specs.runs.Runs.{IsRun}
use Rattle.channel_report.specs.Channels.{sends_refused}
use Rattle.channel_report.specs.Links.{sent_in, dropped_in, best_sent_in, best_lost_in, pours_refused_in}
use Rattle.channel_report.specs.Report.{end_line, report_of, table_if}
use Rattle.channel_report.specs.Sources.{first_link}

-- ---- links

-- a start whose packet has left the link by the clock, of a channel or best-effort
abbrev pub is_best_start : LinkShape → Start → Bool
is_best_start shape start = is_best shape.bounds start.packet

abbrev pub is_channel_start : LinkShape → Start → Bool
is_channel_start shape start = not (is_best shape.bounds start.packet)

abbrev pub has_left : LinkShape → (Start → Bool) → ℕ → Start → Bool
has_left shape test clock start = nat_le (leaves_at shape.rate start) clock && test start

-- the starts of a history whose packets have left
abbrev pub left_in : LinkShape → (Start → Bool) → List Entry → ℕ
left_in shape test h = length (filter (has_left shape test (clock_of h)) (starts_of shape h))

-- the source packets that a row has dropped, and those that all rows have, whether held or gone
abbrev pub drops_of : Row → ℕ
drops_of row = length row.dropped

abbrev pub dropped_packets : Scan → ℕ
dropped_packets scan = total drops_of scan.gone + total drops_of scan.rows

-- the best-effort packets that were planned for a tick made by clock t, and those that the link has taken
abbrev pub best_offered : ℕ → Scan → ℕ
best_offered t scan = length (made_by t scan.best_plan)

abbrev pub best_taken : LinkShape → Scan → ℕ
best_taken shape scan = length (filter (is_best shape.bounds) scan.packets)

-- a pour that was refused
abbrev pub refuses_pour : Ask → Reply → Bool
refuses_pour (Pour count gap size) (Refused refusal) = true
refuses_pour _ _ = false

abbrev pub is_refused_pour : Entry → Bool
is_refused_pour e = refuses_pour e.ask e.reply

-- what the report counts of a link
pub record TellsLink (link : Link) (h : List Entry) : Type 0 where
  pub sent : sent_in h ≡ left_in link.shape (is_channel_start link.shape) h
  pub full : dropped_in h ≡ dropped_packets (scan_of link.shape h)
  pub best : best_sent_in h ≡ left_in link.shape (is_best_start link.shape) h
  pub lost : best_lost_in h + best_taken link.shape (scan_of link.shape h) ≡ best_offered (clock_of h) (scan_of link.shape h)
  pub refused : pours_refused_in h ≡ length (filter is_refused_pour h)

abbrev pub ReportsShowWhatLinksDid : Type 0
ReportsShowWhatLinksDid = (plan : PlanParts) (run : List Done) (n : ℕ) (link : Link) → IsPlan plan → IsRun (network_of plan) run → slice_get (network_of plan).links n ≡ Some link → TellsLink link (part_of n run)

-- ---- sends, and steps

-- a submit on the channel of this number that was refused
abbrev pub refuses_send : ℕ → Ask → Reply → Bool
refuses_send c (Submit chan count gap size) (Refused refusal) = nat_eq (channel_number chan) c
refuses_send c _ _ = false

abbrev pub is_refused_send : ℕ → Entry → Bool
is_refused_send c e = refuses_send c e.ask e.reply

abbrev pub ReportsShowRefusedSends : Type 0
ReportsShowRefusedSends = (run : List Done) (entry : RequestEntry) → sends_refused run entry ≡ length (filter (is_refused_send (channel_number entry.request.chan)) (part_of (first_link entry.request.route) run))

-- the lines before the last one, which tells the number of steps; a table follows where one is asked for
pub record TellsSteps (plan : PlanParts) (run : List Done) (packets : Bool) : Type 0 where
  pub lines : List ℕ
  pub is : report_of plan (reverse run) packets ≡ lines ++ (end_line (length run) ++ table_if packets plan (reverse run))

abbrev pub ReportsShowTheSteps : Type 0
ReportsShowTheSteps = (plan : PlanParts) (run : List Done) (packets : Bool) → TellsSteps plan run packets
