-- The line of an established channel, by what is kept of it.
use Rattle.std.proofs.Common.{◌≡◌, ℕ, ◌<◌, ◌≤◌, Bool, Some, List, [], ◌∷◌, length, get_or, reverse, refl, sym, ap, ◌∙◌, arith}
use Rattle.std.proofs.lemmas.List.{length-map, length-reverse}
use Rattle.std.proofs.lemmas.Option.{slice_get_within}
use Rattle.std.specs.Prelude.{filter, map}
use Rattle.std.specs.List.{slice_get}
use Rattle.traffic_contract.specs.Keeping.{keeps}
use Rattle.net_units.specs.Numbers.{link_number}
use Rattle.hop_reservation.specs.declared.route.Hop.{Hop}
use Rattle.link_steps.specs.Lists.{Each}
use Rattle.link_steps.specs.Scan.{clock_of}
use Rattle.link_steps.specs.Split.{Link}
use Rattle.call_script.proofs.PlansFit.{request-fits}
pub use Rattle.call_script.proofs.PlansFit.{route-least as route-some}
use Rattle.setup_protocol.specs.Hops.{IsHopOf}
use Rattle.call_script.specs.Parts.{PlanParts}
use Rattle.call_script.specs.Plans.{IsPlan}
use Rattle.call_script.specs.Splits.{entry_link, groups_in}
use Rattle.call_script.specs.declared.entries.RequestEntry.{RequestEntry}
use Rattle.run_record.specs.Runs.{part_of}
use Rattle.run_record.specs.declared.done.Done.{Done}
use Rattle.run_record.specs.declared.rows.HopRow.{HopRow}
use Rattle.channel_report.specs.ChannelTallies.{never}
use Rattle.channel_report.specs.Channels.{established_line, offered_for, sends_refused, told_channel}
use Rattle.channel_report.specs.DelayTallies.{delay_tally_of}
use Rattle.channel_report.specs.Delays.{delays_in}
use Rattle.channel_report.specs.Findings.{AreFound}
use Rattle.channel_report.specs.Sources.{first_link, is_made, planned_in, refused_in}
use Rattle.channel_report.specs.declared.channel_tally.ChannelTally.{ChannelTally}
use Rattle.channel_report.specs.declared.delay_tally.DelayTally.{DelayTally}
use Rattle.channel_report.specs.declared.findings.Findings.{Findings}
use Rattle.channel_report.specs.declared.link_tally.LinkTally.{LinkTally}
use Rattle.channel_report.proofs.LinkTallies.{nothing, part-short}
use Rattle.channel_report.proofs.PlannedTicks.{made-within}
use Rattle.link_steps.proofs.ClockAdvances.{clock_of-most}

-- the first link of a request is one of the plan's
first-hop : (links : List Link) (route : List Hop) → 1 ≤ length route → Each (IsHopOf links) route → first_link route < length links
first-hop links [] some each = absurd (omega arith)
first-hop links (hop ∷ hops) some each = slice_get_within links (link_number hop.link) each.0.link each.0.linked

pub first-within : (parts : PlanParts) (number : ℕ) (entry : RequestEntry) → IsPlan parts → slice_get parts.requests number ≡ Some entry → 1 ≤ length entry.request.route → first_link entry.request.route < length parts.links
first-within parts number entry plan found some =
    let fits = request-fits parts number entry plan found in
    omega (arith, first-hop (map (entry_link (groups_in parts)) parts.links) entry.request.route some fits.hops, length-map parts.links (entry_link (groups_in parts)))

-- the ticks offered
pub offered-is : (parts : PlanParts) (entries : List Done) (findings : Findings) (number : ℕ) (entry : RequestEntry) (tally : ChannelTally) (clock : ℕ) (ticks : List ℕ) → IsPlan parts → AreFound parts entries findings → slice_get parts.requests number ≡ Some entry → slice_get findings.channels.items number ≡ Some tally → 1 ≤ length entry.request.route
    → clock ≡ (get_or findings.links.items (first_link entry.request.route) nothing).clock → ticks ≡ filter (is_made clock) tally.ticks.items → ticks ≡ offered_for (reverse entries) entry
offered-is parts entries findings number entry tally clock ticks plan are found at some clocks is =
    let first = first_link entry.request.route in
    let h = part_of first (reverse entries) in
    let counted = are.links.tells first nothing (first-within parts number entry plan found some) in
    let at_clock : clock ≡ clock_of h = clocks ∙ ap (λ (t : LinkTally). t.clock) counted.is in
    let kept = are.channels.tells number entry tally found at in
    let small : clock_of h ≤ never = omega (arith, clock_of-most h, part-short first (reverse entries), length-reverse entries, are.short) in
    is ∙ ap (λ c. filter (is_made c) tally.ticks.items) at_clock ∙ ap (filter (is_made (clock_of h))) kept.ticks ∙ made-within (clock_of h) never (planned_in number h) small
    ∙ ap (λ n. filter (is_made (clock_of h)) (planned_in n h)) (sym (plan.planned.requests number entry found))

pub refused-is : (parts : PlanParts) (entries : List Done) (findings : Findings) (number : ℕ) (entry : RequestEntry) (tally : ChannelTally) → IsPlan parts → AreFound parts entries findings → slice_get parts.requests number ≡ Some entry → slice_get findings.channels.items number ≡ Some tally → tally.refused ≡ sends_refused (reverse entries) entry
refused-is parts entries findings number entry tally plan are found at =
    (are.channels.tells number entry tally found at).refuses ∙ ap (λ n. refused_in n (part_of (first_link entry.request.route) (reverse entries))) (sym (plan.planned.requests number entry found))

-- the line
pub established-is : (rows : List HopRow) (run : List Done) (read entry : RequestEntry) (ticks : List ℕ) (kept : Bool) (delays : DelayTally) (refused : ℕ) → read ≡ entry → ticks ≡ offered_for run entry → kept ≡ keeps read.request.contract ticks → delays ≡ delay_tally_of (delays_in entry.request rows) → refused ≡ sends_refused run entry
    → told_channel read.name (length ticks) kept delays.delivered delays.least delays.worst refused ≡ established_line rows run entry
established-is rows run read entry ticks kept delays refused same offered keeping late refuses = rw (keeping, same, offered, late, refuses) refl
