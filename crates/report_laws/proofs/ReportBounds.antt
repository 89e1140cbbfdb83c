-- The delays that the report of a run tells of an accepted channel are those that the whole guarantee speaks of, so they are within
-- its bounds where the report says that the source keeps its contract.
use Rattle.std.proofs.Common.{◌≡◌, ℕ, suc, ◌-◌, true, List, length, get_or, Some, refl, sym, ap, ◌∙◌, subst, arith}
use Rattle.run_engine.proofs.Words.{slice_get, reverse, bound_at, link_number, actor_number, channel_number, bound_at_end, Among, RequestFits, OwnedFully, network_of, Task, part_of, terms_at, ChannelAsked, HopAt, bound_of}
use Rattle.traffic_contract.specs.Keeping.{keeps}
use Rattle.link_steps.proofs.SearchAndFilter.{Each-among}
use Rattle.link_steps.proofs.ListParts.{stands-at}
use Rattle.call_script.proofs.PlansFit.{plan-fits}
use Rattle.call_script.proofs.OneOwner.{owned-by}
use Rattle.run_record.specs.Rows.{rows_of}
use Rattle.interleave_core.specs.channels.Guarantee.{SourceKept, ChannelGuaranteed}
use Rattle.interleave_core.proofs.Channels.GuaranteeLaw.{channel-guaranteed}
use Rattle.run_engine.proofs.Channels.HopsAt.{hop-at}
use Rattle.run_engine.proofs.Runs.RunLegal.{part-admissible}
use Rattle.run_engine.proofs.Replies.VerdictHolds.{verdicts-follow}
use Rattle.relaxation.proofs.SlackShares.{bound_at_end-last}
use Rattle.channel_report.proofs.ChannelTallies.{first-at}
use Rattle.channel_report.specs.Sources.{offered_in}
use Rattle.report_laws.specs.Bounds.{delays_told, ReportsKeepTheirBounds}
use Rattle.report_laws.specs.RowDelays.{row_delays_in}
use Rattle.report_laws.proofs.DelaysOfRows.{delays-of-rows}
use Rattle.report_laws.proofs.DelayRows.{ToldDelay, delay-is}
use Rattle.report_laws.proofs.KeptSource.{source-kept}
use Rattle.report_laws.proofs.RowPacket.{all-offered}
use Rattle.report_laws.proofs.ToldDelays.{DelayOf, delays-are, least-among, worst-among}
use Rattle.run_engine.proofs.Channels.PlanChannels.{request-asked, request-sound}

-- ---- the law

pub bounds-kept : ReportsKeepTheirBounds
bounds-kept plan run c entry levels delay is run_is requested accepted says = record {
  keeps = kept.keeps;
  worst = λ most found.
      (let d = told most (worst-among (delays_told run entry) most found) in
      let by = kept.in_time (source d.0 most d.1) (length entry.request.route - 1) last d.1.is.k d.1.is.start end d.1.is.left in
      let same = d.1.is.is in
      omega (arith, by, same));
  spread = λ jitter least most low high.
      (let d = told most (worst-among (delays_told run entry) most high) in
      let e = told least (least-among (delays_told run entry) least low) in
      let by = kept.close jitter (source d.0 most d.1) (length entry.request.route - 1) last d.1.is.k e.1.is.k d.1.is.start e.1.is.start d.1.is.left e.1.is.left in
      let a = d.1.is.is in
      let b = e.1.is.is in
      let bound : bound_at_end entry.request.route levels ≡ bound_of last levels =
      bound_at_end-last entry.request.route levels (length entry.request.route - 1) last.hop (kept.keeps.have_levels.whole ∙ sym end) last.stands ∙ ap (λ bs. bound_at bs (get_or levels (length entry.request.route - 1) 0)) last.bounds in
      omega (arith, by, a, b, bound));
} where
  sound : RequestFits (network_of plan).links entry.request
  sound = request-sound plan c entry is requested

  whole : OwnedFully (network_of plan) entry.request (actor_number entry.caller)
  whole = owned-by plan c entry is requested

  first : HopAt (network_of plan) entry.request 0
  first = hop-at (network_of plan) entry.request 0 sound sound.route.least

  end : suc (length entry.request.route - 1) ≡ length entry.request.route
  end = (let some = sound.route.least in omega (arith, some))

  last : HopAt (network_of plan) entry.request (length entry.request.route - 1)
  last = hop-at (network_of plan) entry.request (length entry.request.route - 1) sound (let some = sound.route.least in omega (arith, some))

  script : (tasks : List Task) × (slice_get (network_of plan).scripts (actor_number entry.caller) ≡ Some tasks)
  script = stands-at (network_of plan).scripts (actor_number entry.caller) whole.inside

  kept : ChannelGuaranteed (network_of plan) entry.request levels delay first run
  kept = channel-guaranteed (network_of plan) entry.request (actor_number entry.caller) script.0 levels delay first run (plan-fits plan is) sound whole run_is script.1
      (verdicts-follow (network_of plan) entry.request (actor_number entry.caller) script.0 run sound whole run_is script.1 ∙ accepted)

  asked : ChannelAsked entry.request run
  asked = request-asked plan c entry is requested run run_is

  source : (number delay : ℕ) → ToldDelay (network_of plan) entry.request first (length entry.request.route - 1) last run number delay → SourceKept (network_of plan) entry.request first run
  source number d told =
      source-kept first.link.shape (terms_at entry.request 0) (channel_number entry.request.chan) (part_of (link_number first.hop.link) run) told.packet (part-admissible (network_of plan) run (link_number first.hop.link) first.link (plan-fits plan is) run_is first.linked)
      (asked.names 0 first.hop first.stands) (asked.once (link_number first.hop.link)) refl told.taken told.own
      (subst (λ n. keeps entry.request.contract (offered_in (channel_number entry.request.chan) (part_of n run)) ≡ true) (first-at entry.request.route first.hop first.stands) says)

  told : (delay : ℕ) → Among delay (delays_told run entry) → (number : ℕ) × ToldDelay (network_of plan) entry.request first (length entry.request.route - 1) last run number delay
  told d among =
      let of = Each-among (DelayOf entry.request (reverse (rows_of (reverse run)))) d (row_delays_in entry.request (rows_of (reverse run))) (delays-are entry.request (reverse (rows_of (reverse run))))
      (subst (Among d) (delays-of-rows plan run c entry is run_is requested) among) in
      (of.row.number, delay-is plan run c entry first (length entry.request.route - 1) last d is run_is requested (all-offered run entry.request levels delay accepted) end of)
