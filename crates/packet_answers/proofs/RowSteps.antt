-- What a run tells of a channel, by what is kept of it, and of the channels of one request more.
use Rattle.std.proofs.Common.{◌≡◌, ℕ, Option, Some, None, List, [], ◌∷◌, ◌++◌, length, reverse, sym, ap, ◌∙◌, subst, inl, inr}
use Rattle.std.proofs.lemmas.Option.{same_Some}
use Rattle.std.specs.List.{slice_get}
use Rattle.traffic_contract.specs.Keeping.{keeps}
use Rattle.setup_protocol.specs.Setup.{Outcome, Accepts, Denies}
use Rattle.call_script.specs.Parts.{PlanParts}
use Rattle.call_script.specs.Plans.{IsPlan}
use Rattle.call_script.specs.Tasks.{network_of}
use Rattle.call_script.specs.declared.entries.RequestEntry.{RequestEntry}
use Rattle.run_engine.proofs.Keeping.Lookups.{get-push}
use Rattle.run_engine.specs.runs.Runs.{IsRun}
use Rattle.run_record.specs.Rows.{rows_of}
use Rattle.run_record.specs.declared.done.Done.{Done}
use Rattle.run_record.specs.declared.rows.HopRow.{HopRow}
use Rattle.channel_report.specs.Channels.{offered_for, sends_refused}
use Rattle.channel_report.specs.Delays.{worst_of}
use Rattle.channel_report.specs.Verdicts.{verdict_in}
use Rattle.report_laws.proofs.DelaysOfRows.{delays-of-rows}
use Rattle.report_laws.specs.Bounds.{ReportsKeepTheirBounds, delays_told}
use Rattle.report_laws.specs.RowDelays.{row_delays_of}
use Rattle.packet_answers.specs.ChannelDelays.{delays_as}
use Rattle.packet_answers.specs.ChannelRows.{TellsChannel, promised_in}
use Rattle.packet_answers.specs.SourceTallies.{BreaksFrom}
use Rattle.packet_answers.specs.declared.delays.Delays.{Delays}
use Rattle.packet_answers.specs.declared.rows.ChannelRow.{ChannelRow}

-- a delay is promised by an acceptance
pub record Accepted (outcome : Option Outcome) (delay : ℕ) : Type 0 where
  pub levels : List ℕ
  pub is : outcome ≡ Some (Accepts levels delay)

accepted : (outcome : Option Outcome) (delay : ℕ) → promised_in outcome ≡ Some delay → Accepted outcome delay
accepted (Some (Accepts levels own)) delay same = record { levels = levels; is = ap (λ d. Some (Accepts levels d)) (same_Some own delay same) }
accepted (Some (Denies deny)) delay same = cc
accepted None delay same = cc

pub row-told : (parts : PlanParts) (run : List Done) (number : ℕ) (entry read : RequestEntry) (row : ChannelRow) (offered : List ℕ) (rows : List HopRow) (delays : Delays) → IsPlan parts → IsRun (network_of parts) run → slice_get parts.requests number ≡ Some entry → read ≡ entry → ReportsKeepTheirBounds
    → row.promised ≡ promised_in (verdict_in run read) → offered ≡ offered_for run read → row.sent ≡ length offered → row.keeps ≡ keeps read.request.contract offered → BreaksFrom read.request.contract offered row.breaks_from
    → rows ≡ rows_of (reverse run) → delays ≡ delays_as (row_delays_of read.request (reverse rows)) → row.arrived ≡ delays.arrived → row.worst ≡ delays.worst → row.refused ≡ sends_refused run read
    → TellsChannel run entry row
row-told parts run number entry read row offered rows delays plan is_run found same laws promises offers sent kept breaks all told arrives most refuses =
    let promises' : row.promised ≡ promised_in (verdict_in run entry) = promises ∙ ap (λ (e : RequestEntry). promised_in (verdict_in run e)) same in
    let offers' : offered ≡ offered_for run entry = offers ∙ ap (offered_for run) same in
    let kept' : row.keeps ≡ keeps entry.request.contract (offered_for run entry) = kept ∙ ap (λ (e : RequestEntry). keeps e.request.contract offered) same ∙ ap (keeps entry.request.contract) offers' in
    let told' : delays ≡ delays_as (delays_told run entry) = told ∙ ap (λ (e : RequestEntry). delays_as (row_delays_of e.request (reverse rows))) same ∙ ap (λ rs. delays_as (row_delays_of entry.request (reverse rs))) all
    ∙ ap delays_as (sym (delays-of-rows parts run number entry plan is_run found)) in
    let most' : row.worst ≡ worst_of (delays_told run entry) = most ∙ ap (λ (d : Delays). d.worst) told' in
    record {
      promises = promises';
      sends = sent ∙ ap length offers';
      kept = kept';
      breaks = subst (λ ticks. BreaksFrom entry.request.contract ticks row.breaks_from) offers' (subst (λ (e : RequestEntry). BreaksFrom e.request.contract offered row.breaks_from) same breaks);
      arrives = arrives ∙ ap (λ (d : Delays). d.arrived) told';
      most = most';
      refuses = refuses ∙ ap (sends_refused run) same;
      within = λ keeping promised worst own_promise own_worst.
          let accept = accepted (verdict_in run entry) promised (sym promises' ∙ own_promise) in
          (laws parts run number entry accept.levels promised plan is_run found accept.is (sym kept' ∙ keeping)).worst worst (sym most' ∙ own_worst);
    }

-- one row more
pub rows-more : (requests : List RequestEntry) (run : List Done) (number : ℕ) (told new : List ChannelRow) (row : ChannelRow) → new ≡ told ++ row ∷ [] → length told ≡ number
    → ((n : ℕ) (entry : RequestEntry) (r : ChannelRow) → slice_get requests n ≡ Some entry → slice_get told n ≡ Some r → TellsChannel run entry r)
    → ((entry : RequestEntry) → slice_get requests number ≡ Some entry → TellsChannel run entry row)
    → (n : ℕ) (entry : RequestEntry) (r : ChannelRow) → slice_get requests n ≡ Some entry → slice_get new n ≡ Some r → TellsChannel run entry r
rows-more requests run number told new row more count each own n entry r found at =
    elim (get-push told row n r (ap (λ rs. slice_get rs n) (sym more) ∙ at)) [
      | inl before ↦ each n entry r found before
      | inr last ↦
          (let here : n ≡ number = last.0 ∙ count in
          subst (TellsChannel run entry) (sym last.1) (own entry (ap (slice_get requests) (sym here) ∙ found)))
    ]
