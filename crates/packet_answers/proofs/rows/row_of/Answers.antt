use Rattle.std.proofs.Common.{◌≡◌, ◌<◌, ◌^◌, List, length, reverse, refl, sym, ap, subst, ◌∙◌, arith}
use Rattle.std.proofs.lemmas.Option.{same_Some}
use Rattle.traffic_contract.specs.Keeping.{keeps}
use Rattle.net_units.specs.Numbers.{channel_number, link_number}
use Rattle.run_engine.proofs.Keeping.Lookups.{found-at}
use Rattle.run_engine.proofs.Runs.RunLength.{run-short}
use Rattle.run_record.specs.Runs.{part_of}
use Rattle.run_record.specs.declared.done.Done.{Done}
use Rattle.channel_report.proofs.ChannelTallies.{first-at}
use Rattle.channel_report.proofs.LinkTallies.{part-short}
use Rattle.channel_report.specs.Sources.{first_link}
use Rattle.packet_answers.specs.ChannelRows.{promised_in}
use Rattle.packet_answers.specs.Plays.{run_in}
use Rattle.packet_answers.specs.SourceTallies.{BreaksFrom, KeepsSource}
use Rattle.packet_answers.proofs.RowSteps.{row-told}
use Rattle.packet_answers.proofs.SourceSteps.{source-offers}
use Rattle.packet_answers.proofs.rows.row_of.Goals as goal

pub returns : goal.returns
returns c = λ entry found.
    let parts = c.args.plan.now in
    let number = c.args.number in
    let run = run_in c.args.played.now in
    let stands = c.requires.stands in
    let read = c.index-requests-number.result in
    let here : number < length c.requests.result.now = rw c.requests.ensures.value c.requires.inside in
    let read_found = found-at c.requests.result.now parts.requests number number read c.requests.ensures.value refl here c.index-requests-number.is in
    let same : read ≡ entry = same_Some read entry (sym read_found ∙ found) in
    let own = channel_number read.request.chan in
    let first = first_link read.request.route in
    let source = c.in_ok-source.source in
    let link = first-at read.request.route c.hop.result c.hop.ensures.value in
    let kept = subst (λ k. KeepsSource own (part_of k run) source) (sym link)
    (subst (λ (entries : List Done). KeepsSource own (part_of (link_number c.hop.result.link) (reverse entries)) source) c.entries.ensures c.in_ok-source.ensures) in
    let short : length (part_of first run) < 2 ^ 60 = omega (arith, part-short first run, run-short parts run stands.plan stands.run) in
    let offers = source-offers own (part_of first run) source c.in_ok-offered.offered.items kept short c.in_ok-offered.ensures in
    let promised = c.promised_by.ensures ∙ ap promised_in (c.verdict-verdict.ensures run read stands.run stands.callers read_found) in
    row-told parts run number entry read _ c.in_ok-offered.offered.items c.args.rows.now c.delays_in-arrived.result stands.plan stands.run found same c.reports_keep_their_bounds.ensures
    promised offers (omega (arith, c.len.ensures, c.in_ok-offered.offered.ok.0)) (c.keeps-keeps.ensures.test ∙ ap (keeps read.request.contract) c.as_slice.ensures.value)
    (subst (λ ticks. BreaksFrom read.request.contract ticks c.first_break.result) c.as_slice-2.ensures.value c.first_break.ensures)
    c.requires.rows (c.delays_in-arrived.ensures read.request (c.end_of-end.ensures read.request refl refl)) refl refl kept.refuses
