use Rattle.std.proofs.Common.{◌≡◌, ◌<◌, ◌++◌, length, reverse, get_or, refl, sym, ap, ◌∙◌, arith}
use Rattle.std.proofs.lemmas.Option.{same_Some}
use Rattle.std.specs.Prelude.{filter}
use Rattle.traffic_contract.specs.Keeping.{keeps}
use Rattle.channel_report.specs.Sources.{first_link, is_made}
use Rattle.channel_report.specs.Delays.{departures_of}
use Rattle.run_engine.proofs.Keeping.Lookups.{found-at}
use Rattle.channel_report.specs.Channels.{established_line, told_channel}
use Rattle.channel_report.proofs.EstablishedLine.{first-within, route-some, offered-is, refused-is, established-is}
use Rattle.channel_report.proofs.LinesByItem.{found-item}
use Rattle.channel_report.proofs.LinkTallies.{nothing}
use Rattle.channel_report.proofs.channel_lines.established_line.Goals as goal

pub returns : goal.returns
returns c = λ entries entry are found.
    let number = c.args.number in
    let findings = c.args.findings.now in
    let read = c.index-requests-number.result in
    let here : number < length c.requests.result.now = rw c.requests.ensures.value c.requires.inside in
    let read_found = found-at c.requests.result.now c.args.plan.now.requests number number read c.requests.ensures.value refl here c.index-requests-number.is in
    let same : read ≡ entry = same_Some read entry (sym read_found ∙ found) in
    let tally = found-item findings.channels.items number c.index-tally.result.now (omega (arith, are.channels.all, c.requires.inside)) c.index-tally.ensures in
    let delay = found-item findings.delays.items number c.index.result.now (omega (arith, are.delays.all, c.requires.inside)) c.index.ensures in
    let plan = c.requests.ensures.valid in
    let some = route-some c.args.plan.now number read plan read_found in
    let inside : first_link read.request.route < length c.as_slice.result.now = omega (arith, first-within c.args.plan.now number read plan read_found some, are.links.all, ap length c.as_slice.ensures.value) in
    let clock = c.first_clock-clock.ensures nothing inside ∙ ap (λ links. (get_or links (first_link read.request.route) nothing).clock) c.as_slice.ensures.value in
    let kept = c.in_ok-ticks.ensures ∙ ap (filter (is_made c.first_clock-clock.result)) c.as_slice-2.ensures.value in
    let offered = offered-is c.args.plan.now entries findings number read c.index-tally.result.now c.first_clock-clock.result c.as_slice-4.result.now plan are read_found tally some clock (c.as_slice-4.ensures.value ∙ kept) in
    let late = are.delays.tells number read c.index.result.now read_found delay in
    let refused = refused-is c.args.plan.now entries findings number read c.index-tally.result.now plan are read_found tally in
    let keeping = c.keeps-keeps.ensures.test ∙ ap (keeps read.request.contract) (c.as_slice-3.ensures.value ∙ sym c.as_slice-4.ensures.value) in
    let line = established-is (departures_of entries) (reverse entries) read read c.as_slice-4.result.now c.keeps-keeps.result c.index.result.now c.index-tally.result.now.refused refl offered keeping late refused in
    c.in_ok-push_channel.ensures ∙ (ap (λ front. front ++ told_channel read.name (length c.as_slice-4.result.now) c.keeps-keeps.result c.index.result.now.delivered c.index.result.now.least c.index.result.now.worst c.index-tally.result.now.refused) c.new-line.ensures.bytes ∙ (line ∙ ap (established_line (departures_of entries) (reverse entries)) same))
