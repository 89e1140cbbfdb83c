use Rattle.std.proofs.Common.{◌≡◌, refl, sym, ap, ◌∙◌}
use Rattle.std.proofs.lemmas.Option.{same_Some}
use Rattle.std.specs.List.{slice_get}
use Rattle.net_units.specs.Numbers.{channel_number}
use Rattle.call_script.specs.declared.entries.RequestEntry.{RequestEntry}
use Rattle.run_engine.proofs.Keeping.Lookups.{found-at}
use Rattle.channel_report.specs.Sources.{first_link}
use Rattle.channel_report.proofs.ChannelTallies.{first-at}
use Rattle.channel_report.proofs.counts.source_of.Goals as goal

pub returns-then-get-clause-own : goal.returns-then-get-clause-own
returns-then-get-clause-own c = (c.in_ok-chan.chan, (sym c.in_ok-chan.ensures, sym c.get-place.ensures.value))

pub returns-then-get-clause-first : goal.returns-then-get-clause-first
returns-then-get-clause-first c = λ entry found.
    let at = c.in_ok-entry.ensures.lookup in
    let here = found-at c.requests.result.now c.args.plan.now.requests c.get-place.result c.get-place.result c.in_ok-entry.entry.now c.requests.ensures.value refl at.3.0 at.1 in
    let same : entry ≡ c.in_ok-entry.entry.now = same_Some entry c.in_ok-entry.entry.now (sym found ∙ here) in
    ap (λ (e : RequestEntry). first_link e.request.route) same ∙ first-at c.in_ok-entry.entry.now.request.route c.hop.result c.hop.ensures.value ∙ (sym c.get-2.ensures.value ∙ (c.if-get.true ∙ c.get-3.ensures.value))

pub returns-else-get-clause-none : goal.returns-else-get-clause-none
returns-else-get-clause-none c = λ n entry chan found on of own.
    let at = c.in_ok-entry.ensures.lookup in
    let here = found-at c.requests.result.now c.args.plan.now.requests c.get-place.result c.get-place.result c.in_ok-entry.entry.now c.requests.ensures.value refl at.3.0 at.1 in
    let chans : chan ≡ c.in_ok-chan.chan = same_Some chan c.in_ok-chan.chan (sym of ∙ sym c.in_ok-chan.ensures) in
    let place : n ≡ c.get-place.result = sym own ∙ (ap channel_number chans ∙ sym c.get-place.ensures.value) in
    let same : entry ≡ c.in_ok-entry.entry.now = same_Some entry c.in_ok-entry.entry.now (sym found ∙ (ap (slice_get c.args.plan.now.requests) place ∙ here)) in
    c.if-get.false (c.get-2.ensures.value ∙ (sym (first-at c.in_ok-entry.entry.now.request.route c.hop.result c.hop.ensures.value) ∙ (sym (ap (λ (e : RequestEntry). first_link e.request.route) same) ∙ (on ∙ sym c.get-3.ensures.value))))
