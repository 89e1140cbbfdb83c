use Rattle.std.proofs.Common.{◌<◌, length, refl, sym, ◌∙◌, ap, arith}
use Rattle.std.proofs.lemmas.List.{length-map}
use Rattle.std.proofs.lemmas.Option.{slice_get_read}
use Rattle.call_script.specs.declared.entries.RequestEntry.{RequestEntry}
use Rattle.scenario_reader.specs.AuditLines.{channel_in}
use Rattle.scenario_reader.specs.Drafts.{Said}
use Rattle.scenario_reader.proofs.Auditing.AuditKeeps.{channel-none, channel-some}
use Rattle.scenario_reader.proofs.Finding.NamedByPlace.{request-at-place, no-request-there}
use Rattle.scenario_reader.proofs.draft.Draft.channel_in.Goals as goal

pub returns-in_err-number : goal.returns-in_err-number
returns-in_err-number c =
    let items = c.self.inside.requests.items in
    let none = no-request-there c.self.inside.requests.items c.self.inside.request_names c.in_ok-name.name c.self.invariant.1.same_requests c.in_err-number.ensures.place in
    c.from_residual-in_err-number.ensures
    ∙ sym (channel-none items c.args.field.now c.in_ok-name.name c.name.result c.name.ensures (sym c.ok.ensures.value ∙ c.in_ok-name.was) none)
    ∙ ap (λ (s : Said). channel_in s.requests c.args.field.now) c.self.view_is

pub returns : goal.returns
returns c =
    let items = c.self.inside.requests.items in
    let here : c.in_ok-number.number < length c.self.inside.requests.items =
    omega (arith, c.in_ok-number.ensures.within, ap length c.self.invariant.1.same_requests, length-map c.self.inside.requests.items (λ (e : RequestEntry). e.name)) in
    let found = sym (request-at-place items c.self.inside.request_names c.in_ok-name.name c.in_ok-number.number c.self.invariant.1.same_requests (c.in_ok-number.ensures.place))
    ∙ slice_get_read items (length items) c.in_ok-number.number c.index.result.now refl here c.index.ensures in
    sym (channel-some items c.args.field.now c.in_ok-name.name c.name.result c.index.result.now c.name.ensures (sym c.ok.ensures.value ∙ c.in_ok-name.was) found)
    ∙ ap (λ (s : Said). channel_in s.requests c.args.field.now) c.self.view_is
