use Rattle.std.proofs.Common.{◌<◌, length, refl, sym, ◌∙◌, ap, arith}
use Rattle.std.proofs.lemmas.List.{length-map}
use Rattle.std.proofs.lemmas.Option.{slice_get_read}
use Rattle.call_script.specs.declared.entries.RequestEntry.{RequestEntry}
use Rattle.scenario_reader.specs.Drafts.{Said, request_named}
use Rattle.scenario_reader.proofs.Finding.NamedByPlace.{request-at-place, no-request-there}
use Rattle.scenario_reader.proofs.draft.Draft.request_named.Goals as goal

pub returns-in_err-number : goal.returns-in_err-number
returns-in_err-number c =
    c.from_residual.ensures
    ∙ sym (no-request-there c.self.inside.requests.items c.self.inside.request_names c.args.name.now c.self.invariant.1.same_requests (c.in_err-number.ensures.place))
    ∙ ap (λ (s : Said). request_named s.requests c.args.name.now) c.self.view_is

pub returns : goal.returns
returns c =
    let items = c.self.inside.requests.items in
    let here : c.in_ok-number.number < length c.self.inside.requests.items =
    omega (arith, c.in_ok-number.ensures.within, ap length c.self.invariant.1.same_requests, length-map c.self.inside.requests.items (λ (e : RequestEntry). e.name)) in
    sym (slice_get_read items (length items) c.in_ok-number.number c.index.result.now refl here c.index.ensures)
    ∙ request-at-place items c.self.inside.request_names c.args.name.now c.in_ok-number.number c.self.invariant.1.same_requests (c.in_ok-number.ensures.place)
    ∙ ap (λ (s : Said). request_named s.requests c.args.name.now) c.self.view_is
