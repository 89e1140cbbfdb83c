use Rattle.std.proofs.Common.{◌<◌, length, option_map, refl, sym, ◌∙◌, ap, arith}
use Rattle.std.proofs.lemmas.List.{length-map}
use Rattle.std.proofs.lemmas.Option.{slice_get_read}
use Rattle.call_script.specs.declared.entries.LinkEntry.{LinkEntry}
use Rattle.scenario_reader.specs.Drafts.{Said, link_named, shape_in}
use Rattle.scenario_reader.proofs.Finding.NamedByPlace.{link-at-place, no-link-there}
use Rattle.scenario_reader.proofs.draft.Draft.link_named.Goals as goal

pub returns-in_err-number : goal.returns-in_err-number
returns-in_err-number c =
    c.from_residual.ensures
    ∙ ap (option_map shape_in) (sym (no-link-there c.self.inside.links.items c.self.inside.link_names c.args.name.now c.self.invariant.1.same_links (c.in_err-number.ensures.place))
    ∙ ap (λ (s : Said). link_named s.links c.args.name.now) c.self.view_is)

pub returns : goal.returns
returns c =
    let items = c.self.inside.links.items in
    let here : c.in_ok-number.number < length c.self.inside.links.items =
    omega (arith, c.in_ok-number.ensures.within, ap length c.self.invariant.1.same_links, length-map c.self.inside.links.items (λ (e : LinkEntry). e.name)) in
    ap (option_map shape_in)
    (sym (slice_get_read items (length items) c.in_ok-number.number c.index.result.now refl here c.index.ensures)
    ∙ link-at-place items c.self.inside.link_names c.args.name.now c.in_ok-number.number c.self.invariant.1.same_links (c.in_ok-number.ensures.place)
    ∙ ap (λ (s : Said). link_named s.links c.args.name.now) c.self.view_is)
