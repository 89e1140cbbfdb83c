use Rattle.std.proofs.Common.{◌∷◌, [], ◌++◌, ap, refl, ◌∙◌, string_bytes}
use Rattle.std.specs.Fmt.{decimal}
use Rattle.std.specs.List.{flat_map}
use Rattle.net_units.specs.Allotted.{levels_of}
use Rattle.channel_report.proofs.LinesByItem.{accepted-parts, on-ok}
use Rattle.channel_report.proofs.request_lines.push_accepted.Goals as goal

pub returns : goal.returns
returns c =
    let levels_text = flat_map (λ level. 32 ∷ decimal level) (levels_of c.args.levels.now) in
    on-ok c.writeln.result c.writeln.ensures.bytes (λ said.
    said ∙ ap (λ front. front ++ 10 ∷ []) (c.in_ok-push_levels.ensures ∙ ap (λ front. front ++ levels_text) c.in_ok-write.ensures.bytes)
    ∙ accepted-parts (string_bytes c.args.text.now) c.args.name levels_text c.args.delay (levels_of c.args.levels.now) refl)
