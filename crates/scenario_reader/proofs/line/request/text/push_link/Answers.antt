-- A link that isn't there adds nothing.
use Rattle.std.proofs.Common.{◌≤◌, length, sym, arith}
use Rattle.std.proofs.lemmas.List.{append-nil}
use Rattle.std.proofs.lemmas.Option.{slice_get_past}
use Rattle.net_units.specs.Numbers.{link_number}
use Rattle.scenario_reader.proofs.line.request.text.push_link.Goals as goal

pub returns-in-None : goal.returns-in-None
returns-in-None c =
    let past : length c.args.links.now ≤ link_number c.args.link = omega (arith, c.get.ensures.value, c.from-number.ensures, c.in-None.ensures.lookup.3) in
    rw (slice_get_past c.args.links.now (link_number c.args.link) past) (sym (append-nil c.args.values.now))
