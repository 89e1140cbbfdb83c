use Rattle.std.proofs.Common.{length, refl, sym, ◌∙◌}
use Rattle.std.proofs.lemmas.Option.{slice_get_read}
use Rattle.scenario_reader.proofs.Finding.NodesByNumber.{named-same}
use Rattle.design_file.proofs.LinksOneByOne.{number-at}
use Rattle.design_file.proofs.ways.hop_over.Goals as goal

pub returns-then-eq : goal.returns-then-eq
returns-then-eq c = record {
  entry = c.entry-item.result;
  found =
      number-at c.args.links.now c.loop-entry.entry-index c.entry-item.result c.requires
      (slice_get_read c.args.links.now (length c.args.links.now) c.loop-entry.entry-index c.entry-item.result refl c.loop-entry-test.true c.entry-item.is);
  named = named-same c.args.name.now c.entry-item.result.name (sym c.eq.ensures ∙ c.if-eq.true);
  bounds = refl;
  prop = refl;
}
