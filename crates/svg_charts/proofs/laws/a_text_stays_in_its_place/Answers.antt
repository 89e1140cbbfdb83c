use Rattle.svg_charts.proofs.Escaping.{inert}
use Rattle.svg_charts.proofs.laws.a_text_stays_in_its_place.Goals as goal

pub returns : goal.returns
returns c = inert
