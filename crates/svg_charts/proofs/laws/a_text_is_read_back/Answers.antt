use Rattle.svg_charts.proofs.Escaping.{read-back}
use Rattle.svg_charts.proofs.laws.a_text_is_read_back.Goals as goal

pub returns : goal.returns
returns c = read-back
