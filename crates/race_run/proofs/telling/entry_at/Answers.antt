use Rattle.std.proofs.Common.{◌<◌, length, refl, sym, ap, ◌∙◌, subst}
use Rattle.std.proofs.lemmas.Option.{slice_get_read}
use Rattle.std.specs.List.{slice_get}
use Rattle.race_run.proofs.telling.entry_at.Goals as goal

pub returns-clause-here : goal.returns-clause-here
returns-clause-here c =
    ap (λ es. slice_get es c.args.at) (sym c.as_slice.ensures)
    ∙ slice_get_read c.as_slice.result.now (length c.as_slice.result.now) c.args.at c.index-as_slice-at.result refl (subst (λ es. c.args.at < length es) (sym c.as_slice.ensures) c.requires) c.index-as_slice-at.is
