-- What is kept of the key tells its place, and where nothing is kept there is none.
use Rattle.std.proofs.Common.{Some, sym, ap, ◌∙◌, subst}
use Rattle.rcsp_admission.specs.Index.{IsKeptAt, IsGapFor}
use Rattle.rcsp_admission.proofs.OnePlacePerKey.{gap-none, one-at}
use Rattle.rcsp_admission.proofs.key_index.KeyIndex.place.Goals as goal

pub returns-in-Ok : goal.returns-in-Ok
returns-in-Ok c =
    let kept = subst (λ places. IsKeptAt c.args.key places c.in-Ok.at) c.deref.ensures.value c.in-Ok.ensures.found in
    ap (λ own. Some own.place) c.index.ensures ∙ sym (one-at 0 c.args.key c.args.self.now.places.items c.in-Ok.at c.index.result.now c.requires kept.inside (kept.here c.index.result.now))

pub returns-in-Err : goal.returns-in-Err
returns-in-Err c =
    sym (gap-none 0 c.args.key c.args.self.now.places.items c.in-Err.field-0 c.requires (subst (λ places. IsGapFor c.args.key places c.in-Err.field-0) c.deref.ensures.value c.in-Err.ensures.absent))
