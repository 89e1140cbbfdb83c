-- The row at the key's place tells its level, and a key without a place has no row.
use Rattle.std.proofs.Common.{map, sym, ap, ◌∙◌, subst, arith}
use Rattle.std.specs.List.{find}
use Rattle.std.specs.Prelude.{option_map}
use Rattle.net_units.specs.Numbers.{level_number}
use Rattle.rcsp_admission.specs.Sums.{Holds, HoldsUpTo, has_key, level_held}
use Rattle.rcsp_admission.specs.Kept.{held_of}
use Rattle.rcsp_admission.proofs.OneRowPerKey.{held-at}
use Rattle.rcsp_admission.proofs.IndexFollowsRows.{index-unfound, index-unheld, index-inside, index-found, index-upto}
use Rattle.rcsp_admission.proofs.level_sums.LevelSums.level_of.Goals as goal

pub returns-in_err-place-clause-level : goal.returns-in_err-place-clause-level
returns-in_err-place-clause-level c =
    let none = index-unfound (map held_of c.self.inside.rows.items) c.self.inside.index.places.items c.args.key c.self.invariant.places.index (sym c.place.ensures ∙ c.in_err-place.was) in
    ap (option_map level_number) c.from_residual.ensures ∙ sym (ap (option_map level_held) (ap (λ s. find (has_key c.args.key) s.rows) (sym c.self.view_is) ∙ none))

pub returns-in_err-place-clause-new : goal.returns-in_err-place-clause-new
returns-in_err-place-clause-new c =
    rw c.from_residual.ensures (λ held. index-unheld (map held_of c.self.inside.rows.items) c.self.inside.index.places.items c.args.key c.self.invariant.places.index (sym c.place.ensures ∙ c.in_err-place.was)
    (subst (λ rows. Holds rows c.args.key) (sym (ap (λ s. s.rows) c.self.view_is)) held))

pub index-requires : goal.index-requires
index-requires c =
    let inside = index-inside c.self.inside.rows.items c.self.inside.index.places.items c.args.key c.in_ok-place.place c.self.invariant.places.index (sym c.place.ensures ∙ c.in_ok-place.was) in
    omega (arith, inside, c.self.inside.rows.ok)

pub returns-clause-level : goal.returns-clause-level
returns-clause-level c =
    let found = index-found c.self.inside.rows.items c.self.inside.index.places.items c.args.key c.in_ok-place.place c.index.result.now c.self.invariant.admitted.distinct c.self.invariant.places.index (sym c.place.ensures ∙ c.in_ok-place.was) c.index.ensures in
    sym (ap (option_map level_held) (ap (λ s. find (has_key c.args.key) s.rows) (sym c.self.view_is) ∙ found))

pub returns-clause-larger : goal.returns-clause-larger
returns-clause-larger c = λ m from.
    subst (λ rows. HoldsUpTo rows c.args.key m) (ap (λ s. s.rows) c.self.view_is)
    (index-upto c.self.inside.rows.items c.self.inside.index.places.items c.args.key c.in_ok-place.place c.index.result.now m c.self.invariant.places.index (sym c.place.ensures ∙ c.in_ok-place.was) c.index.ensures from)

pub returns-clause-held : goal.returns-clause-held
returns-clause-held c = held-at c.args.self.now.rows c.args.key (level_number c.index.result.now.level) (returns-clause-larger c (level_number c.index.result.now.level) (omega arith))
