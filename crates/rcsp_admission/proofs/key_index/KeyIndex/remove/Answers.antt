-- The place of the key is taken out, and each after it moves up.
use Rattle.std.proofs.Common.{Some, map, sym, ap, ◌∙◌, subst, arith}
use Rattle.std.proofs.lemmas.List.{with_items_is}
use Rattle.std.specs.List.{remove}
use Rattle.std.specs.Prelude.{nat_eq, option_map}
use Rattle.rcsp_admission.specs.Index.{place_in, place_after, moved_up, AreByKey, IsKeptAt, IsGapFor}
use Rattle.rcsp_admission.proofs.OnePlacePerKey.{gap-none, one-at, by-key-removed, by-key-moved, place-removed, place-moved, option-left}
use Rattle.rcsp_admission.proofs.key_index.KeyIndex.remove.Goals as goal
use Rattle.rcsp_admission.proofs.key_index.KeyIndex.remove.Goals.{After-move_up}

pub unreachable-requires : goal.unreachable-requires
unreachable-requires c =
    let none = gap-none 0 c.args.key c.args.self.now.places.items c.in_default.field-0 c.requires.sorted (subst (λ places. IsGapFor c.args.key places c.in_default.field-0) c.deref.ensures.value c.in_default.ensures.absent) in
    (let e = rw none at c.requires.held in cc)

-- the key's place is kept there
kept : (c : After-move_up) → IsKeptAt c.args.key c.args.self.now.places.items c.in-Ok.at
kept c = subst (λ places. IsKeptAt c.args.key places c.in-Ok.at) c.deref.ensures.value c.in-Ok.ensures.found

pub returns-clause-place : goal.returns-clause-place
returns-clause-place c =
    let is = kept (goal.at.returns-clause-place c).After-move_up in
    one-at 0 c.args.key c.args.self.now.places.items c.in-Ok.at c.remove-left.result c.requires.sorted is.inside (is.here c.remove-left.result) ∙ sym (ap (λ own. Some own.place) c.remove-left.ensures.value)

pub returns-clause-sorted : goal.returns-clause-sorted
returns-clause-sorted c =
    let left = c.remove-left.result.place in
    let items = with_items_is c.remove-left.new.self c.move_up.new.places (omega arith) ∙ c.move_up.ensures ∙ ap (map (moved_up left)) (c.deref_mut.ensures.value ∙ c.remove-left.ensures.items) in
    subst (AreByKey 0) (sym items) (by-key-moved 0 left (remove c.args.self.now.places.items c.in-Ok.at) (by-key-removed 0 c.args.self.now.places.items c.in-Ok.at c.requires.sorted))

pub returns-clause-each : goal.returns-clause-each
returns-clause-each c = λ other.
    let left = c.remove-left.result.place in
    let items = with_items_is c.remove-left.new.self c.move_up.new.places (omega arith) ∙ c.move_up.ensures ∙ ap (map (moved_up left)) (c.deref_mut.ensures.value ∙ c.remove-left.ensures.items) in
    ap (place_in other) items
    ∙ place-moved other left (remove c.args.self.now.places.items c.in-Ok.at)
    ∙ ap (option_map (place_after left)) (place-removed 0 c.args.key other c.args.self.now.places.items c.in-Ok.at c.requires.sorted (kept (goal.at.returns-clause-each c).After-move_up))
    ∙ option-left (nat_eq c.args.key other) (place_after left) (place_in other c.args.self.now.places.items)
