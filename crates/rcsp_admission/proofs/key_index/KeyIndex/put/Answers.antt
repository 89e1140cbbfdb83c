-- None of the key is kept, and the new place stands where it would be.
use Rattle.std.proofs.Common.{◌≡◌, ℕ, Bool, true, false, List, if◌then◌else◌, is_ok, sym, ap, ◌∙◌, subst, arith}
use Rattle.std.proofs.lemmas.Bool.{false≢true}
use Rattle.std.specs.List.{insert}
use Rattle.rcsp_admission.specs.Index.{place_in, AreByKey, IsKeptAt, IsGapFor}
use Rattle.rcsp_admission.specs.declared.key_index.KeyPlace.{KeyPlace}
use Rattle.rcsp_admission.proofs.OnePlacePerKey.{one-at, by-key-inserted, place-inserted}
use Rattle.rcsp_admission.proofs.key_index.KeyIndex.put.Goals as goal
use Rattle.rcsp_admission.proofs.key_index.KeyIndex.put.Goals.{After-insert}

pub unreachable-requires : goal.unreachable-requires
unreachable-requires c =
    let kept = subst (λ places. IsKeptAt c.args.key places c.in_default.field-0) c.deref.ensures.value c.in_default.ensures.found in
    let at = one-at 0 c.args.key c.args.self.now.places.items c.in_default.field-0 (record { key = 0; place = 0 }) c.requires.sorted kept.inside (kept.here (record { key = 0; place = 0 })) in
    (let e = sym at ∙ c.requires.new in cc)

-- there is room for it
stands : (c : After-insert) → is_ok c.insert.result ≡ true
stands c = (let len = c.args.self.now.places.ok in c.insert.ensures.succeeds (omega (arith, len, c.requires.room)))

inserted : (b : Bool) (items xs : List KeyPlace) (i : ℕ) (new : KeyPlace) → items ≡ (if b then insert xs i new else xs) → b ≡ true → items ≡ insert xs i new
inserted true items xs i new is same = is
inserted false items xs i new is same = absurd (false≢true same)

pub returns-clause-sorted : goal.returns-clause-sorted
returns-clause-sorted c =
    let gap = subst (λ places. IsGapFor c.args.key places c.in-Err.at) c.deref.ensures.value c.in-Err.ensures.absent in
    subst (AreByKey 0) (sym (inserted _ _ _ _ _ c.insert.ensures.items (stands (goal.at.returns-clause-sorted c).After-insert))) (by-key-inserted 0 c.args.self.now.places.items c.in-Err.at _ c.requires.sorted (omega arith) gap)

pub returns-clause-each : goal.returns-clause-each
returns-clause-each c = λ other.
    ap (place_in other) (inserted _ _ _ _ _ c.insert.ensures.items (stands (goal.at.returns-clause-each c).After-insert))
    ∙ place-inserted other c.args.self.now.places.items c.in-Err.at (record { key = c.args.key; place = c.args.place }) c.requires.new
