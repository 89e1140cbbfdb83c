-- The keys rise, so those below one come first.
use Rattle.std.proofs.Common.{◌≡◌, get_or, inl, inr, ap, ◌∙◌, arith, rules}
use Rattle.std.proofs.lemmas.Bool.{cases_lt, ltb-true, ltb-false}
use Rattle.std.proofs.lemmas.List.{get_or_default}
use Rattle.std.proofs.lemmas.List.Sorted.{IsPartitionPoint-from_clause}
use Rattle.std.specs.Prelude.{nat_lt}
use Rattle.rcsp_admission.proofs.OnePlacePerKey.{keys-part}
use Rattle.rcsp_admission.proofs.key_index.search.Goals as goal
use Rattle.rcsp_admission.proofs.key_index.search.Goals.{else-at-places-via-then-at-places+else-places-at, else-at-places-via-else-at-places}

pub returns-clause-absent : goal.returns-clause-absent
returns-clause-absent c =
    let xs = c.args.places.now in
    let at = c.partition_point-at.result in
    let point = IsPartitionPoint-from_clause (λ kept. nat_lt kept.key c.args.key) xs at c.partition_point-at.ensures.partitioned (keys-part 0 c.args.key xs c.requires) (λ a r q k. search rules) in
    record {
      within = c.partition_point-at.ensures.bound;
      below = λ k d before. ltb-true _ c.args.key (point.0 k d (omega arith) before);
      above = λ d inside.
          let reached = ltb-false _ c.args.key (point.1 at d (omega arith) inside) in
          elim c.else-at-places.branch [
            | else-at-places-via-then-at-places+else-places-at w ↦ (
                let own = get_or_default xs at (record { key = 0; place = 0 }) d inside in
                elim (cases_lt c.args.key (get_or xs at d).key) [
                  | inl above ↦ above
                  | inr within ↦ absurd (let same : (get_or xs at d).key ≡ c.args.key = omega (arith, reached, within) in w.if-places-at.false (ap (λ kept. kept.key) own ∙ same))
                ])
            | else-at-places-via-else-at-places w ↦ absurd (omega (arith, inside, w.if-at-places.false))
          ];
    }
