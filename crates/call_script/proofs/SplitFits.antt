-- The splits of a plan's links fit them.
use Rattle.std.proofs.Common.{◌≡◌, ℕ, zero, suc, ◌<◌, ◌≤◌, Bool, true, false, Some, List, [], ◌∷◌, ◌++◌, length, take, get_or, refl, sym, ap, ◌∙◌, append_assoc, nat_eq, arith}
use Rattle.std.proofs.lemmas.Bool.{leb-true, and_parts, eqb-false, not-true}
use Rattle.std.proofs.lemmas.List.{append-nil}
use Rattle.std.specs.Prelude.{nat_le, ◌||◌}
use Rattle.std.specs.List.{All, AllPairs, list_all, list_any, slice_get}
use Rattle.link_steps.proofs.LegalAdmissible.{whole-fits}
use Rattle.link_steps.specs.Room.{all_from}
use Rattle.link_steps.proofs.ListParts.{Each-at}
use Rattle.link_steps.specs.Split.{SplitFits, IsOfGroup, AreOfOtherGroups, AreQuotas, buffer_part}
use Rattle.link_steps.specs.declared.quota.Quota.{Quota}
use Rattle.link_steps.proofs.TestsInTurn.{all_from-each}
use Rattle.traffic_contract.specs.Admission.{total}
use Rattle.call_script.specs.Groups.{is_of_new_group, have_own_groups, quota_is_there, level_fits, quotas_fit}
use Rattle.call_script.specs.Parts.{PlanParts}
use Rattle.call_script.specs.Plans.{IsPlan}
use Rattle.call_script.specs.Rules.{each_after}
use Rattle.call_script.specs.Splits.{split_by, entry_link}
use Rattle.call_script.specs.declared.entries.LinkEntry.{LinkEntry}
use Rattle.call_script.proofs.RulesAreKept.{each-of, keeps-rules}

-- ---- quotas of different groups

-- each element passes beside those before it
passes-after : (above quotas : List Quota) (k : ℕ) (d : Quota) → each_after is_of_new_group above quotas ≡ true → k < length quotas → is_of_new_group (above ++ take k quotas) (get_or quotas k d) ≡ true
unfolding each_after
passes-after above [] k d own inside = absurd (omega (arith, inside))
passes-after above (quota ∷ quotas) zero d own inside =
    let both = and_parts (is_of_new_group above quota) (each_after is_of_new_group (above ++ quota ∷ []) quotas) own in
    ap (λ (xs : List Quota). is_of_new_group xs quota) (append-nil above) ∙ both.0
passes-after above (quota ∷ quotas) (suc k) d own inside =
    let both = and_parts (is_of_new_group above quota) (each_after is_of_new_group (above ++ quota ∷ []) quotas) own in
    ap (λ (xs : List Quota). is_of_new_group xs (get_or quotas k d)) (sym (append_assoc above (quota ∷ []) (take k quotas)))
    ∙ passes-after (above ++ quota ∷ []) quotas k d both.1 (omega (arith, inside))

-- none of the first passes a test that none of them passes
none-of : (test : Quota → Bool) (quotas : List Quota) (i j : ℕ) (d : Quota) → i < j → j ≤ length quotas → list_any test (take j quotas) ≡ false → test (get_or quotas i d) ≡ false
none-of test [] i j d before inside none = absurd (omega (arith, before, inside))
none-of test (quota ∷ quotas) i zero d before inside none = absurd (omega (arith, before))
none-of test (quota ∷ quotas) zero (suc j) d before inside none = first (test quota) (list_any test (take j quotas)) none where
  first : (a b : Bool) → (a || b) ≡ false → a ≡ false
  first true b fails = cc
  first false b holds = refl
none-of test (quota ∷ quotas) (suc i) (suc j) d before inside none = none-of test quotas i j d (omega (arith, before)) (omega (arith, inside)) (rest (test quota) (list_any test (take j quotas)) none) where
  rest : (a b : Bool) → (a || b) ≡ false → b ≡ false
  rest true b fails = cc
  rest false b holds = holds

own-apart : (quotas : List Quota) → have_own_groups quotas ≡ true → AllPairs AreOfOtherGroups quotas
own-apart quotas own i j d before inside =
    let new = passes-after [] quotas j d own (omega (arith, inside)) in
    let none = not-true (list_any (λ (quota : Quota). nat_eq quota.group (get_or quotas j d).group) (take j quotas)) new in
    eqb-false (get_or quotas i d).group (get_or quotas j d).group (none-of (λ (quota : Quota). nat_eq quota.group (get_or quotas j d).group) quotas i j d (omega (arith, before)) (omega (arith, inside)) none)

-- ---- groups that are there

there-at : (groups : List (List ℕ)) (quotas : List Quota) (k : ℕ) (d : Quota) → list_all (quota_is_there groups) quotas ≡ true → k < length quotas → quota_is_there groups (get_or quotas k d) ≡ true
there-at groups [] k d there inside = absurd (omega (arith, inside))
there-at groups (quota ∷ quotas) zero d there inside = (and_parts (quota_is_there groups quota) (list_all (quota_is_there groups) quotas) there).0
there-at groups (quota ∷ quotas) (suc k) d there inside = there-at groups quotas k d (and_parts (quota_is_there groups quota) (list_all (quota_is_there groups) quotas) there).1 (omega (arith, inside))

of-groups : (groups : List (List ℕ)) (quotas : List Quota) → length groups ≤ 4 → list_all (quota_is_there groups) quotas ≡ true → All IsOfGroup quotas
of-groups groups quotas few there k d inside =
    let at = and_parts (nat_le 1 (get_or quotas k d).group) (nat_le (get_or quotas k d).group (length groups)) (there-at groups quotas k d there inside) in
    let from : 1 ≤ (get_or quotas k d).group = leb-true 1 (get_or quotas k d).group at.0 in
    let upto : (get_or quotas k d).group ≤ length groups = leb-true (get_or quotas k d).group (length groups) at.1 in
    (from, omega (arith, upto, few))

-- ---- the quotas of a link of a plan

pub entry-quotas : (parts : PlanParts) (n : ℕ) (entry : LinkEntry) → IsPlan parts → slice_get parts.links n ≡ Some entry → AreQuotas entry.shape.bounds entry.quotas
entry-quotas parts n entry plan found =
    let keep = (keeps-rules parts plan.kept).groups in
    let own = Each-at (λ (e : LinkEntry). have_own_groups e.quotas ≡ true) parts.links n entry (each-of (λ (e : LinkEntry). have_own_groups e.quotas) parts.links keep.own) found in
    record { apart = own-apart entry.quotas own; unused = plan.planned.unused n entry found }

-- ---- the split of a link

pub entry-fits : (names : List (List ℕ)) (groups : List ℕ) (entry : LinkEntry) → length names ≤ 4 → have_own_groups entry.quotas ≡ true → list_all (quota_is_there names) entry.quotas ≡ true → quotas_fit entry.shape entry.quotas ≡ true → SplitFits (entry_link groups entry)
entry-fits names groups entry few own there fit = by entry.quotas own there fit where
  by : (quotas : List Quota) → have_own_groups quotas ≡ true → list_all (quota_is_there names) quotas ≡ true → quotas_fit entry.shape quotas ≡ true → SplitFits (record { shape = entry.shape; split = split_by groups quotas })
  by [] own there fit = whole-fits entry.shape
  by (quota ∷ quotas) own there fit =
      let parts = and_parts (all_from (level_fits entry.shape (quota ∷ quotas)) 1 (length entry.shape.bounds)) (nat_le (total buffer_part (quota ∷ quotas)) entry.shape.buffer) fit in
      record {
        groups = of-groups names (quota ∷ quotas) few there;
        apart = own-apart (quota ∷ quotas) own;
        levels = λ m from upto. leb-true _ _ (all_from-each (level_fits entry.shape (quota ∷ quotas)) 1 (length entry.shape.bounds) parts.0 m from (omega (arith, upto)));
        buffer = leb-true _ _ parts.1;
      }
