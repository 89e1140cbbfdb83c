-- The running loads under a row more, a row less, and a row at another level.
use Rattle.std.proofs.Common.{◌≡◌, ℕ, ◌+◌, ◌-◌, ◌^◌, ◌<◌, ◌≤◌, ⊎_elim, IsTrue, Some, List, [], length, replicate, get_or, set, refl, sym, ap, ◌∙◌, subst, arith}
use Rattle.std.proofs.lemmas.Bool.{cases_eq}
use Rattle.std.proofs.lemmas.Grind.{get_or-set_at}
use Rattle.std.proofs.lemmas.List.{get_or-set_other, get_or-replicate}
use Rattle.net_units.proofs.BoundsInOrder.{bounds-parts}
use Rattle.net_units.specs.LevelBounds.{are_bounds, bound_at}
use Rattle.traffic_contract.specs.Admission.{Admitted, total, work_in}
use Rattle.traffic_contract.proofs.AdmissionTest.{work_up_to-within, work_up_to-above}
use Rattle.rcsp_admission.specs.Loads.{level_work, AreLoads, AreRaised}
use Rattle.std.specs.List.{find}
use Rattle.rcsp_admission.specs.Sums.{Held, Sums, admitted_rows, has_key, IsDistinct, AreAdmitted}
use Rattle.rcsp_admission.proofs.OneRowPerKey.{total-without}
use Rattle.rcsp_admission.proofs.StaysAdmitted.{work-small}

-- ---- one level after the other

-- the loads of the levels before place i have risen by the row, and the others haven't
pub record AreRaisedTo (rate : ℕ) (bounds : List ℕ) (row : Admitted) (before : List ℕ) (i : ℕ) (after : List ℕ) : Type 0 where
  pub raised : (k : ℕ) → k < i → get_or after k 0 ≡ get_or before k 0 + level_work rate bounds (k + 1) row
  pub same : (k : ℕ) → i ≤ k → get_or after k 0 ≡ get_or before k 0

-- the same where they have fallen
pub record AreLoweredTo (rate : ℕ) (bounds : List ℕ) (row : Admitted) (before : List ℕ) (i : ℕ) (after : List ℕ) : Type 0 where
  pub lowered : (k : ℕ) → k < i → get_or after k 0 + level_work rate bounds (k + 1) row ≡ get_or before k 0
  pub same : (k : ℕ) → i ≤ k → get_or after k 0 ≡ get_or before k 0

-- a row adds nothing before its level
nothing-before : (rate : ℕ) (bounds : List ℕ) (row : Admitted) (k : ℕ) → k + 1 < row.level → level_work rate bounds (k + 1) row ≡ 0
nothing-before rate bounds row k below = work_up_to-above rate (k + 1) (bound_at bounds (k + 1)) row below

-- and the work of its contract from there on
work-from : (rate : ℕ) (bounds : List ℕ) (row : Admitted) (k : ℕ) → row.level ≤ k + 1 → level_work rate bounds (k + 1) row ≡ work_in rate row.contract (bound_at bounds (k + 1))
work-from rate bounds row k from = work_up_to-within rate (k + 1) (bound_at bounds (k + 1)) row from

pub work-at : (rate : ℕ) (bounds : List ℕ) (row : Admitted) (k window work : ℕ) → row.level ≤ k + 1 → window ≡ bound_at bounds (k + 1) → work ≡ work_in rate row.contract window → work ≡ level_work rate bounds (k + 1) row
work-at rate bounds row k window work from same is = is ∙ ap (work_in rate row.contract) same ∙ sym (work-from rate bounds row k from)

pub raised-begins : (rate : ℕ) (bounds : List ℕ) (row : Admitted) (loads : List ℕ) (i : ℕ) → i < row.level → AreRaisedTo rate bounds row loads i loads
raised-begins rate bounds row loads i below = record {
  raised = λ k before. (let none = nothing-before rate bounds row k (omega arith) in omega (arith, none));
  same = λ k from. refl;
}

pub lowered-begins : (rate : ℕ) (bounds : List ℕ) (row : Admitted) (loads : List ℕ) (i : ℕ) → i < row.level → AreLoweredTo rate bounds row loads i loads
lowered-begins rate bounds row loads i below = record {
  lowered = λ k before. (let none = nothing-before rate bounds row k (omega arith) in omega (arith, none));
  same = λ k from. refl;
}

pub raised-one : (rate : ℕ) (bounds : List ℕ) (row : Admitted) (before loads : List ℕ) (i new : ℕ) → AreRaisedTo rate bounds row before i loads → i < length loads → new ≡ get_or loads i 0 + level_work rate bounds (i + 1) row → AreRaisedTo rate bounds row before (i + 1) (set loads i new)
raised-one rate bounds row before loads i new so_far inside is = record {
  raised = λ k upto.
      ⊎_elim (λ (here : k ≡ i).
      let at = get_or-set_at loads i i new 0 refl inside in
      let was = so_far.same i (omega arith) in
      rw here (omega (arith, at, was, is)))
      (λ (other : k ≡ i → ⊥). (let at = get_or-set_other loads i k new 0 other in let was = so_far.raised k (omega (arith, upto, other)) in omega (arith, at, was)))
      (cases_eq k i);
  same = λ k from. (let at = get_or-set_other loads i k new 0 (λ e. omega (arith, e, from)) in let was = so_far.same k (omega (arith, from)) in omega (arith, at, was));
}

pub lowered-one : (rate : ℕ) (bounds : List ℕ) (row : Admitted) (before loads : List ℕ) (i new : ℕ) → AreLoweredTo rate bounds row before i loads → i < length loads → new + level_work rate bounds (i + 1) row ≡ get_or loads i 0 → AreLoweredTo rate bounds row before (i + 1) (set loads i new)
lowered-one rate bounds row before loads i new so_far inside is = record {
  lowered = λ k upto.
      ⊎_elim (λ (here : k ≡ i).
      let at = get_or-set_at loads i i new 0 refl inside in
      let was = so_far.same i (omega arith) in
      rw here (omega (arith, at, was, is)))
      (λ (other : k ≡ i → ⊥). (let at = get_or-set_other loads i k new 0 other in let was = so_far.lowered k (omega (arith, upto, other)) in omega (arith, at, was)))
      (cases_eq k i);
  same = λ k from. (let at = get_or-set_other loads i k new 0 (λ e. omega (arith, e, from)) in let was = so_far.same k (omega (arith, from)) in omega (arith, at, was));
}

-- ---- the loads of the rows

pub loads-added : (rate : ℕ) (bounds : List ℕ) (rows more : List Admitted) (row : Admitted) (before after : List ℕ) → AreLoads rate bounds rows before → AreRaised rate bounds row before after → ((f : Admitted → ℕ) → total f more ≡ total f rows + f row) → AreLoads rate bounds more after
loads-added rate bounds rows more row before after loads raised sum i inside =
    omega (arith, loads i inside, raised i inside, sum (level_work rate bounds (i + 1)))

pub loads-taken : (rate : ℕ) (bounds : List ℕ) (rows fewer : List Admitted) (row : Admitted) (before after : List ℕ) → AreLoads rate bounds rows before → AreRaised rate bounds row after before → ((f : Admitted → ℕ) → total f fewer + f row ≡ total f rows) → AreLoads rate bounds fewer after
loads-taken rate bounds rows fewer row before after loads raised sum i inside =
    omega (arith, loads i inside, raised i inside, sum (level_work rate bounds (i + 1)))

-- the row is taken out, and put back at another level
pub loads-moved : (rate : ℕ) (bounds : List ℕ) (rows others : List Admitted) (row moved : Admitted) (before between after : List ℕ) → AreLoads rate bounds rows before → AreRaised rate bounds row between before → AreRaised rate bounds moved between after → ((f : Admitted → ℕ) → total f others + f row ≡ total f rows + f moved) → AreLoads rate bounds others after
loads-moved rate bounds rows others row moved before between after loads lowered raised sum i inside =
    omega (arith, loads i inside, lowered i inside, raised i inside, sum (level_work rate bounds (i + 1)))

-- no rows have no load
pub loads-none : (rate : ℕ) (bounds : List ℕ) (rows : List Admitted) → rows ≡ [] → IsTrue (are_bounds bounds) → AreLoads rate bounds rows (replicate 8 0)
loads-none rate bounds rows none valid i inside =
    let most = (bounds-parts bounds valid).most in
    rw none (get_or-replicate 8 i 0 0 (omega (arith, inside, most)))

-- the load of a level, by its number
pub load-at : (rate : ℕ) (bounds : List ℕ) (rows : List Admitted) (loads : List ℕ) (m : ℕ) → AreLoads rate bounds rows loads → 1 ≤ m → m ≤ length bounds → get_or loads (m - 1) 0 ≡ total (level_work rate bounds m) rows
load-at rate bounds rows loads m loaded from upto =
    subst (λ n. get_or loads (m - 1) 0 ≡ total (level_work rate bounds n) rows) (omega arith) (loaded (m - 1) (omega arith))

-- the loads of rows that pass are no large numbers
pub load-small : (sums : Sums) (loads : List ℕ) (i : ℕ) → AreAdmitted sums → AreLoads sums.server.rate sums.server.bounds (admitted_rows sums.rows) loads → i < length sums.server.bounds → get_or loads i 0 < 2 ^ 60
load-small sums loads i admitted loaded inside =
    let bound = ((bounds-parts sums.server.bounds admitted.server.bounds).each i inside).1 in
    let same : bound_at sums.server.bounds (i + 1) ≡ get_or sums.server.bounds i 0 = ap (λ k. get_or sums.server.bounds k 0) (omega arith) in
    let small = work-small sums (i + 1) (bound_at sums.server.bounds (i + 1)) admitted (omega arith) (omega (arith, inside)) (omega (arith, bound, same)) in
    omega (arith, loaded i inside, small)

-- a row that is held has no larger part than the load
pub part-of-load : (rate : ℕ) (bounds : List ℕ) (rows : List Held) (loads : List ℕ) (key : ℕ) (found : Held) → IsDistinct rows → find (has_key key) rows ≡ Some found → AreLoads rate bounds (admitted_rows rows) loads → (i : ℕ) → i < length bounds → level_work rate bounds (i + 1) found.row ≤ get_or loads i 0
part-of-load rate bounds rows loads key found distinct at loaded i inside =
    let parts = total-without (level_work rate bounds (i + 1)) rows key found distinct at in
    omega (arith, parts, loaded i inside)
