-- What is kept of a link stays admitted through each change.
use Rattle.std.proofs.Common.{◌≡◌, ◌≢◌, ℕ, ◌-◌, ◌^◌, ◌<◌, ◌≤◌, ⊎_elim, true, false, cond, List, [], length, map, get_or, refl, sym, ap, ◌∙◌, subst, arith}
use Rattle.std.proofs.lemmas.Bool.{eqb-true, cases_order, cases_Bool}
use Rattle.std.proofs.lemmas.List.{map_push, length-map, get_or-map, get_or_default}
use Rattle.std.proofs.lemmas.List.Quantifiers.{all_pairs_push}
use Rattle.std.proofs.lemmas.List.Kept.{AllPairs-filter}
use Rattle.std.proofs.lemmas.List.Elements.{Contains-push_cases, All-nil, All-push, All-map, All-filter}
use Rattle.std.specs.List.{All}
use Rattle.std.specs.Prelude.{Contains}
use Rattle.net_units.specs.LevelBounds.{bound_at}
use Rattle.net_units.proofs.BoundsInOrder.{bounds-parts, bound-least, bound_at-rising}
use Rattle.traffic_contract.specs.Contract.{Traffic, IsContract}
use Rattle.traffic_contract.specs.Admission.{total, work_up_to, load, Passes, with_row}
use Rattle.traffic_contract.proofs.AdmissionTest.{window-of, counts-within, Passes-nil, Passes-kept, Passes-changed}
use Rattle.traffic_contract.proofs.LoadLimits.{HasContract, total-most}
use Rattle.rcsp_admission.specs.Sums.{Held, Sums, admitted_row, key_of, admitted_rows, row_held, has_key, Holds, HoldsUpTo, added, put_at, move_row, moved, has_other_key, without_key, IsDistinct, IsServer, HoldsContract, AreAdmitted}

-- ---- a link without rows

-- the blocking is at most the first bound, and so at most each
pub AreAdmitted-new : (sums : Sums) → IsServer sums.server → sums.rows ≡ [] → AreAdmitted sums
AreAdmitted-new sums server none = record {
  server = server;
  contracts = rw none (All-nil HoldsContract);
  passes = rw none (Passes-nil sums.server server.blocking (λ m from upto. omega (arith, server.first, bound_at-rising sums.server.bounds 1 m server.bounds (omega arith) from upto)));
  distinct = rw none (record { apart = λ i j d h inside. absurd (omega arith) });
}

-- ---- a row more

-- a key that isn't held differs from each that is
pub keys-differ : (rows : List Held) (key : ℕ) → (Holds rows key → ⊥) → (k : ℕ) (d : Held) → k < length rows → (get_or rows k d).key ≢ key
keys-differ rows key new k d inside same =
    new (k, omega (arith, length-map rows key_of), get_or-map key_of rows k d key inside ∙ same)

pub AreAdmitted-added : (before after : Sums) (key : ℕ) (contract : Traffic) (level : ℕ) → AreAdmitted before → (Holds before.rows key → ⊥) → IsContract contract → Passes before.server (with_row (admitted_rows before.rows) contract level) → after.server ≡ before.server → after.rows ≡ added before.rows key contract level → AreAdmitted after
AreAdmitted-added before after key contract level held new valid passed same rows = record {
  server = rw same held.server;
  contracts = rw rows (All-push HoldsContract before.rows (row_held key contract level) held.contracts valid);
  passes = rw (same, rows, map_push admitted_row before.rows (row_held key contract level)) passed;
  distinct = rw rows (record { apart = all_pairs_push (λ one other. one.key ≢ other.key) before.rows (row_held key contract level) held.distinct.apart (keys-differ before.rows key new) });
}

-- ---- a row at another level

move_row-key : (key level : ℕ) (held : Held) → (move_row key level held).key ≡ held.key
move_row-key key level held = elim (has_key key held) as (λ b. (cond b (put_at level held) held).key ≡ held.key) [ true ↦ refl | false ↦ refl ]

-- a row that has the key only at a level up to this one isn't moved down
move_row-up : (key level : ℕ) (held : Held) → (held.key ≡ key → held.row.level ≤ level) → ((admitted_row (move_row key level held)).contract ≡ (admitted_row held).contract) × ((admitted_row held).level ≤ (admitted_row (move_row key level held)).level)
move_row-up key level held up =
    ⊎_elim (λ (mine : has_key key held ≡ true). (rw mine (refl, up (eqb-true held.key key mine))))
    (λ (other : has_key key held ≡ false). (rw other (refl, omega arith)))
    (cases_Bool (has_key key held))

-- where keys differ, the row of the key is the one that is at the level or below it
all-up : (rows : List Held) (key level : ℕ) → IsDistinct rows → HoldsUpTo rows key level → (k : ℕ) (d : Held) → k < length rows → (get_or rows k d).key ≡ key → (get_or rows k d).row.level ≤ level
all-up rows key level distinct (j, held, inside_j, at_j, found) k d inside_k same =
    let there : get_or rows j d ≡ held = get_or_default rows j d held inside_j ∙ at_j in
    let its_key : (get_or rows j d).key ≡ key = ap key_of there ∙ found.0 in
    ⊎_elim (λ (e : k ≡ j). (rw (e, there) found.1))
    (λ other. ⊎_elim (λ (before : k < j). absurd (distinct.apart k j d before inside_j (same ∙ sym its_key)))
    (λ (after : j < k). absurd (distinct.apart j k d after inside_k (its_key ∙ sym same))) other)
    (cases_order k j)

-- keys stay apart where rows move
IsDistinct-moved : (rows : List Held) (key level : ℕ) → IsDistinct rows → IsDistinct (moved rows key level)
IsDistinct-moved rows key level distinct = record {
  apart = λ i j d before inside.
      let n : length (moved rows key level) ≡ length rows = length-map rows (move_row key level) in
      let at : (k : ℕ) → k < length rows → (get_or (moved rows key level) k d).key ≡ (get_or rows k d).key = λ k h. ap key_of (get_or-map (move_row key level) rows k d d h) ∙ move_row-key key level (get_or rows k d) in
      λ same. distinct.apart i j d before (omega arith) (sym (at i (omega arith)) ∙ same ∙ at j (omega arith));
}

-- and rows keep their contracts
contracts-moved : (rows : List Held) (key level : ℕ) → All HoldsContract rows → All HoldsContract (moved rows key level)
contracts-moved rows key level contracts = All-map HoldsContract (move_row key level) rows (λ k d inside. kept (get_or rows k d) (contracts k d inside)) where
  kept : (held : Held) → HoldsContract held → HoldsContract (move_row key level held)
  kept held is = elim (has_key key held) as (λ b. HoldsContract (cond b (put_at level held) held)) [ true ↦ is | false ↦ is ]

pub AreAdmitted-moved : (before after : Sums) (key level : ℕ) → AreAdmitted before → HoldsUpTo before.rows key level → after.server ≡ before.server → after.rows ≡ moved before.rows key level → AreAdmitted after
AreAdmitted-moved before after key level held up same rows = record {
  server = rw same held.server;
  contracts = rw rows (contracts-moved before.rows key level held.contracts);
  passes = rw (same, rows) (Passes-changed before.server admitted_row (move_row key level) before.rows (λ k d inside. move_row-up key level _ (all-up before.rows key level held.distinct up k d inside)) held.passes);
  distinct = rw rows (IsDistinct-moved before.rows key level held.distinct);
}

-- ---- a row less

pub AreAdmitted-without : (before after : Sums) (key : ℕ) → AreAdmitted before → after.server ≡ before.server → after.rows ≡ without_key before.rows key → AreAdmitted after
AreAdmitted-without before after key held same rows = record {
  server = rw same held.server;
  contracts = rw rows (All-filter (has_other_key key) HoldsContract before.rows held.contracts);
  passes = rw (same, rows) (Passes-kept before.server admitted_row (has_other_key key) before.rows held.passes);
  distinct = rw rows (record { apart = AllPairs-filter (λ one other. one.key ≢ other.key) (has_other_key key) before.rows held.distinct.apart });
}

-- no key is held of a link without rows, and one row more holds no other key
pub not_held-none : (rows : List Held) (key : ℕ) → rows ≡ [] → Holds rows key → ⊥
not_held-none rows key none (k, inside, at) = omega (arith, length-map rows key_of, ap length none)

pub not_held-added : (before after : List Held) (key other level : ℕ) (contract : Traffic) → after ≡ added before other contract level → key ≢ other → (Holds before key → ⊥) → Holds after key → ⊥
not_held-added before after key other level contract e apart new held =
    ⊎_elim new (λ same. apart (sym same)) (Contains-push_cases (map key_of before) other key (subst (λ keys. Contains keys key) (ap (map key_of) e ∙ map_push key_of before (row_held other contract level)) held))

pub ruleset not_held = (not_held-none, not_held-added)

-- ---- what the rows come to

-- the rows that admission sums have contracts
pub contracts-of : (rows : List Held) → All HoldsContract rows → All HasContract (admitted_rows rows)
contracts-of rows contracts = All-map HasContract admitted_row rows contracts

-- and so with a new one
pub contracts-with : (rows : List Held) (contract : Traffic) (level : ℕ) → All HoldsContract rows → IsContract contract → All HasContract (with_row (admitted_rows rows) contract level)
contracts-with rows contract level contracts valid = All-push HasContract (admitted_rows rows) (record { contract = contract; level = level }) (contracts-of rows contracts) valid

-- the work of admitted rows in a window of at most a bound is no large number
pub work-small : (sums : Sums) (m w : ℕ) → AreAdmitted sums → 1 ≤ m → m ≤ length sums.server.bounds → w ≤ 1048576 → total (work_up_to sums.server.rate m w) (admitted_rows sums.rows) < 2 ^ 60
unfolding load
work-small sums m w admitted from upto most =
    let passed = window-of sums.server (admitted_rows sums.rows) m (admitted.passes.each m from upto) in
    let some = bound-least sums.server.bounds m admitted.server.bounds from upto in
    let bound = ((bounds-parts sums.server.bounds admitted.server.bounds).each (m - 1) (omega (arith, from, upto))).1 in
    let within = counts-within sums.server.test (bound_at sums.server.bounds m) passed.window some passed.counts in
    let fits = passed.fits in
    let few = total-most sums.server.rate m passed.window w (admitted_rows sums.rows) admitted.server.rate (contracts-of sums.rows admitted.contracts) within.0 most in
    omega (arith, few, fits, within.1, bound)
