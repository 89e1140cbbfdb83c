-- The level above the last that is over the quota is the best, and where that is the last of all there is none.
use Rattle.std.proofs.Common.{◌≡◌, ℕ, zero, suc, ◌+◌, ◌-◌, ◌<◌, ◌≤◌, ⊎_elim, Bool, false, length, Some, None, refl, sym, arith}
use Rattle.std.proofs.lemmas.Bool.{cases_lt, and_right}
use Rattle.net_units.proofs.BoundsInOrder.{bounds-parts}
use Rattle.traffic_contract.specs.Contract.{Traffic}
use Rattle.traffic_contract.proofs.AdmissionTest.{first_level-found, first_level-none}
use Rattle.link_steps.specs.declared.quota.Quota.{Quota}
use Rattle.link_steps.specs.declared.shape.LinkShape.{LinkShape}
use Rattle.link_steps.specs.Room.{all_from}
use Rattle.link_steps.proofs.TestsInTurn.{all_from-by}
use Rattle.link_quota.specs.Best.{is_within, best_of, IsLastOver}
use Rattle.link_quota.specs.declared.share.Share.{Share}

all-false : (test : ℕ → Bool) (m count k : ℕ) → m ≤ k → k < m + count → test k ≡ false → all_from test m count ≡ false
unfolding all_from
all-false test m zero k from upto fails = absurd (omega (arith, from, upto))
all-false test m (suc count) k from upto fails =
    ⊎_elim (λ (later : m < k). and_right (test m) (all_from test (suc m) count) (all-false test (suc m) count k (omega (arith, later)) (omega (arith, upto)) fails))
    (λ (here : k ≤ m). (let same : k ≡ m = omega (arith, here, from) in rw (sym same, fails) refl))
    (cases_lt m k)

pub best-none : (shape : LinkShape) (share : Share) (quota : Quota) (contract : Traffic) (over : ℕ) → over ≡ length shape.bounds → IsLastOver shape share quota contract (length shape.bounds) over → best_of shape share quota contract ≡ None
best-none shape share quota contract over all last =
    let least = (bounds-parts shape.bounds shape.bounds_rise).least in
    first_level-none _ 1 (length shape.bounds) (λ k from upto.
    all-false (is_within shape share quota contract) k (suc (length shape.bounds) - k) over (omega (arith, from, upto, all)) (omega (arith, from, upto, all)) (last.is_over (omega (arith, all, least))))

pub best-found : (shape : LinkShape) (share : Share) (quota : Quota) (contract : Traffic) (over : ℕ) → over < length shape.bounds → IsLastOver shape share quota contract (length shape.bounds) over → best_of shape share quota contract ≡ Some (over + 1)
best-found shape share quota contract over below last =
    first_level-found _ 1 (length shape.bounds) (over + 1) (omega arith) (omega (arith, below))
    (all_from-by (is_within shape share quota contract) (over + 1) (suc (length shape.bounds) - (over + 1)) (λ k from upto. last.within k (omega (arith, from)) (omega (arith, upto, below))))
    (λ k from upto. all-false (is_within shape share quota contract) k (suc (length shape.bounds) - k) over (omega (arith, upto)) (omega (arith, below, from, upto)) (last.is_over (omega (arith, from, upto))))
