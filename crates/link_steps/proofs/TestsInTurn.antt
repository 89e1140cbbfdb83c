-- A test of so many numbers in turn passes where each of them does.
use Rattle.std.proofs.Common.{◌≡◌, ℕ, zero, suc, ◌+◌, ◌<◌, ◌≤◌, Bool, true, ⊎_elim, refl, subst, arith}
use Rattle.std.proofs.lemmas.Bool.{cases_lt, and_parts, and_from}
use Rattle.link_steps.specs.Room.{all_from}

-- each of `count` numbers from m on passes the test
pub all_from-each : (test : ℕ → Bool) (m count : ℕ) → all_from test m count ≡ true → (k : ℕ) → m ≤ k → k < m + count → test k ≡ true
unfolding all_from
all_from-each test m zero all k from upto = absurd (omega (arith, from, upto))
all_from-each test m (suc count) all k from upto =
    let both = and_parts (test m) (all_from test (suc m) count) all in
    ⊎_elim (λ (first : k < suc m). subst (λ n. test n ≡ true) (omega (arith, first, from)) both.0)
    (λ (later : suc m ≤ k). all_from-each test (suc m) count both.1 k later (omega (arith, upto)))
    (cases_lt k (suc m))

pub all_from-by : (test : ℕ → Bool) (m count : ℕ) → ((k : ℕ) → m ≤ k → k < m + count → test k ≡ true) → all_from test m count ≡ true
unfolding all_from
all_from-by test m zero each = refl
all_from-by test m (suc count) each =
    and_from (test m) (all_from test (suc m) count) (each m (omega arith) (omega arith)) (all_from-by test (suc m) count (λ k from upto. each k (omega (arith, from)) (omega (arith, upto))))
