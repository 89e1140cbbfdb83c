-- The requests are shared among the four callers: together they have all of them.
use Rattle.std.proofs.Common.{◌≡◌, ℕ, zero, suc, ◌+◌, ◌<◌, ◌≤◌, true, false, refl, ap, inl, inr, arith}
use Rattle.std.proofs.Math.Nat.{mod-lt}
use Rattle.std.proofs.lemmas.Bool.{cases_Bool, cases_lt}
use Rattle.std.specs.Prelude.{◌%◌}
use Rattle.load_maker.specs.Made.{belongs_to, share, first_channel}

pub share-own : (caller n : ℕ) → belongs_to caller n ≡ true → share caller (suc n) ≡ suc (share caller n)
unfolding share
share-own caller n own = rw own refl

pub share-other : (caller n : ℕ) → belongs_to caller n ≡ false → share caller (suc n) ≡ share caller n
unfolding share
share-other caller n other = rw other refl

share-least : (caller n : ℕ) → share caller n ≤ share caller (suc n)
share-least caller n =
    elim (cases_Bool (belongs_to caller n)) [
      | inl own ↦ (let more = share-own caller n own in omega (arith, more))
      | inr other ↦ (let same = share-other caller n other in omega (arith, same))
    ]

-- a caller's request is one of its share
pub share-below : (caller n size : ℕ) → n < size → belongs_to caller n ≡ true → share caller n < share caller size
share-below caller n zero less own = absurd (omega (arith, less))
share-below caller n (suc size) less own =
    let least = share-least caller size in
    elim (cases_lt n size) [
      | inl before ↦ (let rest = share-below caller n size before own in omega (arith, rest, least))
      | inr last ↦
          (let same : n ≡ size = omega (arith, less, last) in
          let more : share caller (suc n) ≡ suc (share caller n) = share-own caller n own in
          let now : share caller (suc n) ≡ share caller (suc size) = ap (λ m. share caller (suc m)) same in
          omega (arith, more, now))
    ]

pub share-most : (caller n : ℕ) → share caller n ≤ n
unfolding share
share-most caller zero = omega arith
share-most caller (suc n) =
    let rest = share-most caller n in
    elim (cases_Bool (belongs_to caller n)) [
      | inl own ↦ rw own (omega (arith, rest))
      | inr other ↦ rw other (omega (arith, rest))
    ]

-- a request is one caller's
shares-more : (n r : ℕ) → n % 4 ≡ r → r < 4 → share 0 n + share 1 n + share 2 n + share 3 n ≡ n → share 0 (suc n) + share 1 (suc n) + share 2 (suc n) + share 3 (suc n) ≡ suc n
unfolding share
shares-more n (suc (suc (suc (suc r)))) is few rest = absurd (omega (arith, few))
shares-more n _ is few rest = rw is (omega (arith, rest))

pub all-shares : (n : ℕ) → share 0 n + share 1 n + share 2 n + share 3 n ≡ n
unfolding share
all-shares zero = refl
all-shares (suc n) = shares-more n (n % 4) refl (mod-lt n (omega arith)) (all-shares n)

-- so the channels of a caller are below their number
pub first-below : (size caller : ℕ) → caller < 4 → first_channel size caller + share caller size ≤ size
unfolding first_channel
first-below size (suc (suc (suc (suc caller)))) few = absurd (omega (arith, few))
first-below size _ few = (let all = all-shares size in omega (arith, all))
