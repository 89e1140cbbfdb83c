-- A number of each row, summed over the rows: as a row comes, changes and goes.
use Rattle.std.proofs.Common.{◌≡◌, ℕ, zero, suc, ◌+◌, ◌<◌, ◌≤◌, Bool, true, false, List, [], ◌∷◌, length, map, get_or, set, arith}
use Rattle.link_server.proofs.Words.{remove, if◌then◌else◌, filter, total, AccountRow, row_in, ServedRow}

-- where it is one at most, the sum is at most the number of the rows
pub rows-few : (f : AccountRow → ℕ) (rows : List ServedRow) → ((row : AccountRow) → f row ≤ 1) → total f (map row_in rows) ≤ length rows
rows-few f [] most = omega arith
rows-few f (row ∷ rows) most = (let first = most (row_in row) in let rest = rows-few f rows most in omega (arith, first, rest))

pub row-part : (f : AccountRow → ℕ) (rows : List ServedRow) (i : ℕ) (d : ServedRow) → i < length rows → f (row_in (get_or rows i d)) ≤ total f (map row_in rows)
row-part f [] i d inside = absurd (omega arith)
row-part f (row ∷ rows) zero d inside = omega arith
row-part f (row ∷ rows) (suc i) d inside = (let rest = row-part f rows i d (omega (arith, inside)) in omega (arith, rest))

pub row-set : (f : AccountRow → ℕ) (rows : List ServedRow) (i : ℕ) (new d : ServedRow) → i < length rows → total f (map row_in (set rows i new)) + f (row_in (get_or rows i d)) ≡ total f (map row_in rows) + f (row_in new)
row-set f [] i new d inside = absurd (omega arith)
row-set f (row ∷ rows) zero new d inside = omega arith
row-set f (row ∷ rows) (suc i) new d inside = (let rest = row-set f rows i new d (omega (arith, inside)) in omega (arith, rest))

pub row-gone : (f : AccountRow → ℕ) (rows : List ServedRow) (i : ℕ) → total f (map row_in (remove rows i)) ≤ total f (map row_in rows)
row-gone f [] zero = omega arith
row-gone f [] (suc i) = omega arith
row-gone f (row ∷ rows) zero = omega arith
row-gone f (row ∷ rows) (suc i) = (let rest = row-gone f rows i in omega (arith, rest))

-- some of the rows
pub rows-left : (f : AccountRow → ℕ) (test : AccountRow → Bool) (rows : List AccountRow) → total f (filter test rows) ≤ total f rows
rows-left f test [] = omega arith
rows-left f test (row ∷ rows) = left (test row) (rows-left f test rows) where
  left : (b : Bool) → total f (filter test rows) ≤ total f rows → total f (if b then row ∷ filter test rows else filter test rows) ≤ total f (row ∷ rows)
  left true rest = omega (arith, rest)
  left false rest = omega (arith, rest)
