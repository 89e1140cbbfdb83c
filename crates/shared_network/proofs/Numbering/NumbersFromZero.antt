-- The numbers from 0 on, what an iterator over a vector has left, and how many stamps a pass has drawn.
use Rattle.std.proofs.Common.{◌≡◌, ℕ, zero, suc, ◌<◌, Some, List, [], ◌∷◌, ◌++◌, length, refl, sym, ap, ◌∙◌, inl, inr, arith}
use Rattle.shared_network.proofs.Words.{cases_lt, length-append, length-map, same_Some, slice_get, into_iter_items, into_iter_len, TableId, ActorNo, Link, up_to, own_drawn, Token, stamps_drawn}
use Rattle.std.specs.declared.vec.IntoIter.{IntoIter}
use Rattle.std.proofs.lemmas.List.{nil_from_length}
use Rattle.link_ledger.proofs.OwnStaysExact.{get-left, get-last}
use Rattle.shared_network.specs.Ready.{MayStep}

pub up_to-length : (n : ℕ) → length (up_to n) ≡ n
unfolding up_to
up_to-length zero = refl
up_to-length (suc n) = let rest = up_to-length n in let more = length-append (up_to n) (n ∷ []) in omega (arith, rest, more)

pub up_to-get : (n k : ℕ) → k < n → slice_get (up_to n) k ≡ Some k
unfolding up_to
up_to-get zero k below = absurd (omega (arith, below))
up_to-get (suc n) k below =
    elim (cases_lt k n) [
      | inl less ↦ get-left (up_to n) (n ∷ []) k k (up_to-get n k less)
      | inr from ↦ (let is : k ≡ length (up_to n) = omega (arith, from, below, up_to-length n) in
          ap (slice_get (up_to n ++ n ∷ [])) is ∙ get-last (up_to n) n ∙ ap (λ j. Some j) (sym (up_to-length n) ∙ sym is))
    ]

-- the element after a prefix
pub get-after : {X : Type 0} (xs ys : List X) (y : X) → slice_get (xs ++ y ∷ ys) (length xs) ≡ Some y
get-after [] ys y = refl
get-after (x ∷ xs) ys y = get-after xs ys y

-- after the first numbers comes their count
pub up_to-next : (n : ℕ) (xs ys : List ℕ) (y : ℕ) → xs ++ y ∷ ys ≡ up_to n → y ≡ length xs
up_to-next n xs ys y is =
    let long : length (xs ++ y ∷ ys) ≡ n = ap length is ∙ up_to-length n in
    let parts = length-append xs (y ∷ ys) in
    sym (same_Some (length xs) y (sym (up_to-get n (length xs) (omega (arith, long, parts))) ∙ ap (λ ns. slice_get ns (length xs)) (sym is) ∙ get-after xs ys y))

-- an iterator over a vector that has no element left
pub none-left : {X Z : Type 0} (it : IntoIter X Z) → into_iter_len it ≡ 0 → into_iter_items it ≡ []
none-left it none = let rest = it.rest in nil_from_length (into_iter_items it) (omega (arith, none, rest))

-- a pass that may step has drawn a stamp for each of its own entries, and no other
pub drawn-count : (table : TableId) (owners : List ActorNo) (links : List Link) (pass : Token) → MayStep table owners links pass → stamps_drawn pass ≡ length pass.own
drawn-count table owners links pass may = ap length may.exact.drawn ∙ length-map pass.own (own_drawn pass.actor)
