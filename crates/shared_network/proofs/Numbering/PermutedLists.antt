-- Numbers that all differ, through a change of the order.
use Rattle.std.proofs.Common.{◌≡◌, ℕ, eqb, false, List, [], ◌∷◌, map, sym, ◌∙◌, inl, inr, ⊎_elim, ne_eqb}
use Rattle.shared_network.proofs.Words.{IsDistinct, AllByRecursion, IsPermutation, cases_eq, eq-eqb, IsPermutation-map, Has, Differ}
use Rattle.std.proofs.lemmas.Map.Keys.{IsDistinct-IsPermutation}

-- two ways to say that numbers differ
apart-each : (n : ℕ) (ns : List ℕ) → (Has n ns → ⊥) → AllByRecursion (λ m. eqb n m ≡ false) ns
apart-each n [] none = tt
apart-each n (m ∷ ns) none = (ne_eqb n m (λ e. none (inl (sym e))), apart-each n ns (λ has. none (inr has)))

each-apart : (n : ℕ) (ns : List ℕ) → AllByRecursion (λ m. eqb n m ≡ false) ns → Has n ns → ⊥
each-apart n [] each has = has
each-apart n (m ∷ ns) each has = ⊎_elim (λ (e : m ≡ n). absurd (cc (each.0, eq-eqb n m (sym e)))) (λ rest. each-apart n ns each.1 rest) has

differ-distinct : (ns : List ℕ) → Differ ns → IsDistinct eqb ns
unfolding IsDistinct
differ-distinct [] differ = tt
differ-distinct (n ∷ ns) differ = (apart-each n ns differ.0, differ-distinct ns differ.1)

distinct-differ : (ns : List ℕ) → IsDistinct eqb ns → Differ ns
unfolding IsDistinct
distinct-differ [] distinct = tt
distinct-differ (n ∷ ns) distinct = ((λ has. each-apart n ns distinct.0 has), distinct-differ ns distinct.1)

eqb-flips : (m n : ℕ) → eqb m n ≡ eqb n m
eqb-flips m n = ⊎_elim (λ (e : m ≡ n). eq-eqb m n e ∙ sym (eq-eqb n m (sym e))) (λ other. ne_eqb m n other ∙ sym (ne_eqb n m (λ e. other (sym e)))) (cases_eq m n)

pub differ-permuted : {X : Type 0} (number : X → ℕ) (xs ys : List X) → IsPermutation xs ys → Differ (map number xs) → Differ (map number ys)
differ-permuted number xs ys moved differ =
    distinct-differ (map number ys)
    (IsDistinct-IsPermutation eqb eqb-flips (map number xs) (map number ys) (IsPermutation-map number xs ys moved) (differ-distinct (map number xs) differ))
