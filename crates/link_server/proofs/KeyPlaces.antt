-- Where a key stands among the others, which its stamp tells.
use Rattle.std.proofs.Common.{◌≡◌, ◌≢◌, ℕ, zero, suc, ◌+◌, ◌<◌, ◌≤◌, inl, inr, Result, Ok, Err, List, [], ◌∷◌, ◌++◌, MatchResult, length, map, take, get_or, set, remove, refl, sym, ap, ◌∙◌, subst, arith}
use Rattle.std.proofs.lemmas.Bool.{cases_Bool, cases_lt, eq-eqb, eqb-true, ne_eqb}
use Rattle.std.proofs.lemmas.List.{get_or_default, get_or-map, get_or-set_same, get_or-set_other, length-map, length-set, map_push}
use Rattle.std.proofs.lemmas.List.Elements.{All-push}
use Rattle.std.specs.List.{All}
use Rattle.std.specs.Prelude.{nat_eq}
use Rattle.link_server.specs.KeyedList.{position, IsNoneOf, AreApart, AreRising, AreStamps}
use Rattle.link_server.proofs.RowsOfTable.Placed.{removed-mapped}
use Rattle.link_server.proofs.RowsOfTable.Places.{all-without}
use Rattle.link_server.proofs.Waiting.Rising.{rising-apart, rising-last, rising-without}

-- ---- places

pub position-most : (keys : List ℕ) (key : ℕ) → position keys key ≤ length keys
unfolding position
position-most [] key = omega arith
position-most (other ∷ keys) key =
    elim (cases_Bool (nat_eq other key)) [
      | inl same ↦ rw same (omega arith)
      | inr apart ↦ (let rest = position-most keys key in rw apart (omega (arith, rest)))
    ]

-- the key stands there
pub position-there : (keys : List ℕ) (key d : ℕ) → position keys key < length keys → get_or keys (position keys key) d ≡ key
unfolding position
position-there [] key d inside = absurd (omega (arith, inside))
position-there (other ∷ keys) key d inside =
    elim (cases_Bool (nat_eq other key)) [
      | inl same ↦ rw same (eqb-true other key same)
      | inr apart ↦ (let later = rw apart at inside in rw apart (position-there keys key d (omega (arith, later))))
    ]

none-there : (keys : List ℕ) (key i d : ℕ) → IsNoneOf keys key → i < length keys → get_or keys i d ≢ key
none-there [] key i d none inside = absurd (omega (arith, inside))
none-there (other ∷ keys) key zero d none inside = none.0
none-there (other ∷ keys) key (suc i) d none inside = none-there keys key i d none.1 (omega (arith, inside))

-- and stands nowhere else
pub position-is : (keys : List ℕ) (i d : ℕ) → AreApart keys → i < length keys → position keys (get_or keys i d) ≡ i
unfolding position
position-is [] i d apart inside = absurd (omega (arith, inside))
position-is (key ∷ keys) zero d apart inside = rw (eq-eqb key key refl) refl
position-is (key ∷ keys) (suc i) d apart inside =
    let within : i < length keys = omega (arith, inside) in
    rw (ne_eqb key (get_or keys i d) (λ same. none-there keys key i d apart.0 within (sym same))) (ap suc (position-is keys i d apart.1 within))

-- none of those before it is the same
pub none-before : (keys : List ℕ) (i d : ℕ) → AreApart keys → i < length keys → IsNoneOf (take i keys) (get_or keys i d)
none-before [] i d apart inside = absurd (omega (arith, inside))
none-before (key ∷ keys) zero d apart inside = tt
none-before (key ∷ keys) (suc i) d apart inside = (let within : i < length keys = omega (arith, inside) in ((λ same. none-there keys key i d apart.0 within (sym same)), none-before keys i d apart.1 within))

-- ---- stamps

-- no key has none
pub stamps-none : (under : List ℕ) → AreStamps [] [] under 0
stamps-none under = record { told = refl; inside = λ k d inside. absurd (omega (arith, inside)); rising = omega arith }

module _ (keys stamps under : List ℕ) (next : ℕ) (are : AreStamps keys stamps under next) where
  pub stamp-inside : (key : ℕ) → position keys key < length keys → key < length under
  stamp-inside key inside = subst (λ k. k < length under) (position-there keys key 0 inside) (are.inside (position keys key) 0 inside)

  -- the stamp of a key is the one at its place
  pub stamp-is : (key d : ℕ) → position keys key < length keys → get_or under key d ≡ get_or stamps (position keys key) 0
  stamp-is key d inside =
      get_or_default under key d 0 (stamp-inside key inside)
      ∙ ap (λ k. get_or under k 0) (sym (position-there keys key 0 inside))
      ∙ sym (get_or-map (λ k. get_or under k 0) keys (position keys key) 0 0 inside)
      ∙ ap (λ all. get_or all (position keys key) 0) are.told

  -- as many as keys
  pub stamps-many : length stamps ≡ length keys
  stamps-many = sym (ap length are.told) ∙ length-map keys (λ k. get_or under k 0)

  -- so a search for its stamp finds the place of a key
  pub stamp-found : (key x : ℕ) (r : Result ℕ ℕ) → position keys key < length keys → x ≡ get_or stamps (position keys key) 0
      → MatchResult r (λ j. (j < length stamps) × (get_or stamps j 0 ≡ x)) (λ j. (j ≤ length stamps) × ((k : ℕ) → k < j → get_or stamps k 0 < x) × ((k : ℕ) → j ≤ k → k < length stamps → x < get_or stamps k 0)) → r ≡ Ok (position keys key)
  stamp-found key x (Ok j) inside at found = elim (cases_lt j (position keys key)) [
    | inl before ↦ absurd (let less = rising-apart 0 next stamps are.rising j (position keys key) 0 before (omega (arith, stamps-many, inside)) in let same = found.1 in omega (arith, less, same, at))
    | inr after ↦
        elim (cases_lt (position keys key) j) [
          | inl before ↦ absurd (let less = rising-apart 0 next stamps are.rising (position keys key) j 0 before found.0 in let same = found.1 in omega (arith, less, same, at))
          | inr upto ↦ ap Ok (omega (arith, after, upto))
        ]
  ]
  stamp-found key x (Err j) inside at found = elim (cases_lt (position keys key) j) [
    | inl before ↦ absurd (let less = found.1 (position keys key) before in omega (arith, less, at))
    | inr after ↦ absurd (let less = found.2 (position keys key) after (omega (arith, stamps-many, inside)) in omega (arith, less, at))
  ]

  -- one comes
  pub stamps-came : (key : ℕ) → IsNoneOf keys key → key < length under → AreStamps (keys ++ key ∷ []) (stamps ++ next ∷ []) (set under key next) (next + 1)
  stamps-came key none inside =
      let wide = length-set under key next in
      record {
        told =
            map_push (λ k. get_or (set under key next) k 0) keys key
            ∙ ap (λ all. all ++ get_or (set under key next) key 0 ∷ []) (same-told keys none ∙ are.told)
            ∙ ap (λ n. stamps ++ n ∷ []) (get_or-set_same under key next 0 inside);
        inside = All-push (λ k. k < length (set under key next)) keys key (subst (λ n. All (λ k. k < n) keys) (sym wide) are.inside) (omega (arith, wide, inside));
        rising = subst (λ n. AreRising 0 n (stamps ++ next ∷ [])) (omega arith) (rising-last 0 next stamps are.rising);
      } where
        same-told : (others : List ℕ) → IsNoneOf others key → map (λ k. get_or (set under key next) k 0) others ≡ map (λ k. get_or under k 0) others
        same-told [] none = refl
        same-told (k ∷ others) none =
            ap (λ n. n ∷ map (λ k. get_or (set under key next) k 0) others) (get_or-set_other under key k next 0 none.0)
            ∙ ap (λ all. get_or under k 0 ∷ all) (same-told others none.1)

  -- and one leaves
  pub stamps-left : (place : ℕ) → AreStamps (remove keys place) (remove stamps place) under next
  stamps-left place = record {
    told = removed-mapped (λ k. get_or under k 0) keys place ∙ ap (λ all. remove all place) are.told;
    inside = all-without (λ k. k < length under) keys place are.inside;
    rising = rising-without 0 next stamps place are.rising;
  }
