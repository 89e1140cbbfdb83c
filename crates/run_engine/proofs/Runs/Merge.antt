-- The merge of lists by falling stamps: its stamps fall, it has what stands in the lists, and the entries of one link in it are that
-- link's list. Two lists whose stamps fall are the same where they hold the same.
use Rattle.std.proofs.Common.{◌≡◌, ◌≢◌, ℕ, zero, suc, ◌+◌, ◌<◌, ◌≤◌, ◌⊎◌, Bool, true, false, cond, List, [], ◌∷◌, Some, refl, sym, ap, ◌∙◌, subst, inl, inr, arith}
use Rattle.run_engine.proofs.Words.{cases_Bool, cases_lt, eq-eqb, ne_eqb, ltb-true, lt-ltb, cond_both, same_Some, slice_get, filter, nat_eq, nat_lt, link_number, Each, Among}
use Rattle.link_steps.proofs.SearchAndFilter.{Each-among}
use Rattle.run_engine.specs.runs.Weave.{Stamped, put, put_all, woven_of, IsUnder, Falls, IsUnlike, AreStampedApart, PairsApart, AreOf, InOne, StandsIn}

each-put : (P : Stamped → Type 0) (x : Stamped) (xs : List Stamped) → P x → Each P xs → Each P (put x xs)
unfolding put
each-put P x [] own each = (own, tt)
each-put P x (y ∷ ys) own each = cond_both (nat_lt y.stamp x.stamp) (x ∷ y ∷ ys) (y ∷ put x ys) (Each P) (λ _. (own, each)) (λ _. (each.0, each-put P x ys own each.1))

each-put_all : (P : Stamped → Type 0) (xs ys : List Stamped) → Each P xs → Each P ys → Each P (put_all xs ys)
unfolding put_all
each-put_all P [] ys own each = each
each-put_all P (x ∷ xs) ys own each = each-put P x (put_all xs ys) own.0 (each-put_all P xs ys own.1 each)

under-more : (a b : ℕ) (xs : List Stamped) → a < b → Each (IsUnder a) xs → Each (IsUnder b) xs
under-more a b [] less each = tt
under-more a b (x ∷ xs) less each = ((let h = each.0 in omega (arith, h, less)), under-more a b xs less each.1)

falls-put : (x : Stamped) (xs : List Stamped) → Each (IsUnlike x) xs → Falls xs → Falls (put x xs)
unfolding put
falls-put x [] unlike falls = (tt, tt)
falls-put x (y ∷ ys) unlike falls =
    elim (cases_Bool (nat_lt y.stamp x.stamp)) [
      | inl under ↦ (let less = ltb-true y.stamp x.stamp under in rw under ((less, under-more y.stamp x.stamp ys less falls.0), falls))
      | inr over ↦
          (let more : x.stamp < y.stamp = (let other = unlike.0 in let h = not-under y.stamp x.stamp over in apart-less x.stamp y.stamp other h) in
          rw over (each-put (IsUnder y.stamp) x ys more falls.0, falls-put x ys unlike.1 falls.1))
    ] where
      not-under : (a b : ℕ) → nat_lt a b ≡ false → b ≤ a
      not-under a b over = elim (cases_lt a b) [
        | inl less ↦ absurd (let e = lt-ltb a b less in let clash : false ≡ true = sym over ∙ e in cc)
        | inr more ↦ more
      ]

      apart-less : (a b : ℕ) → a ≢ b → a ≤ b → a < b
      apart-less a b other upto = elim (cases_lt a b) [
        | inl less ↦ less
        | inr more ↦ absurd (other (omega (arith, upto, more)))
      ]

-- no stamp of a journal stands in the merge of the later ones
abbrev pub AllApart : List (List Stamped) → Type 0
AllApart [] = Unit {0}
AllApart (journal ∷ journals) = AreStampedApart journal (woven_of journals) × AllApart journals

unlike-under : (x : Stamped) (xs : List Stamped) → Each (IsUnder x.stamp) xs → Each (IsUnlike x) xs
unlike-under x [] each = tt
unlike-under x (y ∷ ys) each = ((λ same. (let h = each.0 in omega (arith, h, same))), unlike-under x ys each.1)

falls-put_all : (xs ys : List Stamped) → Falls xs → Falls ys → AreStampedApart xs ys → Falls (put_all xs ys)
unfolding put_all
falls-put_all [] ys own falls apart = falls
falls-put_all (x ∷ xs) ys own falls apart = falls-put x (put_all xs ys) (each-put_all (IsUnlike x) xs ys (unlike-under x xs own.0) apart.0) (falls-put_all xs ys own.1 falls apart.1)

pub falls-woven : (journals : List (List Stamped)) → Each Falls journals → AllApart journals → Falls (woven_of journals)
unfolding woven_of
falls-woven [] each apart = tt
falls-woven (journal ∷ journals) each apart = falls-put_all journal (woven_of journals) each.0 (falls-woven journals each.1 apart.1) apart.0

-- ---- parts of the merge

-- the entry is on the link of this number
abbrev pub is_at : ℕ → Stamped → Bool
is_at link x = nat_eq (link_number x.done.link) link

under-put : (x : Stamped) (xs : List Stamped) → Each (IsUnder x.stamp) xs → put x xs ≡ x ∷ xs
unfolding put
under-put x [] each = refl
under-put x (y ∷ ys) each = rw (lt-ltb y.stamp x.stamp each.0) refl

each-filter : (P : Stamped → Type 0) (test : Stamped → Bool) (xs : List Stamped) → Each P xs → Each P (filter test xs)
each-filter P test [] each = tt
each-filter P test (x ∷ xs) each = cond_both (test x) (x ∷ filter test xs) (filter test xs) (Each P) (λ _. (each.0, each-filter P test xs each.1)) (λ _. each-filter P test xs each.1)

put-off : (test : Stamped → Bool) (x : Stamped) (xs : List Stamped) → test x ≡ false → filter test (put x xs) ≡ filter test xs
unfolding put
put-off test x [] off = rw off refl
put-off test x (y ∷ ys) off =
    elim (cases_Bool (nat_lt y.stamp x.stamp)) [
      | inl under ↦ rw (under, off) refl
      | inr over ↦ rw over (again (test y) (put-off test x ys off))
    ] where
      again : (b : Bool) → filter test (put x ys) ≡ filter test ys → cond b (y ∷ filter test (put x ys)) (filter test (put x ys)) ≡ cond b (y ∷ filter test ys) (filter test ys)
      again true same = ap (λ zs. y ∷ zs) same
      again false same = same

put-on : (test : Stamped → Bool) (x : Stamped) (xs : List Stamped) → test x ≡ true → Falls xs → filter test (put x xs) ≡ put x (filter test xs)
unfolding put
put-on test x [] on falls = rw on refl
put-on test x (y ∷ ys) on falls =
    elim (cases_Bool (nat_lt y.stamp x.stamp)) [
      | inl under ↦
          (let less = ltb-true y.stamp x.stamp under in
          let all : Each (IsUnder x.stamp) (y ∷ ys) = (less, under-more y.stamp x.stamp ys less falls.0) in
          let front : filter test (x ∷ y ∷ ys) ≡ x ∷ filter test (y ∷ ys) = rw on refl in
          rw under (front ∙ sym (under-put x (filter test (y ∷ ys)) (each-filter (IsUnder x.stamp) test (y ∷ ys) all))))
      | inr over ↦ elim (cases_Bool (test y)) [
        | inl mine ↦ rw (over, mine) (rw over (ap (λ zs. y ∷ zs) (put-on test x ys on falls.1)))
        | inr other ↦ rw (over, other) (put-on test x ys on falls.1)
      ]
    ]

put_all-off : (test : Stamped → Bool) (xs ys : List Stamped) → Each (λ x. test x ≡ false) xs → filter test (put_all xs ys) ≡ filter test ys
unfolding put_all
put_all-off test [] ys off = refl
put_all-off test (x ∷ xs) ys off = put-off test x (put_all xs ys) off.0 ∙ put_all-off test xs ys off.1

put_all-on : (test : Stamped → Bool) (xs ys : List Stamped) → Each (λ x. test x ≡ true) xs → Falls xs → Falls ys → AreStampedApart xs ys → filter test ys ≡ [] → filter test (put_all xs ys) ≡ xs
unfolding put_all
put_all-on test [] ys on own falls apart none = none
put_all-on test (x ∷ xs) ys on own falls apart none =
    put-on test x (put_all xs ys) on.0 (falls-put_all xs ys own.1 falls apart.1)
    ∙ ap (put x) (put_all-on test xs ys on.1 own.1 falls apart.1 none) ∙ under-put x xs own.0

each-on : (n : ℕ) (xs : List Stamped) → Each (λ x. link_number x.done.link ≡ n) xs → Each (λ x. is_at n x ≡ true) xs
each-on n [] each = tt
each-on n (x ∷ xs) each = (eq-eqb (link_number x.done.link) n each.0, each-on n xs each.1)

each-off : (n m : ℕ) (xs : List Stamped) → n ≢ m → Each (λ x. link_number x.done.link ≡ n) xs → Each (λ x. is_at m x ≡ false) xs
each-off n m [] other each = tt
each-off n m (x ∷ xs) other each = (ne_eqb (link_number x.done.link) m (λ same. other (sym each.0 ∙ same)), each-off n m xs other each.1)

none-woven : (n m : ℕ) (journals : List (List Stamped)) → m < n → AreOf n journals → filter (is_at m) (woven_of journals) ≡ []
unfolding woven_of
none-woven n m [] less are = refl
none-woven n m (journal ∷ journals) less are =
    put_all-off (is_at m) journal (woven_of journals) (each-off n m journal (λ same. omega (arith, less, same)) are.0) ∙ none-woven (suc n) m journals (omega (arith, less)) are.1

-- each journal is the part of the merge on its link
pub woven-part : (n k : ℕ) (journals : List (List Stamped)) (journal : List Stamped) → AreOf n journals → Each Falls journals → AllApart journals → slice_get journals k ≡ Some journal → filter (is_at (n + k)) (woven_of journals) ≡ journal
unfolding woven_of
woven-part n k [] journal are falls apart found = cc
woven-part n zero (first ∷ journals) journal are falls apart found =
    let same : first ≡ journal = same_Some first journal found in
    let at : n + 0 ≡ n = omega arith in
    ap (λ m. filter (is_at m) (put_all first (woven_of journals))) at
    ∙ put_all-on (is_at n) first (woven_of journals) (each-on n first are.0) falls.0 (falls-woven journals falls.1 apart.1) apart.0 (none-woven (suc n) n journals (omega arith) are.1) ∙ same
woven-part n (suc k) (first ∷ journals) journal are falls apart found =
    let at : n + suc k ≡ suc n + k = omega arith in
    put_all-off (is_at (n + suc k)) first (woven_of journals) (each-off n (n + suc k) first (λ same. omega (arith, same)) are.0)
    ∙ ap (λ m. filter (is_at m) (woven_of journals)) at ∙ woven-part (suc n) k journals journal are.1 falls.1 apart.1 found

-- ---- what stands in the merge

pub each-woven : (P : Stamped → Type 0) (journals : List (List Stamped)) → Each (Each P) journals → Each P (woven_of journals)
unfolding woven_of
each-woven P [] each = tt
each-woven P (journal ∷ journals) each = each-put_all P journal (woven_of journals) each.0 (each-woven P journals each.1)

among-put : (x y : Stamped) (ys : List Stamped) → Among x (put y ys) → (x ≡ y) ⊎ Among x ys
unfolding put
among-put x y [] among = among
among-put x y (z ∷ zs) among =
    elim (cases_Bool (nat_lt z.stamp y.stamp)) [
      | inl under ↦ (let there : Among x (y ∷ z ∷ zs) = rw under at among in there)
      | inr over ↦ (let there : Among x (z ∷ put y zs) = rw over at among in elim there [
        | inl here ↦ inr (inl here)
        | inr later ↦ elim (among-put x y zs later) [
          | inl same ↦ inl same
          | inr rest ↦ inr (inr rest)
        ]
      ])
    ]

put-among : (x y : Stamped) (ys : List Stamped) → (x ≡ y) ⊎ Among x ys → Among x (put y ys)
unfolding put
put-among x y [] either = either
put-among x y (z ∷ zs) either =
    elim (cases_Bool (nat_lt z.stamp y.stamp)) [
      | inl under ↦ (let there : Among x (y ∷ z ∷ zs) = either in rw under there)
      | inr over ↦ rw over (elim either [
        | inl same ↦ inr (put-among x y zs (inl same))
        | inr among ↦ elim among [
          | inl here ↦ inl here
          | inr later ↦ inr (put-among x y zs (inr later))
        ]
      ])
    ]

among-put_all : (x : Stamped) (xs ys : List Stamped) → Among x (put_all xs ys) → Among x xs ⊎ Among x ys
unfolding put_all
among-put_all x [] ys among = inr among
among-put_all x (y ∷ xs) ys among = elim (among-put x y (put_all xs ys) among) [
  | inl same ↦ inl (inl same)
  | inr rest ↦ elim (among-put_all x xs ys rest) [
    | inl own ↦ inl (inr own)
    | inr other ↦ inr other
  ]
]

put_all-among : (x : Stamped) (xs ys : List Stamped) → Among x xs ⊎ Among x ys → Among x (put_all xs ys)
unfolding put_all
put_all-among x [] ys (inl among) = absurd among
put_all-among x [] ys (inr among) = among
put_all-among x (y ∷ xs) ys (inl (inl same)) = put-among x y (put_all xs ys) (inl same)
put_all-among x (y ∷ xs) ys (inl (inr among)) = put-among x y (put_all xs ys) (inr (put_all-among x xs ys (inl among)))
put_all-among x (y ∷ xs) ys (inr among) = put-among x y (put_all xs ys) (inr (put_all-among x xs ys (inr among)))

in-later : (x : Stamped) (first : List Stamped) (journals : List (List Stamped)) → InOne x journals → InOne x (first ∷ journals)
in-later x first journals (StandsIn k journal found among) = StandsIn (suc k) journal found among

pub woven-in : (x : Stamped) (journals : List (List Stamped)) → Among x (woven_of journals) → InOne x journals
unfolding woven_of
woven-in x [] among = absurd among
woven-in x (journal ∷ journals) among = elim (among-put_all x journal (woven_of journals) among) [
  | inl own ↦ StandsIn 0 journal refl own
  | inr other ↦ in-later x journal journals (woven-in x journals other)
]

pub in-woven : (x : Stamped) (journals : List (List Stamped)) → InOne x journals → Among x (woven_of journals)
unfolding woven_of
in-woven x [] (StandsIn k journal found among) = cc
in-woven x (first ∷ journals) (StandsIn zero journal found among) = put_all-among x first (woven_of journals) (inl (subst (Among x) (sym (same_Some first journal found)) among))
in-woven x (first ∷ journals) (StandsIn (suc k) journal found among) = put_all-among x first (woven_of journals) (inr (in-woven x journals (StandsIn k journal found among)))

apart-woven : (journal : List Stamped) (journals : List (List Stamped)) → Each (AreStampedApart journal) journals → AreStampedApart journal (woven_of journals)
apart-woven [] journals each = tt
apart-woven (x ∷ xs) journals each = (each-woven (IsUnlike x) journals (heads journals each), apart-woven xs journals (tails journals each)) where
  heads : (js : List (List Stamped)) → Each (AreStampedApart (x ∷ xs)) js → Each (Each (IsUnlike x)) js
  heads [] all = tt
  heads (j ∷ js) all = (all.0.0, heads js all.1)

  tails : (js : List (List Stamped)) → Each (AreStampedApart (x ∷ xs)) js → Each (AreStampedApart xs) js
  tails [] all = tt
  tails (j ∷ js) all = (all.0.1, tails js all.1)

pub pairs-apart : (journals : List (List Stamped)) → PairsApart journals → AllApart journals
pairs-apart [] pairs = tt
pairs-apart (journal ∷ journals) pairs = (apart-woven journal journals pairs.0, pairs-apart journals pairs.1)

-- lists whose stamps fall and that hold the same are the same
pub record HoldTheSame (xs ys : List Stamped) : Type 0 where
  pub to : (x : Stamped) → Among x xs → Among x ys
  pub from : (x : Stamped) → Among x ys → Among x xs

pub falls-same : (xs ys : List Stamped) → Falls xs → Falls ys → HoldTheSame xs ys → xs ≡ ys
falls-same [] [] fx fy same = refl
falls-same [] (y ∷ ys) fx fy same = absurd (same.from y (inl refl))
falls-same (x ∷ xs) [] fx fy same = absurd (same.to x (inl refl))
falls-same (x ∷ xs) (y ∷ ys) fx fy same =
    let head : x ≡ y = heads (same.to x (inl refl)) (same.from y (inl refl)) in
    ap (λ z. z ∷ xs) head ∙ ap (λ zs. y ∷ zs) (falls-same xs ys fx.1 fy.1 (record {
      to = λ z among. (let under = Each-among (IsUnder x.stamp) z xs fx.0 among in let e : x.stamp ≡ y.stamp = ap (λ w. w.stamp) head in elim (same.to z (inr among)) [
        | inl here ↦ absurd (let f : z.stamp ≡ y.stamp = ap (λ w. w.stamp) here in omega (arith, under, e, f))
        | inr there ↦ there
      ]);
      from = λ z among. (let under = Each-among (IsUnder y.stamp) z ys fy.0 among in let e : x.stamp ≡ y.stamp = ap (λ w. w.stamp) head in elim (same.from z (inr among)) [
        | inl here ↦ absurd (let f : z.stamp ≡ x.stamp = ap (λ w. w.stamp) here in omega (arith, under, e, f))
        | inr there ↦ there
      ]);
    })) where
      heads : Among x (y ∷ ys) → Among y (x ∷ xs) → x ≡ y
      heads (inl here) back = here
      heads (inr there) (inl here) = sym here
      heads (inr there) (inr back) = absurd (let a = Each-among (IsUnder y.stamp) x ys fy.0 there in let b = Each-among (IsUnder x.stamp) y xs fx.0 back in omega (arith, a, b))

pub falls-filter : (test : Stamped → Bool) (xs : List Stamped) → Falls xs → Falls (filter test xs)
falls-filter test [] fall = tt
falls-filter test (x ∷ xs) fall = cond_both (test x) (x ∷ filter test xs) (filter test xs) Falls (λ _. (each-filter (IsUnder x.stamp) test xs fall.0, falls-filter test xs fall.1)) (λ _. falls-filter test xs fall.1)
