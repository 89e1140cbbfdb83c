-- Elements put in order: two lists in order are one list where, for each element, they have the same ones that tie with it, in
-- the same order. An ordered insertion makes such a list, and so does a stable sort.
use Rattle.std.proofs.Common.{◌≡◌, suc, ◌+◌, Bool, true, false, List, [], ◌∷◌, refl, sym, subst, ◌∙◌, inl, inr, arith}
use Rattle.std.proofs.lemmas.Bool.{cases_Bool}
use Rattle.std.proofs.lemmas.Cmp.{nat_cmp_total, on_total, then_total}
use Rattle.std.proofs.lemmas.List.Sorted.{ranks_by, sorted_far}
use Rattle.std.specs.Prelude.{filter}
use Rattle.std.specs.Cmp.{IsStrictWeakOrder}
use Rattle.std.specs.List.Sorted.{IsSortedBy, IsStableBy, ties}
use Rattle.net_units.specs.Numbers.{channel_number}
use Rattle.net_units.proofs.ListPlaces.{head-same}
use Rattle.link_steps.specs.Lists.{Each}
use Rattle.link_steps.proofs.ListParts.{Each-by_index}
use Rattle.run_record.specs.Rows.{comes_before, put_row, in_order}
use Rattle.run_record.specs.declared.rows.HopRow.{HopRow}

-- ---- lists in order

-- none of these is less
abbrev pub NoneBelow : {X : Type 0} → (X → X → Bool) → X → List X → Type 0
NoneBelow lt x ys = Each (λ y. lt y x ≡ false) ys

abbrev pub Ascends : {X : Type 0} → (X → X → Bool) → List X → Type 0
Ascends lt [] = Unit {0}
Ascends lt (x ∷ xs) = NoneBelow lt x xs × Ascends lt xs

ascends-sorted : {X : Type 0} (lt : X → X → Bool) (o : IsStrictWeakOrder lt) (xs : List X) → IsSortedBy lt xs → Ascends lt xs
ascends-sorted lt o [] up = tt
ascends-sorted {X} lt o (x ∷ xs) up =
    let rest : IsSortedBy lt xs = λ k d low below. (let one : suc k + 1 ≡ suc (k + 1) = omega arith in rw one at (up (suc k) d (omega arith) (omega arith))) in
    (Each-by_index (λ y. lt y x ≡ false) xs (λ k d below. sorted_far lt o (x ∷ xs) up 0 (suc k) d (omega arith) (omega arith)), ascends-sorted lt o xs rest)

-- ---- one list

not-below : (a : Bool) → (a ≡ true → a ≡ false) → a ≡ false
not-below true never = never refl
not-below false never = refl

equals-self : {X : Type 0} (lt : X → X → Bool) (o : IsStrictWeakOrder lt) (x : X) → lt x x ≡ false
equals-self lt o x = not-below (lt x x) (λ less. o.one_way x x less)

ties-self : {X : Type 0} (lt : X → X → Bool) (o : IsStrictWeakOrder lt) (x : X) → ties lt x x ≡ true
ties-self lt o x = rw (equals-self lt o x) refl

-- what is above a greater one ties with nothing below
none-ties : {X : Type 0} (lt : X → X → Bool) (o : IsStrictWeakOrder lt) (y z : X) (ws : List X) → lt y z ≡ true → NoneBelow lt z ws → filter (ties lt y) ws ≡ []
none-ties lt o y z [] less above = refl
none-ties lt o y z (w ∷ ws) less above =
    let later : filter (ties lt y) ws ≡ [] = none-ties lt o y z ws less above.1 in
    elim (cases_Bool (lt y w)) [
      | inl lower ↦ rw (lower) later
      | inr level ↦ let odd : true ≡ false = sym less ∙ o.chain y w z level above.0 in absurd (cc)
    ]

no-cons : {X : Type 0} (x : X) (xs : List X) → x ∷ xs ≡ [] → ⊥
no-cons x xs odd = cc

-- a list that has an element has one that ties with it
has-ties : {X : Type 0} (lt : X → X → Bool) (o : IsStrictWeakOrder lt) (x : X) (xs : List X) → filter (ties lt x) (x ∷ xs) ≡ x ∷ filter (ties lt x) xs
has-ties lt o x xs = rw (ties-self lt o x) refl

abbrev SameTies : {X : Type 0} → (X → X → Bool) → List X → List X → Type 0
SameTies {X} lt ys zs = (x : X) → filter (ties lt x) ys ≡ filter (ties lt x) zs

tail-of : {X : Type 0} (x : X) (ys zs : List X) → x ∷ ys ≡ x ∷ zs → ys ≡ zs
tail-of x ys zs same = cc

same-rest : {X : Type 0} (lt : X → X → Bool) (x : X) (ys zs : List X) → SameTies lt (x ∷ ys) (x ∷ zs) → SameTies lt ys zs
same-rest lt x ys zs same = λ w. elim (cases_Bool (ties lt w x)) [
  | inl tie ↦ tail-of x _ _ (rw (tie) at (same w))
  | inr apart ↦ rw (apart) at (same w)
]

pub one-order : {X : Type 0} (lt : X → X → Bool) (o : IsStrictWeakOrder lt) (ys zs : List X) → Ascends lt ys → Ascends lt zs → SameTies lt ys zs → ys ≡ zs
one-order lt o [] [] up down same = refl
one-order lt o [] (z ∷ zs) up down same = absurd (no-cons z _ (sym (has-ties lt o z zs) ∙ sym (same z)))
one-order lt o (y ∷ ys) [] up down same = absurd (no-cons y _ (sym (has-ties lt o y ys) ∙ same y))
one-order lt o (y ∷ ys) (z ∷ zs) up down same =
    elim (cases_Bool (lt y z)) [
      | inl less ↦ absurd (no-cons y _ (sym (has-ties lt o y ys) ∙ (same y ∙ none-ties lt o y z (z ∷ zs) less (equals-self lt o z, down.0))))
      | inr high ↦ elim (cases_Bool (lt z y)) [
        | inl less ↦ absurd (no-cons z _ (sym (has-ties lt o z zs) ∙ (sym (same z) ∙ none-ties lt o z y (y ∷ ys) less (equals-self lt o y, up.0))))
        | inr low ↦
            let tie : ties lt y z ≡ true = rw (high, low) refl in
            let second : filter (ties lt y) (z ∷ zs) ≡ z ∷ filter (ties lt y) zs = rw (tie) refl in
            let is : y ≡ z = head-same y _ z _ (sym (has-ties lt o y ys) ∙ (same y ∙ second)) in
            let rest : ys ≡ zs = one-order lt o ys zs up.1 down.1 (same-rest lt y ys zs (subst (λ w. SameTies lt (y ∷ ys) (w ∷ zs)) (sym is) same)) in
            rw (is, rest) refl
      ]
    ]

-- ---- the ordered insertion

pub each-put : (P : HopRow → Type 0) (row : HopRow) (rows : List HopRow) → P row → Each P rows → Each P (put_row row rows)
unfolding put_row
each-put P row [] here all = (here, tt)
each-put P row (other ∷ rows) here all = elim (cases_Bool (comes_before other row)) [
  | inl before ↦ rw (before) (all.0, each-put P row rows here all.1)
  | inr after ↦ rw (after) (here, all)
]

pub each-after : (o : IsStrictWeakOrder comes_before) (row other : HopRow) (rows : List HopRow) → comes_before other row ≡ false → NoneBelow comes_before other rows → NoneBelow comes_before row rows
each-after o row other [] after all = tt
each-after o row other (next ∷ rows) after all = (o.chain next other row all.0 after, each-after o row other rows after all.1)

put-ascends : (o : IsStrictWeakOrder comes_before) (row : HopRow) (rows : List HopRow) → Ascends comes_before rows → Ascends comes_before (put_row row rows)
unfolding put_row
put-ascends o row [] up = (tt, tt)
put-ascends o row (other ∷ rows) up = elim (cases_Bool (comes_before other row)) [
  | inl before ↦ rw (before) (each-put (λ y. comes_before y other ≡ false) row rows (o.one_way other row before) up.0, put-ascends o row rows up.1)
  | inr after ↦ rw (after) ((after, each-after o row other rows after up.0), up)
]

pub order-ascends : (o : IsStrictWeakOrder comes_before) (rows : List HopRow) → Ascends comes_before (in_order rows)
unfolding in_order
order-ascends o [] = tt
order-ascends o (row ∷ rows) = put-ascends o row (in_order rows) (order-ascends o rows)

-- two that tie with a third aren't before one another
tied-both : (o : IsStrictWeakOrder comes_before) (x row other : HopRow) → ties comes_before x row ≡ true → ties comes_before x other ≡ true → comes_before other row ≡ false
tied-both o x row other first second =
    elim (cases_Bool (comes_before x row)) [
      | inl less ↦ let odd : false ≡ true = rw (less) at first in absurd (cc)
      | inr level ↦ elim (cases_Bool (comes_before other x)) [
        | inl less ↦ let one : comes_before x other ≡ false = o.one_way other x less in let odd : false ≡ true = rw (one, less) at second in absurd (cc)
        | inr none ↦ o.chain other x row none level
      ]
    ]

put-ties : (o : IsStrictWeakOrder comes_before) (x row : HopRow) (rows : List HopRow) → filter (ties comes_before x) (put_row row rows) ≡ filter (ties comes_before x) (row ∷ rows)
unfolding put_row
put-ties o x row [] = refl
put-ties o x row (other ∷ rows) = elim (cases_Bool (comes_before other row)) [
  | inr after ↦ rw (after) refl
  | inl before ↦
      let later : filter (ties comes_before x) (put_row row rows) ≡ filter (ties comes_before x) (row ∷ rows) = put-ties o x row rows in
      rw (before) (elim (cases_Bool (ties comes_before x row)) [
        | inr apart ↦ simp (later, apart)
        | inl tie ↦ elim (cases_Bool (ties comes_before x other)) [
          | inr apart ↦ simp (later, apart, tie)
          | inl both ↦ let odd : true ≡ false = sym before ∙ tied-both o x row other tie both in absurd (cc)
        ]
      ])
]

order-ties : (o : IsStrictWeakOrder comes_before) (rows : List HopRow) → SameTies comes_before (in_order rows) rows
unfolding in_order
order-ties o [] = λ x. refl
order-ties o (row ∷ rows) = λ x.
    let rest : filter (ties comes_before x) (in_order rows) ≡ filter (ties comes_before x) rows = order-ties o rows x in
    put-ties o x row (in_order rows) ∙ (rw (rest) refl)

-- ---- the order of rows

pub is-order : IsStrictWeakOrder comes_before
is-order = ranks_by (then_total (then_total (on_total (λ (row : HopRow). channel_number row.chan) nat_cmp_total) (on_total (λ (row : HopRow). row.number) nat_cmp_total)) (on_total (λ (row : HopRow). row.hop) nat_cmp_total)) (λ (row : HopRow). row)

-- a stable sort puts them in order
pub order-sorted : (old new : List HopRow) → IsSortedBy comes_before new → IsStableBy comes_before old new → new ≡ in_order old
order-sorted old new sorted stable =
    one-order comes_before is-order new (in_order old) (ascends-sorted comes_before is-order new sorted) (order-ascends is-order old) (λ x. stable x ∙ sym (order-ties is-order old x))
