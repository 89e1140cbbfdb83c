-- A list of rows put in order: it has the same rows, each before the next, and those at a hop of a channel stay in their order.
use Rattle.std.proofs.Common.{◌≡◌, ℕ, suc, ◌<◌, Bool, true, false, cond, ◌⊎◌, List, [], ◌∷◌, refl, sym, ap, ◌∙◌, subst, inl, inr, arith}
use Rattle.std.proofs.lemmas.Bool.{cases_Bool, cases_eq, cases_order, lt-ltb, le-ltb, eq-eqb, ne_eqb}
use Rattle.std.specs.Prelude.{filter}
use Rattle.std.specs.Ordering.{nat_cmp}
use Rattle.std.specs.declared.cmp.Ordering.TheVariants.{Less, Equal, Greater}
use Rattle.net_units.specs.Numbers.{channel_number}
use Rattle.link_steps.specs.Lists.{Each, Among}
use Rattle.link_steps.proofs.SearchAndFilter.{Each-if, Each-among}
use Rattle.link_steps.proofs.FoundElements.{Each-if_passes}
use Rattle.run_record.specs.Rows.{comes_before, put_row, in_order}
use Rattle.run_record.specs.declared.rows.HopRow.{HopRow}
use Rattle.trace_audit.specs.Above.{is_at, rows_at}
use Rattle.run_engine.specs.channels.Departures.{AreCounted}
use Rattle.trace_audit.proofs.TableInOrder.{IsBelow, at-parts}

-- ---- the order

cmp-less : (x y : ℕ) → x < y → nat_cmp x y ≡ Less
cmp-less x y less = (let t = lt-ltb x y less in rw t refl)

cmp-equal : (x y : ℕ) → x ≡ y → nat_cmp x y ≡ Equal
cmp-equal x y same = (let t = le-ltb x y (omega (arith, same)) in let e = eq-eqb x y same in rw (t, e) refl)

cmp-greater : (x y : ℕ) → y < x → nat_cmp x y ≡ Greater
cmp-greater x y more = (let t = le-ltb x y (omega (arith, more)) in let e = ne_eqb x y (λ s. omega (arith, s, more)) in rw (t, e) refl)

-- x is before the row, or at its place, or after it
pub data Stands (row x : HopRow) : Type 0 where
  Before : IsBelow row x → Stands row x
  Same : channel_number x.chan ≡ channel_number row.chan → x.number ≡ row.number → x.hop ≡ row.hop → Stands row x
  After : IsBelow x row → Stands row x

pub stands : (row x : HopRow) → Stands row x
stands row x =
    elim (cases_order (channel_number x.chan) (channel_number row.chan)) [
      | inl same ↦ elim (cases_order x.number row.number) [
        | inl equal ↦ elim (cases_order x.hop row.hop) [
          | inl there ↦ Same same equal there
          | inr (inl less) ↦ Before (record { chan = omega (arith, same); number = λ _. omega (arith, equal); hop = λ _ _. less })
          | inr (inr more) ↦ After (record { chan = omega (arith, same); number = λ _. omega (arith, equal); hop = λ _ _. more })
        ]
        | inr (inl less) ↦ Before (record { chan = omega (arith, same); number = λ _. omega (arith, less); hop = λ _ e. absurd (omega (arith, e, less)) })
        | inr (inr more) ↦ After (record { chan = omega (arith, same); number = λ _. omega (arith, more); hop = λ _ e. absurd (omega (arith, e, more)) })
      ]
      | inr (inl less) ↦ Before (record { chan = omega (arith, less); number = λ e. absurd (omega (arith, e, less)); hop = λ e _. absurd (omega (arith, e, less)) })
      | inr (inr more) ↦ After (record { chan = omega (arith, more); number = λ e. absurd (omega (arith, e, more)); hop = λ e _. absurd (omega (arith, e, more)) })
    ]

-- what the test says
pub before-is : (x y : HopRow) → IsBelow y x → comes_before x y ≡ true
before-is x y below =
    let most = below.chan in
    elim (cases_eq (channel_number x.chan) (channel_number y.chan)) [
      | inl same ↦
          (let c = cmp-equal (channel_number x.chan) (channel_number y.chan) same in
          let n = below.number same in
          elim (cases_eq x.number y.number) [
            | inl equal ↦ (let e = cmp-equal x.number y.number equal in let h = cmp-less x.hop y.hop (below.hop same equal) in rw (c, e, h) refl)
            | inr apart ↦ (let l = cmp-less x.number y.number (omega (arith, n, apart)) in rw (c, l) refl)
          ])
      | inr apart ↦ (let l = cmp-less (channel_number x.chan) (channel_number y.chan) (omega (arith, most, apart)) in rw l refl)
    ]

pub not-before : (x y : HopRow) → IsBelow x y → comes_before x y ≡ false
not-before x y below =
    let most = below.chan in
    elim (cases_eq (channel_number y.chan) (channel_number x.chan)) [
      | inl same ↦
          (let c = cmp-equal (channel_number x.chan) (channel_number y.chan) (sym same) in
          let n = below.number same in
          elim (cases_eq y.number x.number) [
            | inl equal ↦ (let e = cmp-equal x.number y.number (sym equal) in let h = cmp-greater x.hop y.hop (below.hop same equal) in rw (c, e, h) refl)
            | inr apart ↦ (let l = cmp-greater x.number y.number (omega (arith, n, apart)) in rw (c, l) refl)
          ])
      | inr apart ↦ (let l = cmp-greater (channel_number x.chan) (channel_number y.chan) (omega (arith, most, apart)) in rw l refl)
    ]

pub below-trans : (a b d : HopRow) → IsBelow b a → IsBelow d b → IsBelow d a
below-trans a b d one two =
    let x = one.chan in
    let y = two.chan in
    record {
      chan = omega (arith, x, y);
      number = λ same. (let m = one.number (omega (arith, same, x, y)) in let n = two.number (omega (arith, same, x, y)) in omega (arith, m, n));
      hop = λ same equal.
          (let first : channel_number a.chan ≡ channel_number b.chan = omega (arith, same, x, y) in
          let second : channel_number b.chan ≡ channel_number d.chan = omega (arith, same, x, y) in
          let m = one.number first in
          let n = two.number second in
          let g = one.hop first (omega (arith, m, n, equal)) in
          let h = two.hop second (omega (arith, m, n, equal)) in
          omega (arith, g, h));
    }

pub not-both : (x y : HopRow) → IsBelow x y → IsBelow y x → ⊥
not-both x y one two =
    let a = one.chan in
    let b = two.chan in
    let same : channel_number y.chan ≡ channel_number x.chan = omega (arith, a, b) in
    let m = one.number same in
    let n = two.number (sym same) in
    let equal : y.number ≡ x.number = omega (arith, m, n) in
    let g = one.hop same equal in
    let h = two.hop (sym same) (sym equal) in
    omega (arith, g, h)

-- ---- lists that climb

pub record IsApart (row x : HopRow) : Type 0 where
  pub differ : channel_number x.chan ≡ channel_number row.chan → x.number ≡ row.number → x.hop ≡ row.hop → ⊥

abbrev pub Climbs : List HopRow → Type 0
Climbs [] = Unit {0}
Climbs (row ∷ rows) = Each (λ x. IsBelow x row) rows × Climbs rows

-- no two have one place
abbrev pub AreApart : List HopRow → Type 0
AreApart [] = Unit {0}
AreApart (row ∷ rows) = Each (IsApart row) rows × AreApart rows

-- ---- one row put

put-each : (P : HopRow → Type 0) (row : HopRow) (rows : List HopRow) → P row → Each P rows → Each P (put_row row rows)
unfolding put_row
put-each P row [] here all = (here, tt)
put-each P row (other ∷ rows) here all = elim (cases_Bool (comes_before other row)) [
  | inl before ↦ rw before (all.0, put-each P row rows here all.1)
  | inr after ↦ rw after (here, all)
]

put-among : (x row : HopRow) (rows : List HopRow) → Among x (put_row row rows) → (x ≡ row) ⊎ Among x rows
unfolding put_row
put-among x row [] (inl same) = inl same
put-among x row [] (inr none) = absurd none
put-among x row (other ∷ rows) among = by-test (comes_before other row) among (put-among x row rows) where
  by-test : (b : Bool) → Among x (cond b (other ∷ put_row row rows) (row ∷ other ∷ rows)) → (Among x (put_row row rows) → (x ≡ row) ⊎ Among x rows) → (x ≡ row) ⊎ Among x (other ∷ rows)
  by-test true (inl same) rest = inr (inl same)
  by-test true (inr among) rest = elim (rest among) [ inl same ↦ inl same | inr there ↦ inr (inr there) ]
  by-test false (inl same) rest = inl same
  by-test false (inr among) rest = inr among

among-put : (x row : HopRow) (rows : List HopRow) → (x ≡ row) ⊎ Among x rows → Among x (put_row row rows)
unfolding put_row
among-put x row [] (inl same) = inl same
among-put x row [] (inr none) = absurd none
among-put x row (other ∷ rows) there = by-test (comes_before other row) there (among-put x row rows) where
  by-test : (b : Bool) → (x ≡ row) ⊎ Among x (other ∷ rows) → ((x ≡ row) ⊎ Among x rows → Among x (put_row row rows)) → Among x (cond b (other ∷ put_row row rows) (row ∷ other ∷ rows))
  by-test true (inl same) rest = inr (rest (inl same))
  by-test true (inr (inl same)) rest = inl same
  by-test true (inr (inr among)) rest = inr (rest (inr among))
  by-test false (inl same) rest = inl same
  by-test false (inr among) rest = inr among

put-climbs : (row : HopRow) (rows : List HopRow) → Each (IsApart row) rows → Climbs rows → Climbs (put_row row rows)
unfolding put_row
put-climbs row [] apart climbs = (tt, tt)
put-climbs row (other ∷ rows) apart climbs = by-place (stands row other) (put-climbs row rows apart.1 climbs.1) where
  by-place : Stands row other → Climbs (put_row row rows) → Climbs (put_row row (other ∷ rows))
  by-place (Before below) rest = (let before = before-is other row below in rw before (put-each (λ x. IsBelow x other) row rows below climbs.0, rest))
  by-place (Same chan number hop) rest = absurd (apart.0.differ chan number hop)
  by-place (After above) rest =
      let after = not-before other row above in
      rw after ((above, Each-if (λ x. IsBelow x other) (λ x. IsBelow x row) rows (λ x below. below-trans row other x above below) climbs.0), climbs)

put-off : (test : HopRow → Bool) (row : HopRow) (rows : List HopRow) → test row ≡ false → filter test (put_row row rows) ≡ filter test rows
unfolding put_row
put-off test row [] off = rw off refl
put-off test row (other ∷ rows) off = elim (cases_Bool (comes_before other row)) [
  | inl before ↦ (let rest = put-off test row rows off in rw (before, rest) refl)
  | inr after ↦ rw (after, off) refl
]

put-on : (test : HopRow → Bool) (row : HopRow) (rows : List HopRow) → test row ≡ true → Each (λ x. test x ≡ true → comes_before x row ≡ false) rows → filter test (put_row row rows) ≡ row ∷ filter test rows
unfolding put_row
put-on test row [] on later = rw on refl
put-on test row (other ∷ rows) on later = elim (cases_Bool (comes_before other row)) [
  | inr after ↦ rw (after, on) refl
  | inl before ↦ elim (cases_Bool (test other)) [
    | inl also ↦ absurd (let clash : true ≡ false = sym before ∙ later.0 also in cc)
    | inr not ↦ (let rest = put-on test row rows on later.1 in rw (before, not, rest) refl)
  ]
]

-- ---- the whole list

pub order-among : (x : HopRow) (rows : List HopRow) → Among x (in_order rows) → Among x rows
unfolding in_order
order-among x [] among = absurd among
order-among x (row ∷ rows) among = elim (put-among x row (in_order rows) among) [ inl same ↦ inl same | inr there ↦ inr (order-among x rows there) ]

pub among-order : (x : HopRow) (rows : List HopRow) → Among x rows → Among x (in_order rows)
unfolding in_order
among-order x [] among = absurd among
among-order x (row ∷ rows) (inl same) = among-put x row (in_order rows) (inl same)
among-order x (row ∷ rows) (inr among) = among-put x row (in_order rows) (inr (among-order x rows among))

each-order : (P : HopRow → Type 0) (rows : List HopRow) → Each P rows → Each P (in_order rows)
unfolding in_order
each-order P [] all = tt
each-order P (row ∷ rows) all = put-each P row (in_order rows) all.0 (each-order P rows all.1)

pub order-climbs : (rows : List HopRow) → AreApart rows → Climbs (in_order rows)
unfolding in_order
order-climbs [] apart = tt
order-climbs (row ∷ rows) apart = put-climbs row (in_order rows) (each-order (IsApart row) rows apart.0) (order-climbs rows apart.1)

-- the rows at a hop of a channel rise by their numbers
abbrev pub Rise : List HopRow → Type 0
Rise [] = Unit {0}
Rise (row ∷ rows) = Each (λ x. row.number < x.number) rows × Rise rows

pub counted-above : (n : ℕ) (rows : List HopRow) → AreCounted n rows → Each (λ x. n < x.number) rows
counted-above n [] are = tt
counted-above n (row ∷ rows) are = ((let e = are.0 in omega (arith, e)), Each-if (λ x. suc n < x.number) (λ x. n < x.number) rows (λ x more. omega (arith, more)) (counted-above (suc n) rows are.1))

pub counted-rise : (n : ℕ) (rows : List HopRow) → AreCounted n rows → Rise rows
counted-rise n [] are = tt
counted-rise n (row ∷ rows) are = (Each-if (λ x. suc n < x.number) (λ x. row.number < x.number) rows (λ x more. (let e = are.0 in omega (arith, e, more))) (counted-above (suc n) rows are.1), counted-rise (suc n) rows are.1)

abbrev pub AllRise : List HopRow → Type 0
AllRise rows = (c hop : ℕ) → Rise (rows_at c hop rows)

pub is-own : (row : HopRow) → is_at (channel_number row.chan) row.hop row ≡ true
is-own row = (let a = eq-eqb (channel_number row.chan) (channel_number row.chan) refl in let b = eq-eqb row.hop row.hop refl in rw (a, b) refl)

rise-rest : (row : HopRow) (rows : List HopRow) → AllRise (row ∷ rows) → AllRise rows
rise-rest row rows rise c hop =
    elim (cases_Bool (is_at c hop row)) [
      | inl on ↦ (let now : Rise (row ∷ rows_at c hop rows) = rw on at (rise c hop) in now.1)
      | inr off ↦ (let now : Rise (rows_at c hop rows) = rw off at (rise c hop) in now)
    ]

-- a row of those at its hop comes before the later ones
rise-later : (row : HopRow) (rows : List HopRow) → AllRise (row ∷ rows) → Each (λ x. is_at (channel_number row.chan) row.hop x ≡ true → row.number < x.number) rows
rise-later row rows rise =
    let on = is-own row in
    let now : Rise (row ∷ rows_at (channel_number row.chan) row.hop rows) = rw on at (rise (channel_number row.chan) row.hop) in
    Each-if_passes (λ x. row.number < x.number) (is_at (channel_number row.chan) row.hop) rows now.0

pub rise-apart : (rows : List HopRow) → AllRise rows → AreApart rows
rise-apart [] rise = tt
rise-apart (row ∷ rows) rise = (
  Each-if (λ x. is_at (channel_number row.chan) row.hop x ≡ true → row.number < x.number) (IsApart row) rows
      (λ x later. record { differ = λ chan number hop. (let a = eq-eqb (channel_number x.chan) (channel_number row.chan) chan in let b = eq-eqb x.hop row.hop hop in let at : is_at (channel_number row.chan) row.hop x ≡ true = rw (a, b) refl in let more = later at in omega (arith, more, number)) })
      (rise-later row rows rise),
  rise-apart rows (rise-rest row rows rise),
)

pub rows-stay : (rows : List HopRow) → AllRise rows → (c hop : ℕ) → rows_at c hop (in_order rows) ≡ rows_at c hop rows
unfolding in_order
rows-stay [] rise c hop = refl
rows-stay (row ∷ rows) rise c hop =
    let rest = rows-stay rows (rise-rest row rows rise) c hop in
    elim (cases_Bool (is_at c hop row)) [
      | inr off ↦ put-off (is_at c hop) row (in_order rows) off ∙ rest ∙ (rw off refl)
      | inl on ↦
          (let parts = at-parts c hop row on in
          let later = each-order (λ x. is_at (channel_number row.chan) row.hop x ≡ true → row.number < x.number) rows (rise-later row rows rise) in
          put-on (is_at c hop) row (in_order rows) on
          (Each-if (λ x. is_at (channel_number row.chan) row.hop x ≡ true → row.number < x.number) (λ x. is_at c hop x ≡ true → comes_before x row ≡ false) (in_order rows)
          (λ x more at.
          let own = at-parts c hop x at in
          let here : is_at (channel_number row.chan) row.hop x ≡ true = ap (λ n. is_at n row.hop x) parts.0 ∙ ap (λ h. is_at c h x) parts.1 ∙ at in
          let less = more here in
          let chan : channel_number x.chan ≡ channel_number row.chan = own.0 ∙ sym parts.0 in
          not-before x row (record { chan = omega (arith, chan); number = λ _. omega (arith, less); hop = λ _ e. absurd (omega (arith, e, less)) })) later)
          ∙ ap (λ rs. row ∷ rs) rest ∙ (rw on refl))
    ]

-- ---- places in a list that climbs

-- two rows with one place are one
pub one-place : (rows : List HopRow) (x y : HopRow) → Climbs rows → Among x rows → Among y rows → channel_number x.chan ≡ channel_number y.chan → x.number ≡ y.number → x.hop ≡ y.hop → x ≡ y
one-place [] x y climbs one two chan number hop = absurd one
one-place (row ∷ rows) x y climbs (inl one) (inl two) chan number hop = one ∙ sym two
one-place (row ∷ rows) x y climbs (inl one) (inr two) chan number hop =
    absurd (let below = Each-among (λ z. IsBelow z row) y rows climbs.0 two in let own : IsBelow y x = subst (IsBelow y) (sym one) below in let h = own.hop chan number in omega (arith, h, hop))
one-place (row ∷ rows) x y climbs (inr one) (inl two) chan number hop =
    absurd (let below = Each-among (λ z. IsBelow z row) x rows climbs.0 one in let own : IsBelow x y = subst (IsBelow x) (sym two) below in let h = own.hop (sym chan) (sym number) in omega (arith, h, hop))
one-place (row ∷ rows) x y climbs (inr one) (inr two) chan number hop = one-place rows x y climbs.1 one two chan number hop
