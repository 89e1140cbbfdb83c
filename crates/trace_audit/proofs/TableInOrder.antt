-- The rows of a table whose rows all pass stand in the order of channel, packet and hop, and those at a hop of a channel are
-- numbered from 1.
use Rattle.std.proofs.Common.{◌≡◌, ℕ, suc, ◌-◌, ◌<◌, ◌≤◌, true, false, List, [], ◌∷◌, length, Option, Some, None, ◌⊎◌, refl, sym, ap, ◌∙◌, subst, inl, inr, arith}
use Rattle.std.proofs.lemmas.Bool.{cases_Bool, eqb-true, ltb-true, leb-true, and_parts, or_cases, cases_eq, ne_eqb, eq-eqb, and_from}
use Rattle.std.specs.Prelude.{nat_eq, nat_le, nat_lt}
use Rattle.net_units.specs.Numbers.{channel_number}
use Rattle.net_units.specs.declared.levels.Levels.{Levels}
use Rattle.link_steps.specs.Lists.{Each, Among}
use Rattle.link_steps.proofs.SearchAndFilter.{Each-if, Each-filter}
use Rattle.link_steps.proofs.FoundElements.{Each-passes}
use Rattle.call_script.specs.Parts.{PlanParts}
use Rattle.run_record.specs.declared.rows.HopRow.{HopRow}
use Rattle.trace_audit.specs.Above.{is_at, is_of, rows_at, row_at, hop_before, packet_before}
use Rattle.trace_audit.specs.Checks.{is_there, begins, goes_on, is_next_packet, follows_row, follows, is_in_order, AllPass}
use Rattle.trace_audit.proofs.PassingRow.{passes-told}

-- x stands before the row in the order of channel, packet and hop
pub record IsBelow (row x : HopRow) : Type 0 where
  pub chan : channel_number x.chan ≤ channel_number row.chan
  pub number : channel_number x.chan ≡ channel_number row.chan → x.number ≤ row.number
  pub hop : channel_number x.chan ≡ channel_number row.chan → x.number ≡ row.number → x.hop < row.hop

-- what it tells that a row follows the one above
pub data Follows (last row : HopRow) : Type 0 where
  GoesOn : channel_number row.chan ≡ channel_number last.chan → row.number ≡ last.number → row.hop ≡ suc last.hop → Follows last row
  IsNext : channel_number row.chan ≡ channel_number last.chan → row.number ≡ suc last.number → row.hop ≡ 1 → Follows last row
  IsLater : channel_number last.chan < channel_number row.chan → row.number ≡ 1 → row.hop ≡ 1 → Follows last row

pub follows-told : (last row : HopRow) → follows_row last row ≡ true → Follows last row
follows-told last row is =
    elim (cases_Bool (nat_eq (channel_number row.chan) (channel_number last.chan))) [
      | inl same ↦
          (let chan = eqb-true (channel_number row.chan) (channel_number last.chan) same in
          elim (or_cases (goes_on last row) (is_next_packet last row) (rw same at is)) [
            | inl on ↦ (let both = and_parts (nat_eq row.number last.number) (nat_eq row.hop (suc last.hop)) on in GoesOn chan (eqb-true row.number last.number both.0) (eqb-true row.hop (suc last.hop) both.1))
            | inr next ↦ (let both = and_parts (nat_eq row.number (suc last.number)) (nat_eq row.hop 1) next in IsNext chan (eqb-true row.number (suc last.number) both.0) (eqb-true row.hop 1 both.1))
          ])
      | inr other ↦
          (let both = and_parts (nat_lt (channel_number last.chan) (channel_number row.chan)) (begins row) (rw other at is) in
          let first = and_parts (nat_eq row.hop 1) (nat_eq row.number 1) both.1 in
          IsLater (ltb-true (channel_number last.chan) (channel_number row.chan) both.0) (eqb-true row.number 1 first.1) (eqb-true row.hop 1 first.0))
    ]

-- numbers and hops count from 1
pub record CountsFromOne (row : HopRow) : Type 0 where
  pub number : 1 ≤ row.number
  pub hop : 1 ≤ row.hop

counts-follow : (last row : HopRow) → Follows last row → CountsFromOne last → CountsFromOne row
counts-follow last row (GoesOn chan number hop) counts = record { number = (let n = counts.number in omega (arith, n, number)); hop = omega (arith, hop) }
counts-follow last row (IsNext chan number hop) counts = record { number = omega (arith, number); hop = omega (arith, hop) }
counts-follow last row (IsLater chan number hop) counts = record { number = omega (arith, number); hop = omega (arith, hop) }

below-last : (last row : HopRow) → Follows last row → CountsFromOne last → IsBelow row last
below-last last row (GoesOn chan number hop) counts = record { chan = omega (arith, chan); number = λ _. omega (arith, number); hop = λ _ _. omega (arith, hop) }
below-last last row (IsNext chan number hop) counts = record { chan = omega (arith, chan); number = λ _. omega (arith, number); hop = λ _ same. absurd (omega (arith, same, number)) }
below-last last row (IsLater chan number hop) counts = record { chan = omega (arith, chan); number = λ same. absurd (omega (arith, same, chan)); hop = λ same _. absurd (omega (arith, same, chan)) }

below-all : (last row x : HopRow) → Follows last row → IsBelow last x → IsBelow row x
below-all last row x (GoesOn chan number hop) below =
    let c = below.chan in
    record {
      chan = omega (arith, c, chan);
      number = λ same. (let n = below.number (omega (arith, same, chan)) in omega (arith, n, number));
      hop = λ same equal. (let h = below.hop (omega (arith, same, chan)) (omega (arith, equal, number)) in omega (arith, h, hop));
    }
below-all last row x (IsNext chan number hop) below =
    let c = below.chan in
    record {
      chan = omega (arith, c, chan);
      number = λ same. (let n = below.number (omega (arith, same, chan)) in omega (arith, n, number));
      hop = λ same equal. (let n = below.number (omega (arith, same, chan)) in absurd (omega (arith, n, number, equal)));
    }
below-all last row x (IsLater chan number hop) below =
    let c = below.chan in
    record {
      chan = omega (arith, c, chan);
      number = λ same. absurd (omega (arith, same, chan, c));
      hop = λ same _. absurd (omega (arith, same, chan, c));
    }

-- a first row
first-counts : (row : HopRow) → begins row ≡ true → CountsFromOne row
first-counts row is =
    let both = and_parts (nat_eq row.hop 1) (nat_eq row.number 1) is in
    let h = eqb-true row.hop 1 both.0 in
    let n = eqb-true row.number 1 both.1 in
    record { number = omega (arith, n); hop = omega (arith, h) }

pub order-parts : (above : List HopRow) (row : HopRow) → is_in_order above row ≡ true → (follows above row ≡ true) × ((nat_le row.number 1 ≡ true) ⊎ (is_there (packet_before above row) ≡ true))
unfolding is_in_order
order-parts above row is =
    let both = and_parts (follows above row) _ is in
    (both.0, or_cases (nat_le row.number 1) (is_there (packet_before above row)) both.1)

-- a row that stands in its order below rows that all pass
pub counts-order : (plan : PlanParts) (levels : List (Option Levels)) (row : HopRow) (above : List HopRow) → AllPass plan levels above → is_in_order above row ≡ true → CountsFromOne row
unfolding AllPass
counts-order plan levels row [] all order = first-counts row (order-parts [] row order).0
counts-order plan levels row (last ∷ above) all order =
    counts-follow last row (follows-told last row (order-parts (last ∷ above) row order).0) (counts-order plan levels last above all.0 (passes-told plan levels above last all.1).order)

pub below-order : (plan : PlanParts) (levels : List (Option Levels)) (row : HopRow) (above : List HopRow) → AllPass plan levels above → is_in_order above row ≡ true → Each (IsBelow row) above
unfolding AllPass
below-order plan levels row [] all order = tt
below-order plan levels row (last ∷ above) all order =
    let how = follows-told last row (order-parts (last ∷ above) row order).0 in
    let before = (passes-told plan levels above last all.1).order in
    (below-last last row how (counts-order plan levels last above all.0 before), Each-if (IsBelow last) (IsBelow row) above (λ x below. below-all last row x how below) (below-order plan levels last above all.0 before))

-- one that passes
pub counts : (plan : PlanParts) (levels : List (Option Levels)) (row : HopRow) (above : List HopRow) → AllPass plan levels (row ∷ above) → CountsFromOne row
unfolding AllPass
counts plan levels row above all = counts-order plan levels row above all.0 (passes-told plan levels above row all.1).order

pub each-counts : (plan : PlanParts) (levels : List (Option Levels)) (rows : List HopRow) → AllPass plan levels rows → Each CountsFromOne rows
unfolding AllPass
each-counts plan levels [] all = tt
each-counts plan levels (row ∷ above) all = (counts plan levels row above all, each-counts plan levels above all.0)

-- ---- numbers

-- newest first, each is the next after those before it
abbrev pub RowsAreNumbered : List HopRow → Type 0
RowsAreNumbered [] = Unit {0}
RowsAreNumbered (row ∷ rows) = (row.number ≡ suc (length rows)) × RowsAreNumbered rows

pub at-parts : (c hop : ℕ) (row : HopRow) → is_at c hop row ≡ true → (channel_number row.chan ≡ c) × (row.hop ≡ hop)
at-parts c hop row is =
    let both = and_parts (nat_eq (channel_number row.chan) c) (nat_eq row.hop hop) is in
    (eqb-true (channel_number row.chan) c both.0, eqb-true row.hop hop both.1)

pub number-le : (rows : List HopRow) (x : HopRow) → RowsAreNumbered rows → Among x rows → x.number ≤ length rows
number-le [] x are among = absurd among
number-le (row ∷ rows) x are (inl same) = (let e : x.number ≡ row.number = ap (λ r. r.number) same in let f = are.0 in omega (arith, e, f))
number-le (row ∷ rows) x are (inr among) = (let h = number-le rows x are.1 among in omega (arith, h))

-- a row that is found is among those at its hop
pub found-among : (c number hop : ℕ) (rows : List HopRow) (x : HopRow) → row_at c number hop rows ≡ Some x → Among x (rows_at c hop rows) × (x.number ≡ number)
found-among c number hop [] x found = absurd (let clash : None ≡ Some x = found in cc)
found-among c number hop (row ∷ rows) x found =
    elim (cases_Bool (is_at c hop row)) [
      | inl at ↦ elim (cases_Bool (nat_eq row.number number)) [
        | inl same ↦ (let is : Some row ≡ Some x = rw (at, same) at found in let e : row ≡ x = cc in (rw at (inl (sym e)), ap (λ r. r.number) (sym e) ∙ eqb-true row.number number same))
        | inr other ↦ (let rest = found-among c number hop rows x (rw (at, other) at found) in (rw at (inr rest.0), rest.1))
      ]
      | inr off ↦ (let rest = found-among c number hop rows x (rw off at found) in (rw off rest.0, rest.1))
    ]

-- rows at a hop are below a row of that hop with the number of more than there are
head-below : (c hop : ℕ) (row : HopRow) (above : List HopRow) → is_at c hop row ≡ true → Each (IsBelow row) (rows_at c hop above) → Each (λ x. is_at c hop x ≡ true) (rows_at c hop above) → RowsAreNumbered (rows_at c hop above) → 1 ≤ row.number → length (rows_at c hop above) < row.number
head-below c hop row above at below are numbered some = by-rows (rows_at c hop above) below are numbered where
  by-rows : (rows : List HopRow) → Each (IsBelow row) rows → Each (λ x. is_at c hop x ≡ true) rows → RowsAreNumbered rows → length rows < row.number
  by-rows [] below are numbered = omega (arith, some)
  by-rows (x ∷ rows) below are numbered =
      let one = at-parts c hop row at in
      let two = at-parts c hop x are.0 in
      let same : channel_number x.chan ≡ channel_number row.chan = two.0 ∙ sym one.0 in
      let n = below.0.number same in
      let number = numbered.0 in
      elim (cases_eq x.number row.number) [
        | inl equal ↦ absurd (let h = below.0.hop same equal in let a = one.1 in let b = two.1 in omega (arith, h, a, b))
        | inr apart ↦ (let neq : (suc (length rows) ≡ row.number) → ⊥ = λ e. apart (number ∙ e) in elim (cases_eq (suc (length rows)) row.number) [ inl e ↦ absurd (neq e) | inr f ↦ omega (arith, n, number, f) ])
      ]

-- a row's number is the next of those at its hop above it
number-next : (above : List HopRow) (row : HopRow) → is_in_order above row ≡ true → length (rows_at (channel_number row.chan) row.hop above) < row.number → RowsAreNumbered (rows_at (channel_number row.chan) row.hop above) → row.number ≡ suc (length (rows_at (channel_number row.chan) row.hop above))
number-next above row order less are =
    elim (order-parts above row order).1 [
      | inl first ↦ (let n = leb-true row.number 1 first in omega (arith, n, less))
      | inr there ↦ by-before (packet_before above row) refl there
    ] where
      by-before : (found : Option HopRow) → packet_before above row ≡ found → is_there found ≡ true → row.number ≡ suc (length (rows_at (channel_number row.chan) row.hop above))
      by-before None found there = absurd (let clash : false ≡ true = there in cc)
      by-before (Some x) found there =
          let is = found-among (channel_number row.chan) (row.number - 1) row.hop above x found in
          let most = number-le (rows_at (channel_number row.chan) row.hop above) x are is.0 in
          let number = is.1 in
          omega (arith, most, number, less)

pub next-order : (plan : PlanParts) (levels : List (Option Levels)) (above : List HopRow) (row : HopRow) → AllPass plan levels above → is_in_order above row ≡ true → (c hop : ℕ) → is_at c hop row ≡ true → RowsAreNumbered (rows_at c hop above) → row.number ≡ suc (length (rows_at c hop above))
next-order plan levels above row all order c hop at rest =
    let parts = at-parts c hop row at in
    let same : rows_at (channel_number row.chan) row.hop above ≡ rows_at c hop above = ap (λ n. rows_at n row.hop above) parts.0 ∙ ap (λ h. rows_at c h above) parts.1 in
    let some = (counts-order plan levels row above all order).number in
    let below = Each-filter (IsBelow row) (is_at c hop) above (below-order plan levels row above all order) in
    let less : length (rows_at c hop above) < row.number = head-below c hop row above at below (Each-passes (is_at c hop) above) rest some in
    number-next above row order (subst (λ rows. length rows < row.number) (sym same) less) (subst RowsAreNumbered (sym same) rest) ∙ ap (λ rows. suc (length rows)) same

pub numbered : (plan : PlanParts) (levels : List (Option Levels)) (rows : List HopRow) → AllPass plan levels rows → (c hop : ℕ) → RowsAreNumbered (rows_at c hop rows)
unfolding AllPass
numbered plan levels [] all c hop = tt
numbered plan levels (row ∷ above) all c hop =
    let rest : RowsAreNumbered (rows_at c hop above) = numbered plan levels above all.0 c hop in
    elim (cases_Bool (is_at c hop row)) [
      | inl at ↦ rw at (next-order plan levels above row all.0 (passes-told plan levels above row all.1).order c hop at rest, rest)
      | inr off ↦ rw off rest
    ]

-- ---- the hop before

-- the row above is of the packet at the hop before
pub record IsNear (above : List HopRow) (row near : HopRow) : Type 0 where
  pub rest : List HopRow
  pub is : above ≡ near ∷ rest
  pub chan : channel_number near.chan ≡ channel_number row.chan
  pub number : near.number ≡ row.number
  pub hop : row.hop ≡ suc near.hop
  pub found : hop_before above row ≡ Some near

pub near-found : (last row : HopRow) (rest : List HopRow) → channel_number row.chan ≡ channel_number last.chan → row.number ≡ last.number → row.hop ≡ suc last.hop → 1 ≤ last.hop → hop_before (last ∷ rest) row ≡ Some last
near-found last row rest chan number hop some =
    let far : nat_eq row.hop 1 ≡ false = ne_eqb row.hop 1 (λ e. (let x : suc last.hop ≡ 1 = sym hop ∙ e in omega (arith, x, some))) in
    let less : row.hop - 1 ≡ last.hop = omega (arith, hop) in
    let here : is_of (channel_number row.chan) row.number (row.hop - 1) last ≡ true = and_from _ _ (and_from _ _ (eq-eqb (channel_number last.chan) (channel_number row.chan) (sym chan)) (eq-eqb last.hop (row.hop - 1) (sym less))) (eq-eqb last.number row.number (sym number)) in
    rw far (rw here refl)

pub near-order : (plan : PlanParts) (levels : List (Option Levels)) (above : List HopRow) (row : HopRow) → AllPass plan levels above → is_in_order above row ≡ true → 2 ≤ row.hop → (near : HopRow) × IsNear above row near
unfolding AllPass
near-order plan levels [] row all order far = absurd (let both = and_parts (nat_eq row.hop 1) (nat_eq row.number 1) (order-parts [] row order).0 in let h = eqb-true row.hop 1 both.0 in omega (arith, h, far))
near-order plan levels (last ∷ rest) row all order far = by-how (follows-told last row (order-parts (last ∷ rest) row order).0) where
  by-how : Follows last row → (near : HopRow) × IsNear (last ∷ rest) row near
  by-how (GoesOn chan number hop) = (last, record { rest = rest; is = refl; chan = sym chan; number = sym number; hop = hop; found = near-found last row rest chan number hop (counts plan levels last rest all).hop })
  by-how (IsNext chan number hop) = absurd (omega (arith, hop, far))
  by-how (IsLater chan number hop) = absurd (omega (arith, hop, far))

pub near-row : (plan : PlanParts) (levels : List (Option Levels)) (above : List HopRow) (row : HopRow) → AllPass plan levels (row ∷ above) → 2 ≤ row.hop → (near : HopRow) × IsNear above row near
unfolding AllPass
near-row plan levels above row all far = near-order plan levels above row all.0 (passes-told plan levels above row all.1).order far

-- none before the first hop
pub none-before : (above : List HopRow) (row : HopRow) → row.hop ≡ 1 → hop_before above row ≡ None
none-before above row hop = (let one = eq-eqb row.hop 1 hop in rw one refl)
