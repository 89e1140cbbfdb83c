-- The rows of a table one after another: what is found of them, and the rows of each channel so far.
use Rattle.std.proofs.Common.{◌≡◌, ◌≢◌, ◌⊎◌, ℕ, zero, suc, ◌+◌, ◌<◌, ◌≤◌, true, false, Option, Some, None, List, [], ◌∷◌, ◌++◌, length, drop, take, get_or, set, reverse, refl, sym, ap, ◌∙◌, subst, inl, inr, arith}
use Rattle.std.proofs.Math.Seq.{drop-cons}
use Rattle.std.proofs.lemmas.Bool.{cases_Bool, eqb-true, eqb-false, le-ltb, leb-true, lt-ltb, and_right}
use Rattle.std.proofs.lemmas.List.{append_assoc, append-nil, drop_all, length-set, reverse-append, take_more}
use Rattle.std.proofs.lemmas.Option.{same_Some, slice_get_cases, slice_get_within}
use Rattle.std.specs.List.{slice_get}
use Rattle.std.specs.Prelude.{Result, Ok, Err, OnOk, nat_eq, nat_le}
use Rattle.packet_audit.specs.Promises.{is_of, rows_of, delay_fault_after, delay_fault_of, found_at, found_from, found_in, jitter_fault_after, jitter_fault_of, listed}
use Rattle.packet_audit.specs.declared.rows.Fault.TheVariants.{BeforeSent}
use Rattle.packet_audit.specs.Trails.{TrailStands, TrailsStand}
use Rattle.packet_audit.specs.declared.rows.Found.{Found}
use Rattle.packet_audit.specs.declared.rows.Promise.{Promise}
use Rattle.packet_audit.specs.declared.rows.Row.{Row}
use Rattle.packet_audit.specs.declared.trail.Trail.{Trail}
use Rattle.net_units.proofs.ListPlaces.{get-set-same, get-set-other}

-- ---- what is found

found-one : (promises : List Promise) (number : ℕ) (above : List Row) (row : Row) (rows : List Row) → found_from promises number above (row ∷ rows) ≡ found_at promises number above row ++ found_from promises (suc number) (row ∷ above) rows
unfolding found_from
found-one promises number above row rows = refl

rest-at : (rows : List Row) (i : ℕ) (none : Row) → i < length rows → drop i rows ≡ get_or rows i none ∷ drop (i + 1) rows
rest-at rows i none inside = (let next : suc i ≡ i + 1 = omega arith in drop-cons rows i none inside ∙ ap (λ k. get_or rows i none ∷ drop k rows) next)

pub above-at : (rows : List Row) (i : ℕ) (none : Row) → i < length rows → reverse (take (i + 1) rows) ≡ get_or rows i none ∷ reverse (take i rows)
above-at rows i none inside = ap reverse (take_more rows i none inside) ∙ reverse-append (take i rows) (get_or rows i none ∷ [])

pub found-none : (promises : List Promise) (rows : List Row) (found : List Found) → found ≡ [] → found ++ found_from promises (0 + 1) (reverse (take 0 rows)) (drop 0 rows) ≡ found_in promises rows
found-none promises rows found none = ap (λ xs. xs ++ found_from promises 1 [] rows) none

pub found-more : (promises : List Promise) (rows : List Row) (i number : ℕ) (none : Row) (before after : List Found) → i < length rows → number ≡ i + 1
    → before ++ found_from promises (i + 1) (reverse (take i rows)) (drop i rows) ≡ found_in promises rows
    → after ≡ before ++ found_at promises number (reverse (take i rows)) (get_or rows i none)
    → after ++ found_from promises (i + 1 + 1) (reverse (take (i + 1) rows)) (drop (i + 1) rows) ≡ found_in promises rows
found-more promises rows i number none before after inside at so_far one =
    let row = get_or rows i none in
    let above = reverse (take i rows) in
    let left = drop (i + 1) rows in
    let here = found_at promises (i + 1) above row in
    let next : i + 1 + 1 ≡ suc (i + 1) = omega arith in
    ap (λ xs. xs ++ found_from promises (i + 1 + 1) (reverse (take (i + 1) rows)) left) (one ∙ ap (λ n. before ++ found_at promises n above row) at)
    ∙ ap (λ xs. (before ++ here) ++ found_from promises (i + 1 + 1) xs left) (above-at rows i none inside)
    ∙ append_assoc before here (found_from promises (i + 1 + 1) (row ∷ above) left)
    ∙ ap (λ n. before ++ (here ++ found_from promises n (row ∷ above) left)) next
    ∙ ap (λ xs. before ++ xs) (sym (found-one promises (i + 1) above row left) ∙ ap (found_from promises (i + 1) above) (sym (rest-at rows i none inside)))
    ∙ so_far

pub found-all : (promises : List Promise) (rows : List Row) (i : ℕ) (found : List Found) → length rows ≤ i → found ++ found_from promises (i + 1) (reverse (take i rows)) (drop i rows) ≡ found_in promises rows → found ≡ found_in promises rows
unfolding found_from
found-all promises rows i found past so_far =
    sym (ap (λ xs. found ++ found_from promises (i + 1) (reverse (take i rows)) xs) (drop_all i rows past) ∙ append-nil found) ∙ so_far

-- of a row that arrived before it was sent, and of any other

early-by : (number : ℕ) (found : Option Promise) (promise : Promise) (above : List Row) (row : Row) → found ≡ Some promise → row.arrived < row.sent
    → listed number (Some BeforeSent) ≡ listed number (delay_fault_of found above row) ++ listed number (jitter_fault_of found above row)
early-by number None promise above row is early = absurd (cc)
early-by number (Some one) promise above row is early = rw (lt-ltb row.arrived row.sent early) refl

pub early-found : (promises : List Promise) (number : ℕ) (promise : Promise) (above : List Row) (row : Row) → slice_get promises row.channel ≡ Some promise → row.arrived < row.sent → listed number (Some BeforeSent) ≡ found_at promises number above row
early-found promises number promise above row promised early = early-by number (slice_get promises row.channel) promise above row promised early

own-by : (number : ℕ) (found : Option Promise) (promise : Promise) (above : List Row) (row : Row) → found ≡ Some promise → row.sent ≤ row.arrived
    → listed number (delay_fault_after promise (rows_of row.channel above) row) ++ listed number (jitter_fault_after promise (rows_of row.channel above) row)
    ≡ listed number (delay_fault_of found above row) ++ listed number (jitter_fault_of found above row)
own-by number None promise above row is sane = absurd (cc)
own-by number (Some one) promise above row is sane =
    rw (le-ltb row.arrived row.sent sane) (ap (λ (p : Promise). listed number (delay_fault_after p (rows_of row.channel above) row) ++ listed number (jitter_fault_after p (rows_of row.channel above) row)) (same_Some promise one (sym is)))

pub own-found : (promises : List Promise) (number : ℕ) (promise : Promise) (above : List Row) (row : Row) → slice_get promises row.channel ≡ Some promise → row.sent ≤ row.arrived
    → listed number (delay_fault_after promise (rows_of row.channel above) row) ++ listed number (jitter_fault_after promise (rows_of row.channel above) row) ≡ found_at promises number above row
own-found promises number promise above row promised sane = own-by number (slice_get promises row.channel) promise above row promised sane

-- ---- the rows of a channel

rows-same : (channel : ℕ) (row : Row) (above : List Row) → is_of channel row ≡ false → rows_of channel (row ∷ above) ≡ rows_of channel above
unfolding rows_of
rows-same channel row above off = rw off refl

rows-more : (channel : ℕ) (row : Row) (above : List Row) → is_of channel row ≡ true → rows_of channel (row ∷ above) ≡ row ∷ rows_of channel above
unfolding rows_of
rows-more channel row above on = rw on refl

other-off : (channel : ℕ) (row : Row) → nat_eq row.channel channel ≡ false → is_of channel row ≡ false
other-off channel row other = rw other refl

early-off : (channel : ℕ) (row : Row) → row.arrived < row.sent → is_of channel row ≡ false
early-off channel row early =
    elim (cases_Bool (nat_le row.sent row.arrived)) [
      | inl late ↦ absurd (let low = leb-true row.sent row.arrived late in omega (arith, low, early))
      | inr over ↦ and_right (nat_eq row.channel channel) (nat_le row.sent row.arrived) over
    ]

unknown-off : (promises : List Promise) (channel : ℕ) (row : Row) → slice_get promises row.channel ≡ None → channel < length promises → is_of channel row ≡ false
unknown-off promises channel row none inside =
    elim (cases_Bool (nat_eq row.channel channel)) [
      | inl same ↦
          absurd (let is = eqb-true row.channel channel same in elim (slice_get_cases promises channel).1 [
            | inl at ↦ (let clash : None ≡ Some at.0 = sym none ∙ ap (slice_get promises) is ∙ at.2 in cc)
            | inr past ↦ omega (arith, past.0, inside)
          ])
      | inr other ↦ other-off channel row other
    ]

-- ---- the trails of all channels

-- each is of no row
pub record AreFresh (trails : List Trail) : Type 0 where
  pub each : (n : ℕ) (trail : Trail) → slice_get trails n ≡ Some trail → (promise : Promise) → TrailStands promise trail []

pub fresh-none : AreFresh []
fresh-none = record { each = λ n trail at promise. absurd (cc) }

get-push : (xs : List Trail) (x : Trail) (n : ℕ) (y : Trail) → slice_get (xs ++ x ∷ []) n ≡ Some y → (slice_get xs n ≡ Some y) ⊎ (y ≡ x)
get-push [] x zero y is = inr (sym (same_Some x y is))
get-push [] x (suc n) y is = cc
get-push (z ∷ zs) x zero y is = inl is
get-push (z ∷ zs) x (suc n) y is = get-push zs x n y is

pub fresh-more : (trails : List Trail) (trail : Trail) → AreFresh trails → ((promise : Promise) → TrailStands promise trail []) → AreFresh (trails ++ trail ∷ [])
fresh-more trails trail fresh own = record {
  each = λ n one at promise.
      elim (get-push trails trail n one at) [
        | inl before ↦ fresh.each n one before promise
        | inr last ↦ subst (λ (t : Trail). TrailStands promise t []) (sym last) (own promise)
      ];
}

rows-none : (channel : ℕ) → [] ≡ rows_of channel []
unfolding rows_of
rows-none channel = refl

pub fresh-stand : (promises : List Promise) (trails : List Trail) → length trails ≡ length promises → AreFresh trails → TrailsStand promises trails []
fresh-stand promises trails same fresh = record {
  same = same;
  each = λ channel promise trail at there. subst (TrailStands promise trail) (rows-none channel) (fresh.each channel trail there promise);
}

left-alone : (promises : List Promise) (trails : List Trail) (row : Row) (above : List Row) → ((channel : ℕ) → channel < length promises → is_of channel row ≡ false) → TrailsStand promises trails above → TrailsStand promises trails (row ∷ above)
left-alone promises trails row above off stand = record {
  same = stand.same;
  each = λ channel promise trail at there. subst (TrailStands promise trail) (sym (rows-same channel row above (off channel (slice_get_within promises channel promise at)))) (stand.each channel promise trail at there);
}

pub unknown-left : (promises : List Promise) (trails : List Trail) (row : Row) (above : List Row) → slice_get promises row.channel ≡ None → TrailsStand promises trails above → TrailsStand promises trails (row ∷ above)
unknown-left promises trails row above none stand = left-alone promises trails row above (λ channel inside. unknown-off promises channel row none inside) stand

pub early-left : (promises : List Promise) (trails : List Trail) (row : Row) (above : List Row) → row.arrived < row.sent → TrailsStand promises trails above → TrailsStand promises trails (row ∷ above)
early-left promises trails row above early stand = left-alone promises trails row above (λ channel inside. early-off channel row early) stand

own-on : (row : Row) → row.sent ≤ row.arrived → is_of row.channel row ≡ true
own-on row sane = grind (arith, sane)

pub taken : (promises : List Promise) (trails trails' : List Trail) (trail trail' : Trail) (promise : Promise) (row : Row) (above : List Row) → slice_get promises row.channel ≡ Some promise → slice_get trails row.channel ≡ Some trail
    → trails' ≡ set trails row.channel trail' → row.sent ≤ row.arrived → (TrailStands promise trail (rows_of row.channel above) → TrailStands promise trail' (row ∷ rows_of row.channel above))
    → TrailsStand promises trails above → TrailsStand promises trails' (row ∷ above)
taken promises trails trails' trail trail' promise row above promised here is sane takes stand = record {
  same = ap length is ∙ length-set trails row.channel trail' ∙ stand.same;
  each = λ channel one own at there.
      elim (cases_Bool (nat_eq row.channel channel)) [
        | inl same ↦ same-channel channel one own at there (eqb-true row.channel channel same)
        | inr other ↦ other-channel channel one own at there other (eqb-false row.channel channel other)
      ];
} where
  same-channel : (channel : ℕ) (one : Promise) (own : Trail) → slice_get promises channel ≡ Some one → slice_get trails' channel ≡ Some own → row.channel ≡ channel → TrailStands one own (rows_of channel (row ∷ above))
  same-channel channel one own at there same =
      let made : own ≡ trail' = get-set-same trails channel trail' own (ap (λ n. slice_get (set trails n trail') channel) (sym same) ∙ ap (λ ts. slice_get ts channel) (sym is) ∙ there) in
      let asked : promise ≡ one = same_Some promise one (sym promised ∙ ap (slice_get promises) same ∙ at) in
      let stands = takes (stand.each row.channel promise trail promised here) in
      let rows : row ∷ rows_of row.channel above ≡ rows_of channel (row ∷ above) = sym (rows-more row.channel row above (own-on row sane)) ∙ ap (λ n. rows_of n (row ∷ above)) same in
      subst (TrailStands one own) rows (subst (λ (t : Trail). TrailStands one t (row ∷ rows_of row.channel above)) (sym made) (subst (λ (p : Promise). TrailStands p trail' (row ∷ rows_of row.channel above)) asked stands))

  other-channel : (channel : ℕ) (one : Promise) (own : Trail) → slice_get promises channel ≡ Some one → slice_get trails' channel ≡ Some own → nat_eq row.channel channel ≡ false → row.channel ≢ channel → TrailStands one own (rows_of channel (row ∷ above))
  other-channel channel one own at there off other =
      let before : slice_get trails channel ≡ Some own = sym (get-set-other trails row.channel channel trail' (λ same. other (sym same))) ∙ ap (λ ts. slice_get ts channel) (sym is) ∙ there in
      subst (TrailStands one own) (sym (rows-same channel row above (other-off channel row off))) (stand.each channel one own at before)

-- ---- answers

pub ok-any : {X E Q : Type 0} (result : Result X E) → Q → OnOk result Q
ok-any (Ok x) holds = holds
ok-any (Err e) holds = tt
