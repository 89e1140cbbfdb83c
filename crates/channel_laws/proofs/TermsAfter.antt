-- What an entry makes of the reservation of a channel that a link holds.
use Rattle.std.proofs.Common.{◌≡◌, ◌≢◌, ℕ, suc, Bool, true, false, cond, List, [], ◌∷◌, ◌++◌, length, map, Option, Some, None, refl, sym, ap, ◌∙◌, inl, inr}
use Rattle.std.proofs.lemmas.Bool.{cases_Bool, eqb-true, eq-eqb, ne_eqb, and_parts}
use Rattle.std.proofs.lemmas.List.{map-append}
use Rattle.std.proofs.lemmas.List.Folds.{find-append}
use Rattle.std.proofs.lemmas.Option.{same_Some}
use Rattle.std.specs.Option.{option_map, option_or}
use Rattle.std.specs.Prelude.{filter, find, nat_eq}
use Rattle.net_units.specs.Numbers.{channel_number}
use Rattle.net_units.specs.declared.Kind.{Kind}
use Rattle.net_units.specs.declared.numbers.ChanNo.{ChanNo}
use Rattle.net_units.specs.declared.numbers.Level.{Level}
use Rattle.net_units.specs.declared.numbers.LinkNo.{LinkNo}
use Rattle.traffic_contract.specs.Contract.{Traffic}
use Rattle.link_steps.specs.declared.asks.Ask.{Ask}
use Rattle.link_steps.specs.declared.asks.Ask.TheVariants.{Reserve, Relax, Deny, Submit, Release, Arrive, Tick}
use Rattle.link_steps.specs.declared.asks.Packet.{Packet}
use Rattle.link_steps.specs.declared.replies.Phase.TheVariants.{Closing}
use Rattle.link_steps.specs.declared.replies.Reply.{Reply}
use Rattle.link_steps.specs.declared.replies.Reply.TheVariants as Is
use Rattle.link_steps.specs.declared.shape.LinkShape.{LinkShape}
use Rattle.link_steps.specs.Hold.{hold_ended, stays}
use Rattle.link_steps.specs.Lists.{Each, change_first, without_first}
use Rattle.link_steps.specs.Reservation.{Reservation, is_phase, is_of, is_same, tentative, committed, closing}
use Rattle.link_steps.specs.Rows.{Row, row_terms, new_row}
use Rattle.link_steps.specs.Scan.{Scan, is_row_of, is_row_at_hop, names_first_hop, relax_row, plan_row, close_row, arrived_row, with_arrival, without_expired, with_sources, with_best, after_tick, after}
use Rattle.link_steps.specs.Service.{here_at}
use Rattle.link_steps.proofs.AdmissionHolds.{rows_after-terms}
use Rattle.link_steps.proofs.LegalChannels.{DifferInChannel}
use Rattle.link_steps.proofs.SearchAndFilter.{map-change_first-same}
use Rattle.channel_laws.specs.Reservations.{held_by, IsOpen, ComesOf, Stays, Closed}
use Rattle.channel_laws.specs.Asks.{IsOff, IsMild}
use Rattle.channel_laws.specs.Channels.{channel_of, IsElsewhere}
use Rattle.channel_laws.proofs.ChannelRows.{row-of, others-elsewhere}

-- ---- changes of rows of other channels

skip : (chan : ChanNo) (row : Row) (rows : List Row) → channel_of row ≢ channel_number chan → held_by chan (row ∷ rows) ≡ held_by chan rows
skip chan row rows other = rw (ne_eqb (channel_of row) (channel_number chan) other) refl

pub other-changed : (chan : ChanNo) (test : Row → Bool) (change : Row → Row) (rows : List Row)
    → ((r : Row) → test r ≡ true → channel_of r ≢ channel_number chan) → ((r : Row) → channel_of (change r) ≡ channel_of r)
    → held_by chan (change_first test change rows) ≡ held_by chan rows
unfolding change_first
other-changed chan test change [] others keeps = refl
other-changed chan test change (row ∷ rows) others keeps =
    elim (cases_Bool (test row)) [
      | inl passed ↦ (let other = others row passed in rw passed (skip chan (change row) rows (λ same. other (sym (keeps row) ∙ same)) ∙ sym (skip chan row rows other)))
      | inr failed ↦ rw failed (step (is_of chan row.terms) (other-changed chan test change rows others keeps))
    ] where
      step : (b : Bool) → held_by chan (change_first test change rows) ≡ held_by chan rows → cond b (Some row.terms) (held_by chan (change_first test change rows)) ≡ cond b (Some row.terms) (held_by chan rows)
      step true rest = refl
      step false rest = rest

pub other-without : (chan : ChanNo) (test : Row → Bool) (rows : List Row) → ((r : Row) → test r ≡ true → channel_of r ≢ channel_number chan)
    → held_by chan (without_first test rows) ≡ held_by chan rows
unfolding without_first
other-without chan test [] others = refl
other-without chan test (row ∷ rows) others =
    elim (cases_Bool (test row)) [
      | inl passed ↦ rw passed (sym (skip chan row rows (others row passed)))
      | inr failed ↦ rw failed (step (is_of chan row.terms) (other-without chan test rows others))
    ] where
      step : (b : Bool) → held_by chan (without_first test rows) ≡ held_by chan rows → cond b (Some row.terms) (held_by chan (without_first test rows)) ≡ cond b (Some row.terms) (held_by chan rows)
      step true rest = refl
      step false rest = rest

abbrev pub pushed_to : Option Reservation → Option Reservation → Option Reservation
pushed_to None after = after
pushed_to (Some terms) after = Some terms

or-pushed : (a b : Option Reservation) → option_or a b ≡ pushed_to a b
or-pushed None b = refl
or-pushed (Some terms) b = refl

pub pushed : (chan : ChanNo) (rows : List Row) (row : Row) (before : Option Reservation) → held_by chan rows ≡ before
    → held_by chan (rows ++ row ∷ []) ≡ pushed_to before (held_by chan (row ∷ []))
pushed chan rows row before same = ap (find (is_of chan)) (map-append row_terms rows (row ∷ [])) ∙ find-append (is_of chan) (map row_terms rows) (row.terms ∷ []) ∙ or-pushed (held_by chan rows) (held_by chan (row ∷ [])) ∙ ap (λ t. pushed_to t (held_by chan (row ∷ []))) same

-- ---- changes of the channel's own row

own-changed : (chan : ChanNo) (change : Row → Row) (changed : Reservation → Reservation) (rows : List Row)
    → ((r : Row) → (change r).terms ≡ changed r.terms) → ((terms : Reservation) → (changed terms).chan ≡ terms.chan)
    → held_by chan (change_first (is_row_of chan) change rows) ≡ option_map changed (held_by chan rows)
unfolding change_first
own-changed chan change changed [] alike keeps = refl
own-changed chan change changed (row ∷ rows) alike keeps =
    elim (cases_Bool (is_of chan row.terms)) [
      | inl passed ↦ (let e : is_of chan (change row).terms ≡ true = ap (λ terms. is_of chan terms) (alike row) ∙ ap (λ c. nat_eq (channel_number c) (channel_number chan)) (keeps row.terms) ∙ passed in rw (passed, e) (ap Some (alike row)))
      | inr failed ↦ rw (failed, failed) (own-changed chan change changed rows alike keeps)
    ]

pub none-held : (chan : ChanNo) (rows : List Row) → Each (IsElsewhere (channel_number chan)) rows → held_by chan rows ≡ None
none-held chan [] each = refl
none-held chan (row ∷ rows) each = skip chan row rows each.0 ∙ none-held chan rows each.1

pub own-without : (chan : ChanNo) (rows : List Row) → DifferInChannel rows → held_by chan (without_first (is_row_of chan) rows) ≡ None
unfolding without_first
own-without chan [] differ = refl
own-without chan (row ∷ rows) differ =
    elim (cases_Bool (is_of chan row.terms)) [
      | inl passed ↦ rw passed (none-held chan rows (others-elsewhere (channel_number chan) row rows (row-of chan row passed) differ))
      | inr failed ↦ rw (failed, failed) (own-without chan rows differ.1)
    ]

-- ---- a tick

kept-stays : (bounds : List ℕ) (t : ℕ) (row : Row) → is_phase row.terms.phase Closing ≡ false → stays bounds t row ≡ true
unfolding hold_ended
kept-stays bounds t row not-closing = rw not-closing refl

filtered : (chan : ChanNo) (bounds : List ℕ) (t : ℕ) (rows : List Row) → IsOpen (held_by chan rows) → DifferInChannel rows
    → held_by chan (filter (stays bounds t) rows) ≡ held_by chan rows
filtered chan bounds t [] opened differ = refl
filtered chan bounds t (row ∷ rows) opened differ =
    elim (cases_Bool (is_of chan row.terms)) [
      | inl passed ↦ (let held = kept-stays bounds t row (opened row.terms (rw passed refl)) in rw (held, passed) refl)
      | inr failed ↦
          (let rest = filtered chan bounds t rows (λ terms is. opened terms (rw failed is)) differ.1 in
          elim (cases_Bool (stays bounds t row)) [
            | inl held ↦ rw (held, failed) rest
            | inr ended ↦ rw (ended, failed) rest
          ])
    ]

tick-held : (shape : LinkShape) (chan : ChanNo) (t : ℕ) (scan : Scan) → IsOpen (held_by chan scan.rows) → DifferInChannel scan.rows
    → held_by chan (after_tick shape t scan).rows ≡ held_by chan scan.rows
unfolding after_tick with_best with_sources without_expired
tick-held shape chan t scan opened differ =
    ap (find (is_of chan)) (rows_after-terms shape.bounds (here_at shape.rate scan.packets t) t (length scan.packets) (filter (stays shape.bounds t) scan.rows)) ∙ filtered chan shape.bounds t scan.rows opened differ

pub arrival-held : (chan : ChanNo) (t : ℕ) (packet : Packet) (scan : Scan) (found : Option Row)
    → held_by chan (with_arrival t packet scan found).rows ≡ held_by chan scan.rows
unfolding with_arrival
arrival-held chan t packet scan None = refl
arrival-held chan t packet scan (Some row) = ap (find (is_of chan)) (map-change_first-same row_terms (is_row_of packet.chan) (arrived_row t (suc (length scan.packets)) packet) (λ r. refl) scan.rows)

-- ---- an entry of another channel

pub apart-row : (chan other : ChanNo) → channel_number other ≢ channel_number chan → (r : Row) → is_row_of other r ≡ true
    → channel_of r ≢ channel_number chan
apart-row chan other apart r passed same = apart (sym (row-of other r passed) ∙ same)

pub apart-hop : (chan other : ChanNo) (first : Bool) → channel_number other ≢ channel_number chan → (r : Row)
    → is_row_at_hop other first r ≡ true → channel_of r ≢ channel_number chan
apart-hop chan other first apart r passed same = apart (sym (eqb-true (channel_of r) (channel_number other) (and_parts (is_of other r.terms) (is_same r.terms.first first) passed).0) ∙ same)

pub reserved-other : (chan : ChanNo) (rows : List Row) (row : Row) → channel_of row ≢ channel_number chan
    → held_by chan (rows ++ row ∷ []) ≡ held_by chan rows
reserved-other chan rows row other = go (held_by chan rows) refl where
  go : (before : Option Reservation) → held_by chan rows ≡ before → held_by chan (rows ++ row ∷ []) ≡ held_by chan rows
  go None same = pushed chan rows row None same ∙ skip chan row [] other ∙ sym same
  go (Some terms) same = pushed chan rows row (Some terms) same ∙ sym same

module _ (shape : LinkShape) (chan : ChanNo) (t : ℕ) (scan : Scan) where
  pub held-off : (ask : Ask) (reply : Reply) → IsOff (channel_number chan) ask → IsOpen (held_by chan scan.rows) → DifferInChannel scan.rows
      → held_by chan (after shape t scan ask reply).rows ≡ held_by chan scan.rows
  unfolding after
  held-off (Reserve other contract kind delay up_reach first next) (Is.Offer level reach) off opened differ = reserved-other chan scan.rows (new_row (tentative other contract kind first next up_reach level reach)) off
  held-off (Relax other level up_bound) (Is.Relaxed clock) off opened differ = other-changed chan (is_row_of other) (relax_row level up_bound) scan.rows (apart-row chan other off) (λ r. refl)
  held-off (Deny other) Is.Denied off opened differ = other-without chan (is_row_of other) scan.rows (apart-row chan other off)
  held-off (Submit other count gap size) (Is.Planned clock) off opened differ = other-changed chan (is_row_at_hop other true) (plan_row t count gap size) scan.rows (apart-hop chan other true off) (λ r. refl)
  held-off (Release other upstream) (Is.Closing count cancelled) off opened differ = other-changed chan (is_row_at_hop other (names_first_hop upstream)) (close_row t count) scan.rows (apart-hop chan other (names_first_hop upstream) off) (λ r. refl)
  held-off (Arrive packet) (Is.Taken clock eligible) off opened differ = arrival-held chan t packet scan (find (is_row_of packet.chan) scan.rows)
  held-off Tick reply off opened differ = tick-held shape chan t scan opened differ
  held-off _ (Is.Planned clock) off opened differ = refl
  held-off _ _ off opened differ = refl

  -- ---- an entry of the channel

  pub held-offered : (contract : Traffic) (kind : Kind) (delay up_reach : ℕ) (first : Bool) (next : Option LinkNo) (level reach : Level)
      → held_by chan scan.rows ≡ None
      → held_by chan (after shape t scan (Reserve chan contract kind delay up_reach first next) (Is.Offer level reach)).rows ≡ Some (tentative chan contract kind first next up_reach level reach)
  unfolding after
  held-offered contract kind delay up_reach first next level reach none =
      pushed chan scan.rows (new_row (tentative chan contract kind first next up_reach level reach)) None none ∙ rw (eq-eqb (channel_number chan) (channel_number chan) refl) refl

  pub held-relaxed : (level : Level) (up_bound clock : ℕ)
      → held_by chan (after shape t scan (Relax chan level up_bound) (Is.Relaxed clock)).rows ≡ option_map (committed level up_bound) (held_by chan scan.rows)
  unfolding after
  held-relaxed level up_bound clock = own-changed chan (relax_row level up_bound) (committed level up_bound) scan.rows (λ r. refl) (λ terms. refl)

  pub held-denied : DifferInChannel scan.rows → held_by chan (after shape t scan (Deny chan) Is.Denied).rows ≡ None
  unfolding after
  held-denied differ = own-without chan scan.rows differ

-- ---- an entry that neither reserves, relaxes nor denies the channel

comes-same : (terms : Reservation) (now before : Option Reservation) → now ≡ before → now ≡ Some terms → ComesOf terms before
comes-same terms now before same is = Stays (sym same ∙ is)

pub comes-closed : (chan other : ChanNo) (first : Bool) (t count : ℕ) (rows : List Row) (terms : Reservation)
    → held_by chan (change_first (is_row_at_hop other first) (close_row t count) rows) ≡ Some terms → ComesOf terms (held_by chan rows)
unfolding change_first
comes-closed chan other first t count [] terms is = cc
comes-closed chan other first t count (row ∷ rows) terms is =
    elim (cases_Bool (is_row_at_hop other first row)) [
      | inl passed ↦ elim (cases_Bool (is_of chan row.terms)) [
        | inl own ↦ (let now : Some (closing count row.terms) ≡ Some terms = rw (passed, own) at is in Closed row.terms count (rw own refl) (sym (same_Some (closing count row.terms) terms now)))
        | inr off ↦ (let now : held_by chan rows ≡ Some terms = rw (passed, off) at is in Stays (rw off now))
      ]
      | inr failed ↦ elim (cases_Bool (is_of chan row.terms)) [
        | inl own ↦ (let now : Some row.terms ≡ Some terms = rw (failed, own) at is in Stays (rw own now))
        | inr off ↦ (let now : held_by chan (change_first (is_row_at_hop other first) (close_row t count) rows) ≡ Some terms = rw (failed, off) at is in rw off (comes-closed chan other first t count rows terms now))
      ]
    ]

pub comes-filtered : (chan : ChanNo) (test : Row → Bool) (rows : List Row) (terms : Reservation) → DifferInChannel rows
    → held_by chan (filter test rows) ≡ Some terms → held_by chan rows ≡ Some terms
comes-filtered chan test [] terms differ is = is
comes-filtered chan test (row ∷ rows) terms differ is =
    elim (cases_Bool (is_of chan row.terms)) [
      | inl own ↦ elim (cases_Bool (test row)) [
        | inl passed ↦ (let now : Some row.terms ≡ Some terms = rw (passed, own) at is in rw own now)
        | inr failed ↦ absurd (let now : held_by chan (filter test rows) ≡ Some terms = rw failed at is in
            let none = none-held chan rows (others-elsewhere (channel_number chan) row rows (row-of chan row own) differ) in
            let before = comes-filtered chan test rows terms differ.1 now in let clash : None ≡ Some terms = sym none ∙ before in cc)
      ]
      | inr off ↦ elim (cases_Bool (test row)) [
        | inl passed ↦ (let now : held_by chan (filter test rows) ≡ Some terms = rw (passed, off) at is in rw off (comes-filtered chan test rows terms differ.1 now))
        | inr failed ↦ (let now : held_by chan (filter test rows) ≡ Some terms = rw failed at is in rw off (comes-filtered chan test rows terms differ.1 now))
      ]
    ]

pub comes-tick : (shape : LinkShape) (chan : ChanNo) (t : ℕ) (scan : Scan) (terms : Reservation) → DifferInChannel scan.rows
    → held_by chan (after_tick shape t scan).rows ≡ Some terms → ComesOf terms (held_by chan scan.rows)
unfolding after_tick with_best with_sources without_expired
comes-tick shape chan t scan terms differ is =
    Stays (comes-filtered chan (stays shape.bounds t) scan.rows terms differ (sym (ap (find (is_of chan)) (rows_after-terms shape.bounds (here_at shape.rate scan.packets t) t (length scan.packets) (filter (stays shape.bounds t) scan.rows))) ∙ is))

pub comes-mild : (shape : LinkShape) (chan : ChanNo) (t : ℕ) (scan : Scan) (ask : Ask) (reply : Reply) (terms : Reservation)
    → IsMild (channel_number chan) ask → DifferInChannel scan.rows → held_by chan (after shape t scan ask reply).rows ≡ Some terms
    → ComesOf terms (held_by chan scan.rows)
unfolding after
comes-mild shape chan t scan (Reserve other contract kind delay up_reach first next) (Is.Offer level reach) terms off differ is = comes-same terms _ _ (reserved-other chan scan.rows (new_row (tentative other contract kind first next up_reach level reach)) off) is
comes-mild shape chan t scan (Relax other level up_bound) (Is.Relaxed clock) terms off differ is = comes-same terms _ _ (other-changed chan (is_row_of other) (relax_row level up_bound) scan.rows (apart-row chan other off) (λ r. refl)) is
comes-mild shape chan t scan (Deny other) Is.Denied terms off differ is = comes-same terms _ _ (other-without chan (is_row_of other) scan.rows (apart-row chan other off)) is
comes-mild shape chan t scan (Submit other count gap size) (Is.Planned clock) terms off differ is = comes-same terms _ _ (ap (find (is_of chan)) (map-change_first-same row_terms (is_row_at_hop other true) (plan_row t count gap size) (λ r. refl) scan.rows)) is
comes-mild shape chan t scan (Release other upstream) (Is.Closing count cancelled) terms off differ is = comes-closed chan other (names_first_hop upstream) t count scan.rows terms is
comes-mild shape chan t scan (Arrive packet) (Is.Taken clock eligible) terms off differ is = comes-same terms _ _ (arrival-held chan t packet scan (find (is_row_of packet.chan) scan.rows)) is
comes-mild shape chan t scan Tick reply terms off differ is = comes-tick shape chan t scan terms differ is
comes-mild shape chan t scan _ (Is.Planned clock) terms off differ is = Stays is
comes-mild shape chan t scan _ _ terms off differ is = Stays is

-- a submit
pub held-submitted : (shape : LinkShape) (chan other : ChanNo) (t : ℕ) (scan : Scan) (count gap size : ℕ) (reply : Reply)
    → held_by chan (after shape t scan (Submit other count gap size) reply).rows ≡ held_by chan scan.rows
unfolding after
held-submitted shape chan other t scan count gap size (Is.Planned clock) = ap (find (is_of chan)) (map-change_first-same row_terms (is_row_at_hop other true) (plan_row t count gap size) (λ r. refl) scan.rows)
held-submitted shape chan other t scan count gap size _ = refl
