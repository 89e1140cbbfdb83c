-- What an entry makes of the reservation of a channel of which so many packets come: it is committed, or it is closing
-- with a count of at least so many, or it is gone and so many were taken.
use Rattle.std.proofs.Common.{◌≡◌, ℕ, suc, ◌+◌, ◌≤◌, ◌⊎◌, Bool, true, false, List, [], ◌∷◌, ◌++◌, length, map, Option, Some, None, refl, sym, ap, ◌∙◌, subst, inl, inr, arith, append-nil}
use Rattle.std.proofs.lemmas.Bool.{cases_Bool, eqb-true, eqb-false, and_parts}
use Rattle.std.proofs.lemmas.List.Elements.{filter-append}
use Rattle.std.proofs.lemmas.Option.{same_Some}
use Rattle.std.specs.Prelude.{filter, find, nat_eq, ◌&&◌}
use Rattle.net_units.specs.Numbers.{channel_number}
use Rattle.net_units.specs.declared.numbers.ChanNo.{ChanNo}
use Rattle.net_units.specs.declared.numbers.Level.{Level}
use Rattle.link_steps.specs.declared.asks.Ask.{Ask}
use Rattle.link_steps.specs.declared.asks.Ask.TheVariants.{Reserve, Relax, Deny, Submit, Release, Arrive, Tick}
use Rattle.link_steps.specs.declared.asks.Packet.{Packet}
use Rattle.link_steps.specs.declared.replies.Phase.{Phase}
use Rattle.link_steps.specs.declared.replies.Phase.TheVariants.{Tentative, Committed, Closing}
use Rattle.link_steps.specs.declared.replies.Reply.{Reply}
use Rattle.link_steps.specs.declared.replies.Reply.TheVariants as Is
use Rattle.link_steps.specs.declared.shape.LinkShape.{LinkShape}
use Rattle.link_steps.specs.Buffer.{has_slot}
use Rattle.link_steps.specs.Hold.{hold_ended, stays, expires}
use Rattle.link_steps.specs.Admissible.{MayAnswer}
use Rattle.link_steps.specs.Lists.{Each, change_first}
use Rattle.link_steps.specs.Refusals.{not_in_phase}
use Rattle.link_steps.specs.Replies.{relax_reply, deny_reply, count_at_release, release_reply, release_to, arrive_reply, arrive_to, reply_at}
use Rattle.link_steps.specs.Reservation.{Reservation, is_same, is_phase, is_of, closing, tentative}
use Rattle.link_steps.specs.Rows.{Row, row_terms, new_row, is_for, SourcePacket}
use Rattle.link_steps.specs.Scan.{Scan, is_row_of, is_row_at_hop, names_first_hop, relax_row, close_row, arrived_packet, without_expired, with_sources, with_best, after_tick, after}
use Rattle.link_steps.specs.Service.{Arrival, here_at}
use Rattle.link_steps.specs.Sources.{source_step, step_of, packet_of, taken_by, source_packets}
use Rattle.link_steps.proofs.AdmissionHolds.{rows_after-terms}
use Rattle.link_steps.proofs.LegalChannels.{DifferInChannel}
use Rattle.link_steps.proofs.RowsInOrder.{IsInOrder, source-settled}
use Rattle.link_steps.proofs.SearchAndFilter.{Each-filter}
use Rattle.link_steps.proofs.RulesPassed.{kept-rule}
use Rattle.channel_laws.specs.Channels.{is_of_channel, channel_packets, channel_of, IsElsewhere}
use Rattle.channel_laws.proofs.ChannelRows.{row-of, row-at-hop, others-elsewhere, packet-elsewhere, find-passes, packets-off, tick-packets}
use Rattle.channel_laws.proofs.SendReplies.{same-hop}
use Rattle.channel_laws.specs.Reservations.{held_by}
use Rattle.channel_laws.proofs.TermsAfter.{other-changed, other-without, apart-row, apart-hop, none-held, reserved-other, pushed, arrival-held, held-submitted}
use Rattle.link_steps.proofs.ReservationFound.{closing-count, relax-tells, deny-tells, arrive-tells}
use Rattle.link_steps.proofs.EntryEffects.{packets-by}

pub data Fate (least count : ℕ) (held : Option Reservation) : Type 0 where
  FateOpen : (terms : Reservation) → held ≡ Some terms → terms.phase ≡ Committed → Fate least count held
  FateClosing : (terms : Reservation) → held ≡ Some terms → terms.phase ≡ Closing → least ≤ terms.count → Fate least count held
  FateGone : held ≡ None → least ≤ count → Fate least count held

pub fate-same : (least count more : ℕ) (held now : Option Reservation) → now ≡ held → count ≤ more → Fate least count held
    → Fate least more now
fate-same least count more held now same grows (FateOpen terms is phase) = FateOpen terms (same ∙ is) phase
fate-same least count more held now same grows (FateClosing terms is phase upto) = FateClosing terms (same ∙ is) phase upto
fate-same least count more held now same grows (FateGone none upto) = FateGone (same ∙ none) (omega (arith, grows, upto))

-- ---- the source of a channel that isn't committed brings nothing

abbrev pub NotCommitted : Option Reservation → Type 0
NotCommitted held = (terms : Reservation) → held ≡ Some terms → terms.phase ≡ Committed → ⊥

abbrev pub RestsAt : ℕ → ℕ → Row → Type 0
RestsAt c t row = channel_of row ≡ c → find (is_for t) row.plan ≡ None

row-rests : (shape : LinkShape) (t : ℕ) (row : Row) → IsInOrder shape t row → (row.terms.phase ≡ Committed → ⊥)
    → find (is_for t) row.plan ≡ None
row-rests shape t row order not-committed = go (find (is_for t) row.plan) refl where
  by-phase : (phase : Phase) → row.terms.phase ≡ phase → (row.terms.phase ≡ Tentative → ⊥) → (row.terms.phase ≡ Closing → ⊥) → ⊥
  by-phase Tentative is a b = a is
  by-phase Committed is a b = not-committed is
  by-phase Closing is a b = b is

  go : (found : Option SourcePacket) → find (is_for t) row.plan ≡ found → find (is_for t) row.plan ≡ None
  go None is = is
  go (Some p) is = absurd (let settled = source-settled shape t row p is order in by-phase row.terms.phase refl settled.0 settled.1)

each-vacuous : (c t : ℕ) (rows : List Row) → Each (IsElsewhere c) rows → Each (RestsAt c t) rows
each-vacuous c t [] each = tt
each-vacuous c t (row ∷ rows) each = ((λ is. absurd (each.0 is)), each-vacuous c t rows each.1)

rows-rest : (shape : LinkShape) (chan : ChanNo) (t : ℕ) (rows : List Row) → DifferInChannel rows → Each (IsInOrder shape t) rows
    → NotCommitted (held_by chan rows) → Each (RestsAt (channel_number chan) t) rows
rows-rest shape chan t [] differ order none = tt
rows-rest shape chan t (row ∷ rows) differ order none =
    elim (cases_Bool (is_of chan row.terms)) [
      | inl own ↦ (
        (λ is. row-rests shape t row order.0 (none row.terms (rw own refl))),
        each-vacuous (channel_number chan) t rows (others-elsewhere (channel_number chan) row rows (row-of chan row own) differ),
      )
      | inr off ↦ (
        (λ is. absurd (eqb-false (channel_of row) (channel_number chan) off is)),
        rows-rest shape chan t rows differ.1 order.1 (λ terms is. none terms (rw off is)),
      )
    ]

sources-rest : (c : ℕ) (bounds : List ℕ) (here : List Arrival) (t taken : ℕ) (rows : List Row) → Each (RestsAt c t) rows
    → channel_packets c (source_packets bounds here t taken rows) ≡ []
unfolding source_packets step_of
sources-rest c bounds here t taken [] rests = refl
sources-rest c bounds here t taken (r ∷ rows) rests =
    let rest = sources-rest c bounds here t (taken + taken_by (step_of bounds here t r)) rows rests.1 in
    filter-append (is_of_channel c) (packet_of (step_of bounds here t r) t (suc taken) r) _ ∙ ap (λ x. channel_packets c (packet_of (step_of bounds here t r) t (suc taken) r) ++ x) rest
    ∙ append-nil (channel_packets c (packet_of (step_of bounds here t r) t (suc taken) r))
    ∙ elim (cases_Bool (nat_eq (channel_of r) c)) [
      | inl on ↦ ap (λ p. channel_packets c (packet_of (source_step (has_slot bounds r.terms r.lead here) p) t (suc taken) r)) (rests.0 (eqb-true (channel_of r) c on))
      | inr off ↦ packet-elsewhere c t (suc taken) r (step_of bounds here t r) (eqb-false (channel_of r) c off)
    ]

pub tick-rests : (shape : LinkShape) (chan : ChanNo) (t : ℕ) (scan : Scan) → DifferInChannel scan.rows → Each (IsInOrder shape t) scan.rows
    → NotCommitted (held_by chan scan.rows)
    → channel_packets (channel_number chan) (after_tick shape t scan).packets ≡ channel_packets (channel_number chan) scan.packets
unfolding after_tick with_best with_sources without_expired
tick-rests shape chan t scan differ order none =
    tick-packets shape (channel_number chan) t scan
    ∙ ap (λ x. channel_packets (channel_number chan) scan.packets ++ x) (sources-rest (channel_number chan) shape.bounds (here_at shape.rate scan.packets t) t (length scan.packets) (filter (stays shape.bounds t) scan.rows) (Each-filter (RestsAt (channel_number chan) t) (stays shape.bounds t) scan.rows (rows-rest shape chan t scan.rows differ order none)))
    ∙ append-nil _

-- ---- a tick keeps a reservation, or its hold has ended

pub record HoldEnds (chan : ChanNo) (bounds : List ℕ) (t : ℕ) (rows : List Row) (terms : Reservation) : Type 0 where
  pub row : Row
  pub found : find (is_row_of chan) rows ≡ Some row
  pub is : row.terms ≡ terms
  pub ended : expires bounds t row ≡ true

filter-ends : (chan : ChanNo) (bounds : List ℕ) (t : ℕ) (rows : List Row) (terms : Reservation) → DifferInChannel rows
    → held_by chan rows ≡ Some terms
    → (held_by chan (filter (stays bounds t) rows) ≡ Some terms) ⊎ (HoldEnds chan bounds t rows terms × (held_by chan (filter (stays bounds t) rows) ≡ None))
filter-ends chan bounds t [] terms differ held = cc
filter-ends chan bounds t (row ∷ rows) terms differ held =
    elim (cases_Bool (is_of chan row.terms)) [
      | inl own ↦
          (let same : row.terms ≡ terms = same_Some row.terms terms (rw own at held) in
          elim (cases_Bool (expires bounds t row)) [
            | inl ended ↦ inr (record { row = row; found = rw own refl; is = same; ended = ended }, rw ended (none-held chan (filter (stays bounds t) rows) (Each-filter (IsElsewhere (channel_number chan)) (stays bounds t) rows (others-elsewhere (channel_number chan) row rows (row-of chan row own) differ))))
            | inr kept ↦ inl (rw (kept, own) (ap Some same))
          ])
      | inr off ↦
          elim (filter-ends chan bounds t rows terms differ.1 (rw off at held)) [
            | inl kept ↦ inl (elim (cases_Bool (expires bounds t row)) [
              | inl ended ↦ rw ended kept
              | inr more ↦ rw (more, off) kept
            ])
            | inr both ↦ inr (
              record { row = both.0.row; found = rw off both.0.found; is = both.0.is; ended = both.0.ended },
              elim (cases_Bool (expires bounds t row)) [
                | inl ended ↦ rw ended both.1
                | inr more ↦ rw (more, off) both.1
              ],
            )
          ]
    ]

filter-none-held : (chan : ChanNo) (test : Row → Bool) (rows : List Row) → held_by chan rows ≡ None → held_by chan (filter test rows) ≡ None
filter-none-held chan test [] none = refl
filter-none-held chan test (row ∷ rows) none =
    elim (cases_Bool (is_of chan row.terms)) [
      | inl own ↦ absurd (let clash : Some row.terms ≡ None = rw own at none in cc)
      | inr off ↦ (let rest = filter-none-held chan test rows (rw off at none) in
          elim (cases_Bool (test row)) [
            | inl passed ↦ rw (passed, off) rest
            | inr failed ↦ rw failed rest
          ])
    ]

tick-terms : (shape : LinkShape) (chan : ChanNo) (t : ℕ) (scan : Scan)
    → held_by chan (after_tick shape t scan).rows ≡ held_by chan (filter (stays shape.bounds t) scan.rows)
unfolding after_tick with_best with_sources without_expired
tick-terms shape chan t scan = ap (find (is_of chan)) (rows_after-terms shape.bounds (here_at shape.rate scan.packets t) t (length scan.packets) (filter (stays shape.bounds t) scan.rows))

ended-count : (bounds : List ℕ) (terms : Reservation) (taken last t : ℕ) → hold_ended bounds terms taken last t ≡ true
    → (is_phase terms.phase Closing ≡ true) × (terms.count ≤ taken)
unfolding hold_ended
ended-count bounds terms taken last t ended =
    let parts = and_parts (is_phase terms.phase Closing) _ ended in (
      parts.0,
      elim (cases_Bool (nat_eq terms.count 0)) [
        | inl none ↦ (let e = eqb-true terms.count 0 none in omega (arith, e))
        | inr some ↦ (let rest : (nat_eq taken terms.count && _) ≡ true = rw some at parts.1 in let e = eqb-true taken terms.count (and_parts (nat_eq taken terms.count) _ rest).0 in omega (arith, e))
      ],
    )

tick-fate : (shape : LinkShape) (chan : ChanNo) (t : ℕ) (scan : Scan) (least count more : ℕ) → DifferInChannel scan.rows
    → ((row : Row) → find (is_row_of chan) scan.rows ≡ Some row → length row.ticks ≡ count) → count ≤ more
    → Fate least count (held_by chan scan.rows) → Fate least more (held_by chan (after_tick shape t scan).rows)
tick-fate shape chan t scan least count more differ own grows (FateOpen terms is phase) =
    elim (filter-ends chan shape.bounds t scan.rows terms differ is) [
      | inl kept ↦ FateOpen terms (tick-terms shape chan t scan ∙ kept) phase
      | inr both ↦ absurd (let closes = (ended-count shape.bounds both.0.row.terms _ _ t both.0.ended).0 in
          let clash : false ≡ true = sym (ap (λ p. is_phase p Closing) phase) ∙ ap (λ k. is_phase k.phase Closing) (sym both.0.is) ∙ closes in cc)
    ]
tick-fate shape chan t scan least count more differ own grows (FateClosing terms is phase upto) =
    elim (filter-ends chan shape.bounds t scan.rows terms differ is) [
      | inl kept ↦ FateClosing terms (tick-terms shape chan t scan ∙ kept) phase upto
      | inr both ↦ FateGone (tick-terms shape chan t scan ∙ both.1)
          (let full = (ended-count shape.bounds both.0.row.terms _ _ t both.0.ended).1 in let ticks = own both.0.row both.0.found in let same : both.0.row.terms.count ≡ terms.count = ap (λ k. k.count) both.0.is in omega (arith, full, ticks, same, upto, grows))
    ]
tick-fate shape chan t scan least count more differ own grows (FateGone none upto) = FateGone (tick-terms shape chan t scan ∙ filter-none-held chan (stays shape.bounds t) scan.rows none) (omega (arith, grows, upto))

-- ---- a release

closed-kept : (chan other : ChanNo) (first : Bool) (t count : ℕ) (rows : List Row) (terms : Reservation) → held_by chan rows ≡ Some terms
    → (held_by chan (change_first (is_row_at_hop other first) (close_row t count) rows) ≡ Some terms) ⊎ (held_by chan (change_first (is_row_at_hop other first) (close_row t count) rows) ≡ Some (closing count terms))
unfolding change_first
closed-kept chan other first t count [] terms held = cc
closed-kept chan other first t count (row ∷ rows) terms held =
    elim (cases_Bool (is_row_at_hop other first row)) [
      | inl passed ↦ elim (cases_Bool (is_of chan row.terms)) [
        | inl own ↦ (let same : row.terms ≡ terms = same_Some row.terms terms (rw own at held) in inr (rw (passed, own) (ap (λ k. Some (closing count k)) same)))
        | inr off ↦ (let rest : held_by chan rows ≡ Some terms = rw off at held in inl (rw (passed, off) rest))
      ]
      | inr failed ↦ elim (cases_Bool (is_of chan row.terms)) [
        | inl own ↦ (let same : Some row.terms ≡ Some terms = rw own at held in inl (rw (failed, own) same))
        | inr off ↦ elim (closed-kept chan other first t count rows terms (rw off at held)) [
          | inl same ↦ inl (rw (failed, off) same)
          | inr changed ↦ inr (rw (failed, off) changed)
        ]
      ]
    ]

closed-none : (chan other : ChanNo) (first : Bool) (t count : ℕ) (rows : List Row) → held_by chan rows ≡ None
    → held_by chan (change_first (is_row_at_hop other first) (close_row t count) rows) ≡ None
unfolding change_first
closed-none chan other first t count [] held = refl
closed-none chan other first t count (row ∷ rows) held =
    elim (cases_Bool (is_of chan row.terms)) [
      | inl own ↦ absurd (let clash : Some row.terms ≡ None = rw own at held in cc)
      | inr off ↦ elim (cases_Bool (is_row_at_hop other first row)) [
        | inl passed ↦ (let rest : held_by chan rows ≡ None = rw off at held in rw (passed, off) rest)
        | inr failed ↦ (let rest = closed-none chan other first t count rows (rw off at held) in rw (failed, off) rest)
      ]
    ]

-- the release of the row that is held
pub held-released : (chan : ChanNo) (first : Bool) (t count : ℕ) (rows : List Row) (terms : Reservation) → held_by chan rows ≡ Some terms
    → terms.first ≡ first → held_by chan (change_first (is_row_at_hop chan first) (close_row t count) rows) ≡ Some (closing count terms)
unfolding change_first
held-released chan first t count [] terms held is = cc
held-released chan first t count (row ∷ rows) terms held is =
    elim (cases_Bool (is_of chan row.terms)) [
      | inl own ↦
          (let same : row.terms ≡ terms = same_Some row.terms terms (rw own at held) in
          let hop : is_row_at_hop chan first row ≡ true = rw own (ap (λ k. is_same k.first first) same ∙ ap (λ b. is_same b first) is ∙ same-hop first) in
          rw (hop, own) (ap (λ k. Some (closing count k)) same))
      | inr off ↦
          (let rest = held-released chan first t count rows terms (rw off at held) is in
          let hop : is_row_at_hop chan first row ≡ false = rw off refl in
          rw (hop, off) rest)
    ]

pub record Released (upstream : Option ℕ) (found : Option Row) (count : ℕ) : Type 0 where
  pub row : Row
  pub is : found ≡ Some row
  pub count_is : count ≡ count_at_release upstream (length row.ticks)

pub released-count : (t : ℕ) (upstream : Option ℕ) (found : Option Row) (count cancelled : ℕ)
    → Is.Closing count cancelled ≡ release_to t upstream found → Released upstream found count
unfolding release_reply
released-count t upstream None count cancelled same = cc
released-count t upstream (Some row) count cancelled same =
    let rule = kept-rule (not_in_phase Committed row.terms) _ (Is.Closing count cancelled) tt same in
    record { row = row; is = refl; count_is = closing-count count cancelled _ _ rule.1 }

-- ---- a relax or a deny changes a tentative row alone

pub relaxed-tent : (t : ℕ) (level : Level) (up_bound clock : ℕ) (held : Option Reservation) (terms : Reservation)
    → Is.Relaxed clock ≡ relax_reply t level up_bound held → held ≡ Some terms → is_phase terms.phase Tentative ≡ true
relaxed-tent t level up_bound clock held terms same is =
    ap (λ phase. is_phase phase Tentative) (relax-tells t terms level up_bound clock (same ∙ ap (relax_reply t level up_bound) is)).phase

pub relaxed-none : (t : ℕ) (level : Level) (up_bound clock : ℕ) (held : Option Reservation)
    → Is.Relaxed clock ≡ relax_reply t level up_bound held → held ≡ None → ⊥
unfolding relax_reply
relaxed-none t level up_bound clock None same is = cc
relaxed-none t level up_bound clock (Some own) same is = cc

pub denied-tent : (held : Option Reservation) (terms : Reservation) → Is.Denied ≡ deny_reply held → held ≡ Some terms
    → is_phase terms.phase Tentative ≡ true
denied-tent held terms same is = ap (λ phase. is_phase phase Tentative) (deny-tells terms (same ∙ ap deny_reply is))

pub denied-none : (held : Option Reservation) → Is.Denied ≡ deny_reply held → held ≡ None → ⊥
unfolding deny_reply
denied-none None same is = cc
denied-none (Some own) same is = cc

-- one of these changes
changed-never : (least count : ℕ) (held : Option Reservation)
    → ((terms : Reservation) → held ≡ Some terms → is_phase terms.phase Tentative ≡ true) → (held ≡ None → ⊥) → Fate least count held → ⊥
changed-never least count held tent some (FateOpen terms is phase) = (let e = tent terms is in let clash : false ≡ true = sym (ap (λ p. is_phase p Tentative) phase) ∙ e in cc)
changed-never least count held tent some (FateClosing terms is phase upto) = (let e = tent terms is in let clash : false ≡ true = sym (ap (λ p. is_phase p Tentative) phase) ∙ e in cc)
changed-never least count held tent some (FateGone none upto) = some none

-- ---- each entry

-- a release of the channel counts as many at least
abbrev pub TellsAll : ℕ → ℕ → ℕ → Ask → Type 0
TellsAll c least count (Release chan upstream) = channel_number chan ≡ c → least ≤ count_at_release upstream count
TellsAll c least count _ = Unit {0}

release-fate : (chan other : ChanNo) (first : Bool) (t count : ℕ) (rows : List Row) (least taken : ℕ)
    → (channel_number other ≡ channel_number chan → least ≤ count) → Fate least taken (held_by chan rows)
    → Fate least taken (held_by chan (change_first (is_row_at_hop other first) (close_row t count) rows))
release-fate chan other first t count rows least taken tells fate =
    elim (cases_Bool (nat_eq (channel_number other) (channel_number chan))) [
      | inl on ↦ own (tells (eqb-true (channel_number other) (channel_number chan) on)) fate
      | inr off ↦ fate-same least taken taken _ _ (other-changed chan (is_row_at_hop other first) (close_row t count) rows (apart-hop chan other first (eqb-false (channel_number other) (channel_number chan) off)) (λ r. refl)) (omega arith) fate
    ] where
      own : least ≤ count → Fate least taken (held_by chan rows) → Fate least taken (held_by chan (change_first (is_row_at_hop other first) (close_row t count) rows))
      own upto (FateOpen terms is phase) = elim (closed-kept chan other first t count rows terms is) [
        | inl same ↦ FateOpen terms same phase
        | inr changed ↦ FateClosing (closing count terms) changed refl upto
      ]
      own upto (FateClosing terms is phase before) = elim (closed-kept chan other first t count rows terms is) [
        | inl same ↦ FateClosing terms same phase before
        | inr changed ↦ FateClosing (closing count terms) changed refl upto
      ]
      own upto (FateGone none before) = FateGone (closed-none chan other first t count rows none) before

reserve-fate : (chan : ChanNo) (rows : List Row) (row : Row) (least count : ℕ)
    → (channel_of row ≡ channel_number chan → held_by chan rows ≡ None → ⊥) → Fate least count (held_by chan rows)
    → Fate least count (held_by chan (rows ++ row ∷ []))
reserve-fate chan rows row least count never (FateOpen terms is phase) = FateOpen terms (pushed chan rows row (Some terms) is) phase
reserve-fate chan rows row least count never (FateClosing terms is phase upto) = FateClosing terms (pushed chan rows row (Some terms) is) phase upto
reserve-fate chan rows row least count never (FateGone none upto) =
    elim (cases_Bool (nat_eq (channel_of row) (channel_number chan))) [
      | inl on ↦ absurd (never (eqb-true (channel_of row) (channel_number chan) on) none)
      | inr off ↦ FateGone (reserved-other chan rows row (eqb-false (channel_of row) (channel_number chan) off) ∙ none) upto
    ]

-- no offer to a channel that had one
abbrev pub NoSecond : ChanNo → List Row → Ask → Reply → Type 0
NoSecond chan rows (Reserve other contract kind delay up_reach first next) (Is.Offer level reach) = channel_number other ≡ channel_number chan → held_by chan rows ≡ None → ⊥
NoSecond chan rows _ _ = Unit {0}

pub fate-after : (shape : LinkShape) (chan : ChanNo) (t : ℕ) (scan : Scan) (ask : Ask) (reply : Reply) (least count more : ℕ)
    → DifferInChannel scan.rows → MayAnswer shape t scan ask reply
    → ((row : Row) → channel_of row ≡ channel_number chan → (test : Row → Bool) → find test scan.rows ≡ Some row → length row.ticks ≡ count)
    → count ≤ more → NoSecond chan scan.rows ask reply → TellsAll (channel_number chan) least count ask
    → Fate least count (held_by chan scan.rows) → Fate least more (held_by chan (after shape t scan ask reply).rows)
unfolding after MayAnswer reply_at
fate-after shape chan t scan (Reserve other contract kind delay up_reach first next) (Is.Offer level reach) least count more differ is own grows second tells fate =
    fate-same least count more _ _ refl grows (reserve-fate chan scan.rows (new_row (tentative other contract kind first next up_reach level reach)) least count second fate)
fate-after shape chan t scan (Relax other level up_bound) (Is.Relaxed clock) least count more differ is own grows second tells fate =
    elim (cases_Bool (nat_eq (channel_number other) (channel_number chan))) [
      | inl on ↦ absurd (let e = eqb-true (channel_number other) (channel_number chan) on in
          let same : held_by other scan.rows ≡ held_by chan scan.rows = ap (λ n. find (λ k. nat_eq (channel_number k.chan) n) (map row_terms scan.rows)) e in
          changed-never least count (held_by chan scan.rows) (λ terms held. relaxed-tent t level up_bound clock (held_by other scan.rows) terms is (same ∙ held)) (λ none. relaxed-none t level up_bound clock (held_by other scan.rows) is (same ∙ none)) fate)
      | inr off ↦ fate-same least count more _ _ (other-changed chan (is_row_of other) (relax_row level up_bound) scan.rows (apart-row chan other (eqb-false (channel_number other) (channel_number chan) off)) (λ r. refl)) grows fate
    ]
fate-after shape chan t scan (Deny other) Is.Denied least count more differ is own grows second tells fate =
    elim (cases_Bool (nat_eq (channel_number other) (channel_number chan))) [
      | inl on ↦ absurd (let e = eqb-true (channel_number other) (channel_number chan) on in
          let same : held_by other scan.rows ≡ held_by chan scan.rows = ap (λ n. find (λ k. nat_eq (channel_number k.chan) n) (map row_terms scan.rows)) e in
          changed-never least count (held_by chan scan.rows) (λ terms held. denied-tent (held_by other scan.rows) terms is (same ∙ held)) (λ none. denied-none (held_by other scan.rows) is (same ∙ none)) fate)
      | inr off ↦ fate-same least count more _ _ (other-without chan (is_row_of other) scan.rows (apart-row chan other (eqb-false (channel_number other) (channel_number chan) off))) grows fate
    ]
fate-after shape chan t scan (Submit other many gap size) (Is.Planned clock) least count more differ is own grows second tells fate = fate-same least count more _ _ (held-submitted shape chan other t scan many gap size (Is.Planned clock)) grows fate
fate-after shape chan t scan (Release other upstream) (Is.Closing told cancelled) least count more differ is own grows second tells fate =
    let from = released-count t upstream (find (is_row_at_hop other (names_first_hop upstream)) scan.rows) told cancelled is in
    fate-same least count more _ _ refl grows
    (release-fate chan other (names_first_hop upstream) t told scan.rows least count
    (λ same. (let ticks = own from.row (row-at-hop other (names_first_hop upstream) from.row (find-passes (is_row_at_hop other (names_first_hop upstream)) from.row scan.rows from.is) ∙ same) (is_row_at_hop other (names_first_hop upstream)) from.is in
    let upto = tells same in let counted : told ≡ count_at_release upstream count = from.count_is ∙ ap (count_at_release upstream) ticks in subst (λ n. least ≤ n) (sym counted) upto)) fate)
fate-after shape chan t scan (Arrive packet) (Is.Taken clock eligible) least count more differ is own grows second tells fate = fate-same least count more _ _ (arrival-held chan t packet scan (find (is_row_of packet.chan) scan.rows)) grows fate
fate-after shape chan t scan Tick reply least count more differ is own grows second tells fate = tick-fate shape chan t scan least count more differ (λ row found. own row (row-of chan row (find-passes (is_row_of chan) row scan.rows found)) (is_row_of chan) found) grows fate
fate-after shape chan t scan _ (Is.Planned clock) least count more differ is own grows second tells fate = fate-same least count more _ _ refl grows fate
fate-after shape chan t scan _ _ least count more differ is own grows second tells fate = fate-same least count more _ _ refl grows fate

-- ---- the packets at the first hop

first-refuses : (bounds : List ℕ) (t : ℕ) (packet : Packet) (terms : Reservation) (taken held e clock eligible : ℕ)
    → Is.Taken clock eligible ≡ arrive_reply bounds t packet terms taken held e → terms.first ≡ true → ⊥
first-refuses bounds t packet terms taken held e clock eligible same first =
    (let clash : true ≡ false = sym first ∙ (arrive-tells bounds t packet terms taken held e clock eligible same).later in cc)

-- other than by a tick, or where no row is committed, no packet of the channel comes there
pub first-quiet : (shape : LinkShape) (chan : ChanNo) (t : ℕ) (scan : Scan) (ask : Ask) (reply : Reply) → DifferInChannel scan.rows
    → Each (IsInOrder shape t) scan.rows → MayAnswer shape t scan ask reply
    → ((row : Row) → channel_of row ≡ channel_number chan → (test : Row → Bool) → find test scan.rows ≡ Some row → row.terms.first ≡ true)
    → (ask ≡ Tick → NotCommitted (held_by chan scan.rows))
    → channel_packets (channel_number chan) (after shape t scan ask reply).packets ≡ channel_packets (channel_number chan) scan.packets
unfolding MayAnswer reply_at
first-quiet shape chan t scan ask reply differ order is own none =
    packets-by (λ a r clock packets. MayAnswer shape t scan a r → (a ≡ Tick → NotCommitted (held_by chan scan.rows)) → channel_packets (channel_number chan) packets ≡ channel_packets (channel_number chan) scan.packets) shape t scan
    (λ a r may quiet. refl)
    (λ packet row clock eligible found may quiet. packets-off (channel_number chan) scan.packets (arrived_packet t (suc (length scan.packets)) packet row) (λ on.
    first-refuses shape.bounds t packet row.terms (length row.ticks) _ _ clock eligible (may ∙ ap (arrive_to shape t scan.packets packet) found) (own row on (is_row_of packet.chan) found)))
    (λ r may quiet. tick-rests shape chan t scan differ order (quiet refl))
    ask reply is none
