-- The list of the closing rows follows each step, and the shares follow the tick in which some expire.
use Rattle.std.proofs.Common.{◌≡◌, ℕ, ◌+◌, ◌≤◌, inl, inr, Bool, true, false, List, [], ◌∷◌, ◌++◌, map, length, Option, Some, None, refl, sym, ap, ◌∙◌, subst, arith}
use Rattle.std.proofs.lemmas.Bool.{cases_Bool}
use Rattle.std.proofs.lemmas.Option.{same_Some, slice_get_within}
use Rattle.std.specs.Prelude.{IfOk, OnErr, IsOk, Result, Ok, Err, filter, find}
use Rattle.std.specs.Option.{option_map}
use Rattle.net_units.specs.declared.numbers.ChanNo.{ChanNo}
use Rattle.traffic_contract.specs.Admission.{total}
use Rattle.traffic_contract.proofs.AdmissionTest.{total-map, total-push}
use Rattle.link_steps.specs.declared.asks.Ask.{Ask}
use Rattle.link_steps.specs.declared.asks.Ask.TheVariants.{Reserve, Relax, Deny, Release, Tick}
use Rattle.link_steps.specs.declared.replies.Entry.{Entry}
use Rattle.link_steps.specs.declared.replies.Phase.{Phase}
use Rattle.link_steps.specs.declared.replies.Phase.TheVariants.{Tentative, Committed, Closing}
use Rattle.link_steps.specs.declared.replies.Refusal.{Refusal}
use Rattle.link_steps.specs.declared.replies.Refusal.TheVariants as Why
use Rattle.link_steps.specs.declared.replies.Reply.{Reply}
use Rattle.link_steps.specs.declared.replies.Reply.TheVariants as Is
use Rattle.link_steps.specs.declared.shape.LinkShape.{LinkShape}
use Rattle.link_steps.specs.Hold.{stays}
use Rattle.link_steps.specs.Account.{Account, StandsFor}
use Rattle.link_steps.specs.Replies.{reply_to, reply_at, relax_reply, deny_reply, release_reply, release_to}
use Rattle.link_steps.specs.Reservation.{Reservation, is_of, is_phase, tentative}
use Rattle.link_steps.specs.Room.{group_work, group_units}
use Rattle.link_steps.specs.Rows.{Row, row_terms, new_row}
use Rattle.link_steps.specs.Scan.{Scan, clock_of, is_row_of, is_row_at_hop, names_first_hop, scan_of, after, after_tick, with_best, with_sources, without_expired}
use Rattle.link_steps.specs.Service.{here_at}
use Rattle.link_steps.specs.Split.{Link, SplitFits, is_split}
use Rattle.link_steps.proofs.AdmissionHolds.{find-terms, rows_after-terms}
use Rattle.link_steps.proofs.LegalAdmissible.{legal-has}
use Rattle.link_steps.proofs.LegalChannels.{DifferInChannel, legal-channels}
use Rattle.link_steps.proofs.ListParts.{stands-at}
use Rattle.link_server.specs.Held.{seen, seen_of}
use Rattle.link_server.specs.declared.held_row.HeldRow.{HeldRow}
use Rattle.link_server.proofs.ChosenLevel.{terms-stand}
use Rattle.link_quota.specs.Closing.{is_closing, if_closing, closing_part, AreClosing, is_held, if_held, if_gone, HaveGone, AreLowered}
use Rattle.link_quota.specs.Places.{value_of, work_for, units_for_row}
use Rattle.link_quota.specs.Shares.{AreShares}
use Rattle.link_quota.specs.Steps.{GoesOn, IsCarrying, IsReserve, IsSettling}
use Rattle.link_quota.specs.Stood.{IsLegallyStood}
use Rattle.link_quota.specs.declared.share.Share.{Share}
use Rattle.link_quota.proofs.ExpiringRows.{gone-total, left-total, total-filtered, expires-closing}
use Rattle.link_quota.proofs.OwnRows.{hop-of}
use Rattle.link_quota.proofs.SomeLegalHistory.{held_in, sure-equal, same-total, setup-total}
use Rattle.link_quota.proofs.RowChanges.{none-of, find-none, narrower, terms-carried, terms-ticked}
use Rattle.link_quota.proofs.SplitSteps.{settling-setup, settling-new}

-- ---- where no sum changes

pub closing-same : (link : Link) (held held' : List Reservation) (rows : List HeldRow)
    → ((f : Reservation → ℕ) → total f held' ≡ total f held) → AreClosing link held rows → AreClosing link held' rows
closing-same link held held' rows same before = λ splits f. before splits f ∙ sym (same (closing_part link.shape.bounds f))

pub closing-kept : (link : Link) (k k' : Account) (rows : List HeldRow)
    → ((h : List Entry) → StandsFor link.shape k h → StandsFor link.shape k' h) → IsLegallyStood link k → AreClosing link (held_in k) rows
    → AreClosing link (held_in k') rows
closing-kept link k k' rows same stood before =
    closing-same link (held_in k) (held_in k') rows (λ f. same-total link k k' f stood (λ h legal stands.
    terms-stand link.shape k' h (same h stands) ∙ sym (terms-stand link.shape k h stands))) before

pub closing-carried : {E : Type 0} (link : Link) (k k' : Account) (ask : Ask) (r : Result Reply E) (rows : List HeldRow)
    → IfOk r (GoesOn link k k' ask) → OnErr r ((h : List Entry) → StandsFor link.shape k h → StandsFor link.shape k' h) → IsCarrying ask
    → IsLegallyStood link k → AreClosing link (held_in k) rows → AreClosing link (held_in k') rows
unfolding scan_of
closing-carried link k k' ask (Ok reply) rows goes same carries stood before =
    closing-same link (held_in k) (held_in k') rows (λ f. same-total link k k' f stood (λ h legal stands.
    terms-stand link.shape k' (record { ask = ask; reply = reply } ∷ h) (goes.entered h stands)
    ∙ terms-carried link.shape (clock_of h) (scan_of link.shape h) ask reply carries
    ∙ sym (terms-stand link.shape k h stands))) before
closing-carried link k k' ask (Err e) rows goes same carries stood before = closing-kept link k k' rows same stood before

pub closing-ticked : {E : Type 0} (link : Link) (k k' : Account) (r : Result Reply E) (rows : List HeldRow) → IfOk r (GoesOn link k k' Tick)
    → OnErr r ((h : List Entry) → StandsFor link.shape k h → StandsFor link.shape k' h) → length (held_in k) ≤ length (held_in k')
    → IsLegallyStood link k → AreClosing link (held_in k) rows → AreClosing link (held_in k') rows
unfolding scan_of after
closing-ticked link k k' (Ok reply) rows goes same most stood before =
    closing-same link (held_in k) (held_in k') rows (λ f. same-total link k k' f stood (λ h legal stands.
    let now = terms-stand link.shape k' (record { ask = Tick; reply = reply } ∷ h) (goes.entered h stands) in
    let was = terms-stand link.shape k h stands in
    let one = ap length now in let two = ap length was in
    now ∙ terms-ticked link.shape (clock_of h) (scan_of link.shape h) (omega (arith, one, two, most)) ∙ sym was)) before
closing-ticked link k k' (Err e) rows goes same most stood before = closing-kept link k k' rows same stood before

-- ---- a reserve, whose row is tentative

reserved-same : (bounds : List ℕ) (f : HeldRow → ℕ) (shape : LinkShape) (t : ℕ) (scan : Scan) (ask : Ask) (reply : Reply) → IsReserve ask
    → total (closing_part bounds f) (map row_terms (after shape t scan ask reply).rows) ≡ total (closing_part bounds f) (map row_terms scan.rows)
unfolding after
reserved-same bounds f shape t scan (Reserve chan contract kind delay up_reach first next) (Is.Offer level reach) is =
    let new = new_row (tentative chan contract kind first next up_reach level reach) in
    let one = total-map (closing_part bounds f) row_terms (scan.rows ++ new ∷ []) in
    let two = total-push (λ (row : Row). closing_part bounds f row.terms) scan.rows new in
    let three = total-map (closing_part bounds f) row_terms scan.rows in
    omega (arith, one, two, three)
reserved-same bounds f shape t scan (Reserve chan contract kind delay up_reach first next) _ is = refl
reserved-same bounds f shape t scan _ reply is = absurd is

pub closing-reserved : (link : Link) (k k' : Account) (ask : Ask) (reply : Reply) (rows : List HeldRow) → GoesOn link k k' ask reply
    → IsReserve ask → IsLegallyStood link k → AreClosing link (held_in k) rows → AreClosing link (held_in k') rows
unfolding scan_of
closing-reserved link k k' ask reply rows goes is stood before = λ splits f. before splits f ∙ sym (sure-equal _ _ (λ other. stood (λ h legal stands. other
    (ap (total (closing_part link.shape.bounds f)) (terms-stand link.shape k' (record { ask = ask; reply = reply } ∷ h) (goes.entered h stands))
    ∙ reserved-same link.shape.bounds f link.shape (clock_of h) (scan_of link.shape h) ask reply is
    ∙ sym (ap (total (closing_part link.shape.bounds f)) (terms-stand link.shape k h stands))))))

-- ---- a closing row takes no ask but a packet

not-tentative : (phase : Phase) → is_phase phase Closing ≡ true → is_phase phase Tentative ≡ false
not-tentative Tentative is = cc
not-tentative Committed is = cc
not-tentative Closing is = refl

not-committed : (phase : Phase) → is_phase phase Closing ≡ true → is_phase phase Committed ≡ false
not-committed Tentative is = cc
not-committed Committed is = cc
not-committed Closing is = refl

-- what is found at a hop of a channel is the channel's row
found-hop : (test : Row → Bool) (chan : ChanNo) (rows : List Row) (row other : Row) → ((r : Row) → test r ≡ true → is_row_of chan r ≡ true)
    → DifferInChannel rows → find (is_row_of chan) rows ≡ Some row → find test rows ≡ Some other → row ≡ other
found-hop test chan [] row other within differ found at = absurd (let clash : None ≡ Some row = found in cc)
found-hop test chan (x ∷ rows) row other within differ found at =
    elim (cases_Bool (is_row_of chan x)) [
      | inl is ↦
          elim (cases_Bool (test x)) [
            | inl passes ↦ sym (same_Some x row (rw is at found)) ∙ same_Some x other (rw passes at at)
            | inr fails ↦ absurd (let clash : None ≡ Some other = sym (find-none test rows (narrower test chan within rows (none-of chan x rows is differ.0))) ∙ (rw fails at at) in cc)
          ]
      | inr apart ↦
          elim (cases_Bool (test x)) [
            | inl passes ↦ absurd (let clash : true ≡ false = sym (within x passes) ∙ apart in cc)
            | inr fails ↦ found-hop test chan rows row other within differ.1 (rw apart at found) (rw fails at at)
          ]
    ]

closing-refused : (link : Link) (t : ℕ) (scan : Scan) (ask : Ask) (chan : ChanNo) (row : Row) → IsSettling chan ask
    → DifferInChannel scan.rows → find (is_row_of chan) scan.rows ≡ Some row → is_phase row.terms.phase Closing ≡ true
    → (why : Refusal) × (reply_at link t scan ask ≡ Is.Refused why)
unfolding reply_at relax_reply deny_reply release_reply
closing-refused link t scan (Relax chan' level up_bound) chan row is differ found phase =
    (Why.NotInPhase row.terms.phase, ap (λ c. relax_reply t level up_bound (find (is_of c) (map row_terms scan.rows))) is ∙ ap (relax_reply t level up_bound) (find-terms chan scan.rows ∙ ap (option_map row_terms) found) ∙ (rw (not-tentative row.terms.phase phase) refl))
closing-refused link t scan (Deny chan') chan row is differ found phase =
    (Why.NotInPhase row.terms.phase, ap (λ c. deny_reply (find (is_of c) (map row_terms scan.rows))) is ∙ ap deny_reply (find-terms chan scan.rows ∙ ap (option_map row_terms) found) ∙ (rw (not-tentative row.terms.phase phase) refl))
closing-refused link t scan (Release chan' upstream) chan row is differ found phase =
    one (find (is_row_at_hop chan' (names_first_hop upstream)) scan.rows) refl where
      one : (at : Option Row) → find (is_row_at_hop chan' (names_first_hop upstream)) scan.rows ≡ at → (why : Refusal) × (release_to t upstream at ≡ Is.Refused why)
      one None none = (Why.NoSuch, refl)
      one (Some other) at =
          let same = found-hop (is_row_at_hop chan' (names_first_hop upstream)) chan scan.rows row other (λ r passes. subst (λ c. is_row_of c r ≡ true) is (hop-of chan' (names_first_hop upstream) r passes)) differ found at in
          let closes : is_phase other.terms.phase Closing ≡ true = subst (λ (r : Row). is_phase r.terms.phase Closing ≡ true) same phase in
          (Why.NotInPhase other.terms.phase, rw (not-committed other.terms.phase closes) refl)
closing-refused link t scan (Reserve chan' contract kind delay up_reach first next) chan row is differ found phase = absurd is
closing-refused link t scan _ chan row is differ found phase = absurd is

refused-same : (shape : LinkShape) (t : ℕ) (scan : Scan) (ask : Ask) (chan : ChanNo) (why : Refusal) → IsSettling chan ask
    → (after shape t scan ask (Is.Refused why)).rows ≡ scan.rows
unfolding after
refused-same shape t scan (Relax chan' level up_bound) chan why is = refl
refused-same shape t scan (Deny chan') chan why is = refl
refused-same shape t scan (Release chan' upstream) chan why is = refl
refused-same shape t scan (Reserve chan' contract kind delay up_reach first next) chan why is = absurd is
refused-same shape t scan _ chan why is = absurd is

-- so where the channel's row is closing, an ask on it changes no row
closing-stays : (link : Link) (t : ℕ) (scan : Scan) (ask : Ask) (reply : Reply) (chan : ChanNo) → IsSettling chan ask
    → DifferInChannel scan.rows → reply ≡ reply_at link t scan ask → (bounds : List ℕ)
    → is_closing (option_map (seen bounds) (find (is_of chan) (map row_terms scan.rows))) ≡ true
    → (after link.shape t scan ask reply).rows ≡ scan.rows
closing-stays link t scan ask reply chan is differ legal bounds closes =
    one (find (is_row_of chan) scan.rows) refl (sym (ap (λ found. is_closing (option_map (seen bounds) found)) (find-terms chan scan.rows)) ∙ closes) where
      one : (found : Option Row) → find (is_row_of chan) scan.rows ≡ found → is_closing (option_map (seen bounds) (option_map row_terms (find (is_row_of chan) scan.rows))) ≡ true → (after link.shape t scan ask reply).rows ≡ scan.rows
      one None at closing = absurd (let clash : false ≡ true = sym (ap (λ f. is_closing (option_map (seen bounds) (option_map row_terms f))) at) ∙ closing in cc)
      one (Some row) at closing =
          let phase : is_phase row.terms.phase Closing ≡ true = sym (ap (λ f. is_closing (option_map (seen bounds) (option_map row_terms f))) at) ∙ closing in
          let refused = closing-refused link t scan ask chan row is differ at phase in
          ap (λ r. (after link.shape t scan ask r).rows) (legal ∙ refused.1) ∙ refused-same link.shape t scan ask chan refused.0 is

-- ---- the channel's row changes

pub value-part : (bounds : List ℕ) (f : HeldRow → ℕ) (found : Option Reservation)
    → value_of (if_closing f) (option_map (seen bounds) found) ≡ value_of (closing_part bounds f) found
value-part bounds f None = refl
value-part bounds f (Some terms) = refl

pub value-open : (f : HeldRow → ℕ) (row : Option HeldRow) → is_closing row ≡ false → value_of (if_closing f) row ≡ 0
value-open f None open_is = refl
value-open f (Some row) open_is = rw open_is refl

pub closing-settled : (link : Link) (k k' : Account) (ask : Ask) (reply : Reply) (chan : ChanNo) (rows rows' : List HeldRow)
    → SplitFits link → GoesOn link k k' ask reply → IsSettling chan ask → IsLegallyStood link k
    → (is_closing (seen_of link.shape.bounds (held_in k) chan) ≡ false → (f : HeldRow → ℕ) → total f rows' ≡ total f rows + value_of (if_closing f) (seen_of link.shape.bounds (held_in k') chan))
    → (is_closing (seen_of link.shape.bounds (held_in k) chan) ≡ true → rows' ≡ rows) → AreClosing link (held_in k) rows
    → AreClosing link (held_in k') rows'
unfolding scan_of reply_to
closing-settled link k k' ask reply chan rows rows' fits goes is stood fresh old before = λ splits f.
    elim (cases_Bool (is_closing (seen_of link.shape.bounds (held_in k) chan))) [
      | inl was ↦
          ap (total f) (old was) ∙ before splits f ∙ sym (same-total link k k' (closing_part link.shape.bounds f) stood (λ h legal stands.
          let then_is = terms-stand link.shape k h stands in
          let differ = legal-channels link.shape h (legal-has link h fits legal).admissible in
          terms-stand link.shape k' (record { ask = ask; reply = reply } ∷ h) (goes.entered h stands)
          ∙ ap (map row_terms) (closing-stays link (clock_of h) (scan_of link.shape h) ask reply chan is differ (goes.legal h stands) link.shape.bounds
          (subst (λ held. is_closing (seen_of link.shape.bounds held chan) ≡ true) then_is was))
          ∙ sym then_is))
      | inr apart ↦
          let sum = setup-total link k k' ask reply chan (closing_part link.shape.bounds f) fits goes (settling-setup chan ask is) (λ h stands. settling-new chan ask reply _ is) stood in
          let one = value-part link.shape.bounds f (find (is_of chan) (held_in k)) in
          let two = value-part link.shape.bounds f (find (is_of chan) (held_in k')) in
          let zero_is = value-open f (seen_of link.shape.bounds (held_in k) chan) apart in
          let more = fresh apart f in
          let was = before splits f in
          omega (arith, sum, one, two, zero_is, more, was)
    ]

-- ---- a tick in which rows expire

-- the rows held after a tick are those that stay
pub left-terms : (shape : LinkShape) (t : ℕ) (scan : Scan)
    → map row_terms (after_tick shape t scan).rows ≡ map row_terms (filter (stays shape.bounds t) scan.rows)
unfolding after_tick with_best with_sources without_expired
left-terms shape t scan = rows_after-terms shape.bounds (here_at shape.rate scan.packets t) t (length scan.packets) (filter (stays shape.bounds t) scan.rows)

pub lost-total : (link : Link) (k k' : Account) (reply : Reply) (f : HeldRow → ℕ) → SplitFits link → GoesOn link k k' Tick reply
    → IsLegallyStood link k
    → total (closing_part link.shape.bounds (if_gone link.shape.bounds (held_in k') f)) (held_in k) + total (λ terms. f (seen link.shape.bounds terms)) (held_in k') ≡ total (λ terms. f (seen link.shape.bounds terms)) (held_in k)
unfolding scan_of after
lost-total link k k' reply f fits goes stood = sure-equal _ _ (λ other. stood (λ h legal stands. other
    (let bounds = link.shape.bounds in
    let now = terms-stand link.shape k' (record { ask = Tick; reply = reply } ∷ h) (goes.entered h stands) ∙ left-terms link.shape (clock_of h) (scan_of link.shape h) in
    let was = terms-stand link.shape k h stands in
    let differ = legal-channels link.shape h (legal-has link h fits legal).admissible in
    subst (λ held'. total (closing_part link.shape.bounds (if_gone link.shape.bounds held' f)) (held_in k) + total (λ terms. f (seen link.shape.bounds terms)) held' ≡ total (λ terms. f (seen link.shape.bounds terms)) (held_in k)) (sym now)
    (subst (λ held. total (closing_part link.shape.bounds (if_gone link.shape.bounds (map row_terms (filter (stays link.shape.bounds (clock_of h)) (scan_of link.shape h).rows)) f)) held + total (λ terms. f (seen link.shape.bounds terms)) (map row_terms (filter (stays link.shape.bounds (clock_of h)) (scan_of link.shape h).rows)) ≡ total (λ terms. f (seen link.shape.bounds terms)) held) (sym was)
    (gone-total link.shape.bounds f (stays link.shape.bounds (clock_of h)) (scan_of link.shape h).rows differ (expires-closing link.shape.bounds (clock_of h)))))))

pub stayed-total : (link : Link) (k k' : Account) (reply : Reply) (f : HeldRow → ℕ) → SplitFits link → GoesOn link k k' Tick reply
    → IsLegallyStood link k
    → total (closing_part link.shape.bounds (if_held link.shape.bounds (held_in k') f)) (held_in k) ≡ total (closing_part link.shape.bounds f) (held_in k')
unfolding scan_of after
stayed-total link k k' reply f fits goes stood = sure-equal _ _ (λ other. stood (λ h legal stands. other
    (let now = terms-stand link.shape k' (record { ask = Tick; reply = reply } ∷ h) (goes.entered h stands) ∙ left-terms link.shape (clock_of h) (scan_of link.shape h) in
    let was = terms-stand link.shape k h stands in
    let differ = legal-channels link.shape h (legal-has link h fits legal).admissible in
    subst (λ held'. total (closing_part link.shape.bounds (if_held link.shape.bounds held' f)) (held_in k) ≡ total (closing_part link.shape.bounds f) held') (sym now)
    (subst (λ held. total (closing_part link.shape.bounds (if_held link.shape.bounds (map row_terms (filter (stays link.shape.bounds (clock_of h)) (scan_of link.shape h).rows)) f)) held ≡ total (closing_part link.shape.bounds f) (map row_terms (filter (stays link.shape.bounds (clock_of h)) (scan_of link.shape h).rows))) (sym was)
    (left-total link.shape.bounds f (stays link.shape.bounds (clock_of h)) (scan_of link.shape h).rows differ)))))

-- the same of the parts of a group, as a share has them
lost-work : (link : Link) (k k' : Account) (reply : Reply) (rows : List HeldRow) (group m : ℕ) → SplitFits link
    → GoesOn link k k' Tick reply → IsLegallyStood link k → is_split link.split ≡ true → AreClosing link (held_in k) rows
    → total (if_gone link.shape.bounds (held_in k') (work_for link group m)) rows + total (group_work link group m) (held_in k') ≡ total (group_work link group m) (held_in k)
unfolding group_work
lost-work link k k' reply rows group m fits goes stood splits listed =
    let one = listed splits (if_gone link.shape.bounds (held_in k') (work_for link group m)) in
    let two = lost-total link k k' reply (work_for link group m) fits goes stood in
    ap (λ n. n + total (group_work link group m) (held_in k')) one ∙ two

lost-units : (link : Link) (k k' : Account) (reply : Reply) (rows : List HeldRow) (group : ℕ) → SplitFits link → GoesOn link k k' Tick reply
    → IsLegallyStood link k → is_split link.split ≡ true → AreClosing link (held_in k) rows
    → total (if_gone link.shape.bounds (held_in k') (units_for_row link group)) rows + total (group_units link group) (held_in k') ≡ total (group_units link group) (held_in k)
unfolding group_units
lost-units link k k' reply rows group fits goes stood splits listed =
    let one = listed splits (if_gone link.shape.bounds (held_in k') (units_for_row link group)) in
    let two = lost-total link k k' reply (units_for_row link group) fits goes stood in
    ap (λ n. n + total (group_units link group) (held_in k')) one ∙ two

pub have-gone : {E : Type 0} (link : Link) (k k' : Account) (r : Result Reply E) (rows : List HeldRow) (shares : List Share)
    → SplitFits link → IsOk r → IfOk r (GoesOn link k k' Tick) → IsLegallyStood link k → is_split link.split ≡ true
    → AreClosing link (held_in k) rows → AreShares link (held_in k) shares → HaveGone link (held_in k') rows shares
have-gone link k k' (Ok reply) rows shares fits ok goes stood splits listed are = λ n quota share at is.
    let share_is = are.each n quota share at is in
    record {
      loads = λ i within. (let one = share_is.loads i within in let two = lost-work link k k' reply rows quota.group (i + 1) fits goes stood splits listed in omega (arith, one, two));
      units = (let one = share_is.units in let two = lost-units link k k' reply rows quota.group fits goes stood splits listed in omega (arith, one, two));
    }
have-gone link k k' (Err e) rows shares fits ok goes stood splits listed are = absurd (let clash : false ≡ true = ok in cc)

pub shares-lowered : {E : Type 0} (link : Link) (k k' : Account) (r : Result Reply E) (rows : List HeldRow) (shares shares' : List Share)
    → SplitFits link → IsOk r → IfOk r (GoesOn link k k' Tick) → IsLegallyStood link k → is_split link.split ≡ true
    → AreClosing link (held_in k) rows → AreShares link (held_in k) shares → AreLowered link (held_in k') rows shares shares'
    → AreShares link (held_in k') shares'
shares-lowered link k k' (Ok reply) rows shares shares' fits ok goes stood splits listed are lowered = record {
  long = lowered.long ∙ are.long;
  each = λ n quota share' at is.
      let inside = slice_get_within shares' n share' is in
      let long = lowered.long in
      let was = stands-at shares n (omega (arith, inside, long)) in
      let less = lowered.each n quota was.0 share' at was.1 is in
      let share_is = are.each n quota was.0 at was.1 in
      record {
        loads = λ i within. (let one = share_is.loads i within in let two = lost-work link k k' reply rows quota.group (i + 1) fits goes stood splits listed in let three = less.loads i within in omega (arith, one, two, three));
        units = (let one = share_is.units in let two = lost-units link k k' reply rows quota.group fits goes stood splits listed in let three = less.units in omega (arith, one, two, three));
      };
}
shares-lowered link k k' (Err e) rows shares shares' fits ok goes stood splits listed are lowered = absurd (let clash : false ≡ true = ok in cc)

pub closing-left : {E : Type 0} (link : Link) (k k' : Account) (r : Result Reply E) (rows : List HeldRow) → SplitFits link → IsOk r
    → IfOk r (GoesOn link k k' Tick) → IsLegallyStood link k → AreClosing link (held_in k) rows
    → AreClosing link (held_in k') (filter (is_held link.shape.bounds (held_in k')) rows)
closing-left link k k' (Ok reply) rows fits ok goes stood listed = λ splits f.
    total-filtered f (is_held link.shape.bounds (held_in k')) rows ∙ listed splits (if_held link.shape.bounds (held_in k') f) ∙ stayed-total link k k' reply f fits goes stood
closing-left link k k' (Err e) rows fits ok goes stood listed = absurd (let clash : false ≡ true = ok in cc)
