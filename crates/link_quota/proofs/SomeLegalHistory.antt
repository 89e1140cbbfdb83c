-- A state of a split link stands for some legal history. So its groups are within their quotas, and its shares follow each step.
use Rattle.std.proofs.Common.{◌≡◌, ℕ, ◌+◌, ◌^◌, ◌<◌, ◌≤◌, ⊎_elim, inl, inr, Bool, true, false, cond, List, [], ◌∷◌, map, length, Option, Some, None, refl, sym, ap, ◌∙◌, subst, arith}
use Rattle.std.proofs.lemmas.Bool.{cases_Bool, cases_eq, cases_lt, eq-eqb, eqb-true}
use Rattle.std.proofs.lemmas.Option.{same_Some, slice_get_within}
use Rattle.link_quota.proofs.SharesRowByRow.{buffer-small}
use Rattle.link_quota.proofs.GroupRoom.{seen-found}
use Rattle.std.specs.Prelude.{find, nat_eq}
use Rattle.std.specs.Option.{option_map}
use Rattle.net_units.specs.declared.numbers.ChanNo.{ChanNo}
use Rattle.traffic_contract.specs.Admission.{total}
use Rattle.traffic_contract.proofs.AdmissionTest.{total-map}
use Rattle.link_steps.specs.declared.asks.Ask.{Ask}
use Rattle.link_steps.specs.declared.asks.Ask.TheVariants.{Reserve, Tick}
use Rattle.link_steps.specs.declared.quota.Quota.{Quota}
use Rattle.link_steps.specs.declared.replies.Entry.{Entry}
use Rattle.link_steps.specs.declared.replies.Reply.{Reply}
use Rattle.link_steps.specs.declared.replies.Reply.TheVariants as Is
use Rattle.link_steps.specs.declared.replies.Refusal.{Refusal}
use Rattle.net_units.specs.declared.Kind.{Kind}
use Rattle.net_units.specs.declared.numbers.Level.{Level}
use Rattle.net_units.specs.declared.numbers.LinkNo.{LinkNo}
use Rattle.net_units.specs.Numbers.{level_number}
use Rattle.net_units.specs.LevelBounds.{reach_of}
use Rattle.traffic_contract.specs.Contract.{Traffic}
use Rattle.link_steps.specs.Levels.{level_of}
use Rattle.link_steps.proofs.Account.{stands-entry}
use Rattle.link_steps.proofs.ReservationFound.{offer-best}
use Rattle.link_server.proofs.EveryHistoryAgrees.{rows-have}
use Rattle.link_steps.specs.Account.{Account, StandsFor, account_terms, account_after}
use Rattle.link_steps.specs.Legal.{AskFits, IsLegal}
use Rattle.link_steps.specs.Replies.{reserve_reply, reply_at, reply_to}
use Rattle.link_steps.specs.Reservation.{Reservation, is_of}
use Rattle.link_steps.specs.Room.{group_work, group_units, level_quota, buffer_quota, room_of, whole_room}
use Rattle.link_steps.specs.Rows.{Row, row_terms}
use Rattle.link_steps.specs.Scan.{clock_of, is_row_of, scan_of, after}
use Rattle.link_steps.specs.Split.{Link, Split, SplitFits, is_split, is_in, group_of, whole}
use Rattle.link_steps.proofs.AdmissionHolds.{find-terms}
use Rattle.link_steps.proofs.LegalAdmissible.{legal-has}
use Rattle.link_steps.proofs.LegalChannels.{legal-channels}
use Rattle.link_steps.proofs.QuotasFitLink.{AreWithin, group-offer-may}
use Rattle.link_server.specs.Held.{seen, seen_of, reservations_held, MayReserve}
use Rattle.link_server.specs.State.{account_in, LinkStands}
use Rattle.link_server.specs.declared.link_state.LinkState.{LinkState}
use Rattle.link_server.specs.declared.held_row.HeldRow.{HeldRow}
use Rattle.link_server.proofs.ChosenLevel.{terms-stand}
use Rattle.link_quota.specs.Places.{AreFew, HavePart, value_of, work_for, units_for_row, AreChangedBy}
use Rattle.link_quota.specs.Shares.{row_work, AreShares}
use Rattle.link_quota.specs.Steps.{GoesOn, IsCarrying}
use Rattle.link_quota.specs.Stood.{IsLegallyStood}
use Rattle.link_quota.specs.declared.share.Share.{Share}
use Rattle.link_quota.proofs.RowChanges.{IsSetupOf, OffersNew, sum-setup, terms-carried, terms-ticked}
use Rattle.link_steps.proofs.ListParts.{stands-at}

-- ---- what can't fail to hold

pub sure-equal : (a b : ℕ) → ((a ≡ b → ⊥) → ⊥) → a ≡ b
sure-equal a b sure = ⊎_elim (λ (same : a ≡ b). same) (λ (other : a ≡ b → ⊥). absurd (sure other)) (cases_eq a b)

pub sure-most : (a b : ℕ) → ((a ≤ b → ⊥) → ⊥) → a ≤ b
sure-most a b sure = ⊎_elim (λ (over : b < a). absurd (sure (λ most. omega (arith, over, most)))) (λ (most : a ≤ b). most) (cases_lt b a)

-- the reservations that an account holds
abbrev pub held_in : Account → List Reservation
held_in k = map account_terms k.rows

-- ---- within the quotas

pub stood-within : (link : Link) (k : Account) → SplitFits link → is_split link.split ≡ true → IsLegallyStood link k → AreWithin link (held_in k)
stood-within link k fits splits stood = record {
  levels = λ group m from upto. sure-most _ _ (λ over. stood (λ h legal stands. over
      (subst (λ held. total (group_work link group m) held ≤ level_quota link group m) (sym (terms-stand link.shape k h stands)) (((legal-has link h fits legal).within splits).levels group m from upto))));
  buffer = λ group. sure-most _ _ (λ over. stood (λ h legal stands. over
      (subst (λ held. total (group_units link group) held ≤ buffer_quota link group) (sym (terms-stand link.shape k h stands)) (((legal-has link h fits legal).within splits).buffer group))));
}

-- ---- a step

pub stood-goes : (link : Link) (k k' : Account) (ask : Ask) (reply : Reply) → GoesOn link k k' ask reply → IsLegallyStood link k → IsLegallyStood link k'
unfolding IsLegal
stood-goes link k k' ask reply goes stood = λ none. stood (λ h legal stands. none (record { ask = ask; reply = reply } ∷ h) (legal, record { fits = goes.fits; answered = goes.legal h stands }) (goes.entered h stands))

-- an account that stands for the same histories
pub stood-same : (link : Link) (k k' : Account) → ((h : List Entry) → StandsFor link.shape k h → StandsFor link.shape k' h) → IsLegallyStood link k → IsLegallyStood link k'
stood-same link k k' same stood = λ none. stood (λ h legal stands. none h legal (same h stands))

-- ---- the shares

-- a sum over what is held is the same, where it is in every history
pub same-total : (link : Link) (k k' : Account) (f : Reservation → ℕ) → IsLegallyStood link k → ((h : List Entry) → IsLegal link h → StandsFor link.shape k h → held_in k' ≡ held_in k) → total f (held_in k') ≡ total f (held_in k)
same-total link k k' f stood same = sure-equal _ _ (λ other. stood (λ h legal stands. other (ap (total f) (same h legal stands))))

-- shares of sums that are the same
pub shares-same : (link : Link) (held held' : List Reservation) (shares : List Share) → ((f : Reservation → ℕ) → total f held' ≡ total f held) → AreShares link held shares → AreShares link held' shares
shares-same link held held' shares same before = record {
  long = before.long;
  each = λ k quota share at is.
      let share_is = before.each k quota share at is in
      record {
        loads = λ i inside. share_is.loads i inside ∙ sym (same (group_work link quota.group (i + 1)));
        units = share_is.units ∙ sym (same (group_units link quota.group));
      };
}

-- where an ask carries packets
pub shares-carried : (link : Link) (k k' : Account) (ask : Ask) (reply : Reply) (shares : List Share) → GoesOn link k k' ask reply → IsCarrying ask → IsLegallyStood link k → AreShares link (held_in k) shares → AreShares link (held_in k') shares
unfolding scan_of
shares-carried link k k' ask reply shares goes carries stood before =
    shares-same link (held_in k) (held_in k') shares (λ f. same-total link k k' f stood (λ h legal stands.
    terms-stand link.shape k' (record { ask = ask; reply = reply } ∷ h) (goes.entered h stands)
    ∙ terms-carried link.shape (clock_of h) (scan_of link.shape h) ask reply carries
    ∙ sym (terms-stand link.shape k h stands))) before

-- where a tick leaves as many rows as there were
pub shares-ticked : (link : Link) (k k' : Account) (reply : Reply) (shares : List Share) → GoesOn link k k' Tick reply → length (held_in k) ≤ length (held_in k') → IsLegallyStood link k → AreShares link (held_in k) shares → AreShares link (held_in k') shares
unfolding scan_of after
shares-ticked link k k' reply shares goes most stood before =
    shares-same link (held_in k) (held_in k') shares (λ f. same-total link k k' f stood (λ h legal stands.
    let now = terms-stand link.shape k' (record { ask = Tick; reply = reply } ∷ h) (goes.entered h stands) in
    let was = terms-stand link.shape k h stands in
    let one = ap length now in let two = ap length was in
    now ∙ terms-ticked link.shape (clock_of h) (scan_of link.shape h) (omega (arith, one, two, most)) ∙ sym was)) before

-- what a caller sees of a channel's reservation
value-seen : (link : Link) (group m : ℕ) (held : List Reservation) (chan : ChanNo) → value_of (work_for link group m) (seen_of link.shape.bounds held chan) ≡ value_of (group_work link group m) (find (is_of chan) held)
unfolding group_work
value-seen link group m held chan = one (find (is_of chan) held) where
  one : (found : Option Reservation) → value_of (work_for link group m) (option_map (seen link.shape.bounds) found) ≡ value_of (group_work link group m) found
  one None = refl
  one (Some terms) = refl

units-seen : (link : Link) (group : ℕ) (held : List Reservation) (chan : ChanNo) → value_of (units_for_row link group) (seen_of link.shape.bounds held chan) ≡ value_of (group_units link group) (find (is_of chan) held)
unfolding group_units
units-seen link group held chan = one (find (is_of chan) held) where
  one : (found : Option Reservation) → value_of (units_for_row link group) (option_map (seen link.shape.bounds) found) ≡ value_of (group_units link group) found
  one None = refl
  one (Some terms) = refl

value-terms : (f : Reservation → ℕ) (found : Option Row) → value_of f (option_map row_terms found) ≡ value_of (λ (row : Row). f row.terms) found
value-terms f None = refl
value-terms f (Some row) = refl

-- the sum over the reservations changes as the channel's does
pub setup-total : (link : Link) (k k' : Account) (ask : Ask) (reply : Reply) (chan : ChanNo) (f : Reservation → ℕ) → SplitFits link → GoesOn link k k' ask reply → IsSetupOf chan ask → ((h : List Entry) → StandsFor link.shape k h → OffersNew ask reply (scan_of link.shape h).rows) → IsLegallyStood link k → total f (held_in k') + value_of f (find (is_of chan) (held_in k)) ≡ total f (held_in k) + value_of f (find (is_of chan) (held_in k'))
unfolding scan_of
setup-total link k k' ask reply chan f fits goes is new stood = sure-equal _ _ (λ other. stood (λ h legal stands. other
    (let now = terms-stand link.shape k' (record { ask = ask; reply = reply } ∷ h) (goes.entered h stands) in
    let was = terms-stand link.shape k h stands in
    let rows = (scan_of link.shape h).rows in
    let rows' = (after link.shape (clock_of h) (scan_of link.shape h) ask reply).rows in
    let differ = legal-channels link.shape h (legal-has link h fits legal).admissible in
    let sum = sum-setup (λ (row : Row). f row.terms) link.shape (clock_of h) (scan_of link.shape h) ask reply chan is (new h stands) differ in
    let a = ap (total f) now ∙ total-map f row_terms (after link.shape (clock_of h) (scan_of link.shape h) ask reply).rows in
    let b = ap (total f) was ∙ total-map f row_terms (scan_of link.shape h).rows in
    let c = ap (λ held. value_of f (find (is_of chan) held)) was ∙ ap (value_of f) (find-terms chan (scan_of link.shape h).rows) ∙ value-terms f (find (is_row_of chan) (scan_of link.shape h).rows) in
    let d = ap (λ held. value_of f (find (is_of chan) held)) now ∙ ap (value_of f) (find-terms chan (after link.shape (clock_of h) (scan_of link.shape h) ask reply).rows) ∙ value-terms f (find (is_row_of chan) (after link.shape (clock_of h) (scan_of link.shape h) ask reply).rows) in
    omega (arith, sum, a, b, c, d))))

-- so the shares follow
pub shares-setup : (link : Link) (k k' : Account) (ask : Ask) (reply : Reply) (chan : ChanNo) (shares shares' : List Share) → SplitFits link → GoesOn link k k' ask reply → IsSetupOf chan ask → ((h : List Entry) → StandsFor link.shape k h → OffersNew ask reply (scan_of link.shape h).rows) → IsLegallyStood link k → AreShares link (held_in k) shares → AreChangedBy link (seen_of link.shape.bounds (held_in k) chan) (seen_of link.shape.bounds (held_in k') chan) shares shares' → AreShares link (held_in k') shares'
shares-setup link k k' ask reply chan shares shares' fits goes is new stood before changed = record {
  long = changed.long ∙ before.long;
  each = λ n quota share' at after.
      let inside = slice_get_within shares' n share' after in
      let long = changed.long in
      let was = stands-at shares n (omega (arith, inside, long)) in
      let change = changed.each n quota was.0 share' at was.1 after in
      let share_is = before.each n quota was.0 at was.1 in
      record {
        loads = λ i within.
            let sum = setup-total link k k' ask reply chan (group_work link quota.group (i + 1)) fits goes is new stood in
            let one = value-seen link quota.group (i + 1) (held_in k) chan in
            let two = value-seen link quota.group (i + 1) (held_in k') chan in
            let c = change.loads i within in
            let s = share_is.loads i within in
            omega (arith, sum, one, two, c, s);
        units =
            let sum = setup-total link k k' ask reply chan (group_units link quota.group) fits goes is new stood in
            let one = units-seen link quota.group (held_in k) chan in
            let two = units-seen link quota.group (held_in k') chan in
            let c = change.units in
            let s = share_is.units in
            omega (arith, sum, one, two, c, s);
      };
}

-- ---- a new link

pub stood-new : (link : Link) (k : Account) → StandsFor link.shape k [] → IsLegallyStood link k
unfolding IsLegal
stood-new link k stands = λ none. none [] tt stands

pub held-new : (link : LinkState) → LinkStands link [] → reservations_held link ≡ []
unfolding scan_of
held-new link stands = terms-stand link.shape (account_in link) [] stands

pub few-held : (link : Link) (held : List Reservation) → AreWithin link held → AreFew link held
few-held link held within = record { levels = within.levels; buffer = within.buffer }

-- ---- the steps of the link inside

-- an ask that is no reserve is answered the same where a link is split
abbrev pub IsNoReserve : Ask → Type 0
IsNoReserve (Reserve chan contract kind delay up_reach first next) = ⊥
IsNoReserve _ = Unit {0}

same-reply : (link : Link) (h : List Entry) (ask : Ask) → IsNoReserve ask → reply_to (whole link.shape) h ask ≡ reply_to link h ask
unfolding reply_to reply_at
same-reply link h (Reserve chan contract kind delay up_reach first next) other = absurd other
same-reply link h _ other = refl

pub goes-on : (split : Split) (old new : LinkState) (ask : Ask) (reply : Reply) → IsNoReserve ask → AskFits old.shape ask → new.shape ≡ old.shape → ((h : List Entry) → LinkStands old h → reply ≡ reply_to (whole old.shape) h ask) → ((h : List Entry) → LinkStands old h → LinkStands new (record { ask = ask; reply = reply } ∷ h)) → GoesOn (record { shape = old.shape; split = split }) (account_in old) (account_in new) ask reply
goes-on split old new ask reply other fits shape legal entered = record {
  fits = fits;
  legal = λ h stands. legal h stands ∙ same-reply (record { shape = old.shape; split = split }) h ask other;
  entered = λ h stands. subst (λ s. StandsFor s (account_in new) (record { ask = ask; reply = reply } ∷ h)) shape (entered h stands);
}

-- a link that isn't split
pub same-unsplit : (link : Link) (h : List Entry) (ask : Ask) → is_split link.split ≡ false → reply_to (whole link.shape) h ask ≡ reply_to link h ask
unfolding reply_to reply_at reserve_reply room_of whole_room
same-unsplit link h (Reserve chan contract kind delay up_reach first next) whole_is = rw whole_is refl
same-unsplit link h _ whole_is = refl

pub goes-on-unsplit : (split : Split) (old new : LinkState) (ask : Ask) (reply : Reply) → is_split split ≡ false → AskFits old.shape ask → new.shape ≡ old.shape → ((h : List Entry) → LinkStands old h → reply ≡ reply_to (whole old.shape) h ask) → ((h : List Entry) → LinkStands old h → LinkStands new (record { ask = ask; reply = reply } ∷ h)) → GoesOn (record { shape = old.shape; split = split }) (account_in old) (account_in new) ask reply
goes-on-unsplit split old new ask reply other fits shape legal entered = record {
  fits = fits;
  legal = λ h stands. legal h stands ∙ same-unsplit (record { shape = old.shape; split = split }) h ask other;
  entered = λ h stands. subst (λ s. StandsFor s (account_in new) (record { ask = ask; reply = reply } ∷ h)) shape (entered h stands);
}

-- ---- what is kept of a row that is held

total-find : (f : Reservation → ℕ) (chan : ChanNo) (held : List Reservation) (terms : Reservation) → find (is_of chan) held ≡ Some terms → f terms ≤ total f held
total-find f chan [] terms found = absurd (let clash : None ≡ Some terms = found in cc)
total-find f chan (other ∷ held) terms found =
    elim (cases_Bool (is_of chan other)) [
      | inl is ↦ (let same = ap f (same_Some other terms (rw is at found)) in omega (arith, same))
      | inr apart ↦ (let rest = total-find f chan held terms (rw apart at found) in omega (arith, rest))
    ]

pub part-held : (link : Link) (held : List Reservation) (chan : ChanNo) (row : HeldRow) (shares : List Share) → Some row ≡ seen_of link.shape.bounds held chan → AreShares link held shares → HavePart link row shares
unfolding group_work group_units
part-held link held chan row shares seen are = λ k quota share at is own.
    let found = seen-found link.shape.bounds held chan row seen in
    let share_is = are.each k quota share at is in
    let mine : is_in link.split quota.group found.0.chan ≡ true = sym (ap (λ (r : HeldRow). is_in link.split quota.group r.chan) found.1.1) ∙ own in
    record {
      loads = λ i within.
          let part = total-find (group_work link quota.group (i + 1)) chan held found.0 found.1.0 in
          let p = rw mine at part in
          let same = ap (row_work link.shape.rate link.shape.bounds (i + 1)) found.1.1 in
          let s = share_is.loads i within in
          omega (arith, p, same, s);
      units =
          let part = total-find (group_units link quota.group) chan held found.0 found.1.0 in
          let p = rw mine at part in
          let same = ap (λ (r : HeldRow). r.kept) found.1.1 in
          let s = share_is.units in
          omega (arith, p, same, s);
    }

pub kept-held : (link : Link) (held : List Reservation) (chan : ChanNo) (row : HeldRow) → SplitFits link → AreWithin link held → Some row ≡ seen_of link.shape.bounds held chan → row.kept < 2 ^ 60
unfolding group_units
kept-held link held chan row fits within seen =
    let found = seen-found link.shape.bounds held chan row seen in
    let own : is_in link.split (group_of link.split found.0.chan) found.0.chan ≡ true = eq-eqb (group_of link.split found.0.chan) (group_of link.split found.0.chan) refl in
    let part = total-find (group_units link (group_of link.split found.0.chan)) chan held found.0 found.1.0 in
    let p = rw own at part in
    let same = ap (λ (r : HeldRow). r.kept) found.1.1 in
    let most = within.buffer (group_of link.split found.0.chan) in
    let small = buffer-small link (group_of link.split found.0.chan) fits in
    omega (arith, p, same, most, small)

-- the shares where nothing was entered
pub shares-kept : (link : Link) (k k' : Account) (shares : List Share) → ((h : List Entry) → StandsFor link.shape k h → StandsFor link.shape k' h) → IsLegallyStood link k → AreShares link (held_in k) shares → AreShares link (held_in k') shares
shares-kept link k k' shares same stood before =
    shares-same link (held_in k) (held_in k') shares (λ f. same-total link k k' f stood (λ h legal stands. terms-stand link.shape k' h (same h stands) ∙ sym (terms-stand link.shape k h stands))) before

-- where the link has no quotas there are no shares
pub shares-unsplit : (link : Link) (held held' : List Reservation) (shares : List Share) → is_split link.split ≡ false → AreShares link held shares → AreShares link held' shares
shares-unsplit link held held' shares unsplit before = record {
  long = before.long;
  each = λ k quota share at is.
      let inside = slice_get_within link.split.quotas k quota at in
      let none = no-quotas link.split.quotas unsplit in
      absurd (omega (arith, inside, none));
} where
  no-quotas : (quotas : List Quota) → is_split (record { quotas = quotas; groups = link.split.groups }) ≡ false → length quotas ≡ 0
  no-quotas quotas unsplit = eqb-true (length quotas) 0 (flipped (nat_eq (length quotas) 0) unsplit) where
    flipped : (b : Bool) → cond b false true ≡ false → b ≡ true
    flipped true same = refl
    flipped false same = cc

-- ---- a reserve

-- an account and its history hold the same, so a reserve is answered over what the account holds
pub reserve-legal : (link : Link) (k : Account) (chan : ChanNo) (contract : Traffic) (kind : Kind) (delay up_reach : ℕ) (first : Bool) (next : Option LinkNo) (ask : Ask) (reply : Reply) → ask ≡ Reserve chan contract kind delay up_reach first next → reply ≡ reserve_reply link (held_in k) chan contract delay up_reach → (h : List Entry) → StandsFor link.shape k h → reply ≡ reply_to link h ask
unfolding reply_to reply_at
reserve-legal link k chan contract kind delay up_reach first next ask reply is same h stands =
    same ∙ ap (λ held. reserve_reply link held chan contract delay up_reach) (terms-stand link.shape k h stands) ∙ sym (ap (λ a. reply_to link h a) is)

-- a refusal enters nothing
pub refused-enters : (link : LinkState) (chan : ChanNo) (contract : Traffic) (kind : Kind) (delay up_reach : ℕ) (first : Bool) (next : Option LinkNo) (ask : Ask) (refusal : Refusal) → ask ≡ Reserve chan contract kind delay up_reach first next → (h : List Entry) → LinkStands link h → LinkStands link (record { ask = ask; reply = Is.Refused refusal } ∷ h)
unfolding account_after
refused-enters link chan contract kind delay up_reach first next ask refusal is h stands =
    subst (λ a. LinkStands link (record { ask = a; reply = Is.Refused refusal } ∷ h)) (sym is)
    (stands-entry link.shape (account_in link) h (Reserve chan contract kind delay up_reach first next) (Is.Refused refusal) (rows-have link) stands)

-- an offer of the group's room is one that the link may make
pub offer-may-be : (link : Link) (k : Account) (chan : ChanNo) (contract : Traffic) (kind : Kind) (delay up_reach : ℕ) (first : Bool) (next : Option LinkNo) (ask : Ask) (level : Level) → SplitFits link → is_split link.split ≡ true → IsLegallyStood link k → ask ≡ Reserve chan contract kind delay up_reach first next → Is.Offer level (level_of (reach_of link.shape.bounds delay (level_number level))) ≡ reserve_reply link (held_in k) chan contract delay up_reach → MayReserve link.shape (held_in k) ask level
unfolding reserve_reply room_of
offer-may-be link k chan contract kind delay up_reach first next ask level fits splits stood is same =
    subst (λ a. MayReserve link.shape (held_in k) a level) (sym is)
    (group-offer-may link (held_in k) chan contract delay up_reach level (level_of (reach_of link.shape.bounds delay (level_number level))) fits (stood-within link k fits splits stood) (rw splits at same))

-- the channel had no row where it is offered
pub offers-new : (link : Link) (k : Account) (chan : ChanNo) (contract : Traffic) (kind : Kind) (delay up_reach : ℕ) (first : Bool) (next : Option LinkNo) (ask : Ask) (level reach : Level) → ask ≡ Reserve chan contract kind delay up_reach first next → find (is_of chan) (held_in k) ≡ None → (h : List Entry) → StandsFor link.shape k h → OffersNew ask (Is.Offer level reach) (scan_of link.shape h).rows
offers-new link k chan contract kind delay up_reach first next ask level reach is none h stands =
    subst (λ a. OffersNew a (Is.Offer level reach) (scan_of link.shape h).rows) (sym is)
    (mapped-none (find (is_row_of chan) (scan_of link.shape h).rows) (sym (find-terms chan (scan_of link.shape h).rows) ∙ sym (ap (find (is_of chan)) (terms-stand link.shape k h stands)) ∙ none)) where
      mapped-none : (found : Option Row) → option_map row_terms found ≡ None → found ≡ None
      mapped-none None none = refl
      mapped-none (Some row) none = cc

-- a channel that is offered a level held no row
pub offered-none : (link : Link) (held : List Reservation) (chan : ChanNo) (contract : Traffic) (delay up_reach : ℕ) (level reach : Level) → Is.Offer level reach ≡ reserve_reply link held chan contract delay up_reach → find (is_of chan) held ≡ None
unfolding reserve_reply
offered-none link held chan contract delay up_reach level reach same = (offer-best link.shape held chan contract delay up_reach (room_of link held chan contract) level reach same).new
