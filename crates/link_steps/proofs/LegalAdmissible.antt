-- Every legal history of a link whose split fits it is admissible.
use Rattle.std.proofs.lemmas.Bool.{cases_Bool}
use Rattle.net_units.proofs.BoundsInOrder.{bound_at-rising}
use Rattle.net_units.specs.Quotient.{ceil_quotient}
use Rattle.net_units.specs.LevelBounds.{bound_at}
use Rattle.std.proofs.Common.{◌≡◌, ℕ, ◌≤◌, ◌⊎◌, true, false, inl, inr, arith, List, [], ◌∷◌, map, refl, sym, ◌∙◌}
use Rattle.net_units.specs.declared.numbers.ChanNo.{ChanNo}
use Rattle.net_units.specs.declared.numbers.Level.{Level}
use Rattle.traffic_contract.specs.Contract.{Traffic}
use Rattle.link_steps.specs.declared.asks.Ask.{Ask}
use Rattle.link_steps.specs.declared.asks.Ask.TheVariants.{Reserve}
use Rattle.link_steps.specs.declared.replies.Entry.{Entry}
use Rattle.link_steps.specs.declared.replies.Reply.{Reply}
use Rattle.link_steps.specs.declared.replies.Reply.TheVariants as Is
use Rattle.link_steps.specs.declared.shape.LinkShape.{LinkShape}
use Rattle.link_steps.specs.Admissible.{MayOffer, MayReply, MayAnswer, IsAdmissible}
use Rattle.link_steps.specs.Legal.{IsLegal}
use Rattle.link_steps.specs.Replies.{reserve_rules, best_offer, reserve_reply_in, reserve_reply, reply_at, reply_to}
use Rattle.link_steps.specs.Reservation.{Reservation}
use Rattle.link_steps.specs.Room.{Room, room_of}
use Rattle.link_steps.specs.Rows.{row_terms}
use Rattle.link_steps.specs.Split.{Link, SplitFits, is_split, whole}
use Rattle.link_steps.specs.Scan.{Scan, clock_of, scan_of}
use Rattle.link_steps.proofs.RulesPassed.{IsAnswer, answers-reply}
use Rattle.link_steps.proofs.LegalOrder.{legal-order}
use Rattle.link_steps.proofs.ReservationFound.{whole-offer-may}
use Rattle.link_steps.proofs.QuotasFitLink.{AreWithin, group-offer-may, within-after}

-- the legal reply to a reserve is an offer, where it is an answer
only-offers : (shape : LinkShape) (held : List Reservation) (chan : ChanNo) (contract : Traffic) (delay up_reach : ℕ) (room : Room) (answer : Reply) → IsAnswer answer → answer ≡ reserve_reply_in shape held chan contract delay up_reach room → answer ≡ best_offer shape delay room
only-offers shape held chan contract delay up_reach room answer is same =
    answers-reply (reserve_rules shape held chan contract delay up_reach room) (best_offer shape delay room) answer is same

-- the legal reply to a reserve is one that may be given
may-reply : (shape : LinkShape) (held : List Reservation) (chan : ChanNo) (contract : Traffic) (delay up_reach : ℕ) (room : Room) (reply : Reply) → ((level reach : Level) → reply ≡ Is.Offer level reach → MayOffer shape held chan contract delay up_reach level reach) → reply ≡ reserve_reply_in shape held chan contract delay up_reach room → MayReply shape held chan contract delay up_reach reply
may-reply shape held chan contract delay up_reach room (Is.Offer level reach) may same = may level reach refl
may-reply shape held chan contract delay up_reach room (Is.Refused refusal) may same = tt
may-reply shape held chan contract delay up_reach room (Is.Relaxed clock) may same = (let offer = only-offers shape held chan contract delay up_reach room (Is.Relaxed clock) tt same in cc)
may-reply shape held chan contract delay up_reach room Is.Denied may same = (let offer = only-offers shape held chan contract delay up_reach room Is.Denied tt same in cc)
may-reply shape held chan contract delay up_reach room (Is.Planned clock) may same = (let offer = only-offers shape held chan contract delay up_reach room (Is.Planned clock) tt same in cc)
may-reply shape held chan contract delay up_reach room (Is.Closing count cancelled) may same = (let offer = only-offers shape held chan contract delay up_reach room (Is.Closing count cancelled) tt same in cc)
may-reply shape held chan contract delay up_reach room (Is.Taken clock eligible) may same = (let offer = only-offers shape held chan contract delay up_reach room (Is.Taken clock eligible) tt same in cc)
may-reply shape held chan contract delay up_reach room (Is.Ticked clock full sent best_sent best_lost) may same = (let offer = only-offers shape held chan contract delay up_reach room (Is.Ticked clock full sent best_sent best_lost) tt same in cc)

-- each legal reply is, where the split fits the link and each group is within its quotas
pub may-answer : (link : Link) (t : ℕ) (scan : Scan) (ask : Ask) (reply : Reply) → SplitFits link → (is_split link.split ≡ true → AreWithin link (map row_terms scan.rows)) → reply ≡ reply_at link t scan ask → MayAnswer link.shape t scan ask reply
unfolding MayAnswer reply_at reserve_reply room_of
may-answer link t scan (Reserve chan contract kind delay up_reach first next) reply fits within same =
    may-reply link.shape (map row_terms scan.rows) chan contract delay up_reach (room_of link (map row_terms scan.rows) chan contract) reply
    (λ level reach is. either level reach (sym is ∙ same) (cases_Bool (is_split link.split))) same where
      either : (level reach : Level) → Is.Offer level reach ≡ reserve_reply_in link.shape (map row_terms scan.rows) chan contract delay up_reach (room_of link (map row_terms scan.rows) chan contract) → (is_split link.split ≡ true) ⊎ (is_split link.split ≡ false) → MayOffer link.shape (map row_terms scan.rows) chan contract delay up_reach level reach
      either level reach offer (inl splits) = group-offer-may link (map row_terms scan.rows) chan contract delay up_reach level reach fits (within splits) (rw splits at offer)
      either level reach offer (inr no_split) = whole-offer-may link (map row_terms scan.rows) chan contract delay up_reach level reach (rw no_split at offer)
may-answer link t scan _ reply fits within same = same

-- a legal history is admissible, and where the link is split each group is within its quotas
pub record LegalHas (link : Link) (h : List Entry) : Type 0 where
  pub admissible : IsAdmissible link.shape h
  pub within : is_split link.split ≡ true → AreWithin link (map row_terms (scan_of link.shape h).rows)

pub legal-has : (link : Link) (h : List Entry) → SplitFits link → IsLegal link h → LegalHas link h
unfolding IsLegal IsAdmissible reply_to scan_of
legal-has link [] fits legal = record { admissible = tt; within = λ splits. record { levels = λ g m from upto. omega arith; buffer = λ g. omega arith } }
legal-has link (e ∷ past) fits legal =
    let before = legal-has link past fits legal.0 in
    let may = may-answer link (clock_of past) (scan_of link.shape past) e.ask e.reply fits before.within legal.1.answered in
    let order = legal-order link.shape past before.admissible in
    record {
      admissible = (before.admissible, record { fits = legal.1.fits; answered = may });
      within = λ splits. within-after link (clock_of past) (scan_of link.shape past) e.ask e.reply splits legal.1.answered legal.1.fits may order.held (before.within splits);
    }

pub legal-admissible : (link : Link) (h : List Entry) → SplitFits link → IsLegal link h → IsAdmissible link.shape h
legal-admissible link h fits legal = (legal-has link h fits legal).admissible

-- a link without quotas has a split that fits it
pub whole-fits : (shape : LinkShape) → SplitFits (whole shape)
whole-fits shape = record {
  groups = λ k d inside. absurd (omega (arith, inside));
  apart = λ i j d before inside. absurd (omega (arith, inside));
  levels = λ m from upto.
      let least = bound_at-rising shape.bounds 1 m shape.bounds_rise (omega arith) from upto in
      let first : ceil_quotient shape.cap shape.rate ≤ bound_at shape.bounds 1 = shape.blocking_fits in
      omega (arith, least, first);
  buffer = omega arith;
}
