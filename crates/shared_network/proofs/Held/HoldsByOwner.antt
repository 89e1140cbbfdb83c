-- What a link holds of a channel goes with the owner's entries there: the entries of others leave it, and each own entry makes of it
-- what it tells.
use Rattle.std.proofs.Common.{◌≡◌, ◌≢◌, ℕ, eqb, Bool, true, false, cond, Option, Some, None, List, [], ◌∷◌, ◌++◌, refl, sym, ap, ◌∙◌, subst}
use Rattle.shared_network.proofs.Words.{cond_both, eqb-true, eqb-false, append-nil, same_Some, slice_get, option_map, actor_number, channel_number, ActorNo, ChanNo, LinkNo, Traffic, IsLegal, Each, reply_to, Reservation, is_phase, tentative, committed, Scan, clock_of, scan_of, after, Link, SplitFits, Ask, Reserve, Relax, Deny, Submit, Release, Reply, marks_of, Mark, IsOff, held_by, history_in, journal_of, history_entry_of, OwnsAsk, IsOwner, OwnEntry}
use Rattle.net_units.specs.declared.Kind.{Kind}
use Rattle.net_units.specs.declared.numbers.Level.{Level}
use Rattle.link_steps.specs.declared.replies.Entry.{Entry as Done}
use Rattle.link_steps.specs.declared.replies.Phase.TheVariants.{Closing}
use Rattle.link_steps.specs.declared.replies.Reply.TheVariants as Is
use Rattle.link_steps.specs.declared.shape.LinkShape.{LinkShape}
use Rattle.link_steps.proofs.LegalAdmissible.{legal-admissible}
use Rattle.link_steps.proofs.LegalChannels.{DifferInChannel, legal-channels}
use Rattle.channel_laws.specs.Laws.{held_after}
use Rattle.channel_laws.proofs.TermsAfter.{held-off, held-offered, held-relaxed, held-denied, held-submitted}
use Rattle.link_ledger.proofs.RepliesMakeOwn.{past-told}
use Rattle.link_ledger.proofs.JournalGrowth.{past_after}
use Rattle.shared_network.specs.Holds.{Hold, Free, Holds, Untold, reserved, hold_relaxed, denied, hold_with, hold_from, IsHeld}
use Rattle.net_units.proofs.KnownByNumber.{same-channel}

-- ---- own entries

pub hold-more : (c : ℕ) (hold : Hold) (own : List OwnEntry) (e : OwnEntry) → hold_from c hold (own ++ e ∷ []) ≡ hold_with c (hold_from c hold own) e.ask e.reply
unfolding hold_from
hold-more c hold [] e = refl
hold-more c hold (o ∷ own) e = hold-more c (hold_with c hold o.ask o.reply) own e

-- ---- one entry

module _ (shape : LinkShape) (chan : ChanNo) (t : ℕ) (scan : Scan) (differ : DifferInChannel scan.rows) where
  abbrev c : ℕ
  c = channel_number chan

  abbrev now : Option Reservation
  now = held_by chan scan.rows

  abbrev later : Ask → Reply → Option Reservation
  later ask reply = held_by chan (after shape t scan ask reply).rows

  -- one that names another channel, or none
  pub held-other : (hold : Hold) (ask : Ask) (reply : Reply) → IsOff c ask → IsHeld hold now → IsHeld hold (later ask reply)
  held-other Free ask reply off is = held-off shape chan t scan ask reply off (λ terms held. absurd (let clash : None ≡ Some terms = sym is ∙ held in cc)) differ ∙ is
  held-other (Holds terms) ask reply off is = (held-off shape chan t scan ask reply off (λ own held. subst (λ (r : Reservation). is_phase r.phase Closing ≡ false) (same_Some terms own (sym is.0 ∙ held)) is.1) differ ∙ is.0, is.1)
  held-other Untold ask reply off is = tt

  -- a reserve of it
  held-reserved : (hold : Hold) (contract : Traffic) (kind : Kind) (delay up_reach : ℕ) (first : Bool) (next : Option LinkNo) (reply : Reply) → IsHeld hold now → IsHeld (reserved hold (λ level reach. tentative chan contract kind first next up_reach level reach) reply) (later (Reserve chan contract kind delay up_reach first next) reply)
  unfolding after
  held-reserved Free contract kind delay up_reach first next (Is.Offer level reach) is = (held-offered shape chan t scan contract kind delay up_reach first next level reach is, refl)
  held-reserved hold contract kind delay up_reach first next (Is.Refused refusal) is = is
  held-reserved _ contract kind delay up_reach first next _ is = tt

  -- a relax
  held-settled : (hold : Hold) (level : Level) (up_bound : ℕ) (reply : Reply) → IsHeld hold now → IsHeld (hold_relaxed hold (committed level up_bound) reply) (later (Relax chan level up_bound) reply)
  held-settled Free level up_bound (Is.Relaxed clock) is = held-relaxed shape chan t scan level up_bound clock ∙ ap (option_map (committed level up_bound)) is
  held-settled (Holds terms) level up_bound (Is.Relaxed clock) is = (held-relaxed shape chan t scan level up_bound clock ∙ ap (option_map (committed level up_bound)) is.0, refl)
  held-settled hold level up_bound (Is.Offer one reach) is = tt
  held-settled _ level up_bound _ is = tt

  -- and a deny
  held-freed : (hold : Hold) (reply : Reply) → IsHeld hold now → IsHeld (denied hold reply) (later (Deny chan) reply)
  held-freed Free Is.Denied is = held-denied shape chan t scan differ
  held-freed (Holds terms) Is.Denied is = held-denied shape chan t scan differ
  held-freed hold (Is.Offer level reach) is = tt
  held-freed _ _ is = tt

  -- each entry makes of it what it tells
  pub held-next : (hold : Hold) (ask : Ask) (reply : Reply) → IsHeld hold now → IsHeld (hold_with c hold ask reply) (later ask reply)
  held-next hold (Reserve chan' contract kind delay up_reach first next) reply is =
      cond_both (eqb (channel_number chan') c) (reserved hold (λ level reach. tentative chan' contract kind first next up_reach level reach) reply) hold (λ h. IsHeld h (later (Reserve chan' contract kind delay up_reach first next) reply))
      (λ on. subst (λ (x : ChanNo). IsHeld (reserved hold (λ level reach. tentative x contract kind first next up_reach level reach) reply) (later (Reserve x contract kind delay up_reach first next) reply)) (sym (same-channel chan' chan (eqb-true (channel_number chan') c on))) (held-reserved hold contract kind delay up_reach first next reply is))
      (λ off. held-other hold (Reserve chan' contract kind delay up_reach first next) reply (eqb-false (channel_number chan') c off) is)
  held-next hold (Relax chan' level up_bound) reply is =
      cond_both (eqb (channel_number chan') c) (hold_relaxed hold (committed level up_bound) reply) hold (λ h. IsHeld h (later (Relax chan' level up_bound) reply))
      (λ on. subst (λ (x : ChanNo). IsHeld (hold_relaxed hold (committed level up_bound) reply) (later (Relax x level up_bound) reply)) (sym (same-channel chan' chan (eqb-true (channel_number chan') c on))) (held-settled hold level up_bound reply is))
      (λ off. held-other hold (Relax chan' level up_bound) reply (eqb-false (channel_number chan') c off) is)
  held-next hold (Deny chan') reply is =
      cond_both (eqb (channel_number chan') c) (denied hold reply) hold (λ h. IsHeld h (later (Deny chan') reply))
      (λ on. subst (λ (x : ChanNo). IsHeld (denied hold reply) (later (Deny x) reply)) (sym (same-channel chan' chan (eqb-true (channel_number chan') c on))) (held-freed hold reply is))
      (λ off. held-other hold (Deny chan') reply (eqb-false (channel_number chan') c off) is)
  held-next hold (Release chan' upstream) reply is =
      cond_both (eqb (channel_number chan') c) Untold hold (λ h. IsHeld h (later (Release chan' upstream) reply)) (λ on. tt) (λ off. held-other hold (Release chan' upstream) reply (eqb-false (channel_number chan') c off) is)
  held-next hold (Submit chan' count gap size) reply is = subst (IsHeld hold) (sym (held-submitted shape chan chan' t scan count gap size reply)) is
  held-next hold ask reply is = held-other hold ask reply tt is

-- ---- entries of others

-- whoever isn't the owner names another channel, or none
pub off-ask : (owners : List ActorNo) (a b : ActorNo) (chan : ChanNo) (ask : Ask) → IsOwner owners a chan → actor_number b ≢ actor_number a → OwnsAsk owners b ask → IsOff (channel_number chan) ask
off-ask owners a b chan ask owner other = by-ask ask where
  apart : (own : ChanNo) → IsOwner owners b own → channel_number own ≢ channel_number chan
  apart own by_b same = other (ap actor_number (same_Some b a (sym by_b ∙ ap (slice_get owners) same ∙ owner)))

  by-ask : (ask : Ask) → OwnsAsk owners b ask → IsOff (channel_number chan) ask
  by-ask (Reserve own contract kind delay up_reach first next) by_b = apart own by_b
  by-ask (Relax own level up_bound) by_b = apart own by_b
  by-ask (Deny own) by_b = apart own by_b
  by-ask (Submit own count gap size) by_b = apart own by_b
  by-ask (Release own upstream) by_b = apart own by_b
  by-ask _ by_b = tt

pub off-marks : (owners : List ActorNo) (a : ActorNo) (chan : ChanNo) (ms : List Mark) → IsOwner owners a chan → marks_of (actor_number a) ms ≡ [] → Each (λ (m : Mark). OwnsAsk owners m.actor m.ask) ms → Each (λ (m : Mark). IsOff (channel_number chan) m.ask) ms
off-marks owners a chan [] owner none owned = tt
off-marks owners a chan (m ∷ ms) owner none owned =
    elim (eqb (actor_number m.actor) (actor_number a)) as (λ b. eqb (actor_number m.actor) (actor_number a) ≡ b → cond b (m ∷ marks_of (actor_number a) ms) (marks_of (actor_number a) ms) ≡ [] → Each (λ (x : Mark). IsOff (channel_number chan) x.ask) (m ∷ ms)) [
      | true ↦ λ on is. absurd (cc is)
      | false ↦ λ off is. (off-ask owners a m.actor chan m.ask owner (eqb-false (actor_number m.actor) (actor_number a) off) owned.0, off-marks owners a chan ms owner is owned.1)
    ] refl none

-- a history that goes on legally was legal
legal-down : (link : Link) (past : List Done) (ms : List Mark) → IsLegal link (past_after link past ms) → IsLegal link past
unfolding past_after IsLegal
legal-down link past [] legal = legal
legal-down link past (m ∷ ms) legal = (legal-down link (history_entry_of m (reply_to link past m.ask) ∷ past) ms legal).0

-- what is held stays through entries of others
pub held-rest : (link : Link) (chan : ChanNo) (hold : Hold) (past : List Done) (ms : List Mark) → SplitFits link → IsLegal link (past_after link past ms) → Each (λ (m : Mark). IsOff (channel_number chan) m.ask) ms → IsHeld hold (held_after link.shape chan past) → IsHeld hold (held_after link.shape chan (past_after link past ms))
unfolding past_after scan_of
held-rest link chan hold past [] fits legal off is = is
held-rest link chan hold past (m ∷ ms) fits legal off is =
    let reply : Reply = reply_to link past m.ask in
    let before : IsLegal link past = legal-down link past (m ∷ ms) legal in
    held-rest link chan hold (history_entry_of m reply ∷ past) ms fits legal off.1
    (held-other link.shape chan (clock_of past) (scan_of link.shape past) (legal-channels link.shape past (legal-admissible link past fits before)) hold m.ask reply off.0 is)

-- marks in two parts
pub past-parts : (link : Link) (past : List Done) (xs ys : List Mark) → past_after link past (xs ++ ys) ≡ past_after link (past_after link past xs) ys
unfolding past_after
past-parts link past [] ys = refl
past-parts link past (x ∷ xs) ys = past-parts link (history_entry_of x (reply_to link past x.ask) ∷ past) xs ys

-- the history that marks tell
pub history-told : (link : Link) (ms : List Mark) → history_in (journal_of link ms) ≡ past_after link [] ms
history-told link ms = sym (past-told link [] ms ∙ append-nil (history_in (journal_of link ms)))
