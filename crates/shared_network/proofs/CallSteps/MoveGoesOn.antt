-- A move of planned packets goes on with each step: the hops of the channel that is left which weren't asked yet hold their committed
-- reservations, so each release is answered; and the other channel holds its route, and nothing was submitted on it, so its submit is
-- planned.
use Rattle.std.proofs.Common.{◌≡◌, ◌≢◌, ℕ, suc, ◌+◌, ◌<◌, ◌≤◌, true, List, [], ◌∷◌, ◌++◌, length, map, Option, Some, refl, sym, ap, ◌∙◌, subst, inl, inr, arith}
use Rattle.shared_network.proofs.Words.{cases_Bool, append_assoc, append-nil, map-append, slice_get_within, slice_get, nat_eq, IsTrue, TableId, channel_number, link_number, ActorNo, ChanNo, LinkNo, Traffic, IsRoute, link_of, Hop, AskFits, SubmitFits, Each, reply_at, Link, SplitFits, Ask, Release, Submit, Reply, IsHopOf, held_by, IsReleased, IsUnsent, IsPlanned, FewCancelled, Move, shifted_in, told_by, answers, answers_next, next_of_move, shifted_of, own_at, OwnsAsk, IsOwner, NextBelow, Token, IsLink, Steps, last_seen, OwnEntry}
use Rattle.net_units.specs.Limits.{most_packets}
use Rattle.link_steps.specs.declared.replies.Reply.TheVariants as Is
use Rattle.link_steps.proofs.SearchAndFilter.{Each-append}
use Rattle.link_steps.proofs.ListParts.{Each-at}
use Rattle.channel_laws.proofs.SendReplies.{release-committed, of-released}
use Rattle.channel_move.specs.Stages.{stage_after, joining_after, ask_in, released_in}
use Rattle.channel_move.specs.Standing.{Moves, move_of}
use Rattle.channel_move.specs.declared.mover.Mover.{Mover}
use Rattle.channel_move.specs.declared.shifted.Shifted.{Shifted}
use Rattle.channel_move.proofs.AskByStage.{HopAsked, stage-asks, move-ask-is}
use Rattle.hop_reservation.proofs.DistinctLinks.{index-apart}
use Rattle.net_units.proofs.KnownByNumber.{same-link}
use Rattle.shared_network.specs.Added.{AddsAbove, IsSamePass}
use Rattle.shared_network.specs.Calls.{Follows, IsCommitted, HoldsRoute, reply_in, hold_at}
use Rattle.shared_network.specs.Holds.{hold_of, IsHeld}
use Rattle.shared_network.specs.Ready.{MayStep, PassGoesOn}
use Rattle.shared_network.proofs.CallSteps.CallsInTurn.{goes-none, goes-both, above-none, above-both, above-step}
use Rattle.shared_network.specs.Shifts.{MayShift, NoneSubmitted, Shifts}
use Rattle.shared_network.specs.Sight.{FitsAt}
use Rattle.shared_network.proofs.CallSteps.SetupUnderWay.{follows-more}
use Rattle.shared_network.proofs.Held.HoldSteps.{AnswersOf, answers as answered, planned, cancels-few}
use Rattle.shared_network.proofs.CallSteps.MoveSteps.{left_by, asks_left, MaySubmit, ReleaseStep, SubmitStep, MoveStep, AsRelease, AsSubmit, move-step}
use Rattle.shared_network.proofs.CallSteps.SetupGoes.{hold-elsewhere}
use Rattle.shared_network.proofs.Held.StillHolds.{IsStill, committed-stays, route-stays}

-- what doesn't change in a move
pub record FitsMove (links : List Link) (move : Move) (leaving_on joining_on : Traffic) : Type 0 where
  pub packets : SubmitFits 1 move.gap move.size
  pub apart : channel_number move.joining ≢ channel_number move.leaving
  pub hops_leaving : Each (IsHopOf links) move.leaving_route
  pub hops_joining : Each (IsHopOf links) move.joining_route
  pub small : move.size ≤ joining_on.smax

pub record Shifting (table : TableId) (owners : List ActorNo) (links : List Link) (move : Move) (pass pass' : Token) (mover : Mover) : Type 0 where
  pub leaving_on : Traffic
  pub joining_on : Traffic
  pub may : FitsMove links move leaving_on joining_on
  pub entries : List OwnEntry
  pub own : pass'.own ≡ pass.own ++ entries
  pub follows : Follows (next_of_move move) [] entries
  pub terms : move_of mover ≡ move
  pub stands : Moves mover (map reply_in entries)
  pub leaves : (i : ℕ) (hop : Hop) → slice_get move.leaving_route i ≡ Some hop → left_by (stage_after (map reply_in entries)) ≤ i → IsCommitted leaving_on (nat_eq i 0) (hold_at move.leaving hop pass'.own)
  pub joins : HoldsRoute move.joining move.joining_route joining_on pass'.own
  pub unsent : MaySubmit (stage_after (map reply_in entries)) → NoneSubmitted move.joining pass'.own
  pub few : (first : Reply) (rest : List Reply) → map reply_in entries ≡ first ∷ rest → shifted_in first ≤ most_packets
  pub goes : PassGoesOn table owners links pass pass'
  pub later : AddsAbove (last_seen pass) pass pass'
  pub same : IsSamePass pass pass'

pub shifting-first : (table : TableId) (owners : List ActorNo) (links : List Link) (move : Move) (pass : Token) (mover : Mover) → move_of mover ≡ move → Moves mover [] → MayShift owners links pass move → MayStep table owners links pass
    → Shifting table owners links move pass pass mover
unfolding Follows
shifting-first table owners links move pass mover terms stands shift may = record {
  leaving_on = shift.leaving.contract;
  joining_on = shift.joining.contract;
  may = record { packets = shift.packets; apart = shift.apart; hops_leaving = shift.hops_leaving; hops_joining = shift.hops_joining; small = shift.joining.small };
  entries = [];
  own = sym (append-nil pass.own);
  follows = tt;
  terms = terms;
  stands = stands;
  leaves = λ i hop found from. shift.leaving.holds i hop found;
  joins = shift.joining.holds;
  unsent = λ still. shift.unsent;
  few = λ first rest is. absurd (let clash : [] ≡ first ∷ rest = is in cc);
  goes = goes-none table owners links pass may;
  later = above-none pass;
  same = record { actor = refl; table = refl; has_seat = may.has_seat };
}

-- ---- replies

few-shifted : (reply : Reply) → FewCancelled reply → shifted_in reply ≤ most_packets
few-shifted (Is.Closing count cancelled) few = few
few-shifted _ few = omega arith

planned-answers : (chan : ChanNo) (count gap size : ℕ) (reply : Reply) → IsPlanned reply → answers (Submit chan count gap size) reply ≡ true
planned-answers chan count gap size (Is.Planned clock) is = refl
planned-answers chan count gap size _ is = absurd is

-- the first of replies, with one more
same-first : (one other : Reply) (xs ys : List Reply) → one ∷ xs ≡ other ∷ ys → one ≡ other
same-first one other xs ys is = cc

first-of : (P : Reply → Type 0) (replies : List Reply) (reply first : Reply) (rest : List Reply) → ((f : Reply) (rs : List Reply) → replies ≡ f ∷ rs → P f) → P reply → replies ++ reply ∷ [] ≡ first ∷ rest → P first
first-of P [] reply first rest was now is = subst P (same-first reply first [] rest is) now
first-of P (r ∷ replies) reply first rest was now is = was first replies (ap (λ x. x ∷ replies) (same-first r first (replies ++ reply ∷ []) rest is))

-- ---- one step

module _ (table : TableId) (owners : List ActorNo) (links : List Link) (move : Move) (pass0 pass : Token) (mover : Mover) (so : Shifting table owners links move pass0 pass mover) (to : LinkNo) (ask : Ask) (asks : next_of_move move (map reply_in so.entries) ≡ Some (to, ask)) where
  abbrev replies : List Reply
  replies = map reply_in so.entries

  -- a hop that is asked
  hop-below : (route : List Hop) (n : ℕ) → Each (IsHopOf links) route → HopAsked route n to → link_number to < length links
  hop-below route n hops at =
      let hop = Each-at (IsHopOf links) route n at.hop hops at.stands in
      slice_get_within links (link_number to) hop.link (subst (λ (l : LinkNo). IsLink links (link_number l) hop.link) (sym at.at) hop.linked)

  pub to-below : link_number to < length links
  to-below = by (move-step move replies to ask Is.Denied asks) where
    by : MoveStep move replies to ask Is.Denied → link_number to < length links
    by (AsRelease step) = hop-below move.leaving_route step.place so.may.hops_leaving step.at
    by (AsSubmit step) = hop-below move.joining_route 0 so.may.hops_joining step.at

  pub fits-there : FitsAt links (link_number to) ask
  fits-there link is = by (move-step move replies to ask Is.Denied asks) where
    by : MoveStep move replies to ask Is.Denied → AskFits link.shape ask
    by (AsRelease step) = subst (AskFits link.shape) (sym step.is) tt
    by (AsSubmit step) = subst (AskFits link.shape) (sym step.is) (record {
      count_least = step.some;
      count_most = so.few step.first [] step.alone;
      gap_least = so.may.packets.gap_least;
      gap_most = so.may.packets.gap_most;
      size_least = so.may.packets.size_least;
      size_most = so.may.packets.size_most;
    })

  pub owned-there : IsOwner owners pass0.actor move.leaving → IsOwner owners pass0.actor move.joining → OwnsAsk owners pass.actor ask
  owned-there leaving joining =
      let at : (chan : ChanNo) → IsOwner owners pass0.actor chan → IsOwner owners pass.actor chan = λ chan owner. subst (λ (a : ActorNo). IsOwner owners a chan) (sym so.same.actor) owner in
      move-ask-is (OwnsAsk owners pass.actor) move replies to ask (λ upstream. at move.leaving leaving) (λ count. at move.joining joining) asks

  pub next-there : NextBelow (length links) ask
  next-there = move-ask-is (NextBelow (length links)) move replies to ask (λ upstream. tt) (λ count. tt) asks

  module _ (pass' : Token) (reply : Reply) (splits : Each SplitFits links) (owns_leaving : IsOwner owners pass0.actor move.leaving) (owns_joining : IsOwner owners pass0.actor move.joining) (steps : Steps links (link_number to) ask pass pass' reply) (goes : PassGoesOn table owners links pass pass') (same : IsSamePass pass pass') where
    abbrev e : OwnEntry
    e = steps.entry

    asks-entry : next_of_move move replies ≡ Some (e.link, e.ask)
    asks-entry = asks ∙ (λ i. Some (same-link to e.link (sym steps.acted.link_is) i, sym steps.acted.ask_is i))

    step : MoveStep move replies to ask reply
    step = move-step move replies to ask reply asks

    -- a release is answered
    released : (s : ReleaseStep move replies to ask reply) → IsReleased reply
    unfolding reply_at
    released s =
        let owner : IsOwner owners pass.actor move.leaving = subst (λ (a : ActorNo). IsOwner owners a move.leaving) (sym so.same.actor) owns_leaving in
        let ans : AnswersOf steps.link move.leaving (hold_at move.leaving s.at.hop pass.own) e.ask e.reply =
        subst (λ l. AnswersOf steps.link move.leaving (hold_of (channel_number move.leaving) (own_at l pass.own)) e.ask e.reply) (ap link_number s.at.at)
        (answered table owners links (link_number to) ask pass pass' reply splits so.goes.may_step steps (goes.may_step.knows (link_number to) steps.link steps.is_link).order move.leaving owner) in
        let before = s.before in
        let committed = so.leaves s.place s.at.hop s.at.stands (omega (arith, before)) in
        let held = subst (λ h. IsHeld h (held_by move.leaving ans.scan.rows)) committed.is ans.held in
        let is : reply ≡ reply_at steps.link ans.clock ans.scan (Release move.leaving s.upstream) = sym steps.reply_is ∙ ans.reply_is ∙ ap (reply_at steps.link ans.clock ans.scan) (steps.acted.ask_is ∙ s.is) in
        subst IsReleased (sym is) (release-committed ans.clock s.upstream move.leaving ans.scan.rows committed.terms held.0 (committed.first_is ∙ s.first) committed.phase)

    -- the submit is planned
    submitted : (s : SubmitStep move replies to ask reply) → IsPlanned reply
    submitted s =
        let owner : IsOwner owners pass.actor move.joining = subst (λ (a : ActorNo). IsOwner owners a move.joining) (sym so.same.actor) owns_joining in
        let committed = so.joins 0 s.at.hop s.at.stands in
        let small : move.size ≤ committed.terms.contract.smax = (let fits = so.may.small in let on = ap (λ k. k.smax) committed.contract_is in omega (arith, fits, on)) in
        planned table owners links (link_number to) ask pass pass' reply splits so.goes.may_step steps (goes.may_step.knows (link_number to) steps.link steps.is_link).order move.joining committed.terms (shifted_in s.first) move.gap move.size owner (so.unsent s.may)
        (ap (λ l. hold_of (channel_number move.joining) (own_at l pass.own)) (ap link_number s.at.at) ∙ committed.is) committed.first_is committed.phase small s.is

    pub expected-there : IsTrue (answers_next (ask_in (move_of mover) mover.stage) reply)
    expected-there =
        let next : ask_in (move_of mover) mover.stage ≡ Some (to, ask) = (λ i. ask_in (so.terms i) (so.stands i)) ∙ stage-asks move replies ∙ asks in
        ap (λ (x : Option (LinkNo × Ask)). answers_next x reply) next ∙ by step where
          by : MoveStep move replies to ask reply → answers ask reply ≡ true
          by (AsRelease s) = ap (λ (a : Ask). answers a reply) s.is ∙ of-released (λ r. answers (Release move.leaving s.upstream) r ≡ true) reply (λ count cancelled. refl) (released s)
          by (AsSubmit s) = ap (λ (a : Ask). answers a reply) s.is ∙ planned-answers move.joining (shifted_in s.first) move.gap move.size reply (submitted s)

    -- the replies with the new one
    told : map reply_in (so.entries ++ e ∷ []) ≡ replies ++ reply ∷ []
    told = map-append reply_in so.entries (e ∷ []) ∙ ap (λ r. replies ++ r ∷ []) steps.reply_is

    -- an entry that is still for a channel
    still : (c : ℕ) → IsStill c ask → Each (λ (x : OwnEntry). IsStill c x.ask) (e ∷ [])
    still c is = (subst (IsStill c) (sym steps.acted.ask_is) is, tt)

    leaves-next : IsRoute move.leaving_route → (i : ℕ) (hop : Hop) → slice_get move.leaving_route i ≡ Some hop → left_by (stage_after (replies ++ reply ∷ [])) ≤ i → IsCommitted so.leaving_on (nat_eq i 0) (hold_at move.leaving hop pass'.own)
    leaves-next route i hop found from = by step where
      by : MoveStep move replies to ask reply → IsCommitted so.leaving_on (nat_eq i 0) (hold_at move.leaving hop pass'.own)
      by (AsRelease s) =
          let now = s.now in
          let before = s.before in
          let other : link_number e.link ≢ link_of hop = λ on. (let index = index-apart move.leaving_route i s.place hop s.at.hop route found s.at.stands (sym on ∙ steps.acted.link_is ∙ ap link_number s.at.at) in omega (arith, index, now, from)) in
          subst (IsCommitted so.leaving_on (nat_eq i 0)) (sym (ap (hold_at move.leaving hop) steps.own ∙ hold-elsewhere move.leaving hop pass.own e other)) (so.leaves i hop found (omega (arith, now, before, from)))
      by (AsSubmit s) =
          let now = s.now in
          let before = s.before in
          committed-stays so.leaving_on i move.leaving hop pass.own pass'.own (e ∷ []) steps.own (still (channel_number move.leaving) (subst (IsStill (channel_number move.leaving)) (sym s.is) tt)) (so.leaves i hop found (omega (arith, now, before, from)))

    joins-next : HoldsRoute move.joining move.joining_route so.joining_on pass'.own
    joins-next = route-stays move.joining move.joining_route so.joining_on pass.own pass'.own (e ∷ []) steps.own (still (channel_number move.joining) (move-ask-is (IsStill (channel_number move.joining)) move replies to ask (λ upstream same. so.may.apart (sym same)) (λ count. tt) asks)) so.joins

    unsent-next : MaySubmit (stage_after (replies ++ reply ∷ [])) → NoneSubmitted move.joining pass'.own
    unsent-next may = by step where
      by : MoveStep move replies to ask reply → NoneSubmitted move.joining pass'.own
      by (AsRelease s) = subst (NoneSubmitted move.joining) (sym steps.own) (Each-append (λ (x : OwnEntry). IsUnsent (channel_number move.joining) x.ask) pass.own (e ∷ []) (so.unsent (s.submits may)) (subst (IsUnsent (channel_number move.joining)) (sym (steps.acted.ask_is ∙ s.is)) tt, tt))
      by (AsSubmit s) = absurd (s.once may)

    few-next : (first : Reply) (rest : List Reply) → replies ++ reply ∷ [] ≡ first ∷ rest → shifted_in first ≤ most_packets
    few-next first rest is = by step where
      by : MoveStep move replies to ask reply → shifted_in first ≤ most_packets
      by (AsRelease s) =
          first-of (λ r. shifted_in r ≤ most_packets) replies reply first rest so.few
          (few-shifted reply (cancels-few table owners links (link_number to) ask pass pass' reply splits so.goes.may_step steps (goes.may_step.knows (link_number to) steps.link steps.is_link).order move.leaving s.upstream s.is)) is
      by (AsSubmit s) = subst (λ r. shifted_in r ≤ most_packets) (same-first s.first first (reply ∷ []) rest (ap (λ rs. rs ++ reply ∷ []) (sym s.alone) ∙ is)) (so.few s.first [] s.alone)

    module _ (mover' : Mover) (terms : move_of mover' ≡ move_of mover) (stands : Moves mover' (replies ++ reply ∷ [])) (valid : IsRoute mover.leaving_route) where
      route : IsRoute move.leaving_route
      route = subst IsRoute (ap (λ (m : Move). m.leaving_route) so.terms) valid

      pub fewer-left : asks_left (length mover'.leaving_route) mover'.stage < asks_left (length mover.leaving_route) mover.stage
      fewer-left =
          let hops' : length mover'.leaving_route ≡ length move.leaving_route = ap (λ (m : Move). length m.leaving_route) (terms ∙ so.terms) in
          let hops : length mover.leaving_route ≡ length move.leaving_route = ap (λ (m : Move). length m.leaving_route) so.terms in
          let left : asks_left (length mover'.leaving_route) mover'.stage ≡ asks_left (length move.leaving_route) (stage_after (replies ++ reply ∷ [])) = (λ i. asks_left (hops' i) (stands i)) in
          let was : asks_left (length mover.leaving_route) mover.stage ≡ asks_left (length move.leaving_route) (stage_after replies) = (λ i. asks_left (hops i) (so.stands i)) in
          let less = by step in
          omega (arith, left, was, less) where
            by : MoveStep move replies to ask reply → asks_left (length move.leaving_route) (stage_after (replies ++ reply ∷ [])) < asks_left (length move.leaving_route) (stage_after replies)
            by (AsRelease s) = s.less (length move.leaving_route) (slice_get_within move.leaving_route s.place s.at.hop s.at.stands)
            by (AsSubmit s) = s.less (length move.leaving_route) route.least

      pub shifting-next : Shifting table owners links move pass0 pass' mover'
      shifting-next = record {
        leaving_on = so.leaving_on;
        joining_on = so.joining_on;
        may = so.may;
        entries = so.entries ++ e ∷ [];
        own = steps.own ∙ ap (λ es. es ++ e ∷ []) so.own ∙ append_assoc pass0.own so.entries (e ∷ []);
        follows = follows-more (next_of_move move) [] so.entries e so.follows asks-entry;
        terms = terms ∙ so.terms;
        stands = subst (Moves mover') (sym told) stands;
        leaves = λ i hop found from. leaves-next route i hop found (subst (λ rs. left_by (stage_after rs) ≤ i) told from);
        joins = joins-next;
        unsent = λ may. unsent-next (subst (λ rs. MaySubmit (stage_after rs)) told may);
        few = λ first rest is. few-next first rest (sym told ∙ is);
        goes = goes-both table owners links pass0 pass pass' so.goes goes;
        later = above-both (last_seen pass0) pass0 pass pass' so.later (above-step links (link_number to) ask pass pass' reply steps);
        same = record { actor = same.actor ∙ so.same.actor; table = same.table ∙ so.same.table; has_seat = same.has_seat };
      }

-- ---- at the end

-- a move of a route of so many hops makes one ask more at most
pub few-asked : (replies : List Reply) (hops : ℕ) → released_in (stage_after replies) ≤ hops → length replies ≤ hops + 1
few-asked [] hops within = omega arith
few-asked (first ∷ replies) hops within =
    elim (cases_Bool (nat_eq (shifted_in first) 0)) [
      | inl none ↦ (let most : suc (length replies) ≤ hops = rw none at within in omega (arith, most))
      | inr some ↦ later replies (rw some at within)
    ] where
      later : (rest : List Reply) → released_in (joining_after (told_by first) rest) ≤ hops → length (first ∷ rest) ≤ hops + 1
      later [] most = omega arith
      later (planned ∷ rest) most = omega (arith, most)

pub shifts : (table : TableId) (owners : List ActorNo) (links : List Link) (move : Move) (pass0 pass : Token) (mover : Mover) (outcome : Shifted) → Shifting table owners links move pass0 pass mover → ((replies : List Reply) → Moves mover replies → Some outcome ≡ shifted_of (move_of mover) replies) → Shifts move mover pass0 pass outcome
shifts table owners links move pass0 pass mover outcome so is = record {
  entries = so.entries;
  own = so.own;
  follows = so.follows;
  told_is = sym (is (map reply_in so.entries) so.stands ∙ ap (λ (m : Move). shifted_of m (map reply_in so.entries)) so.terms);
  stands = so.stands;
}
