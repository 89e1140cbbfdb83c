-- How many packets of a channel have departed from a link.
use Rattle.std.proofs.Common.{◌≡◌, ℕ, suc, ◌≤◌, true, false, List, [], ◌∷◌, ◌++◌, length, refl, sym, ap, ◌∙◌, subst, inl, inr, arith, append-nil}
use Rattle.std.proofs.lemmas.Bool.{cases_Bool, cases_lt, eqb-true, false_from_ne_true}
use Rattle.std.proofs.lemmas.List.Elements.{filter-append}
use Rattle.std.specs.Prelude.{filter}
use Rattle.link_steps.specs.declared.shape.LinkShape.{LinkShape}
use Rattle.link_steps.specs.Lists.{Each, Among}
use Rattle.link_steps.specs.Service.{Arrival, Start, leaves_at, work_of, is_start_of, starts_below, has_departed}
use Rattle.link_steps.proofs.FoundElements.{Each-from_among}
use Rattle.link_steps.proofs.Departures.{IsEligibleStart, starts-eligible, departed-at}
use Rattle.link_steps.proofs.SearchAndFilter.{Each-among, filter-none, filter-same, Among-filter}
use Rattle.link_steps.proofs.ServiceStarts.{IsFrom, starts_below-append, starts-fact, FollowEachOther, starts-follow, HasBegun, starts-begun}
use Rattle.channel_laws.specs.Channels.{is_of_channel, channel_packets}
use Rattle.link_steps.specs.Belonging.{AreNumberedFrom as ArePlaced}
use Rattle.link_steps.proofs.NewPackets.{same-number}
use Rattle.channel_laws.specs.Departing.{gone_count}
use Rattle.channel_laws.proofs.SentOrder.{SentHead, departed-start, start-departed, start-before, works-start}
use Rattle.net_units.proofs.ByCases.{no-both}

-- a packet that is eligible from t on has not departed by t
fresh-at : (rate t : ℕ) (packets : List Arrival) (p : Arrival) → ArePlaced 0 packets → Each (λ q. 1 ≤ work_of rate q) packets → Among p packets → t ≤ p.eligible → has_departed rate (starts_below rate packets t) t p ≡ false
fresh-at rate t packets p placed works among from =
    false_from_ne_true _ (λ departed.
    let by = departed-start rate t (starts_below rate packets t) p departed in
    let work = Each-among (λ s. 1 ≤ work_of rate s.packet) by.start _ (works-start rate packets t works) by.among in
    let there = Each-among (λ s. Among s.packet packets) by.start _ (starts-fact (λ q. Among q packets) rate packets t (Each-from_among (λ q. Among q packets) packets (λ q is. is))) by.among in
    let same : by.start.packet ≡ p = same-number 0 by.start.packet p packets placed there among (eqb-true by.start.packet.place p.place by.own) in
    let eligible = Each-among IsEligibleStart by.start _ (starts-eligible rate packets t) by.among in
    let e : by.start.packet.eligible ≡ p.eligible = ap (λ x. x.eligible) same in
    let left = by.left in
    omega (arith, work, eligible, e, left, from))

among-right : (p : Arrival) (xs ys : List Arrival) → Among p ys → Among p (xs ++ ys)
among-right p [] ys among = among
among-right p (x ∷ xs) ys among = inr (among-right p xs ys among)

-- packets that are eligible from t on change no count at t
pub gone-append : (shape : LinkShape) (c t : ℕ) (packets new : List Arrival) → ArePlaced 0 (packets ++ new) → Each (λ q. 1 ≤ work_of shape.rate q) (packets ++ new) → Each (IsFrom t) new → gone_count shape c (packets ++ new) t ≡ gone_count shape c packets t
gone-append shape c t packets new placed works from =
    let fresh : Each (λ p. has_departed shape.rate (starts_below shape.rate (packets ++ new) t) t p ≡ false) (channel_packets c new) =
    Each-from_among (λ p. has_departed shape.rate (starts_below shape.rate (packets ++ new) t) t p ≡ false) (channel_packets c new) (λ p among.
    let there = (Among-filter (is_of_channel c) p new among).0 in
    fresh-at shape.rate t (packets ++ new) p placed works (among-right p packets new there) (Each-among (IsFrom t) p new from there)) in
    ap (λ own. length (filter (has_departed shape.rate (starts_below shape.rate (packets ++ new) t) t) own)) (filter-append (is_of_channel c) packets new)
    ∙ ap length (filter-append (has_departed shape.rate (starts_below shape.rate (packets ++ new) t) t) (channel_packets c packets) (channel_packets c new)
    ∙ ap (λ x. filter (has_departed shape.rate (starts_below shape.rate (packets ++ new) t) t) (channel_packets c packets) ++ x) (filter-none (has_departed shape.rate (starts_below shape.rate (packets ++ new) t) t) (channel_packets c new) fresh)
    ∙ append-nil _)
    ∙ ap (λ starts. length (filter (has_departed shape.rate starts t) (channel_packets c packets))) (starts_below-append shape.rate packets new t from)

-- ---- a tick that sends no packet of the channel

-- what departs at the end of tick t is the head of the starts
head-from : (rate t : ℕ) (packets : List Arrival) (p : Arrival) → Each (λ q. 1 ≤ work_of rate q) packets → has_departed rate (starts_below rate packets (suc t)) (suc t) p ≡ true → (has_departed rate (starts_below rate packets t) t p ≡ true → ⊥) → (head : SentHead rate t packets) × (is_start_of p head.start ≡ true)
head-from rate t packets p works departed fresh =
    let by = departed-start rate (suc t) (starts_below rate packets (suc t)) p departed in
    let work = Each-among (λ s. 1 ≤ work_of rate s.packet) by.start _ (works-start rate packets (suc t) works) by.among in
    elim (cases_lt (leaves_at rate by.start) (suc t)) [
      | inl early ↦ absurd (fresh (start-departed rate t (starts_below rate packets t) p by.start (start-before rate t packets by.start by.among (omega (arith, early, work))) by.own (omega (arith, early))))
      | inr last ↦ in-list (starts_below rate packets (suc t)) refl by.start by.among by.own (let l = by.left in omega (arith, l, last)) (starts-follow rate packets (suc t)) (starts-begun rate packets (suc t))
    ] where
      in-list : (starts : List Start) → starts_below rate packets (suc t) ≡ starts → (x : Start) → Among x starts → is_start_of p x ≡ true → leaves_at rate x ≡ suc t → FollowEachOther rate starts → Each (HasBegun (suc t)) starts → (head : SentHead rate t packets) × (is_start_of p head.start ≡ true)
      in-list [] is x among own leaves follow begun = absurd among
      in-list (s ∷ earlier) is x (inl same) own leaves follow begun = (record { start = s; earlier = earlier; is = is; leaves = ap (leaves_at rate) (sym same) ∙ leaves }, subst (λ y. is_start_of p y ≡ true) same own)
      in-list (s ∷ earlier) is x (inr among) own leaves follow begun = absurd (let left = Each-among (λ y. leaves_at rate y ≤ s.tick) x earlier follow.0 among in let early = begun.0 in omega (arith, left, leaves, early))

pub gone-still : (shape : LinkShape) (c t : ℕ) (packets : List Arrival) → ArePlaced 0 packets → Each (λ q. 1 ≤ work_of shape.rate q) packets → ((head : SentHead shape.rate t packets) → is_of_channel c head.start.packet ≡ true → ⊥) → gone_count shape c packets (suc t) ≡ gone_count shape c packets t
gone-still shape c t packets placed works other =
    ap length (filter-same (has_departed shape.rate (starts_below shape.rate packets (suc t)) (suc t)) (has_departed shape.rate (starts_below shape.rate packets t) t) (channel_packets c packets)
    (Each-from_among _ (channel_packets c packets) (λ p among. same p (Among-filter (is_of_channel c) p packets among)))) where
      same : (p : Arrival) → Among p packets × (is_of_channel c p ≡ true) → has_departed shape.rate (starts_below shape.rate packets (suc t)) (suc t) p ≡ has_departed shape.rate (starts_below shape.rate packets t) t p
      same p there =
          elim (cases_Bool (has_departed shape.rate (starts_below shape.rate packets t) t p)) [
            | inl gone ↦ departed-at shape.rate packets t t (suc t) (suc t) p (omega arith) (omega arith) gone ∙ sym gone
            | inr fresh ↦ false_from_ne_true _ (λ now.
                let head = head-from shape.rate t packets p works now (λ gone. no-both _ gone fresh) in
                let from = Each-among (λ s. Among s.packet packets) head.0.start _ (starts-fact (λ q. Among q packets) shape.rate packets (suc t) (Each-from_among (λ q. Among q packets) packets (λ q is. is))) (subst (Among head.0.start) (sym head.0.is) (inl refl)) in
                let own : head.0.start.packet ≡ p = same-number 0 head.0.start.packet p packets placed from there.0 (eqb-true head.0.start.packet.place p.place head.1) in
                other head.0 (ap (is_of_channel c) own ∙ there.1)) ∙ sym fresh
          ]
