-- Where a channel's reservation is committed, a submit at its first hop is planned, or refused as busy or too big, and a
-- release is answered with a closing. Best-effort packets are planned or refused so too.
use Rattle.std.proofs.Common.{◌≡◌, ℕ, Bool, true, false, List, [], ◌∷◌, length, Option, Some, refl, sym, ap, ◌∙◌, subst, inl, inr}
use Rattle.std.proofs.lemmas.Bool.{cases_Bool}
use Rattle.std.proofs.lemmas.Option.{same_Some}
use Rattle.std.specs.Prelude.{find, nat_eq, nat_le}
use Rattle.net_units.specs.declared.numbers.ChanNo.{ChanNo}
use Rattle.link_steps.specs.declared.asks.Ask.{Ask}
use Rattle.link_steps.specs.declared.asks.Ask.TheVariants.{Pour}
use Rattle.link_steps.specs.declared.replies.Entry.{Entry}
use Rattle.link_steps.specs.declared.replies.Phase.TheVariants.{Committed}
use Rattle.link_steps.specs.declared.replies.Reply.{Reply}
use Rattle.link_steps.specs.declared.replies.Reply.TheVariants as Is
use Rattle.link_steps.specs.Effects.{PlansBest, effect_of}
use Rattle.link_steps.specs.Replies.{submit_reply, release_reply, submit_to, release_to, pour_reply, reply_at, reply_to}
use Rattle.link_steps.specs.Reservation.{Reservation, is_of, is_same}
use Rattle.link_steps.specs.Rows.{Row, left_at}
use Rattle.link_steps.specs.Scan.{clock_of, is_row_at_hop, names_first_hop, scan_of}
use Rattle.link_steps.specs.Split.{Link}
use Rattle.channel_laws.specs.Reservations.{held_by, IsSendReply, IsReleased}

-- a row of the channel, found by its channel, is found at its hop
pub same-hop : (b : Bool) → is_same b b ≡ true
same-hop true = refl
same-hop false = refl

pub found-at-hop : (chan : ChanNo) (first : Bool) (rows : List Row) (terms : Reservation) → held_by chan rows ≡ Some terms → terms.first ≡ first → (row : Row) × (find (is_row_at_hop chan first) rows ≡ Some row) × (row.terms ≡ terms)
found-at-hop chan first [] terms held is = cc
found-at-hop chan first (row ∷ rows) terms held is =
    elim (cases_Bool (is_of chan row.terms)) [
      | inl own ↦
          (let same : row.terms ≡ terms = same_Some row.terms terms (rw own at held) in
          let hop : is_same row.terms.first first ≡ true = ap (λ t. is_same t.first first) same ∙ ap (λ b. is_same b first) is ∙ same-hop first in
          (row, rw (own, hop) refl, same))
      | inr off ↦
          (let rest = found-at-hop chan first rows terms (rw off at held) is in
          (rest.0, rw off rest.1, rest.2))
    ]

sends : (t size : ℕ) (terms : Reservation) (left : ℕ) → terms.phase ≡ Committed → IsSendReply (submit_reply t size terms left)
unfolding submit_reply
sends t size terms left phase =
    elim (cases_Bool (nat_eq left 0)) [
      | inl free ↦ elim (cases_Bool (nat_le size terms.contract.smax)) [
        | inl small ↦ rw (phase, free, small) tt
        | inr large ↦ rw (phase, free, large) tt
      ]
      | inr some ↦ rw (phase, some) tt
    ]

-- a submit at the first hop
pub submit-committed : (t size : ℕ) (chan : ChanNo) (rows : List Row) (terms : Reservation) → held_by chan rows ≡ Some terms → terms.first ≡ true → terms.phase ≡ Committed → IsSendReply (submit_to t size (find (is_row_at_hop chan true) rows))
submit-committed t size chan rows terms held first phase =
    let found = found-at-hop chan true rows terms held first in
    subst (λ f. IsSendReply (submit_to t size f)) (sym found.1) (sends t size found.0.terms (length (left_at t found.0.plan)) (ap (λ x. x.phase) found.2 ∙ phase))

-- a release
releases : (upstream : Option ℕ) (terms : Reservation) (taken left : ℕ) → terms.phase ≡ Committed → IsReleased (release_reply upstream terms taken left)
unfolding release_reply
releases upstream terms taken left phase = rw phase tt

pub release-committed : (t : ℕ) (upstream : Option ℕ) (chan : ChanNo) (rows : List Row) (terms : Reservation) → held_by chan rows ≡ Some terms → terms.first ≡ names_first_hop upstream → terms.phase ≡ Committed → IsReleased (release_to t upstream (find (is_row_at_hop chan (names_first_hop upstream)) rows))
release-committed t upstream chan rows terms held first phase =
    let found = found-at-hop chan (names_first_hop upstream) rows terms held first in
    subst (λ f. IsReleased (release_to t upstream f)) (sym found.1) (releases upstream found.0.terms (length found.0.ticks) (length (left_at t found.0.plan)) (ap (λ x. x.phase) found.2 ∙ phase))

-- what holds of every closing holds of the reply
pub of-released : (P : Reply → Type 0) (reply : Reply) → ((count cancelled : ℕ) → P (Is.Closing count cancelled)) → IsReleased reply → P reply
of-released P (Is.Closing count cancelled) closing is = closing count cancelled
of-released P _ closing is = absurd is

-- best-effort packets
pub best-answered : (link : Link) (h : List Entry) (ask : Ask) (clock count gap size : ℕ) → effect_of (scan_of link.shape h) ask (Is.Planned clock) ≡ PlansBest count gap size → IsSendReply (reply_to link h ask)
unfolding effect_of reply_to reply_at pour_reply
best-answered link h (Pour many apart large) clock count gap size is =
    elim (cases_Bool (nat_eq (length (left_at (clock_of h) (scan_of link.shape h).best_plan)) 0)) [
      | inl free ↦ elim (cases_Bool (nat_le large link.shape.cap)) [
        | inl small ↦ rw (free, small) tt
        | inr wide ↦ rw (free, wide) tt
      ]
      | inr some ↦ rw some tt
    ]
best-answered link h _ clock count gap size is = cc
