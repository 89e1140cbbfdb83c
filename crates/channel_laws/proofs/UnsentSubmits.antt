-- Where a channel's reservation is committed and nothing was submitted on it, a submit of packets within its contract is planned. An
-- ask of another channel submits nothing on it.
use Rattle.std.proofs.Common.{◌≡◌, ℕ, ◌≤◌, true, List, [], length, Some, sym, ap, ◌∙◌, subst, arith}
use Rattle.std.proofs.lemmas.Bool.{eq-eqb, le-leb}
use Rattle.std.specs.Prelude.{find}
use Rattle.net_units.specs.declared.numbers.ChanNo.{ChanNo}
use Rattle.link_steps.specs.declared.replies.Phase.TheVariants.{Committed}
use Rattle.link_steps.specs.Replies.{submit_reply, submit_to}
use Rattle.link_steps.specs.Reservation.{Reservation}
use Rattle.link_steps.specs.Rows.{Row, left_at}
use Rattle.link_steps.specs.Scan.{is_row_at_hop}
use Rattle.link_steps.specs.declared.asks.Ask.{Ask}
use Rattle.link_steps.specs.declared.asks.Ask.TheVariants.{Submit}
use Rattle.channel_laws.specs.Reservations.{held_by}
use Rattle.channel_laws.specs.Unsent.{IsPlanned, IsUnsent}
use Rattle.channel_laws.proofs.SendReplies.{found-at-hop}
use Rattle.channel_laws.specs.Asks.{IsOff}

-- an ask that names another channel, or none, submits nothing on it
pub off-unsent : (c : ℕ) (ask : Ask) → IsOff c ask → IsUnsent c ask
off-unsent c (Submit chan count gap size) off = off
off-unsent c _ off = tt

submit-planned : (t size : ℕ) (terms : Reservation) (left : ℕ) → terms.phase ≡ Committed → left ≡ 0 → size ≤ terms.contract.smax → IsPlanned (submit_reply t size terms left)
unfolding submit_reply
submit-planned t size terms left phase none small = rw (phase, eq-eqb left 0 none, le-leb size terms.contract.smax small) tt

pub unplanned-submit : (t size : ℕ) (chan : ChanNo) (rows : List Row) (terms : Reservation) → held_by chan rows ≡ Some terms → terms.first ≡ true → terms.phase ≡ Committed
    → ((row : Row) → find (is_row_at_hop chan true) rows ≡ Some row → row.plan ≡ []) → size ≤ terms.contract.smax → IsPlanned (submit_to t size (find (is_row_at_hop chan true) rows))
unplanned-submit t size chan rows terms held first phase unplanned small =
    let found = found-at-hop chan true rows terms held first in
    let within : found.0.terms.contract.smax ≡ terms.contract.smax = ap (λ x. x.contract.smax) found.2 in
    subst (λ f. IsPlanned (submit_to t size f)) (sym found.1) (submit-planned t size found.0.terms (length (left_at t found.0.plan)) (ap (λ x. x.phase) found.2 ∙ phase) (ap (λ plan. length (left_at t plan)) (unplanned found.0 found.1)) (omega (arith, small, within)))
