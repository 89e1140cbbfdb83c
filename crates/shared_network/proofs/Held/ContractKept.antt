-- Packets that are planned on an established channel keep its contract: its first hop holds a committed reservation on it.
use Rattle.std.proofs.Common.{◌≡◌, ℕ, ◌≤◌, true, List, length, Some, sym, ap, ◌∙◌, subst, arith}
use Rattle.shared_network.proofs.Words.{slice_get, find, Result, Ok, Err, IfOk, OnOk, TableId, channel_number, link_number, ActorNo, ChanNo, LinkNo, Traffic, Hop, Each, reply_at, submit_to, is_row_at_hop, Link, SplitFits, Ask, Submit, Reply, held_by, own_at, OwnsAsk, IsOwner, Token, Steps}
use Rattle.link_steps.specs.Rows.{left_at}
use Rattle.link_steps.specs.declared.replies.Reply.TheVariants as Is
use Rattle.link_steps.proofs.ReservationFound.{submit-tells}
use Rattle.channel_laws.proofs.SendReplies.{found-at-hop}
use Rattle.shared_network.specs.Calls.{HoldsRoute}
use Rattle.shared_network.specs.Holds.{hold_of, IsHeld}
use Rattle.shared_network.specs.Ready.{MayStep, PassGoesOn}
use Rattle.shared_network.specs.Shifts.{KeepsContract}
use Rattle.shared_network.proofs.Held.HoldSteps.{AnswersOf, answers}

module _ (table : TableId) (owners : List ActorNo) (links : List Link) (link : LinkNo) (pass pass' : Token) (splits : Each SplitFits links) (may : MayStep table owners links pass) (goes : PassGoesOn table owners links pass pass') where
  planned-keeps : (chan : ChanNo) (count gap size clock : ℕ) → IsOwner owners pass.actor chan → Steps links (link_number link) (Submit chan count gap size) pass pass' (Is.Planned clock)
      → (route : List Hop) (contract : Traffic) (hop : Hop) → slice_get route 0 ≡ Some hop → hop.link ≡ link → HoldsRoute chan route contract pass.own → size ≤ contract.smax
  unfolding reply_at
  planned-keeps chan count gap size clock owner steps route contract hop first at holds =
      let l : ℕ = link_number link in
      let ans : AnswersOf steps.link chan (hold_of (channel_number chan) (own_at (link_number hop.link) pass.own)) steps.entry.ask steps.entry.reply =
      subst (λ (to : LinkNo). AnswersOf steps.link chan (hold_of (channel_number chan) (own_at (link_number to) pass.own)) steps.entry.ask steps.entry.reply) (sym at)
      (answers table owners links l (Submit chan count gap size) pass pass' (Is.Planned clock) splits may steps (goes.may_step.knows l steps.link steps.is_link).order chan owner) in
      let committed = holds 0 hop first in
      let held = subst (λ h. IsHeld h (held_by chan ans.scan.rows)) committed.is ans.held in
      let row = found-at-hop chan true ans.scan.rows committed.terms held.0 committed.first_is in
      let told : Is.Planned clock ≡ submit_to ans.clock size (find (is_row_at_hop chan true) ans.scan.rows) = sym steps.reply_is ∙ ans.reply_is ∙ ap (reply_at steps.link ans.clock ans.scan) steps.acted.ask_is in
      let small = (submit-tells ans.clock size row.0.terms (length (left_at ans.clock row.0.plan)) clock (told ∙ ap (submit_to ans.clock size) row.1)).2 in
      let own = ap (λ x. x.contract.smax) row.2 in
      let on = ap (λ k. k.smax) committed.contract_is in
      omega (arith, small, own, on)

  pub keeps-contract : (ask : Ask) (reply : Reply) → OwnsAsk owners pass.actor ask → Steps links (link_number link) ask pass pass' reply → KeepsContract link ask reply pass.own
  keeps-contract (Submit chan count gap size) (Is.Planned clock) owner steps = planned-keeps chan count gap size clock owner steps
  keeps-contract _ _ owner steps = tt

-- a fact of an answer, and one that holds where it is Ok
pub ok-where : {T E : Type 0} (P Q : T → Type 0) (R : Type 0) (r : Result T E) → ((x : T) → P x → R → Q x) → IfOk r P → OnOk r R → IfOk r Q
ok-where P Q R (Ok x) follows p fact = follows x p fact
ok-where P Q R (Err e) follows p fact = p
