-- A step at a link, and what the link holds of the channels of the pass's actor: before it, as the own entries tell; the reply
-- is the one of the rules for that; and after it, as the own entries with the new one tell. Where these submit nothing on a
-- channel, its first submit is planned.
use Rattle.std.proofs.Common.{◌≡◌, ◌≤◌, ℕ, true, List, [], ◌∷◌, ◌++◌, length, Option, refl, sym, ap, ◌∙◌, subst, inl}
use Rattle.shared_network.proofs.Words.{nat_eq, TableId, actor_number, channel_number, link_number, ActorNo, ChanNo, IsLegal, Each, reply_at, reply_to, Reservation, Scan, clock_of, scan_of, Link, SplitFits, Ask, Submit, Release, Reply, Has, StampsRise, marks_of, known_of, Mark, MayReplyTo, IsUnsent, NoneSent, IsPlanned, FewCancelled, held_by, marks_in, done_in, history_in, journal_of, own_mark, own_entry, own_at, OwnsAsk, IsOwner, Token, Steps, OwnEntry}
use Rattle.link_steps.specs.Admissible.{MayAnswer, IsAdmissible}
use Rattle.link_steps.specs.declared.replies.Entry.{Entry as Done}
use Rattle.link_steps.specs.declared.replies.Phase.TheVariants.{Committed}
use Rattle.link_steps.proofs.LegalAdmissible.{legal-admissible}
use Rattle.link_steps.proofs.LegalChannels.{legal-channels}
use Rattle.channel_laws.specs.Laws.{held_after}
use Rattle.channel_laws.proofs.EntryLaws.{packets-may-move}
use Rattle.link_steps.proofs.SearchAndFilter.{Each-append, Each-filter, Each-map}
use Rattle.link_steps.proofs.ListParts.{Each-at, Each-parts}
use Rattle.link_ledger.specs.Order.{AreInOrder}
use Rattle.link_ledger.proofs.JournalGrowth.{past_after, history-more, journal-told}
use Rattle.link_ledger.proofs.OwnStaysExact.{one-at, rest-none}
use Rattle.shared_network.specs.Holds.{Hold, Free, Holds, hold_with, hold_of, IsHeld}
use Rattle.shared_network.specs.Ready.{MayStep}
use Rattle.shared_network.specs.Shifts.{NoneSubmitted}
use Rattle.shared_network.proofs.Held.HoldsByOwner.{hold-more, held-next, held-rest, off-marks, past-parts, history-told}
use Rattle.shared_network.proofs.Held.UnsentMarks.{AreUnsent, owner-unsent, others-unsent, history-unsent}

-- the reply is that of the rules where the link holds this
pub record AnswersOf (link : Link) (chan : ChanNo) (hold : Hold) (ask : Ask) (reply : Reply) : Type 0 where
  pub clock : ℕ
  pub scan : Scan
  pub held : IsHeld hold (held_by chan scan.rows)
  pub reply_is : reply ≡ reply_at link clock scan ask
  pub may : MayAnswer link.shape clock scan ask reply

module _ (table : TableId) (owners : List ActorNo) (links : List Link) (l : ℕ) (ask : Ask) (pass pass' : Token) (reply : Reply) (splits : Each SplitFits links) (may : MayStep table owners links pass) (steps : Steps links l ask pass pass' reply) (order : AreInOrder owners (length links) (known_of l pass'.view)) where
  abbrev a : ActorNo
  a = pass.actor

  abbrev e : OwnEntry
  e = steps.entry

  abbrev known : List Mark
  known = known_of l pass.view

  abbrev rest : List Mark
  rest = steps.acted.begins.0

  whole : known ++ rest ≡ marks_in steps.entries
  whole = steps.acted.begins.1

  fits : SplitFits steps.link
  fits = Each-at SplitFits links l steps.link splits steps.is_link

  more : history_in (steps.entries ++ own_entry a e ∷ []) ≡ done_in (own_entry a e) ∷ history_in steps.entries
  more = history-more steps.entries (own_entry a e)

  legal-before : IsLegal steps.link (history_in steps.entries)
  unfolding IsLegal
  legal-before = (subst (IsLegal steps.link) more steps.acted.legal).0

  -- the journal before the step, told by what the pass knew and the rest
  before : history_in steps.entries ≡ past_after steps.link (past_after steps.link [] known) rest
  before =
      ap history_in (sym (journal-told steps.link steps.entries legal-before) ∙ ap (journal_of steps.link) (sym whole))
      ∙ history-told steps.link (known ++ rest) ∙ past-parts steps.link [] known rest

  none : marks_of (actor_number a) rest ≡ []
  none = rest-none a l pass.view pass.own rest may.exact (subst (Has (actor_number a)) (sym may.acts) (inl refl)) (subst StampsRise (sym whole) steps.acted.rises) (λ m has on. steps.acted.own m (subst (Has m) whole has) on)

  owned : Each (λ (m : Mark). OwnsAsk owners m.actor m.ask) rest
  owned =
      let O : Mark → Type 0 = λ m. OwnsAsk owners m.actor m.ask in
      (Each-parts O known rest (subst (Each O) (sym whole) (Each-parts O (marks_in steps.entries) (own_mark a e ∷ []) (subst (Each O) steps.acted.knows order.owned)).0)).1

  pub hold-before : (chan : ChanNo) → IsOwner owners a chan → IsHeld (hold_of (channel_number chan) (own_at l pass.own)) (held_after steps.link.shape chan (history_in steps.entries))
  hold-before chan owner =
      let hold : Hold = hold_of (channel_number chan) (own_at l pass.own) in
      let knew = (may.knows l steps.link steps.is_link).holds chan owner in
      subst (λ h. IsHeld hold (held_after steps.link.shape chan h)) (sym before)
      (held-rest steps.link chan hold (past_after steps.link [] known) rest fits (subst (IsLegal steps.link) before legal-before) (off-marks owners a chan rest owner none owned) (subst (λ h. IsHeld hold (held_after steps.link.shape chan h)) (history-told steps.link known) knew))

  pub hold-after : (chan : ChanNo) → IsOwner owners a chan → IsHeld (hold_of (channel_number chan) (own_at l (pass.own ++ e ∷ []))) (held_after steps.link.shape chan (history_in (steps.entries ++ own_entry a e ∷ [])))
  unfolding scan_of
  hold-after chan owner =
      let c : ℕ = channel_number chan in
      let hold : Hold = hold_of c (own_at l pass.own) in
      let h : List Done = history_in steps.entries in
      let next : IsHeld (hold_with c hold e.ask e.reply) (held_after steps.link.shape chan (done_in (own_entry a e) ∷ h)) = held-next steps.link.shape chan (clock_of h) (scan_of steps.link.shape h) (legal-channels steps.link.shape h (legal-admissible steps.link h fits legal-before)) hold e.ask e.reply (hold-before chan owner) in
      let own : hold_of c (own_at l (pass.own ++ e ∷ [])) ≡ hold_with c hold e.ask e.reply = ap (hold_of c) (one-at l pass.own e steps.acted.link_is) ∙ hold-more c Free (own_at l pass.own) e in
      subst (λ (x : Hold × List Done). IsHeld x.0 (held_after steps.link.shape chan x.1)) (λ i. (sym own i, sym more i)) next

  pub answers : (chan : ChanNo) → IsOwner owners a chan → AnswersOf steps.link chan (hold_of (channel_number chan) (own_at l pass.own)) e.ask e.reply
  unfolding reply_to IsAdmissible
  answers chan owner =
      let h : List Done = history_in steps.entries in
      let admissible : IsAdmissible steps.link.shape (done_in (own_entry a e) ∷ h) = subst (IsAdmissible steps.link.shape) more (legal-admissible steps.link (history_in (steps.entries ++ own_entry a e ∷ [])) fits steps.acted.legal) in
      record {
        clock = clock_of h;
        scan = scan_of steps.link.shape h;
        held = hold-before chan owner;
        reply_is = steps.acted.reply ∙ ap (reply_to steps.link h) (sym steps.acted.ask_is);
        may = admissible.1.answered;
      }

  -- where no own entry submits on a channel, nothing in the link's history does
  none-sent : (chan : ChanNo) → IsOwner owners a chan → NoneSubmitted chan pass.own → NoneSent (channel_number chan) (history_in steps.entries)
  none-sent chan owner unsent =
      let c : ℕ = channel_number chan in
      let own : AreUnsent c (marks_of (actor_number a) known) =
      subst (AreUnsent c) (sym (may.exact.known l)) (Each-map (λ (m : Mark). IsUnsent c m.ask) (own_mark a) (own_at l pass.own) (Each-filter (λ (x : OwnEntry). IsUnsent c x.ask) (λ (x : OwnEntry). nat_eq (link_number x.link) l) pass.own unsent)) in
      let knew : AreUnsent c known = owner-unsent owners a chan known owner (may.knows l steps.link steps.is_link).order.owned own in
      history-unsent c steps.entries (subst (AreUnsent c) whole (Each-append (λ (m : Mark). IsUnsent c m.ask) known rest knew (others-unsent owners a chan rest owner none owned)))

  -- so where it is committed at its first hop, packets within its contract are planned
  pub planned : (chan : ChanNo) (terms : Reservation) (count gap size : ℕ) → IsOwner owners a chan → NoneSubmitted chan pass.own → hold_of (channel_number chan) (own_at l pass.own) ≡ Holds terms → terms.first ≡ true → terms.phase ≡ Committed → size ≤ terms.contract.smax → ask ≡ Submit chan count gap size → IsPlanned reply
  planned chan terms count gap size owner unsent is first phase small asked =
      let h : List Done = history_in steps.entries in
      let held = subst (λ x. IsHeld x (held_after steps.link.shape chan h)) is (hold-before chan owner) in
      subst IsPlanned (sym (sym steps.reply_is ∙ steps.acted.reply ∙ ap (reply_to steps.link h) asked)) (packets-may-move.joins steps.link h chan terms count gap size held.0 first phase (none-sent chan owner unsent) small)

  -- and a release cancels no more packets than one submit may plan
  pub cancels-few : (chan : ChanNo) (upstream : Option ℕ) → ask ≡ Release chan upstream → FewCancelled reply
  unfolding IsAdmissible
  cancels-few chan upstream asked =
      let h : List Done = history_in steps.entries in
      let admissible : IsAdmissible steps.link.shape (done_in (own_entry a e) ∷ h) = subst (IsAdmissible steps.link.shape) more (legal-admissible steps.link (history_in (steps.entries ++ own_entry a e ∷ [])) fits steps.acted.legal) in
      packets-may-move.leaves steps.link.shape h chan upstream reply admissible.0 (subst (λ (x : Ask × Reply). MayReplyTo steps.link.shape h x.0 x.1) (λ i. ((steps.acted.ask_is ∙ asked) i, steps.reply_is i)) admissible.1.answered)
