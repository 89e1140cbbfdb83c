-- A link in order: at the beginning, after nothing was entered, and after one entry more.
use Rattle.std.proofs.Common.{◌≡◌, ℕ, ◌*◌, ◌^◌, ◌<◌, ◌≤◌, List, [], ◌∷◌, ◌++◌, length, refl, sym, ap, ◌∙◌, subst, arith}
use Rattle.std.proofs.lemmas.List.{length-map}
use Rattle.net_units.specs.declared.numbers.ActorNo.{ActorNo}
use Rattle.link_steps.specs.Legal.{IsLegal, AskFits}
use Rattle.link_steps.specs.Replies.{reply_to}
use Rattle.link_steps.specs.Scan.{clock_of}
use Rattle.link_steps.specs.Split.{SplitFits}
use Rattle.link_steps.specs.declared.replies.Entry.{Entry as Done}
use Rattle.link_steps.proofs.HopHolds.{hop-guarantee}
use Rattle.link_steps.proofs.LegalAdmissible.{legal-admissible}
use Rattle.link_steps.proofs.SearchAndFilter.{Each-if, Each-append}
use Rattle.step_stamp.specs.declared.marks.Mark.{Mark}
use Rattle.step_stamp.proofs.RisingStamps.{rises-append, rises-length}
use Rattle.link_ledger.specs.Journals.{mark_in, done_in, history_in}
use Rattle.link_ledger.specs.Order.{HeldLink, IsInOrder, AreInOrder, IsOrdered}
use Rattle.link_ledger.specs.Owners.{OwnsAsk, NextBelow}
use Rattle.link_ledger.specs.declared.entries.Entry.{Entry}
use Rattle.link_ledger.proofs.JournalGrowth.{history-more, marks-more, journal-clock-most}

-- the journal is as long as its list
pub order-length : (stands : List Done → Type 0) (owners : List ActorNo) (links : ℕ) (held : HeldLink) → IsInOrder stands owners links held → length held.entries ≡ length held.list
order-length stands owners links held order = sym (length-map held.entries mark_in) ∙ ap length order.marks

-- the clock of a link in order is early
pub early : (stands : List Done → Type 0) (owners : List ActorNo) (links clock : ℕ) (held : HeldLink) → IsInOrder stands owners links held → ((h : List Done) → stands h → clock ≡ clock_of h) → clock < 2 ^ 61
early stands owners links clock held order tells =
    let is = tells (history_in held.entries) order.stands_for in
    let most = journal-clock-most held.entries in
    let long = order-length stands owners links held order in
    let few = rises-length 0 (65 * 2 ^ 40) held.list order.rises order.most (omega arith) in
    omega (arith, is, most, long, few)

-- nothing was entered
pub in_order-same : (stands stands' : List Done → Type 0) (owners : List ActorNo) (links : ℕ) (held held' : HeldLink) → IsInOrder stands owners links held → held'.rules ≡ held.rules → held'.entries ≡ held.entries → held'.list ≡ held.list → held.seen ≤ held'.seen
    → ((h : List Done) → stands h → stands' h) → IsInOrder stands' owners links held'
in_order-same stands stands' owners links held held' o rules entries list le goes =
    let same : HeldLink = record held' { rules = held.rules; entries = held.entries; list = held.list } in
    let is : same ≡ held' = λ i. record held' { rules = sym rules i; entries = sym entries i; list = sym list i } in
    subst (IsInOrder stands' owners links) is
    (record {
      split = o.split;
      stands_for = goes (history_in held.entries) o.stands_for;
      legal = o.legal;
      guaranteed = o.guaranteed;
      marks = o.marks;
      rises = o.rises;
      most_seen = Each-if (λ (m : Mark). m.stamp ≤ held.seen) (λ (m : Mark). m.stamp ≤ held'.seen) held.list (λ m low. omega (arith, low, le)) o.most_seen;
      owned = o.owned;
      next = o.next;
      most = o.most;
    })

-- what a new entry owes: its stamp is above what was seen, its reply is that of the rules, and it was asked by right
pub record MayEnter (stands' : List Done → Type 0) (owners : List ActorNo) (links : ℕ) (held : HeldLink) (e : Entry) : Type 0 where
  pub above : held.seen < e.stamp
  pub most : e.stamp ≤ 65 * 2 ^ 40
  pub fits : AskFits held.rules.shape e.ask
  pub answered : e.reply ≡ reply_to held.rules (history_in held.entries) e.ask
  pub stands_for : stands' (done_in e ∷ history_in held.entries)
  pub owned : OwnsAsk owners e.actor e.ask
  pub next : NextBelow links e.ask

-- it was entered
pub in_order-more : (stands stands' : List Done → Type 0) (owners : List ActorNo) (links : ℕ) (held held' : HeldLink) (e : Entry) → IsInOrder stands owners links held → MayEnter stands' owners links held e
    → held'.rules ≡ held.rules → held'.entries ≡ held.entries ++ e ∷ [] → held'.list ≡ held.list ++ mark_in e ∷ [] → e.stamp ≤ held'.seen → IsInOrder stands' owners links held'
unfolding IsLegal
in_order-more stands stands' owners links held held' e o may rules entries list le =
    let m = mark_in e in
    let more : HeldLink = record held' { rules = held.rules; entries = held.entries ++ e ∷ []; list = held.list ++ m ∷ [] } in
    let is : more ≡ held' = λ i. record held' { rules = sym rules i; entries = sym entries i; list = sym list i } in
    let now : history_in (held.entries ++ e ∷ []) ≡ done_in e ∷ history_in held.entries = history-more held.entries e in
    let legal : IsLegal held.rules (history_in (held.entries ++ e ∷ [])) = subst (IsLegal held.rules) (sym now) (o.legal, record { fits = may.fits; answered = may.answered }) in
    let above = may.above in
    subst (IsInOrder stands' owners links) is
    (record {
      split = o.split;
      stands_for = subst stands' (sym now) may.stands_for;
      legal = legal;
      guaranteed = hop-guarantee held.rules.shape (history_in (held.entries ++ e ∷ [])) (legal-admissible held.rules (history_in (held.entries ++ e ∷ [])) o.split legal);
      marks = marks-more held.entries e ∙ ap (λ ms. ms ++ m ∷ []) o.marks;
      rises = rises-append 0 held.seen held.list m o.rises o.most_seen (omega arith) may.above;
      most_seen = Each-append (λ (x : Mark). x.stamp ≤ held'.seen) held.list (m ∷ []) (Each-if (λ (x : Mark). x.stamp ≤ held.seen) (λ (x : Mark). x.stamp ≤ held'.seen) held.list (λ x low. omega (arith, low, above, le)) o.most_seen) (le, tt);
      owned = Each-append (λ (x : Mark). OwnsAsk owners x.actor x.ask) held.list (m ∷ []) o.owned (may.owned, tt);
      next = Each-append (λ (x : Mark). NextBelow links x.ask) held.list (m ∷ []) o.next (may.next, tt);
      most = Each-append (λ (x : Mark). x.stamp ≤ 65 * 2 ^ 40) held.list (m ∷ []) o.most (may.most, tt);
    })

module _ (stands : List Done → Type 0) (owners : List ActorNo) (links : ℕ) (held : HeldLink) where
  -- at the beginning
  pub in_order-new : held.entries ≡ [] → held.list ≡ [] → SplitFits held.rules → stands [] → IsInOrder stands owners links held
  unfolding IsLegal
  in_order-new entries list split stands_now =
      let new : HeldLink = record held { entries = []; list = [] } in
      let is : new ≡ held = λ i. record held { entries = sym entries i; list = sym list i } in
      subst (IsInOrder stands owners links) is
      (record { split = split; stands_for = stands_now; legal = tt; guaranteed = hop-guarantee held.rules.shape [] (legal-admissible held.rules [] split tt); marks = refl; rises = tt; most_seen = tt; owned = tt; next = tt; most = tt })

  -- out of the lock
  pub order-out : IsInOrder stands owners links held → IsOrdered owners links held
  order-out o =
      record { split = o.split; stands_for = tt; legal = o.legal; guaranteed = o.guaranteed; marks = o.marks; rises = o.rises; most_seen = o.most_seen; owned = o.owned; next = o.next; most = o.most }

  -- and of its list alone
  pub order-marks : IsInOrder stands owners links held → AreInOrder owners links held.list
  order-marks o = record { rises = o.rises; owned = o.owned; next = o.next; most = o.most }
