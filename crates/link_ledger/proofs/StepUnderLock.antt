-- One step under the lock: the pass meets the link, draws a mark, the link replies and enters the mark, and the pass meets it
-- again. The link is in order then, and the pass is told all that `Acted` says.
use Rattle.std.proofs.Common.{◌≡◌, ℕ, ◌+◌, ◌<◌, ◌≤◌, List, [], ◌∷◌, ◌++◌, length, sym, ap, ◌∙◌, subst, ⊎_elim, arith}
use Rattle.std.proofs.lemmas.Bool.{cases_eq}
use Rattle.std.proofs.Math.Nat.{le-max_left, le-max_right, max-eq_right}
use mathlib.Core.List.{IsPrefix}
use Rattle.net_units.specs.Numbers.{link_number}
use Rattle.net_units.specs.declared.numbers.ActorNo.{ActorNo}
use Rattle.link_steps.specs.Legal.{IsLegal, AskFits}
use Rattle.link_steps.specs.Lists.{Each}
use Rattle.link_steps.specs.Replies.{reply_to}
use Rattle.link_steps.proofs.SearchAndFilter.{Each-if}
use Rattle.link_steps.specs.declared.asks.Ask.{Ask}
use Rattle.link_steps.specs.declared.replies.Entry.{Entry as Done}
use Rattle.link_steps.specs.declared.replies.Reply.{Reply}
use Rattle.step_stamp.specs.Lists.{Has}
use Rattle.step_stamp.specs.Marks.{StampsRise, drawn_for}
use Rattle.step_stamp.specs.Seats.{Meets, DrawsMark, EntersMark}
use Rattle.step_stamp.specs.Views.{known_of}
use Rattle.step_stamp.specs.declared.marks.Drawn.{Drawn}
use Rattle.step_stamp.specs.declared.marks.Mark.{Mark}
use Rattle.step_stamp.specs.declared.views.View.{View}
use Rattle.step_stamp.proofs.ListMembers.{each-has, has-each, has-prefix}
use Rattle.link_ledger.specs.Journals.{marks_in, history_in, journal_entry_of}
use Rattle.link_ledger.specs.Order.{HeldLink, IsInOrder}
use Rattle.link_ledger.specs.Own.{own_mark, own_entry, Acted}
use Rattle.link_ledger.specs.Owners.{OwnsAsk, NextBelow}
use Rattle.link_ledger.specs.declared.entries.OwnEntry.{OwnEntry}
use Rattle.link_ledger.proofs.JournalGrowth.{history-more}
use Rattle.link_ledger.proofs.LinkStaysInOrder.{MayEnter, in_order-more}

module _ (stands stands' : List Done → Type 0) (owners : List ActorNo) (links : ℕ) (held : HeldLink) (l : ℕ) (actor : ActorNo) (ask : Ask) (reply : Reply) (m : Mark) (v k v1 k1 v2 k2 : View)
    (o : IsInOrder stands owners links held) (list_is : held.list ≡ known_of l k) (seen_is : held.seen ≡ k.seen)
    (met : Meets l v k v1 k1) (drew : DrawsMark actor l ask v1 v2 m) (entered : EntersMark l k1 k2 m)
    (fits : AskFits held.rules.shape ask) (owned : OwnsAsk owners actor ask) (next : NextBelow links ask)
    (answered : reply ≡ reply_to held.rules (history_in held.entries) ask) (stands_now : stands' (record { ask = ask; reply = reply } ∷ history_in held.entries)) where
  -- the stamp is above all that the pass and the link had seen
  above-pass : v.seen < m.stamp
  above-pass =
      let above = drew.above in
      let both = met.both_saw in
      let le = le-max_left v.seen k1.seen in
      omega (arith, above, both, le)

  above-link : held.seen < m.stamp
  above-link =
      let above = drew.above in
      let both = met.both_saw in
      let saw = met.saw in
      let le = le-max_right v.seen k1.seen in
      let le' = le-max_left k.seen v.seen in
      omega (arith, above, both, saw, le, le', seen_is)

  may-enter : MayEnter stands' owners links held (journal_entry_of m reply)
  may-enter = record {
    above = above-link;
    most = drew.most;
    fits = subst (AskFits held.rules.shape) (sym drew.ask_is) fits;
    answered = answered ∙ ap (reply_to held.rules (history_in held.entries)) (sym drew.ask_is);
    stands_for = subst (λ a. stands' (record { ask = a; reply = reply } ∷ history_in held.entries)) (sym drew.ask_is) stands_now;
    owned = subst (λ (x : ActorNo × Ask). OwnsAsk owners x.0 x.1) (λ i. (sym drew.actor_is i, sym drew.ask_is i)) owned;
    next = subst (NextBelow links) (sym drew.ask_is) next;
  }

  -- the link's list with the mark
  list-now : known_of l k2 ≡ held.list ++ m ∷ []
  list-now = entered.list ∙ ap (λ ms. ms ++ m ∷ []) (met.keeps ∙ sym list_is)

  pub step-order : (held' : HeldLink) → held'.rules ≡ held.rules → held'.entries ≡ held.entries ++ journal_entry_of m reply ∷ [] → held'.list ≡ known_of l k2 → k2.seen ≤ held'.seen → IsInOrder stands' owners links held'
  step-order held' rules entries list le =
      let saw = entered.saw in
      in_order-more stands stands' owners links held held' (journal_entry_of m reply) o may-enter rules entries (list ∙ list-now) (omega (arith, saw, le))

  -- and above all marks that the pass knew before it met the link
  known-below : (j stamp : ℕ) → stamp ≡ m.stamp → Each (λ (x : Mark). x.stamp < stamp) (known_of j v)
  known-below j stamp is =
      subst (λ top. Each (λ (x : Mark). x.stamp < top) (known_of j v)) (sym is)
      (⊎_elim
      (λ (e : j ≡ l).
      let now : Each (λ (x : Mark). x.stamp < m.stamp) (known_of l k) = subst (Each (λ (x : Mark). x.stamp < m.stamp)) met.knows (drew.above_known l) in
      subst (λ i. Each (λ (x : Mark). x.stamp < m.stamp) (known_of i v)) (sym e)
      (has-each (λ (x : Mark). x.stamp < m.stamp) (known_of l v) (λ x has. each-has (λ (y : Mark). y.stamp < m.stamp) x (known_of l k) now (has-prefix x (known_of l v) (known_of l k) met.begins has))))
      (λ other. subst (Each (λ (x : Mark). x.stamp < m.stamp)) (met.others j other) (drew.above_known j))
      (cases_eq j l))

  -- the pass has met it again: what it knows then is the journal's marks with this one
  pub step-acted : (v3 k3 : View) (e : OwnEntry) → Meets l v2 k2 v3 k3 → link_number e.link ≡ l → e.place ≡ length held.entries + 1 → e.stamp ≡ m.stamp → e.ask ≡ ask → e.reply ≡ reply → Acted held.rules l actor ask v v3 held.entries e
  unfolding IsLegal
  step-acted v3 k3 e again link place stamp ask_is reply_is =
      let mark_is : m ≡ own_mark actor e = λ i. record { stamp = sym stamp i; actor = drew.actor_is i; ask = (drew.ask_is ∙ sym ask_is) i } in
      let entry_is : journal_entry_of m reply ≡ own_entry actor e = λ i. record { stamp = sym stamp i; actor = drew.actor_is i; ask = (drew.ask_is ∙ sym ask_is) i; reply = sym reply_is i } in
      let marks : marks_in held.entries ≡ known_of l k = o.marks ∙ list_is in
      let legal : IsLegal held.rules (history_in (held.entries ++ journal_entry_of m reply ∷ [])) =
      subst (IsLegal held.rules) (sym (history-more held.entries (journal_entry_of m reply))) (o.legal, record { fits = may-enter.fits; answered = may-enter.answered }) in
      let above = above-pass in
      let drew_saw = drew.saw in
      let entered_saw = entered.saw in
      let again_saw = again.saw in
      let both = again.both_saw in
      let link_saw : k3.seen ≡ m.stamp = again_saw ∙ max-eq_right (omega (arith, drew_saw, entered_saw)) ∙ drew_saw in
      let pass_saw : v3.seen ≡ m.stamp = both ∙ max-eq_right (omega (arith, drew_saw, link_saw)) ∙ link_saw in
      record {
        legal = subst (λ x. IsLegal held.rules (history_in (held.entries ++ x ∷ []))) entry_is legal;
        begins = subst (IsPrefix (known_of l v)) (sym marks) met.begins;
        rises = subst StampsRise (sym marks) met.rises;
        own = λ x has acts. met.own x (subst (Has x) marks has) acts;
        knows = again.knows ∙ list-now ∙ ap (λ ms. ms ++ m ∷ []) (sym o.marks) ∙ ap (λ x. marks_in held.entries ++ x ∷ []) mark_is;
        others = λ j other. again.others j other ∙ drew.knows j ∙ met.others j other;
        drawn = again.drawn ∙ drew.drawn ∙ ap (λ ds. ds ++ drawn_for l m ∷ []) met.drawn ∙ ap (λ x. v.drawn ++ drawn_for l x ∷ []) mark_is;
        actors = again.actors ∙ drew.actors ∙ met.actors;
        among = again.among ∙ drew.among ∙ met.among;
        above = omega (arith, above, stamp);
        above_known = λ j. known-below j e.stamp stamp;
        above_drawn = Each-if (λ (d : Drawn). d.mark.stamp < m.stamp) (λ (d : Drawn). d.mark.stamp < e.stamp) v.drawn (λ d lt. omega (arith, lt, stamp)) (subst (Each (λ (d : Drawn). d.mark.stamp < m.stamp)) met.drawn drew.above_drawn);
        saw = pass_saw ∙ sym stamp;
        link_is = link;
        ask_is = ask_is;
        place = place;
        reply = reply_is ∙ answered;
      }
