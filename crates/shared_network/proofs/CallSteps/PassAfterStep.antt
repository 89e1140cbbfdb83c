-- A pass that may step goes on after a step: its entries are exact again, and what it knows of each link is as it was, or, of the
-- link that was asked, the journal with its new entry.
use Rattle.std.proofs.Common.{◌≡◌, ℕ, ◌+◌, ◌<◌, ◌≤◌, List, [], ◌∷◌, ◌++◌, length, map, refl, sym, ap, ◌∙◌, subst, inl, ⊎_elim, arith}
use Rattle.shared_network.proofs.Words.{cases_eq, map-append, length-append, length-map, same_Some, slice_get_within, TableId, actor_number, channel_number, link_number, ActorNo, LinkNo, IsLegal, Each, Link, SplitFits, Ask, Reply, Has, StampsRise, known_of, saw, Mark, history_in, journal_of, entries_of, marks_in, IsExact, IsAtPlace, own_mark, own_entry, own_at, Token, IsLink, Steps, Entry, OwnEntry, IsOwner}
use mathlib.Core.List.{IsPrefix}
use Rattle.link_steps.proofs.SearchAndFilter.{Each-if, Each-append, Each-map}
use Rattle.step_stamp.proofs.ListMembers.{begins-itself, begins-longer}
use Rattle.step_stamp.proofs.RisingStamps.{rises-append}
use Rattle.link_ledger.specs.Order.{AreInOrder}
use Rattle.link_ledger.proofs.JournalGrowth.{marks-more, journal-told}
use Rattle.link_ledger.proofs.OwnStaysExact.{exact-after, none-at}
use Rattle.channel_laws.specs.Laws.{held_after}
use Rattle.shared_network.specs.Holds.{hold_of, IsHeld}
use Rattle.shared_network.specs.Added.{Adds}
use Rattle.shared_network.specs.Ready.{KnowsLink, MayStep, PassGoesOn}
use Rattle.shared_network.proofs.Held.HoldSteps.{hold-after}
use Rattle.net_units.proofs.KnownByNumber.{same-link}

module _ (table : TableId) (owners : List ActorNo) (links : List Link) (l : ℕ) (ask : Ask) (pass pass' : Token) (reply : Reply) (splits : Each SplitFits links) (may : MayStep table owners links pass) (steps : Steps links l ask pass pass' reply) (order : AreInOrder owners (length links) (known_of l pass'.view)) (actor : pass'.actor ≡ pass.actor) (from : pass'.table ≡ pass.table) where
  abbrev a : ActorNo
  a = pass.actor

  abbrev e : OwnEntry
  e = steps.entry

  has-actor : Has (actor_number a) pass.view.actors
  has-actor = subst (Has (actor_number a)) (sym may.acts) (inl refl)

  -- the journal that it knows of the link
  journal : journal_of steps.link (known_of l pass'.view) ≡ steps.entries ++ own_entry a e ∷ []
  journal = ap (journal_of steps.link) (steps.acted.knows ∙ sym (marks-more steps.entries (own_entry a e))) ∙ journal-told steps.link (steps.entries ++ own_entry a e ∷ []) steps.acted.legal

  exact : IsExact a pass'.view (pass.own ++ e ∷ [])
  exact = exact-after steps.link l a ask pass.view pass'.view steps.entries pass.own e has-actor may.exact steps.acted

  rises : StampsRise (map (own_mark a) (pass.own ++ e ∷ []))
  rises =
      let above = steps.acted.above in
      subst StampsRise (sym (map-append (own_mark a) pass.own (e ∷ [])))
      (rises-append 0 pass.view.seen (map (own_mark a) pass.own) (own_mark a e) may.rises (Each-map (λ (m : Mark). m.stamp ≤ pass.view.seen) (own_mark a) pass.own may.most) (omega arith) above)

  most : Each (λ (o : OwnEntry). o.stamp ≤ pass'.view.seen) (pass.own ++ e ∷ [])
  most =
      let above = steps.acted.above in
      let saw = steps.acted.saw in
      Each-append (λ (o : OwnEntry). o.stamp ≤ pass'.view.seen) pass.own (e ∷ [])
      (Each-if (λ (o : OwnEntry). o.stamp ≤ pass.view.seen) (λ (o : OwnEntry). o.stamp ≤ pass'.view.seen) pass.own (λ o low. omega (arith, low, above, saw)) may.most) (omega (arith, saw), tt)

  linked : Each (λ (o : OwnEntry). link_number o.link < length links) (pass.own ++ e ∷ [])
  linked =
      let within = slice_get_within links l steps.link steps.is_link in
      let here = steps.acted.link_is in
      Each-append (λ (o : OwnEntry). link_number o.link < length links) pass.own (e ∷ []) may.linked (omega (arith, within, here), tt)

  knows-here : (link : Link) → IsLink links l link → KnowsLink owners (length links) link l pass'
  knows-here link is =
      let same : steps.link ≡ link = same_Some steps.link link (sym steps.is_link ∙ is) in
      record {
        legal = subst (λ (x : Link). IsLegal x (history_in (journal_of x (known_of l pass'.view)))) same (subst (λ es. IsLegal steps.link (history_in es)) (sym journal) steps.acted.legal);
        order = order;
        owns = steps.owns link is;
        holds = λ chan owner. subst (λ (x : Link). IsHeld (hold_of (channel_number chan) (own_at l pass'.own)) (held_after x.shape chan (history_in (journal_of x (known_of l pass'.view))))) same
            (subst (λ (x : List OwnEntry × List Entry). IsHeld (hold_of (channel_number chan) (own_at l x.0)) (held_after steps.link.shape chan (history_in x.1))) (λ i. (sym steps.own i, sym journal i))
            (hold-after table owners links l ask pass pass' reply splits may steps order chan (subst (λ (x : ActorNo). IsOwner owners x chan) actor owner)));
      }

  knows-there : (k : ℕ) (link : Link) → (k ≡ l → ⊥) → KnowsLink owners (length links) link k pass → KnowsLink owners (length links) link k pass'
  knows-there k link other knew =
      let known : known_of k pass.view ≡ known_of k pass'.view = sym (steps.acted.others k other) in
      let own : own_at k pass.own ≡ own_at k pass'.own = sym (ap (own_at k) steps.own ∙ none-at l k pass.own e steps.acted.link_is other) in
      record {
        legal = subst (λ ms. IsLegal link (history_in (journal_of link ms))) known knew.legal;
        order = subst (AreInOrder owners (length links)) known knew.order;
        owns = subst (λ (x : ActorNo × List Mark × List OwnEntry). entries_of (actor_number x.0) (journal_of link x.1) ≡ map (own_entry x.0) x.2) (λ i. (sym actor i, known i, own i)) knew.owns;
        holds = λ chan owner. subst (λ (x : List OwnEntry × List Mark). IsHeld (hold_of (channel_number chan) x.0) (held_after link.shape chan (history_in (journal_of link x.1)))) (λ i. (own i, known i)) (knew.holds chan (subst (λ (x : ActorNo). IsOwner owners x chan) actor owner));
      }

  pub may-after : MayStep table owners links pass'
  may-after = record {
    has_seat = steps.has_seat;
    table_is = from ∙ may.table_is;
    unspent = steps.unspent;
    acts = steps.acted.actors ∙ may.acts ∙ ap (λ (x : ActorNo). actor_number x ∷ []) (sym actor);
    exact = subst (λ (x : ActorNo × List OwnEntry). IsExact x.0 pass'.view x.1) (λ i. (sym actor i, sym steps.own i)) exact;
    linked = subst (Each (λ (o : OwnEntry). link_number o.link < length links)) (sym steps.own) linked;
    rises = subst (λ (x : ActorNo × List OwnEntry). StampsRise (map (own_mark x.0) x.1)) (λ i. (sym actor i, sym steps.own i)) rises;
    most = subst (Each (λ (o : OwnEntry). o.stamp ≤ pass'.view.seen)) (sym steps.own) most;
    knows = λ k link is. ⊎_elim
        (λ (same : k ≡ l). subst (λ j. KnowsLink owners (length links) link j pass') (sym same) (knows-here link (subst (λ j. IsLink links j link) same is)))
        (λ other. knows-there k link other (may.knows k link is))
        (cases_eq k l);
  }

  knew : (k : ℕ) → IsPrefix (known_of k pass.view) (known_of k pass'.view)
  knew k = ⊎_elim
      (λ (same : k ≡ l). subst (λ j. IsPrefix (known_of j pass.view) (known_of j pass'.view)) (sym same)
      (subst (IsPrefix (known_of l pass.view)) (sym steps.acted.knows) (begins-longer (known_of l pass.view) (marks_in steps.entries) (own_mark a e ∷ []) steps.acted.begins)))
      (λ other. subst (IsPrefix (known_of k pass.view)) (sym (steps.acted.others k other)) (begins-itself (known_of k pass.view)))
      (cases_eq k l)

  pub goes-on : PassGoesOn table owners links pass pass'
  goes-on = record { may_step = may-after; among = steps.acted.among; knew = knew }

-- as many stamps are drawn as there are entries
pub drawn-own : (table : TableId) (owners : List ActorNo) (links : List Link) (pass : Token) → MayStep table owners links pass → length pass.view.drawn ≡ length pass.own
drawn-own table owners links pass may = ap length may.exact.drawn ∙ length-map pass.own _

-- a stamp that is seen changes nothing else
pub seen-goes : (table : TableId) (owners : List ActorNo) (links : List Link) (top : ℕ) (pass pass' : Token) → pass.view.seen ≤ top → pass' ≡ record pass { view = saw top pass.view } → MayStep table owners links pass → PassGoesOn table owners links pass pass'
seen-goes table owners links top pass pass' least is may =
    subst (PassGoesOn table owners links pass) (sym is)
    (record {
      may_step = record {
        has_seat = may.has_seat;
        table_is = may.table_is;
        unspent = may.unspent;
        acts = may.acts;
        exact = record { drawn = may.exact.drawn; known = may.exact.known; placed = Each-if (IsAtPlace pass.actor pass.view) (IsAtPlace pass.actor (saw top pass.view)) pass.own (λ e is. record { least = is.least; here = is.here }) may.exact.placed };
        linked = may.linked;
        rises = may.rises;
        most = Each-if (λ (o : OwnEntry). o.stamp ≤ pass.view.seen) (λ (o : OwnEntry). o.stamp ≤ top) pass.own (λ o low. omega (arith, low, least)) may.most;
        knows = λ l link is. (let knew = may.knows l link is in record { legal = knew.legal; order = knew.order; owns = knew.owns; holds = knew.holds });
      };
      among = refl;
      knew = λ l. begins-itself (known_of l pass.view);
    })

-- a step adds its ask
pub adds-one : (links : List Link) (link : LinkNo) (ask : Ask) (pass pass' : Token) (reply : Reply) → Steps links (link_number link) ask pass pass' reply → Adds pass pass' (record { link = link; ask = ask; reply = reply } ∷ [])
adds-one links link ask pass pass' reply steps = record {
  entries = steps.entry ∷ [];
  own = steps.own;
  are = λ i. record { link = same-link steps.entry.link link steps.acted.link_is i; ask = steps.acted.ask_is i; reply = steps.reply_is i } ∷ [];
}

-- a step draws one stamp
pub drew-one : (links : List Link) (l : ℕ) (ask : Ask) (pass pass' : Token) (reply : Reply) → Steps links l ask pass pass' reply → length pass'.view.drawn ≡ length pass.view.drawn + 1
drew-one links l ask pass pass' reply steps = ap length steps.acted.drawn ∙ length-append pass.view.drawn _
