-- What is told after closing. Each mark of a journal was drawn by a pass, and each own entry has its place in what its pass knew,
-- which begins the journal. Stamps rise and stand once, so entries and own entries go together one by one.
use Rattle.std.proofs.Common.{◌≡◌, ◌≢◌, ℕ, zero, suc, eqb, ◌-◌, ◌<◌, ◌≤◌, List, [], ◌∷◌, length, map, Some, None, refl, sym, ap, ◌∙◌, subst, inl, inr, ⊎_elim, arith}
use Rattle.shared_network.proofs.Words.{eq-eqb, same_Some, slice_get_within, slice_get, TableId, actor_number, link_number, ActorNo, IsLegal, Each, reply_to, Link, Has, RisesFrom, StampsRise, NoTwice, drawn_for, known_of, Mark, View, mark_in, done_in, history_entry_of, marks_in, history_in, told_after, journal_of, own_mark, own_drawn, own_entry, own_at, IsAtPlace, Token, Entry, Journal, OwnEntry}
use mathlib.Core.List.{IsPrefix}
use Rattle.link_steps.specs.declared.replies.Entry.{Entry as Done}
use Rattle.link_steps.proofs.LegalJournals.{journals-are-histories}
use Rattle.link_steps.proofs.SearchAndFilter.{Each-if}
use Rattle.step_stamp.specs.declared.marks.Drawn.{Drawn}
use Rattle.step_stamp.proofs.ListMembers.{each-has, has-each, has-split, has-kept, has-passed, get-has, has-get, begins-then}
use Rattle.link_ledger.proofs.JournalGrowth.{journal-told, told-append, past_after}
use Rattle.link_ledger.proofs.OwnStaysExact.{get-left}
use Rattle.shared_network.specs.Closing.{number_of, StandsIn, IsOfOne, IsClosed}
use Rattle.shared_network.specs.Gathering.{token_actor, all_drawn, IsPartOf, AreAll, AreGathered, IsSettled, AreSettled}
use Rattle.shared_network.proofs.Numbering.ActorOrder.{actors-differ, one-place}
use Rattle.shared_network.specs.Ready.{MayStep}
use Rattle.shared_network.proofs.Numbering.LinkNumbers.{numbered-at, numbered-length}
use Rattle.link_steps.proofs.ListParts.{mapped-at, Each-at, comes-from, stands-at}

-- ---- lists

-- an element of an image
has-map : {X Y : Type 0} (f : X → Y) (xs : List X) (y : Y) → Has y (map f xs) → (x : X) × Has x xs × (f x ≡ y)
has-map f [] y has = absurd has
has-map f (x ∷ xs) y (inl is) = (x, inl refl, is)
has-map f (x ∷ xs) y (inr has) = (let rest = has-map f xs y has in (rest.0, inr rest.1, rest.2))

pub map-has : {X Y : Type 0} (f : X → Y) (xs : List X) (x : X) → Has x xs → Has (f x) (map f xs)
map-has f [] x has = absurd has
map-has f (y ∷ xs) x (inl is) = inl (ap f is)
map-has f (y ∷ xs) x (inr has) = inr (map-has f xs x has)

-- ---- stamps

-- rising stamps tell the place of a mark
rises-at : (low : ℕ) (ms : List Mark) (k : ℕ) (m : Mark) → RisesFrom low ms → slice_get ms k ≡ Some m → low < m.stamp
rises-at low [] k m rises found = absurd (let clash : None ≡ Some m = found in cc)
rises-at low (n ∷ ms) zero m rises found = subst (λ (x : Mark). low < x.stamp) (same_Some n m found) rises.0
rises-at low (n ∷ ms) (suc k) m rises found = (let above = rises-at n.stamp ms k m rises.1 found in let first = rises.0 in omega (arith, above, first))

place-told : (low : ℕ) (ms : List Mark) (j k : ℕ) (m n : Mark) → RisesFrom low ms → slice_get ms j ≡ Some m → slice_get ms k ≡ Some n → m.stamp ≡ n.stamp → j ≡ k
place-told low [] j k m n rises one other same = absurd (let clash : None ≡ Some m = one in cc)
place-told low (x ∷ ms) zero zero m n rises one other same = refl
place-told low (x ∷ ms) zero (suc k) m n rises one other same = absurd (let is = ap (λ (y : Mark). y.stamp) (same_Some x m one) in let above = rises-at x.stamp ms k n rises.1 other in omega (arith, is, above, same))
place-told low (x ∷ ms) (suc j) zero m n rises one other same = absurd (let is = ap (λ (y : Mark). y.stamp) (same_Some x n other) in let above = rises-at x.stamp ms j m rises.1 one in omega (arith, is, above, same))
place-told low (x ∷ ms) (suc j) (suc k) m n rises one other same = ap (λ i. suc i) (place-told x.stamp ms j k m n rises.1 one other same)

-- own entries of one stamp are the same
same-own : (actor : ActorNo) (own : List OwnEntry) (e o : OwnEntry) → StampsRise (map (own_mark actor) own) → Has e own → Has o own → e.stamp ≡ o.stamp → e ≡ o
same-own actor own e o rises one other same =
    let at_e = has-get own e one in
    let at_o = has-get own o other in
    let place : at_e.0 ≡ at_o.0 = place-told 0 (map (own_mark actor) own) at_e.0 at_o.0 (own_mark actor e) (own_mark actor o) rises (mapped-at (own_mark actor) own at_e.0 e at_e.1) (mapped-at (own_mark actor) own at_o.0 o at_o.1) same in
    same_Some e o (sym at_e.1 ∙ ap (slice_get own) place ∙ at_o.1)

-- no stamp stands twice
drawn-once : (ds : List Drawn) (d e : Drawn) → NoTwice ds → Has d ds → Has e ds → d.mark.stamp ≡ e.mark.stamp → d ≡ e
drawn-once [] d e once one other same = absurd one
drawn-once (x ∷ ds) d e once (inl is) (inl that) same = sym is ∙ that
drawn-once (x ∷ ds) d e once (inl is) (inr has) same = absurd (each-has (λ (y : Drawn). y.mark.stamp ≡ x.mark.stamp → ⊥) e ds once.0 has (sym same ∙ ap (λ (y : Drawn). y.mark.stamp) (sym is)))
drawn-once (x ∷ ds) d e once (inr has) (inl that) same = absurd (each-has (λ (y : Drawn). y.mark.stamp ≡ x.mark.stamp → ⊥) d ds once.0 has (same ∙ ap (λ (y : Drawn). y.mark.stamp) (sym that)))
drawn-once (x ∷ ds) d e once (inr has) (inr had) same = drawn-once ds d e once.1 has had same

-- what was drawn was drawn by a pass
record DrewIt (passes : List Token) (d : Drawn) : Type 0 where
  index : ℕ
  pass : Token
  found : slice_get passes index ≡ Some pass
  has : Has d pass.view.drawn

drew-it : (passes : List Token) (d : Drawn) → Has d (all_drawn passes) → DrewIt passes d
unfolding all_drawn
drew-it [] d has = absurd has
drew-it (p ∷ passes) d has = ⊎_elim (λ mine. record { index = 0; pass = p; found = refl; has = mine }) (λ rest. (let it = drew-it passes d rest in record { index = suc it.index; pass = it.pass; found = it.found; has = it.has })) (has-split d p.view.drawn (all_drawn passes) has)

-- ---- the journal and what a pass knew of it

-- what is known begins the journal
journal-begins : (link : Link) (known : List Mark) (entries : List Entry) → IsLegal link (history_in entries) → IsPrefix known (marks_in entries) → IsPrefix (journal_of link known) entries
journal-begins link known entries legal begins = (told_after link (past_after link [] known) begins.0, sym (told-append link [] known begins.0) ∙ ap (journal_of link) begins.1 ∙ journal-told link entries legal)

-- a journal that marks tell has these marks
pub told-marks : (link : Link) (past : List Done) (ms : List Mark) → marks_in (told_after link past ms) ≡ ms
unfolding told_after
told-marks link past [] = refl
told-marks link past (m ∷ ms) = ap (λ xs. m ∷ xs) (told-marks link (history_entry_of m (reply_to link past m.ask) ∷ past) ms)

module _ (table : TableId) (owners : List ActorNo) (links : List Link) (passes : List Token) (v : View) (journals : List Journal) (all : AreAll table owners links passes) (so : AreGathered (length passes) passes v) (settled : AreSettled links v journals) where
  settled-at : (l : ℕ) (journal : Journal) → slice_get journals l ≡ Some journal → IsSettled links v journal × (number_of journal ≡ l) × (l < length links)
  settled-at l journal found =
      let within = slice_get_within journals l journal found in
      let long = numbered-length number_of journals (length links) settled.numbers in
      let below : l < length links = omega (arith, within, long) in
      (Each-at (IsSettled links v) journals l journal settled.settled found, numbered-at number_of journals (length links) l journal settled.numbers below found, below)

  -- the own entry stands in its journal
  stands-in : (i : ℕ) (pass : Token) (e : OwnEntry) → slice_get passes i ≡ Some pass → Has e pass.own → StandsIn journals pass.actor e
  stands-in i pass e found has =
      let may = Each-at (MayStep table owners links) passes i pass all.may_step found in
      let l : ℕ = link_number e.link in
      let below : l < length links = each-has (λ (o : OwnEntry). link_number o.link < length links) e pass.own may.linked has in
      let at_link = stands-at links l below in
      let link : Link = at_link.0 in
      let long = numbered-length number_of journals (length links) settled.numbers in
      let at_journal = stands-at journals l (omega (arith, below, long)) in
      let journal : Journal = at_journal.0 in
      let entries : List Entry = journal.entries in
      let there = settled-at l journal at_journal.1 in
      let knew = may.knows l link at_link.1 in
      let placed = each-has (IsAtPlace pass.actor pass.view) e pass.own may.exact.placed has in
      let part = Each-at (IsPartOf v) passes i pass so.parts found in
      let legal : IsLegal link (history_in entries) = (journals-are-histories link (map done_in entries)).0 (there.0.legal link (ap (λ k. slice_get links k) there.1 ∙ at_link.1)) in
      let begins : IsPrefix (known_of l pass.view) (marks_in entries) = begins-then (known_of l pass.view) (known_of l v) (marks_in entries) (part l) (subst (λ k. IsPrefix (known_of k v) (marks_in entries)) there.1 there.0.begins) in
      let told = journal-begins link (known_of l pass.view) entries legal begins in
      let at_mark = comes-from mark_in (journal_of link (known_of l pass.view)) (e.place - 1) (own_mark pass.actor e) (ap (λ ms. slice_get ms (e.place - 1)) (told-marks link [] (known_of l pass.view)) ∙ placed.here) in
      let x : Entry = at_mark.from in
      let at_entry : slice_get entries (e.place - 1) ≡ Some x = ap (λ es. slice_get es (e.place - 1)) (sym told.1) ∙ get-left (journal_of link (known_of l pass.view)) told.0 (e.place - 1) x at_mark.found in
      let mine : Has x (map (own_entry pass.actor) (own_at l pass.own)) = subst (Has x) knew.owns (has-passed (λ (y : Entry). eqb (actor_number y.actor) (actor_number pass.actor)) x (journal_of link (known_of l pass.view)) (eq-eqb (actor_number x.actor) (actor_number pass.actor) (ap (λ (m : Mark). actor_number m.actor) at_mark.is)) (get-has (journal_of link (known_of l pass.view)) (e.place - 1) x at_mark.found)) in
      let own = has-map (own_entry pass.actor) (own_at l pass.own) x mine in
      let same : own.0 ≡ e = same-own pass.actor pass.own own.0 e may.rises (has-kept (λ (o : OwnEntry). eqb (link_number o.link) l) own.0 pass.own own.1) has (ap (λ (y : Entry). y.stamp) own.2 ∙ ap (λ (m : Mark). m.stamp) at_mark.is) in
      record { journal = journal; found = at_journal.1; least = placed.least; here = at_entry ∙ ap (λ z. Some z) (sym own.2 ∙ ap (own_entry pass.actor) same) }

  -- the entry at a place of a journal was asked by a pass
  of-one : (l k : ℕ) (journal : Journal) (x : Entry) → slice_get journals l ≡ Some journal → slice_get journal.entries k ≡ Some x → IsOfOne passes l k x
  of-one l k journal x at_journal at_entry =
      let there = settled-at l journal at_journal in
      let entries : List Entry = journal.entries in
      let at_mark = mapped-at mark_in entries k x at_entry in
      let drawn : Has (drawn_for l (mark_in x)) v.drawn = subst (λ n. Has (drawn_for n (mark_in x)) v.drawn) there.1 (there.0.drawn (mark_in x) (get-has (marks_in entries) k (mark_in x) at_mark)) in
      let it = drew-it passes (drawn_for l (mark_in x)) (subst (Has (drawn_for l (mark_in x))) so.drawn drawn) in
      let may = Each-at (MayStep table owners links) passes it.index it.pass all.may_step it.found in
      let own = has-map (own_drawn it.pass.actor) it.pass.own (drawn_for l (mark_in x)) (subst (Has (drawn_for l (mark_in x))) may.exact.drawn it.has) in
      let e : OwnEntry = own.0 in
      let link : link_number e.link ≡ l = ap (λ (d : Drawn). d.link) own.2 in
      let mark : own_mark it.pass.actor e ≡ mark_in x = ap (λ (d : Drawn). d.mark) own.2 in
      let in_place : (j : ℕ) (pass : Token) (o : OwnEntry) → slice_get passes j ≡ Some pass → Has o pass.own → link_number o.link ≡ l → (1 ≤ o.place) × (slice_get entries (o.place - 1) ≡ Some (own_entry pass.actor o)) = λ j pass o found has on.
      (let stands = stands-in j pass o found has in
      let journal_is : stands.journal ≡ journal = same_Some stands.journal journal (sym stands.found ∙ ap (slice_get journals) on ∙ at_journal) in
      (stands.least, ap (λ (y : Journal). slice_get y.entries (o.place - 1)) (sym journal_is) ∙ stands.here)) in
      let stands = in_place it.index it.pass e it.found own.1 link in
      let least = stands.0 in
      let place : e.place - 1 ≡ k = place-told 0 (marks_in entries) (e.place - 1) k (own_mark it.pass.actor e) (mark_in x) there.0.rises (mapped-at mark_in entries (e.place - 1) (own_entry it.pass.actor e) stands.1) at_mark (ap (λ (m : Mark). m.stamp) mark) in
      record {
        index = it.index;
        pass = it.pass;
        found = it.found;
        entry = e;
        own = own.1;
        link = link;
        place = omega (arith, place, least);
        same = same_Some (own_entry it.pass.actor e) x (sym stands.1 ∙ ap (slice_get entries) place ∙ at_entry);
        only = λ j other o found has on at.
            (let other_stands = in_place j other o found has on in
            let there_too : o.place - 1 ≡ k = omega (arith, at) in
            let same_entry : own_entry other.actor o ≡ own_entry it.pass.actor e = same_Some (own_entry other.actor o) (own_entry it.pass.actor e) (sym other_stands.1 ∙ ap (slice_get entries) (there_too ∙ sym place) ∙ stands.1) in
            one-place token_actor passes j it.index other it.pass (actors-differ (length passes) (map token_actor passes) all.actors) found it.found (ap (λ (y : Entry). actor_number y.actor) same_entry));
      }

  -- no stamp stands in two journals
  stamps-apart : (k l : ℕ) (one other : Journal) (x y : Entry) → k ≢ l → slice_get journals k ≡ Some one → slice_get journals l ≡ Some other → Has x one.entries → Has y other.entries → x.stamp ≢ y.stamp
  stamps-apart k l one other x y apart at_one at_other has_one has_other same =
      let there = settled-at k one at_one in
      let that = settled-at l other at_other in
      let drawn_one : Has (drawn_for k (mark_in x)) v.drawn = subst (λ n. Has (drawn_for n (mark_in x)) v.drawn) there.1 (there.0.drawn (mark_in x) (map-has mark_in one.entries x has_one)) in
      let drawn_other : Has (drawn_for l (mark_in y)) v.drawn = subst (λ n. Has (drawn_for n (mark_in y)) v.drawn) that.1 (that.0.drawn (mark_in y) (map-has mark_in other.entries y has_other)) in
      apart (ap (λ (d : Drawn). d.link) (drawn-once v.drawn (drawn_for k (mark_in x)) (drawn_for l (mark_in y)) so.once drawn_one drawn_other same))

  pub closed-told : IsClosed links passes journals
  closed-told = record {
    numbers = settled.numbers;
    legal = λ l link journal is found. (let there = settled-at l journal found in there.0.legal link (ap (λ k. slice_get links k) there.1 ∙ is));
    rises = Each-if (IsSettled links v) (λ (journal : Journal). StampsRise (marks_in journal.entries)) journals (λ journal is. is.rises) settled.settled;
    apart = stamps-apart;
    stands = has-each (λ (pass : Token). Each (StandsIn journals pass.actor) pass.own) passes (λ pass has. (let at = has-get passes pass has in has-each (StandsIn journals pass.actor) pass.own (λ e own. stands-in at.0 pass e at.1 own)));
    of_one = of-one;
    in_order = Each-if (MayStep table owners links) (λ (pass : Token). StampsRise (map (own_mark pass.actor) pass.own)) passes (λ pass may. may.rises) all.may_step;
  }
