-- Each own entry of a pass stands in the journal that the pass knows of its link, so its reply is the legal one after a history of
-- that link. So the packets that the replies to a plane's ticks set on their way fly to links of the network.
use Rattle.std.proofs.Common.{◌≡◌, ℕ, zero, suc, ◌*◌, ◌^◌, ◌<◌, ◌≤◌, true, eqb, List, [], ◌∷◌, length, map, refl, sym, ap, subst, inl, inr, arith}
use Rattle.shared_network.proofs.Words.{eq-eqb, length-map, length-reverse, reverse-append, reverse, TableId, link_number, ActorNo, IsLegal, Each, reply_to, clock_of, Link, SplitFits, Reply, Has, known_of, Mark, flight_in, mark_in, done_in, marks_in, history_in, journal_of, own_at, own_entry, NextBelow, Token, IsLink, Entry, OwnEntry}
use Rattle.link_steps.specs.declared.replies.Entry.{Entry as Done}
use Rattle.link_steps.proofs.FoundElements.{Each-passes}
use Rattle.link_steps.proofs.SearchAndFilter.{Each-both, Each-filter, Each-if, Each-map, Each-mapped}
use Rattle.link_steps.proofs.ListParts.{Each-at}
use Rattle.step_stamp.proofs.ListMembers.{each-has, has-left, has-right, has-each, has-kept, has-passed}
use Rattle.shared_network.specs.Calls.{reply_in}
use Rattle.shared_network.specs.Planes.{is_round, rounds_in}
use Rattle.shared_network.specs.Ready.{KnowsLink, MayStep}
use Rattle.shared_network.proofs.ToldAtClosing.{map-has, told-marks}
use Rattle.shared_network.proofs.PlaneSteps.RoundReplies.{AsksBelow, MayFly, round-flies}
use Rattle.link_steps.proofs.ListParts.{Each-reverse}
use Rattle.link_steps.proofs.ClockAdvances.{clock_of-most}
use Rattle.step_stamp.proofs.RisingStamps.{rises-length}

-- ---- lists turned round

has-reverse : {X : Type 0} (x : X) (xs : List X) → Has x xs → Has x (reverse xs)
has-reverse x [] has = absurd has
has-reverse x (y ∷ xs) (inl same) = subst (Has x) (sym (reverse-append (y ∷ []) xs)) (has-right x (reverse xs) (y ∷ []) (inl same))
has-reverse x (y ∷ xs) (inr has) = subst (Has x) (sym (reverse-append (y ∷ []) xs)) (has-left x (reverse xs) (y ∷ []) (has-reverse x xs has))

-- ---- a known journal

link-at : (links : List Link) (l : ℕ) → l < length links → (link : Link) × IsLink links l link
link-at [] l within = absurd (omega (arith, within))
link-at (link ∷ links) zero within = (link, refl)
link-at (link ∷ links) (suc l) within = link-at links l (omega (arith, within))

-- an entry of a legal history, and the history before it
record Answers (link : Link) (n : ℕ) (d : Done) : Type 0 where
  past : List Done
  legal : IsLegal link past
  below : Each (AsksBelow n) past
  early : clock_of past < 2 ^ 61
  answered : d.reply ≡ reply_to link past d.ask

answers-in : (link : Link) (n : ℕ) (d : Done) (h : List Done) → IsLegal link h → Each (AsksBelow n) h → length h ≤ 65 * 2 ^ 40 → Has d h → Answers link n d
unfolding IsLegal
answers-in link n d [] legal below few has = absurd has
answers-in link n d (e ∷ past) legal below few (inl same) = record {
  past = past;
  legal = legal.0;
  below = below.1;
  early = (let most = clock_of-most past in omega (arith, most, few));
  answered = subst (λ (x : Done). x.reply ≡ reply_to link past x.ask) same legal.1.answered;
}
answers-in link n d (e ∷ past) legal below few (inr has) = answers-in link n d past legal.0 below.1 (omega (arith, few)) has

module _ (table : TableId) (owners : List ActorNo) (links : List Link) (pass : Token) (splits : Each SplitFits links) (may : MayStep table owners links pass) where
  module _ (l : ℕ) (link : Link) (is : IsLink links l link) where
    abbrev journal : List Entry
    journal = journal_of link (known_of l pass.view)

    knew : KnowsLink owners (length links) link l pass
    knew = may.knows l link is

    marks-are : marks_in journal ≡ known_of l pass.view
    marks-are = told-marks link [] (known_of l pass.view)

    asks-below : Each (AsksBelow (length links)) (history_in journal)
    asks-below =
        let marked : Each (λ (m : Mark). NextBelow (length links) m.ask) (map mark_in journal) = subst (Each (λ (m : Mark). NextBelow (length links) m.ask)) (sym marks-are) knew.order.next in
        Each-reverse (AsksBelow (length links)) (map done_in journal) (Each-map (AsksBelow (length links)) done_in journal (Each-mapped (λ (m : Mark). NextBelow (length links) m.ask) mark_in journal marked))

    few-entries : length (history_in journal) ≤ 65 * 2 ^ 40
    few-entries =
        let turned = length-reverse (map done_in journal) in
        let mapped = length-map journal done_in in
        let marked = length-map journal mark_in in
        let same = ap length marks-are in
        let few = rises-length 0 (65 * 2 ^ 40) (known_of l pass.view) knew.order.rises knew.order.most (omega arith) in
        omega (arith, turned, mapped, marked, same, few)

    own-answers : (e : OwnEntry) → Has e pass.own → link_number e.link ≡ l → Answers link (length links) (record { ask = e.ask; reply = e.reply })
    own-answers e has at =
        let here : Has e (own_at l pass.own) = has-passed (λ (o : OwnEntry). eqb (link_number o.link) l) e pass.own (eq-eqb (link_number e.link) l at) has in
        let among : Has (own_entry pass.actor e) journal = has-kept _ (own_entry pass.actor e) journal (subst (Has (own_entry pass.actor e)) (sym knew.owns) (map-has (own_entry pass.actor) (own_at l pass.own) e here)) in
        answers-in link (length links) (record { ask = e.ask; reply = e.reply }) (history_in journal) knew.legal asks-below few-entries (has-reverse _ (map done_in journal) (map-has done_in journal (own_entry pass.actor e) among))

  own-flies : (e : OwnEntry) → Has e pass.own → is_round e.ask ≡ true → link_number e.link < length links → Each (MayFly (length links)) (flight_in e.reply)
  own-flies e has round within =
      let found = link-at links (link_number e.link) within in
      let told = own-answers (link_number e.link) found.0 found.1 e has refl in
      round-flies (length links) found.0 told.past e.ask e.reply round (Each-at SplitFits links (link_number e.link) found.0 splits found.1) told.legal told.below told.early told.answered

  -- the flights that the replies to the plane's asks begin
  pub rounds-fly : Each (λ (reply : Reply). Each (MayFly (length links)) (flight_in reply)) (map reply_in (rounds_in pass.own))
  rounds-fly =
      let each : Each (λ (e : OwnEntry). is_round e.ask ≡ true → Each (MayFly (length links)) (flight_in e.reply)) pass.own = has-each _ pass.own (λ e has round. own-flies e has round (each-has (λ (o : OwnEntry). link_number o.link < length links) e pass.own may.linked has)) in
      Each-map _ reply_in (rounds_in pass.own)
      (Each-if _ _ (rounds_in pass.own) (λ e both. both.1 both.0)
      (Each-both (λ (e : OwnEntry). is_round e.ask ≡ true) (λ (e : OwnEntry). is_round e.ask ≡ true → Each (MayFly (length links)) (flight_in e.reply)) (rounds_in pass.own) (Each-passes _ pass.own) (Each-filter _ _ pass.own each)))
