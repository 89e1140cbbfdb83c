-- A step of the plane over a network: its ask meets the conditions, its reply is expected, and with it the arrives and ticks of the
-- pass are again the plane's.
use Rattle.std.proofs.Common.{◌≡◌, ℕ, ◌<◌, ◌≤◌, true, List, [], ◌∷◌, ◌++◌, length, map, Some, refl, sym, ap, ◌∙◌, subst}
use Rattle.shared_network.proofs.Words.{map-append, reverse-append, filter-append, reverse, TableId, actor_number, link_number, ActorNo, LinkNo, IsLegal, Each, Link, SplitFits, Ask, Reply, next_due, plane_ask, plane_after, plane_of, plane_expects, IsDueLater, done_in, history_in, own_entry, own_mark, Token, Steps, OwnEntry, known_of}
use Rattle.tick_plane.specs.PlaneAccount.{PlaneAccount}
use Rattle.shared_network.specs.Calls.{Follows, reply_in}
use Rattle.shared_network.specs.Planes.{is_round, rounds_in, next_round, IsPlanes, MakesRound}
use Rattle.shared_network.specs.Ready.{MayStep}
use Rattle.shared_network.proofs.CallSteps.SetupUnderWay.{follows-more}
use Rattle.net_units.proofs.KnownByNumber.{same-link}
use Rattle.shared_network.proofs.PlaneSteps.OwnRounds.{rounds-fly}
use Rattle.shared_network.proofs.PlaneSteps.RoundReplies.{MayFly, MayAsk, plane-may, plane-expected, round-later}
use Rattle.shared_network.proofs.PlaneSteps.RoundTicks.{tick-clock}
use Rattle.shared_network.proofs.CallSteps.PassAfterStep.{adds-one}
use Rattle.link_steps.proofs.ListParts.{Each-at, Each-reverse}
use Rattle.tick_plane.proofs.PlaneFlights.{plane-flights}

module _ (table : TableId) (owners : List ActorNo) (links : List Link) (pass : Token) (plane : PlaneAccount) (splits : Each SplitFits links) (may : MayStep table owners links pass) (links_are : plane.links ≡ length links) (within : plane.at.ticked < plane.links) (few : plane.links ≤ 32) (is : IsPlanes (length links) plane pass.own) (to : LinkNo) (ask : Ask) (asks : plane_ask plane.rounds plane.at ≡ Some (to, ask)) where
  flies : Each (MayFly (length links)) plane.at.flights
  flies = subst (λ p. Each (MayFly (length links)) p.flights) (sym is.stands)
      (plane-flights (MayFly (length links)) (length links) (reverse (map reply_in (rounds_in pass.own))) (Each-reverse _ (map reply_in (rounds_in pass.own)) (rounds-fly table owners links pass splits may)))

  pub may-ask : MayAsk (length links) to ask
  may-ask = plane-may (length links) plane.rounds plane.at to ask (subst (λ n. plane.at.ticked < n) links_are within) flies asks

  module _ (pass' : Token) (reply : Reply) (steps : Steps links (link_number to) ask pass pass' reply) where
    abbrev e : OwnEntry
    e = steps.entry

    pub expected : plane_expects (next_due plane.at) reply ≡ true
    expected = plane-expected plane.rounds plane.at steps.link _ to ask reply asks (sym steps.reply_is ∙ steps.acted.reply)

    -- what begins with the reply is due after the plane's round
    pub later : IsDueLater plane.at.round reply
    unfolding IsLegal
    later =
        let turned = reverse-append (map done_in steps.entries) (done_in (own_entry pass.actor e) ∷ []) in
        let legal : IsLegal steps.link (history_in steps.entries) = (subst (IsLegal steps.link) (ap reverse (map-append done_in steps.entries (own_entry pass.actor e ∷ [])) ∙ turned) steps.acted.legal).0 in
        round-later plane.at.round steps.link (history_in steps.entries) ask reply may-ask.round (Each-at SplitFits links (link_number to) steps.link splits steps.is_link) legal
        (tick-clock (length links) plane.rounds (actor_number pass.actor) plane.at pass.own (λ (o : OwnEntry). is_round o.ask) (known_of (link_number to) pass.view) (own_mark pass.actor) steps.entries to ask (subst (λ n. n ≤ 32) links_are few) (subst (λ n. plane.at.ticked < n) links_are within) is.follows is.stands asks (λ o. refl) (may.exact.known (link_number to)) steps.acted.begins)
        (sym steps.reply_is ∙ steps.acted.reply)

    rounds-more : rounds_in pass'.own ≡ rounds_in pass.own ++ e ∷ []
    rounds-more =
        let round : is_round e.ask ≡ true = ap is_round steps.acted.ask_is ∙ may-ask.round in
        ap rounds_in steps.own ∙ filter-append (λ (o : OwnEntry). is_round o.ask) pass.own (e ∷ []) ∙ rw round refl

    asks-entry : next_round (length links) plane.rounds (map reply_in (rounds_in pass.own)) ≡ Some (e.link, e.ask)
    asks-entry = ap (plane_ask plane.rounds) (sym is.stands) ∙ asks ∙ (λ i. Some (same-link to e.link (sym steps.acted.link_is) i, sym steps.acted.ask_is i))

    module _ (plane' : PlaneAccount) (taken : plane'.at ≡ plane_after plane.links reply plane.at) (rounds : plane'.rounds ≡ plane.rounds) where
      stands' : plane'.at ≡ plane_of (length links) (reverse (map reply_in (rounds_in pass.own ++ e ∷ [])))
      unfolding plane_of
      stands' =
          let turned : reverse (map reply_in (rounds_in pass.own ++ e ∷ [])) ≡ reply ∷ reverse (map reply_in (rounds_in pass.own)) =
          ap reverse (map-append reply_in (rounds_in pass.own) (e ∷ [])) ∙ reverse-append (map reply_in (rounds_in pass.own)) (e.reply ∷ []) ∙ ap (λ r. r ∷ reverse (map reply_in (rounds_in pass.own))) steps.reply_is in
          taken ∙ (λ i. plane_after (links_are i) reply (is.stands i)) ∙ sym (ap (plane_of (length links)) turned)

      pub planes-next : IsPlanes (length links) plane' pass'.own
      planes-next = record {
        follows = subst (λ (x : ℕ × List OwnEntry). Follows (next_round (length links) x.0) [] x.1) (λ i. (sym rounds i, sym rounds-more i)) (follows-more (next_round (length links) plane.rounds) [] (rounds_in pass.own) e is.follows asks-entry);
        stands = stands' ∙ ap (λ es. plane_of (length links) (reverse (map reply_in es))) (sym rounds-more);
      }

      pub makes-round : plane'.links ≡ plane.links → MakesRound plane plane' pass pass' reply
      makes-round same = record { link = to; ask = ask; asked = asks; adds = adds-one links to ask pass pass' reply steps; taken = taken; links_are = same; rounds_are = rounds }
