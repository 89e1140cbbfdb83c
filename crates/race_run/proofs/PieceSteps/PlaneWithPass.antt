-- The plane with its pass: at the start, over a step, and once all rounds are made, when the pass has made all.
use Rattle.std.proofs.Common.{◌≡◌, ℕ, suc, ◌+◌, ◌-◌, ◌^◌, ◌<◌, ◌≤◌, ◌⊎◌, true, Option, Some, None, List, [], ◌∷◌, ◌++◌, length, map, reverse, refl, sym, ap, ◌∙◌, subst, inl, inr, arith}
use Rattle.std.proofs.lemmas.Bool.{cases_Bool, eq-eqb, le-ltb, lt-ltb}
use Rattle.std.proofs.lemmas.List.{append-nil, append_assoc, map-append}
use Rattle.std.proofs.lemmas.List.Elements.{filter-append}
use Rattle.std.proofs.lemmas.Nat.{mul-le}
use Rattle.std.specs.Prelude.{nat_eq}
use Rattle.atomic_table.specs.Seated.{TableId}
use Rattle.net_units.specs.Numbers.{actor_number}
use Rattle.net_units.specs.declared.numbers.ActorNo.{ActorNo}
use Rattle.net_units.specs.declared.numbers.LinkNo.{LinkNo}
use Rattle.link_steps.specs.Split.{Link}
use Rattle.link_steps.specs.declared.asks.Ask.{Ask}
use Rattle.link_steps.specs.declared.replies.Reply.{Reply}
use Rattle.tick_plane.specs.PlaneAccount.{PlaneAccount}
use Rattle.tick_plane.specs.Planes.{Plane, ask_due, next_due, plane_ask, plane_of, plane_start, plane_with}
use Rattle.tick_plane.specs.declared.flight.Flight.{Flight}
use Rattle.link_ledger.specs.Tokens.{Token, stamps_drawn}
use Rattle.shared_network.proofs.Numbering.NumbersFromZero.{drawn-count}
use Rattle.link_ledger.specs.declared.entries.OwnEntry.{OwnEntry}
use Rattle.shared_network.specs.Added.{Asked, asked_in}
use Rattle.shared_network.specs.Calls.{Follows, reply_in}
use Rattle.shared_network.specs.Planes.{IsPlanes, MakesRound, is_round, next_round, rounds_in}
use Rattle.shared_network.specs.Ready.{MayStep}
use Rattle.call_script.specs.Fits.{NetworkFits}
use Rattle.call_script.specs.Tasks.{Network}
use Rattle.run_engine.specs.runs.Parts.{IsAsked, next_after}
use Rattle.run_engine.specs.runs.Runs.{plane_no}
use Rattle.run_engine.specs.runs.Turns.{plane_most}
use Rattle.race_run.specs.Rounds.{AddsOne, AreAskedBefore, PlaneIsOn, PlaneIsAt, IsStepped}
use Rattle.race_run.specs.Whole.{HasMadeAll, own_done}
use Rattle.race_run.proofs.PieceSteps.EarlierRounds.{asked-one, none-asked}
use Rattle.race_run.proofs.PieceSteps.PlaneSteps.{asks-early, steps-few, ticked-within}
use Rattle.run_engine.proofs.Tasks.StepsRunOut.{with-fewer}
use Rattle.race_run.proofs.Operations.TaskEntries.{asked-more}

-- ---- at the start

-- a new plane of the network's links and rounds, with the plane's pass, which has made no step
pub plane-begins : (network : Network) (plane : PlaneAccount) (pass : Token) → plane.links ≡ length network.links → plane.rounds ≡ network.rounds → plane.at ≡ plane_start → pass.own ≡ [] → actor_number pass.actor ≡ plane_no network → PlaneIsAt network plane pass
unfolding Follows plane_of
plane-begins network plane pass links rounds start none is = record {
  on = record {
    links = links;
    rounds = rounds;
    planes = subst (IsPlanes (length network.links) plane) (sym none) (record { follows = tt; stands = start });
    only = ap rounds_in none ∙ sym none;
    is = is;
  };
  between = ap (λ (p : Plane). p.ticked) start;
  early = none-asked (length network.links) plane.at.round pass.own none;
}

-- ---- with room for the flights

pub on-ready : (network : Network) (plane plane' : PlaneAccount) (pass : Token) → plane' ≡ record plane { spare = plane'.spare } → PlaneIsOn network plane pass → PlaneIsOn network plane' pass
on-ready network plane plane' pass kept on =
    subst (λ (p : PlaneAccount). PlaneIsOn network p pass) (sym kept) (record { links = on.links; rounds = on.rounds; planes = record { follows = on.planes.follows; stands = on.planes.stands }; only = on.only; is = on.is })

-- ---- a step

due-rounds : (ticked : ℕ) (found : Option Flight) → is_round (ask_due ticked found).1 ≡ true
due-rounds ticked None = refl
due-rounds ticked (Some flight) = refl

same-ask : (x y : LinkNo × Ask) → Some x ≡ Some y → x.1 ≡ y.1
same-ask x y same = (let is : x ≡ y = cc in ap (λ (to : LinkNo × Ask). to.1) is)

asks-round : (rounds : ℕ) (plane : Plane) (to : LinkNo) (ask : Ask) → plane_ask rounds plane ≡ Some (to, ask) → is_round ask ≡ true
asks-round rounds plane to ask asks =
    let early = asks-early rounds plane to ask asks in
    let due : Some (ask_due plane.ticked (next_due plane)) ≡ Some (to, ask) = rw (lt-ltb plane.round rounds early) at asks in
    ap is_round (sym (same-ask (ask_due plane.ticked (next_due plane)) (to, ask) due)) ∙ due-rounds plane.ticked (next_due plane)

one-round : (entries : List OwnEntry) (one : Asked) → map asked_in entries ≡ one ∷ [] → is_round one.ask ≡ true → rounds_in entries ≡ entries
one-round [] one are round = refl
one-round (e ∷ []) one are round = (let is : asked_in e ≡ one = cc in rw (ap (λ (x : Asked). is_round x.ask) is ∙ round) refl)
one-round (e ∷ f ∷ entries) one are round = cc

pub on-next : (network : Network) (plane plane' : PlaneAccount) (pass pass' : Token) (reply : Reply) → PlaneIsOn network plane pass → MakesRound plane plane' pass pass' reply → IsPlanes (length network.links) plane' pass'.own → pass'.actor ≡ pass.actor → PlaneIsOn network plane' pass'
on-next network plane plane' pass pass' reply on made planes by =
    let adds = made.adds in
    let one = one-round adds.entries _ adds.are (asks-round plane.rounds plane.at made.link made.ask made.asked) in
    record {
      links = made.links_are ∙ on.links;
      rounds = made.rounds_are ∙ on.rounds;
      planes = planes;
      only = ap rounds_in adds.own ∙ filter-append (λ (e : OwnEntry). is_round e.ask) pass.own adds.entries ∙ (λ i. on.only i ++ one i) ∙ sym adds.own;
      is = ap actor_number by ∙ on.is;
    }

after-round : (links : ℕ) (plane : Plane) (found : Option Flight) (reply : Reply) → ((plane_with links plane found reply).round ≡ plane.round) ⊎ (((plane_with links plane found reply).round ≡ plane.round + 1) × ((plane_with links plane found reply).ticked ≡ 0))
after-round links plane (Some flight) reply = inl refl
after-round links plane None reply =
    elim (cases_Bool (nat_eq (suc plane.ticked) links)) [
      | inl last ↦ rw last (inr (omega arith, refl))
      | inr more ↦ rw more (inl refl)
    ]

pub stepped-from : (plane ready plane' : PlaneAccount) → ready ≡ record plane { spare = ready.spare } → IsStepped ready plane' → IsStepped plane plane'
stepped-from plane ready plane' kept stepped = (let same = subst (λ (p : PlaneAccount). IsStepped p plane') kept stepped in record { round = same.round; fewer = same.fewer })

pub step-made : (network : Network) (plane plane' : PlaneAccount) (pass pass' : Token) (reply : Reply) → NetworkFits network → PlaneIsOn network plane pass → MakesRound plane plane' pass pass' reply → IsStepped plane plane'
step-made network plane plane' pass pass' reply fits on made =
    let links : plane.links ≡ length network.links = on.links in
    let early = asks-early plane.rounds plane.at made.link made.ask made.asked in
    let within : plane.at.ticked < plane.links = subst (λ n. plane.at.ticked < n) (sym links) (subst (λ (p : Plane). p.ticked < length network.links) (sym on.planes.stands) (ticked-within (length network.links) _ fits.some)) in
    let after = after-round plane.links plane.at (next_due plane.at) reply in
    let fewer = with-fewer plane.links plane.rounds plane.at (next_due plane.at) reply refl within early in
    record {
      round = subst (λ (p : Plane). (p.round ≡ plane.at.round) ⊎ ((p.round ≡ plane.at.round + 1) × (p.ticked ≡ 0))) (sym made.taken) after;
      fewer = subst (λ (x : ℕ × ℕ × Plane). plane_most x.0 x.1 x.2 < plane_most plane.links plane.rounds plane.at) (λ i. (sym made.links_are i, sym made.rounds_are i, sym made.taken i)) fewer;
    }

-- it adds one entry
one-added : (entries : List OwnEntry) (one : Asked) (pass pass' : Token) → map asked_in entries ≡ one ∷ [] → pass'.own ≡ pass.own ++ entries → AddsOne pass pass'
one-added [] one pass pass' are own = absurd (let clash : [] ≡ one ∷ [] = are in cc)
one-added (e ∷ []) one pass pass' are own = record { entry = e; own = own }
one-added (e ∷ f ∷ entries) one pass pass' are own = absurd (let clash : asked_in e ∷ asked_in f ∷ map asked_in entries ≡ one ∷ [] = are in cc)

pub adds-one : (plane plane' : PlaneAccount) (pass pass' : Token) (reply : Reply) → MakesRound plane plane' pass pass' reply → AddsOne pass pass'
adds-one plane plane' pass pass' reply made = one-added made.adds.entries _ pass pass' made.adds.are made.adds.own

-- and it is asked in the round in which the plane stands
pub early-next : (network : Network) (plane : PlaneAccount) (pass pass' : Token) (round : ℕ) → PlaneIsOn network plane pass → AddsOne pass pass' → plane.at.round < round → AreAskedBefore (length network.links) round pass.own → AreAskedBefore (length network.links) round pass'.own
early-next network plane pass pass' round on adds now early =
    let stands : plane.at ≡ plane_of (length network.links) (reverse (map reply_in pass.own)) = on.planes.stands ∙ ap (λ own. plane_of (length network.links) (reverse (map reply_in own))) on.only in
    asked-one (length network.links) round pass.own pass'.own adds.entry early (subst (λ (p : Plane). p.round < round) stands now) adds.own

-- the pass has drawn few stamps, as the rounds of a plan are few
pub few-drawn : (table : TableId) (owners : List ActorNo) (links : List Link) (network : Network) (plane : PlaneAccount) (pass : Token) → NetworkFits network → PlaneIsOn network plane pass → MayStep table owners links pass → stamps_drawn pass < 2 ^ 40 - 64
few-drawn table owners links network plane pass fits on may =
    let own = ap length on.only in
    let drew = drawn-count table owners links pass may in
    let steps = steps-few (length network.links) plane.rounds (rounds_in pass.own) fits.some on.planes.follows in
    let rounds : plane.rounds ≤ 1048576 = subst (λ n. n ≤ 1048576) (sym on.rounds) fits.rounds in
    let most = mul-le plane.rounds (length network.links) 1048576 32 rounds fits.few in
    omega (arith, own, drew, steps, most)

-- ---- at the end

plane-next : (network : Network) (actor : ActorNo) (replies : List Reply) → actor_number actor ≡ plane_no network → next_after network (actor_number actor) replies ≡ plane_ask network.rounds (plane_of (length network.links) replies)
plane-next network actor replies is = rw (eq-eqb (actor_number actor) (plane_no network) is) refl

asked-on : (network : Network) (actor : ActorNo) (front own : List OwnEntry) → actor_number actor ≡ plane_no network → IsAsked network (actor_number actor) (reverse (map (own_done actor) front)) → Follows (next_round (length network.links) network.rounds) (map reply_in front) own
    → IsAsked network (actor_number actor) (reverse (map (own_done actor) (front ++ own)))
unfolding Follows
asked-on network actor front [] is asked follows = subst (λ own. IsAsked network (actor_number actor) (reverse (map (own_done actor) own))) (sym (append-nil front)) asked
asked-on network actor front (e ∷ own) is asked follows =
    let more = asked-more network actor front e asked (plane-next network actor (reverse (map reply_in front)) is ∙ follows.0) in
    let left = subst (λ replies. Follows (next_round (length network.links) network.rounds) replies own) (sym (map-append reply_in front (e ∷ []))) follows.1 in
    subst (λ own. IsAsked network (actor_number actor) (reverse (map (own_done actor) own))) (append_assoc front (e ∷ []) own) (asked-on network actor (front ++ e ∷ []) own is more left)

pub plane-over : (network : Network) (plane : PlaneAccount) (pass : Token) → PlaneIsAt network plane pass → plane.at.round ≡ network.rounds → HasMadeAll network pass
plane-over network plane pass at over =
    let on = at.on in
    let follows : Follows (next_round (length network.links) network.rounds) [] pass.own = subst (λ (x : ℕ × List OwnEntry). Follows (next_round (length network.links) x.0) [] x.1) (λ i. (on.rounds i, on.only i)) on.planes.follows in
    let stands : plane.at ≡ plane_of (length network.links) (reverse (map reply_in pass.own)) = on.planes.stands ∙ ap (λ own. plane_of (length network.links) (reverse (map reply_in own))) on.only in
    let none : plane_ask network.rounds plane.at ≡ None = rw (le-ltb plane.at.round network.rounds (omega (arith, over))) refl in
    record {
      asked = asked-on network pass.actor [] pass.own on.is tt follows;
      over = plane-next network pass.actor (reverse (map reply_in pass.own)) on.is ∙ ap (plane_ask network.rounds) (sym stands) ∙ none;
    }
