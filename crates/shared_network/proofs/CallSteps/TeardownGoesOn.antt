-- A teardown goes on with each step: the hops that weren't asked yet hold their committed reservations, so each release is
-- answered.
use Rattle.std.proofs.Common.{◌≡◌, ◌≢◌, ℕ, ◌-◌, ◌<◌, ◌≤◌, true, List, [], ◌∷◌, ◌++◌, length, map, Option, Some, None, refl, sym, ap, ◌∙◌, subst, arith}
use Rattle.shared_network.proofs.Words.{append_assoc, append-nil, map-append, length_push, length-map, slice_get_within, slice_get, nat_eq, unwrap_or, TableId, channel_number, link_number, ActorNo, LinkNo, IsRoute, link_of, Hop, Each, reply_at, Link, SplitFits, Ask, Release, Reply, is_closing, told_count, first_count, next_release, Request, held_by, IsReleased, own_at, OwnsAsk, IsOwner, NextBelow, Token, IsLink, Steps, last_seen, OwnEntry, IsHopOf}
use Rattle.setup_protocol.specs.Releases.{Releases}
use Rattle.setup_protocol.specs.declared.teardown.Teardown.{Teardown}
use Rattle.link_steps.proofs.ListParts.{Each-at}
use Rattle.channel_laws.proofs.SendReplies.{release-committed, of-released}
use Rattle.shared_network.specs.Added.{AddsAbove, IsSamePass}
use Rattle.shared_network.specs.Calls.{Follows, IsCommitted, IsEstablished, TearsDown, reply_in, hold_at}
use Rattle.shared_network.specs.Holds.{hold_of, IsHeld}
use Rattle.shared_network.specs.Ready.{MayStep, PassGoesOn}
use Rattle.shared_network.proofs.CallSteps.CallsInTurn.{goes-none, goes-both, above-none, above-both, above-step}
use Rattle.shared_network.specs.Sight.{FitsAt}
use Rattle.shared_network.proofs.CallSteps.SetupUnderWay.{follows-more}
use Rattle.shared_network.proofs.Held.HoldSteps.{AnswersOf, answers}
use Rattle.net_units.proofs.KnownByNumber.{same-link}
use Rattle.shared_network.proofs.CallSteps.SetupGoes.{hold-elsewhere}
use Rattle.hop_reservation.proofs.DistinctLinks.{index-apart}
use Rattle.setup_protocol.proofs.HopAsks.{first-named}
use Rattle.setup_protocol.proofs.RelaxesFit.{release-at}
use Rattle.setup_protocol.specs.WayBack.{IsReleaseOfHop}

pub record TearingDown (table : TableId) (owners : List ActorNo) (links : List Link) (request : Request) (pass pass' : Token) (teardown : Teardown) (count : Option ℕ) : Type 0 where
  pub route : IsRoute request.route
  pub hops : Each (IsHopOf links) request.route
  pub entries : List OwnEntry
  pub own : pass'.own ≡ pass.own ++ entries
  pub follows : Follows (next_release request.chan request.route) [] entries
  pub chan_is : teardown.chan ≡ request.chan
  pub route_is : teardown.route ≡ request.route
  pub releases : Releases teardown (map reply_in entries)
  pub holds : (i : ℕ) (hop : Hop) → slice_get request.route i ≡ Some hop → length entries ≤ i → IsCommitted request.contract (nat_eq i 0) (hold_at request.chan hop pass'.own)
  pub goes : PassGoesOn table owners links pass pass'
  pub later : AddsAbove (last_seen pass) pass pass'
  pub same : IsSamePass pass pass'
  pub count_is : count ≡ first_count (map reply_in entries)
  pub few : length entries ≤ length request.route

pub tearing-first : (table : TableId) (owners : List ActorNo) (links : List Link) (request : Request) (pass : Token) (teardown : Teardown) → IsRoute request.route → Each (IsHopOf links) request.route → MayStep table owners links pass → IsEstablished request pass.own → teardown.chan ≡ request.chan → teardown.route ≡ request.route → Releases teardown [] → TearingDown table owners links request pass pass teardown None
unfolding Follows
tearing-first table owners links request pass teardown route hops may established chan_is route_is releases = record {
  route = route;
  hops = hops;
  entries = [];
  own = sym (append-nil pass.own);
  follows = tt;
  chan_is = chan_is;
  route_is = route_is;
  releases = releases;
  holds = λ i hop found from. established i hop found;
  goes = goes-none table owners links pass may;
  later = above-none pass;
  same = record { actor = refl; table = refl; has_seat = may.has_seat };
  count_is = refl;
  few = omega arith;
}

first-more : (replies : List Reply) (reply : Reply) → Some (unwrap_or (first_count replies) (told_count reply)) ≡ first_count (replies ++ reply ∷ [])
first-more [] reply = refl
first-more (r ∷ replies) reply = refl

module _ (table : TableId) (owners : List ActorNo) (links : List Link) (request : Request) (pass0 pass : Token) (teardown : Teardown) (count : Option ℕ) (so : TearingDown table owners links request pass0 pass teardown count) (to : LinkNo) (ask : Ask) (asks : next_release request.chan request.route (map reply_in so.entries) ≡ Some (to, ask)) where
  abbrev replies : List Reply
  replies = map reply_in so.entries

  many : length replies ≡ length so.entries
  many = length-map so.entries reply_in

  hop-asked : IsReleaseOfHop request.chan request.route replies to ask
  hop-asked = release-at request.chan request.route replies to ask asks

  hop-of : IsHopOf links hop-asked.hop
  hop-of = Each-at (IsHopOf links) request.route (length replies) hop-asked.hop so.hops hop-asked.stands

  at-link : IsLink links (link_number to) hop-of.link
  at-link = subst (λ (l : LinkNo). IsLink links (link_number l) hop-of.link) (sym hop-asked.is_asked) hop-of.linked

  pub to-below : link_number to < length links
  to-below = slice_get_within links (link_number to) hop-of.link at-link

  pub fits-there : FitsAt links (link_number to) ask
  fits-there link is = hop-asked.fits link.shape

  pub owned-there : IsOwner owners pass0.actor request.chan → OwnsAsk owners pass.actor ask
  owned-there owner = subst (OwnsAsk owners pass.actor) (sym hop-asked.releases) (subst (λ (a : ActorNo). IsOwner owners a request.chan) (sym so.same.actor) owner)

  pub next-there : NextBelow (length links) ask
  next-there = subst (NextBelow (length links)) (sym hop-asked.releases) tt

  within : length so.entries < length request.route
  within = (let inside = slice_get_within request.route (length replies) hop-asked.hop hop-asked.stands in let same = many in omega (arith, inside, same))

  module _ (pass' : Token) (reply : Reply) (splits : Each SplitFits links) (owner : IsOwner owners pass0.actor request.chan) (steps : Steps links (link_number to) ask pass pass' reply) (goes : PassGoesOn table owners links pass pass') (same : IsSamePass pass pass') where
    abbrev e : OwnEntry
    e = steps.entry

    asks-entry : next_release request.chan request.route replies ≡ Some (e.link, e.ask)
    asks-entry = asks ∙ (λ i. Some (same-link to e.link (sym steps.acted.link_is) i, sym steps.acted.ask_is i))

    on : link_number e.link ≡ link_of hop-asked.hop
    on = steps.acted.link_is ∙ ap link_number hop-asked.is_asked

    ans : AnswersOf steps.link request.chan (hold_at request.chan hop-asked.hop pass.own) e.ask e.reply
    ans =
        subst (λ l. AnswersOf steps.link request.chan (hold_of (channel_number request.chan) (own_at l pass.own)) e.ask e.reply) (ap link_number hop-asked.is_asked)
        (answers table owners links (link_number to) ask pass pass' reply splits so.goes.may_step steps (goes.may_step.knows (link_number to) steps.link steps.is_link).order request.chan (subst (λ (a : ActorNo). IsOwner owners a request.chan) (sym so.same.actor) owner))

    pub closing-there : is_closing reply ≡ true
    unfolding reply_at
    closing-there =
        let committed = so.holds (length replies) hop-asked.hop hop-asked.stands (let same = many in omega (arith, same)) in
        let held = subst (λ h. IsHeld h (held_by request.chan ans.scan.rows)) committed.is ans.held in
        let answered : reply ≡ reply_at steps.link ans.clock ans.scan (Release request.chan (first_count replies)) = sym steps.reply_is ∙ ans.reply_is ∙ ap (reply_at steps.link ans.clock ans.scan) (steps.acted.ask_is ∙ hop-asked.releases) in
        of-released (λ r. is_closing r ≡ true) reply (λ count cancelled. refl) (subst IsReleased (sym answered) (release-committed ans.clock (first_count replies) request.chan ans.scan.rows committed.terms held.0 (committed.first_is ∙ first-named replies) committed.phase))

    module _ (teardown' : Teardown) (chan_is : teardown'.chan ≡ teardown.chan) (route_is : teardown'.route ≡ teardown.route) (releases : Releases teardown' (replies ++ reply ∷ [])) where
      pub made-more : length teardown'.route - teardown'.made < length teardown.route - teardown.made
      made-more =
          let long = ap length (route_is ∙ so.route_is) in
          let before = ap length so.route_is in
          let more = releases.made in
          let was = so.releases.made in
          let one = length_push replies reply in
          let inside = within in
          let same = many in
          omega (arith, long, before, more, was, one, inside, same)

      pub tearing-next : (count' : Option ℕ) → count' ≡ Some (unwrap_or count (told_count reply)) → TearingDown table owners links request pass0 pass' teardown' count'
      tearing-next count' count_is =
          let told : map reply_in (so.entries ++ e ∷ []) ≡ replies ++ reply ∷ [] = map-append reply_in so.entries (e ∷ []) ∙ ap (λ r. replies ++ r ∷ []) steps.reply_is in
          let more = length_push so.entries e in
          let inside = within in
          record {
            route = so.route;
            hops = so.hops;
            entries = so.entries ++ e ∷ [];
            own = steps.own ∙ ap (λ es. es ++ e ∷ []) so.own ∙ append_assoc pass0.own so.entries (e ∷ []);
            follows = follows-more (next_release request.chan request.route) [] so.entries e so.follows asks-entry;
            chan_is = chan_is ∙ so.chan_is;
            route_is = route_is ∙ so.route_is;
            releases = subst (Releases teardown') (sym told) releases;
            holds = λ i hop found from.
                (let other : link_number e.link ≢ link_of hop = λ is. (let index = index-apart request.route i (length replies) hop hop-asked.hop so.route found hop-asked.stands (sym is ∙ on) in let same = many in omega (arith, index, same, from, more)) in
                subst (IsCommitted request.contract (nat_eq i 0)) (sym (ap (hold_at request.chan hop) steps.own ∙ hold-elsewhere request.chan hop pass.own e other)) (so.holds i hop found (omega (arith, from, more))));
            goes = goes-both table owners links pass0 pass pass' so.goes goes;
            later = above-both (last_seen pass0) pass0 pass pass' so.later (above-step links (link_number to) ask pass pass' reply steps);
            same = record { actor = same.actor ∙ so.same.actor; table = same.table ∙ so.same.table; has_seat = same.has_seat };
            count_is = count_is ∙ ap (λ c. Some (unwrap_or c (told_count reply))) so.count_is ∙ first-more replies reply ∙ ap first_count (sym told);
            few = omega (arith, more, inside);
          }

-- all hops have replied
pub torn-down : (table : TableId) (owners : List ActorNo) (links : List Link) (request : Request) (pass0 pass : Token) (teardown : Teardown) (count : ℕ) → TearingDown table owners links request pass0 pass teardown (Some count) → teardown.made ≡ length teardown.route → TearsDown request pass0 pass count
torn-down table owners links request pass0 pass teardown count so made =
    let was = so.releases.made in
    let many = length-map so.entries reply_in in
    let route = ap length so.route_is in
    record { entries = so.entries; own = so.own; follows = so.follows; whole = omega (arith, was, many, route, made); count_is = sym so.count_is }

-- and one has
pub some-told : (table : TableId) (owners : List ActorNo) (links : List Link) (request : Request) (pass0 pass : Token) (teardown : Teardown) → TearingDown table owners links request pass0 pass teardown None → teardown.made ≡ length teardown.route → ⊥
some-told table owners links request pass0 pass teardown so made =
    let was = so.releases.made in
    let route = ap length so.route_is in
    let least = so.route.least in
    none (map reply_in so.entries) so.count_is (omega (arith, was, route, made, least)) where
      none : (replies : List Reply) → None ≡ first_count replies → 1 ≤ length replies → ⊥
      none [] is some = omega (arith, some)
      none (r ∷ replies) is some = cc
