-- A setup goes on with each step: its entries are what it asks, and fewer asks are left.
use Rattle.std.proofs.Common.{◌≡◌, ℕ, zero, suc, ◌+◌, ◌-◌, ◌<◌, ◌≤◌, true, false, List, [], ◌∷◌, ◌++◌, length, map, Option, Some, None, refl, sym, ap, ◌∙◌, subst, arith}
use Rattle.shared_network.proofs.Words.{cond_both, append_assoc, append-nil, length-append, map-append, length_push, same_Some, slice_get_within, slice_get, nat_lt, TableId, channel_number, link_number, level_number, ActorNo, LinkNo, IsRoute, Hop, Each, Link, SplitFits, Ask, Reply, Progress, Reserving, Undoing, Relaxing, Settled, offers_in, after_offers, undoing, relaxing, after_test, at_destination, next_ask, progress_of, is_expected, Request, own_at, IsOwner, Token, IsLink, Steps, last_seen, OwnEntry, option_map, Result, Ok, Err, IsOk, OnOk, IsContract, Outcome, Accepts, Denies, asked, hop_link, reach_after, settled_in, IsOff, OwnsAsk, NextBelow, IsBelow, IsHopOf, RequestFits}
use Rattle.hop_reservation.specs.Offers.{AreLevels, next_bound}
use Rattle.link_steps.specs.declared.replies.Reply.TheVariants as Is
use Rattle.relaxation.specs.Allotment.{denial_of, allotted}
use Rattle.relaxation.specs.declared.EndDenial.{EndDenial}
use Rattle.setup_protocol.specs.Requests.{jitter_of}
use Rattle.setup_protocol.specs.Standing.{progress_in, SetupStands}
use Rattle.setup_protocol.specs.State.{with_offers, after_reserve, advance, progress_at, IsStateOf}
use Rattle.setup_protocol.specs.declared.setup.Setup.{Setup}
use Rattle.setup_protocol.specs.declared.setup.State.{State}
use Rattle.setup_protocol.specs.declared.setup.State.TheVariants as state
use Rattle.setup_protocol.specs.declared.verdict.Deny.{Deny as Denial}
use Rattle.setup_protocol.specs.declared.verdict.Deny.TheVariants.{End}
use Rattle.net_units.specs.Allotted.{levels_of}
use Rattle.shared_network.specs.Added.{AddsAbove, IsSamePass}
use Rattle.shared_network.specs.Calls.{Follows, reply_in}
use Rattle.shared_network.specs.Ready.{MayStep, PassGoesOn}
use Rattle.shared_network.proofs.CallSteps.CallsInTurn.{goes-none, goes-both, above-none, above-both, above-step}
use Rattle.shared_network.proofs.CallSteps.PassAfterStep.{drawn-own}
use Rattle.shared_network.proofs.CallSteps.SetupGoes.{SetupRows, SetupGoes}
use Rattle.std.specs.Result.{is_err}
use Rattle.net_units.specs.LevelBounds.{are_bounds}
use Rattle.link_steps.proofs.SearchAndFilter.{Each-append, Each-if}
use Rattle.relaxation.specs.Laws.{HaveBounds}
use Rattle.setup_protocol.specs.Laws.{AsksHop, is_accepted}
use Rattle.setup_protocol.proofs.SetupAsksFit.{ask-fits}
use Rattle.setup_protocol.proofs.SetupAdvances.{progress-advances, progress-none}
use Rattle.link_steps.proofs.ListParts.{Each-at}
use Rattle.shared_network.specs.Calls.{HasNone, IsEstablished, hold_at}
use Rattle.shared_network.specs.Holds.{Free, Holds, hold_of}
use Rattle.shared_network.specs.Sight.{FitsAt}
use Rattle.shared_network.proofs.Held.HoldSteps.{AnswersOf, answers}
use Rattle.shared_network.proofs.Held.HeldOnContract.{ReservesOn, IsOn, off-reserves, held-on}
use Rattle.shared_network.proofs.Held.StillHolds.{none-hold}
use Rattle.net_units.proofs.KnownByNumber.{same-link}
use Rattle.shared_network.proofs.CallSteps.SetupGoes.{setup-goes}
use Rattle.setup_protocol.proofs.HopHolds.{HopStands, IsComm}
use Rattle.setup_protocol.proofs.HopAsks.{of-setup}

-- ---- entries that follow a protocol

pub follows-more : (next : List Reply → Option (LinkNo × Ask)) (replies : List Reply) (entries : List OwnEntry) (e : OwnEntry)
    → Follows next replies entries → next (replies ++ map reply_in entries) ≡ Some (e.link, e.ask)
    → Follows next replies (entries ++ e ∷ [])
unfolding Follows
follows-more next replies [] e follows asks = (ap next (sym (append-nil replies)) ∙ asks, tt)
follows-more next replies (o ∷ entries) e follows asks = (follows.0, follows-more next (replies ++ o.reply ∷ []) entries e follows.1 (ap next (append_assoc replies (o.reply ∷ []) (map reply_in entries)) ∙ asks))

-- what holds of each ask of a protocol holds of these entries
pub each-follows : (P : Ask → Type 0) (next : List Reply → Option (LinkNo × Ask)) (replies : List Reply) (entries : List OwnEntry)
    → ((rs : List Reply) (to : LinkNo) (ask : Ask) → next rs ≡ Some (to, ask) → P ask) → Follows next replies entries
    → Each (λ (e : OwnEntry). P e.ask) entries
unfolding Follows
each-follows P next replies [] all follows = tt
each-follows P next replies (e ∷ entries) all follows = (all replies e.link e.ask follows.0, each-follows P next (replies ++ e.reply ∷ []) entries all follows.1)

-- ---- how many asks are left

abbrev asks_left : ℕ → Progress → ℕ
asks_left hops (Reserving offers reach) = hops + hops - length offers
asks_left hops (Undoing left deny) = left
asks_left hops (Relaxing left levels) = left
asks_left hops (Settled outcome) = 0

abbrev pub setup_left : Setup → ℕ
setup_left setup = asks_left (length setup.request.route) (progress_in setup)

left-undoing : (hops left : ℕ) (deny : Denial) → asks_left hops (undoing left deny) ≡ left
left-undoing hops zero deny = refl
left-undoing hops (suc left) deny = refl

left-relaxing : (hops left : ℕ) (route : List Hop) (levels : List ℕ) → asks_left hops (relaxing route left levels) ≡ left
left-relaxing hops zero route levels = refl
left-relaxing hops (suc left) route levels = refl

left-tested : (request : Request) (offers : List ℕ) (denial : Option EndDenial)
    → asks_left (length request.route) (after_test request offers 0 denial) ≤ length request.route
left-tested request offers (Some denial) = (let is = left-undoing (length request.route) (length request.route - 0) (End denial) in omega (arith, is))
left-tested request offers None = (let is = left-relaxing (length request.route) (length request.route - 0) request.route (allotted request.route offers request.delay (jitter_of request.control)) in omega (arith, is))

left-offered : (request : Request) (offers : List ℕ) (level reach : ℕ) → length offers < length request.route
    → asks_left (length request.route) (with_offers request (offers ++ level ∷ []) reach) < length request.route + length request.route - length offers
left-offered request offers level reach few =
    let more = length_push offers level in
    let tested = left-tested request (offers ++ level ∷ []) (denial_of request.route (offers ++ level ∷ []) request.delay (jitter_of request.control)) in
    cond_both (nat_lt (length (offers ++ level ∷ [])) (length request.route)) (Reserving (offers ++ level ∷ []) reach) (at_destination request (offers ++ level ∷ []) 0) (λ p. asks_left (length request.route) p < length request.route + length request.route - length offers)
    (λ on. omega (arith, more, few)) (λ off. omega (arith, tested, few))

left-refused : (request : Request) (offers : List ℕ) (deny : Denial) → length offers < length request.route
    → asks_left (length request.route) (undoing (length offers) deny) < length request.route + length request.route - length offers
left-refused request offers deny few = (let is = left-undoing (length request.route) (length offers) deny in omega (arith, is, few))

left-reserved : (request : Request) (offers : List ℕ) (reply : Reply) → length offers < length request.route
    → asks_left (length request.route) (after_reserve request offers reply) < length request.route + length request.route - length offers
left-reserved request offers (Is.Offer level reach) few = left-offered request offers (level_number level) (next_bound request.route offers (level_number reach)) few
left-reserved request offers _ few = left-refused request offers _ few

left-state : (request : Request) (offers : List ℕ) (reach : ℕ) (s : State) (reply : Reply) → IsStateOf request.route offers s
    → is_expected request (progress_at offers reach s) reply ≡ true
    → asks_left (length request.route) (advance request (progress_at offers reach s) reply) < asks_left (length request.route) (progress_at offers reach s)
left-state request offers reach state.Reserving reply range expected = left-reserved request offers reply range
left-state request offers reach (state.Undoing left deny) reply range expected = (let is = left-undoing (length request.route) (left - 1) deny in let least = range.0.least in omega (arith, is, least))
left-state request offers reach (state.Relaxing left levels) reply range expected = (let is = left-relaxing (length request.route) (left - 1) request.route (levels_of levels) in let least = range.0.least in omega (arith, is, least))
left-state request offers reach (state.Settled verdict) reply range expected = absurd (let clash : false ≡ true = expected in cc)

pub setup-less : (setup : Setup) (reply : Reply) → is_expected setup.request (progress_in setup) reply ≡ true
    → asks_left (length setup.request.route) (advance setup.request (progress_in setup) reply) < setup_left setup
setup-less setup reply expected = left-state setup.request setup.itinerary.levels setup.itinerary.reach setup.state reply setup.in_range expected

-- ---- a setup under way

pub record SettingUp (table : TableId) (owners : List ActorNo) (links : List Link) (request : Request) (pass pass' : Token) (setup : Setup) : Type 0 where
  pub sound : RequestFits links request
  pub entries : List OwnEntry
  pub own : pass'.own ≡ pass.own ++ entries
  pub follows : Follows (next_ask request) [] entries
  pub request_is : setup.request ≡ request
  pub stands : SetupStands setup (map reply_in entries)
  pub rows : SetupRows request pass'.own (map reply_in entries)
  pub goes : PassGoesOn table owners links pass pass'
  pub later : AddsAbove (last_seen pass) pass pass'
  pub same : IsSamePass pass pass'
  pub few : length entries + setup_left setup ≤ 32

-- ---- at the beginning

pub have-bounds : (links : List Link) (hops : List Hop) → Each (IsHopOf links) hops → HaveBounds hops
unfolding HaveBounds
have-bounds links [] are = tt
have-bounds links (hop ∷ hops) are = (ap are_bounds are.0.bounds ∙ are.0.link.shape.bounds_rise, have-bounds links hops are.1)

rows-first : (request : Request) (own : List OwnEntry) → 1 ≤ length request.route → HasNone request.chan own → SetupRows request own []
unfolding offers_in after_offers reach_after AreLevels
rows-first request own some none = record {
  stands = record {
    hops = λ i at. subst (λ p. HopStands Free Holds request [] p i (hold_at request.chan at.hop own)) (sym (progress-none request some)) (record { tent = λ less. absurd (omega (arith, less)); tail = λ from. none-hold request.chan at.hop own none });
    up = λ alone. refl;
  };
  levels = tt;
}

pub setting-first : (table : TableId) (owners : List ActorNo) (links : List Link) (request : Request) (pass : Token) (setup : Setup)
    → IsContract request.contract → IsRoute request.route → Each (IsHopOf links) request.route → MayStep table owners links pass
    → HasNone request.chan pass.own → setup.request ≡ request → SetupStands setup [] → SettingUp table owners links request pass pass setup
unfolding Follows
setting-first table owners links request pass setup contract route hops may none request_is stands =
    let at_first : progress_in setup ≡ Reserving [] 0 = stands ∙ ap (λ (r : Request). progress_of r []) request_is ∙ progress-none request route.least in
    let left : setup_left setup ≡ length request.route + length request.route - 0 = (λ i. asks_left (length (request_is i).route) (at_first i)) in
    let most = route.most in
    record {
      sound = record { contract = contract; bounds = have-bounds links request.route hops; route = route; hops = hops };
      entries = [];
      own = sym (append-nil pass.own);
      follows = tt;
      request_is = request_is;
      stands = stands;
      rows = rows-first request pass.own route.least none;
      goes = goes-none table owners links pass may;
      later = above-none pass;
      same = record { actor = refl; table = refl; has_seat = may.has_seat };
      few = omega (arith, left, most);
    }

-- ---- one step

-- each ask of a setup names its channel
owns-asked : (owners : List ActorNo) (a : ActorNo) (request : Request) (p : Progress) (to : LinkNo) (ask : Ask)
    → IsOwner owners a request.chan → asked request p ≡ Some (to, ask) → OwnsAsk owners a ask
owns-asked owners a request p to ask owner same = of-setup (OwnsAsk owners a) request p to ask (λ offers reach. owner) owner (λ levels place. owner) same

-- and each reserve a next link of the network
next-found : (links : List Link) (route : List Hop) (i : ℕ) (found : Option Hop) → Each (IsHopOf links) route → slice_get route i ≡ found
    → IsBelow (length links) (option_map hop_link found)
next-found links route i None hops is = tt
next-found links route i (Some hop) hops is = (let at = Each-at (IsHopOf links) route i hop hops is in slice_get_within links (link_number hop.link) at.link at.linked)

next-asked : (links : List Link) (request : Request) (p : Progress) (to : LinkNo) (ask : Ask) → Each (IsHopOf links) request.route
    → asked request p ≡ Some (to, ask) → NextBelow (length links) ask
next-asked links request p to ask hops same =
    of-setup (NextBelow (length links)) request p to ask (λ offers reach. next-found links request.route (suc (length offers)) (slice_get request.route (suc (length offers))) hops refl) tt (λ levels place. tt) same

module _ (table : TableId) (owners : List ActorNo) (links : List Link) (request : Request) (pass0 pass : Token) (setup : Setup) (so : SettingUp table owners links request pass0 pass setup) (to : LinkNo) (ask : Ask) (asks : next_ask request (map reply_in so.entries) ≡ Some (to, ask)) where
  hop-asked : AsksHop request to ask
  hop-asked = ask-fits request (map reply_in so.entries) to ask so.sound.contract so.sound.bounds so.rows.levels asks

  hop-of : IsHopOf links hop-asked.hop
  hop-of = Each-at (IsHopOf links) request.route hop-asked.index hop-asked.hop so.sound.hops hop-asked.stands

  at-link : IsLink links (link_number to) hop-of.link
  at-link = subst (λ (l : LinkNo). IsLink links (link_number l) hop-of.link) (sym hop-asked.is_asked) hop-of.linked

  pub to-below : link_number to < length links
  to-below = slice_get_within links (link_number to) hop-of.link at-link

  pub fits-there : FitsAt links (link_number to) ask
  fits-there link is = hop-asked.fits link.shape (ap (λ (x : Link). x.shape.bounds) (same_Some link hop-of.link (sym is ∙ at-link)) ∙ sym hop-of.bounds)

  pub owned-there : IsOwner owners pass0.actor request.chan → OwnsAsk owners pass.actor ask
  owned-there owner = owns-asked owners pass.actor request (progress_of request (map reply_in so.entries)) to ask (subst (λ (a : ActorNo). IsOwner owners a request.chan) (sym so.same.actor) owner) asks

  pub next-there : NextBelow (length links) ask
  next-there = next-asked links request (progress_of request (map reply_in so.entries)) to ask so.sound.hops asks

  module _ (pass' : Token) (reply : Reply) (splits : Each SplitFits links) (owner : IsOwner owners pass0.actor request.chan) (steps : Steps links (link_number to) ask pass pass' reply) (goes : PassGoesOn table owners links pass pass') (same : IsSamePass pass pass') where
    abbrev e : OwnEntry
    e = steps.entry

    asks-entry : next_ask request (map reply_in so.entries) ≡ Some (e.link, e.ask)
    asks-entry = asks ∙ (λ i. Some (same-link to e.link (sym steps.acted.link_is) i, sym steps.acted.ask_is i))

    goes-one : SetupGoes request pass.own (map reply_in so.entries) e
    goes-one =
        setup-goes links request pass.own (map reply_in so.entries) e steps.link so.sound (subst (λ l. IsLink links l steps.link) (sym steps.acted.link_is) steps.is_link)
        (subst (λ l. AnswersOf steps.link request.chan (hold_of (channel_number request.chan) (own_at l pass.own)) e.ask e.reply) (sym steps.acted.link_is)
        (answers table owners links (link_number to) ask pass pass' reply splits so.goes.may_step steps (goes.may_step.knows (link_number to) steps.link steps.is_link).order request.chan (subst (λ (a : ActorNo). IsOwner owners a request.chan) (sym so.same.actor) owner)))
        so.rows asks-entry

    pub expected-there : is_expected setup.request (progress_in setup) reply ≡ true
    expected-there = (λ i. is_expected (so.request_is i) (so.stands i) reply) ∙ (λ i. is_expected request (progress_of (so.request_is i) (map reply_in so.entries)) (sym steps.reply_is i)) ∙ goes-one.expected

    module _ (setup' : Setup) (request_is : setup'.request ≡ setup.request) (stands : SetupStands setup' (map reply_in so.entries ++ reply ∷ [])) where
      pub left-less : setup_left setup' < setup_left setup
      left-less =
          let goes_to : progress_in setup' ≡ advance setup.request (progress_in setup) reply =
          stands ∙ ap (λ (r : Request). progress_of r (map reply_in so.entries ++ reply ∷ [])) request_is
          ∙ progress-advances setup.request (map reply_in so.entries) reply (ap (λ p. is_expected setup.request p reply) (sym so.stands) ∙ expected-there) ∙ ap (λ p. advance setup.request p reply) (sym so.stands) in
          let less = setup-less setup reply expected-there in
          let now : setup_left setup' ≡ asks_left (length setup.request.route) (advance setup.request (progress_in setup) reply) = (λ i. asks_left (length (request_is i).route) (goes_to i)) in
          omega (arith, less, now)

      pub setting-next : SettingUp table owners links request pass0 pass' setup'
      setting-next =
          let told : map reply_in (so.entries ++ e ∷ []) ≡ map reply_in so.entries ++ reply ∷ [] = map-append reply_in so.entries (e ∷ []) ∙ ap (λ r. map reply_in so.entries ++ r ∷ []) steps.reply_is in
          let less = left-less in
          let few = so.few in
          let more = length_push so.entries e in
          record {
            sound = so.sound;
            entries = so.entries ++ e ∷ [];
            own = steps.own ∙ ap (λ es. es ++ e ∷ []) so.own ∙ append_assoc pass0.own so.entries (e ∷ []);
            follows = follows-more (next_ask request) [] so.entries e so.follows asks-entry;
            request_is = request_is ∙ so.request_is;
            stands = stands ∙ ap (progress_of setup'.request) (sym told);
            rows = subst (λ (x : List OwnEntry × List Reply). SetupRows request x.0 x.1) (λ i. (sym steps.own i, (ap (λ r. map reply_in so.entries ++ r ∷ []) steps.reply_is ∙ sym told) i)) goes-one.rows;
            goes = goes-both table owners links pass0 pass pass' so.goes goes;
            later = above-both (last_seen pass0) pass0 pass pass' so.later (above-step links (link_number to) ask pass pass' reply steps);
            same = record { actor = same.actor ∙ so.same.actor; table = same.table ∙ so.same.table; has_seat = same.has_seat };
            few = omega (arith, few, more, less);
          }

-- ---- at the end

settled-is : (p : Progress) (outcome : Outcome) → Some outcome ≡ settled_in p → p ≡ Settled outcome
settled-is (Settled own) outcome is = ap Settled (same_Some own outcome (sym is))
settled-is _ outcome is = absurd (let clash : Some outcome ≡ None = is in cc)

-- each reserve of the channel names the request's contract
setup-reserves : (table : TableId) (owners : List ActorNo) (links : List Link) (request : Request) (pass0 pass : Token) (setup : Setup)
    → HasNone request.chan pass0.own → SettingUp table owners links request pass0 pass setup
    → Each (λ (e : OwnEntry). ReservesOn (channel_number request.chan) request.contract e.ask) pass.own
setup-reserves table owners links request pass0 pass setup none so =
    let c : ℕ = channel_number request.chan in
    let P : Ask → Type 0 = ReservesOn c request.contract in
    subst (Each (λ (e : OwnEntry). P e.ask)) (sym so.own)
    (Each-append (λ (e : OwnEntry). P e.ask) pass0.own so.entries (Each-if (λ (e : OwnEntry). IsOff c e.ask) (λ (e : OwnEntry). P e.ask) pass0.own (λ e off. off-reserves c request.contract e.ask off) none)
    (each-follows P (next_ask request) [] so.entries (λ rs to ask same. of-setup P request (progress_of request rs) to ask (λ offers reach same. refl) tt (λ levels place. tt) same) so.follows))

-- an accepted channel is established
pub setup-established : (table : TableId) (owners : List ActorNo) (links : List Link) (request : Request) (pass0 pass : Token) (setup : Setup) (outcome : Outcome)
    → HasNone request.chan pass0.own → SettingUp table owners links request pass0 pass setup → Some outcome ≡ settled_in (progress_in setup)
    → is_accepted outcome ≡ true → IsEstablished request pass.own
setup-established table owners links request pass0 pass setup (Denies deny) none so is accepted = absurd (let clash : false ≡ true = accepted in cc)
setup-established table owners links request pass0 pass setup (Accepts levels delay) none so is accepted = λ i hop found.
    (let at_end : progress_of request (map reply_in so.entries) ≡ Settled (Accepts levels delay) = ap (λ (r : Request). progress_of r (map reply_in so.entries)) (sym so.request_is) ∙ sym so.stands ∙ settled-is (progress_in setup) (Accepts levels delay) is in
    let stands = subst (λ p. HopStands Free Holds request (offers_in (map reply_in so.entries)) p i (hold_at request.chan hop pass.own)) at_end (so.rows.stands.hops i (record { hop = hop; stands = found })) in
    let comm : IsComm Holds request levels i (hold_at request.chan hop pass.own) = stands.tail (omega arith) in
    record {
      terms = comm.terms;
      is = comm.is;
      phase = comm.phase;
      first_is = comm.first;
      contract_is = subst (IsOn request.contract) comm.is (held-on request.chan request.contract hop pass.own (setup-reserves table owners links request pass0 pass setup none so));
    })

-- an answer that is Ok is no Err
pub ok-no-err : {T E : Type 0} (r : Result T E) → IsOk r → true ≡ is_err r → ⊥
ok-no-err (Ok x) ok err = absurd (let clash : true ≡ false = err in cc)
ok-no-err (Err x) ok err = absurd (let clash : false ≡ true = ok in cc)

pub on-ok : {T E P : Type 0} (r : Result T E) → IsOk r → OnOk r P → P
on-ok (Ok x) ok p = p
on-ok (Err x) ok p = absurd (let clash : false ≡ true = ok in cc)

-- ---- how many stamps are drawn

pub drew-some : (table : TableId) (owners : List ActorNo) (links : List Link) (pass pass' : Token) (entries : List OwnEntry) (n : ℕ)
    → MayStep table owners links pass → MayStep table owners links pass' → pass'.own ≡ pass.own ++ entries → length entries ≤ n
    → length pass'.view.drawn ≤ length pass.view.drawn + n
drew-some table owners links pass pass' entries n may may' own few =
    let before = drawn-own table owners links pass may in
    let after = drawn-own table owners links pass' may' in
    let long = ap length own ∙ length-append pass.own entries in
    omega (arith, before, after, long, few)
