-- While a setup is under way, each link of its route holds the reservation that the replies so far have made. So each
-- reply to the setup is one of its ask's.
use Rattle.std.proofs.Common.{◌≡◌, ◌≢◌, ℕ, zero, suc, ◌-◌, ◌<◌, ◌≤◌, Bool, true, false, List, [], ◌∷◌, length, get_or, Option, Some, None, refl, sym, ap, ◌∙◌, subst, arith}
use Rattle.run_engine.proofs.Words.{same_Some, slice_get_within, slice_get, option_map, link_number, level_number, AreLevels, delay_over, IsRoute, link_of, Hop, Ask, Deny, Tentative, Committed, Reply, Link, MayAnswer, MayReplyTo, deny_reply, relax_reply, reply_at, reply_to, Reservation, committed, Scan, clock_of, scan_of, after, allotment, RequestFits, Outcome, Accepts, Denies, Reserving, Settled, offers_in, after_offers, reach_after, undoing, relaxing, asked, asked_of, reserve_of, bound_given, next_ask, progress_of, settled_in, verdict_of, Request, Done, NetworkFits, Network, part_of, IsNext, IsRun, held_by, HopAt}
use Rattle.hop_reservation.proofs.DistinctLinks.{index-apart}
use Rattle.link_steps.specs.declared.replies.Reply.TheVariants as Is
use Rattle.link_steps.specs.Levels.{level_of}
use Rattle.link_steps.proofs.LegalChannels.{legal-channels}
use Rattle.relaxation.specs.Laws.{AreWithinReach}
use Rattle.setup_protocol.specs.Requests.{jitter_of}
use Rattle.setup_protocol.specs.declared.verdict.Deny.{Deny as Denial}
use Rattle.setup_protocol.proofs.HopAsks.{AskedAt}
use Rattle.setup_protocol.proofs.HopHolds.{IsComm, HopStands, View, OnWay, Back, Forth, view}
use Rattle.setup_protocol.proofs.SetupReplies.{IsReserved, reserve-reply, deny-tentative}
use Rattle.setup_protocol.proofs.StepHolds.{SetupAsks, Reserves, GivesBack, Relaxes, setup-asks, relax_at, relax-told, Changes, RouteStands, RouteGoes, back-tent, forth-tent, back-goes, forth-goes, way-free, refused-goes, offer-goes}
use Rattle.run_engine.proofs.Channels.HopsAt.{hop-at}
use Rattle.run_engine.proofs.Runs.RunLegal.{part-on, part-off, part-admissible, answered-may}
use Rattle.channel_laws.proofs.TermsAfter.{held-offered, held-relaxed, held-denied}
use Rattle.link_steps.proofs.ListParts.{stands-at}

-- ---- what a hop holds

abbrev pub held_at_hop : (network : Network) (request : Request) (i : ℕ) → HopAt network request i → List Done → Option Reservation
held_at_hop network request i at run = held_by request.chan (scan_of at.link.shape (part_of (link_number at.hop.link) run)).rows

-- the setup's hops hold what its replies say, and the reach before the next hop is that of the last offer
abbrev pub SetupRows : Network → Request → List Reply → List Done → Type 0
SetupRows network request replies run = RouteStands None Some request (HopAt network request) (λ i at. held_at_hop network request i at run) replies

-- ---- the parts of a run

module _ (network : Network) (request : Request) (i : ℕ) (at : HopAt network request i) (done : Done) (past : List Done) where
  pub held-elsewhere : link_number done.link ≢ link_number at.hop.link → held_at_hop network request i at (done ∷ past) ≡ held_at_hop network request i at past
  held-elsewhere other = ap (λ h. held_by request.chan (scan_of at.link.shape h).rows) (part-off (link_number at.hop.link) done past other)

  pub held-here : link_number done.link ≡ link_number at.hop.link → held_at_hop network request i at (done ∷ past) ≡ held_by request.chan (after at.link.shape (clock_of (part_of (link_number at.hop.link) past)) (scan_of at.link.shape (part_of (link_number at.hop.link) past)) done.ask done.reply).rows
  unfolding scan_of
  held-here on = ap (λ h. held_by request.chan (scan_of at.link.shape h).rows) (part-on (link_number at.hop.link) done past on)

  -- the reply of the link of a hop
  pub hop-reply : (next : IsNext network past done) → link_number done.link ≡ link_number at.hop.link → done.reply ≡ reply_at at.link (clock_of (part_of (link_number at.hop.link) past)) (scan_of at.link.shape (part_of (link_number at.hop.link) past)) done.ask
  unfolding reply_to
  hop-reply next on =
      let link : next.link ≡ at.link = same_Some next.link at.link (sym next.linked ∙ ap (slice_get network.links) on ∙ at.linked) in
      next.answered ∙ ap (λ l. reply_to l (part_of (link_number done.link) past) done.ask) link ∙ ap (λ m. reply_to at.link (part_of m past) done.ask) on

  -- and it may be given
  pub hop-may : NetworkFits network → IsRun network past → (next : IsNext network past done) → link_number done.link ≡ link_number at.hop.link → MayReplyTo at.link.shape (part_of (link_number at.hop.link) past) done.ask done.reply
  hop-may fits run next on =
      let link : next.link ≡ at.link = same_Some next.link at.link (sym next.linked ∙ ap (slice_get network.links) on ∙ at.linked) in
      let moved : (n : ℕ) (l : Link) → link_number done.link ≡ n → next.link ≡ l → MayReplyTo l.shape (part_of n past) done.ask done.reply = λ n l number same. subst (λ m. MayReplyTo l.shape (part_of m past) done.ask done.reply) number (subst (λ x. MayReplyTo x.shape (part_of (link_number done.link) past) done.ask done.reply) same (answered-may network past done fits run next)) in
      moved (link_number at.hop.link) at.link on link

pub same-held : (network : Network) (request : Request) (i k : ℕ) (at : HopAt network request i) (own : HopAt network request k) (run : List Done) → i ≡ k → held_at_hop network request i at run ≡ held_at_hop network request k own run
same-held network request i k at own run e =
    let hop : at.hop ≡ own.hop = same_Some at.hop own.hop (sym at.stands ∙ ap (slice_get request.route) e ∙ own.stands) in
    let link : at.link ≡ own.link = same_Some at.link own.link (sym at.linked ∙ ap (λ h. slice_get network.links (link_number h.link)) hop ∙ own.linked) in
    ap (λ l. held_by request.chan (scan_of l.shape (part_of (link_number at.hop.link) run)).rows) link ∙ ap (λ h. held_by request.chan (scan_of own.link.shape (part_of (link_number h.link) run)).rows) hop

-- another hop is over another link
pub other-hop : (network : Network) (request : Request) (i k : ℕ) (at : HopAt network request i) (own : HopAt network request k) (done : Done) → IsRoute request.route → link_number done.link ≡ link_number own.hop.link → i ≢ k → link_number done.link ≢ link_number at.hop.link
other-hop network request i k at own done route on other same = other (index-apart request.route i k at.hop own.hop route at.stands own.stands (sym same ∙ on))

-- ---- one reply to the setup

-- it is one of its ask's, and the hops then hold what the replies with it say
abbrev pub SetupGoes : Network → Request → List Reply → Done → List Done → Type 0
SetupGoes network request replies done past = RouteGoes None Some request (HopAt network request) (λ i at. held_at_hop network request i at (done ∷ past)) replies done.reply

module _ (network : Network) (request : Request) (replies : List Reply) (done : Done) (past : List Done) (fits : NetworkFits network) (sound : RequestFits network.links request) (run : IsRun network past) (next : IsNext network past done) (rows : SetupRows network request replies past) where
  abbrev now : (i : ℕ) → HopAt network request i → Option Reservation
  now i at = held_at_hop network request i at past

  abbrev later : (i : ℕ) → HopAt network request i → Option Reservation
  later i at = held_at_hop network request i at (done ∷ past)

  abbrev clock_there : (i : ℕ) → HopAt network request i → ℕ
  clock_there i at = clock_of (part_of (link_number at.hop.link) past)

  abbrev scan_there : (i : ℕ) → HopAt network request i → Scan
  scan_there i at = scan_of at.link.shape (part_of (link_number at.hop.link) past)

  -- the hop that is asked, over its link
  here-at : (k : ℕ) (own : Hop → Ask) → AskedAt request.route k own done.link done.ask → HopAt network request k
  here-at k own at = hop-at network request k sound (slice_get_within request.route k at.hop at.stands)

  here-on : (k : ℕ) (own : Hop → Ask) (at : AskedAt request.route k own done.link done.ask) (here : HopAt network request k) → link_number done.link ≡ link_number here.hop.link
  here-on k own at here = ap link_number at.at ∙ ap link_of (same_Some at.hop here.hop (sym at.stands ∙ here.stands))

  -- it holds what its link holds after the step, and each other hop holds what it held
  changes-at : (k : ℕ) (here : HopAt network request k) (ask : Ask) (reply : Reply) (new : Option Reservation) → link_number done.link ≡ link_number here.hop.link → done.ask ≡ ask → done.reply ≡ reply → held_by request.chan (after here.link.shape (clock_there k here) (scan_there k here) ask reply).rows ≡ new → Changes (HopAt network request) now later k new
  changes-at k here ask reply new on asks told held = record {
    here = λ i at same. same-held network request i k at here (done ∷ past) same ∙ held-here network request k here done past on
        ∙ (λ j. held_by request.chan (after here.link.shape (clock_there k here) (scan_there k here) (asks j) (told j)).rows) ∙ held;
    elsewhere = λ i at other. held-elsewhere network request i at done past (other-hop network request i k at here done sound.route on other);
  }

  -- on the way back: hop k gives its reservation back
  gives-back : (k : ℕ) (deny : Denial) → progress_of request replies ≡ undoing (suc k) deny → AskedAt request.route k (λ hop. Deny request.chan) done.link done.ask → SetupGoes network request replies done past
  unfolding reply_at
  gives-back k deny is own =
      let here = here-at k (λ hop. Deny request.chan) own in
      let on = here-on k (λ hop. Deny request.chan) own here in
      let tent = back-tent None Some request (HopAt network request) now later replies done.reply rows k deny is here in
      let reply : done.reply ≡ Is.Denied = hop-reply network request k here done past next on ∙ ap (reply_at here.link (clock_there k here) (scan_there k here)) own.is ∙ ap deny_reply tent.is ∙ deny-tentative tent.terms tent.phase in
      let legal = part-admissible network past (link_number here.hop.link) here.link fits run here.linked in
      back-goes None Some request (HopAt network request) now later replies done.reply rows k deny is reply
      (changes-at k here (Deny request.chan) Is.Denied None on own.is reply (held-denied here.link.shape request.chan (clock_there k here) (scan_there k here) (legal-channels here.link.shape (part_of (link_number here.hop.link) past) legal)))

  -- on the way forth: hop k is relaxed to the level that it is allotted
  is-relaxed : (k : ℕ) (levels : List ℕ) → k < length (offers_in replies) → AreWithinReach request.delay request.route (offers_in replies) levels → progress_of request replies ≡ relaxing request.route (suc k) levels → AskedAt request.route k (λ hop. relax_at request levels k) done.link done.ask → SetupGoes network request replies done past
  unfolding reply_at
  is-relaxed k levels less within is own =
      let here = here-at k (λ hop. relax_at request levels k) own in
      let on = here-on k (λ hop. relax_at request levels k) own here in
      let tent = forth-tent None Some request (HopAt network request) now later replies done.reply rows k levels is here in
      let reply : done.reply ≡ Is.Relaxed (clock_there k here) =
      hop-reply network request k here done past next on ∙ ap (reply_at here.link (clock_there k here) (scan_there k here)) own.is
      ∙ ap (relax_reply (clock_there k here) (level_of (get_or levels k 0)) (bound_given request.route levels k)) tent.is
      ∙ relax-told Some request (offers_in replies) levels k here.hop (now k here) sound.bounds within here.stands less tent (clock_there k here) in
      forth-goes None Some request (HopAt network request) now later replies done.reply rows k levels (clock_there k here) here.hop (now k here) sound.bounds within here.stands less is tent reply
      (changes-at k here (relax_at request levels k) (Is.Relaxed (clock_there k here)) (Some (committed (level_of (get_or levels k 0)) (bound_given request.route levels k) tent.terms)) on own.is reply
      (held-relaxed here.link.shape request.chan (clock_there k here) (scan_there k here) (level_of (get_or levels k 0)) (bound_given request.route levels k) (clock_there k here) ∙ ap (option_map (committed (level_of (get_or levels k 0)) (bound_given request.route levels k))) tent.is))

  -- on the way: the next hop reserves
  abbrev n : ℕ
  n = length (offers_in replies)

  abbrev ask : Ask
  ask = reserve_of request (offers_in replies) (reach_after 0 request.route replies)

  is-reserved : length (offers_in replies) < length request.route → after_offers replies ≡ [] → progress_of request replies ≡ Reserving (offers_in replies) (reach_after 0 request.route replies)
      → AskedAt request.route (length (offers_in replies)) (λ hop. reserve_of request (offers_in replies) (reach_after 0 request.route replies)) done.link done.ask → SetupGoes network request replies done past
  unfolding reply_at after MayAnswer
  is-reserved fewer alone is own = by-reply done.reply refl (subst (λ bs. IsReserved bs request.delay done.reply) (sym here.bounds) reserved) where
    here : HopAt network request n
    here = here-at n (λ hop. ask) own

    on : link_number done.link ≡ link_number here.hop.link
    on = here-on n (λ hop. ask) own here

    none : now n here ≡ None
    none = way-free None Some request (HopAt network request) now later replies done.reply rows alone is here

    reserved : IsReserved here.link.shape.bounds request.delay done.reply
    reserved =
        let answered = hop-reply network request n here done past next on ∙ ap (reply_at here.link (clock_there n here) (scan_there n here)) own.is in
        let may = subst (λ a. MayReplyTo here.link.shape (part_of (link_number here.hop.link) past) a done.reply) own.is (hop-may network request n here done past fits run next on) in
        reserve-reply here.link _ request.chan request.contract request.delay (reach_after 0 request.route replies) done.reply none answered may

    by-reply : (r : Reply) → done.reply ≡ r → IsReserved here.hop.bounds request.delay r → SetupGoes network request replies done past
    by-reply (Is.Offer level reach) told reserved_so =
        offer-goes None Some request (HopAt network request) now later replies done.reply rows alone is level reach here.hop here.stands reserved_so told (λ i at. slice_get_within request.route i at.hop at.stands) fewer
        (changes-at n here ask (Is.Offer level reach) _ on own.is told (held-offered here.link.shape request.chan (clock_there n here) (scan_there n here) request.contract _ request.delay (reach_after 0 request.route replies) _ _ level reach none))
    by-reply (Is.Refused refusal) told usual = refused-goes None Some request (HopAt network request) now later replies done.reply rows alone is refusal told usual (changes-at n here ask (Is.Refused refusal) None on own.is told none)
    by-reply _ told reserved_so = absurd reserved_so

  -- every reply to a setup
  pub setup-goes : AreLevels request.route (offers_in replies) → next_ask request replies ≡ Some (done.link, done.ask) → SetupGoes network request replies done past
  setup-goes are asks = by-ask (setup-asks request replies done.link done.ask sound.bounds are asks) where
    by-ask : SetupAsks request replies done.link done.ask → SetupGoes network request replies done past
    by-ask (Reserves fewer alone is own) = is-reserved fewer alone is own
    by-ask (GivesBack k deny is own) = gives-back k deny is own
    by-ask (Relaxes k levels less within is own) = is-relaxed k levels less within is own

-- ---- after the last reply

-- a reservation that a hop holds then isn't tentative, and has the level that the hop was allotted
pub record KeptTerms (request : Request) (levels : List ℕ) (i : ℕ) (terms : Reservation) : Type 0 where
  pub settled : terms.phase ≡ Tentative → ⊥
  pub level : level_number terms.level ≡ get_or levels i 0
  pub up_bound : terms.up_bound ≡ bound_given request.route levels i

pub record AfterRows (network : Network) (request : Request) (levels : List ℕ) (run : List Done) : Type 0 where
  pub kept : (i : ℕ) (at : HopAt network request i) (terms : Reservation) → held_at_hop network request i at run ≡ Some terms → KeptTerms request levels i terms

-- the levels are those of the verdict, where it accepts
pub record Settles (network : Network) (request : Request) (replies : List Reply) (run : List Done) : Type 0 where
  pub levels : List ℕ
  pub accepted : Bool
  pub rows : AfterRows network request levels run
  pub comm : accepted ≡ true → (i : ℕ) (at : HopAt network request i) → IsComm Some request levels i (held_at_hop network request i at run)
  pub whole : accepted ≡ true → length request.route ≤ length levels
  pub none : accepted ≡ false → (i : ℕ) (at : HopAt network request i) → held_at_hop network request i at run ≡ None
  pub denied_is : accepted ≡ false → (deny : Denial) × (verdict_of request replies ≡ Some (Denies deny))
  pub verdict_is : accepted ≡ true → (delay : ℕ) × (verdict_of request replies ≡ Some (Accepts levels delay))
  pub verdict : (own : List ℕ) (delay : ℕ) → verdict_of request replies ≡ Some (Accepts own delay) → own ≡ levels

pub comm-kept : (request : Request) (levels : List ℕ) (i : ℕ) (held : Option Reservation) (terms : Reservation) → IsComm Some request levels i held → held ≡ Some terms → KeptTerms request levels i terms
comm-kept request levels i held terms comm is =
    let same : comm.terms ≡ terms = same_Some comm.terms terms (sym comm.is ∙ is) in
    subst (KeptTerms request levels i) same (record { settled = λ tentative. (let clash : Committed ≡ Tentative = sym comm.phase ∙ tentative in cc); level = comm.level; up_bound = comm.up_bound })

accepted-levels : (own levels : List ℕ) (delay total : ℕ) → ◌≡◌ {A = Option Outcome} (Some (Accepts levels total)) (Some (Accepts own delay)) → own ≡ levels
accepted-levels own levels delay total same = cc

-- as many levels as hops
allotted-count : (jitter : Option ℕ) (slack before : ℕ) (hops : List Hop) (offers : List ℕ) → length hops ≤ length offers → length hops ≤ length (allotment jitter slack before hops offers).levels
unfolding allotment
allotted-count jitter slack before [] offers whole = omega arith
allotted-count jitter slack before (hop ∷ hops) [] whole = absurd (omega arith)
allotted-count jitter slack before (hop ∷ hops) (offer ∷ offers) whole = (let rest = allotted-count jitter slack (suc before) hops offers (omega arith) in omega (arith, rest))

pub setup-settles : (network : Network) (request : Request) (replies : List Reply) (run : List Done) → SetupRows network request replies run → next_ask request replies ≡ None → Settles network request replies run
setup-settles network request replies run rows over = by-view (view request replies) where
  no-hop : (hops : List Hop) (j : ℕ) → j < length hops → slice_get hops j ≡ None → ⊥
  no-hop hops j inside none = (let there = stands-at hops j inside in let clash : None ≡ Some there.0 = sym none ∙ there.1 in cc)

  none-asked : (found : Option Hop) (own : Hop → Ask) → asked_of found own ≡ None → found ≡ None
  none-asked None own none = refl
  none-asked (Some hop) own none = cc

  denied : (deny : Denial) → progress_of request replies ≡ Settled (Denies deny) → Settles network request replies run
  denied deny is = record {
    levels = [];
    accepted = false;
    whole = λ is'. cc;
    denied_is = λ is'. (deny, ap settled_in is);
    comm = λ is' i at. cc;
    verdict_is = λ is'. cc;
    none = λ is'. gone;
    rows = record { kept = λ i at terms held. absurd (let clash : None ≡ Some terms = sym (gone i at) ∙ held in cc) };
    verdict = λ own delay same. absurd (let clash : Some (Denies deny) ≡ Some (Accepts own delay) = sym (ap settled_in is) ∙ same in cc);
  } where
    gone : (i : ℕ) (at : HopAt network request i) → held_at_hop network request i at run ≡ None
    gone i at = (subst (λ p. HopStands None Some request (offers_in replies) p i (held_at_hop network request i at run)) is (rows.hops i at)).tail (omega arith)

  accepted : (levels : List ℕ) (delay : ℕ) → length request.route ≤ length levels → progress_of request replies ≡ Settled (Accepts levels delay) → Settles network request replies run
  accepted levels delay count is = record {
    levels = levels;
    accepted = true;
    whole = λ is'. count;
    none = λ is'. cc;
    denied_is = λ is'. cc;
    comm = λ is' i at. (subst (λ p. HopStands None Some request (offers_in replies) p i (held_at_hop network request i at run)) is (rows.hops i at)).tail (omega arith);
    verdict_is = λ is'. (delay, ap settled_in is);
    rows = record { kept = λ i at terms held. comm-kept request levels i (held_at_hop network request i at run) terms ((subst (λ p. HopStands None Some request (offers_in replies) p i (held_at_hop network request i at run)) is (rows.hops i at)).tail (omega arith)) held };
    verdict = λ own total same. accepted-levels own levels total delay (sym (ap settled_in is) ∙ same);
  }

  back : (left : ℕ) (deny : Denial) → left ≤ length request.route → progress_of request replies ≡ undoing left deny → Settles network request replies run
  back zero deny few is = denied deny is
  back (suc left) deny few is = absurd (no-hop request.route (suc left - 1) (omega arith) (none-asked (slice_get request.route (suc left - 1)) _ (subst (λ p. asked request p ≡ None) is over)))

  forth : (left : ℕ) (levels : List ℕ) → length request.route ≤ length levels → left ≤ length request.route → progress_of request replies ≡ relaxing request.route left levels → Settles network request replies run
  forth zero levels count few is = accepted levels _ count is
  forth (suc left) levels count few is = absurd (no-hop request.route (suc left - 1) (omega arith) (none-asked (slice_get request.route (suc left - 1)) _ (subst (λ p. asked request p ≡ None) is over)))

  by-view : View request replies → Settles network request replies run
  by-view (OnWay fewer alone is) = absurd (no-hop request.route (length (offers_in replies)) fewer (none-asked (slice_get request.route (length (offers_in replies))) _ (subst (λ p. asked request p ≡ None) is over)))
  by-view (Back left deny few is) = back left deny few is
  by-view (Forth left few whole tested is) = forth left _ (allotted-count (jitter_of request.control) (request.delay - delay_over request.route (offers_in replies)) 0 request.route (offers_in replies) whole) few is
