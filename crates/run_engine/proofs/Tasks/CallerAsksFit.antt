-- Where a caller stands, its tasks and the offers of its setup fit, and what it asks meets the conditions on an ask.
use Rattle.channel_move.proofs.AskByStage.{HopAsked, hop-asked, MoveAsks, AsksFirst, AsksSubmit, AsksRest, move-asks}
use Rattle.net_units.specs.Limits.{most_packets}
use Rattle.std.proofs.Common.{arith, ◌≡◌, ℕ, zero, suc, ◌-◌, ◌≤◌, true, List, [], ◌∷◌, ◌++◌, length, Option, Some, None, refl, sym, ap, ◌∙◌, subst, inl, inr, option_map}
use Rattle.run_engine.proofs.Words.{hop_link, shifted_in, ChanNo, nat_eq, not, ◌&&◌, cases_Bool, cases_lt, cond_both, eqb-false, same_Some, slice_get, link_number, level_number, LinkNo, AreLevels, IsLevelOf, Hop, Ask, Relax, Submit, Deny, Release, Arrive, Tick, Entry, Reply, LinkShape, Link, AskFits, SubmitFits, Each, Reserving, is_offer, level_in, offers_in, after_offers, reach_after, undoing, relaxing, on_the_way, after_test, at_destination, asked, asked_of, reserve_of, next_ask, progress_of, first_count, Request, TaskFits, IsHopOf, RequestFits, Task, Opens, Sends, Closes, Moves, Learnt, PlannedOn, MovedTo, Standing, Packets, packets_ask, task_ask, takes_step, ready, from_step, begun, is_that, newest, or_before, packets_by, packets_in, last_packets, move_between, outcome_by, continued, resumed, replied, standing, first_ask, ask_at, FewCancelled, MayReplyTo, IsReserve}
use Rattle.net_units.specs.declared.numbers.Level.{Level}
use Rattle.hop_reservation.proofs.OneMoreOffer.{AreLevels-push}
use Rattle.link_steps.specs.declared.replies.Reply.TheVariants as Is
use Rattle.relaxation.specs.declared.EndDenial.{EndDenial}
use Rattle.setup_protocol.specs.declared.verdict.Deny.{Deny as Denial}
use Rattle.setup_protocol.proofs.HopAsks.{asked-at, of-setup}
use Rattle.setup_protocol.proofs.SetupAsksFit.{ask-fits}
use Rattle.setup_protocol.proofs.SetupAdvances.{offers-other, offers-more, progress-on_the_way, progress-tested}
use Rattle.link_steps.proofs.ListParts.{Each-at}
use Rattle.channel_laws.proofs.NextLinks.{NamesNext}
use Rattle.channel_laws.proofs.OfferAnswers.{offer-answers}
use Rattle.run_engine.specs.runs.Linked.{IsLinkThere}
use Rattle.run_engine.proofs.Tasks.SingleAskTask.{once-asked, packets-hold}
use Rattle.run_engine.proofs.Tasks.TaskNotes.{once-over}

-- ---- what callers ask

abbrev pub IsCallers : Ask → Type 0
IsCallers (Arrive packet) = ⊥
IsCallers Tick = ⊥
IsCallers _ = Unit {0}

-- a link that comes next, if there is one, is there
abbrev pub NextLinked : List Link → Option LinkNo → Type 0
NextLinked links None = Unit {0}
NextLinked links (Some to) = IsLinkThere links to

-- an ask of a link of the network that meets its conditions there; where it names a next link, that is one of the network's, too
pub record AsksLink (links : List Link) (to : LinkNo) (ask : Ask) : Type 0 where
  pub callers : IsCallers ask
  pub linked : IsLinkThere links to
  pub next : NamesNext (NextLinked links) ask
  pub fits : (link : Link) → slice_get links (link_number to) ≡ Some link → AskFits link.shape ask

-- a reply tells of no more packets to shift than one submit may plan
abbrev pub FewShifted : Reply → Type 0
FewShifted reply = shifted_in reply ≤ most_packets

pub few-told : (reply : Reply) → FewCancelled reply → FewShifted reply
few-told (Is.Closing count cancelled) few = few
few-told _ few = omega arith

-- so does the first one to a move
abbrev pub FirstFew : List Reply → Type 0
FirstFew [] = Unit {0}
FirstFew (first ∷ replies) = FewShifted first

-- the offers of the setup under way are levels of their hops
abbrev pub OffersFit : List Task → List Reply → Type 0
OffersFit (Opens request ∷ tasks) replies = AreLevels request.route (offers_in replies)
OffersFit (Moves old new gap size ∷ tasks) replies = FirstFew replies
OffersFit _ replies = Unit {0}

-- the first task alone
pub first-fits : (task : Task) (tasks : List Task) (replies : List Reply) → OffersFit (task ∷ tasks) replies → OffersFit (task ∷ []) replies
first-fits (Opens request) tasks replies are = are
first-fits _ tasks replies are = are

with-rest : (task : Task) (tasks : List Task) (replies : List Reply) → OffersFit (task ∷ []) replies → OffersFit (task ∷ tasks) replies
with-rest (Opens request) tasks replies are = are
with-rest _ tasks replies are = are

-- no replies to the task that begins
none-yet : (tasks : List Task) → OffersFit tasks []
unfolding offers_in AreLevels
none-yet (Opens request ∷ tasks) = tt
none-yet _ = tt

-- ---- what callers have learnt

-- what a caller has learnt of packets that were planned: they keep their limits
abbrev pub NoteFits : Learnt → Type 0
NoteFits (PlannedOn chan gap size) = SubmitFits 1 gap size
NoteFits (MovedTo old new told gap size) = SubmitFits 1 gap size
NoteFits _ = Unit {0}

one-fits : SubmitFits 1 1 1
one-fits = record { count_least = omega arith; count_most = omega arith; gap_least = omega arith; gap_most = omega arith; size_least = omega arith; size_most = omega arith }

-- so do the last packets that were planned on a channel
PacketsFit : Option Packets → Type 0
PacketsFit None = Unit {0}
PacketsFit (Some packets) = SubmitFits 1 packets.gap packets.size

one-packets : (chan : ChanNo) (note : Learnt) → NoteFits note → PacketsFit (packets_by chan note)
unfolding PacketsFit
one-packets chan (PlannedOn own gap size) fits = cond_both (is_that chan own) (Some (record { gap = gap; size = size })) None PacketsFit (λ _. fits) (λ _. tt)
one-packets chan (MovedTo old new told gap size) fits = cond_both (is_that chan new && not (nat_eq told.shifted 0)) (Some (record { gap = gap; size = size })) None PacketsFit (λ _. fits) (λ _. tt)
one-packets chan _ fits = tt

or-fits : (found before : Option Packets) → PacketsFit found → PacketsFit before → PacketsFit (or_before found before)
unfolding PacketsFit
or-fits None before fits fit = fit
or-fits (Some packets) before fits fit = fits

newest-packets : (chan : ChanNo) (notes : List Learnt) → Each NoteFits notes → PacketsFit (newest (packets_by chan) notes)
unfolding newest PacketsFit
newest-packets chan [] each = tt
newest-packets chan (note ∷ notes) each = or-fits (packets_by chan note) (newest (packets_by chan) notes) (one-packets chan note each.0) (newest-packets chan notes each.1)

last-packets : (chan : ChanNo) (notes : List Learnt) → Each NoteFits notes → SubmitFits 1 (last_packets chan notes).gap (last_packets chan notes).size
unfolding last_packets PacketsFit
last-packets chan notes each = by (newest (packets_by chan) notes) (newest-packets chan notes each) where
  by : (found : Option Packets) → PacketsFit found → SubmitFits 1 (packets_in found).gap (packets_in found).size
  by None fits = one-fits
  by (Some packets) fits = fits

-- what a task tells fits
one-of : (count gap size : ℕ) → SubmitFits count gap size → SubmitFits 1 gap size
one-of count gap size fits = record { count_least = omega arith; count_most = omega arith; gap_least = fits.gap_least; gap_most = fits.gap_most; size_least = fits.size_least; size_most = fits.size_most }

pub record StandingFits (links : List Link) (at : Standing) : Type 0 where
  pub tasks : Each (TaskFits links) at.tasks
  pub offers : OffersFit at.tasks at.replies
  pub notes : Each NoteFits at.outcomes

-- ---- offers

-- only a setup whose hops are reserving asks a reserve
pub undone-asks : (request : Request) (left : ℕ) (deny : Denial) (to : LinkNo) (ask : Ask) → asked request (undoing left deny) ≡ Some (to, ask) → IsReserve ask → ⊥
undone-asks request zero deny to ask same is = cc
undone-asks request (suc left) deny to ask same is = go (slice_get request.route (suc left - 1)) same where
  go : (found : Option Hop) → asked_of found (λ hop. Deny request.chan) ≡ Some (to, ask) → ⊥
  go None none = cc
  go (Some hop) some = (let e : ask ≡ Deny request.chan = sym (ap (λ pair. pair.1) (same_Some (hop.link, Deny request.chan) (to, ask) some)) in subst IsReserve e is)

relaxing-asks : (request : Request) (left : ℕ) (levels : List ℕ) (to : LinkNo) (ask : Ask) → asked request (relaxing request.route left levels) ≡ Some (to, ask) → IsReserve ask → ⊥
relaxing-asks request zero levels to ask same is = cc
relaxing-asks request (suc left) levels to ask same is = go (slice_get request.route (suc left - 1)) _ _ same where
  go : (found : Option Hop) (level : Level) (bound : ℕ) → asked_of found (λ hop. Relax request.chan level bound) ≡ Some (to, ask) → ⊥
  go None level bound none = cc
  go (Some hop) level bound some = (let e : ask ≡ Relax request.chan level bound = sym (ap (λ pair. pair.1) (same_Some (hop.link, Relax request.chan level bound) (to, ask) some)) in subst IsReserve e is)

pub tested-asks : (request : Request) (offers : List ℕ) (count : ℕ) (denial : Option EndDenial) (to : LinkNo) (ask : Ask) → asked request (after_test request offers count denial) ≡ Some (to, ask) → IsReserve ask → ⊥
tested-asks request offers count (Some denial) to ask same is = undone-asks request _ _ to ask same is
tested-asks request offers count None to ask same is = relaxing-asks request _ _ to ask same is

-- an offer after another reply doesn't stand among the first ones
offers-after : (replies : List Reply) (first reply : Reply) (rest : List Reply) → after_offers replies ≡ first ∷ rest → offers_in (replies ++ reply ∷ []) ≡ offers_in replies
unfolding offers_in after_offers
offers-after [] first reply rest after = cc
offers-after (r ∷ replies) first reply rest after =
    elim (cases_Bool (is_offer r)) [
      | inl offer ↦ rw offer (ap (λ levels. level_in r ∷ levels) (offers-after replies first reply rest (rw offer at after)))
      | inr plain ↦ rw plain refl
    ]

reserve-asks : (found : Option Hop) (to : LinkNo) (ask : Ask) (own : Hop → Ask) → asked_of found own ≡ Some (to, ask) → (hop : Hop) × (found ≡ Some hop) × (to ≡ hop.link)
reserve-asks None to ask own same = cc
reserve-asks (Some hop) to ask own same = (hop, refl, sym (ap (λ pair. pair.0) (same_Some (hop.link, own hop) (to, ask) same)))

-- where the ask is a release
abbrev pub IfRelease : Ask → Type 0 → Type 0
IfRelease (Release chan upstream) is = is
IfRelease _ is = Unit {0}

module _ (links : List Link) where
  -- with the same link found
  same-link : (hop : Hop) (to : LinkNo) (link : Link) → (is : IsHopOf links hop) → to ≡ hop.link → slice_get links (link_number to) ≡ Some link → link ≡ is.link
  same-link hop to link is same found = same_Some link is.link (sym found ∙ ap (λ l. slice_get links (link_number l)) same ∙ is.linked)

  -- the link of a hop, and the link of the hop at a place, if there is one
  hop-linked : (hop : Hop) → IsHopOf links hop → IsLinkThere links hop.link
  hop-linked hop is = record { link = is.link; found = is.linked }

  place-linked : (route : List Hop) (i : ℕ) (found : Option Hop) → Each (IsHopOf links) route → slice_get route i ≡ found → NextLinked links (option_map hop_link found)
  place-linked route i None hops is = tt
  place-linked route i (Some hop) hops is = hop-linked hop (Each-at (IsHopOf links) route i hop hops is)

  -- ---- what a task asks

  opens-asks : (request : Request) (replies : List Reply) (to : LinkNo) (ask : Ask) → RequestFits links request → AreLevels request.route (offers_in replies) → next_ask request replies ≡ Some (to, ask) → AsksLink links to ask
  opens-asks request replies to ask fits are same =
      let asks = ask-fits request replies to ask fits.contract fits.bounds are same in
      let hop = Each-at (IsHopOf links) request.route asks.index asks.hop fits.hops asks.stands in
      record {
        callers = of-setup IsCallers request (progress_of request replies) to ask (λ offers reach. tt) tt (λ levels place. tt) same;
        linked = subst (IsLinkThere links) (sym asks.is_asked) (hop-linked asks.hop hop);
        next = of-setup (NamesNext (NextLinked links)) request (progress_of request replies) to ask (λ offers reach. place-linked request.route (suc (length offers)) (slice_get request.route (suc (length offers))) fits.hops refl) tt (λ levels place. tt) same;
        fits = λ link found. asks.fits link.shape (ap (λ l. l.shape.bounds) (same-link asks.hop to link hop asks.is_asked found) ∙ sym hop.bounds);
      }

  -- an ask of a hop that meets the conditions of each link
  hop-asks : (route : List Hop) (i : ℕ) (own : Ask) (to : LinkNo) (ask : Ask) → Each (IsHopOf links) route → IsCallers own → NamesNext (NextLinked links) own → ((shape : LinkShape) → AskFits shape own) → HopAsked route i to → ask ≡ own → AsksLink links to ask
  hop-asks route i own to ask hops callers next fits at is = record {
    callers = subst IsCallers (sym is) callers;
    linked = subst (IsLinkThere links) (sym at.at) (hop-linked at.hop (Each-at (IsHopOf links) route i at.hop hops at.stands));
    next = subst (NamesNext (NextLinked links)) (sym is) next;
    fits = λ link found. subst (AskFits link.shape) (sym is) (fits link.shape);
  }

  task-asks : (task : Task) (replies : List Reply) (to : LinkNo) (ask : Ask) → TaskFits links task → OffersFit (task ∷ []) replies → task_ask task replies ≡ Some (to, ask) → AsksLink links to ask
  task-asks (Opens request) replies to ask fits are same = opens-asks request replies to ask fits are same
  task-asks (Sends at chan count gap size) replies to ask fits are same =
      let once = once-asked at (packets_ask chan count gap size) replies to ask same in
      record {
        callers = subst IsCallers once.is (packets-hold IsCallers chan count gap size (λ c. tt) tt);
        linked = subst (IsLinkThere links) once.at (record { link = fits.link; found = fits.linked });
        next = subst (NamesNext (NextLinked links)) once.is (packets-hold (NamesNext (NextLinked links)) chan count gap size (λ c. tt) tt);
        fits = λ link found. (let is : fits.link ≡ link = same_Some fits.link link (sym fits.linked ∙ ap (λ l. slice_get links (link_number l)) once.at ∙ found) in
            subst (AskFits link.shape) once.is (subst (λ l. AskFits l.shape (packets_ask chan count gap size)) is fits.packets));
      }
  task-asks (Moves old new gap size) replies to ask fits are same = by (move-asks (move_between old new gap size) replies to ask same) where
    by : MoveAsks (move_between old new gap size) replies to ask → AsksLink links to ask
    by (AsksFirst none at is) = hop-asks old.route 0 (Release old.chan None) to ask fits.of_old.hops tt tt (λ shape. tt) at is
    by (AsksRest told made stage at is) = hop-asks old.route made (Release old.chan (Some told.kept)) to ask fits.of_old.hops tt tt (λ shape. tt) at is
    by (AsksSubmit first one some at is) =
        (let few : FewShifted first = subst FirstFew one are in
        let other = eqb-false (shifted_in first) 0 some in
        let packets = fits.packets in
        hop-asks new.route 0 (Submit new.chan (shifted_in first) gap size) to ask fits.of_new.hops tt tt
        (λ shape. record { count_least = omega (arith, other); count_most = few; gap_least = packets.gap_least; gap_most = packets.gap_most; size_least = packets.size_least; size_most = packets.size_most }) at is)
  task-asks (Closes request) replies to ask fits are same =
      let own = asked-at request.route (length replies) (λ hop. Release request.chan (first_count replies)) to ask same in
      hop-asks request.route (length replies) (Release request.chan (first_count replies)) to ask fits.hops tt tt (λ shape. tt) (record { hop = own.hop; stands = own.stands; at = own.at }) own.is

  asks-first : (tasks : List Task) (replies : List Reply) (to : LinkNo) (ask : Ask) → Each (TaskFits links) tasks → OffersFit tasks replies → first_ask tasks replies ≡ Some (to, ask) → AsksLink links to ask
  asks-first [] replies to ask fits are same = cc
  asks-first (task ∷ tasks) replies to ask fits are same = task-asks task replies to ask fits.0 (first-fits task tasks replies are) same

  pub standing-asks : (at : Standing) (to : LinkNo) (ask : Ask) → StandingFits links at → ask_at at ≡ Some (to, ask) → AsksLink links to ask
  standing-asks at to ask fits same = asks-first at.tasks at.replies to ask fits.tasks fits.offers same

  -- ---- one reply more

  -- the level of an offer that a hop has made
  offered-level : (hop : Hop) (to : LinkNo) (link : Link) (h : List Entry) (ask : Ask) (reply : Reply) → IsHopOf links hop → to ≡ hop.link → slice_get links (link_number to) ≡ Some link → MayReplyTo link.shape h ask reply → is_offer reply ≡ true → IsLevelOf hop (level_in reply) × IsReserve ask
  offered-level hop to link h ask (Is.Offer level reach) is same found answered offer =
      let tells = offer-answers link.shape h ask level reach answered in
      let bounds : hop.bounds ≡ link.shape.bounds = is.bounds ∙ ap (λ l. l.shape.bounds) (sym (same-link hop to link is same found)) in
      (record { least = level.least; most = subst (λ bs. level_number level ≤ length bs) (sym bounds) tells.most }, tells.reserve)
  offered-level hop to link h ask _ is same found answered offer = cc

  -- one offer more where no reply but offers came
  one-offer : (request : Request) (replies : List Reply) (reply : Reply) (to : LinkNo) (ask : Ask) (link : Link) (h : List Entry) → RequestFits links request → AreLevels request.route (offers_in replies) → next_ask request replies ≡ Some (to, ask) → slice_get links (link_number to) ≡ Some link → MayReplyTo link.shape h ask reply → is_offer reply ≡ true → after_offers replies ≡ [] → AreLevels request.route (offers_in replies ++ level_in reply ∷ [])
  one-offer request replies reply to ask link h fits are same found answered offer after =
      elim (cases_lt (length (offers_in replies)) (length request.route)) [
        | inl fewer ↦
            (let e : progress_of request replies ≡ Reserving (offers_in replies) (reach_after 0 request.route replies) = progress-on_the_way request replies fewer ∙ ap (on_the_way (offers_in replies) (reach_after 0 request.route replies)) after in
            let own : asked_of (slice_get request.route (length (offers_in replies))) (λ hop. reserve_of request (offers_in replies) (reach_after 0 request.route replies)) ≡ Some (to, ask) = subst (λ p. asked request p ≡ Some (to, ask)) e same in
            let at = reserve-asks (slice_get request.route (length (offers_in replies))) to ask _ own in
            let hop = Each-at (IsHopOf links) request.route (length (offers_in replies)) at.0 fits.hops at.1 in
            AreLevels-push request.route (offers_in replies) at.0 (level_in reply) at.1 are (offered-level at.0 to link h ask reply hop at.2 found answered offer).0)
        | inr whole ↦
            (let tested : asked request (at_destination request (offers_in replies) (length (after_offers replies))) ≡ Some (to, ask) = subst (λ p. asked request p ≡ Some (to, ask)) (progress-tested request replies whole) same in
            absurd (tested-asks request (offers_in replies) _ _ to ask tested (is-reserve reply answered offer)))
      ] where
        is-reserve : (r : Reply) → MayReplyTo link.shape h ask r → is_offer r ≡ true → IsReserve ask
        is-reserve (Is.Offer level reach) is some = (offer-answers link.shape h ask level reach is).reserve
        is-reserve _ is some = cc

  pub offers-go-on : (request : Request) (replies : List Reply) (reply : Reply) (to : LinkNo) (ask : Ask) (link : Link) (h : List Entry) → RequestFits links request → AreLevels request.route (offers_in replies) → next_ask request replies ≡ Some (to, ask) → slice_get links (link_number to) ≡ Some link → MayReplyTo link.shape h ask reply → AreLevels request.route (offers_in (replies ++ reply ∷ []))
  offers-go-on request replies reply to ask link h fits are same found answered =
      elim (cases_Bool (is_offer reply)) [
        | inl offer ↦ by-rest (after_offers replies) refl offer
        | inr plain ↦ subst (AreLevels request.route) (sym (offers-other replies reply plain)) are
      ] where
        by-rest : (rest : List Reply) → after_offers replies ≡ rest → is_offer reply ≡ true → AreLevels request.route (offers_in (replies ++ reply ∷ []))
        by-rest [] after offer = subst (AreLevels request.route) (sym (offers-more replies reply after offer)) (one-offer request replies reply to ask link h fits are same found answered offer after)
        by-rest (first ∷ rest) after offer = subst (AreLevels request.route) (sym (offers-after replies first reply rest after)) are

  -- a task that begins fits
  ready-fits : (outcomes : List Learnt) (task : Task) → Each NoteFits outcomes → TaskFits links task → TaskFits links (ready outcomes task)
  ready-fits outcomes (Moves old new gap size) notes fits = record { of_old = fits.of_old; of_new = fits.of_new; same = fits.same; apart = fits.apart; packets = last-packets old.chan outcomes notes }
  ready-fits outcomes _ notes fits = fits

  notes-by : (task : Task) (replies : List Reply) (outcomes : List Learnt) → TaskFits links task → Each NoteFits outcomes → Each NoteFits (outcome_by task replies ++ outcomes)
  notes-by task replies outcomes fits notes =
      once-over (Each NoteFits) task replies outcomes
      (λ request outcome is told. (tt, notes))
      (λ link chan count gap size clock rest is told. (one-of count gap size (subst (TaskFits links) is fits).packets, notes))
      (λ old new gap size told is first. ((subst (TaskFits links) is fits).packets, notes))
      notes

  from-step-fits : (outcomes : List Learnt) (tasks : List Task) → Each NoteFits outcomes → Each (TaskFits links) tasks → Each (TaskFits links) (from_step outcomes tasks)
  unfolding from_step
  from-step-fits outcomes [] notes each = tt
  from-step-fits outcomes (task ∷ tasks) notes each =
      cond_both (takes_step outcomes task) (ready outcomes task ∷ tasks) (from_step outcomes tasks) (Each (TaskFits links)) (λ _. (ready-fits outcomes task notes each.0, each.1)) (λ _. from-step-fits outcomes tasks notes each.1)

  pub begun-fits : (outcomes : List Learnt) (tasks : List Task) → Each NoteFits outcomes → Each (TaskFits links) tasks → StandingFits links (begun outcomes tasks)
  begun-fits outcomes tasks notes each = record { tasks = from-step-fits outcomes tasks notes each; offers = none-yet (from_step outcomes tasks); notes = notes }

  task-goes-on : (task : Task) (replies : List Reply) (reply : Reply) (to : LinkNo) (ask : Ask) (link : Link) (h : List Entry) → TaskFits links task → OffersFit (task ∷ []) replies → task_ask task replies ≡ Some (to, ask) → slice_get links (link_number to) ≡ Some link → MayReplyTo link.shape h ask reply → IfRelease ask (FewShifted reply) → OffersFit (task ∷ []) (replies ++ reply ∷ [])
  task-goes-on (Opens request) replies reply to ask link h fits are same found answered few = offers-go-on request replies reply to ask link h fits are same found answered
  task-goes-on (Moves old new gap size) [] reply to ask link h fits are same found answered few = (let at = hop-asked old.route 0 (Release old.chan None) to ask same in subst (λ a. IfRelease a (FewShifted reply)) at.1 few)
  task-goes-on (Moves old new gap size) (first ∷ replies) reply to ask link h fits are same found answered few = are
  task-goes-on _ replies reply to ask link h fits are same found answered few = tt

  continued-fits : (outcomes : List Learnt) (task : Task) (tasks : List Task) (replies : List Reply) (next : Option (LinkNo × Ask)) → Each NoteFits outcomes → Each (TaskFits links) (task ∷ tasks) → OffersFit (task ∷ []) replies → StandingFits links (continued outcomes task tasks replies next)
  continued-fits outcomes task tasks replies (Some to) notes each are = record { tasks = each; offers = with-rest task tasks replies are; notes = notes }
  continued-fits outcomes task tasks replies None notes each are = begun-fits (outcome_by task replies ++ outcomes) tasks (notes-by task replies outcomes each.0 notes) each.1

  resumed-fits : (outcomes : List Learnt) (tasks : List Task) (replies : List Reply) (reply : Reply) (to : LinkNo) (ask : Ask) (link : Link) (h : List Entry) → Each NoteFits outcomes → Each (TaskFits links) tasks → OffersFit tasks replies → first_ask tasks replies ≡ Some (to, ask) → slice_get links (link_number to) ≡ Some link → MayReplyTo link.shape h ask reply → IfRelease ask (FewShifted reply) → StandingFits links (resumed outcomes tasks (replies ++ reply ∷ []))
  unfolding resumed
  resumed-fits outcomes [] replies reply to ask link h notes each are same found answered few = cc
  resumed-fits outcomes (task ∷ tasks) replies reply to ask link h notes each are same found answered few =
      continued-fits outcomes task tasks (replies ++ reply ∷ []) (task_ask task (replies ++ reply ∷ [])) notes each
      (task-goes-on task replies reply to ask link h each.0 (first-fits task tasks replies are) same found answered few)

  pub replied-fits : (at : Standing) (reply : Reply) (to : LinkNo) (ask : Ask) (link : Link) (h : List Entry) → StandingFits links at → ask_at at ≡ Some (to, ask) → slice_get links (link_number to) ≡ Some link → MayReplyTo link.shape h ask reply → IfRelease ask (FewShifted reply) → StandingFits links (replied at reply)
  replied-fits at reply to ask link h fits same found answered few = resumed-fits at.outcomes at.tasks at.replies reply to ask link h fits.notes fits.tasks fits.offers same found answered few

-- where a script stands with one reply more
pub standing-more : (tasks : List Task) (reply : Reply) (before : List Reply) → standing tasks (reply ∷ before) ≡ resumed (standing tasks before).outcomes (standing tasks before).tasks ((standing tasks before).replies ++ reply ∷ [])
unfolding standing
standing-more tasks reply before = refl
