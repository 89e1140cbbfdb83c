-- A whole window, shown to a watcher that lags: it begins where each link has answered, goes from link to link and from round to round, and
-- when it is over the watcher catches up.
use Rattle.std.proofs.Common.{◌≡◌, ◌≢◌, ℕ, zero, suc, ◌+◌, ◌*◌, ◌-◌, ◌<◌, ◌≤◌, ◌^◌, true, List, [], ◌∷◌, ◌++◌, length, drop, filter, Option, Some, None, refl, sym, ap, ◌∙◌, subst, arith}
use Rattle.std.proofs.lemmas.Bool.{le-ltb}
use Rattle.std.proofs.lemmas.Option.{same_Some, slice_get_within}
use Rattle.std.specs.List.{slice_get}
use Rattle.net_units.specs.Numbers.{link_at, link_number}
use Rattle.net_units.specs.declared.numbers.ActorNo.{ActorNo}
use Rattle.net_units.specs.declared.numbers.LinkNo.{LinkNo}
use Rattle.net_units.proofs.KnownByNumber.{same-link}
use Rattle.net_units.proofs.ListPlaces.{length-passed}
use Rattle.link_steps.specs.Lists.{Each}
use Rattle.link_steps.specs.declared.asks.Ask.TheVariants.{Tick}
use Rattle.link_steps.specs.declared.replies.Entry.{Entry}
use Rattle.link_steps.specs.declared.replies.Reply.{Reply}
use Rattle.link_steps.proofs.SearchAndFilter.{Each-if, filter-all}
use Rattle.link_quota.specs.Any.{any_rules, AnyStands}
use Rattle.call_script.proofs.PlansFit.{plan-fits, links-are}
use Rattle.call_script.specs.Parts.{PlanParts}
use Rattle.call_script.specs.Tasks.{Network, network_of}
use Rattle.tick_plane.specs.Coming.{is_from}
use Rattle.tick_plane.specs.PlaneAccount.{PlaneAccount}
use Rattle.tick_plane.specs.Planes.{Plane, flight_in, next_due, plane_ask, IsDueLater}
use Rattle.tick_plane.specs.Windows.{window_at}
use Rattle.tick_plane.specs.declared.flight.Flight.{Flight}
use Rattle.run_record.specs.Runs.{part_of}
use Rattle.run_record.specs.declared.done.Done.{Done}
use Rattle.run_engine.specs.runs.Runs.{plane_at}
use Rattle.run_engine.specs.schedules.Lagging.{is_told, IsNextTold, LagsBy, MayLag}
use Rattle.run_engine.specs.schedules.PlaneSteps.{plane_step}
use Rattle.run_engine.specs.schedules.Quiet.{the_plane}
use Rattle.run_engine.proofs.Flights.Punctual.{run-punctual}
use Rattle.run_engine.proofs.Keeping.KeptActors.{plane-number}
use Rattle.run_engine.proofs.Keeping.Lookups.{Held, held, head-same}
use Rattle.run_engine.proofs.Keeping.NextStep.{callers-few}
use Rattle.run_engine.proofs.Watched.QuietRounds.{plane-is}
use Rattle.run_engine.proofs.Runs.RunLength.{run-short}
use Rattle.run_engine.proofs.Runs.RunLegal.{link_at-number, run-stands}
use Rattle.plane_workers.specs.Answered.{answered, replies_along}
use Rattle.plane_workers.specs.Seen.{GoesTo, SeenBetween}
use Rattle.plane_workers.specs.Showing.{KeepsTold, LinkAt, Shows, left_of, rules_of, stands_of}
use Rattle.plane_workers.specs.Tracks.{HasTold, next_clock, track_left, track_rules, track_stands}
use Rattle.plane_workers.specs.Windows.{KeepsGap, LinkIsAhead}
use Rattle.plane_workers.specs.declared.track.Track.{Track}
use Rattle.plane_workers.proofs.NextWindowStep.{goes-none, more-left}
use Rattle.plane_workers.proofs.RepliesAhead.{ahead-over}
use Rattle.plane_workers.proofs.ShownInTurn.{has, own, fewer-flights, next-told, sent-later, shows-arrived, shows-quiet, shows-told, keeps-first, told-now, untold-now, ticks, number}
use Rattle.plane_workers.proofs.WholeWindow.{keeps-less}

-- ---- link by link

module _ {W : Type 0} (saw : W → PlanParts → List Done → Type 0) (lags : W → PlanParts → List Done → List Done → Type 0) (laws : MayLag saw lags) (parts : PlanParts) (until round place : ℕ) (tracks : List Track) (plane : PlaneAccount) (watch : W) (past : List Done) (before : place < length (network_of parts).links) (early : round < until) where
  abbrev network : Network
  network = network_of parts

  abbrev Here : Type 0
  Here = Shows lags parts until round place tracks plane watch past

  soon : (is : Here) → (plane_at network is.run).round < until
  soon is = (let at = (is.at.here before).0 in omega (arith, at, early))

  -- what is due in the round has arrived
  pub record Settled : Type 0 where
    pub shows : Here
    pub none : next_due (plane_at network shows.run) ≡ None

  settle : (n : ℕ) (is : Here) (due : Option Flight) → next_due (plane_at network is.run) ≡ due → length (plane_at network is.run).flights ≤ n → Settled
  settle n is None next few = record { shows = is; none = next }
  settle zero is (Some flight) next few = absurd (let less = fewer-flights saw lags laws parts until round place tracks plane watch past is (soon is) flight next in omega (arith, less, few))
  settle (suc n) is (Some flight) next few =
      let on = shows-arrived saw lags laws parts until round place tracks plane watch past is (soon is) flight next in
      settle n on (next_due (plane_at network on.run)) refl (let less = fewer-flights saw lags laws parts until round place tracks plane watch past is (soon is) flight next in omega (arith, less, few))

  settled : Here → Settled
  settled is = settle (length (plane_at network is.run).flights) is (next_due (plane_at network is.run)) refl (omega arith)

  module _ (is : Here) where
    abbrev now : Here
    now = (settled is).shows

    abbrev told : Reply
    told = (has saw lags laws parts until round place tracks plane watch past now (soon now) (link_at (plane_at network now.run).ticked) Tick (ticks saw lags laws parts until round place tracks plane watch past now (soon now) before (settled is).none)).0

    -- the link has told nothing in this round
    pub passes-quiet : (track : Track) → slice_get tracks place ≡ Some track → next_clock (track_left track) ≢ round → Shows lags parts until round (place + 1) tracks plane watch past
    passes-quiet track found other =
        shows-quiet saw lags laws parts until round place tracks plane watch past now (soon now) before (settled is).none
        (untold-now saw lags laws parts until round place tracks plane watch past now (soon now) before (settled is).none track found other)

-- what the link told in this round is shown next
pub record TellsNext {W : Type 0} (lags : W → PlanParts → List Done → List Done → Type 0) (parts : PlanParts) (until round place : ℕ) (tracks : List Track) (plane : PlaneAccount) (watch : W) (past : List Done) (track : Track) : Type 0 where
  pub run : List Done
  pub reply : Reply
  pub more : List Reply
  pub first : track_left track ≡ reply ∷ more
  pub later : IsDueLater plane.at.round reply
  pub next : IsNextTold lags parts watch past run (link_at place) reply
  pub on : (tracks' : List Track) (plane' : PlaneAccount) (watch' : W) → length tracks' ≡ length tracks → ((n : ℕ) → n ≢ place → slice_get tracks' n ≡ slice_get tracks n)
      → ((x y : Track) → slice_get tracks place ≡ Some x → slice_get tracks' place ≡ Some y → (y.link ≡ x.link) × (track_left x ≡ reply ∷ track_left y))
      → plane'.at ≡ record plane.at { flights = plane.at.flights ++ flight_in reply } → plane'.links ≡ plane.links → plane'.rounds ≡ plane.rounds
      → lags watch' parts past (plane_step (network_of parts) (link_at place) Tick reply ∷ run) → Shows lags parts until round (place + 1) tracks' plane' watch' past

module _ {W : Type 0} (saw : W → PlanParts → List Done → Type 0) (lags : W → PlanParts → List Done → List Done → Type 0) (laws : MayLag saw lags) (parts : PlanParts) (until round place : ℕ) (tracks : List Track) (plane : PlaneAccount) (watch : W) (past : List Done) (before : place < length (network_of parts).links) (early : round < until)
    (is : Shows lags parts until round place tracks plane watch past) (track : Track) (found : slice_get tracks place ≡ Some track) (due : next_clock (track_left track) ≡ round) where
  abbrev still : Settled saw lags laws parts until round place tracks plane watch past before early
  still = settled saw lags laws parts until round place tracks plane watch past before early is

  abbrev shown : Shows lags parts until round place tracks plane watch past
  shown = still.shows

  first-early : (plane_at (network_of parts) shown.run).round < until
  first-early = soon saw lags laws parts until round place tracks plane watch past before early shown

  abbrev to : LinkNo
  to = link_at (plane_at (network_of parts) shown.run).ticked

  at-place : to ≡ link_at place
  at-place = ap link_at (shown.at.here before).1

  asked : Some (to, Tick) ≡ plane_ask (network_of parts).rounds (plane_at (network_of parts) shown.run)
  asked = ticks saw lags laws parts until round place tracks plane watch past shown first-early before still.none

  abbrev rest-of : (reply : Reply) × ((rest : List Reply) × ((own saw lags laws parts until round place tracks plane watch past shown first-early to Tick asked).item.left ≡ reply ∷ rest))
  rest-of = has saw lags laws parts until round place tracks plane watch past shown first-early to Tick asked

  is-told : is_told rest-of.0 ≡ true
  unfolding asked
  is-told = told-now saw lags laws parts until round place tracks plane watch past shown first-early before still.none track found due

  pub tells-next : TellsNext lags parts until round place tracks plane watch past track
  unfolding settled first-early asked
  tells-next = record {
    run = shown.run;
    reply = rest-of.0;
    more = filter is_told rest-of.1.0;
    first = keeps-first saw lags laws parts until round place tracks plane watch past shown first-early before still.none track found ∙ rw is-told refl;
    later = sent-later saw lags laws parts until round place tracks plane watch past shown first-early before still.none is-told;
    next = subst (λ link. IsNextTold lags parts watch past shown.run link rest-of.0) at-place (next-told saw lags laws parts until round place tracks plane watch past shown first-early before still.none is-told);
    on = λ on sent seen long others passes sends links' rounds' lag.
        shows-told saw lags laws parts until round place tracks plane watch past shown first-early before still.none is-told on sent seen long others passes sends links' rounds'
        (subst (λ link. lags seen parts past (plane_step (network_of parts) link Tick rest-of.0 ∷ shown.run)) (sym at-place) lag);
  }

-- a link of the run has a track
pub place-there : {W : Type 0} (lags : W → PlanParts → List Done → List Done → Type 0) (parts : PlanParts) (until round place : ℕ) (tracks : List Track) (plane : PlaneAccount) (watch : W) (past : List Done) → Shows lags parts until round place tracks plane watch past → place < length tracks → place < length (network_of parts).links
place-there lags parts until round place tracks plane watch past is inside = (let same = is.kept.same in let linked = is.within.ahead.same in omega (arith, inside, same, linked))

-- where the track's next reply has this round's clock
module _ {W : Type 0} (saw : W → PlanParts → List Done → Type 0) (lags : W → PlanParts → List Done → List Done → Type 0) (laws : MayLag saw lags) (parts : PlanParts) (until round place : ℕ) (tracks : List Track) (plane : PlaneAccount) (watch : W) (past : List Done) (is : Shows lags parts until round place tracks plane watch past) (inside : place < length tracks) (early : round < until)
    (due : (track : Track) → slice_get tracks place ≡ Some track → next_clock (track_left track) ≡ round) where
  abbrev track-at : Held tracks place
  track-at = held tracks place inside

  pub tells-at : TellsNext lags parts until round place tracks plane watch past track-at.item
  tells-at = tells-next saw lags laws parts until round place tracks plane watch past (place-there lags parts until round place tracks plane watch past is inside) early is track-at.item track-at.found (due track-at.item track-at.found)

  -- it isn't shown yet
  pub shown-inside : (track : Track) → slice_get tracks place ≡ Some track → track.shown < length track.told.items
  shown-inside track found =
      let same : track-at.item ≡ track = same_Some track-at.item track (sym track-at.found ∙ found) in
      more-left track.told.items track.shown tells-at.reply tells-at.more (subst (λ (t : Track). track_left t ≡ tells-at.reply ∷ tells-at.more) same tells-at.first)

  module _ (reply : Reply) (read : (track : Track) → slice_get tracks place ≡ Some track → track_left track ≡ reply ∷ drop (track.shown + 1) track.told.items) where
    same-reply : tells-at.reply ≡ reply
    same-reply = head-same tells-at.reply tells-at.more reply (drop (track-at.item.shown + 1) track-at.item.told.items) (sym tells-at.first ∙ read track-at.item track-at.found)

    pub send-later : IsDueLater plane.at.round reply
    send-later = subst (IsDueLater plane.at.round) same-reply tells-at.later

    link-is : (link : LinkNo) → link_number link ≡ place → link_at place ≡ link
    link-is link number =
        let there = place-there lags parts until round place tracks plane watch past is inside in
        let few = (plan-fits parts is.within.plan).few in
        same-link (link_at place) link (link_at-number place (omega (arith, there, few)) ∙ sym number)

    pub see-next : (link : LinkNo) → link_number link ≡ place → IsNextTold lags parts watch past tells-at.run link reply
    see-next link number = subst (λ to. IsNextTold lags parts watch past tells-at.run to reply) (link-is link number) (subst (IsNextTold lags parts watch past tells-at.run (link_at place)) same-reply tells-at.next)

    pub shows-next : (link : LinkNo) → link_number link ≡ place → (on : List Track) (sent : PlaneAccount) (seen : W) → length on ≡ length tracks → ((n : ℕ) → n ≢ place → slice_get on n ≡ slice_get tracks n)
        → ((x y : Track) → slice_get tracks place ≡ Some x → slice_get on place ≡ Some y → y ≡ record x { shown = x.shown + 1 })
        → sent.at ≡ record plane.at { flights = plane.at.flights ++ flight_in reply } → sent.links ≡ plane.links → sent.rounds ≡ plane.rounds
        → lags seen parts past (plane_step (network_of parts) link Tick reply ∷ tells-at.run) → Shows lags parts until round (place + 1) on sent seen past
    shows-next link number on sent seen long others own sends links' rounds' lag =
        tells-at.on on sent seen long others
        (λ x y was now. (let is-y = own x y was now in (ap (λ (t : Track). t.link) is-y, read x was ∙ ap (λ r. r ∷ drop (x.shown + 1) x.told.items) (sym same-reply) ∙ ap (λ left. tells-at.reply ∷ left) (ap track_left (sym is-y)))))
        (subst (λ r. sent.at ≡ record plane.at { flights = plane.at.flights ++ flight_in r }) (sym same-reply) sends) links' rounds'
        (subst (λ to. lags seen parts past (plane_step (network_of parts) to Tick tells-at.reply ∷ tells-at.run)) (sym (link-is link number)) (subst (λ r. lags seen parts past (plane_step (network_of parts) link Tick r ∷ tells-at.run)) (sym same-reply) lag))

-- where it has another one, or none is left
pub passes-place : {W : Type 0} (saw : W → PlanParts → List Done → Type 0) (lags : W → PlanParts → List Done → List Done → Type 0) (laws : MayLag saw lags) (parts : PlanParts) (until round place : ℕ) (tracks : List Track) (plane : PlaneAccount) (watch : W) (past : List Done)
    → Shows lags parts until round place tracks plane watch past → place < length tracks → round < until → ((track : Track) → slice_get tracks place ≡ Some track → next_clock (track_left track) ≢ round) → Shows lags parts until round (place + 1) tracks plane watch past
passes-place saw lags laws parts until round place tracks plane watch past is inside early other =
    let track = held tracks place inside in
    passes-quiet saw lags laws parts until round place tracks plane watch past (place-there lags parts until round place tracks plane watch past is inside) early is track.item track.found (other track.item track.found)

-- ---- round by round

more-rounds : (from round links : ℕ) → from ≤ round → (round + 1 - from) * links ≡ (round - from) * links + links
more-rounds from round links less = (let more : round + 1 - from ≡ suc (round - from) = omega (arith, less) in ap (λ n. n * links) more ∙ omega arith)

module _ {W : Type 0} (lags : W → PlanParts → List Done → List Done → Type 0) (parts : PlanParts) (until : ℕ) (tracks : List Track) (plane : PlaneAccount) (watch : W) (past : List Done) where
  pub next-round : (round place : ℕ) → length tracks ≤ place → place ≤ length tracks → Shows lags parts until round place tracks plane watch past → Shows lags parts until (round + 1) 0 tracks plane watch past
  next-round round place all most is =
      let network = network_of parts in
      let fits = plan-fits parts is.within.plan in
      let same = is.kept.same in
      let linked = is.within.ahead.same in
      let some = fits.some in
      let over = is.at.over (omega (arith, same, linked, all)) in
      record {
        run = is.run;
        links = is.links;
        within = is.within;
        kept = is.kept;
        at = record { here = λ less. ((let at = over.0 in omega (arith, at)), over.1); over = λ none. absurd (omega (arith, none, some)) };
        flights = is.flights;
        made = (let was = is.made in let more = more-rounds plane.at.round round (length network.links) is.begun in omega (arith, was, more, same, linked, all, most));
        gets = is.gets;
        goes = is.goes;
        lag = is.lag;
        linked = is.linked;
        rounds = is.rounds;
        starts = is.starts;
        begun = (let was = is.begun in omega (arith, was));
      }

-- ---- the window begins

-- each element of a list, made with its place
unfoldable numbered : {X Y : Type 0} → (ℕ → X → Y) → ℕ → List X → List Y
numbered make n [] = []
numbered make n (x ∷ xs) = make n x ∷ numbered make (suc n) xs

numbered-long : {X Y : Type 0} (make : ℕ → X → Y) (n : ℕ) (xs : List X) → length (numbered make n xs) ≡ length xs
unfolding numbered
numbered-long make n [] = refl
numbered-long make n (x ∷ xs) = ap suc (numbered-long make (suc n) xs)

numbered-at : {X Y : Type 0} (make : ℕ → X → Y) (n k : ℕ) (xs : List X) (x : X) (y : Y) → slice_get xs k ≡ Some x → slice_get (numbered make n xs) k ≡ Some y → y ≡ make (n + k) x
unfolding numbered
numbered-at make n k [] x y found there = cc
numbered-at make n zero (z ∷ zs) x y found there = (let at : n + 0 ≡ n = omega arith in sym (same_Some (make n z) y there) ∙ ap (make n) (same_Some z x found) ∙ ap (λ m. make m x) (sym at))
numbered-at make n (suc k) (z ∷ zs) x y found there = (let at : suc n + k ≡ n + suc k = omega arith in numbered-at make (suc n) k zs x y found there ∙ ap (λ m. make m x) at)

module _ {W : Type 0} (saw : W → PlanParts → List Done → Type 0) (lags : W → PlanParts → List Done → List Done → Type 0) (laws : MayLag saw lags) (parts : PlanParts) (gap until : ℕ) (old tracks : List Track) (plane : PlaneAccount) (watch : W) (run : List Done) (is : SeenBetween track_rules track_stands saw parts gap old plane watch run) where
  abbrev begins-network : Network
  begins-network = network_of parts

  at-run : plane.at ≡ plane_at begins-network run
  at-run = is.between.plane_is.at

  -- some history for each link
  pub has-history : (n : ℕ) (track : Track) → slice_get old n ≡ Some track → (h : List Entry) × AnyStands track.link h
  has-history n track found = (part_of n run, is.between.kept.parts n track found)

  module _ (starts : plane.at.ticked ≡ 0) (near : until ≤ plane.at.round + gap + 1) (early : plane.at.round < until) (all : until ≤ plane.rounds) (long : length tracks ≡ length old)
      (told : (n : ℕ) (x y : Track) → slice_get old n ≡ Some x → slice_get tracks n ≡ Some y → HasTold any_rules AnyStands x.link y.link (window_at n until plane.at) (track_left y)) where
    abbrev make : ℕ → Track → LinkAt
    make n track = record { link = track.link; left = replies_along (any_rules track.link) (part_of n run) (window_at n until (plane_at begins-network run)) }

    abbrev begun-links : List LinkAt
    begun-links = numbered make 0 tracks

    -- a link and its track, before and after it has answered
    record Begun (n : ℕ) (item : LinkAt) : Type 0 where
      was : Track
      track : Track
      found-was : slice_get old n ≡ Some was
      found : slice_get tracks n ≡ Some track
      made : item ≡ make n track

    begun-at : (n : ℕ) (item : LinkAt) → slice_get begun-links n ≡ Some item → Begun n item
    begun-at n item there =
        let within = slice_get_within begun-links n item there in
        let same = numbered-long make 0 tracks in
        let track = held tracks n (omega (arith, within, same)) in
        let was = held old n (omega (arith, within, same, long)) in
        record { was = was.item; track = track.item; found-was = was.found; found = track.found; made = numbered-at make 0 n tracks track.item item track.found there ∙ ap (λ m. make m track.item) (let at : 0 + n ≡ n = omega arith in at) }

    pub shows-begins : Shows lags parts until plane.at.round 0 tracks plane watch run
    shows-begins =
        let network = begins-network in
        let fits = plan-fits parts is.between.plan in
        record {
          run = run;
          links = begun-links;
          within = record {
            plan = is.between.plan;
            run_is = is.between.run_is;
            ahead = record {
              same = numbered-long make 0 tracks ∙ long ∙ is.between.kept.same;
              linked = λ n item there. (let b = begun-at n item there in is.between.kept.linked n b.was b.found-was ∙ ap Some (sym (told n b.was b.track b.found-was b.found).same ∙ ap (λ (l : LinkAt). any_rules l.link) (sym b.made)));
              ahead = λ n item there.
                  (let b = begun-at n item there in
                  let answers = told n b.was b.track b.found-was b.found in
                  let stands = answers.stands_on (part_of n run) (is.between.kept.parts n b.was b.found-was) in
                  subst (λ (l : LinkAt). LinkIsAhead (rules_of l) (stands_of l) (left_of l) (part_of n run) (window_at n until (plane_at network run))) (sym b.made)
                  (record {
                    stands_on = subst (λ (p : Plane). AnyStands b.track.link (answered (any_rules b.track.link) (part_of n run) (window_at n until p))) at-run (subst (λ link. AnyStands b.track.link (answered link (part_of n run) (window_at n until plane.at))) (sym answers.same) stands);
                    replied = refl;
                  }));
            };
            plane_is = record { links = refl; rounds = refl; at = refl };
            keeps = keeps-less network (until - suc plane.at.round) gap (omega (arith, near)) is.between.keeps;
            past = (let round = ap (λ (p : Plane). p.round) at-run in omega (arith, round));
            within = (let round = ap (λ (p : Plane). p.round) at-run in omega (arith, round, early));
            all = (let rounds = is.between.plane_is.rounds in omega (arith, all, rounds));
          };
          kept = record {
            same = numbered-long make 0 tracks;
            each = λ n track item found there.
                (let b = begun-at n item there in
                let same : b.track ≡ track = same_Some b.track track (sym b.found ∙ found) in
                let answers = told n b.was b.track b.found-was b.found in
                let replies = answers.told (part_of n run) (is.between.kept.parts n b.was b.found-was) in
                subst (λ (l : LinkAt). KeepsTold track l) (sym b.made) (subst (λ (t : Track). KeepsTold t (make n b.track)) same
                (record {
                  link = refl;
                  told = replies ∙ ap (λ link. filter is_told (replies_along link (part_of n run) (window_at n until plane.at))) (sym answers.same) ∙ ap (λ (p : Plane). filter is_told (replies_along (any_rules b.track.link) (part_of n run) (window_at n until p))) at-run;
                })));
          };
          at = record {
            here = λ less. (ap (λ (p : Plane). p.round) (sym at-run), ap (λ (p : Plane). p.ticked) (sym at-run) ∙ starts);
            over = λ none. absurd (let some = fits.some in omega (arith, none, some));
          };
          flights = ap (λ (p : Plane). filter (is_from until) p.flights) (sym at-run);
          made = (let same = ap (λ (p : Plane). length p.flights) at-run in let none : plane.at.round - plane.at.round ≡ 0 = omega arith in let product = ap (λ n. n * length network.links) none in omega (arith, same, product));
          gets = omega arith;
          goes = goes-none network (the_plane network) run;
          lag = laws.begins watch parts run is.seen;
          linked = is.between.plane_is.links;
          rounds = is.between.plane_is.rounds;
          starts = starts;
          begun = omega arith;
        }

-- ---- the window is over

-- none that is on its way is due before the round
from-round : (until : ℕ) (flights : List Flight) → Each (λ (f : Flight). until ≤ f.round) flights → Each (λ (f : Flight). is_from until f ≡ true) flights
from-round until flights each = Each-if (λ (f : Flight). until ≤ f.round) (λ (f : Flight). is_from until f ≡ true) flights (λ f late. rw (le-ltb f.round until late) refl) each

module _ {W : Type 0} (saw : W → PlanParts → List Done → Type 0) (lags : W → PlanParts → List Done → List Done → Type 0) (parts : PlanParts) (until : ℕ) (tracks : List Track) (plane over : PlaneAccount) (watch seen : W) (past : List Done) (is : Shows lags parts until until 0 tracks plane watch past) where
  abbrev over-network : Network
  over-network = network_of parts

  abbrev end : Plane
  end = plane_at over-network is.run

  stands-end : (end.round ≡ until) × (end.ticked ≡ 0)
  stands-end = is.at.here (let some = (plan-fits parts is.within.plan).some in omega (arith, some))

  -- what is on its way is what was sent, less what has arrived
  flights-end : end.flights ≡ filter (is_from until) plane.at.flights
  flights-end =
      let punctual = run-punctual over-network is.run (plan-fits parts is.within.plan) is.within.run_is in
      let round = stands-end.0 in
      sym (filter-all (is_from until) end.flights (from-round until end.flights (Each-if (λ (f : Flight). end.round ≤ f.round) (λ (f : Flight). until ≤ f.round) end.flights (λ f late. omega (arith, late, round)) punctual))) ∙ is.flights

  -- so many steps were made
  module _ (from sent left : ℕ) (began : from ≡ plane.at.round) (flew : sent ≡ length plane.at.flights) (fly : left ≡ length (filter (is_from until) plane.at.flights)) where
    long : length is.run ≡ length past + ((until - from) * length tracks + (sent - left))
    long =
        let was = is.made in
        let ends = ap length flights-end in
        let same = is.kept.same in
        let linked = is.within.ahead.same in
        let count : (until - from) * length tracks ≡ (until - plane.at.round) * length over-network.links = ap (λ n. (until - n) * length tracks) began ∙ ap (λ n. (until - plane.at.round) * n) (sym same ∙ linked) in
        let fewer = length-passed (is_from until) plane.at.flights in
        omega (arith, was, ends, count, flew, fly, fewer)

    pub steps-small : (until - from) * length tracks + (sent - left) < 2 ^ 60
    steps-small = (let short = run-short parts is.run is.within.plan is.within.run_is in let all = long in omega (arith, short, all))

    pub lags-end : LagsBy lags parts watch past is.run until ((until - from) * length tracks + (sent - left))
    lags-end = record {
      plan = is.within.plan;
      run_is = is.within.run_is;
      clocks = λ n inside.
          (let round = stands-end.0 in
          let none = stands-end.1 in
          (run-stands over-network is.run (plan-fits parts is.within.plan) is.within.run_is).clocks n (let all = links-are parts in omega (arith, inside, all)) ∙ rw (le-ltb n end.ticked (omega (arith, none))) (omega (arith, round)));
      long = long;
      plane = (let gets = is.gets in let all = long in omega (arith, gets, all));
      others = λ n off. is.goes.others n (λ same-no. off (same-no ∙ plane-is over-network (let same-plane = plane-number parts in let few = callers-few parts is.within.plan in omega (arith, same-plane, few))));
      lag = is.lag;
    }

  pub between-shown : over.at ≡ record { round = until; ticked = 0; flights = filter (is_from until) plane.at.flights } → over.links ≡ plane.links → over.rounds ≡ plane.rounds → saw seen parts is.run
      → GoesTo over-network (the_plane over-network) past (SeenBetween track_rules track_stands saw parts (until - suc plane.at.round) tracks over seen)
  between-shown at links rounds saw-run = record {
    run = is.run;
    goes = is.goes;
    comes = record {
      between = record {
        plan = is.within.plan;
        run_is = is.within.run_is;
        kept =
            (let kept = ahead-over rules_of stands_of left_of over-network (plan-fits parts is.within.plan) until is.links is.run is.within.ahead (let round = stands-end.0 in omega (arith, round)) in
            record {
              same = sym is.kept.same ∙ kept.same;
              linked = λ n track found.
                  (let within = slice_get_within tracks n track found in
                  let same = is.kept.same in
                  let item = held is.links n (omega (arith, within, same)) in
                  kept.linked n item.item item.found ∙ ap (λ link. Some (any_rules link)) (is.kept.each n track item.item found item.found).link);
              parts = λ n track found.
                  (let within = slice_get_within tracks n track found in
                  let same = is.kept.same in
                  let item = held is.links n (omega (arith, within, same)) in
                  subst (λ link. AnyStands link (part_of n is.run)) (is.kept.each n track item.item found item.found).link (kept.parts n item.item item.found));
            });
        plane_is = record {
          links = links ∙ is.linked;
          rounds = rounds ∙ is.rounds;
          at = at ∙ λ i. record { round = sym stands-end.0 i; ticked = sym stands-end.1 i; flights = sym flights-end i };
        };
        keeps = is.within.keeps;
      };
      seen = saw-run;
    };
  }

-- with the gap of the whole plan
pub gap-again : {W : Type 0} (saw : W → PlanParts → List Done → Type 0) (parts : PlanParts) (actor : ActorNo) (gap small : ℕ) (tracks : List Track) (plane : PlaneAccount) (watch : W) (past : List Done) → KeepsGap (network_of parts) gap → GoesTo (network_of parts) actor past (SeenBetween track_rules track_stands saw parts small tracks plane watch)
    → GoesTo (network_of parts) actor past (SeenBetween track_rules track_stands saw parts gap tracks plane watch)
gap-again saw parts actor gap small tracks plane watch past keeps goes = record {
  run = goes.run;
  goes = goes.goes;
  comes = record {
    between = record { plan = goes.comes.between.plan; run_is = goes.comes.between.run_is; kept = goes.comes.between.kept; plane_is = goes.comes.between.plane_is; keeps = keeps };
    seen = goes.comes.seen;
  };
}
