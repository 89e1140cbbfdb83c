-- A window that is shown to a watcher that lags, step by step of the plane: a packet arrives, a link makes a tick that tells nothing, or one
-- that tells something and is shown. After each the run is one step longer.
use Rattle.std.proofs.Common.{◌≡◌, ◌≢◌, ℕ, suc, ◌+◌, ◌*◌, ◌-◌, ◌<◌, ◌≤◌, Bool, true, false, List, [], ◌∷◌, ◌++◌, length, set, filter, Option, Some, None, refl, sym, ap, ◌∙◌, subst, inl, inr, arith, length-set}
use Rattle.std.proofs.lemmas.Bool.{cases_Bool, cases_eq, lt-ltb, le-ltb, eqb-true, eqb-false}
use Rattle.std.proofs.lemmas.List.{append-nil, length-append}
use Rattle.std.proofs.lemmas.List.Elements.{filter-append}
use Rattle.std.proofs.lemmas.Option.{slice_get_within}
use Rattle.std.specs.List.{slice_get}
use Rattle.std.specs.Prelude.{find, nat_eq, nat_lt}
use Rattle.net_units.specs.Numbers.{link_at, link_number, actor_number}
use Rattle.net_units.specs.declared.numbers.LinkNo.{LinkNo}
use Rattle.link_steps.specs.Lists.{without_first}
use Rattle.link_steps.specs.Scan.{clock_of}
use Rattle.link_steps.specs.declared.asks.Ask.{Ask}
use Rattle.link_steps.specs.declared.asks.Ask.TheVariants.{Arrive, Tick}
use Rattle.link_steps.specs.declared.replies.Entry.{Entry}
use Rattle.link_steps.specs.declared.replies.Reply.{Reply}
use Rattle.link_steps.specs.declared.replies.Reply.TheVariants as Is
use Rattle.link_quota.specs.Any.{any_rules}
use Rattle.link_steps.proofs.SearchAndFilter.{Each-if}
use Rattle.call_script.proofs.PlansFit.{plan-fits}
use Rattle.call_script.specs.Fits.{NetworkFits}
use Rattle.call_script.specs.Parts.{PlanParts}
use Rattle.call_script.specs.Tasks.{Network, network_of}
use Rattle.tick_plane.specs.Coming.{is_from}
use Rattle.tick_plane.specs.PlaneAccount.{PlaneAccount}
use Rattle.tick_plane.specs.Planes.{Plane, ask_due, flight_in, is_due, next_due, plane_after, plane_ask, plane_with, tick_made, IsDueLater}
use Rattle.tick_plane.specs.Windows.{window_at}
use Rattle.tick_plane.specs.declared.flight.Flight.{Flight}
use Rattle.tick_plane.proofs.WithoutFirst.{found-passes, left-others}
use Rattle.run_record.specs.Runs.{part_of, replies_to}
use Rattle.run_record.specs.declared.done.Done.{Done}
use Rattle.run_engine.specs.runs.Runs.{plane_no, plane_at, IsNext}
use Rattle.run_engine.specs.schedules.Lagging.{is_told, IsNextTold, MayLag}
use Rattle.run_engine.specs.schedules.PlaneSteps.{plane_step}
use Rattle.run_engine.specs.schedules.Quiet.{the_plane}
use Rattle.run_engine.proofs.Keeping.KeptActors.{plane-number}
use Rattle.run_engine.proofs.Keeping.Lookups.{Held, held, get-set-same, get-set-other, tail-same}
use Rattle.run_engine.proofs.Keeping.NextPlaneStep.{own-number}
use Rattle.run_engine.proofs.Runs.RunLegal.{link_at-number, part-on, plane-by, replies-by, run-stands}
use Rattle.plane_workers.specs.Answered.{replies_along}
use Rattle.plane_workers.specs.Showing.{IsPlace, KeepTold, KeepsTold, LinkAt, Shows, account_of, left_of, rules_of, stands_of}
use Rattle.plane_workers.specs.Tracks.{clock_told, next_clock, track_left}
use Rattle.plane_workers.specs.Windows.{GoesOnBy, IsInWindow}
use Rattle.plane_workers.specs.declared.track.Track.{Track}
use Rattle.plane_workers.proofs.DeskHandsOut.{HandsOut, hand-goes, hand-later, hand-next, hand-within}
use Rattle.plane_workers.proofs.NextWindowStep.{goes-both, has-reply, link-inside}
use Rattle.plane_workers.proofs.ToldInTurn.{arrival-untold, tick-tells-clock, told-first, told-later, untold-first}

-- ---- replies that tell nothing

untold-stays : (reply : Reply) → is_told reply ≡ false → flight_in reply ≡ []
untold-stays (Is.Ticked clock full (Some sent) best_sent best_lost) untold =
    elim (cases_Bool (nat_lt 0 full)) [
      | inl some ↦ absurd (let clash : true ≡ false = rw some at untold in cc)
      | inr none ↦ absurd (let clash : true ≡ false = rw none at untold in cc)
    ]
untold-stays (Is.Ticked clock full None best_sent best_lost) untold = refl
untold-stays _ untold = refl

-- ---- flights

without-fewer : (test : Flight → Bool) (flights : List Flight) (flight : Flight) → find test flights ≡ Some flight → suc (length (without_first test flights)) ≡ length flights
unfolding without_first
without-fewer test [] flight found = cc
without-fewer test (first ∷ flights) flight found =
    elim (cases_Bool (test first)) [
      | inl is ↦ rw is refl
      | inr other ↦ (let rest : find test flights ≡ Some flight = rw other at found in rw other (ap suc (without-fewer test flights flight rest)))
    ]

-- what is due in an earlier round isn't on its way when the window is over
gone-before : (round until : ℕ) (flight : Flight) → is_due round flight ≡ true → round < until → is_from until flight ≡ false
gone-before round until flight due early =
    let at : flight.round ≡ round = eqb-true flight.round round due in
    let before : flight.round < until = omega (arith, at, early) in
    rw (lt-ltb flight.round until before) refl

-- ---- places in lists

set-there : {X : Type 0} (xs : List X) (n : ℕ) (x : X) → n < length xs → slice_get (set xs n x) n ≡ Some x
set-there xs n x within =
    let long = length-set xs n x in
    let at = held (set xs n x) n (omega (arith, within, long)) in
    at.found ∙ ap Some (get-set-same xs n x at.item at.found)

-- ---- the plane's next step

module _ {W : Type 0} (saw : W → PlanParts → List Done → Type 0) (lags : W → PlanParts → List Done → List Done → Type 0) (laws : MayLag saw lags) (parts : PlanParts) (until round place : ℕ) (tracks : List Track) (plane : PlaneAccount) (watch : W) (past : List Done) (is : Shows lags parts until round place tracks plane watch past) (early : (plane_at (network_of parts) is.run).round < until) where
  abbrev pub network : Network
  network = network_of parts

  abbrev pub at : Plane
  at = plane_at network is.run

  pub fits : NetworkFits network
  fits = plan-fits parts is.within.plan

  pub mine : actor_number (the_plane network) ≡ length parts.callers
  mine = own-number parts is.within.plan

  pub planes : actor_number (the_plane network) ≡ plane_no network
  planes = mine ∙ sym (plane-number parts)

  -- it has rounds left
  pub left : at.round < network.rounds
  left = (let all = is.within.all in omega (arith, all, early))

  pub asks-next : (found : Option Flight) → next_due at ≡ found → Some (ask_due at.ticked found) ≡ plane_ask network.rounds at
  asks-next found due = sym (rw (lt-ltb at.round network.rounds left) (ap (λ next. Some (ask_due at.ticked next)) due))

  module _ (link : LinkNo) (ask : Ask) (asked : Some (link, ask) ≡ plane_ask network.rounds at) where
    pub inside : link_number link < length is.links
    inside = link-inside rules_of stands_of left_of parts plane.at.round until is.links (account_of network is.run) is.run is.within early link ask asked

    abbrev pub own : Held is.links (link_number link)
    own = held is.links (link_number link) inside

    pub has : (reply : Reply) × ((rest : List Reply) × (own.item.left ≡ reply ∷ rest))
    has = has-reply rules_of stands_of left_of parts plane.at.round until is.links (account_of network is.run) is.run is.within early link ask asked own.item own.found

    abbrev pub reply : Reply
    reply = has.0

    abbrev pub next-item : LinkAt
    next-item = record { link = own.item.link; left = has.1.0 }

    abbrev pub next-links : List LinkAt
    next-links = set is.links (link_number link) next-item

    abbrev pub done : Done
    done = plane_step network link ask reply

    abbrev pub now : Plane
    now = plane_at network (done ∷ is.run)

    pub hands : HandsOut rules_of stands_of left_of (account_of network is.run) is.links next-links link ask reply
    hands = record {
      asked = asked;
      before = own.item;
      after = next-item;
      found = own.found;
      there = set-there is.links (link_number link) next-item inside;
      told = has.1.1;
      same = refl;
      stay = λ h stands. stands;
      long = length-set is.links (link_number link) next-item;
      others = λ n off. get-set-other is.links (link_number link) n next-item off;
    }

    pub next : IsNext network is.run done
    next = hand-next rules_of stands_of left_of parts plane.at.round until is.links next-links (account_of network is.run) is.run is.within early (the_plane network) mine link ask reply hands

    pub later : IsDueLater at.round reply
    later = hand-later rules_of stands_of left_of parts plane.at.round until is.links next-links (account_of network is.run) is.run is.within early (the_plane network) mine link ask reply hands

    pub moves : now ≡ plane_after (length network.links) reply at
    moves = plane-by network done is.run planes

    pub within : IsInWindow rules_of stands_of left_of parts plane.at.round until next-links (account_of network (done ∷ is.run)) (done ∷ is.run)
    within = hand-within rules_of stands_of left_of parts plane.at.round until is.links next-links (account_of network is.run) is.run is.within early (the_plane network) mine link ask reply hands (account_of network (done ∷ is.run)) moves refl refl

    pub goes : GoesOnBy network (the_plane network) past (done ∷ is.run)
    goes = goes-both network (the_plane network) past is.run (done ∷ is.run) is.goes (hand-goes rules_of stands_of left_of parts plane.at.round until is.links next-links (account_of network is.run) is.run is.within early (the_plane network) mine link ask reply hands)

    pub gets : length (replies_to (plane_no network) (done ∷ is.run)) + length past ≡ length (replies_to (plane_no network) past) + length (done ∷ is.run)
    gets = (let one = ap length (replies-by (plane_no network) done is.run planes) in let was = is.gets in omega (arith, one, was))

    -- the other links' tracks keep what they kept
    pub kept-on : (on : List Track) → length on ≡ length tracks → ((n : ℕ) → n ≢ link_number link → slice_get on n ≡ slice_get tracks n) → ((track : Track) → slice_get on (link_number link) ≡ Some track → KeepsTold track next-item) → KeepTold on next-links
    kept-on on long others mine = record {
      same = length-set is.links (link_number link) next-item ∙ is.kept.same ∙ sym long;
      each = λ n track item found there. elim (cases_eq n (link_number link)) [
        | inl here ↦
            (let put : item ≡ next-item = get-set-same is.links (link_number link) next-item item (ap (slice_get next-links) (sym here) ∙ there) in
            subst (KeepsTold track) (sym put) (mine track (ap (slice_get on) (sym here) ∙ found)))
        | inr apart ↦ is.kept.each n track item (sym (others n apart) ∙ found) (sym (get-set-other is.links (link_number link) n next-item apart) ∙ there)
      ];
    }

    abbrev pub Untold : Type 0
    Untold = is_told reply ≡ false

    pub kept-untold : Untold → KeepTold tracks next-links
    kept-untold untold = kept-on tracks refl (λ n off. refl) (λ track found.
        (let was = is.kept.each (link_number link) track own.item found own.found in
        record { link = was.link; told = was.told ∙ ap (filter is_told) has.1.1 ∙ rw untold refl }))

    -- nobody is shown a step that tells nothing
    pub on-untold : (to : ℕ) → Untold → IsPlace (length network.links) round to now → filter (is_from until) now.flights ≡ filter (is_from until) at.flights
        → length (done ∷ is.run) + length now.flights + place ≡ length is.run + length at.flights + to → Shows lags parts until round to tracks plane watch past
    on-untold to untold placed flights made = record {
      run = done ∷ is.run;
      links = next-links;
      within = within;
      kept = kept-untold untold;
      at = placed;
      flights = flights ∙ is.flights;
      made = (let was = is.made in omega (arith, was, made));
      gets = gets;
      goes = goes;
      lag = laws.goes_on watch parts past is.run done (record { plan = is.within.plan; run_is = is.within.run_is; next = next; by = refl; untold = untold; lag = is.lag });
      linked = is.linked;
      rounds = is.rounds;
      starts = is.starts;
      begun = is.begun;
    }

  -- ---- a packet arrives

  module _ (flight : Flight) (due : next_due at ≡ Some flight) where
    pub arrives : Some (flight.to, Arrive flight.packet) ≡ plane_ask network.rounds at
    arrives = asks-next (Some flight) due

    abbrev pub arrived : List Done
    arrived = done flight.to (Arrive flight.packet) arrives ∷ is.run

    one-less : plane_at network arrived ≡ record at { flights = without_first (is_due at.round) at.flights }
    one-less = moves flight.to (Arrive flight.packet) arrives ∙ ap (λ found. plane_with (length network.links) at found (reply flight.to (Arrive flight.packet) arrives)) due

    pub fewer : suc (length (plane_at network arrived).flights) ≡ length at.flights
    fewer = ap (λ (p : Plane). suc (length p.flights)) one-less ∙ without-fewer (is_due at.round) at.flights flight due

    pub shows-arrived : Shows lags parts until round place tracks plane watch past
    shows-arrived =
        on-untold flight.to (Arrive flight.packet) arrives place
        (let step = next flight.to (Arrive flight.packet) arrives in ap is_told step.answered ∙ arrival-untold step.link (part_of (link_number flight.to) is.run) flight.packet)
        (record {
          here = λ before. (ap (λ (p : Plane). p.round) one-less ∙ (is.at.here before).0, ap (λ (p : Plane). p.ticked) one-less ∙ (is.at.here before).1);
          over = λ all. (ap (λ (p : Plane). p.round) one-less ∙ (is.at.over all).0, ap (λ (p : Plane). p.ticked) one-less ∙ (is.at.over all).1);
        })
        (ap (λ (p : Plane). filter (is_from until) p.flights) one-less ∙ left-others (is_due at.round) (is_from until) flight at.flights due (gone-before at.round until flight (found-passes (is_due at.round) flight at.flights due) early))
        (let less = fewer in omega (arith, less))

    pub fewer-flights : suc (length (plane_at network shows-arrived.run).flights) ≡ length at.flights
    unfolding on-untold shows-arrived
    fewer-flights = fewer

  -- ---- a link makes its tick

  module _ (before : place < length network.links) (none : next_due at ≡ None) where
    pub here : (at.round ≡ round) × (at.ticked ≡ place)
    here = is.at.here before

    abbrev pub link : LinkNo
    link = link_at at.ticked

    pub ticks : Some (link, Tick) ≡ plane_ask network.rounds at
    ticks = asks-next None none

    pub number : link_number link ≡ place
    number = (let few = fits.few in let ticked = here.1 in link_at-number at.ticked (omega (arith, few, ticked, before)) ∙ ticked)

    abbrev pub told : Reply
    told = reply link Tick ticks

    abbrev pub ticked : List Done
    ticked = done link Tick ticks ∷ is.run

    abbrev pub then : Plane
    then = plane_at network ticked

    pub one-more : then ≡ tick_made (length network.links) at (flight_in told)
    one-more = moves link Tick ticks ∙ ap (λ found. plane_with (length network.links) at found told) none

    pub made-flights : (links : ℕ) (new : List Flight) → (tick_made links at new).flights ≡ at.flights ++ new
    made-flights links new =
        elim (cases_Bool (nat_eq (suc at.ticked) links)) [
          | inl last ↦ rw last refl
          | inr more ↦ rw more refl
        ]

    pub then-flights : then.flights ≡ at.flights ++ flight_in told
    then-flights = ap (λ (p : Plane). p.flights) one-more ∙ made-flights (length network.links) (flight_in told)

    pub placed-made : (new : List Flight) → IsPlace (length network.links) round (place + 1) (tick_made (length network.links) at new)
    placed-made new =
        let round-here = here.0 in
        let ticked-here = here.1 in
        let some = (run-stands network is.run fits is.within.run_is).ticked in
        elim (cases_Bool (nat_eq (suc at.ticked) (length network.links))) [
          | inl last ↦
              (let end = eqb-true (suc at.ticked) (length network.links) last in
              rw last (record { here = λ less. absurd (omega (arith, end, ticked-here, less)); over = λ all. (ap suc round-here, refl) }))
          | inr more ↦
              (let off = eqb-false (suc at.ticked) (length network.links) more in
              rw more (record { here = λ less. (round-here, (let same : suc at.ticked ≡ place + 1 = omega (arith, ticked-here) in same)); over = λ all. absurd (omega (arith, off, ticked-here, some, all)) }))
        ]

    pub placed : IsPlace (length network.links) round (place + 1) then
    placed = subst (IsPlace (length network.links) round (place + 1)) (sym one-more) (placed-made (flight_in told))

    pub step : IsNext network is.run (done link Tick ticks)
    step = next link Tick ticks

    -- its clock is the round
    pub clock : clock_of (part_of (link_number link) is.run) ≡ round
    clock =
        let inside = slice_get_within network.links (link_number link) step.link step.linked in
        let from : at.ticked ≤ link_number link = (let n = number in let t = here.1 in omega (arith, n, t)) in
        (run-stands network is.run fits is.within.run_is).clocks (link_number link) inside ∙ rw (le-ltb (link_number link) at.ticked from) (let round-here = here.0 in omega (arith, round-here))

    pub tells-clock : clock_told told ≡ round
    tells-clock = ap clock_told step.answered ∙ tick-tells-clock step.link (part_of (link_number link) is.run) ∙ clock

    -- what it tells next is later
    abbrev pub rest : List Reply
    rest = (has link Tick ticks).1.0

    abbrev pub grown : List Entry
    grown = record { ask = Tick; reply = told } ∷ part_of (link_number link) is.run

    pub rest-is : rest ≡ replies_along (any_rules (own link Tick ticks).item.link) grown (window_at (link_number link) until then)
    rest-is =
        let ahead = (within link Tick ticks).ahead.ahead (link_number link) (next-item link Tick ticks) (set-there is.links (link_number link) (next-item link Tick ticks) (inside link Tick ticks)) in
        ahead.replied ∙ ap (λ h. replies_along (any_rules (own link Tick ticks).item.link) h (window_at (link_number link) until then)) (part-on (link_number link) (done link Tick ticks) is.run refl)

    pub grown-clock : clock_of grown ≡ suc round
    unfolding clock_of
    grown-clock = ap suc clock

    pub small : round < 1048576
    small = (let most = fits.rounds in let less = left in let round-here = here.0 in omega (arith, most, less, round-here))

    pub rest-later : round < next_clock (filter is_told rest)
    rest-later =
        let late = told-later (any_rules (own link Tick ticks).item.link) grown (window_at (link_number link) until then) (let at-clock = grown-clock in let few = small in omega (arith, at-clock, few)) in
        let at-clock = grown-clock in
        subst (λ replies. round < next_clock (filter is_told replies)) (sym rest-is) (omega (arith, late, at-clock))

    -- the track of the link
    module _ (track : Track) (found : slice_get tracks place ≡ Some track) where
      pub keeps : KeepsTold track (own link Tick ticks).item
      keeps = is.kept.each (link_number link) track (own link Tick ticks).item (ap (slice_get tracks) number ∙ found) (own link Tick ticks).found

      pub keeps-first : track_left track ≡ filter is_told (told ∷ rest)
      keeps-first = keeps.told ∙ ap (filter is_told) (has link Tick ticks).1.1

      -- it keeps the tick exactly where its next one has this round's clock
      pub told-now : next_clock (track_left track) ≡ round → is_told told ≡ true
      told-now due =
          elim (cases_Bool (is_told told)) [
            | inl on ↦ on
            | inr off ↦
                (let same : next_clock (track_left track) ≡ next_clock (filter is_told rest) = ap next_clock (keeps-first ∙ untold-first told rest off) in
                let late = rest-later in
                absurd (omega (arith, due, same, late)))
          ]

      pub untold-now : next_clock (track_left track) ≢ round → is_told told ≡ false
      untold-now other =
          elim (cases_Bool (is_told told)) [
            | inl on ↦
                (let same : next_clock (track_left track) ≡ clock_told told = ap next_clock (keeps-first ∙ told-first told rest on) in
                absurd (other (same ∙ tells-clock)))
            | inr off ↦ off
          ]

    pub shows-quiet : is_told told ≡ false → Shows lags parts until round (place + 1) tracks plane watch past
    shows-quiet untold =
        let none-sent = untold-stays told untold in
        let same : then.flights ≡ at.flights = then-flights ∙ ap (λ new. at.flights ++ new) none-sent ∙ append-nil at.flights in
        on-untold link Tick ticks (place + 1) untold placed (ap (filter (is_from until)) same) (let long = ap length same in omega (arith, long))

    -- a tick that tells something is shown
    module _ (is-told : is_told told ≡ true) where
      pub next-told : IsNextTold lags parts watch past is.run link told
      next-told = record { plan = is.within.plan; run_is = is.within.run_is; next = step; lag = is.lag }

      -- what leaves is due after the window's first round
      pub sent-later : IsDueLater plane.at.round told
      sent-later = (let from = is.within.past in Each-if (λ (f : Flight). at.round < f.round) (λ (f : Flight). plane.at.round < f.round) (flight_in told) (λ f late. omega (arith, late, from)) (later link Tick ticks))

      pub shows-told : (on : List Track) (sent : PlaneAccount) (seen : W) → length on ≡ length tracks → ((n : ℕ) → n ≢ place → slice_get on n ≡ slice_get tracks n)
          → ((x y : Track) → slice_get tracks place ≡ Some x → slice_get on place ≡ Some y → (y.link ≡ x.link) × (track_left x ≡ told ∷ track_left y))
          → sent.at ≡ record plane.at { flights = plane.at.flights ++ flight_in told } → sent.links ≡ plane.links → sent.rounds ≡ plane.rounds
          → lags seen parts past (plane_step network link Tick told ∷ is.run) → Shows lags parts until round (place + 1) on sent seen past
      shows-told on sent seen long others passes sends links' rounds' lag =
          let from : sent.at.round ≡ plane.at.round = ap (λ (p : Plane). p.round) sends in
          let way : sent.at.flights ≡ plane.at.flights ++ flight_in told = ap (λ (p : Plane). p.flights) sends in
          record {
            run = ticked;
            links = next-links link Tick ticks;
            within = subst (λ first. IsInWindow rules_of stands_of left_of parts first until (next-links link Tick ticks) (account_of network ticked) ticked) (sym from) (within link Tick ticks);
            kept = kept-on link Tick ticks on long (λ n off. others n (λ at-place. off (at-place ∙ sym number))) (λ track found.
                (let there : slice_get on place ≡ Some track = ap (slice_get on) (sym number) ∙ found in
                let within-on = slice_get_within on place track there in
                let was = held tracks place (omega (arith, within-on, long)) in
                let both = passes was.item track was.found there in
                let kept-was = keeps was.item was.found in
                record {
                  link = kept-was.link ∙ sym both.0;
                  told = tail-same told (track_left track) told (filter is_told rest) (sym both.1 ∙ keeps-first was.item was.found ∙ rw is-told refl);
                }));
            at = placed;
            flights =
                ap (filter (is_from until)) then-flights ∙ filter-append (is_from until) at.flights (flight_in told) ∙ ap (λ fs. fs ++ filter (is_from until) (flight_in told)) is.flights
                ∙ sym (filter-append (is_from until) plane.at.flights (flight_in told)) ∙ ap (filter (is_from until)) (sym way);
            made =
                (let was = is.made in
                let here-long = ap length then-flights ∙ length-append at.flights (flight_in told) in
                let sent-long = ap length way ∙ length-append plane.at.flights (flight_in told) in
                let first : (round - sent.at.round) * length network.links ≡ (round - plane.at.round) * length network.links = ap (λ r. (round - r) * length network.links) from in
                omega (arith, was, here-long, sent-long, first));
            gets = gets link Tick ticks;
            goes = goes link Tick ticks;
            lag = lag;
            linked = links' ∙ is.linked;
            rounds = rounds' ∙ is.rounds;
            starts = ap (λ (p : Plane). p.ticked) sends ∙ is.starts;
            begun = (let was = is.begun in omega (arith, was, from));
          }
