-- What each link is asked in a window, one ask after the other: the plane's next ask is the first that is left of its link, and
-- the others' stay as they are, where no flight that begins within the window is due in it.
use Rattle.std.proofs.Common.{◌≡◌, ◌≢◌, ℕ, zero, suc, ◌+◌, ◌-◌, ◌<◌, ◌≤◌, true, false, List, [], ◌∷◌, ◌++◌, map, filter, Option, Some, None, refl, sym, ap, ◌∙◌, subst, inl, inr, arith}
use Rattle.std.proofs.lemmas.Bool.{cases_Bool, eqb-true, eq-eqb, ne_eqb, lt-ltb, le-ltb, cases_lt}
use Rattle.std.specs.Prelude.{nat_eq}
use Rattle.net_units.specs.Numbers.{link_at, link_number}
use Rattle.net_units.specs.declared.numbers.LinkNo.{LinkNo}
use Rattle.link_steps.specs.declared.asks.Ask.{Ask}
use Rattle.link_steps.specs.declared.asks.Ask.TheVariants.{Arrive, Tick}
use Rattle.link_steps.specs.declared.replies.Reply.{Reply}
use Rattle.link_steps.specs.Lists.{Each, without_first}
use Rattle.tick_plane.specs.declared.flight.Flight.{Flight}
use Rattle.tick_plane.specs.Planes.{Plane, is_due, next_due, ask_due, flight_in, tick_made, plane_with, plane_after, plane_ask}
use Rattle.tick_plane.specs.Windows.{is_bound, arrive_of, arrivals_at, rounds_at, tick_left, window_at}
use Rattle.tick_plane.proofs.WithoutFirst.{left-others, left-own, none-left, more-same, found-passes}
use Rattle.tick_plane.proofs.PlaneFlights.{asks-due}

-- ---- flights that reach a link in a round

unbound-round : (n round : ℕ) (f : Flight) → is_due round f ≡ false → is_bound n round f ≡ false
unbound-round n round f off = rw off refl

bound-own : (n round : ℕ) (f : Flight) → is_due round f ≡ true → link_number f.to ≡ n → is_bound n round f ≡ true
bound-own n round f due to = rw due (eq-eqb (link_number f.to) n to)

bound-other : (n round : ℕ) (f : Flight) → is_due round f ≡ true → link_number f.to ≢ n → is_bound n round f ≡ false
bound-other n round f due to = rw due (ne_eqb (link_number f.to) n to)

bound-later : (n round late : ℕ) (f : Flight) → is_due round f ≡ true → round < late → is_bound n late f ≡ false
bound-later n round late f due less =
    let at : f.round ≡ round = eqb-true f.round round due in
    unbound-round n late f (ne_eqb f.round late (λ same. absurd (omega (arith, same, at, less))))

-- a flight that is due in none of the rounds reaches no link in them
unbound-late : (n round until : ℕ) (new : List Flight) → round < until → Each (λ f. until ≤ f.round) new → Each (λ f. is_bound n round f ≡ false) new
unbound-late n round until [] less late = tt
unbound-late n round until (f ∷ fs) less late = (
  (let from = late.0 in unbound-round n round f (ne_eqb f.round round (λ same. absurd (omega (arith, same, from, less))))),
  unbound-late n round until fs less late.1,
)

-- ---- rounds with the same flights

rounds-same : (n round count : ℕ) (old new : List Flight) → ((k : ℕ) → round ≤ k → k < round + count → filter (is_bound n k) old ≡ filter (is_bound n k) new) → rounds_at n round count old ≡ rounds_at n round count new
unfolding rounds_at
rounds-same n round zero old new same = refl
rounds-same n round (suc count) old new same =
    let first : arrivals_at n round old ≡ arrivals_at n round new = ap (map arrive_of) (same round (omega arith) (omega arith)) in
    let rest = rounds-same n (suc round) count old new (λ k from below. same k (omega (arith, from)) (omega (arith, below))) in
    ap (λ asks. asks ++ Tick ∷ rounds_at n (suc round) count old) first ∙ ap (λ asks. arrivals_at n round new ++ Tick ∷ asks) rest

-- ---- the plane's next ask

-- the next ask is the first that is left of its link; of the other links the same is left
pub record WindowGoes (n until : ℕ) (plane next : Plane) (to : LinkNo) (ask : Ask) : Type 0 where
  pub own : link_number to ≡ n → window_at n until plane ≡ ask ∷ window_at n until next
  pub other : link_number to ≢ n → window_at n until plane ≡ window_at n until next

module _ (n until : ℕ) (plane : Plane) (early : plane.round < until) where
  open-window : window_at n until plane ≡ arrivals_at n plane.round plane.flights ++ (tick_left n plane ++ rounds_at n (suc plane.round) (until - suc plane.round) plane.flights)
  open-window = rw (lt-ltb plane.round until early) refl

  -- a flight is due: it arrives
  module _ (f : Flight) (due : next_due plane ≡ Some f) where
    abbrev left : List Flight
    left = without_first (is_due plane.round) plane.flights

    abbrev next : Plane
    next = record plane { flights = left }

    is-due : is_due plane.round f ≡ true
    is-due = found-passes (is_due plane.round) f plane.flights due

    later : rounds_at n (suc plane.round) (until - suc plane.round) plane.flights ≡ rounds_at n (suc plane.round) (until - suc plane.round) left
    later = rounds-same n (suc plane.round) (until - suc plane.round) plane.flights left (λ k from below. sym (left-others (is_due plane.round) (is_bound n k) f plane.flights due (bound-later n plane.round k f is-due (omega (arith, from)))))

    next-window : window_at n until next ≡ arrivals_at n plane.round left ++ (tick_left n plane ++ rounds_at n (suc plane.round) (until - suc plane.round) left)
    next-window = rw (lt-ltb plane.round until early) refl

    arrives-own : link_number f.to ≡ n → window_at n until plane ≡ Arrive f.packet ∷ window_at n until next
    arrives-own to =
        let first : arrivals_at n plane.round plane.flights ≡ Arrive f.packet ∷ arrivals_at n plane.round left =
        ap (map arrive_of) (left-own (is_due plane.round) (is_bound n plane.round) f plane.flights (λ g off. unbound-round n plane.round g off) due (bound-own n plane.round f is-due to)) in
        open-window ∙ ap (λ asks. asks ++ (tick_left n plane ++ rounds_at n (suc plane.round) (until - suc plane.round) plane.flights)) first
        ∙ ap (λ asks. Arrive f.packet ∷ (arrivals_at n plane.round left ++ (tick_left n plane ++ asks))) later
        ∙ ap (λ asks. Arrive f.packet ∷ asks) (sym next-window)

    arrives-other : link_number f.to ≢ n → window_at n until plane ≡ window_at n until next
    arrives-other to =
        let first : arrivals_at n plane.round plane.flights ≡ arrivals_at n plane.round left =
        ap (map arrive_of) (sym (left-others (is_due plane.round) (is_bound n plane.round) f plane.flights due (bound-other n plane.round f is-due to))) in
        open-window ∙ ap (λ asks. asks ++ (tick_left n plane ++ rounds_at n (suc plane.round) (until - suc plane.round) plane.flights)) first
        ∙ ap (λ asks. arrivals_at n plane.round left ++ (tick_left n plane ++ asks)) later
        ∙ sym next-window

  -- none is due: the next link ticks
  module _ (links : ℕ) (new : List Flight) (some : plane.ticked < links) (inside : n < links) (none : next_due plane ≡ None) (late : Each (λ f. until ≤ f.round) new) where
    none-arrive : arrivals_at n plane.round plane.flights ≡ []
    none-arrive = ap (map arrive_of) (none-left (is_due plane.round) (is_bound n plane.round) plane.flights (λ g off. unbound-round n plane.round g off) none)

    none-arrive-new : arrivals_at n plane.round (plane.flights ++ new) ≡ []
    none-arrive-new = ap (map arrive_of) (more-same (is_bound n plane.round) plane.flights new (unbound-late n plane.round until new early late)) ∙ none-arrive

    rounds-new : (round count : ℕ) → round + count ≤ until → rounds_at n round count plane.flights ≡ rounds_at n round count (plane.flights ++ new)
    rounds-new round count within = rounds-same n round count plane.flights (plane.flights ++ new) (λ k from below. sym (more-same (is_bound n k) plane.flights new (unbound-late n k until new (omega (arith, below, within)) late)))

    still : window_at n until plane ≡ tick_left n plane ++ rounds_at n (suc plane.round) (until - suc plane.round) plane.flights
    still = open-window ∙ ap (λ asks. asks ++ (tick_left n plane ++ rounds_at n (suc plane.round) (until - suc plane.round) plane.flights)) none-arrive

    -- in the middle of a round
    abbrev on : Plane
    on = record { round = plane.round; ticked = suc plane.ticked; flights = plane.flights ++ new }

    on-window : window_at n until on ≡ tick_left n on ++ rounds_at n (suc plane.round) (until - suc plane.round) plane.flights
    on-window =
        rw (lt-ltb plane.round until early) (ap (λ asks. asks ++ (tick_left n on ++ rounds_at n (suc plane.round) (until - suc plane.round) (plane.flights ++ new))) none-arrive-new)
        ∙ ap (λ asks. tick_left n on ++ asks) (sym (rounds-new (suc plane.round) (until - suc plane.round) (omega (arith, early))))

    -- at the end of a round
    abbrev over : Plane
    over = record { round = suc plane.round; ticked = 0; flights = plane.flights ++ new }

    over-window : window_at n until over ≡ rounds_at n (suc plane.round) (until - suc plane.round) plane.flights
    unfolding rounds_at
    over-window =
        elim (cases_lt (suc plane.round) until) [
          | inl more ↦
              (let count : until - suc plane.round ≡ suc (until - suc (suc plane.round)) = omega (arith, more) in
              rw (lt-ltb (suc plane.round) until more, le-ltb n 0 (omega arith))
              (sym (rounds-new (suc plane.round) (suc (until - suc (suc plane.round))) (omega (arith, more)))
              ∙ ap (λ c. rounds_at n (suc plane.round) c plane.flights) (sym count)))
          | inr last ↦
              (let count : until - suc plane.round ≡ 0 = omega (arith, last) in
              rw (le-ltb (suc plane.round) until last) (ap (λ c. rounds_at n (suc plane.round) c plane.flights) (sym count)))
        ]

    abbrev rest : List Ask
    rest = rounds_at n (suc plane.round) (until - suc plane.round) plane.flights

    ticks-own : n ≡ plane.ticked → window_at n until plane ≡ Tick ∷ rest
    ticks-own at = still ∙ rw (le-ltb n plane.ticked (omega (arith, at))) refl

    goes-on : link_number (link_at plane.ticked) ≡ plane.ticked → WindowGoes n until plane on (link_at plane.ticked) Tick
    goes-on number = record {
      own = λ to. (let at : n ≡ plane.ticked = sym to ∙ number in ticks-own at ∙ ap (λ asks. Tick ∷ asks) (sym (on-window ∙ rw (lt-ltb n (suc plane.ticked) (omega (arith, at))) refl)));
      other = λ to.
          elim (cases_lt n plane.ticked) [
            | inl before ↦ still ∙ rw (lt-ltb n plane.ticked before) (sym (on-window ∙ rw (lt-ltb n (suc plane.ticked) (omega (arith, before))) refl))
            | inr after ↦
                (let past : suc plane.ticked ≤ n = (let off : n ≢ plane.ticked = λ at. to (number ∙ sym at) in omega (arith, after, off)) in
                still ∙ rw (le-ltb n plane.ticked after) (sym (on-window ∙ rw (le-ltb n (suc plane.ticked) past) refl)))
          ];
    }

    goes-over : link_number (link_at plane.ticked) ≡ plane.ticked → suc plane.ticked ≡ links → WindowGoes n until plane over (link_at plane.ticked) Tick
    goes-over number last = record {
      own = λ to. (let at : n ≡ plane.ticked = sym to ∙ number in ticks-own at ∙ ap (λ asks. Tick ∷ asks) (sym over-window));
      other = λ to.
          (let off : n ≢ plane.ticked = λ at. to (number ∙ sym at) in
          let before : n < plane.ticked = omega (arith, off, inside, last) in
          still ∙ rw (lt-ltb n plane.ticked before) (sym over-window));
    }

    goes-ticked : link_number (link_at plane.ticked) ≡ plane.ticked → WindowGoes n until plane (tick_made links plane new) (link_at plane.ticked) Tick
    goes-ticked number =
        elim (cases_Bool (nat_eq (suc plane.ticked) links)) [
          | inl last ↦ rw last (goes-over number (eqb-true (suc plane.ticked) links last))
          | inr more ↦ rw more (goes-on number)
        ]

-- the flights that begin with a reply are due when the window is over, where none was due before
abbrev pub IsLate : ℕ → Reply → Type 0
IsLate until reply = Each (λ f. until ≤ f.round) (flight_in reply)

window-with : (n links until : ℕ) (plane : Plane) (found : Option Flight) (to : LinkNo) (ask : Ask) (reply : Reply) → links ≤ 32 → plane.ticked < links → n < links → plane.round < until → next_due plane ≡ found → ask_due plane.ticked found ≡ (to, ask) → IsLate until reply
    → WindowGoes n until plane (plane_with links plane found reply) to ask
window-with n links until plane (Some f) to ask reply few some inside early due asks late =
    subst (λ (a : LinkNo × Ask). WindowGoes n until plane (record plane { flights = without_first (is_due plane.round) plane.flights }) a.0 a.1) asks
    (record { own = arrives-own n until plane early f due; other = arrives-other n until plane early f due })
window-with n links until plane None to ask reply few some inside early none asks late =
    subst (λ (a : LinkNo × Ask). WindowGoes n until plane (tick_made links plane (flight_in reply)) a.0 a.1) asks
    (goes-ticked n until plane early links (flight_in reply) some inside none late (omega (arith, few, some)))

-- one reply more
pub window-goes : (n links rounds until : ℕ) (plane : Plane) (to : LinkNo) (ask : Ask) (reply : Reply) → links ≤ 32 → plane.ticked < links → n < links → plane.round < until → plane_ask rounds plane ≡ Some (to, ask) → IsLate until reply
    → WindowGoes n until plane (plane_after links reply plane) to ask
window-goes n links rounds until plane to ask reply few some inside early asked late =
    window-with n links until plane (next_due plane) to ask reply few some inside early refl (asks-due rounds plane to ask asked).asks late

-- nothing is left once the window is over
pub window-over : (n until : ℕ) (plane : Plane) → until ≤ plane.round → window_at n until plane ≡ []
window-over n until plane over = rw (le-ltb plane.round until over) refl

-- the plane doesn't pass the end of the window
rounds-with : (links until : ℕ) (plane : Plane) (found : Option Flight) (reply : Reply) → plane.round < until → (plane_with links plane found reply).round ≤ until
rounds-with links until plane (Some f) reply early = omega (arith, early)
rounds-with links until plane None reply early =
    elim (cases_Bool (nat_eq (suc plane.ticked) links)) [
      | inl last ↦ rw last (omega (arith, early))
      | inr more ↦ rw more (omega (arith, early))
    ]

pub window-holds : (links until : ℕ) (plane : Plane) (reply : Reply) → plane.round < until → (plane_after links reply plane).round ≤ until
window-holds links until plane reply early = rounds-with links until plane (next_due plane) reply early
