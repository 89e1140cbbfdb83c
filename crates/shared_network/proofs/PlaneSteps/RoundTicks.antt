-- The clock of the link that the plane of a pass asks for a tick is at least the plane's round: among the pass's own entries that
-- link has one tick for each round before, and these stand in the link's journal. So what leaves in the tick is due after the round.
use Rattle.std.proofs.Common.{◌≡◌, ◌≢◌, ℕ, ◌+◌, ◌<◌, ◌≤◌, Bool, eqb, List, [], ◌∷◌, ◌++◌, map, Option, Some, None, refl, sym, ap, ◌∙◌, subst, inl, inr, arith}
use Rattle.shared_network.proofs.Words.{cases_Bool, eqb-true, eqb-false, eq-eqb, ne_eqb, le-ltb, append-nil, append_assoc, reverse-append, nat_eq, filter, reverse, actor_number, link_number, LinkNo, Ask, Arrive, Tick, Reply, clock_with, clock_of, Plane, next_due, ask_due, flight_in, plane_ask, plane_with, plane_of, mark_in, done_in, marks_in, history_in, own_at, Entry, OwnEntry, marks_of, Mark}
use mathlib.Core.List.{IsPrefix}
use Rattle.link_steps.specs.declared.replies.Entry.{Entry as Done}
use Rattle.tick_plane.specs.declared.flight.Flight.{Flight}
use Rattle.tick_plane.proofs.PlaneFlights.{asks-due}
use Rattle.tick_plane.proofs.TicksPerLink.{ticks_made, tick-clocks, other-clocks, ticked-with}
use Rattle.shared_network.specs.Calls.{Follows, reply_in}
use Rattle.shared_network.specs.Planes.{next_round}

-- ---- ticks among asks

abbrev tick_in : Ask → ℕ
tick_in Tick = 1
tick_in _ = 0

abbrev pub ticks_in : {X : Type 0} → (X → Ask) → List X → ℕ
ticks_in ask_of [] = 0
ticks_in ask_of (x ∷ xs) = tick_in (ask_of x) + ticks_in ask_of xs

ticks-append : {X : Type 0} (ask_of : X → Ask) (xs ys : List X) → ticks_in ask_of (xs ++ ys) ≡ ticks_in ask_of xs + ticks_in ask_of ys
ticks-append ask_of [] ys = omega arith
ticks-append ask_of (x ∷ xs) ys = let rest = ticks-append ask_of xs ys in omega (arith, rest)

ticks-map : {X Y : Type 0} (f : X → Y) (ask_of : Y → Ask) (xs : List X) → ticks_in ask_of (map f xs) ≡ ticks_in (λ x. ask_of (f x)) xs
ticks-map f ask_of [] = refl
ticks-map f ask_of (x ∷ xs) = ap (λ n. tick_in (ask_of (f x)) + n) (ticks-map f ask_of xs)

-- fewer pass a test
ticks-passed : {X : Type 0} (ask_of : X → Ask) (p : X → Bool) (xs : List X) → ticks_in ask_of (filter p xs) ≤ ticks_in ask_of xs
ticks-passed ask_of p [] = omega arith
ticks-passed ask_of p (x ∷ xs) =
    let rest = ticks-passed ask_of p xs in
    elim (cases_Bool (p x)) [
      | inl passes ↦ rw passes (omega (arith, rest))
      | inr fails ↦ rw fails (omega (arith, rest))
    ]

-- and fewer pass two
ticks-both : {X : Type 0} (ask_of : X → Ask) (p q : X → Bool) (xs : List X) → ticks_in ask_of (filter p (filter q xs)) ≤ ticks_in ask_of (filter p xs)
ticks-both ask_of p q [] = omega arith
ticks-both ask_of p q (x ∷ xs) =
    let rest = ticks-both ask_of p q xs in
    elim (cases_Bool (q x)) [
      | inl second ↦ (elim (cases_Bool (p x)) [
        | inl first ↦ rw (second, first) (omega (arith, rest))
        | inr fails ↦ rw (second, fails) (omega (arith, rest))
      ])
      | inr fails ↦ (elim (cases_Bool (p x)) [
        | inl first ↦ rw (fails, first) (omega (arith, rest))
        | inr none ↦ rw (fails, none) (omega (arith, rest))
      ])
    ]

-- the clock of a history
clock-with : (ask : Ask) (t : ℕ) → clock_with ask t ≡ tick_in ask + t
clock-with Tick t = omega arith
clock-with _ t = omega arith

clock-ticks : (h : List Done) → clock_of h ≡ ticks_in (λ (d : Done). d.ask) h
unfolding clock_of
clock-ticks [] = refl
clock-ticks (d ∷ h) = clock-with d.ask (clock_of h) ∙ ap (λ t. tick_in d.ask + t) (clock-ticks h)

ticks-turned : (es : List Done) → ticks_in (λ (d : Done). d.ask) (reverse es) ≡ ticks_in (λ (d : Done). d.ask) es
ticks-turned [] = refl
ticks-turned (d ∷ es) =
    let turned = ap (ticks_in (λ (x : Done). x.ask)) (reverse-append (d ∷ []) es) in
    let parts = ticks-append (λ (x : Done). x.ask) (reverse es) (d ∷ []) in
    let rest = ticks-turned es in
    omega (arith, turned, parts, rest)

-- that of a journal has all ticks of its marks
pub journal-clock : (entries : List Entry) → clock_of (history_in entries) ≡ ticks_in (λ (m : Mark). m.ask) (marks_in entries)
journal-clock entries =
    clock-ticks (history_in entries) ∙ ticks-turned (map done_in entries) ∙ ticks-map done_in (λ (d : Done). d.ask) entries ∙ sym (ticks-map mark_in (λ (m : Mark). m.ask) entries)

-- ---- the plane's asks

abbrev ask_in : OwnEntry → Ask
ask_in e = e.ask

one-here : (l : ℕ) (e : OwnEntry) → link_number e.link ≡ l → own_at l (e ∷ []) ≡ e ∷ []
one-here l e here = rw (eq-eqb (link_number e.link) l here) refl

none-here : (l : ℕ) (e : OwnEntry) → link_number e.link ≢ l → own_at l (e ∷ []) ≡ []
none-here l e other = rw (ne_eqb (link_number e.link) l other) refl

-- an ask that is no tick
no-tick : (l : ℕ) (e : OwnEntry) → tick_in e.ask ≡ 0 → ticks_in ask_in (own_at l (e ∷ [])) ≡ 0
no-tick l e none =
    elim (cases_Bool (eqb (link_number e.link) l)) [
      | inl here ↦ rw here (omega (arith, none))
      | inr other ↦ rw other refl
    ]

ticks-step : (links l : ℕ) (plane : Plane) (found : Option Flight) (e : OwnEntry) → links ≤ 32 → plane.ticked < links → l < links → ask_due plane.ticked found ≡ (e.link, e.ask) → ticks_made (plane_with links plane found e.reply) l ≡ ticks_made plane l + ticks_in ask_in (own_at l (e ∷ []))
ticks-step links l plane (Some flight) e few within inside asks =
    let arrive : Arrive flight.packet ≡ e.ask = ap (λ pair. pair.1) asks in
    let none = no-tick l e (ap tick_in (sym arrive)) in
    omega (arith, none)
ticks-step links l plane None e few within inside asks =
    let tick : Tick ≡ e.ask = ap (λ pair. pair.1) asks in
    let number : link_number e.link ≡ plane.ticked = sym (ap (λ pair. link_number pair.0) asks) ∙ (omega arith) in
    elim (cases_Bool (nat_eq l plane.ticked)) [
      | inl on ↦ (
          let at = eqb-true l plane.ticked on in
          let one : ticks_in ask_in (own_at l (e ∷ [])) ≡ 1 = ap (ticks_in ask_in) (one-here l e (number ∙ sym at)) ∙ ap (λ ask. tick_in ask + 0) (sym tick) in
          let more = tick-clocks links l plane (flight_in e.reply) within inside at in
          omega (arith, one, more))
      | inr off ↦ (
          let other = eqb-false l plane.ticked off in
          let none : ticks_in ask_in (own_at l (e ∷ [])) ≡ 0 = ap (ticks_in ask_in) (none-here l e (λ same. other (sym same ∙ number))) in
          let same = other-clocks links l plane (flight_in e.reply) within inside other in
          omega (arith, none, same))
    ]

own-parts : (l : ℕ) (e : OwnEntry) (es : List OwnEntry) → own_at l (e ∷ es) ≡ own_at l (e ∷ []) ++ own_at l es
own-parts l e es =
    elim (cases_Bool (eqb (link_number e.link) l)) [
      | inl here ↦ rw here refl
      | inr other ↦ rw other refl
    ]

plane-next : (links : ℕ) (replies : List Reply) (reply : Reply) → plane_of links (reverse (replies ++ reply ∷ [])) ≡ plane_with links (plane_of links (reverse replies)) (next_due (plane_of links (reverse replies))) reply
unfolding plane_of
plane-next links replies reply = ap (plane_of links) (reverse-append replies (reply ∷ []))

-- the entries after these replies: with them the link has made its ticks among them, and those made before
follows-ticks : (links rounds l : ℕ) (replies : List Reply) (es : List OwnEntry) → 1 ≤ links → links ≤ 32 → l < links → (plane_of links (reverse replies)).ticked < links → Follows (next_round links rounds) replies es
    → ticks_made (plane_of links (reverse (replies ++ map reply_in es))) l ≡ ticks_made (plane_of links (reverse replies)) l + ticks_in ask_in (own_at l es)
unfolding Follows
follows-ticks links rounds l replies [] some few inside within follows = ap (λ (rs : List Reply). ticks_made (plane_of links (reverse rs)) l) (append-nil replies) ∙ (omega arith)
follows-ticks links rounds l replies (e ∷ es) some few inside within follows =
    let plane : Plane = plane_of links (reverse replies) in
    let asks = (asks-due rounds plane e.link e.ask follows.0).asks in
    let next = plane-next links replies e.reply in
    let step = ap (λ (p : Plane). ticks_made p l) next ∙ ticks-step links l plane (next_due plane) e few within inside asks in
    let ticked = subst (λ (p : Plane). p.ticked < links) (sym next) (ticked-with links plane (next_due plane) e.reply some within) in
    let rest = follows-ticks links rounds l (replies ++ e.reply ∷ []) es some few inside ticked follows.1 in
    let whole = ap (λ (rs : List Reply). ticks_made (plane_of links (reverse rs)) l) (append_assoc replies (e.reply ∷ []) (map reply_in es)) in
    let parts = ap (ticks_in ask_in) (own-parts l e es) ∙ ticks-append ask_in (own_at l (e ∷ [])) (own_at l es) in
    omega (arith, step, rest, whole, parts)

-- ---- the clock of the link that is asked

abbrev mark_ask : Mark → Ask
mark_ask m = m.ask

ticks-same : (marked : OwnEntry → Mark) → ((e : OwnEntry) → (marked e).ask ≡ e.ask) → (es : List OwnEntry) → ticks_in (λ e. (marked e).ask) es ≡ ticks_in ask_in es
ticks-same marked asks [] = refl
ticks-same marked asks (e ∷ es) = λ i. tick_in (asks e i) + ticks-same marked asks es i

-- the link has made a tick for each round before the plane's, among these entries
rounds-made : (links rounds l : ℕ) (es : List OwnEntry) → l < links → links ≤ 32 → Follows (next_round links rounds) [] es → l ≡ (plane_of links (reverse (map reply_in es))).ticked → (plane_of links (reverse (map reply_in es))).round ≡ ticks_in ask_in (own_at l es)
unfolding plane_of
rounds-made links rounds l es inside few follows at =
    let all = follows-ticks links rounds l [] es (omega (arith, inside)) few inside (omega (arith, inside)) follows in
    let none : ticks_made (plane_of links (reverse [])) l ≡ 0 = rw (le-ltb l 0 (omega arith)) refl in
    let last : ticks_made (plane_of links (reverse (map reply_in es))) l ≡ (plane_of links (reverse (map reply_in es))).round = rw (le-ltb l (plane_of links (reverse (map reply_in es))).ticked (omega (arith, at))) (omega arith) in
    omega (arith, all, none, last)

-- these ticks stand in the journal that follows what is known of the link
own-clock : (l actor : ℕ) (own : List OwnEntry) (known : List Mark) (marked : OwnEntry → Mark) (p : OwnEntry → Bool) (entries : List Entry) → ((e : OwnEntry) → (marked e).ask ≡ e.ask) → marks_of actor known ≡ map marked (own_at l own) → IsPrefix known (marks_in entries) → ticks_in ask_in (own_at l (filter p own)) ≤ clock_of (history_in entries)
own-clock l actor own known marked p entries asks knows begins =
    let first = ticks-both ask_in (λ (e : OwnEntry). eqb (link_number e.link) l) p own in
    let same = ap (ticks_in mark_ask) knows ∙ ticks-map marked mark_ask (own_at l own) ∙ ticks-same marked asks (own_at l own) in
    let passed = ticks-passed mark_ask (λ (m : Mark). eqb (actor_number m.actor) actor) known in
    let whole = ap (ticks_in mark_ask) begins.1 in
    let parts = ticks-append mark_ask known begins.0 in
    let clock = journal-clock entries in
    omega (arith, first, same, passed, whole, parts, clock)

-- the plane asks the next link for its tick
tick-number : (ticked : ℕ) (found : Option Flight) (to : LinkNo) (ask : Ask) → ticked < 32 → ask_due ticked found ≡ (to, ask) → ask ≡ Tick → link_number to ≡ ticked
tick-number ticked None to ask few asks tick = sym (ap (λ pair. link_number pair.0) asks) ∙ (omega arith)
tick-number ticked (Some flight) to ask few asks tick = absurd (let clash : Arrive flight.packet ≡ Tick = ap (λ pair. pair.1) asks ∙ tick in cc)

pub tick-clock : (links rounds actor : ℕ) (plane : Plane) (own : List OwnEntry) (p : OwnEntry → Bool) (known : List Mark) (marked : OwnEntry → Mark) (entries : List Entry) (to : LinkNo) (ask : Ask) → links ≤ 32 → plane.ticked < links → Follows (next_round links rounds) [] (filter p own) → plane ≡ plane_of links (reverse (map reply_in (filter p own)))
    → plane_ask rounds plane ≡ Some (to, ask) → ((e : OwnEntry) → (marked e).ask ≡ e.ask) → marks_of actor known ≡ map marked (own_at (link_number to) own) → IsPrefix known (marks_in entries) → ask ≡ Tick → plane.round ≤ clock_of (history_in entries)
tick-clock links rounds actor plane own p known marked entries to ask few within follows stands asks same knows begins tick =
    let number = tick-number plane.ticked (next_due plane) to ask (omega (arith, few, within)) (asks-due rounds plane to ask asks).asks tick in
    let made = rounds-made links rounds (link_number to) (filter p own) (omega (arith, number, within)) few follows (number ∙ ap (λ (x : Plane). x.ticked) stands) in
    let round = ap (λ (x : Plane). x.round) stands in
    let clock = own-clock (link_number to) actor own known marked p entries same knows begins in
    omega (arith, round, made, clock)
