-- What is left of a round is what the plane asks in it, one ask after the other.
use Rattle.std.proofs.Common.{◌≡◌, ℕ, zero, suc, ◌-◌, ◌<◌, false, List, [], ◌∷◌, ◌++◌, map, filter, length, Option, Some, None, refl, sym, ap, ◌∙◌, subst, inl, inr, arith}
use Rattle.std.proofs.lemmas.Bool.{cases_lt, eq-eqb, ne_eqb, lt-ltb}
use Rattle.std.proofs.lemmas.List.{length-append}
use Rattle.net_units.specs.Numbers.{link_at}
use Rattle.net_units.specs.declared.numbers.LinkNo.{LinkNo}
use Rattle.link_steps.specs.declared.asks.Ask.{Ask}
use Rattle.link_steps.specs.declared.asks.Ask.TheVariants.{Tick}
use Rattle.link_steps.specs.declared.replies.Reply.{Reply}
use Rattle.link_steps.specs.Lists.{Each}
use Rattle.tick_plane.specs.declared.flight.Flight.{Flight}
use Rattle.tick_plane.specs.Planes.{Plane, is_due, next_due, ask_due, flight_in, plane_with, plane_after, plane_ask}
use Rattle.tick_plane.specs.Rounds.{arrival_of, ticks_from, rest_of, AskedInTurn, RoundsAreAskedInTurn}
use Rattle.tick_plane.proofs.WithoutFirst.{left-own, none-left, more-same, found-passes}

abbrev left_in : ℕ → Plane → List (LinkNo × Ask)
left_in links plane = map arrival_of (filter (is_due plane.round) plane.flights) ++ ticks_from plane.ticked (links - plane.ticked)

not-due : (round : ℕ) (new : List Flight) → Each (λ f. round < f.round) new → Each (λ f. is_due round f ≡ false) new
not-due round [] late = tt
not-due round (f ∷ fs) late = ((let first = late.0 in ne_eqb f.round round (λ same. absurd (omega (arith, first, same)))), not-due round fs late.1)

-- the next ask is the first that is left, and what comes after it is left in the same round, or the round is over
data LeftGoes (links : ℕ) (plane next : Plane) (to : LinkNo × Ask) : Type 0 where
  SameRound : next.round ≡ plane.round → next.ticked < links → left_in links plane ≡ to ∷ left_in links next → LeftGoes links plane next to
  NextRound : next.round ≡ suc plane.round → next.ticked ≡ 0 → left_in links plane ≡ to ∷ [] → LeftGoes links plane next to

ticks-first : (n count : ℕ) → ticks_from n (suc count) ≡ (link_at n, Tick) ∷ ticks_from (suc n) count
unfolding ticks_from
ticks-first n count = refl

ticks-none : (n : ℕ) → ticks_from n 0 ≡ []
unfolding ticks_from
ticks-none n = refl

left-with : (links : ℕ) (plane : Plane) (found : Option Flight) (reply : Reply) → plane.ticked < links → next_due plane ≡ found → Each (λ f. plane.round < f.round) (flight_in reply) → LeftGoes links plane (plane_with links plane found reply) (ask_due plane.ticked found)
left-with links plane (Some f) reply some due late =
    SameRound refl some
    (ap (λ fs. map arrival_of fs ++ ticks_from plane.ticked (links - plane.ticked)) (left-own (is_due plane.round) (is_due plane.round) f plane.flights (λ g off. off) due (found-passes (is_due plane.round) f plane.flights due)))
left-with links plane None reply some none late =
    let none-due : filter (is_due plane.round) plane.flights ≡ [] = none-left (is_due plane.round) (is_due plane.round) plane.flights (λ g off. off) none in
    let none-due-new : filter (is_due plane.round) (plane.flights ++ flight_in reply) ≡ [] = more-same (is_due plane.round) plane.flights (flight_in reply) (not-due plane.round (flight_in reply) late) ∙ none-due in
    let count : links - plane.ticked ≡ suc (links - suc plane.ticked) = omega (arith, some) in
    let first : left_in links plane ≡ (link_at plane.ticked, Tick) ∷ ticks_from (suc plane.ticked) (links - suc plane.ticked) =
    ap (λ fs. map arrival_of fs ++ ticks_from plane.ticked (links - plane.ticked)) none-due ∙ ap (ticks_from plane.ticked) count ∙ ticks-first plane.ticked (links - suc plane.ticked) in
    elim (cases_lt (suc plane.ticked) links) [
      | inl more ↦
          rw (ne_eqb (suc plane.ticked) links (λ same. absurd (omega (arith, same, more))))
          (SameRound refl more (first ∙ ap (λ fs. (link_at plane.ticked, Tick) ∷ (map arrival_of fs ++ ticks_from (suc plane.ticked) (links - suc plane.ticked))) (sym none-due-new)))
      | inr last ↦
          rw (eq-eqb (suc plane.ticked) links (omega (arith, some, last)))
          (NextRound refl refl (first ∙ ap (λ n. (link_at plane.ticked, Tick) ∷ ticks_from (suc plane.ticked) n) (let none : links - suc plane.ticked ≡ 0 = omega (arith, last) in none) ∙ ap (λ asks. (link_at plane.ticked, Tick) ∷ asks) (ticks-none (suc plane.ticked))))
    ]

each-round : (a b : ℕ) (replies : List Reply) → a ≡ b → Each (λ reply. Each (λ f. b < f.round) (flight_in reply)) replies → Each (λ reply. Each (λ f. a < f.round) (flight_in reply)) replies
each-round a b replies same each = subst (λ n. Each (λ reply. Each (λ f. n < f.round) (flight_in reply)) replies) (sym same) each

asked-first : (rounds : ℕ) (plane : Plane) → plane.round < rounds → plane_ask rounds plane ≡ Some (ask_due plane.ticked (next_due plane))
asked-first rounds plane early = rw (lt-ltb plane.round rounds early) refl

ticks-long : (n count : ℕ) → length (ticks_from n count) ≡ count
unfolding ticks_from
ticks-long n zero = refl
ticks-long n (suc count) = ap suc (ticks-long (suc n) count)

abbrev Ends : ℕ → ℕ → Plane → List (LinkNo × Ask) → List Reply → Type 0
Ends links rounds plane asks replies = (after : Plane) × AskedInTurn links rounds plane asks replies after × (after.round ≡ suc plane.round) × (after.ticked ≡ 0)

turn-more : (links rounds : ℕ) (plane : Plane) (reply : Reply) (replies : List Reply) → plane.round < rounds → suc (length replies) ≡ length (left_in links plane) → Each (λ r. Each (λ f. plane.round < f.round) (flight_in r)) replies
    → ((p : Plane) → p.ticked < links → p.round < rounds → length replies ≡ length (left_in links p) → Each (λ r. Each (λ f. p.round < f.round) (flight_in r)) replies → Ends links rounds p (left_in links p) replies)
    → LeftGoes links plane (plane_after links reply plane) (ask_due plane.ticked (next_due plane)) → Ends links rounds plane (left_in links plane) (reply ∷ replies)
turn-more links rounds plane reply replies early long late next (SameRound round some is) =
    let ends = next (plane_after links reply plane) some (omega (arith, early, round)) (let more = ap length is in omega (arith, long, more)) (each-round (plane_after links reply plane).round plane.round replies round late) in
    subst (λ asks. Ends links rounds plane asks (reply ∷ replies)) (sym is) (ends.0, (asked-first rounds plane early, ends.1), ends.2 ∙ ap suc round, ends.3)
turn-more links rounds plane reply [] early long late next (NextRound round none is) =
    subst (λ asks. Ends links rounds plane asks (reply ∷ [])) (sym is) (plane_after links reply plane, (asked-first rounds plane early, refl), round, none)
turn-more links rounds plane reply (r ∷ rs) early long late next (NextRound round none is) = absurd (let more = ap length is in omega (arith, long, more))

turns : (links rounds : ℕ) (plane : Plane) (replies : List Reply) → plane.ticked < links → plane.round < rounds → length replies ≡ length (left_in links plane) → Each (λ r. Each (λ f. plane.round < f.round) (flight_in r)) replies → Ends links rounds plane (left_in links plane) replies
turns links rounds plane [] some early long late =
    absurd (let all = length-append (map arrival_of (filter (is_due plane.round) plane.flights)) (ticks_from plane.ticked (links - plane.ticked)) in let ticks = ticks-long plane.ticked (links - plane.ticked) in omega (arith, long, all, ticks, some))
turns links rounds plane (reply ∷ replies) some early long late =
    turn-more links rounds plane reply replies early long late.1 (λ p. turns links rounds p replies) (left-with links plane (next_due plane) reply some refl late.0)

pub rounds-turn : RoundsAreAskedInTurn
rounds-turn links rounds plane replies some early long late =
    let is : rest_of links rounds plane ≡ left_in links plane = rw (lt-ltb plane.round rounds early) refl in
    subst (λ asks. Ends links rounds plane asks replies) (sym is) (turns links rounds plane replies some early (long ∙ ap length is) late)
