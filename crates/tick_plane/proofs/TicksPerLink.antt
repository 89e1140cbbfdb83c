-- How many ticks the plane has had each link make: one a round, and one more where the link has made that of this round.
use Rattle.std.proofs.Common.{◌≡◌, ◌≢◌, ℕ, suc, ◌+◌, ◌<◌, ◌≤◌, cond, List, Option, Some, None, refl, inl, inr, arith}
use Rattle.std.proofs.lemmas.Bool.{cases_Bool, cases_lt, eqb-true, eqb-false, lt-ltb, le-ltb}
use Rattle.std.specs.Prelude.{nat_eq, nat_lt}
use Rattle.link_steps.specs.declared.replies.Reply.{Reply}
use Rattle.tick_plane.specs.Planes.{Plane, tick_made, plane_with}
use Rattle.tick_plane.specs.declared.flight.Flight.{Flight}

abbrev pub ticks_made : Plane → ℕ → ℕ
ticks_made plane n = plane.round + cond (nat_lt n plane.ticked) 1 0

-- the link that is next has made one tick more
pub tick-clocks : (links n : ℕ) (plane : Plane) (new : List Flight) → plane.ticked < links → n < links → n ≡ plane.ticked → suc (ticks_made plane n) ≡ ticks_made (tick_made links plane new) n
tick-clocks links n plane new within few same =
    elim (cases_Bool (nat_eq (suc plane.ticked) links)) [
      | inl last ↦ rw (last, le-ltb n plane.ticked (omega arith), le-ltb n 0 (omega arith)) (omega arith)
      | inr more ↦ rw (more, le-ltb n plane.ticked (omega arith), lt-ltb n (suc plane.ticked) (omega arith)) (omega arith)
    ]

-- and each other one as many as before
pub other-clocks : (links n : ℕ) (plane : Plane) (new : List Flight) → plane.ticked < links → n < links → n ≢ plane.ticked → ticks_made plane n ≡ ticks_made (tick_made links plane new) n
other-clocks links n plane new within few other =
    elim (cases_Bool (nat_eq (suc plane.ticked) links)) [
      | inl last ↦ (let e : suc plane.ticked ≡ links = eqb-true (suc plane.ticked) links last in rw (last, lt-ltb n plane.ticked (omega (arith, e)), le-ltb n 0 (omega arith)) (omega arith))
      | inr more ↦ elim (cases_lt n plane.ticked) [
        | inl before ↦ rw (more, lt-ltb n plane.ticked before, lt-ltb n (suc plane.ticked) (omega arith)) refl
        | inr rest ↦ rw (more, le-ltb n plane.ticked rest, le-ltb n (suc plane.ticked) (omega (arith, other))) refl
      ]
    ]

-- a link is next
pub ticked-with : (links : ℕ) (plane : Plane) (found : Option Flight) (reply : Reply) → 1 ≤ links → plane.ticked < links → (plane_with links plane found reply).ticked < links
ticked-with links plane (Some flight) reply some within = within
ticked-with links plane None reply some within =
    elim (cases_Bool (nat_eq (suc plane.ticked) links)) [
      | inl last ↦ rw last some
      | inr more ↦ rw more (let other = eqb-false (suc plane.ticked) links more in omega (arith, other))
    ]
