-- One place more: its tick where it waits.
use Rattle.std.proofs.Common.{◌≡◌, ◌+◌, ◌++◌, ◌∷◌, [], ℕ, suc, min, List, get_or, take, length, sym, ap, ◌∙◌, subst, arith, ◌<◌}
use Rattle.std.proofs.lemmas.List.{take_all}
use Rattle.std.proofs.Math.Seq.{take-suc}
use Rattle.tick_calendar.specs.declared.place.Place.{Place}
use Rattle.tick_calendar.specs.Wheel.{entries_in, IsLeastBy}
use Rattle.tick_calendar.proofs.Slots.{least-none, least-skips, least-lowers}
use Rattle.tick_calendar.proofs.wheel.least_tick.Goals.{then-place, else-place}
use Rattle.tick_calendar.proofs.wheel.least_tick.Goals as goal

one-more : {T : Type 0} (ps : List (Place T)) (i : ℕ) (r : Place T) (now least : ℕ) → i < length ps → r ≡ get_or ps i r → IsLeastBy (entries_in (take i ps ++ r ∷ [])) now least → IsLeastBy (entries_in (take (i + 1) ps)) now least
one-more ps i r now least within read is =
    let step : suc i ≡ i + 1 = omega arith in
    subst (λ l. IsLeastBy (entries_in l) now least) (ap (λ p. take i ps ++ p ∷ []) read ∙ sym (take-suc ps i r within) ∙ ap (λ k. take k ps) step) is

pub loop-place-init : goal.loop-place-init
loop-place-init g c = least-none c.args.now

pub loop-place-preserved : goal.loop-place-preserved
loop-place-preserved g c =
    let r = c.place-item.result in
    one-more c.args.places.now c.loop-place.place-index r c.args.now c.if-place.least c.loop-place-test.true c.place-item.is
    (elim c.if-place.branch [
      | then-place w ↦
          let lowest : min c.loop-place.least r.tick ≡ c.if-place.least = omega (arith, w.least-is, w.min-least.ensures) in
          subst (IsLeastBy _ c.args.now) lowest (least-lowers (take c.loop-place.place-index c.args.places.now) r c.args.now c.loop-place.least w.if-place.true c.loop-place.invariant)
      | else-place w ↦ subst (IsLeastBy _ c.args.now) (sym w.least-is) (least-skips (take c.loop-place.place-index c.args.places.now) r c.args.now c.loop-place.least w.if-place.false c.loop-place.invariant)
    ])

pub returns : goal.returns
returns g c =
    let all : take c.loop-place.place-index c.args.places.now ≡ c.args.places.now = take_all c.loop-place.place-index c.args.places.now (omega arith) in
    subst (λ l. IsLeastBy (entries_in l) c.args.now c.loop-place.least) all c.loop-place.invariant
