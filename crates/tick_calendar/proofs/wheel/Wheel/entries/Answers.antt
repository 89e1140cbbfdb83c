-- One place more: its entry where it waits.
use Rattle.std.proofs.Common.{◌≡◌, ◌+◌, ◌++◌, ◌∷◌, [], ℕ, suc, false, true, List, get_or, take, length, sym, ap, ◌∙◌, arith, ◌<◌}
use Rattle.std.proofs.lemmas.List.{append-nil, take_all}
use Rattle.std.proofs.Math.Seq.{take-suc}
use Rattle.tick_calendar.specs.declared.place.Place.{Place}
use Rattle.tick_calendar.specs.Calendar.{EntryOf}
use Rattle.tick_calendar.specs.Wheel.{entries_in}
use Rattle.tick_calendar.proofs.Chains.{entries-nil, entries-put, entries-gone}
use Rattle.tick_calendar.proofs.wheel.Wheel.entries.Goals.{then-place+in_ok-push, else-place}
use Rattle.tick_calendar.proofs.wheel.Wheel.entries.Goals as goal

module _ {T : Type 0} (places : List (Place T)) (i : ℕ) (r : Place T) (within : i < length places) (read : r ≡ get_or places i r) (now new : List (EntryOf T)) (was : now ≡ entries_in (take i places)) where
  one-more : entries_in (take (i + 1) places) ≡ entries_in (take i places ++ r ∷ [])
  one-more =
      let step : i + 1 ≡ suc i = omega arith in
      ap entries_in (ap (λ k. take k places) step ∙ take-suc places i r within ∙ ap (λ p. take i places ++ p ∷ []) (sym read))

  waits-more : r.waits ≡ true → new ≡ now ++ (r.tick, r.key) ∷ [] → new ≡ entries_in (take (i + 1) places)
  waits-more on pushed = pushed ∙ ap (λ es. es ++ (r.tick, r.key) ∷ []) was ∙ sym (entries-put (take i places) r on) ∙ sym one-more

  gone-more : r.waits ≡ false → new ≡ now → new ≡ entries_in (take (i + 1) places)
  gone-more off same =
      same ∙ was ∙ sym (entries-gone (take i places) [] r off ∙ ap (λ es. entries_in (take i places) ++ es) entries-nil ∙ append-nil (entries_in (take i places))) ∙ sym one-more

pub loop-place-init : goal.loop-place-init
loop-place-init g c = c.new-entries.ensures.items ∙ sym entries-nil

pub loop-place-preserved : goal.loop-place-preserved
loop-place-preserved g c =
    let places : List (Place _) = c.deref-place-items.result.now in
    let same : places ≡ c.args.self.now.places.items = c.deref-place-items.ensures.value in
    let was : c.loop-place.entries.items ≡ entries_in (take c.loop-place.place-index places) = c.loop-place.invariant ∙ ap (λ ps. entries_in (take c.loop-place.place-index ps)) (sym same) in
    let now = ap (λ ps. entries_in (take (c.loop-place.place-index + 1) ps)) same in
    elim c.if-place.branch [
      | then-place+in_ok-push w ↦
          waits-more places c.loop-place.place-index c.place-item.result c.loop-place-test.true c.place-item.is c.loop-place.entries.items c.if-place.entries.items was w.if-place.true (ap (λ es. es.items) w.entries-is ∙ w.in_ok-push.ensures.items) ∙ now
      | else-place w ↦ gone-more places c.loop-place.place-index c.place-item.result c.loop-place-test.true c.place-item.is c.loop-place.entries.items c.if-place.entries.items was w.if-place.false (ap (λ es. es.items) w.entries-is) ∙ now
    ]

pub returns : goal.returns
returns g c =
    let places : List (Place _) = c.deref-place-items.result.now in
    let same : places ≡ c.args.self.now.places.items = c.deref-place-items.ensures.value in
    let all : take c.loop-place.place-index places ≡ places = take_all c.loop-place.place-index places c.loop-place-test.false in
    c.loop-place.invariant ∙ ap (λ ps. entries_in (take c.loop-place.place-index ps)) (sym same) ∙ ap entries_in (all ∙ same)
