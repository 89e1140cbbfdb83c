-- Each turn moves the place that it comes to up, where it is after the one left.
use Rattle.std.proofs.Common.{◌≡◌, ◌-◌, get_or, set, refl, ap, ◌∙◌, arith}
use Rattle.std.proofs.lemmas.Bool.{lt-ltb, le-ltb}
use Rattle.std.proofs.lemmas.List.{get_or_default}
use Rattle.std.proofs.lemmas.List.Edits.{map_over_more}
use Rattle.rcsp_admission.specs.Index.{moved_up}
use Rattle.rcsp_admission.specs.declared.key_index.KeyPlace.{KeyPlace}
use Rattle.rcsp_admission.proofs.key_index.move_up.Goals as goal
use Rattle.rcsp_admission.proofs.key_index.move_up.Goals.{then-kept-left, else-kept-left}

pub loop-kept-preserved : goal.loop-kept-preserved
loop-kept-preserved c =
    let seen : KeyPlace = get_or c.loop-kept.places c.loop-kept.kept-index (record { key = 0; place = 0 }) in
    let own = get_or_default c.loop-kept.places c.loop-kept.kept-index (record { key = 0; place = 0 }) seen (omega arith) in
    let more = map_over_more (moved_up c.args.left) c.args.places.now c.loop-kept.places c.loop-kept.kept-index seen c.loop-kept-test.true c.loop-kept.invariant own in
    elim c.if-kept-left.branch [
      | then-kept-left w ↦ (
          let up : record { key = seen.key; place = seen.place - 1 } ≡ moved_up c.args.left seen = rw (lt-ltb c.args.left seen.place w.if-kept-left.true) refl in
          w.places-is ∙ ap (set c.loop-kept.places c.loop-kept.kept-index) up ∙ more
          )
      | else-kept-left w ↦ (
          let same : seen ≡ moved_up c.args.left seen = rw (le-ltb c.args.left seen.place w.if-kept-left.false) refl in
          w.places-is ∙ ap (set c.loop-kept.places c.loop-kept.kept-index) same ∙ more
          )
    ]
