-- Items are followed by the steps of some callers, one caller after another.
use Rattle.std.proofs.Common.{◌≡◌, ℕ, suc, ◌+◌, List, [], ◌∷◌, ◌++◌, refl, sym, ap, ◌∙◌, subst, arith}
use Rattle.std.proofs.lemmas.List.{append-nil, append_assoc}
use Rattle.net_units.specs.Numbers.{actor_at}
use Rattle.net_units.specs.declared.numbers.ActorNo.{ActorNo}
use Rattle.call_script.specs.declared.schedule.Do.{Do}
use Rattle.run_engine.specs.schedules.Schedules.{repeated, turns_of}
use Rattle.setup_points.specs.Rooms.{AreFollowedBy, AreTurnsOf, openers, steps_by}
use Rattle.setup_points.proofs.Fronts.{followed-by}

pub by-none : (first : ℕ) (turns : List ActorNo) → AreFollowedBy turns (openers first 0) turns
unfolding openers AreTurnsOf
by-none first turns = record { more = []; are = refl; is = sym (append-nil turns) }

pub by-one-more : (first kind count : ℕ) (actor : ActorNo) (turns : List ActorNo) (items more : List Do) → actor ≡ actor_at (first + kind)
    → AreFollowedBy turns (openers first kind) (turns_of items) → more ≡ items ++ steps_by actor count ∷ [] → AreFollowedBy turns (openers first (kind + 1)) (turns_of more)
unfolding openers AreTurnsOf
by-one-more first kind count actor turns items more same followed added =
    let own : List ActorNo = repeated count actor in
    let named : own ≡ repeated count (actor_at (first + kind)) = ap (repeated count) same in
    let next : AreFollowedBy turns (openers first (suc kind)) (turns_of more) = record {
      more = followed.more ++ own;
      are = (count, (followed.more, followed.are, ap (λ (own : List ActorNo). followed.more ++ own) named));
      is = followed-by items more (steps_by actor count) added ∙ ap (λ (before : List ActorNo). before ++ own) followed.is ∙ append_assoc turns followed.more own;
    } in
    subst (λ (n : ℕ). AreFollowedBy turns (openers first n) (turns_of more)) (let one : suc kind ≡ kind + 1 = omega arith in one) next
