-- The turns of items among some callers more, gathered an item at a time.
use Rattle.std.proofs.Common.{◌≡◌, ℕ, zero, suc, ◌+◌, ◌<◌, ◌≤◌, List, [], ◌∷◌, ◌++◌, length, get_or, map, take, refl, sym, ap, ◌∙◌}
use Rattle.std.proofs.lemmas.List.{map-append, take_all, take_more}
use Rattle.net_units.specs.declared.numbers.ActorNo.{ActorNo}
use Rattle.call_script.specs.declared.schedule.Do.{Do}
use Rattle.run_engine.specs.schedules.Schedules.{lined_turns, repeated, turns_of}
use Rattle.run_engine.proofs.Schedules.ScheduleOutcome.{turns-append, turns-one}
use Rattle.setup_points.specs.Rooms.{actor_among, steps_by}

map-repeated : {X Y : Type 0} (f : X → Y) (n : ℕ) (x : X) → map f (repeated n x) ≡ repeated n (f x)
unfolding repeated
map-repeated f zero x = refl
map-repeated f (suc n) x = ap (λ ys. f x ∷ ys) (map-repeated f n x)

pub among-none : (callers more : ℕ) (made : List Do) → made ≡ [] → turns_of made ≡ map (actor_among callers more) (turns_of [])
unfolding lined_turns
among-none callers more made none = ap turns_of none

pub among-one : (callers more : ℕ) (items : List Do) (i : ℕ) (item : Do) (made made_too : List Do) → i < length items → item ≡ get_or items i item
    → turns_of made ≡ map (actor_among callers more) (turns_of (take i items)) → made_too ≡ made ++ steps_by (actor_among callers more item.actor) item.count ∷ []
    → turns_of made_too ≡ map (actor_among callers more) (turns_of (take (i + 1) items))
among-one callers more items i item made made_too within is so_far added =
    let f = actor_among callers more in
    let before = turns_of (take i items) in
    let put = steps_by (f item.actor) item.count in
    let all : turns_of (take (i + 1) items) ≡ before ++ repeated item.count item.actor =
    ap turns_of (take_more items i item within ∙ ap (λ x. take i items ++ x ∷ []) (sym is)) ∙ turns-append (take i items) (item ∷ []) ∙ ap (λ (own : List ActorNo). before ++ own) (turns-one item) in
    ap turns_of added ∙ turns-append made (put ∷ []) ∙ ap (λ (own : List ActorNo). own ++ turns_of (put ∷ [])) so_far ∙ ap (λ (own : List ActorNo). map f before ++ own) (turns-one put ∙ sym (map-repeated f item.count item.actor))
    ∙ sym (map-append f before (repeated item.count item.actor)) ∙ ap (map f) (sym all)

pub among-all : (callers more : ℕ) (items : List Do) (i : ℕ) (made : List Do) → length items ≤ i → turns_of made ≡ map (actor_among callers more) (turns_of (take i items))
    → turns_of made ≡ map (actor_among callers more) (turns_of items)
among-all callers more items i made past so_far = so_far ∙ ap (λ own. map (actor_among callers more) (turns_of own)) (take_all i items past)
