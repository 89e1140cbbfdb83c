-- One more turn: the last item has a step more where it is of this actor, and else there is an item more. Either way the items
-- are the maximal runs of the actors with this one.
use Rattle.std.proofs.Common.{◌≡◌, ◌≢◌, ℕ, zero, suc, ◌+◌, ◌-◌, ◌<◌, ◌≤◌, ◌^◌, true, false, Some, None, List, [], ◌∷◌, ◌++◌, length, take, get_or, set, refl, sym, ap, ◌∙◌, subst, arith}
use Rattle.std.proofs.lemmas.Bool.{eqb-true, eqb-false}
use Rattle.std.proofs.lemmas.List.{append_assoc, length-append, map-append}
use Rattle.std.proofs.lemmas.Option.{same_Some}
use Rattle.std.specs.List.{slice_get}
use Rattle.std.specs.Prelude.{nat_eq}
use Rattle.net_units.specs.Numbers.{actor_number}
use Rattle.net_units.specs.declared.numbers.ActorNo.{ActorNo}
use Rattle.link_steps.specs.Lists.{Each}
use Rattle.link_steps.proofs.SearchAndFilter.{Each-append}
use Rattle.call_script.specs.declared.schedule.Do.{Do}
use Rattle.run_engine.specs.schedules.Schedules.{lined_turns, turns_of, repeated}
use Rattle.run_engine.proofs.Schedules.ScheduleOutcome.{turns-append, turns-one, repeated-more}
use Rattle.race_run.specs.Turns.{BeginsOtherThan, Alternate, IsUnwritten, AreMaximalRuns, ends_with}
use Rattle.call_script.proofs.Walks.{before-at}
use Rattle.run_record.specs.declared.done.Done.{Done}
use Rattle.race_run.specs.Turns.{actors_of}
use Rattle.run_engine.specs.runs.Laws.{actor_of}
use Rattle.net_units.proofs.KnownByNumber.{same-actor}

abbrev pub one_more : Do → Do
one_more item = record { line = item.line; actor = item.actor; count = item.count + 1 }

length-repeated : (n : ℕ) (x : ActorNo) → length (repeated n x) ≡ n
unfolding repeated
length-repeated zero x = refl
length-repeated (suc n) x = ap suc (length-repeated n x)

pub turns-first : (item : Do) (items : List Do) → turns_of (item ∷ items) ≡ repeated item.count item.actor ++ turns_of items
turns-first item items = turns-append (item ∷ []) items ∙ ap (λ ts. ts ++ turns_of items) (turns-one item)

-- the last item with a step more
turns-again : (items : List Do) (n : ℕ) (last : Do) → length items ≡ suc n → get_or items n last ≡ last → turns_of (set items n (one_more last)) ≡ turns_of items ++ last.actor ∷ []
turns-again [] n last long is = absurd (omega (arith, long))
turns-again (item ∷ []) zero last long is =
    turns-one (one_more last) ∙ repeated-more last.count last.actor ∙ ap (λ ts. ts ++ last.actor ∷ []) (sym (turns-one last) ∙ ap (λ (i : Do). turns_of (i ∷ [])) (sym is))
turns-again (item ∷ next ∷ items) zero last long is = absurd (omega (arith, long))
turns-again (item ∷ items) (suc n) last long is =
    turns-first item (set items n (one_more last)) ∙ ap (λ ts. repeated item.count item.actor ++ ts) (turns-again items n last (omega (arith, long)) is)
    ∙ sym (append_assoc (repeated item.count item.actor) (turns_of items) (last.actor ∷ [])) ∙ ap (λ ts. ts ++ last.actor ∷ []) (sym (turns-first item items))

unwritten-again : (items : List Do) (n : ℕ) (last : Do) → get_or items n last ≡ last → Each IsUnwritten items → Each IsUnwritten (set items n (one_more last))
unwritten-again [] n last is each = tt
unwritten-again (item ∷ items) zero last is each = (record { line = subst (λ (i : Do). i.line ≡ 0) is each.0.line; some = omega arith }, each.1)
unwritten-again (item ∷ items) (suc n) last is each = (each.0, unwritten-again items n last is each.1)

begins-again : (items : List Do) (n : ℕ) (last : Do) (actor : ActorNo) → get_or items n last ≡ last → BeginsOtherThan actor items → BeginsOtherThan actor (set items n (one_more last))
begins-again [] n last actor is begins = tt
begins-again (item ∷ items) zero last actor is begins = subst (λ (i : Do). i.actor ≢ actor) is begins
begins-again (item ∷ items) (suc n) last actor is begins = begins

alternate-again : (items : List Do) (n : ℕ) (last : Do) → length items ≡ suc n → get_or items n last ≡ last → Alternate items → Alternate (set items n (one_more last))
alternate-again [] n last long is each = tt
alternate-again (item ∷ []) zero last long is each = (tt, tt)
alternate-again (item ∷ next ∷ items) zero last long is each = absurd (omega (arith, long))
alternate-again (item ∷ items) (suc n) last long is each = (begins-again items n last item.actor is each.0, alternate-again items n last (omega (arith, long)) is each.1)

pub runs-again : (actors : List ActorNo) (items : List Do) (n : ℕ) (last : Do) (actor : ActorNo) → length items ≡ suc n → get_or items n last ≡ last → last.actor ≡ actor → AreMaximalRuns actors items → AreMaximalRuns (actors ++ actor ∷ []) (set items n (one_more last))
runs-again actors items n last actor long is same runs = record {
  spelled = turns-again items n last long is ∙ ap (λ ts. ts ++ last.actor ∷ []) runs.spelled ∙ ap (λ (a : ActorNo). actors ++ a ∷ []) same;
  each = unwritten-again items n last is runs.each;
  maximal = alternate-again items n last long is runs.maximal;
}

-- an item more
abbrev pub first_turn : ActorNo → Do
first_turn actor = record { line = 0; actor = actor; count = 1 }

turns-single : (actor : ActorNo) → repeated 1 actor ≡ actor ∷ []
unfolding repeated
turns-single actor = refl

turns-new : (actor : ActorNo) → turns_of (first_turn actor ∷ []) ≡ actor ∷ []
turns-new actor = turns-one (first_turn actor) ∙ turns-single actor

-- the last item, if there is one, is of another actor
abbrev pub EndsOtherThan : ActorNo → List Do → Type 0
EndsOtherThan actor items = (n : ℕ) (last : Do) → length items ≡ suc n → get_or items n last ≡ last → last.actor ≢ actor

alternate-new : (items : List Do) (actor : ActorNo) → EndsOtherThan actor items → Alternate items → Alternate (items ++ first_turn actor ∷ [])
alternate-new [] actor ends each = (tt, tt)
alternate-new (item ∷ []) actor ends each = ((λ same. ends 0 item refl refl (sym same)), (tt, tt))
alternate-new (item ∷ next ∷ items) actor ends each = (each.0, alternate-new (next ∷ items) actor (λ n last long is. ends (suc n) last (ap suc long) is) each.1)

pub runs-new : (actors : List ActorNo) (items : List Do) (actor : ActorNo) → EndsOtherThan actor items → AreMaximalRuns actors items → AreMaximalRuns (actors ++ actor ∷ []) (items ++ record { line = 0; actor = actor; count = 1 } ∷ [])
runs-new actors items actor ends runs = record {
  spelled = turns-append items (first_turn actor ∷ []) ∙ ap (λ ts. turns_of items ++ ts) (turns-new actor) ∙ ap (λ others. others ++ actor ∷ []) runs.spelled;
  each = Each-append IsUnwritten items (first_turn actor ∷ []) runs.each (record { line = refl; some = omega arith }, tt);
  maximal = alternate-new items actor ends runs.maximal;
}

-- an item's steps are among those of all
count-most : (items : List Do) (n : ℕ) (last : Do) → n < length items → get_or items n last ≡ last → last.count ≤ length (turns_of items)
count-most [] n last inside is = absurd (omega (arith, inside))
count-most (item ∷ items) zero last inside is =
    let all = ap length (turns-first item items) ∙ length-append (repeated item.count item.actor) (turns_of items) in
    let own = length-repeated item.count item.actor in
    let same : item.count ≡ last.count = ap (λ (i : Do). i.count) is in
    omega (arith, all, own, same)
count-most (item ∷ items) (suc n) last inside is =
    let all = ap length (turns-first item items) ∙ length-append (repeated item.count item.actor) (turns_of items) in
    let rest = count-most items n last (omega (arith, inside)) is in
    omega (arith, all, rest)

pub turns-nothing : turns_of [] ≡ []
unfolding lined_turns
turns-nothing = refl

pub runs-none : AreMaximalRuns [] []
runs-none = record { spelled = turns-nothing; each = tt; maximal = tt }

-- ---- the last item

-- it is of the actor, or isn't
pub ends-true : (actor : ActorNo) (items : List Do) (n : ℕ) (last : Do) → ends_with actor items ≡ true → length items ≡ suc n → get_or items n last ≡ last → last.actor ≡ actor
ends-true actor [] n last ends long is = cc
ends-true actor (item ∷ []) zero last ends long is = same-actor last.actor actor (ap (λ (i : Do). actor_number i.actor) (sym is) ∙ eqb-true (actor_number item.actor) (actor_number actor) ends)
ends-true actor (item ∷ []) (suc n) last ends long is = absurd (omega (arith, long))
ends-true actor (item ∷ next ∷ items) zero last ends long is = absurd (omega (arith, long))
ends-true actor (item ∷ next ∷ items) (suc n) last ends long is = ends-true actor (next ∷ items) n last ends (omega (arith, long)) is

pub ends-some : (actor : ActorNo) (items : List Do) → ends_with actor items ≡ true → 0 < length items
ends-some actor [] ends = cc
ends-some actor (item ∷ items) ends = omega arith

pub ends-false : (actor : ActorNo) (items : List Do) → ends_with actor items ≡ false → EndsOtherThan actor items
ends-false actor [] ends n last long is = absurd (omega (arith, long))
ends-false actor (item ∷ []) ends zero last long is = λ same. eqb-false (actor_number item.actor) (actor_number actor) ends (ap (λ (i : Do). actor_number i.actor) is ∙ ap actor_number same)
ends-false actor (item ∷ []) ends (suc n) last long is = absurd (omega (arith, long))
ends-false actor (item ∷ next ∷ items) ends zero last long is = absurd (omega (arith, long))
ends-false actor (item ∷ next ∷ items) ends (suc n) last long is = ends-false actor (next ∷ items) ends n last (omega (arith, long)) is

-- as the last one is read
pub ends-at : (actor : ActorNo) (items : List Do) (n : ℕ) (last : Do) → slice_get items n ≡ Some last → n ≡ length items - 1 → ends_with actor items ≡ nat_eq (actor_number last.actor) (actor_number actor)
ends-at actor [] n last found is = absurd (let clash : None ≡ Some last = found in cc)
ends-at actor (item ∷ []) zero last found is = ap (λ (i : Do). nat_eq (actor_number i.actor) (actor_number actor)) (same_Some item last found)
ends-at actor (item ∷ []) (suc n) last found is = absurd (omega (arith, is))
ends-at actor (item ∷ next ∷ items) zero last found is = absurd (omega (arith, is))
ends-at actor (item ∷ next ∷ items) (suc n) last found is = ends-at actor (next ∷ items) n last found (omega (arith, is))

-- one step more fits a count
pub count-fits : (items : List Do) (n : ℕ) (last : Do) → length items ≡ suc n → last ≡ get_or items n last → length (turns_of items) < 2 ^ 64 - 1 → last.count + 1 < 2 ^ 64
count-fits items n last long is few = (let most = count-most items n last (omega (arith, long)) (sym is) in omega (arith, most, few))

-- the entries with one more
pub runs-next : (entries : List Done) (i : ℕ) (done : Done) (items : List Do) → i < length entries → done ≡ get_or entries i done → AreMaximalRuns (actors_of (take i entries) ++ done.actor ∷ []) items → AreMaximalRuns (actors_of (take (i + 1) entries)) items
runs-next entries i done items less is runs =
    let more : actors_of (take (i + 1) entries) ≡ actors_of (take i entries) ++ done.actor ∷ [] = ap actors_of (before-at entries i done less is) ∙ map-append actor_of (take i entries) (done ∷ []) in
    subst (λ actors. AreMaximalRuns actors items) (sym more) runs
