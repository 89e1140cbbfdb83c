-- The journals of a race determine its text: the entries are their weave, and a list of actors has one list of maximal runs.
use Rattle.std.proofs.Common.{◌≡◌, ◌≢◌, ℕ, zero, suc, ◌-◌, ◌≤◌, Bool, List, [], ◌∷◌, ◌++◌, length, drop, get_or, reverse, refl, sym, ap, ◌∙◌, subst, arith}
use Rattle.std.proofs.lemmas.List.{reverse-reverse}
use Rattle.net_units.specs.declared.numbers.ActorNo.{ActorNo}
use Rattle.link_steps.specs.Lists.{Each}
use Rattle.call_script.specs.Parts.{PlanParts}
use Rattle.call_script.specs.declared.schedule.Do.{Do}
use Rattle.call_script.specs.declared.schedule.Schedule.{Schedule}
use Rattle.run_engine.specs.schedules.Schedules.{turns_of, repeated}
use Rattle.race_run.specs.Turns.{BeginsOtherThan, Alternate, IsUnwritten, AreMaximalRuns, actors_of}
use Rattle.run_record.specs.declared.done.Done.{Done}
use Rattle.shared_network.specs.declared.closing.Closed.{Closed}
use Rattle.tenet_app.specs.Racing.{IsRaceOf, race_text}
use Rattle.race_run.proofs.PieceSteps.OneMoreTurn.{turns-first, turns-nothing}

-- ---- a list of turns

-- the list doesn't begin with this actor
abbrev StartsOther : ActorNo → List ActorNo → Type 0
StartsOther actor [] = Unit {0}
StartsOther actor (first ∷ actors) = first ≢ actor

repeated-first : (n : ℕ) (actor : ActorNo) (rest : List ActorNo) → 1 ≤ n → repeated n actor ++ rest ≡ actor ∷ (repeated (n - 1) actor ++ rest)
unfolding repeated
repeated-first zero actor rest some = absurd (omega (arith, some))
repeated-first (suc n) actor rest some = let less : suc n - 1 ≡ n = omega arith in rw less refl

turns-begin : (item : Do) (items : List Do) → IsUnwritten item → turns_of (item ∷ items) ≡ item.actor ∷ (repeated (item.count - 1) item.actor ++ turns_of items)
turns-begin item items is = turns-first item items ∙ repeated-first item.count item.actor (turns_of items) is.some

starts-other : (actor : ActorNo) (items : List Do) → Each IsUnwritten items → BeginsOtherThan actor items → StartsOther actor (turns_of items)
starts-other actor [] each begins = subst (StartsOther actor) (sym turns-nothing) tt
starts-other actor (item ∷ items) each begins = subst (StartsOther actor) (sym (turns-begin item items each.0)) begins

-- ---- one list of maximal runs

same-runs : (n m : ℕ) (actor : ActorNo) (rest other : List ActorNo) → StartsOther actor rest → StartsOther actor other → repeated n actor ++ rest ≡ repeated m actor ++ other → (n ≡ m) × (rest ≡ other)
unfolding repeated
same-runs zero zero actor rest other starts starts_other same = (refl, same)
same-runs zero (suc m) actor rest other starts starts_other same = absurd (let clash : StartsOther actor (actor ∷ (repeated m actor ++ other)) = subst (StartsOther actor) same starts in clash refl)
same-runs (suc n) zero actor rest other starts starts_other same = absurd (let clash : StartsOther actor (actor ∷ (repeated n actor ++ rest)) = subst (StartsOther actor) (sym same) starts_other in clash refl)
same-runs (suc n) (suc m) actor rest other starts starts_other same =
    let inner = same-runs n m actor rest other starts starts_other (ap (drop 1) same) in
    (ap suc inner.0, inner.1)

same-item : (one other : Do) → one.line ≡ other.line → one.actor ≡ other.actor → one.count ≡ other.count → one ≡ other
same-item one other line actor count =
    let by_line : ℕ → Do = λ l. record { line = l; actor = one.actor; count = one.count } in
    let by_actor : ActorNo → Do = λ a. record { line = other.line; actor = a; count = one.count } in
    let by_count : ℕ → Do = λ n. record { line = other.line; actor = other.actor; count = n } in
    ap by_line line ∙ ap by_actor actor ∙ ap by_count count

one-runs : (items others : List Do) → Each IsUnwritten items → Each IsUnwritten others → Alternate items → Alternate others → turns_of items ≡ turns_of others → items ≡ others
one-runs [] [] each each_other maximal maximal_other same = refl
one-runs [] (other ∷ others) each each_other maximal maximal_other same =
    absurd (let long : length (turns_of []) ≡ suc (length (repeated (other.count - 1) other.actor ++ turns_of others)) = ap length (same ∙ turns-begin other others each_other.0) in
    let none : length (turns_of []) ≡ 0 = ap length turns-nothing in omega (arith, long, none))
one-runs (item ∷ items) [] each each_other maximal maximal_other same =
    absurd (let long : length (turns_of []) ≡ suc (length (repeated (item.count - 1) item.actor ++ turns_of items)) = ap length (sym same ∙ turns-begin item items each.0) in
    let none : length (turns_of []) ≡ 0 = ap length turns-nothing in omega (arith, long, none))
one-runs (item ∷ items) (other ∷ others) each each_other maximal maximal_other same =
    let first : item.actor ≡ other.actor = ap (λ (ts : List ActorNo). get_or ts 0 item.actor) (sym (turns-begin item items each.0) ∙ same ∙ turns-begin other others each_other.0) in
    let turns : repeated item.count item.actor ++ turns_of items ≡ repeated other.count item.actor ++ turns_of others =
    sym (turns-first item items) ∙ same ∙ turns-first other others ∙ ap (λ (a : ActorNo). repeated other.count a ++ turns_of others) (sym first) in
    let begins : BeginsOtherThan item.actor others = subst (λ (a : ActorNo). BeginsOtherThan a others) (sym first) maximal_other.0 in
    let parts = same-runs item.count other.count item.actor (turns_of items) (turns_of others) (starts-other item.actor items each.1 maximal.0) (starts-other item.actor others each_other.1 begins) turns in
    let rest = one-runs items others each.1 each_other.1 maximal.1 maximal_other.1 parts.1 in
    let here = same-item item other (each.0.line ∙ sym each_other.0.line) first parts.0 in
    ap (λ (i : Do). i ∷ items) here ∙ ap (λ (is : List Do). other ∷ is) rest

-- ---- one text

same-entries : (entries others : List Done) → reverse entries ≡ reverse others → entries ≡ others
same-entries entries others same = sym (reverse-reverse entries) ∙ ap reverse same ∙ reverse-reverse others

pub one-text : (packets : Bool) (parts : PlanParts) (closed : Closed) (schedule other : Schedule) (entries others : List Done) → IsRaceOf parts closed schedule entries → IsRaceOf parts closed other others → race_text parts schedule.items entries packets ≡ race_text parts other.items others packets
one-text packets parts closed schedule other entries others one two =
    let same = same-entries entries others (one.weave ∙ sym two.weave) in
    let runs : AreMaximalRuns (actors_of others) schedule.items = subst (λ (es : List Done). AreMaximalRuns (actors_of es) schedule.items) same one.runs in
    let items = one-runs schedule.items other.items runs.each two.runs.each runs.maximal two.runs.maximal (runs.spelled ∙ sym two.runs.spelled) in
    ap (λ (is : List Do). race_text parts is entries packets) items ∙ ap (λ (es : List Done). race_text parts other.items es packets) same
