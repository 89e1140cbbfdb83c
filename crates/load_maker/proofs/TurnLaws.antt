-- A plan has one run by turns.
use Rattle.std.proofs.Common.{◌≡◌, ℕ, zero, suc, ◌+◌, ◌-◌, ◌%◌, ◌<◌, ◌≤◌, ◌⊎◌, inl, inr, Option, Some, None, IsSome, List, [], ◌∷◌, length, refl, sym, ap, ◌∙◌, subst, arith}
use Rattle.std.proofs.Math.Nat.{add-mod_left, mod-eq_of_lt}
use Rattle.std.proofs.lemmas.Bool.{cases_eq, cases_lt, cases_order}
use Rattle.std.proofs.lemmas.Nat.{mod_below}
use Rattle.std.proofs.lemmas.Option.{slice_get_past}
use Rattle.net_units.specs.Numbers.{actor_number, actor_at}
use Rattle.net_units.specs.declared.numbers.ActorNo.{ActorNo}
use Rattle.link_steps.specs.declared.replies.Reply.{Reply}
use Rattle.call_script.proofs.PlansFit.{plan-fits}
use Rattle.call_script.specs.Fits.{NetworkFits}
use Rattle.call_script.specs.Parts.{PlanParts}
use Rattle.call_script.specs.Plans.{IsPlan}
use Rattle.call_script.specs.Scripts.{script_ask}
use Rattle.call_script.specs.Tasks.{Network, network_of}
use Rattle.call_script.specs.declared.entries.CallerEntry.{CallerEntry}
use Rattle.run_engine.proofs.Keeping.KeptActors.{plane-number}
use Rattle.run_engine.proofs.Schedules.PlayedTurns.{step-some}
use Rattle.run_engine.proofs.Runs.RunLegal.{asked-caller}
use Rattle.run_engine.proofs.Runs.RunOf.{none-run, step-is, step-run}
use Rattle.run_engine.proofs.Keeping.NextStep.{callers-few}
use Rattle.run_engine.proofs.Tasks.StepsRunOut.{steps-end}
use Rattle.run_engine.specs.runs.Runs.{plane_no, next_for, IsRun, step}
use Rattle.run_engine.specs.schedules.Standing.{StepsTo}
use Rattle.run_engine.specs.runs.Turns.{most_left}
use Rattle.load_maker.proofs.LoadScripts.{actor-is}
use Rattle.load_maker.specs.TurnRuns.{goes_on_at, further, IsItsTurn, NobodyIsLeft, GoesByTurns, IsTurnsRun, TurnsMakeOneRun}
use Rattle.run_record.specs.Runs.{replies_to}
use Rattle.run_record.specs.declared.done.Done.{Done}
use Rattle.net_units.proofs.KnownByNumber.{same-actor}

-- ---- actors without a step

some-or-none : {X : Type 0} (next : Option X) → IsSome next ⊎ (next ≡ None)
some-or-none None = inr refl
some-or-none (Some x) = inl refl

both-ways : {X : Type 0} (next : Option X) → IsSome next → next ≡ None → ⊥
both-ways None some none = cc
both-ways (Some x) some none = cc

-- there is no actor after the plane
pub beyond : (network : Network) (actor : ℕ) (run : List Done) → plane_no network < actor → next_for network actor run ≡ None
beyond network actor run past =
    asked-caller network actor run (λ same. absurd (omega (arith, same, past)))
    ∙ ap (λ found. script_ask found (replies_to actor run)) (slice_get_past network.scripts actor (omega (arith, past)))

-- one with a step left is a caller or the plane
pub left-within : (network : Network) (actor : ℕ) (run : List Done) → IsSome (next_for network actor run) → actor ≤ plane_no network
left-within network actor run some =
    elim (cases_lt (plane_no network) actor) [
      | inl past ↦ absurd (both-ways (next_for network actor run) some (beyond network actor run past))
      | inr within ↦ within
    ]

-- ---- the circle

pub goes-on-within : (network : Network) (run : List Done) → IsRun network run → goes_on_at run ≤ suc (plane_no network)
unfolding IsRun
goes-on-within network [] run = omega arith
goes-on-within network (done ∷ past) run =
    let within = left-within network (actor_number done.actor) past (step-some (next_for network (actor_number done.actor) past) (done.link, done.ask) run.1.asked) in
    omega (arith, within)

-- each number of the circle is so many places further
record PlacesFurther (from n count : ℕ) : Type 0 where
  places : ℕ
  few : places < count
  is : (from + places) % count ≡ n

place : (from n count : ℕ) → from ≤ count → n < count → PlacesFurther from n count
place from n count start within =
    elim (cases_lt n from) [
      | inl before ↦
          (let round : from + (n + count - from) ≡ count + n = omega (arith, before, start) in
          record { places = n + count - from; few = omega (arith, before, start, within); is = ap (λ m. m % count) round ∙ add-mod_left count n ∙ mod-eq_of_lt within })
      | inr after ↦
          (let there : from + (n - from) ≡ n = omega (arith, after) in
          record { places = n - from; few = omega (arith, after, within); is = ap (λ m. m % count) there ∙ mod-eq_of_lt within })
    ]

-- all have been passed over
pub nobody-left : (network : Network) (run : List Done) → IsRun network run → ((n : ℕ) → n < suc (plane_no network) → next_for network (further network run n) run ≡ None) → NobodyIsLeft network run
nobody-left network run is none actor =
    elim (cases_lt (plane_no network) actor) [
      | inl past ↦ beyond network actor run past
      | inr within ↦
          (let at = place (goes_on_at run) actor (suc (plane_no network)) (goes-on-within network run is) (omega (arith, within)) in
          subst (λ n. next_for network n run ≡ None) at.is (none at.places at.few))
    ]

-- ---- the turn is one actor's

turn-before : (network : Network) (past : List Done) (one other : ℕ) (turn : IsItsTurn network past one) (again : IsItsTurn network past other) → turn.passed < again.passed → ⊥
turn-before network past one other turn again less =
    both-ways (next_for network one past) turn.left (ap (λ n. next_for network n past) turn.stands ∙ again.none turn.passed less)

turn-once : (network : Network) (past : List Done) (one other : ℕ) → IsItsTurn network past one → IsItsTurn network past other → one ≡ other
turn-once network past one other turn again =
    elim (cases_order turn.passed again.passed) [
      | inl same ↦ turn.stands ∙ ap (further network past) same ∙ sym again.stands
      | inr (inl less) ↦ absurd (turn-before network past one other turn again less)
      | inr (inr more) ↦ absurd (turn-before network past other one again turn more)
    ]

-- ---- one run

same-turns : (network : Network) (run other : List Done) → IsRun network run → GoesByTurns network run → IsRun network other → GoesByTurns network other → length run ≡ length other → run ≡ other
unfolding IsRun GoesByTurns
same-turns network [] [] run turns again turns_again long = refl
same-turns network [] (done ∷ past) run turns again turns_again long = absurd (omega (arith, long))
same-turns network (done ∷ past) [] run turns again turns_again long = absurd (omega (arith, long))
same-turns network (done ∷ past) (next ∷ before) run turns again turns_again long =
    let same : past ≡ before = same-turns network past before run.0 turns.0 again.0 turns_again.0 (omega (arith, long)) in
    let number : actor_number done.actor ≡ actor_number next.actor = turn-once network before (actor_number done.actor) (actor_number next.actor) (subst (λ p. IsItsTurn network p (actor_number done.actor)) same turns.1) turns_again.1 in
    sym (step-is network past done run.1) ∙ ap (step network done.actor) same ∙ ap (λ a. step network a before) (same-actor done.actor next.actor number) ∙ step-is network before next again.1

no-longer : (network : Network) (run other : List Done) → IsTurnsRun network run → IsRun network other → GoesByTurns network other → length run < length other → ⊥
unfolding IsRun GoesByTurns
no-longer network run [] is again turns less = absurd (omega (arith, less))
no-longer network run (done ∷ past) is again turns less =
    elim (cases_eq (length run) (length past)) [
      | inl long ↦
          (let same : run ≡ past = same-turns network run past is.run_is is.turns again.0 turns.0 long in
          both-ways (next_for network (actor_number done.actor) past) turns.1.left (subst (λ r. next_for network (actor_number done.actor) r ≡ None) same (is.over (actor_number done.actor))))
      | inr apart ↦ no-longer network run past is again.0 turns.0 (omega (arith, less, apart))
    ]

pub one-turns-run : (network : Network) (run other : List Done) → IsTurnsRun network run → IsTurnsRun network other → run ≡ other
one-turns-run network run other is again =
    elim (cases_order (length run) (length other)) [
      | inl long ↦ same-turns network run other is.run_is is.turns again.run_is again.turns long
      | inr (inl less) ↦ absurd (no-longer network run other is again.run_is again.turns less)
      | inr (inr more) ↦ absurd (no-longer network other run again is.run_is is.turns more)
    ]

-- ---- a turn leaves fewer steps

-- how many steps the first actors, so many, have left at most
unfoldable pub left_to : Network → ℕ → List Done → ℕ
left_to network zero run = 0
left_to network (suc n) run = left_to network n run + most_left network n run

-- how many all have left at most
abbrev pub all_left : Network → List Done → ℕ
all_left network run = left_to network (suc (plane_no network)) run

left-same : (network : Network) (past : List Done) (actor : ActorNo) (n : ℕ) → n ≤ actor_number actor → left_to network n (step network actor past) ≡ left_to network n past
unfolding left_to
left-same network past actor zero few = refl
left-same network past actor (suc n) few =
    let before = left-same network past actor n (omega (arith, few)) in
    let own = steps-end.others network past actor n (λ same. absurd (omega (arith, same, few))) in
    omega (arith, before, own)

left-fewer : (network : Network) (past : List Done) (actor : ActorNo) (n : ℕ) → most_left network (actor_number actor) (step network actor past) < most_left network (actor_number actor) past → actor_number actor < n → left_to network n (step network actor past) < left_to network n past
unfolding left_to
left-fewer network past actor zero fewer less = absurd (omega (arith, less))
left-fewer network past actor (suc n) fewer less =
    elim (cases_eq (actor_number actor) n) [
      | inl same ↦
          (let before = left-same network past actor n (omega (arith, same)) in
          let own : most_left network n (step network actor past) < most_left network n past = subst (λ m. most_left network m (step network actor past) < most_left network m past) same fewer in
          omega (arith, before, own))
      | inr apart ↦
          (let before = left-fewer network past actor n fewer (omega (arith, less, apart)) in
          let own = steps-end.others network past actor n (λ same. apart (sym same)) in
          omega (arith, before, own))
    ]

pub all-fewer : (network : Network) (past : List Done) (actor : ActorNo) → NetworkFits network → IsRun network past → IsSome (next_for network (actor_number actor) past) → all_left network (step network actor past) < all_left network past
all-fewer network past actor fits run some =
    left-fewer network past actor (suc (plane_no network)) (steps-end.makes network past actor fits run some).fewer (let within = left-within network (actor_number actor) past some in omega (arith, within))

-- ---- one turn more

pub turn-made : (network : Network) (past run : List Done) (actor : ActorNo) (reply : Reply) → GoesByTurns network past → IsItsTurn network past (actor_number actor) → StepsTo network actor past reply run → GoesByTurns network run × (suc (actor_number actor) ≡ goes_on_at run)
unfolding GoesByTurns
turn-made network past run actor reply turns turn steps =
    let own : IsItsTurn network past (actor_number steps.done.actor) = subst (λ (a : ActorNo). IsItsTurn network past (actor_number a)) (sym steps.by) turn in
    let goes : GoesByTurns network (steps.done ∷ past) = (turns, own) in
    (subst (GoesByTurns network) (sym steps.is) goes, ap (λ (a : ActorNo). suc (actor_number a)) (sym steps.by) ∙ ap goes_on_at (sym steps.is))

pub none-by-turns : (network : Network) (run : List Done) → run ≡ [] → GoesByTurns network run × (0 ≡ goes_on_at run)
unfolding GoesByTurns
none-by-turns network run none = (subst (GoesByTurns network) (sym none) tt, ap goes_on_at (sym none))

-- ---- whose turn it is, by the number of callers

pub circle-size : (parts : PlanParts) (callers : List CallerEntry) → callers ≡ parts.callers → length callers + 1 ≡ suc (plane_no (network_of parts))
circle-size parts callers same =
    let long = ap length same in
    let plane = plane-number parts in
    omega (arith, long, plane)

pub place-few : (parts : PlanParts) (callers : List CallerEntry) (m : ℕ) → IsPlan parts → callers ≡ parts.callers → m % (length callers + 1) < 65
place-few parts callers m plan same =
    let long = ap length same in
    let few = callers-few parts plan in
    let below = mod_below m (length callers + 1) (omega arith) in
    omega (arith, long, few, below)

pub turn-place : (parts : PlanParts) (callers : List CallerEntry) (run : List Done) (next passed : ℕ) (actor : ActorNo) → IsPlan parts → callers ≡ parts.callers → next ≡ goes_on_at run → actor ≡ actor_at ((next + passed) % (length callers + 1)) → actor_number actor ≡ further (network_of parts) run passed
turn-place parts callers run next passed actor plan same goes is =
    let few = place-few parts callers (next + passed) plan same in
    ap (λ (a : ActorNo). actor_number a) is ∙ actor-is ((next + passed) % (length callers + 1)) (omega (arith, few)) ∙ ap (λ n. (n + passed) % (length callers + 1)) goes ∙ ap (λ n. (goes_on_at run + passed) % n) (circle-size parts callers same)

-- one more is passed over
pub one-more : (network : Network) (past : List Done) (n : ℕ) → ((j : ℕ) → j < n → next_for network (further network past j) past ≡ None) → next_for network (further network past n) past ≡ None → (j : ℕ) → j < n + 1 → next_for network (further network past j) past ≡ None
one-more network past n none last j less =
    elim (cases_eq j n) [
      | inl same ↦ subst (λ m. next_for network (further network past m) past ≡ None) (sym same) last
      | inr apart ↦ none j (omega (arith, less, apart))
    ]

-- ---- a plan has such a run

-- among the actors so many places further the turn is found, or they have no step left
find-turn : (network : Network) (past : List Done) (n : ℕ) → n ≤ suc (plane_no network) → ((actor : ℕ) × IsItsTurn network past actor) ⊎ ((j : ℕ) → j < n → next_for network (further network past j) past ≡ None)
find-turn network past zero few = inr (λ j less. absurd (omega (arith, less)))
find-turn network past (suc n) few = with-place (find-turn network past n (omega (arith, few))) where
  with-place : ((actor : ℕ) × IsItsTurn network past actor) ⊎ ((j : ℕ) → j < n → next_for network (further network past j) past ≡ None) → ((actor : ℕ) × IsItsTurn network past actor) ⊎ ((j : ℕ) → j < suc n → next_for network (further network past j) past ≡ None)
  with-place (inl found) = inl found
  with-place (inr none) =
      elim (some-or-none (next_for network (further network past n) past)) [
        | inl some ↦ inl (further network past n, record { passed = n; within = omega (arith, few); stands = refl; left = some; none = none })
        | inr last ↦ inr (λ j less. one-more network past n none last j (omega (arith, less)))
      ]

-- the run with the step of the actor whose turn it is
record TurnTaken (network : Network) (past : List Done) : Type 0 where
  run : List Done
  run_is : IsRun network run
  turns : GoesByTurns network run
  fewer : all_left network run < all_left network past

turn-taken : (network : Network) (past : List Done) (number : ℕ) → NetworkFits network → plane_no network ≤ 64 → IsRun network past → GoesByTurns network past → IsItsTurn network past number → TurnTaken network past
unfolding GoesByTurns
turn-taken network past number fits few run turns turn =
    let within = left-within network number past turn.left in
    let who : actor_number (actor_at number) ≡ number = actor-is number (omega (arith, within, few)) in
    let own : IsItsTurn network past (actor_number (actor_at number)) = subst (IsItsTurn network past) (sym who) turn in
    let makes = steps-end.makes network past (actor_at number) fits run own.left in
    let by : IsItsTurn network past (actor_number makes.done.actor) = subst (λ (a : ActorNo). IsItsTurn network past (actor_number a)) (sym makes.by) own in
    let goes : GoesByTurns network (makes.done ∷ past) = (turns, by) in
    record {
      run = step network (actor_at number) past;
      run_is = step-run network past (actor_at number) run;
      turns = subst (GoesByTurns network) (sym makes.is) goes;
      fewer = all-fewer network past (actor_at number) fits run own.left;
    }

take-turns : (network : Network) (most : ℕ) (past : List Done) → NetworkFits network → plane_no network ≤ 64 → IsRun network past → GoesByTurns network past → all_left network past ≤ most → (run : List Done) × IsTurnsRun network run
take-turns network zero past fits few run turns left =
    elim (find-turn network past (suc (plane_no network)) (omega arith)) [
      | inl found ↦ (let taken = turn-taken network past found.0 fits few run turns found.1 in absurd (omega (arith, taken.fewer, left)))
      | inr none ↦ (past, record { run_is = run; turns = turns; over = nobody-left network past run none })
    ]
take-turns network (suc most) past fits few run turns left =
    elim (find-turn network past (suc (plane_no network)) (omega arith)) [
      | inl found ↦
          (let taken = turn-taken network past found.0 fits few run turns found.1 in
          take-turns network most taken.run fits few taken.run_is taken.turns (omega (arith, taken.fewer, left)))
      | inr none ↦ (past, record { run_is = run; turns = turns; over = nobody-left network past run none })
    ]

plan-turns : (parts : PlanParts) → IsPlan parts → (run : List Done) × IsTurnsRun (network_of parts) run
plan-turns parts plan =
    let start = none-by-turns (network_of parts) [] refl in
    let callers = callers-few parts plan in
    let plane = plane-number parts in
    take-turns (network_of parts) (all_left (network_of parts) []) [] (plan-fits parts plan) (omega (arith, callers, plane)) (none-run (network_of parts)) start.0 (omega arith)

pub turns-one-run : TurnsMakeOneRun
turns-one-run = record { some = plan-turns; one = one-turns-run }
