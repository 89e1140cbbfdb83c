-- A schedule comes to a run, or asks too much: to exactly one of these, and to one run or one line. What it comes to is a run.
use Rattle.std.proofs.Common.{◌≡◌, ℕ, zero, suc, ◌+◌, ◌-◌, ◌<◌, ◌≤◌, Bool, true, false, Option, Some, None, IsSome, List, [], ◌∷◌, ◌++◌, length, map, refl, sym, ap, ◌∙◌, subst, arith}
use Rattle.run_engine.proofs.Words.{append_assoc, append-nil, map-append, actor_number, actor_at, ActorNo, LinkNo, Ask, NetworkFits, Network, Do, plane_no, next_for, IsRun, step, run_from, replies_to, Done}
use Rattle.call_script.specs.declared.schedule.Schedule.{Schedule}
use Rattle.run_engine.specs.schedules.Schedules.{Turn, actor_in, turn_of, repeated, lined_turns, turns_of, HaveSteps, FollowsTurns, Stops, StepsOut, PlayedOut, PlayedBy, StopsBy, ComesTo, ARun, TooMuch, SchedulesComeToOneEnd}
use Rattle.run_engine.specs.runs.Turns.{most_left}
use Rattle.run_engine.proofs.Runs.RunOf.{step-run, none-run, from-run}
use Rattle.run_engine.proofs.Tasks.StepsRunOut.{makes-one}
use Rattle.run_engine.proofs.Keeping.Lookups.{tail-same}
use Rattle.net_units.proofs.ListPlaces.{head-same}

-- ---- turns one after the other

pub have-append : (network : Network) (past : List Done) (first second : List ActorNo) → HaveSteps network past first → HaveSteps network (run_from network past first) second → HaveSteps network past (first ++ second)
unfolding HaveSteps run_from
have-append network past [] second have more = more
have-append network past (actor ∷ first) second have more = (have.0, have-append network (step network actor past) first second have.1 more)

pub from-append : (network : Network) (past : List Done) (first second : List ActorNo) → run_from network past (first ++ second) ≡ run_from network (run_from network past first) second
unfolding run_from
from-append network past [] second = refl
from-append network past (actor ∷ first) second = from-append network (step network actor past) first second

-- no turn
pub follows-none : (network : Network) (past : List Done) → FollowsTurns network past [] past
unfolding HaveSteps run_from
follows-none network past = record { served = tt; is = refl }

pub follows-more : (network : Network) (past mid run : List Done) (first second : List ActorNo) → FollowsTurns network past first mid → FollowsTurns network mid second run → FollowsTurns network past (first ++ second) run
follows-more network past mid run first second one two = record {
  served = have-append network past first second one.served (subst (λ m. HaveSteps network m second) one.is two.served);
  is = two.is ∙ ap (λ m. run_from network m second) one.is ∙ sym (from-append network past first second);
}

-- one turn
pub follows-one : (network : Network) (past run : List Done) (actor : ActorNo) → IsSome (next_for network (actor_number actor) past) → run ≡ step network actor past → FollowsTurns network past (actor ∷ []) run
unfolding HaveSteps run_from
follows-one network past run actor some is = record { served = (some, tt); is = is }

-- ---- the same many times

pub repeated-more : {X : Type 0} (n : ℕ) (x : X) → repeated (n + 1) x ≡ repeated n x ++ x ∷ []
unfolding repeated
repeated-more zero x = refl
repeated-more (suc n) x =
    let one : suc n + 1 ≡ suc (n + 1) = omega arith in
    ap (λ k. repeated k x) one ∙ ap (λ xs. x ∷ xs) (repeated-more n x)

pub repeated-split : {X : Type 0} (n count : ℕ) (x : X) → n < count → repeated count x ≡ repeated n x ++ x ∷ repeated (count - suc n) x
unfolding repeated
repeated-split n zero x less = absurd (omega (arith, less))
repeated-split zero (suc count) x less = ap (λ k. x ∷ repeated k x) (let same : count ≡ suc count - suc zero = omega arith in same)
repeated-split (suc n) (suc count) x less =
    let same : count - suc n ≡ suc count - suc (suc n) = omega arith in
    ap (λ xs. x ∷ xs) (repeated-split n count x (omega (arith, less)) ∙ ap (λ k. repeated n x ++ x ∷ repeated k x) same)

pub repeated-actors : (n : ℕ) (turn : Turn) → map actor_in (repeated n turn) ≡ repeated n turn.actor
unfolding repeated
repeated-actors zero turn = refl
repeated-actors (suc n) turn = ap (λ actors. turn.actor ∷ actors) (repeated-actors n turn)

-- ---- the turns of items

pub lined-append : (first second : List Do) → lined_turns (first ++ second) ≡ lined_turns first ++ lined_turns second
unfolding lined_turns
lined-append [] second = refl
lined-append (item ∷ first) second = ap (λ turns. repeated item.count (turn_of item) ++ turns) (lined-append first second) ∙ sym (append_assoc (repeated item.count (turn_of item)) (lined_turns first) (lined_turns second))

pub lined-one : (item : Do) → lined_turns (item ∷ []) ≡ repeated item.count (turn_of item)
unfolding lined_turns
lined-one item = append-nil (repeated item.count (turn_of item))

pub turns-append : (first second : List Do) → turns_of (first ++ second) ≡ turns_of first ++ turns_of second
turns-append first second = ap (map actor_in) (lined-append first second) ∙ map-append actor_in (lined_turns first) (lined_turns second)

pub turns-one : (item : Do) → turns_of (item ∷ []) ≡ repeated item.count item.actor
turns-one item = ap (map actor_in) (lined-one item) ∙ repeated-actors item.count (turn_of item)

-- ---- where turns stop

-- turns before them find their steps
pub stops-after : (network : Network) (past mid : List Done) (first second : List Turn) (line made : ℕ) → FollowsTurns network past (map actor_in first) mid → Stops network mid second line made → Stops network past (first ++ second) line made
stops-after network past mid first second line made one stop =
    let all : map actor_in (first ++ stop.before) ≡ map actor_in first ++ map actor_in stop.before = map-append actor_in first stop.before in
    let there : run_from network past (map actor_in (first ++ stop.before)) ≡ run_from network mid (map actor_in stop.before) =
    ap (run_from network past) all ∙ from-append network past (map actor_in first) (map actor_in stop.before) ∙ ap (λ m. run_from network m (map actor_in stop.before)) (sym one.is) in
    record {
      before = first ++ stop.before;
      turn = stop.turn;
      after = stop.after;
      are = ap (λ turns. first ++ turns) stop.are ∙ sym (append_assoc first stop.before (stop.turn ∷ stop.after));
      served = subst (HaveSteps network past) (sym all) (have-append network past (map actor_in first) (map actor_in stop.before) one.served (subst (λ m. HaveSteps network m (map actor_in stop.before)) one.is stop.served));
      over = ap (next_for network (actor_number stop.turn.actor)) there ∙ stop.over;
      asks = stop.asks;
      has_made = stop.has_made ∙ ap (λ run. length (replies_to (actor_number stop.turn.actor) run)) (sym there);
    }

-- whatever turns come after
pub stops-before : (network : Network) (past : List Done) (first second : List Turn) (line made : ℕ) → Stops network past first line made → Stops network past (first ++ second) line made
stops-before network past first second line made stop = record {
  before = stop.before;
  turn = stop.turn;
  after = stop.after ++ second;
  are = ap (λ turns. turns ++ second) stop.are ∙ append_assoc stop.before (stop.turn ∷ stop.after) second;
  served = stop.served;
  over = stop.over;
  asks = stop.asks;
  has_made = stop.has_made;
}

-- the turn at hand finds none left
pub stops-now : (network : Network) (past : List Done) (turn : Turn) (after : List Turn) (line made : ℕ) → next_for network (actor_number turn.actor) past ≡ None → line ≡ turn.line → made ≡ length (replies_to (actor_number turn.actor) past) → Stops network past (turn ∷ after) line made
unfolding HaveSteps run_from
stops-now network past turn after line made none asks has = record { before = []; turn = turn; after = after; are = refl; served = tt; over = none; asks = asks; has_made = has }

-- ---- written schedules

-- some turn finds no step, or each finds one
data TurnsEnd (network : Network) (past : List Done) (turns : List Turn) : Type 0 where
  AllServed : HaveSteps network past (map actor_in turns) → TurnsEnd network past turns
  OneStops : (line made : ℕ) → Stops network past turns line made → TurnsEnd network past turns

module _ (network : Network) (past : List Done) (turn : Turn) (turns : List Turn) where
  with-turn : IsSome (next_for network (actor_number turn.actor) past) → TurnsEnd network (step network turn.actor past) turns → TurnsEnd network past (turn ∷ turns)
  unfolding HaveSteps
  with-turn some (AllServed have) = AllServed (some, have)
  with-turn some (OneStops line made stop) = OneStops line made (stops-after network past (step network turn.actor past) (turn ∷ []) turns line made (follows-one network past (step network turn.actor past) turn.actor some refl) stop)

  turns-next : (next : Option (LinkNo × Ask)) → next_for network (actor_number turn.actor) past ≡ next → TurnsEnd network (step network turn.actor past) turns → TurnsEnd network past (turn ∷ turns)
  turns-next None is rest = OneStops turn.line (length (replies_to (actor_number turn.actor) past)) (stops-now network past turn turns _ _ is refl refl)
  turns-next (Some to) is rest = with-turn (subst (λ (o : Option (LinkNo × Ask)). IsSome o) (sym is) refl) rest

turns-end : (network : Network) (past : List Done) (turns : List Turn) → TurnsEnd network past turns
unfolding HaveSteps
turns-end network past [] = AllServed tt
turns-end network past (turn ∷ turns) = turns-next network past turn turns (next_for network (actor_number turn.actor) past) refl (turns-end network (step network turn.actor past) turns)

-- where a turn stops, no run has a step for each
left-at : (network : Network) (past : List Done) (before : List Turn) (turn : Turn) (after : List Turn) → HaveSteps network past (map actor_in (before ++ turn ∷ after)) → IsSome (next_for network (actor_number turn.actor) (run_from network past (map actor_in before)))
unfolding HaveSteps run_from
left-at network past [] turn after have = have.0
left-at network past (first ∷ before) turn after have = left-at network (step network first.actor past) before turn after have.1

not-left : (next : Option (LinkNo × Ask)) → next ≡ None → IsSome next → ⊥
not-left None none some = cc
not-left (Some to) none some = cc

follows-or-stops : (network : Network) (past run : List Done) (turns : List Turn) (line made : ℕ) → FollowsTurns network past (map actor_in turns) run → Stops network past turns line made → ⊥
follows-or-stops network past run turns line made one stop =
    not-left _ stop.over (left-at network past stop.before stop.turn stop.after (subst (λ ts. HaveSteps network past (map actor_in ts)) stop.are one.served))

-- the first turn that stops is one
record SameStop (before other : List Turn) (turn turn_other : Turn) : Type 0 where
  pub befores : before ≡ other
  pub turns : turn ≡ turn_other

module _ (network : Network) where
  same-stop : (past : List Done) (before other : List Turn) (turn turn_other : Turn) (after after_other : List Turn) → before ++ turn ∷ after ≡ other ++ turn_other ∷ after_other → HaveSteps network past (map actor_in before) → HaveSteps network past (map actor_in other)
      → next_for network (actor_number turn.actor) (run_from network past (map actor_in before)) ≡ None → next_for network (actor_number turn_other.actor) (run_from network past (map actor_in other)) ≡ None → SameStop before other turn turn_other
  unfolding HaveSteps run_from
  same-stop past [] [] turn turn_other after after_other same have have_other over over_other = record { befores = refl; turns = head-same turn after turn_other after_other same }
  same-stop past [] (first ∷ other) turn turn_other after after_other same have have_other over over_other =
      absurd (not-left _ over (subst (λ (t : Turn). IsSome (next_for network (actor_number t.actor) past)) (sym (head-same turn after first (other ++ turn_other ∷ after_other) same)) have_other.0))
  same-stop past (first ∷ before) [] turn turn_other after after_other same have have_other over over_other =
      absurd (not-left _ over_other (subst (λ (t : Turn). IsSome (next_for network (actor_number t.actor) past)) (head-same first (before ++ turn ∷ after) turn_other after_other same) have.0))
  same-stop past (first ∷ before) (second ∷ other) turn turn_other after after_other same have have_other over over_other =
      let head : second ≡ first = sym (head-same first (before ++ turn ∷ after) second (other ++ turn_other ∷ after_other) same) in
      let mine : HaveSteps network (step network first.actor past) (map actor_in other) = subst (λ (t : Turn). HaveSteps network (step network t.actor past) (map actor_in other)) head have_other.1 in
      let ends : next_for network (actor_number turn_other.actor) (run_from network (step network first.actor past) (map actor_in other)) ≡ None = subst (λ (t : Turn). next_for network (actor_number turn_other.actor) (run_from network (step network t.actor past) (map actor_in other)) ≡ None) head over_other in
      let rest = same-stop (step network first.actor past) before other turn turn_other after after_other (tail-same first (before ++ turn ∷ after) second (other ++ turn_other ∷ after_other) same) have.1 mine over ends in
      record { befores = ap (λ (t : Turn). t ∷ before) (sym head) ∙ ap (λ ts. second ∷ ts) rest.befores; turns = rest.turns }

  stops-once : (past : List Done) (turns : List Turn) (line made line_other made_other : ℕ) → Stops network past turns line made → Stops network past turns line_other made_other → (line ≡ line_other) × (made ≡ made_other)
  stops-once past turns line made line_other made_other one two =
      let is = same-stop past one.before two.before one.turn two.turn one.after two.after (sym one.are ∙ two.are) one.served two.served one.over two.over in (
        one.asks ∙ ap (λ (t : Turn). t.line) is.turns ∙ sym two.asks,
        one.has_made ∙ ap (λ ts. length (replies_to (actor_number one.turn.actor) (run_from network past (map actor_in ts)))) is.befores
            ∙ ap (λ (t : Turn). length (replies_to (actor_number t.actor) (run_from network past (map actor_in two.before)))) is.turns ∙ sym two.has_made,
      )

  -- ---- each actor to its end

  -- an actor comes to its end once
  same-end : (past run other : List Done) (actor : ActorNo) (count count_other : ℕ) → FollowsTurns network past (repeated count actor) run → FollowsTurns network past (repeated count_other actor) other → next_for network (actor_number actor) run ≡ None → next_for network (actor_number actor) other ≡ None → run ≡ other
  unfolding repeated HaveSteps run_from
  same-end past run other actor zero zero one two over over_other = one.is ∙ sym two.is
  same-end past run other actor zero (suc count) one two over over_other = absurd (not-left _ (ap (next_for network (actor_number actor)) (sym one.is) ∙ over) two.served.0)
  same-end past run other actor (suc count) zero one two over over_other = absurd (not-left _ (ap (next_for network (actor_number actor)) (sym two.is) ∙ over_other) one.served.0)
  same-end past run other actor (suc count) (suc more) one two over over_other =
      same-end (step network actor past) run other actor count more (record { served = one.served.1; is = one.is }) (record { served = two.served.1; is = two.is }) over over_other

  out-once : (past run other : List Done) (actor : ActorNo) → StepsOut network past actor run → StepsOut network past actor other → run ≡ other
  out-once past run other actor one two = same-end past run other actor one.count two.count one.steps two.steps one.over two.over

  played-once : (n : ℕ) (run other : List Done) → PlayedOut network n run → PlayedOut network n other → run ≡ other
  unfolding PlayedOut
  played-once zero run other one two = one ∙ sym two
  played-once (suc n) run other one two =
      let same = played-once n one.0 two.0 one.1 two.1 in
      out-once one.0 run other (actor_at n) one.2 (subst (λ past. StepsOut network past (actor_at n) other) (sym same) two.2)

  -- one step more, and to the end
  pub out-more : (past run : List Done) (actor : ActorNo) → IsSome (next_for network (actor_number actor) past) → StepsOut network (step network actor past) actor run → StepsOut network past actor run
  unfolding repeated HaveSteps run_from
  out-more past run actor some out = record { count = suc out.count; steps = record { served = (some, out.steps.served); is = out.steps.is }; over = out.over }

  out-now : (past : List Done) (actor : ActorNo) → next_for network (actor_number actor) past ≡ None → StepsOut network past actor past
  unfolding repeated
  out-now past actor none = record { count = 0; steps = follows-none network past; over = none }

  -- at its end, or one step before
  at-end : (most : ℕ) (past : List Done) (actor : ActorNo) → NetworkFits network → IsRun network past → most_left network (actor_number actor) past ≤ most → (next : Option (LinkNo × Ask)) → next_for network (actor_number actor) past ≡ next
      → ((more : List Done) → IsRun network more → most_left network (actor_number actor) more < most_left network (actor_number actor) past → (run : List Done) × StepsOut network more actor run) → (run : List Done) × StepsOut network past actor run
  at-end most past actor fits run few None is further = (past, out-now past actor is)
  at-end most past actor fits run few (Some to) is further =
      let some : IsSome (next_for network (actor_number actor) past) = subst (λ (o : Option (LinkNo × Ask)). IsSome o) (sym is) refl in
      let one = makes-one network past actor fits run some in
      let rest = further (step network actor past) (step-run network past actor run) one.fewer in
      (rest.0, out-more past rest.0 actor some rest.1)

  -- each actor comes to its end, as it has fewer steps left with each
  steps-out : (most : ℕ) (past : List Done) (actor : ActorNo) → NetworkFits network → IsRun network past → most_left network (actor_number actor) past ≤ most → (run : List Done) × StepsOut network past actor run
  steps-out zero past actor fits run few = at-end zero past actor fits run few (next_for network (actor_number actor) past) refl (λ next is_run less. absurd (omega (arith, few, less)))
  steps-out (suc most) past actor fits run few = at-end (suc most) past actor fits run few (next_for network (actor_number actor) past) refl (λ next is_run less. steps-out most next actor fits is_run (omega (arith, few, less)))

  out-run : (past run : List Done) (actor : ActorNo) → IsRun network past → StepsOut network past actor run → IsRun network run
  out-run past run actor is out = subst (IsRun network) (sym out.steps.is) (from-run network past (repeated out.count actor) is)

  played-run : (n : ℕ) (run : List Done) → PlayedOut network n run → IsRun network run
  unfolding PlayedOut
  played-run zero run played = subst (IsRun network) (sym played) (none-run network)
  played-run (suc n) run played = out-run played.0 run (actor_at n) (played-run n played.0 played.1) played.2

  -- every actor in turn
  plays-out : (n : ℕ) → NetworkFits network → (run : List Done) × PlayedOut network n run
  unfolding PlayedOut
  plays-out zero fits = ([], refl)
  plays-out (suc n) fits =
      let before = plays-out n fits in
      let out = steps-out (most_left network (actor_number (actor_at n)) before.0) before.0 (actor_at n) fits (played-run n before.0 before.1) (omega arith) in
      (out.0, (before.0, before.1, out.1))

  -- ---- the law

  written-or-not : (schedule : Schedule) (written : Bool) → NetworkFits network → schedule.written ≡ written → ComesTo network schedule
  written-or-not schedule true fits is = by-turns (turns-end network [] (lined_turns schedule.items)) where
    by-turns : TurnsEnd network [] (lined_turns schedule.items) → ComesTo network schedule
    by-turns (AllServed have) = ARun (run_from network [] (turns_of schedule.items)) (subst (λ w. PlayedBy network w schedule.items (run_from network [] (turns_of schedule.items))) (sym is) (record { served = have; is = refl }))
    by-turns (OneStops line made stop) = TooMuch line made (subst (λ w. StopsBy network w schedule.items line made) (sym is) stop)
  written-or-not schedule false fits is =
      let out = plays-out (suc (plane_no network)) fits in
      ARun out.0 (subst (λ w. PlayedBy network w schedule.items out.0) (sym is) out.1)

  by-not-both : (written : Bool) (items : List Do) (run : List Done) (line made : ℕ) → PlayedBy network written items run → StopsBy network written items line made → ⊥
  by-not-both true items run line made played stop = follows-or-stops network [] run (lined_turns items) line made played stop
  by-not-both false items run line made played stop = stop

  by-one-run : (written : Bool) (items : List Do) (run other : List Done) → PlayedBy network written items run → PlayedBy network written items other → run ≡ other
  by-one-run true items run other one two = one.is ∙ sym two.is
  by-one-run false items run other one two = played-once (suc (plane_no network)) run other one two

  by-one-line : (written : Bool) (items : List Do) (line made line_other made_other : ℕ) → StopsBy network written items line made → StopsBy network written items line_other made_other → (line ≡ line_other) × (made ≡ made_other)
  by-one-line true items line made line_other made_other one two = stops-once [] (lined_turns items) line made line_other made_other one two
  by-one-line false items line made line_other made_other one two = absurd one

  by-run : (written : Bool) (items : List Do) (run : List Done) → PlayedBy network written items run → IsRun network run
  by-run true items run played = subst (IsRun network) (sym played.is) (from-run network [] (turns_of items) (none-run network))
  by-run false items run played = played-run (suc (plane_no network)) run played

pub one-end : SchedulesComeToOneEnd
one-end = record {
  either = λ network schedule fits. written-or-not network schedule schedule.written fits refl;
  not_both = λ network schedule run line made played stop. by-not-both network schedule.written schedule.items run line made played stop;
  one_run = λ network schedule run other one two. by-one-run network schedule.written schedule.items run other one two;
  one_line = λ network schedule line made line_other made_other one two. by-one-line network schedule.written schedule.items line made line_other made_other one two;
  runs = λ network schedule run played. by-run network schedule.written schedule.items run played;
}
