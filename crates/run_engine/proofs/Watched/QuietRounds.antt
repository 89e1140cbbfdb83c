-- A run that rests goes on by quiet rounds, tick by tick.
use Rattle.std.proofs.Common.{◌≡◌, ◌≢◌, ℕ, zero, suc, ◌+◌, ◌*◌, ◌<◌, ◌≤◌, List, [], ◌∷◌, length, refl, sym, ap, ◌∙◌, subst, inl, inr, arith}
use Rattle.run_engine.proofs.Words.{cases_lt, eq-eqb, ne_eqb, slice_get, nat_eq, if◌then◌else◌, actor_number, link_at, link_number, ActorNo, Tick, Entry, quiet_ticks, reply_to, NetworkFits, Network, Plane, plane_ask, plane_after, next_due, entry_of, replies_to, part_of, Done, plane_no, plane_at, IsNext, IsRun}
use Rattle.tick_plane.proofs.QuietRounds.{none-yet, after-still, asks-tick}
use Rattle.run_engine.specs.schedules.Quiet.{quiet_step, quiet_round, quiet_rounds, the_plane, rested, RestsFor, GoesOnAtRest, QuietRoundsGoOn}
use Rattle.run_engine.specs.schedules.Schedules.{repeated, FollowsTurns}
use Rattle.run_engine.specs.schedules.Standing.{StepsTo}
use Rattle.run_engine.proofs.Keeping.Lookups.{held}
use Rattle.run_engine.proofs.Schedules.PlayedTurns.{step-follows, follows-start, follows-again}
use Rattle.run_engine.proofs.Runs.RunLegal.{asked-plane, link_at-number, part-on, part-off, plane-by, replies-off}
use Rattle.run_engine.proofs.Runs.RunOf.{step-is}
use Rattle.run_engine.proofs.Runs.RunFronts.{run-more}
use Rattle.link_steps.proofs.QuietTicks.{more-quiet}

-- ---- numbers

pub plane-is : (network : Network) → plane_no network ≤ 64 → actor_number (the_plane network) ≡ plane_no network
plane-is network few = omega (arith, few)

one-round-more : (m links : ℕ) → m * links + links ≡ suc m * links + 0
one-round-more m links = omega arith

-- ---- histories

none-made : (t : ℕ) (h : List Entry) → h ≡ quiet_ticks 0 t h
unfolding quiet_ticks
none-made t h = refl

turn-of : (network : Network) (past : List Done) (done : Done) → IsNext network past done → FollowsTurns network past (done.actor ∷ []) (done ∷ past)
turn-of network past done next =
    let steps : StepsTo network done.actor past done.reply (done ∷ past) = record { done = done; next = next; by = refl; gets = refl; is = refl; goes = sym (step-is network past done next) } in
    step-follows network done.actor past done.reply (done ∷ past) steps

-- ---- in the middle of a round

-- where the plane stands once the first j links have made the round's tick
abbrev stood : ℕ → Plane → ℕ → ℕ → Plane
stood links plane m j = if nat_eq j links then record { round = suc (plane.round + m); ticked = 0; flights = plane.flights } else record { round = plane.round + m; ticked = j; flights = plane.flights }

module _ (network : Network) (n : ℕ) (base : List Done) (fits : NetworkFits network) (few : plane_no network ≤ 64) (base-run : IsRun network base) (rests : RestsFor network n base) where
  abbrev links : ℕ
  links = length network.links

  abbrev at : Plane
  at = plane_at network base

  abbrev plane : ActorNo
  plane = the_plane network

  -- the run after m rounds and the ticks of the first j links
  record Midway (m j : ℕ) (run : List Done) : Type 0 where
    pub is_run : IsRun network run
    pub follows : FollowsTurns network base (repeated (m * links + j) plane) run
    pub stands : plane_at network run ≡ stood links at m j
    pub callers : (actor : ℕ) → actor ≢ plane_no network → replies_to actor run ≡ replies_to actor base
    pub made : (k : ℕ) → k < j → part_of k run ≡ quiet_ticks (suc m) at.round (part_of k base)
    pub left : (k : ℕ) → j ≤ k → k < links → part_of k run ≡ quiet_ticks m at.round (part_of k base)

  -- before the first link of a round
  stood-first : (m : ℕ) → stood links at m 0 ≡ record { round = at.round + m; ticked = 0; flights = at.flights }
  stood-first m = rw (ne_eqb 0 links (λ same. let some = fits.some in absurd (omega (arith, same, some)))) refl

  -- and after the last one
  stood-last : (m : ℕ) → stood links at m links ≡ record { round = suc (at.round + m); ticked = 0; flights = at.flights }
  stood-last m = rw (eq-eqb links links refl) refl

  begin : Midway 0 0 base
  begin = record {
    is_run = base-run;
    follows = (let none : 0 ≡ 0 * links + 0 = omega arith in subst (λ count. FollowsTurns network base (repeated count plane) base) none (follows-start network base plane));
    stands = begins;
    callers = λ actor other. refl;
    made = λ k less. absurd (omega (arith, less));
    left = λ k from within. none-made at.round (part_of k base);
  } where
    begins : plane_at network base ≡ stood links at 0 0
    begins =
        let same : at.round ≡ at.round + 0 = omega arith in
        ap (λ t. record { round = at.round; ticked = t; flights = at.flights }) rests.plane.starts
        ∙ ap (λ r. record { round = r; ticked = 0; flights = at.flights }) same ∙ sym (stood-first 0)

  -- the next link makes its tick
  next-is : (m j : ℕ) (run : List Done) → Midway m j run → m < n → j < links → IsNext network run (quiet_step plane (at.round + m) j)
  next-is m j run midway early inside =
      let most = fits.few in
      let number : link_number (link_at j) ≡ j = link_at-number j (omega (arith, inside, most)) in
      let there = held network.links j inside in
      let now : Plane = record { round = at.round + m; ticked = j; flights = at.flights } in
      let stands : plane_at network run ≡ now = midway.stands ∙ rw (ne_eqb j links (λ same. absurd (omega (arith, same, inside)))) refl in
      let within = rests.plane.left in
      let none : next_due now ≡ _ = none-yet (at.round + m) (at.round + n) at.flights rests.plane.none (omega (arith, early)) in
      record {
        link = there.item;
        linked = ap (slice_get network.links) number ∙ there.found;
        asked = asked-plane network (actor_number plane) run (plane-is network few) ∙ ap (plane_ask network.rounds) stands ∙ asks-tick network.rounds now (omega (arith, within, early)) none;
        answered =
            rests.quiet j there.item there.found m early
            ∙ ap (λ h. reply_to there.item h Tick) (sym (midway.left j (omega arith) inside))
            ∙ ap (λ k. reply_to there.item (part_of k run) Tick) (sym number);
      }

  tick : (m j : ℕ) (run : List Done) → Midway m j run → m < n → j < links → Midway m (suc j) (quiet_step plane (at.round + m) j ∷ run)
  tick m j run midway early inside =
      let done : Done = quiet_step plane (at.round + m) j in
      let next = next-is m j run midway early inside in
      let most = fits.few in
      let number : link_number (link_at j) ≡ j = link_at-number j (omega (arith, inside, most)) in
      let now : Plane = record { round = at.round + m; ticked = j; flights = at.flights } in
      let stands : plane_at network run ≡ now = midway.stands ∙ rw (ne_eqb j links (λ same. absurd (omega (arith, same, inside)))) refl in
      let none : next_due now ≡ _ = none-yet (at.round + m) (at.round + n) at.flights rests.plane.none (omega (arith, early)) in
      record {
        is_run = run-more network run done midway.is_run next;
        follows = subst (λ count. FollowsTurns network base (repeated count plane) (done ∷ run)) (omega arith) (follows-again network base run (done ∷ run) plane (m * links + j) midway.follows (turn-of network run done next));
        stands = plane-by network done run (plane-is network few) ∙ ap (plane_after links done.reply) stands ∙ after-still links now done.reply none refl;
        callers = λ actor other. replies-off actor done run (λ same. other (sym same ∙ plane-is network few)) ∙ midway.callers actor other;
        made = λ k less.
            elim (cases_lt k j) [
              | inl before ↦ part-off k done run (λ same. absurd (omega (arith, same, number, before))) ∙ midway.made k before
              | inr from ↦ (
                  let same : k ≡ j = omega (arith, from, less) in
                  part-on k done run (number ∙ sym same) ∙ ap (λ h. entry_of done ∷ h) (midway.left k from (omega (arith, same, inside))) ∙ more-quiet at.round m (part_of k base))
            ];
        left = λ k from within. part-off k done run (λ same. absurd (omega (arith, same, number, from))) ∙ midway.left k (omega (arith, from)) within;
      }

  -- the first j links make it
  ticks : (m j : ℕ) (run : List Done) → Midway m 0 run → m < n → j ≤ links → Midway m j (quiet_round plane (at.round + m) j run)
  unfolding quiet_round
  ticks m zero run midway early within = midway
  ticks m (suc j) run midway early within = tick m j (quiet_round plane (at.round + m) j run) (ticks m j run midway early (omega (arith, within))) early (omega (arith, within))

  -- and the next round begins
  turn : (m : ℕ) (run : List Done) → Midway m links run → Midway (suc m) 0 run
  turn m run midway = record {
    is_run = midway.is_run;
    follows = subst (λ count. FollowsTurns network base (repeated count plane) run) (one-round-more m links) midway.follows;
    stands = (let more : suc (at.round + m) ≡ at.round + suc m = omega arith in midway.stands ∙ stood-last m ∙ ap (λ r. record { round = r; ticked = 0; flights = at.flights }) more ∙ sym (stood-first (suc m)));
    callers = midway.callers;
    made = λ k less. absurd (omega (arith, less));
    left = λ k from within. midway.made k within;
  }

  rounds : (m : ℕ) → m ≤ n → Midway m 0 (quiet_rounds plane links at.round m base)
  unfolding quiet_rounds
  rounds zero within = begin
  rounds (suc m) within = turn m _ (ticks m links (quiet_rounds plane links at.round m base) (rounds m (omega (arith, within))) (omega (arith, within)) (omega arith))

  pub goes-on : GoesOnAtRest network n base
  goes-on =
      let all = rounds n (omega arith) in
      record {
        is_run = all.is_run;
        follows = subst (λ count. FollowsTurns network base (repeated count plane) (rested network n base)) (omega arith) all.follows;
        plane = all.stands ∙ stood-first n ∙ ap (λ t. record { round = at.round + n; ticked = t; flights = at.flights }) (sym rests.plane.starts);
        callers = all.callers;
        parts = λ k within. all.left k (omega arith) within;
      }

pub quiet-rounds : QuietRoundsGoOn
quiet-rounds network n run fits few is rests = goes-on network n run fits few is rests
