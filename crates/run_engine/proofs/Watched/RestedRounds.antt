-- An engine whose links and plane have rested for n rounds stands for the run continued by n quiet rounds.
use Rattle.std.proofs.Common.{◌≡◌, ℕ, ◌+◌, ◌-◌, ◌<◌, ◌≤◌, ◌^◌, Some, List, [], ◌∷◌, length, take, get_or, set, refl, sym, ap, ◌∙◌, subst, inl, inr, arith, length-set}
use Rattle.run_engine.proofs.Words.{cases_eq, le-ltb, same_Some, slice_get_within, slice_get, any_clock, any_account, any_rules, AnyStands, any-clock-is, AnyLink, Tick, Entry, Each, RestsUntil, quiet_reply, quiet_ticks, reply_to, clock_of, Link, NetworkFits, PlanParts, Network, network_of, Plane, part_of, Done, plane_at, IsRun}
use Rattle.link_steps.proofs.ListParts.{Each-by_place}
use Rattle.link_steps.proofs.SearchAndFilter.{Each-append, Each-if}
use Rattle.call_script.proofs.PlansFit.{plan-fits}
use Rattle.call_script.proofs.Walks.{before-at}
use Rattle.call_script.specs.Standing.{CallerStands}
use Rattle.tick_plane.specs.QuietRounds.{HasQuietRounds, rounds_later}
use Rattle.tick_plane.specs.Coming.{IsDueFrom}
use Rattle.tick_plane.specs.PlaneAccount.{PlaneAccount}
use Rattle.run_engine.specs.schedules.Quiet.{rested, RestsFor, GoesOnAtRest}
use Rattle.run_engine.specs.schedules.Resting.{RestsBy, HasRested, HaveRested, EngineRests, MakesStride}
use Rattle.run_engine.specs.schedules.Standing.{CallersStand, EngineStands, LinksStand, PlaneStands}
use Rattle.run_engine.specs.declared.engine.Engine.{Engine}
use Rattle.run_engine.proofs.Keeping.KeptActors.{plane-number}
use Rattle.run_engine.proofs.Keeping.Lookups.{held, found-at, get-set-same, get-set-other}
use Rattle.run_engine.proofs.Runs.PartLaws.{clocks-follow}
use Rattle.run_engine.proofs.Watched.QuietRounds.{quiet-rounds}
use Rattle.run_engine.proofs.Runs.RunLegal.{clock_at}
use Rattle.run_engine.proofs.Keeping.NextStep.{callers-few}

-- ---- fewer rounds

pub fewer-rounds : (rounds n more : ℕ) (plane : Plane) → n ≤ more → HasQuietRounds rounds more plane → HasQuietRounds rounds n plane
fewer-rounds rounds n more plane few ahead = record {
  starts = ahead.starts;
  left = (let all = ahead.left in omega (arith, all, few));
  none = Each-if (IsDueFrom (plane.round + more)) (IsDueFrom (plane.round + n)) plane.flights (λ flight from. omega (arith, from, few)) ahead.none;
}

pub fewer-rests : (n more : ℕ) (links : List AnyLink) → n ≤ more → Each (RestsBy more) links → Each (RestsBy n) links
fewer-rests n more links few each = Each-if (RestsBy more) (RestsBy n) links (λ link rests. (rests.0, (rests.1.0, (let all = rests.1.1 in omega (arith, all, few))))) each

pub fewer-engine : (engine : Engine) (n more : ℕ) → n ≤ more → EngineRests engine more → EngineRests engine n
fewer-engine engine n more few rests = record { plane = fewer-rounds engine.actors.plane.rounds n more engine.actors.plane.at few rests.plane; links = fewer-rests n more engine.links.items few rests.links }

-- ---- at the start of a round

-- the clocks are the round
pub clock-starts : (network : Network) (links : List AnyLink) (run : List Done) (k : ℕ) (link : AnyLink) → NetworkFits network → IsRun network run → LinksStand network.links links run → (plane_at network run).ticked ≡ 0 → slice_get links k ≡ Some link → any_clock link ≡ (plane_at network run).round
clock-starts network links run k link fits is stand starts found =
    let within : k < length network.links = slice_get_within network.links k (any_rules link) (stand.linked k link found) in
    let clock : any_clock link ≡ clock_of (part_of k run) = any-clock-is link (part_of k run) (stand.parts k link found) in
    let none : clock_at (plane_at network run) k ≡ (plane_at network run).round = rw (le-ltb k (plane_at network run).ticked (omega (arith, starts))) (omega arith) in
    clock ∙ clocks-follow network run k fits is within ∙ none

-- ---- links

-- one link more rests for as many ticks
pub least-more : (links : List AnyLink) (i : ℕ) (link : AnyLink) (until ticks now : ℕ) → i < length links → link ≡ get_or links i link → RestsUntil (any_rules link).shape until (any_account link) → now ≤ ticks → now ≤ until - any_clock link → (1 ≤ ticks → Each (RestsBy ticks) (take i links)) → 1 ≤ now
    → Each (RestsBy now) (take (i + 1) links)
least-more links i link until ticks now within is rests few fewer before some =
    subst (Each (RestsBy now)) (sym (before-at links i link within is))
    (Each-append (RestsBy now) (take i links) (link ∷ []) (fewer-rests now ticks (take i links) few (before (omega (arith, few, some)))) ((until, (rests, omega (arith, fewer, some))), tt))

-- one tick of a link that rests
pub first-told : (rules : Link) (clock : ℕ) (h : List Entry) → quiet_reply (clock + 0) ≡ reply_to rules (quiet_ticks 0 clock h) Tick → quiet_reply clock ≡ reply_to rules h Tick
unfolding quiet_ticks
first-told rules clock h legal = (let same : clock ≡ clock + 0 = omega arith in ap quiet_reply same ∙ legal)

pub one-tick : (link : AnyLink) (clock : ℕ) (h : List Entry) → AnyStands link (quiet_ticks 1 clock h) → AnyStands link (record { ask = Tick; reply = quiet_reply clock } ∷ h)
unfolding quiet_ticks
one-tick link clock h stands = (let same : clock + 0 ≡ clock = omega arith in subst (λ (t : ℕ). AnyStands link (record { ask = Tick; reply = quiet_reply t } ∷ h)) same stands)

-- the first i of them have rested, and the others are as they were
pub record HaveRestedTo (n : ℕ) (old new : List AnyLink) (i : ℕ) : Type 0 where
  pub same : length new ≡ length old
  pub made : (k : ℕ) (link next : AnyLink) → k < i → slice_get old k ≡ Some link → slice_get new k ≡ Some next → HasRested n link next
  pub left : (k : ℕ) → i ≤ k → slice_get new k ≡ slice_get old k

-- the next link is as it was
pub next-stays : (n : ℕ) (old mid : List AnyLink) (i : ℕ) (link : AnyLink) → i < length mid → link ≡ get_or mid i link → HaveRestedTo n old mid i → slice_get old i ≡ Some link
next-stays n old mid i link within is before = sym (before.left i (omega arith)) ∙ found-at mid mid i i link refl refl within is

-- one more has
pub rested-more : (n : ℕ) (old mid : List AnyLink) (i : ℕ) (link next : AnyLink) → i < length mid → link ≡ get_or mid i link → HasRested n link next → HaveRestedTo n old mid i → HaveRestedTo n old (set mid i next) (i + 1)
rested-more n old mid i link next within is rested before = record {
  same = length-set mid i next ∙ before.same;
  made = λ k was after less found there. elim (cases_eq k i) [
    | inl here ↦
        (let at : slice_get (set mid i next) i ≡ Some after = ap (slice_get (set mid i next)) (sym here) ∙ there in
        let put : after ≡ next = get-set-same mid i next after at in
        let own : slice_get mid i ≡ Some link = found-at mid mid i i link refl refl within is in
        let kept : slice_get mid i ≡ Some was = before.left i (omega arith) ∙ ap (slice_get old) (sym here) ∙ found in
        let same : link ≡ was = same_Some link was (sym own ∙ kept) in
        subst (λ l. HasRested n l after) same (subst (HasRested n link) (sym put) rested))
    | inr apart ↦ before.made k was after (omega (arith, less, apart)) found (sym (get-set-other mid i k next apart) ∙ there)
  ];
  left = λ k from. get-set-other mid i k next (λ same. absurd (omega (arith, same, from))) ∙ before.left k (omega (arith, from));
}

pub all-rested : (n : ℕ) (old new : List AnyLink) (i : ℕ) → length new ≤ i → HaveRestedTo n old new i → HaveRested n old new
all-rested n old new i all to = record {
  same = to.same;
  each = λ k link next found after. to.made k link next (let within = slice_get_within new k next after in omega (arith, within, all)) found after;
}

-- ---- an engine that rests

module _ (parts : PlanParts) (engine : Engine) (run : List Done) (n : ℕ) (stands : EngineStands parts engine run) (ahead : HasQuietRounds engine.actors.plane.rounds n engine.actors.plane.at) where
  fits-parts : NetworkFits (network_of parts)
  fits-parts = plan-fits parts stands.plan

  ahead-in : HasQuietRounds (network_of parts).rounds n (plane_at (network_of parts) run)
  ahead-in = subst (HasQuietRounds (network_of parts).rounds n) stands.actors.plane.at (subst (λ rounds. HasQuietRounds rounds n engine.actors.plane.at) stands.actors.plane.rounds ahead)

  clock-in : (k : ℕ) (link : AnyLink) → slice_get engine.links.items k ≡ Some link → any_clock link ≡ (plane_at (network_of parts) run).round
  clock-in k link found = clock-starts (network_of parts) engine.links.items run k link fits-parts stands.run stands.links ahead-in.starts found

  pub all-early : Each (λ link. any_clock link + n ≤ 2 ^ 61) engine.links.items
  all-early = Each-by_place (λ link. any_clock link + n ≤ 2 ^ 61) engine.links.items (λ k link found. (let clock = clock-in k link found in let left = ahead-in.left in let few = fits-parts.rounds in omega (arith, clock, left, few)))

module _ (parts : PlanParts) (engine : Engine) (news : List AnyLink) (run : List Done) (n : ℕ) (stands : EngineStands parts engine run) (ahead : HasQuietRounds engine.actors.plane.rounds n engine.actors.plane.at) (have : HaveRested n engine.links.items news) where
  abbrev network : Network
  network = network_of parts

  abbrev at : Plane
  at = plane_at network run

  fits : NetworkFits network
  fits = plan-fits parts stands.plan

  clock : (k : ℕ) (link : AnyLink) → slice_get engine.links.items k ≡ Some link → any_clock link ≡ at.round
  clock = clock-in parts engine run n stands ahead

  rests : RestsFor network n run
  rests = record { plane = ahead-in parts engine run n stands ahead; quiet = quiet } where
    quiet : (k : ℕ) (link : Link) → slice_get network.links k ≡ Some link → (m : ℕ) → m < n → quiet_reply (at.round + m) ≡ reply_to link (quiet_ticks m at.round (part_of k run)) Tick
    quiet k link found m less =
        let within = slice_get_within network.links k link found in
        let same = stands.links.same in
        let long = have.same in
        let was = held engine.links.items k (omega (arith, within, same)) in
        let next = held news k (omega (arith, within, same, long)) in
        let is : any_rules was.item ≡ link = same_Some (any_rules was.item) link (sym (stands.links.linked k was.item was.found) ∙ found) in
        subst (λ t. quiet_reply (t + m) ≡ reply_to link (quiet_ticks m t (part_of k run)) Tick) (clock k was.item was.found)
        (subst (λ l. quiet_reply (any_clock was.item + m) ≡ reply_to l (quiet_ticks m (any_clock was.item) (part_of k run)) Tick) is
        ((have.each k was.item next.item was.found next.found).legal m (part_of k run) less (stands.links.parts k was.item was.found)))

  goes : GoesOnAtRest network n run
  goes = quiet-rounds network n run fits (let same = plane-number parts in let few = callers-few parts stands.plan in omega (arith, same, few)) stands.run rests

  links-rested : LinksStand network.links news (rested network n run)
  links-rested = record {
    same = have.same ∙ stands.links.same;
    linked = λ k next found.
        let within = slice_get_within news k next found in
        let long = have.same in
        let was = held engine.links.items k (omega (arith, within, long)) in
        stands.links.linked k was.item was.found ∙ ap (λ (l : Link). Some l) (sym (have.each k was.item next was.found found).rules);
    parts = λ k next found.
        let within = slice_get_within news k next found in
        let long = have.same in
        let same = stands.links.same in
        let was = held engine.links.items k (omega (arith, within, long)) in
        subst (AnyStands next) (sym (goes.parts k (omega (arith, within, long, same))))
        (subst (λ t. AnyStands next (quiet_ticks n t (part_of k run))) (clock k was.item was.found)
        ((have.each k was.item next was.found found).made (part_of k run) (stands.links.parts k was.item was.found)));
  }

  callers-rested : CallersStand parts engine.actors.callers (rested network n run)
  callers-rested =
      let were = stands.actors.callers in
      record {
        same = were.same;
        numbers = were.numbers;
        stand = λ k caller found.
            let within = slice_get_within engine.actors.callers.by_number.items k caller found in
            let number = plane-number parts in
            let long = were.same in
            subst (CallerStands parts caller) (sym (goes.callers k (λ same. absurd (omega (arith, same, within, number, long))))) (were.stand k caller found);
      }

  plane-rested : (plane : PlaneAccount) → plane ≡ record engine.actors.plane { at = rounds_later n engine.actors.plane.at } → PlaneStands network plane (rested network n run)
  plane-rested plane is =
      let was = stands.actors.plane in
      record {
        links = ap (λ (p : PlaneAccount). p.links) is ∙ was.links;
        rounds = ap (λ (p : PlaneAccount). p.rounds) is ∙ was.rounds;
        at = ap (λ (p : PlaneAccount). p.at) is ∙ ap (rounds_later n) was.at ∙ sym goes.plane;
      }

  pub makes-stride : (new : Engine) → new.links.items ≡ news → new.actors.callers ≡ engine.actors.callers → new.actors.plane ≡ record engine.actors.plane { at = rounds_later n engine.actors.plane.at } → MakesStride parts new run n
  makes-stride new links callers plane = record {
    rests = rests;
    goes = goes;
    stands = record {
      plan = stands.plan;
      run = goes.is_run;
      links = subst (λ ls. LinksStand network.links ls (rested network n run)) (sym links) links-rested;
      actors = record {
        callers = subst (λ cs. CallersStand parts cs (rested network n run)) (sym callers) callers-rested;
        plane = plane-rested new.actors.plane plane;
      };
    };
  }
