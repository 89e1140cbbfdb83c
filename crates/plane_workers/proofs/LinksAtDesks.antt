-- An engine's links at desks; and where the plane has made all its rounds.
use Rattle.std.proofs.Common.{◌≡◌, ◌≢◌, ℕ, ◌<◌, ◌≤◌, List, [], ◌∷◌, length, map, None, Some, option_map, refl, sym, ap, ◌∙◌, subst, arith}
use Rattle.std.proofs.lemmas.Bool.{le-ltb, lt-ltb}
use Rattle.std.proofs.lemmas.List.{length-map}
use Rattle.std.proofs.lemmas.Option.{slice_get-map, slice_get_within, none-some}
use Rattle.std.specs.List.{slice_get}
use Rattle.net_units.specs.Numbers.{actor_at, actor_number}
use Rattle.net_units.specs.declared.numbers.ActorNo.{ActorNo}
use Rattle.link_quota.specs.Any.{any_rules, AnyStands}
use Rattle.link_quota.specs.declared.any_link.AnyLink.{AnyLink}
use Rattle.link_steps.specs.Lists.{Each}
use Rattle.link_steps.specs.Split.{Link}
use Rattle.link_steps.specs.declared.replies.Entry.{Entry}
use Rattle.link_steps.proofs.ListParts.{Each-at, comes-from}
use Rattle.setup_protocol.specs.declared.request.Request.{Request}
use Rattle.call_script.proofs.OperationTable.{tasks-hold}
use Rattle.call_script.specs.Parts.{PlanParts}
use Rattle.call_script.specs.Plans.{IsPlan}
use Rattle.call_script.specs.Standing.{CallerStands}
use Rattle.call_script.specs.declared.actor.Actor.{Actor}
use Rattle.call_script.specs.Tasks.{Network, network_of, request_of, tasks_of, script_of}
use Rattle.call_script.specs.declared.entries.CallerEntry.{CallerEntry}
use Rattle.call_script.specs.declared.entries.RequestEntry.{RequestEntry}
use Rattle.call_script.specs.declared.operations.Op.{Op}
use Rattle.tick_plane.specs.PlaneAccount.{PlaneAccount}
use Rattle.tick_plane.specs.Planes.{Plane, ask_due, next_due, plane_ask}
use Rattle.run_record.specs.Runs.{part_of}
use Rattle.run_record.specs.declared.done.Done.{Done}
use Rattle.run_engine.specs.runs.Runs.{plane_no, plane_at, next_for}
use Rattle.run_engine.specs.schedules.Quiet.{the_plane}
use Rattle.run_engine.specs.schedules.Standing.{AreCallers, CallersStand, LinksStand, PlaneStands}
use Rattle.run_engine.specs.schedules.Watching.{WatchStands}
use Rattle.run_engine.specs.declared.callers.Callers.{Callers}
use Rattle.run_engine.specs.declared.engine.Engine.{Engine}
use Rattle.run_engine.proofs.Keeping.KeptActors.{plane-number}
use Rattle.run_engine.proofs.Keeping.NextStep.{callers-few}
use Rattle.run_engine.proofs.Watched.QuietRounds.{plane-is}
use Rattle.run_engine.proofs.Runs.RunLegal.{asked-plane}
use Rattle.plane_workers.specs.Gaps.{IsSpaced, TaskSpaced, AreSpaced}
use Rattle.plane_workers.specs.Seen.{GoesTo, PlaysMore, SeenBetween}
use Rattle.plane_workers.specs.Windows.{GoesOnBy, LinksKept, KeepsGap}

-- ---- links at desks

module _ {D X : Type 0} (link : D → X) (rules : X → Link) (stands : X → List Entry → Type 0) (network : List Link) (run : List Done) where
  pub at-desks : (links : List X) (desks : List D) → map link desks ≡ links → LinksKept rules stands network links run → LinksKept (λ d. rules (link d)) (λ d. stands (link d)) network desks run
  at-desks links desks are kept = record {
    same = sym (length-map desks link) ∙ ap length are ∙ kept.same;
    linked = λ n d found. kept.linked n (link d) (ap (λ ls. slice_get ls n) (sym are) ∙ slice_get-map link desks n ∙ ap (option_map link) found);
    parts = λ n d found. kept.parts n (link d) (ap (λ ls. slice_get ls n) (sym are) ∙ slice_get-map link desks n ∙ ap (option_map link) found);
  }

-- ---- the plane

pub plane-over : (network : Network) (plane : PlaneAccount) (run : List Done) → PlaneStands network plane run → network.rounds ≤ plane.at.round → next_for network (plane_no network) run ≡ None
plane-over network plane run stands over =
    let round = ap (λ (p : Plane). p.round) stands.at in
    asked-plane network (plane_no network) run refl ∙ rw (le-ltb (plane_at network run).round network.rounds (omega (arith, over, round))) refl

-- ---- the plane's number, and the rounds of a plan

pub plane-actor : (parts : PlanParts) (actor : ActorNo) → IsPlan parts → actor ≡ the_plane (network_of parts) → actor_number actor ≡ length parts.callers
plane-actor parts actor plan is =
    let place = plane-number parts in
    let few = callers-few parts plan in
    ap actor_number is ∙ plane-is (network_of parts) (omega (arith, place, few)) ∙ place

pub plane-of-callers : (parts : PlanParts) (count : ℕ) → count ≡ length parts.callers → actor_at count ≡ the_plane (network_of parts)
plane-of-callers parts count is = ap actor_at (is ∙ sym (plane-number parts))

pub plane-end : (parts : PlanParts) (plane : PlaneAccount) (run : List Done) (actor : ActorNo) → IsPlan parts → PlaneStands (network_of parts) plane run → actor ≡ the_plane (network_of parts) → (network_of parts).rounds ≤ plane.at.round → next_for (network_of parts) (actor_number actor) run ≡ None
plane-end parts plane run actor plan stands is over = ap (λ n. next_for (network_of parts) n run) (plane-actor parts actor plan is ∙ sym (plane-number parts)) ∙ plane-over (network_of parts) plane run stands over

-- before its last round there is a step left
pub plane-left : (parts : PlanParts) (plane : PlaneAccount) (run : List Done) (actor : ActorNo) → IsPlan parts → PlaneStands (network_of parts) plane run → actor ≡ the_plane (network_of parts) → plane.at.round < (network_of parts).rounds → next_for (network_of parts) (actor_number actor) run ≢ None
plane-left parts plane run actor plan stands is left none =
    let network = network_of parts in
    let round = ap (λ (p : Plane). p.round) stands.at in
    let by : actor_number actor ≡ plane_no network = plane-actor parts actor plan is ∙ sym (plane-number parts) in
    let at = plane_at network run in
    let asks : plane_ask network.rounds at ≡ Some (ask_due at.ticked (next_due at)) = rw (lt-ltb at.round network.rounds (omega (arith, left, round))) refl in
    none-some (ask_due at.ticked (next_due at)) (sym none ∙ asked-plane network (actor_number actor) run by ∙ asks)

-- ---- the links of an engine

pub kept-of : (network : List Link) (links : List AnyLink) (run : List Done) → LinksStand network links run → LinksKept any_rules AnyStands network links run
kept-of network links run stand = record { same = stand.same; linked = stand.linked; parts = stand.parts }

-- the links of desks
off-desks : {D : Type 0} (link : D → AnyLink) (network : List Link) (desks : List D) (run : List Done) → LinksKept (λ d. any_rules (link d)) (λ d. AnyStands (link d)) network desks run → LinksStand network (map link desks) run
off-desks link network desks run kept = record {
  same = length-map desks link ∙ kept.same;
  linked = λ n l found. (let at = comes-from link desks n l found in kept.linked n at.from at.found ∙ ap (λ k. Some (any_rules k)) at.is);
  parts = λ n l found. (let at = comes-from link desks n l found in subst (λ k. AnyStands k (part_of n run)) at.is (kept.parts n at.from at.found));
}

module _ {D W : Type 0} (link : D → AnyLink) (saw : W → PlanParts → List Done → Type 0) (parts : PlanParts) (engine : Engine) (gap : ℕ) where
  abbrev network : Network
  network = network_of parts

  -- before the plane's first round they and the plane stand for the run for which the engine does
  pub seen-first : (links : List AnyLink) (plane : PlaneAccount) (desks : List D) (watch : W) (run : List Done) → WatchStands saw parts engine watch run → links ≡ engine.links.items → plane ≡ engine.actors.plane → map link desks ≡ links → KeepsGap network gap
      → SeenBetween (λ d. any_rules (link d)) (λ d. AnyStands (link d)) saw parts gap desks plane watch run
  seen-first links plane desks watch run stand same flown are keeps = record {
    between = record {
      plan = stand.stands.plan;
      run_is = stand.stands.run;
      kept = at-desks link any_rules AnyStands network.links run engine.links.items desks (are ∙ same) (kept-of network.links engine.links.items run stand.stands.links);
      plane_is = subst (λ (p : PlaneAccount). PlaneStands network p run) (sym flown) stand.stands.actors.plane;
      keeps = keeps;
    };
    seen = stand.seen;
  }

  -- the callers stand where they stood, since the plane alone made steps
  callers-stay : (callers : List Actor) (past run : List Done) (actor : ActorNo) → length parts.callers ≤ actor_number actor → GoesOnBy network actor past run → AreCallers parts callers past → AreCallers parts callers run
  callers-stay callers past run actor high goes are = record {
    same = are.same;
    numbers = are.numbers;
    stand = λ n caller found.
        (let within = slice_get_within callers n caller found in
        let same = are.same in
        subst (CallerStands parts caller) (sym (goes.others n (λ is. omega (arith, is, within, same, high)))) (are.stand n caller found));
  }

  -- the engine of these links, the plane and the callers stands for the run with the window
  pub engine-again : (callers : Callers) (desks : List D) (plane : PlaneAccount) (made : Engine) (first watch : W) (past : List Done) (actor : ActorNo) → WatchStands saw parts engine first past → length parts.callers ≤ actor_number actor → callers ≡ engine.actors.callers
      → made.links.items ≡ map link desks → made.actors.plane ≡ plane → made.actors.callers ≡ callers → GoesTo network actor past (SeenBetween (λ d. any_rules (link d)) (λ d. AnyStands (link d)) saw parts gap desks plane watch) → PlaysMore saw parts made watch past actor 0
  engine-again callers desks plane made first watch past actor stand high same links flown called goes =
      let run = goes.run in
      let between = goes.comes.between in
      record {
        count = goes.goes.count;
        many = omega arith;
        plays = record {
          run = run;
          follows = goes.goes.follows;
          stand = record {
            stands = record {
              plan = between.plan;
              run = between.run_is;
              links = subst (λ ls. LinksStand network.links ls run) (sym links) (off-desks link network.links desks run between.kept);
              actors = record {
                callers = subst (λ (cs : Callers). CallersStand parts cs run) (sym (called ∙ same)) (callers-stay engine.actors.callers.by_number.items past run actor high goes.goes stand.stands.actors.callers);
                plane = subst (λ (p : PlaneAccount). PlaneStands network p run) (sym flown) between.plane_is;
              };
            };
            seen = goes.comes.seen;
          };
        };
      }

-- ---- the routes of a plan

tasks-spaced : (gap : ℕ) (requests : List RequestEntry) (ops : List Op) → Each (λ (entry : RequestEntry). IsSpaced gap entry.request.route) requests → Each (TaskSpaced gap) (tasks_of (map request_of requests) ops)
tasks-spaced gap requests ops spaced = tasks-hold (TaskSpaced gap) (map request_of requests) (record {
  opens = λ n request such found.
      (let at = comes-from request_of requests n request found in
      subst (λ (r : Request). IsSpaced gap r.route) at.is (Each-at (λ (e : RequestEntry). IsSpaced gap e.request.route) requests n at.from spaced at.found));
  sends = λ n request link count size step such found. tt;
  closes = λ n request such found. tt;
  pours = λ link count size step. tt;
  moves = λ o n old new such also leaves joins. tt;
}) ops

scripts-spaced : (gap : ℕ) (requests : List RequestEntry) (callers : List CallerEntry) → Each (λ (entry : RequestEntry). IsSpaced gap entry.request.route) requests → Each (Each (TaskSpaced gap)) (map (script_of (map request_of requests)) callers)
scripts-spaced gap requests [] spaced = tt
scripts-spaced gap requests (caller ∷ callers) spaced = (tasks-spaced gap requests caller.ops spaced, scripts-spaced gap requests callers spaced)

pub plan-spaced : (parts : PlanParts) (gap : ℕ) → Each (λ (entry : RequestEntry). IsSpaced gap entry.request.route) parts.requests → AreSpaced (network_of parts) gap
unfolding network_of
plan-spaced parts gap spaced = scripts-spaced gap parts.requests parts.callers spaced

-- a smaller gap
pub each-closer : (small gap : ℕ) (entries : List RequestEntry) → small ≤ gap → Each (λ (entry : RequestEntry). IsSpaced gap entry.request.route) entries → Each (λ (entry : RequestEntry). IsSpaced small entry.request.route) entries
each-closer small gap [] less each = tt
each-closer small gap (entry ∷ entries) less each = ((λ i hop next at after. (let most = each.0 i hop next at after in omega (arith, most, less))), each-closer small gap entries less each.1)
