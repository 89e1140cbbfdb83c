-- The parts of one link, one request or two, and one caller may be planned; and the one request may be accepted at the first level.
use Rattle.std.proofs.Common.{◌≡◌, ℕ, zero, suc, ◌≤◌, Some, List, [], ◌∷◌, ◌++◌, length, slice_index, refl, sym, ap, ◌∙◌, subst, arith}
use Rattle.std.proofs.lemmas.Option.{same_Some}
use Rattle.std.specs.List.{All, slice_get}
use Rattle.net_units.specs.Allotted.{levels_of}
use Rattle.net_units.specs.LevelBounds.{bound_at}
use Rattle.net_units.specs.Numbers.{link_number, channel_number, actor_number}
use Rattle.net_units.specs.declared.levels.Levels.{Levels}
use Rattle.net_units.proofs.ListPlaces.{both-of}
use Rattle.hop_reservation.specs.Offers.{AreLevels, delay_over}
use Rattle.hop_reservation.specs.declared.route.Hop.{Hop}
use Rattle.setup_protocol.specs.Laws.{KeepsRequest}
use Rattle.setup_protocol.specs.State.{HaveLevels}
use Rattle.link_steps.proofs.SearchAndFilter.{Each-if}
use Rattle.link_steps.specs.Lists.{Each}
use Rattle.link_steps.specs.declared.quota.Quota.{Quota}
use Rattle.call_script.specs.Accepted.{AreAccepted}
use Rattle.one_link_plans.specs.OneLink.{IsThatLink, IsOverIt, IsThatRequest, IsNextRequest, IsThatScript, OpensBoth, AsksForOne, HasThatRequest}
use Rattle.call_script.specs.Parts.{PlanParts, Opening, parts_with, openings_of, opening_of, FollowsLink, LeavesUnused, ArePlanned}
use Rattle.call_script.specs.declared.entries.LinkEntry.{LinkEntry}
use Rattle.call_script.specs.declared.entries.RequestEntry.{RequestEntry}
use Rattle.call_script.specs.declared.entries.CallerEntry.{CallerEntry}
use Rattle.call_script.specs.declared.version.Version.{Version}

-- what the only element has, the one at an index has
only : {X : Type 0} (P : ℕ → X → Type 0) (x : X) → P 0 x → (n : ℕ) (y : X) → slice_get (x ∷ []) n ≡ Some y → P n y
only P x own zero y found = subst (P 0) (same_Some x y found) own
only P x own (suc n) y found = cc

follows : (link : LinkEntry) (hop : Hop) → IsThatLink link → IsOverIt hop → FollowsLink (link ∷ []) hop
follows link hop is over = record {
  bounds = λ entry found. over.bounds ∙ sym is.bounds ∙ ap (λ (e : LinkEntry). e.shape.bounds) (same entry found);
  prop = λ entry found. over.prop ∙ sym is.prop ∙ ap (λ (e : LinkEntry). e.shape.prop) (same entry found);
} where
  same : (entry : LinkEntry) → slice_get (link ∷ []) (link_number hop.link) ≡ Some entry → link ≡ entry
  same entry found = same_Some link entry (sym (ap (slice_get (link ∷ [])) over.link) ∙ found)

pub split-planned : (version : Version) (link : LinkEntry) (groups : List (List ℕ)) (request : RequestEntry) (caller : CallerEntry) (rounds tail : ℕ) → IsThatLink link → IsThatRequest request → IsThatScript caller
    → ArePlanned (parts_with version (link ∷ []) groups (request ∷ []) (caller ∷ []) rounds tail)
unfolding openings_of
split-planned version link groups request caller rounds tail is asks opens = record {
  links = only (λ n (entry : LinkEntry). link_number entry.shape.link ≡ n) link is.number;
  unused = only (λ n (entry : LinkEntry). All (LeavesUnused entry.shape.bounds) entry.quotas) link (subst (λ (bounds : List ℕ). All (LeavesUnused bounds) link.quotas) (sym is.bounds) is.unused);
  requests = only (λ n (entry : RequestEntry). channel_number entry.request.chan ≡ n) request asks.chan;
  openings = ap (λ os. os ++ []) opens ∙ ap (λ (o : Opening). o ∷ []) (sym opening);
  hops = only (λ n (entry : RequestEntry). Each (FollowsLink (link ∷ [])) entry.request.route) request (Each-if IsOverIt (FollowsLink (link ∷ [])) request.request.route (λ hop over. follows link hop is over) asks.hops);
} where
  opening : opening_of request ≡ record { caller = 0; chan = 0 }
  opening = ap (λ (n : ℕ). record { caller = n; chan = channel_number request.request.chan }) asks.caller ∙ ap (λ (n : ℕ). record { caller = 0; chan = n }) asks.chan

pub two-planned : (version : Version) (link : LinkEntry) (first second : RequestEntry) (caller : CallerEntry) (rounds tail : ℕ) → IsThatLink link → IsThatRequest first → IsNextRequest second → OpensBoth caller
    → ArePlanned (parts_with version (link ∷ []) [] (first ∷ second ∷ []) (caller ∷ []) rounds tail)
unfolding openings_of
two-planned version link first second caller rounds tail is one two opens = record {
  links = only (λ n (entry : LinkEntry). link_number entry.shape.link ≡ n) link is.number;
  unused = only (λ n (entry : LinkEntry). All (LeavesUnused entry.shape.bounds) entry.quotas) link (subst (λ (bounds : List ℕ). All (LeavesUnused bounds) link.quotas) (sym is.bounds) is.unused);
  requests = both-of (λ n (entry : RequestEntry). channel_number entry.request.chan ≡ n) first second one.chan two.chan;
  openings = ap (λ os. os ++ []) opens ∙ ap (λ (o : Opening). o ∷ record { caller = 0; chan = 1 } ∷ []) (sym (opening first 0 one.caller one.chan)) ∙ ap (λ (o : Opening). opening_of first ∷ o ∷ []) (sym (opening second 1 two.caller two.chan));
  hops = both-of (λ n (entry : RequestEntry). Each (FollowsLink (link ∷ [])) entry.request.route) first second (over first one.hops) (over second two.hops);
} where
  over : (entry : RequestEntry) → Each IsOverIt entry.request.route → Each (FollowsLink (link ∷ [])) entry.request.route
  over entry = Each-if IsOverIt (FollowsLink (link ∷ [])) entry.request.route (λ hop at. follows link hop is at)

  opening : (entry : RequestEntry) (n : ℕ) → actor_number entry.caller ≡ 0 → channel_number entry.request.chan ≡ n → opening_of entry ≡ record { caller = 0; chan = n }
  opening entry n caller chan = ap (λ (a : ℕ). record { caller = a; chan = channel_number entry.request.chan }) caller ∙ ap (λ (c : ℕ). record { caller = 0; chan = c }) chan

-- no quotas leave all unused
pub none-leaves : (quotas : List Quota) → quotas ≡ [] → All (LeavesUnused (10 ∷ 20 ∷ 40 ∷ [])) quotas
none-leaves quotas none = subst (All (LeavesUnused (10 ∷ 20 ∷ 40 ∷ []))) (sym none) (λ k d inside. absurd (omega (arith, inside)))

-- a quota with the loads of three levels
three-unused : (quota : Quota) → quota.levels ≡ 4 ∷ 8 ∷ 20 ∷ 0 ∷ 0 ∷ 0 ∷ 0 ∷ 0 ∷ [] → LeavesUnused (10 ∷ 20 ∷ 40 ∷ []) quota
three-unused quota levels k past = ap (λ ls. slice_index ls k) levels ∙ by k past where
  by : (k : ℕ) → 3 ≤ k → slice_index (4 ∷ 8 ∷ 20 ∷ 0 ∷ 0 ∷ 0 ∷ 0 ∷ 0 ∷ []) k ≡ 0
  by zero above = absurd (omega (arith, above))
  by (suc zero) above = absurd (omega (arith, above))
  by (suc (suc zero)) above = absurd (omega (arith, above))
  by (suc (suc (suc zero))) above = refl
  by (suc (suc (suc (suc zero)))) above = refl
  by (suc (suc (suc (suc (suc zero))))) above = refl
  by (suc (suc (suc (suc (suc (suc zero)))))) above = refl
  by (suc (suc (suc (suc (suc (suc (suc k))))))) above = after k where
    after : (k : ℕ) → slice_index (0 ∷ []) k ≡ 0
    after zero = refl
    after (suc k) = refl

pub one-leaves : (quotas : List Quota) (quota : Quota) → quotas ≡ quota ∷ [] → quota.levels ≡ 4 ∷ 8 ∷ 20 ∷ 0 ∷ 0 ∷ 0 ∷ 0 ∷ 0 ∷ [] → All (LeavesUnused (10 ∷ 20 ∷ 40 ∷ [])) quotas
one-leaves quotas quota is levels = subst (All (LeavesUnused (10 ∷ 20 ∷ 40 ∷ []))) (sym is) by where
  by : All (LeavesUnused (10 ∷ 20 ∷ 40 ∷ [])) (quota ∷ [])
  by zero d inside = three-unused quota levels
  by (suc k) d inside = absurd (omega (arith, inside))

-- ---- accepted at the first level

-- the hop has that level, and adds 12 ticks
one-level : (route : List Hop) → length route ≡ 1 → Each IsOverIt route → HaveLevels route (1 ∷ []) × (delay_over route (1 ∷ []) ≡ 12)
unfolding AreLevels delay_over
one-level [] one over = absurd (omega (arith, one))
one-level (hop ∷ next ∷ hops) one over = absurd (omega (arith, one))
one-level (hop ∷ []) one over = (
  record {
    are_levels = (record { least = omega arith; most = omega (arith, ap length over.0.bounds) }, tt);
    whole = refl;
  },
  omega (arith, ap (λ bounds. bound_at bounds 1) over.0.bounds, over.0.prop),
)

one-keeps : (entry : RequestEntry) (levels : List ℕ) → IsThatRequest entry → AsksForOne entry.request → levels ≡ 1 ∷ [] → KeepsRequest entry.request levels (delay_over entry.request.route levels)
one-keeps entry levels is asks at =
    let by = one-level entry.request.route asks.one is.hops in
    subst (λ ls. KeepsRequest entry.request ls (delay_over entry.request.route ls)) (sym at)
    (record {
      have_levels = by.0;
      in_time = omega (arith, by.1, asks.delay);
      in_jitter = λ most jitter. cc (asks.jitter);
    })

pub one-accepted : (plan : PlanParts) (given : Levels) → HasThatRequest plan → levels_of given ≡ 1 ∷ [] → AreAccepted plan (Some given ∷ [])
one-accepted plan given has at = record {
  count = sym (ap length has.only);
  keep = λ c entry levels requested accepted. keep c entry levels (sym (ap (λ es. slice_get es c) has.only) ∙ requested) accepted;
} where
  keep : (c : ℕ) (entry : RequestEntry) (levels : Levels) → slice_get (has.entry ∷ []) c ≡ Some entry → slice_get (Some given ∷ []) c ≡ Some (Some levels)
      → KeepsRequest entry.request (levels_of levels) (delay_over entry.request.route (levels_of levels))
  keep zero entry levels requested accepted =
      let same : has.entry ≡ entry = same_Some has.entry entry requested in
      let these : given ≡ levels = same_Some given levels (same_Some (Some given) (Some levels) accepted) in
      subst (λ (e : RequestEntry). KeepsRequest e.request (levels_of levels) (delay_over e.request.route (levels_of levels))) same
      (one-keeps has.entry (levels_of levels) has.is has.asks (sym (ap levels_of these) ∙ at))
  keep (suc c) entry levels requested accepted = cc
