-- A plan's requests alone may be planned: its callers open what they opened, and each request has its channel and its route.
use Rattle.std.proofs.Common.{◌≡◌, ℕ, suc, Option, Some, None, List, [], ◌∷◌, ◌++◌, map, option_map, refl, sym, ap, ◌∙◌, subst}
use Rattle.std.proofs.lemmas.Option.{slice_get-map, same_Some}
use Rattle.std.specs.List.{slice_get}
use Rattle.net_units.specs.Numbers.{channel_number}
use Rattle.link_steps.specs.Lists.{Each}
use Rattle.call_script.specs.Parts.{PlanParts, parts_with, Opening, opened_by, openings_in, openings_of, opening_of, FollowsLink, ArePlanned}
use Rattle.call_script.specs.Plans.{IsPlan}
use Rattle.call_script.specs.declared.entries.CallerEntry.{CallerEntry}
use Rattle.call_script.specs.declared.entries.LinkEntry.{LinkEntry}
use Rattle.call_script.specs.declared.entries.RequestEntry.{RequestEntry}
use Rattle.call_script.specs.declared.operations.Op.{Op}
use Rattle.call_script.specs.declared.operations.Op.TheVariants.{Open}
use Rattle.call_script.specs.declared.version.Version.{Version}
use Rattle.question_plans.specs.Alone.{alone_of, changed, opens_in, opens_of}
use Rattle.question_plans.specs.declared.change.Change.{Change}

-- ---- the callers open what they opened

opens-same : (n : ℕ) (ops : List Op) → openings_in n (opens_in ops) ≡ openings_in n ops
unfolding openings_in opens_in
opens-same n [] = refl
opens-same n (Open chan ∷ ops) = ap (λ rest. opened_by n (Open chan) ++ rest) (opens-same n ops)
opens-same n (_ ∷ ops) = opens-same n ops

pub callers-open-the-same : (n : ℕ) (callers : List CallerEntry) → openings_of n (map opens_of callers) ≡ openings_of n callers
unfolding openings_of
callers-open-the-same n [] = refl
callers-open-the-same n (caller ∷ callers) =
    ap (λ (first : List Opening). first ++ openings_of (suc n) (map opens_of callers)) (opens-same n caller.ops)
    ∙ ap (λ (rest : List Opening). openings_in n caller.ops ++ rest) (callers-open-the-same (suc n) callers)

pub openings-same : (change : Change) (requests : List RequestEntry) → map opening_of (map (changed change) requests) ≡ map opening_of requests
openings-same change [] = refl
openings-same change (entry ∷ requests) = ap (λ (rest : List Opening). opening_of entry ∷ rest) (openings-same change requests)

-- ---- a changed request is one of the plan's

pub record IsChanged (change : Change) (requests : List RequestEntry) (n : ℕ) (entry : RequestEntry) : Type 0 where
  pub from : RequestEntry
  pub found : slice_get requests n ≡ Some from
  pub is : entry ≡ changed change from

pub changed-from : (change : Change) (requests : List RequestEntry) (n : ℕ) (entry : RequestEntry) → slice_get (map (changed change) requests) n ≡ Some entry → IsChanged change requests n entry
changed-from change requests n entry found = by (slice_get requests n) refl where
  by : (at : Option RequestEntry) → slice_get requests n ≡ at → IsChanged change requests n entry
  by None none = absurd (let clash : None ≡ Some entry = sym (slice_get-map (changed change) requests n ∙ ap (option_map (changed change)) none) ∙ found in cc)
  by (Some from) some = record {
    from = from;
    found = some;
    is = same_Some entry (changed change from) (sym found ∙ slice_get-map (changed change) requests n ∙ ap (option_map (changed change)) some);
  }

-- so it has its number, and its route follows the links
module _ (change : Change) (parts : PlanParts) (planned : ArePlanned parts) (n : ℕ) (entry : RequestEntry) (is : IsChanged change parts.requests n entry) where
  pub changed-number : channel_number entry.request.chan ≡ n
  changed-number = ap (λ (e : RequestEntry). channel_number e.request.chan) is.is ∙ planned.requests n is.from is.found

  pub changed-follows : Each (FollowsLink parts.links) entry.request.route
  changed-follows = subst (λ (e : RequestEntry). Each (FollowsLink parts.links) e.request.route) (sym is.is) (planned.hops n is.from is.found)

-- ---- the plan

pub alone-may-be-planned : (change : Change) (parts : PlanParts) → ArePlanned parts → ArePlanned (alone_of change parts)
alone-may-be-planned change parts planned = record {
  links = planned.links;
  requests = λ n entry found. changed-number change parts planned n entry (changed-from change parts.requests n entry found);
  openings = callers-open-the-same 0 parts.callers ∙ planned.openings ∙ sym (openings-same change parts.requests);
  hops = λ n entry found. changed-follows change parts planned n entry (changed-from change parts.requests n entry found);
  unused = planned.unused;
}

-- the parts that are made are those
pub parts-alone : (change : Change) (parts : PlanParts) (version : Version) (links : List LinkEntry) (groups : List (List ℕ)) (requests : List RequestEntry) (callers : List CallerEntry)
    → version ≡ parts.version → links ≡ parts.links → groups ≡ parts.groups → requests ≡ map (changed change) parts.requests → callers ≡ map opens_of parts.callers
    → parts_with version links groups requests callers 0 0 ≡ alone_of change parts
parts-alone change parts version links groups requests callers v l g r c =
    ap (λ (x : Version). parts_with x links groups requests callers 0 0) v
    ∙ ap (λ (x : List LinkEntry). parts_with parts.version x groups requests callers 0 0) l
    ∙ ap (λ (x : List (List ℕ)). parts_with parts.version parts.links x requests callers 0 0) g
    ∙ ap (λ (x : List RequestEntry). parts_with parts.version parts.links parts.groups x callers 0 0) r
    ∙ ap (λ (x : List CallerEntry). parts_with parts.version parts.links parts.groups (map (changed change) parts.requests) x 0 0) c

pub made-alone : (change : Change) (parts : PlanParts) (version : Version) (links : List LinkEntry) (groups : List (List ℕ)) (requests : List RequestEntry) (callers : List CallerEntry) → IsPlan parts
    → version ≡ parts.version → links ≡ parts.links → groups ≡ parts.groups → requests ≡ map (changed change) parts.requests → callers ≡ map opens_of parts.callers
    → ArePlanned (parts_with version links groups requests callers 0 0)
made-alone change parts version links groups requests callers plan v l g r c =
    subst ArePlanned (sym (parts-alone change parts version links groups requests callers v l g r c)) (alone-may-be-planned change parts plan.planned)
