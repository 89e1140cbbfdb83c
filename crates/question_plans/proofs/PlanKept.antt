-- A plan with what is wanted for one of its requests may be planned: its callers open what they open.
use Rattle.std.proofs.Common.{◌≡◌, ℕ, List, map, sym, ap, ◌∙◌}
use Rattle.call_script.specs.Parts.{PlanParts, parts_with, ArePlanned}
use Rattle.call_script.specs.declared.entries.CallerEntry.{CallerEntry}
use Rattle.call_script.specs.declared.entries.LinkEntry.{LinkEntry}
use Rattle.call_script.specs.declared.entries.RequestEntry.{RequestEntry}
use Rattle.call_script.specs.declared.version.Version.{Version}
use Rattle.question_plans.specs.Alone.{changed}
use Rattle.question_plans.specs.Kept.{changed_plan}
use Rattle.question_plans.specs.declared.change.Change.{Change}
use Rattle.question_plans.proofs.RequestsAlone.{changed-from, changed-number, changed-follows, openings-same}

pub changed-may-be-planned : (change : Change) (parts : PlanParts) → ArePlanned parts → ArePlanned (changed_plan change parts)
changed-may-be-planned change parts planned = record {
  links = planned.links;
  requests = λ n entry found. changed-number change parts planned n entry (changed-from change parts.requests n entry found);
  openings = planned.openings ∙ sym (openings-same change parts.requests);
  hops = λ n entry found. changed-follows change parts planned n entry (changed-from change parts.requests n entry found);
  unused = planned.unused;
}

-- the parts that are made are those
pub parts-changed : (change : Change) (parts : PlanParts) (version : Version) (links : List LinkEntry) (groups : List (List ℕ)) (requests : List RequestEntry) (callers : List CallerEntry) (rounds tail : ℕ)
    → version ≡ parts.version → links ≡ parts.links → groups ≡ parts.groups → requests ≡ map (changed change) parts.requests → callers ≡ parts.callers → rounds ≡ parts.rounds → tail ≡ parts.tail
    → parts_with version links groups requests callers rounds tail ≡ changed_plan change parts
parts-changed change parts version links groups requests callers rounds tail v l g q c r t =
    ap (λ (x : Version). parts_with x links groups requests callers rounds tail) v
    ∙ ap (λ (x : List LinkEntry). parts_with parts.version x groups requests callers rounds tail) l
    ∙ ap (λ (x : List (List ℕ)). parts_with parts.version parts.links x requests callers rounds tail) g
    ∙ ap (λ (x : List RequestEntry). parts_with parts.version parts.links parts.groups x callers rounds tail) q
    ∙ ap (λ (x : List CallerEntry). parts_with parts.version parts.links parts.groups (map (changed change) parts.requests) x rounds tail) c
    ∙ ap (λ x. parts_with parts.version parts.links parts.groups (map (changed change) parts.requests) parts.callers x tail) r
    ∙ ap (λ x. parts_with parts.version parts.links parts.groups (map (changed change) parts.requests) parts.callers parts.rounds x) t
