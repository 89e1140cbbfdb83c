-- The links, the requests and the callers of a design may be planned.
use Rattle.std.proofs.Common.{◌≡◌, ℕ, List, [], ◌∷◌, map}
use Rattle.std.specs.List.{AllZip}
use Rattle.link_steps.proofs.ListParts.{Each-at, Each-at_index}
use Rattle.link_steps.specs.Lists.{Each}
use Rattle.link_steps.specs.declared.quota.Quota.{Quota}
use Rattle.call_script.specs.Parts.{parts_with, openings_of, opening_of, FollowsLink, LeavesUnused, ArePlanned}
use Rattle.call_script.specs.declared.entries.CallerEntry.{CallerEntry}
use Rattle.call_script.specs.declared.entries.LinkEntry.{LinkEntry}
use Rattle.call_script.specs.declared.entries.RequestEntry.{RequestEntry}
use Rattle.call_script.specs.declared.version.Version.{Version}
use Rattle.design_text.specs.declared.design.DesignLink.{DesignLink}
use Rattle.design_text.specs.declared.design.DesignQuota.{DesignQuota}
use Rattle.design_text.specs.declared.design.DesignStream.{DesignStream}
use Rattle.design_file.specs.Rounded.{IsLinkOf, IsQuotaOf}
use Rattle.design_file.specs.Planned.{AreInOrder, AreLinksOf, AreRequestsOf}
use Rattle.design_file.proofs.RequestsOneByOne.{routes-follow}

-- a link's quotas have no load after its last level
each-unused : (tick unit : ℕ) (bounds : List ℕ) (shares : List DesignQuota) (quotas : List Quota) → AllZip (IsQuotaOf tick unit bounds) shares quotas → Each (LeavesUnused bounds) quotas
each-unused tick unit bounds [] [] each = tt
each-unused tick unit bounds [] (quota ∷ quotas) each = absurd each
each-unused tick unit bounds (share ∷ shares) [] each = tt
each-unused tick unit bounds (share ∷ shares) (quota ∷ quotas) each = (each.0.unused, each-unused tick unit bounds shares quotas each.1)

split-unused : (tick unit : ℕ) (links : List DesignLink) (entries : List LinkEntry) → AllZip (IsLinkOf tick unit) links entries → Each (λ (entry : LinkEntry). Each (LeavesUnused entry.shape.bounds) entry.quotas) entries
split-unused tick unit [] [] each = tt
split-unused tick unit [] (entry ∷ entries) each = absurd each
split-unused tick unit (link ∷ links) [] each = tt
split-unused tick unit (link ∷ links) (entry ∷ entries) each =
    (each-unused tick unit entry.shape.bounds link.quotas.items entry.quotas each.0.split, split-unused tick unit links entries each.1)

pub may-be-planned : (tick unit : ℕ) (version : Version) (designed : List DesignLink) (streams : List DesignStream) (links : List LinkEntry) (requests : List RequestEntry) (groups : List (List ℕ)) (callers : List CallerEntry) (rounds tail : ℕ)
    → AreLinksOf tick unit designed links → AreRequestsOf tick unit links streams requests → openings_of 0 callers ≡ map opening_of requests → ArePlanned (parts_with version links groups requests callers rounds tail)
unfolding AreInOrder
may-be-planned tick unit version designed streams links requests groups callers rounds tail are ask opens = record {
  links = are.numbered.number;
  requests = ask.numbered;
  openings = opens;
  hops = λ n entry found. Each-at (λ (e : RequestEntry). Each (FollowsLink links) e.request.route) requests n entry (routes-follow tick unit links streams requests ask.each) found;
  unused = λ n entry found. Each-at_index (LeavesUnused entry.shape.bounds) entry.quotas (Each-at (λ (e : LinkEntry). Each (LeavesUnused e.shape.bounds) e.quotas) links n entry (split-unused tick unit designed links are.each) found);
}
