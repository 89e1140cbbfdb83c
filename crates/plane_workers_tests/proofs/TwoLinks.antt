-- Two links, without requests and callers, are the parts of a plan.
use Rattle.std.proofs.Common.{◌≡◌, ℕ, List, [], ◌∷◌, refl, sym, subst, arith}
use Rattle.std.specs.List.{All}
use Rattle.net_units.specs.Numbers.{link_number}
use Rattle.net_units.proofs.ListPlaces.{both-of}
use Rattle.link_steps.specs.declared.quota.Quota.{Quota}
use Rattle.call_script.specs.Parts.{ArePlanned, LeavesUnused, openings_of, parts_with}
use Rattle.call_script.specs.declared.entries.LinkEntry.{LinkEntry}
use Rattle.call_script.specs.declared.version.Version.{Version}

-- no quotas leave all unused
none-leaves : (bounds : List ℕ) (quotas : List Quota) → quotas ≡ [] → All (LeavesUnused bounds) quotas
none-leaves bounds quotas none = subst (All (LeavesUnused bounds)) (sym none) (λ k d inside. absurd (omega (arith, inside)))

pub two-planned : (version : Version) (first second : LinkEntry) (rounds tail : ℕ) → link_number first.shape.link ≡ 0 → link_number second.shape.link ≡ 1 → first.quotas ≡ [] → second.quotas ≡ []
    → ArePlanned (parts_with version (first ∷ second ∷ []) [] [] [] rounds tail)
unfolding openings_of
two-planned version first second rounds tail zeroth next unsplit whole = record {
  links = both-of (λ n (entry : LinkEntry). link_number entry.shape.link ≡ n) first second zeroth next;
  requests = λ n entry found. cc;
  openings = refl;
  hops = λ n entry found. cc;
  unused = both-of (λ n (entry : LinkEntry). All (LeavesUnused entry.shape.bounds) entry.quotas) first second (none-leaves first.shape.bounds first.quotas unsplit) (none-leaves second.shape.bounds second.quotas whole);
}
