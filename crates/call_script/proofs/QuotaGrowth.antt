-- Groups and quotas that are added keep the rules of a plan.
use Rattle.std.proofs.Common.{◌≡◌, ℕ, zero, suc, ◌<◌, ◌≤◌, ◌⊎◌, Bool, true, Some, List, [], ◌∷◌, ◌++◌, length, get_or, refl, sym, ap, ◌∙◌, subst, inl, inr, nat_eq, arith}
use Rattle.std.proofs.Math.Bool.{or-true}
use Rattle.std.proofs.lemmas.Bool.{and_from, and_parts, le-leb, leb-true}
use Rattle.std.proofs.lemmas.List.Elements.{All-append}
use Rattle.std.proofs.lemmas.Option.{same_Some}
use Rattle.std.specs.List.{All, list_all, slice_get}
use Rattle.std.specs.Prelude.{nat_le, ◌||◌}
use Rattle.net_units.specs.Numbers.{link_number}
use Rattle.link_steps.specs.declared.quota.Quota.{Quota}
use Rattle.call_script.specs.Groups.{quotas_have_version, is_of_new_group, have_own_groups, quota_is_there, quota_in_range, quotas_fit, KeepGroups}
use Rattle.call_script.specs.Growing.{with_its_quota, add_quota, with_group, with_quota, MayAddGroup, MayAddQuota, KeepSoFar}
use Rattle.call_script.specs.Parts.{PlanParts, parts_with, openings_of, LeavesUnused}
use Rattle.call_script.specs.Rules.{link_has_version, have_version, link_names, are_distinct, have_names, are_there, are_in_range, are_few, are_joined, are_unclosed, pours_are_taken, moves_are_fit}
use Rattle.call_script.specs.declared.entries.CallerEntry.{CallerEntry}
use Rattle.call_script.specs.declared.entries.LinkEntry.{LinkEntry}
use Rattle.call_script.specs.declared.entries.RequestEntry.{RequestEntry}
use Rattle.call_script.specs.declared.version.Version.{Version}
use Rattle.call_script.proofs.OneMoreOperation.{all-more, after-more}
use Rattle.call_script.proofs.Growing.{names-in, names-from, version-in, version-from, few-in, few-from, length-more, names-more, no-request}

-- ---- groups

-- a test that is let through by another
all-through : {X : Type 0} (test other : X → Bool) (xs : List X) → ((x : X) → test x ≡ true → other x ≡ true) → list_all test xs ≡ true → list_all other xs ≡ true
all-through test other [] through all = refl
all-through test other (x ∷ xs) through all =
    let split = and_parts (test x) (list_all test xs) all in
    and_from (other x) (list_all other xs) (through x split.0) (all-through test other xs through split.1)

-- a group that is there is there with one group more
still-there : (groups : List (List ℕ)) (name : List ℕ) (quota : Quota) → quota_is_there groups quota ≡ true → quota_is_there (groups ++ name ∷ []) quota ≡ true
still-there groups name quota there =
    let at = and_parts (nat_le 1 quota.group) (nat_le quota.group (length groups)) there in
    let before : quota.group ≤ length groups = leb-true quota.group (length groups) at.1 in
    let more = length-more groups name in
    and_from (nat_le 1 quota.group) (nat_le quota.group (length (groups ++ name ∷ []))) at.0 (le-leb quota.group (length (groups ++ name ∷ [])) (omega (arith, before, more)))

groups-with-group : (version : Version) (groups : List (List ℕ)) (links : List LinkEntry) (name : List ℕ) (rounds tail : ℕ) → MayAddGroup (parts_with version links groups [] [] rounds tail) name
    → KeepGroups version groups links [] → KeepGroups version (groups ++ name ∷ []) links []
groups-with-group version groups links name rounds tail may keep = record {
  version_groups = ap (λ (has : Bool). nat_eq (length (groups ++ name ∷ [])) 0 || has) may.version ∙ or-true (nat_eq (length (groups ++ name ∷ [])) 0);
  version_links = keep.version_links;
  version_callers = refl;
  named = names-more groups name keep.named may.new;
  own = keep.own;
  quotas_there = all-through (λ (e : LinkEntry). list_all (quota_is_there groups) e.quotas) (λ (e : LinkEntry). list_all (quota_is_there (groups ++ name ∷ [])) e.quotas) links
      (λ link. all-through (quota_is_there groups) (quota_is_there (groups ++ name ∷ [])) link.quotas (still-there groups name)) keep.quotas_there;
  callers_there = refl;
  range = keep.range;
  few = omega (arith, may.few, length-more groups name);
  fit = keep.fit;
}

group-grown : (version : Version) (links : List LinkEntry) (groups : List (List ℕ)) (name : List ℕ) (rounds tail : ℕ) → KeepSoFar (parts_with version links groups [] [] rounds tail)
    → MayAddGroup (parts_with version links groups [] [] rounds tail) name → KeepSoFar (parts_with version links (groups ++ name ∷ []) [] [] rounds tail)
unfolding have_version have_names are_there are_in_range are_few are_joined are_unclosed pours_are_taken moves_are_fit
group-grown version links groups name rounds tail keep may = record {
  version = keep.version;
  names = keep.names;
  there = keep.there;
  range = keep.range;
  few = keep.few;
  joined = keep.joined;
  unclosed = keep.unclosed;
  load = keep.load;
  pours = keep.pours;
  moves = keep.moves;
  groups = groups-with-group version groups links name rounds tail may keep.groups;
  planned = record { links = keep.planned.links; requests = keep.planned.requests; openings = keep.planned.openings; hops = keep.planned.hops; unused = keep.planned.unused };
  terms = keep.terms;
}

pub group-keeps : (parts : PlanParts) (name : List ℕ) → KeepSoFar parts → MayAddGroup parts name → KeepSoFar (with_group name parts)
group-keeps parts name keep may = by parts.callers parts.requests (sym may.first) (no-request parts keep.planned may.first) keep may where
  by : (callers : List CallerEntry) (requests : List RequestEntry) → [] ≡ callers → [] ≡ requests
      → KeepSoFar (parts_with parts.version parts.links parts.groups requests callers parts.rounds parts.tail) → MayAddGroup (parts_with parts.version parts.links parts.groups requests callers parts.rounds parts.tail) name
      → KeepSoFar (parts_with parts.version parts.links (parts.groups ++ name ∷ []) requests callers parts.rounds parts.tail)
  by [] [] nobody nothing = group-grown parts.version parts.links parts.groups name parts.rounds parts.tail
  by (caller ∷ callers) requests nobody nothing = cc
  by [] (request ∷ requests) nobody nothing = cc

-- ---- a link with one quota more

-- it passes a test that it passed before
added-all : (test : LinkEntry → Bool) (place : ℕ) (quota : Quota) (links : List LinkEntry) → list_all test links ≡ true
    → ((link : LinkEntry) → slice_get links place ≡ Some link → test link ≡ true → test (with_its_quota quota link) ≡ true) → list_all test (add_quota place quota links) ≡ true
added-all test place quota [] all one = refl
added-all test zero quota (link ∷ links) all one =
    let split = and_parts (test link) (list_all test links) all in
    and_from (test (with_its_quota quota link)) (list_all test links) (one link refl split.0) split.1
added-all test (suc place) quota (link ∷ links) all one =
    let split = and_parts (test link) (list_all test links) all in
    and_from (test link) (list_all test (add_quota place quota links)) split.0 (added-all test place quota links split.1 one)

pub quota-names : (place : ℕ) (quota : Quota) (links : List LinkEntry) → link_names (add_quota place quota links) ≡ link_names links
quota-names place quota [] = refl
quota-names zero quota (link ∷ links) = refl
quota-names (suc place) quota (link ∷ links) = ap (λ (names : List (List ℕ)). link.name ∷ names) (quota-names place quota links)

pub quota-length : (place : ℕ) (quota : Quota) (links : List LinkEntry) → length (add_quota place quota links) ≡ length links
quota-length place quota [] = refl
quota-length zero quota (link ∷ links) = refl
quota-length (suc place) quota (link ∷ links) = ap suc (quota-length place quota links)

-- the link at a place was there before, or it is the one with the quota
pub record HasTheQuota (place : ℕ) (quota : Quota) (links : List LinkEntry) (n : ℕ) (link : LinkEntry) : Type 0 where
  pub before : LinkEntry
  pub here : n ≡ place
  pub at : slice_get links place ≡ Some before
  pub is : with_its_quota quota before ≡ link

pub quota-at : (place : ℕ) (quota : Quota) (links : List LinkEntry) (n : ℕ) (link : LinkEntry) → slice_get (add_quota place quota links) n ≡ Some link → (slice_get links n ≡ Some link) ⊎ HasTheQuota place quota links n link
quota-at place quota [] n link found = inl found
quota-at zero quota (first ∷ links) zero link found = inr (record { before = first; here = refl; at = refl; is = same_Some (with_its_quota quota first) link found })
quota-at zero quota (first ∷ links) (suc n) link found = inl found
quota-at (suc place) quota (first ∷ links) zero link found = inl found
quota-at (suc place) quota (first ∷ links) (suc n) link found = by (quota-at place quota links n link found) where
  by : (slice_get links n ≡ Some link) ⊎ HasTheQuota place quota links n link → (slice_get (first ∷ links) (suc n) ≡ Some link) ⊎ HasTheQuota (suc place) quota (first ∷ links) (suc n) link
  by (inl old) = inl old
  by (inr new) = inr (record { before = new.before; here = ap suc new.here; at = new.at; is = new.is })

groups-with-quota : (version : Version) (groups : List (List ℕ)) (links : List LinkEntry) (place : ℕ) (quota : Quota) (rounds tail : ℕ) → MayAddQuota (parts_with version links groups [] [] rounds tail) place quota
    → KeepGroups version groups links [] → KeepGroups version groups (add_quota place quota links) []
groups-with-quota version groups links place quota rounds tail may keep = record {
  version_groups = keep.version_groups;
  version_links = added-all (quotas_have_version version) place quota links keep.version_links
      (λ link found has. ap (λ (h : Bool). nat_eq (length (link.quotas ++ quota ∷ [])) 0 || h) may.version ∙ or-true (nat_eq (length (link.quotas ++ quota ∷ [])) 0));
  version_callers = refl;
  named = keep.named;
  own = added-all (λ (e : LinkEntry). have_own_groups e.quotas) place quota links keep.own
      (λ link found own. after-more is_of_new_group [] link.quotas quota own (ap (λ (e : LinkEntry). is_of_new_group e.quotas quota) (sym (that link found)) ∙ may.new));
  quotas_there = added-all (λ (e : LinkEntry). list_all (quota_is_there groups) e.quotas) place quota links keep.quotas_there
      (λ link found there. all-more (quota_is_there groups) link.quotas quota there may.there);
  callers_there = refl;
  range = added-all (λ (e : LinkEntry). list_all quota_in_range e.quotas) place quota links keep.range (λ link found range. all-more quota_in_range link.quotas quota range may.range);
  few = keep.few;
  fit = added-all (λ (e : LinkEntry). quotas_fit e.shape e.quotas) place quota links keep.fit
      (λ link found fits. ap (λ (e : LinkEntry). quotas_fit e.shape (e.quotas ++ quota ∷ [])) (sym (that link found)) ∙ may.fit);
} where
  that : (link : LinkEntry) → slice_get links place ≡ Some link → may.link ≡ link
  that link found = same_Some may.link link (sym may.linked ∙ found)

quota-grown : (version : Version) (links : List LinkEntry) (groups : List (List ℕ)) (place : ℕ) (quota : Quota) (rounds tail : ℕ) → KeepSoFar (parts_with version links groups [] [] rounds tail)
    → MayAddQuota (parts_with version links groups [] [] rounds tail) place quota → KeepSoFar (parts_with version (add_quota place quota links) groups [] [] rounds tail)
unfolding have_version are_there are_in_range are_joined are_unclosed pours_are_taken moves_are_fit openings_of
quota-grown version links groups place quota rounds tail keep may =
    let few = few-in (parts_with version links groups [] [] rounds tail) keep.few in
    let names = names-in (parts_with version links groups [] [] rounds tail) keep.names in
    record {
      version = version-from (parts_with version (add_quota place quota links) groups [] [] rounds tail) (record {
        links = added-all (link_has_version version) place quota links (version-in (parts_with version links groups [] [] rounds tail) keep.version).links (λ link found has. has);
        requests = refl;
        ops = refl;
      });
      names = names-from (parts_with version (add_quota place quota links) groups [] [] rounds tail) (record {
        links = ap are_distinct (quota-names place quota links) ∙ names.links;
        callers = names.callers;
        requests = names.requests;
      });
      there = refl;
      range = keep.range;
      few = few-from (parts_with version (add_quota place quota links) groups [] [] rounds tail) (record { links = omega (arith, few.links, quota-length place quota links); callers = few.callers; requests = few.requests });
      joined = refl;
      unclosed = refl;
      load = keep.load;
      pours = refl;
      moves = refl;
      groups = groups-with-quota version groups links place quota rounds tail may keep.groups;
      planned = record {
        links = λ n e found. elim (quota-at place quota links n e found) [
          | inl old ↦ keep.planned.links n e old
          | inr new ↦ ap (λ (x : LinkEntry). link_number x.shape.link) (sym new.is) ∙ keep.planned.links place new.before new.at ∙ sym new.here
        ];
        requests = λ n e found. cc;
        openings = refl;
        hops = λ n e found. cc;
        unused = λ n e found. elim (quota-at place quota links n e found) [
          | inl old ↦ keep.planned.unused n e old
          | inr new ↦ subst (λ (x : LinkEntry). All (LeavesUnused x.shape.bounds) x.quotas) new.is (one-unused new.before new.at)
        ];
      };
      terms = tt;
    } where
      -- the quotas of the link, and this one
      one-unused : (link : LinkEntry) → slice_get links place ≡ Some link → All (LeavesUnused link.shape.bounds) (link.quotas ++ quota ∷ [])
      one-unused link at = All-append (LeavesUnused link.shape.bounds) link.quotas (quota ∷ []) (keep.planned.unused place link at)
          (λ k d inside. only k d inside (subst (λ (e : LinkEntry). LeavesUnused e.shape.bounds quota) (same_Some may.link link (sym may.linked ∙ at)) may.unused)) where
            only : (k : ℕ) (d : Quota) → k < 1 → LeavesUnused link.shape.bounds quota → LeavesUnused link.shape.bounds (get_or (quota ∷ []) k d)
            only zero d inside unused = unused
            only (suc k) d inside unused = absurd (omega (arith, inside))

pub quota-keeps : (parts : PlanParts) (place : ℕ) (quota : Quota) → KeepSoFar parts → MayAddQuota parts place quota → KeepSoFar (with_quota place quota parts)
quota-keeps parts place quota keep may = by parts.callers parts.requests (sym may.first) (no-request parts keep.planned may.first) keep may where
  by : (callers : List CallerEntry) (requests : List RequestEntry) → [] ≡ callers → [] ≡ requests
      → KeepSoFar (parts_with parts.version parts.links parts.groups requests callers parts.rounds parts.tail) → MayAddQuota (parts_with parts.version parts.links parts.groups requests callers parts.rounds parts.tail) place quota
      → KeepSoFar (parts_with parts.version (add_quota place quota parts.links) parts.groups requests callers parts.rounds parts.tail)
  by [] [] nobody nothing = quota-grown parts.version parts.links parts.groups place quota parts.rounds parts.tail
  by (caller ∷ callers) requests nobody nothing = cc
  by [] (request ∷ requests) nobody nothing = cc
