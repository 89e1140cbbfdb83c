-- The rules on groups and quotas in their parts, and how they stay as the parts of a plan grow.
use Rattle.std.proofs.Common.{◌≡◌, ℕ, zero, suc, ◌+◌, ◌-◌, ◌<◌, ◌≤◌, Bool, true, false, List, [], ◌∷◌, ◌++◌, length, get_or, refl, sym, ap, ◌∙◌, subst, arith}
use Rattle.std.proofs.lemmas.Bool.{and_from, and_parts, le-leb, leb-true}
use Rattle.std.specs.List.{All, list_all}
use Rattle.std.specs.Prelude.{◌&&◌, nat_le}
use Rattle.net_units.specs.LevelBounds.{bound_at}
use Rattle.link_steps.proofs.LegalAdmissible.{whole-fits}
use Rattle.link_steps.specs.Room.{all_from}
use Rattle.link_steps.specs.Shape.{blocking_of}
use Rattle.link_steps.specs.declared.shape.LinkShape.{LinkShape}
use Rattle.link_steps.proofs.TestsInTurn.{all_from-by}
use Rattle.call_script.specs.Groups.{are_of_version, quotas_have_version, group_has_version, groups_have_version, have_own_groups, groups_have_names, quota_is_there, group_is_there, groups_are_there, quota_in_range, quotas_are_in_range, groups_are_few, level_fits, quotas_fit, quotas_are_fit, KeepGroups}
use Rattle.call_script.specs.Growing.{add_op, new_caller}
use Rattle.call_script.specs.Parts.{PlanParts, LeavesUnused}
use Rattle.call_script.specs.Rules.{each_after, are_distinct}
use Rattle.call_script.specs.declared.entries.CallerEntry.{CallerEntry}
use Rattle.call_script.specs.declared.entries.LinkEntry.{LinkEntry}
use Rattle.call_script.specs.declared.operations.Op.{Op}
use Rattle.call_script.specs.declared.version.Version.{Version}
use Rattle.call_script.proofs.OneMoreOperation.{all-more}

-- ---- the rules in their parts

pub record PassGroups (parts : PlanParts) : Type 0 where
  pub version : groups_have_version parts ≡ true
  pub names : groups_have_names parts ≡ true
  pub there : groups_are_there parts ≡ true
  pub range : quotas_are_in_range parts ≡ true
  pub few : groups_are_few parts ≡ true
  pub fit : quotas_are_fit parts ≡ true

pub groups-in : (parts : PlanParts) → PassGroups parts → KeepGroups parts.version parts.groups parts.links parts.callers
unfolding groups_have_version groups_have_names groups_are_there quotas_are_in_range groups_are_few quotas_are_fit
groups-in parts pass =
    let versions = and_parts (are_of_version parts.version parts.groups && list_all (quotas_have_version parts.version) parts.links) (list_all (λ (caller : CallerEntry). group_has_version parts.version caller.group) parts.callers) pass.version in
    let first = and_parts (are_of_version parts.version parts.groups) (list_all (quotas_have_version parts.version) parts.links) versions.0 in
    let names = and_parts (are_distinct parts.groups) (list_all (λ (entry : LinkEntry). have_own_groups entry.quotas) parts.links) pass.names in
    let there = and_parts (list_all (λ (entry : LinkEntry). list_all (quota_is_there parts.groups) entry.quotas) parts.links) (list_all (λ (caller : CallerEntry). group_is_there parts.groups caller.group) parts.callers) pass.there in
    record {
      version_groups = first.0;
      version_links = first.1;
      version_callers = versions.1;
      named = names.0;
      own = names.1;
      quotas_there = there.0;
      callers_there = there.1;
      range = pass.range;
      few = leb-true (length parts.groups) 4 pass.few;
      fit = pass.fit;
    }

pub groups-from : (parts : PlanParts) → KeepGroups parts.version parts.groups parts.links parts.callers → PassGroups parts
unfolding groups_have_version groups_have_names groups_are_there quotas_are_in_range groups_are_few quotas_are_fit
groups-from parts keep = record {
  version = and_from (are_of_version parts.version parts.groups && list_all (quotas_have_version parts.version) parts.links) (list_all (λ (caller : CallerEntry). group_has_version parts.version caller.group) parts.callers)
      (and_from (are_of_version parts.version parts.groups) (list_all (quotas_have_version parts.version) parts.links) keep.version_groups keep.version_links) keep.version_callers;
  names = and_from (are_distinct parts.groups) (list_all (λ (entry : LinkEntry). have_own_groups entry.quotas) parts.links) keep.named keep.own;
  there = and_from (list_all (λ (entry : LinkEntry). list_all (quota_is_there parts.groups) entry.quotas) parts.links) (list_all (λ (caller : CallerEntry). group_is_there parts.groups caller.group) parts.callers) keep.quotas_there keep.callers_there;
  range = keep.range;
  few = le-leb (length parts.groups) 4 keep.few;
  fit = keep.fit;
}

-- ---- elements at places

-- the element at a place doesn't depend on what stands for none
pub get-here : {X : Type 0} (xs : List X) (i : ℕ) (d e : X) → i < length xs → get_or xs i d ≡ get_or xs i e
get-here [] i d e inside = absurd (omega (arith, inside))
get-here (x ∷ xs) zero d e inside = refl
get-here (x ∷ xs) (suc i) d e inside = get-here xs i d e (omega (arith, inside))

-- ---- levels one after another

-- where the level at hand passes those that are left decide, and where it doesn't all is decided
next-level : (n i : ℕ) → i < n → n - i ≡ suc (n - (i + 1))
next-level n i within = omega (arith, within)

pub level-skip : (test : ℕ → Bool) (n i : ℕ) → i < n → test (i + 1) ≡ true → all_from test (i + 1) (n - i) ≡ all_from test (i + 1 + 1) (n - (i + 1))
unfolding all_from
level-skip test n i within passes =
    let after : suc (i + 1) ≡ i + 1 + 1 = omega arith in
    ap (all_from test (i + 1)) (next-level n i within) ∙ rw passes (ap (λ m. all_from test m (n - (i + 1))) after)

pub level-stop : (test : ℕ → Bool) (n i : ℕ) → i < n → test (i + 1) ≡ false → all_from test (i + 1) (n - i) ≡ false
unfolding all_from
level-stop test n i within fails = ap (all_from test (i + 1)) (next-level n i within) ∙ rw fails refl

-- no level is left
pub levels-over : (test : ℕ → Bool) (n i : ℕ) → n ≤ i → all_from test (i + 1) (n - i) ≡ true
unfolding all_from
levels-over test n i past = (let none : n - i ≡ 0 = omega (arith, past) in ap (all_from test (i + 1)) none)

-- ---- growth

pub no-groups : (version : Version) → KeepGroups version [] [] []
unfolding each_after
no-groups version = record {
  version_groups = refl;
  version_links = refl;
  version_callers = refl;
  named = refl;
  own = refl;
  quotas_there = refl;
  callers_there = refl;
  range = refl;
  few = omega arith;
  fit = refl;
}

-- no quotas leave all unused
pub none-unused : (entry : LinkEntry) → entry.quotas ≡ [] → All (LeavesUnused entry.shape.bounds) entry.quotas
none-unused entry none = subst (All (LeavesUnused entry.shape.bounds)) (sym none) (λ k d inside. absurd (omega (arith, inside)))

-- no quotas fit any link
none-fit : (shape : LinkShape) → quotas_fit shape [] ≡ true
none-fit shape =
    and_from (all_from (level_fits shape []) 1 (length shape.bounds)) (nat_le 0 shape.buffer)
    (all_from-by (level_fits shape []) 1 (length shape.bounds) (λ k from upto. le-leb (blocking_of shape + 0) (bound_at shape.bounds k) ((whole-fits shape).levels k from (omega (arith, upto)))))
    (le-leb 0 shape.buffer (omega arith))

-- a link without quotas more
pub groups-with-link : (version : Version) (groups : List (List ℕ)) (links : List LinkEntry) (entry : LinkEntry) (callers : List CallerEntry) → entry.quotas ≡ [] → KeepGroups version groups links callers → KeepGroups version groups (links ++ entry ∷ []) callers
unfolding each_after
groups-with-link version groups links entry callers none keep = record {
  version_groups = keep.version_groups;
  version_links = all-more (quotas_have_version version) links entry keep.version_links (rw none refl);
  version_callers = keep.version_callers;
  named = keep.named;
  own = all-more (λ (e : LinkEntry). have_own_groups e.quotas) links entry keep.own (rw none refl);
  quotas_there = all-more (λ (e : LinkEntry). list_all (quota_is_there groups) e.quotas) links entry keep.quotas_there (rw none refl);
  callers_there = keep.callers_there;
  range = all-more (λ (e : LinkEntry). list_all quota_in_range e.quotas) links entry keep.range (rw none refl);
  few = keep.few;
  fit = all-more (λ (e : LinkEntry). quotas_fit e.shape e.quotas) links entry keep.fit (rw none (none-fit entry.shape));
}

-- a caller more
pub groups-with-caller : (version : Version) (groups : List (List ℕ)) (links : List LinkEntry) (callers : List CallerEntry) (name : List ℕ) (group : ℕ) → group_has_version version group ≡ true → group_is_there groups group ≡ true
    → KeepGroups version groups links callers → KeepGroups version groups links (callers ++ new_caller name group ∷ [])
groups-with-caller version groups links callers name group has there keep = record {
  version_groups = keep.version_groups;
  version_links = keep.version_links;
  version_callers = all-more (λ (c : CallerEntry). group_has_version version c.group) callers (new_caller name group) keep.version_callers has;
  named = keep.named;
  own = keep.own;
  quotas_there = keep.quotas_there;
  callers_there = all-more (λ (c : CallerEntry). group_is_there groups c.group) callers (new_caller name group) keep.callers_there there;
  range = keep.range;
  few = keep.few;
  fit = keep.fit;
}

-- an operation more changes no caller's group
added-groups : (test : ℕ → Bool) (op : Op) (callers : List CallerEntry) → list_all (λ (c : CallerEntry). test c.group) (add_op op callers) ≡ list_all (λ (c : CallerEntry). test c.group) callers
added-groups test op [] = refl
added-groups test op (caller ∷ []) = refl
added-groups test op (caller ∷ next ∷ callers) = ap (λ (rest : Bool). test caller.group && rest) (added-groups test op (next ∷ callers))

pub groups-with-op : (version : Version) (groups : List (List ℕ)) (links : List LinkEntry) (callers : List CallerEntry) (op : Op) → KeepGroups version groups links callers → KeepGroups version groups links (add_op op callers)
groups-with-op version groups links callers op keep = record {
  version_groups = keep.version_groups;
  version_links = keep.version_links;
  version_callers = added-groups (group_has_version version) op callers ∙ keep.version_callers;
  named = keep.named;
  own = keep.own;
  quotas_there = keep.quotas_there;
  callers_there = added-groups (group_is_there groups) op callers ∙ keep.callers_there;
  range = keep.range;
  few = keep.few;
  fit = keep.fit;
}
