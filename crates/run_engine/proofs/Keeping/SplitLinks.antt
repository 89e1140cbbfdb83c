-- A link of a plan is split as the plan says, and its split fits it.
use Rattle.std.proofs.Common.{◌≡◌, ℕ, Some, None, List, [], ◌∷◌, map, refl, ap, ◌∙◌, option_map}
use Rattle.run_engine.proofs.Words.{same_Some, slice_get-map, slice_get, Link, Split, SplitFits, whole, LinkShape, PlanParts, IsPlan, split_by, split_if, entry_link, groups_in, network_of}
use Rattle.link_steps.proofs.ListParts.{Each-at}
use Rattle.link_steps.specs.declared.quota.Quota.{Quota}
use Rattle.call_script.proofs.PlansFit.{plan-fits}
use Rattle.call_script.specs.declared.entries.LinkEntry.{LinkEntry}

-- a link of this shape with this split
abbrev with_split : LinkShape → Split → Link
with_split shape split = record { shape = shape; split = split }

-- without quotas it is whole
pub unsplit : (groups : List ℕ) (entry : LinkEntry) → None ≡ split_if groups entry.quotas → whole entry.shape ≡ entry_link groups entry
unsplit groups entry none = by entry.quotas none where
  by : (quotas : List Quota) → None ≡ split_if groups quotas → whole entry.shape ≡ with_split entry.shape (split_by groups quotas)
  by [] none = refl
  by (quota ∷ quotas) none = cc

-- and with quotas it is split by them
pub split-so : (groups : List ℕ) (entry : LinkEntry) (split : Split) → Some split ≡ split_if groups entry.quotas → with_split entry.shape split ≡ entry_link groups entry
split-so groups entry split is = by entry.quotas is where
  by : (quotas : List Quota) → Some split ≡ split_if groups quotas → with_split entry.shape split ≡ with_split entry.shape (split_by groups quotas)
  by [] is = cc
  by (quota ∷ quotas) is = ap (with_split entry.shape) (same_Some split (split_by groups (quota ∷ quotas)) is)

-- a link of a plan has a split that fits it
pub entry-split-fits : (parts : PlanParts) (n : ℕ) (entry : LinkEntry) → IsPlan parts → slice_get parts.links n ≡ Some entry → SplitFits (entry_link (groups_in parts) entry)
unfolding network_of
entry-split-fits parts n entry plan found =
    Each-at SplitFits (map (entry_link (groups_in parts)) parts.links) n (entry_link (groups_in parts) entry) (plan-fits parts plan).splits
    (slice_get-map (entry_link (groups_in parts)) parts.links n ∙ ap (option_map (entry_link (groups_in parts))) found)
