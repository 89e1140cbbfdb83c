-- The least rule that the parts of a plan break, by the number of its cause. The rules are those of `Rules`, and those of `Groups` on
-- groups and quotas.
use Rattle.std.specs.Prelude.{ℕ, Bool, if◌then◌else◌, Option, Some, None}
use Rattle.call_script.specs.Groups.{groups_have_version, groups_have_names, groups_are_there, quotas_are_in_range, groups_are_few, quotas_are_fit}
use Rattle.call_script.specs.Parts.{PlanParts}
use Rattle.call_script.specs.Rules.{have_version, have_links, have_names, are_there, are_in_range, are_few, are_joined, are_unclosed, are_within_load, pours_are_taken, moves_are_fit}

-- a rule that isn't kept, or else those after it
abbrev pub unless_broken : Bool → ℕ → Option ℕ → Option ℕ
unless_broken kept rule other = if kept then other else Some rule

-- the rules on how the scripts use the channels and load the links, on what the quotas come to, and on moves
unfoldable pub use_rule_broken : PlanParts → Option ℕ
use_rule_broken parts =
    unless_broken (are_unclosed parts) 13 (unless_broken (are_within_load parts) 14 (unless_broken (pours_are_taken parts) 19 (unless_broken (quotas_are_fit parts) 23 (unless_broken (moves_are_fit parts) 24 None))))

-- those on ranges and on how many there are, and those after them
unfoldable pub range_rule_broken : PlanParts → Option ℕ
range_rule_broken parts =
    unless_broken (are_in_range parts) 8 (unless_broken (quotas_are_in_range parts) 8 (unless_broken (are_few parts) 9 (unless_broken (groups_are_few parts) 9 (unless_broken (are_joined parts) 12 (use_rule_broken parts)))))

-- those on names and on what is there, and those after them
unfoldable pub name_rule_broken : PlanParts → Option ℕ
name_rule_broken parts =
    unless_broken (have_names parts) 6 (unless_broken (groups_have_names parts) 6 (unless_broken (are_there parts) 7 (unless_broken (groups_are_there parts) 7 (range_rule_broken parts))))

-- all rules
unfoldable pub rule_broken : PlanParts → Option ℕ
rule_broken parts = unless_broken (have_version parts) 1 (unless_broken (groups_have_version parts) 1 (unless_broken (have_links parts) 2 (name_rule_broken parts)))
