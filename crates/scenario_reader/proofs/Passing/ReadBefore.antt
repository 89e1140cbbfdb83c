-- What was read before a line that may stand.
use Rattle.std.proofs.Common.{◌≡◌, ◌≤◌, true, not, nat_eq, List, [], ◌∷◌, length, Option, Some, None, is_some, sym, ◌∙◌, arith, ◌&&◌, is_none, ap, subst}
use Rattle.std.proofs.lemmas.Bool.{true≢false, and_parts}
use Rattle.call_script.specs.declared.version.Version.{Version}
use Rattle.scenario_reader.specs.Drafts.{Said}
use Rattle.std.specs.Prelude.{unwrap_or}
use Rattle.call_script.specs.Versions.{has_groups}
use Rattle.call_script.specs.declared.version.Version.TheVariants.{One}
use Rattle.scenario_reader.specs.line.Table.{is_before_callers}
use Rattle.scenario_reader.specs.line.Before.{HasALink}
use Rattle.scenario_reader.proofs.Passing.PassingLines.{no-items, not-said}
use Rattle.scenario_reader.specs.Kept.{IsDraft}

-- a version that was said is there
pub headed-is : (said : Said) (version : Version) → said.version ≡ Some version → said.version ≡ None → ⊥
headed-is said version v none = let e : ◌≡◌ {A = Option Version} (Some version) None = sym v ∙ none in cc

-- a list that is longer than 0 isn't empty
pub some-items : {X : Type 0} (xs : List X) → not (nat_eq (length xs) 0) ≡ true → xs ≡ [] → ⊥
some-items [] e n = true≢false (sym e)
some-items (x ∷ xs) e n = cc

pub longer-than-none : {X : Type 0} (xs : List X) → not (nat_eq (length xs) 0) ≡ true → 1 ≤ length xs
longer-than-none [] e = absurd (true≢false (sym e))
longer-than-none (x ∷ xs) e = omega arith

pub is_some-said : {X : Type 0} (o : Option X) → is_some o ≡ true → o ≡ None → ⊥
is_some-said None e n = true≢false (sym e)
is_some-said (Some x) e n = cc

-- what stands before the callers
pub record StandsBefore (said : Said) : Type 0 where
  pub before : HasALink said
  pub nobody : said.callers ≡ []

pub stands-before : (version : Version) (said : Said) → said.version ≡ Some version → is_before_callers said ≡ true → StandsBefore said
stands-before version said v stands =
    let may = and_parts (not (nat_eq (length said.links) 0) && nat_eq (length said.callers) 0) (is_none said.rounds) stands in
    let first = and_parts (not (nat_eq (length said.links) 0)) (nat_eq (length said.callers) 0) may.0 in
    record {
      before = record { before = record { headed = headed-is said version v; unrounded = not-said said.rounds may.1 }; linked = some-items said.links first.0 };
      nobody = no-items said.callers first.1;
    }

-- the version that was said has groups
pub said-groups : (version : Version) (said : Said) → said.version ≡ Some version → has_groups version ≡ true → has_groups (unwrap_or said.version One) ≡ true
said-groups version said v has = subst (λ (w : Version). has_groups w ≡ true) (sym (ap (λ o. unwrap_or o One) v)) has

-- after a caller stands a link
pub linked-by : (version : Version) (said : Said) → IsDraft said → said.version ≡ Some version → not (nat_eq (length said.callers) 0) ≡ true → is_none said.rounds ≡ true → HasALink said
linked-by version said draft v some none = record {
  before = record { headed = headed-is said version v; unrounded = not-said said.rounds none };
  linked = λ no. some-items said.callers some (draft.unlinked_callers no);
}
