-- What is judged of a line, the other way round: names, numbers and conditions that are so pass their rules.
use Rattle.std.proofs.Common.{◌≡◌, ℕ, Bool, true, false, not, ◌&&◌, nat_le, List, [], ◌∷◌, length, Option, Some, None, Ok, codes, refl}
use Rattle.std.proofs.lemmas.Bool.{and_parts, or_parts, not-true}
use Rattle.std.specs.Cmp.Lexicographic.{pointwise}
use Rattle.std.specs.Prelude.{nat_eq}
use Rattle.net_units.specs.Text.{begins_as_name, is_kept_word, is_name}
use Rattle.scenario_reader.specs.Causes.{Rule, unless, first_cause, judged, stated}
use Rattle.scenario_reader.specs.declared.cause.LineCause.{LineCause}
use Rattle.scenario_reader.proofs.Passing.PassingLines.{RulesPass}

-- rules that pass each pass together
pub pass-all : (rules : List Rule) → RulesPass rules → first_cause rules ≡ None
pass-all [] p = refl
pass-all (rule ∷ rules) p = rw p.0 (pass-all rules p.1)

pub unless-holds : (holds : Bool) (c : LineCause) → holds ≡ true → unless holds c ≡ None
unless-holds holds c e = rw e refl

-- a name is neither of the two words of the grammar
pub name-no-word : (name : List ℕ) → is_name name ≡ true → (pointwise nat_eq name (codes "contract") ≡ false) × (pointwise nat_eq name (codes "plane") ≡ false)
name-no-word name e =
    let kept = not-true (is_kept_word name) (and_parts (begins_as_name name && nat_le (length name) 16) (not (is_kept_word name)) e).1 in
    or_parts (pointwise nat_eq name (codes "contract")) (pointwise nat_eq name (codes "plane")) kept

-- what passes its rule is said
pub judged-back : {X : Type 0} (rule : Rule) (x : X) → rule ≡ None → judged rule x ≡ Ok x
judged-back rule x e = rw e refl

pub stated-back : {X : Type 0} (rule : Rule) (said : Option X) (x : X) → rule ≡ None → said ≡ Some x → stated rule said ≡ Ok x
stated-back rule said x e is = rw (e, is) refl
