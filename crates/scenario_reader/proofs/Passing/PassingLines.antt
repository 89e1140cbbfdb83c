-- What holds of a line that its rules let pass.
use Rattle.std.proofs.Common.{◌≡◌, Bool, true, false, ◌&&◌, nat_eq, nat_le, List, [], ◌∷◌, length, Option, Some, None, Ok, is_some, is_none, if◌then◌else◌, option_map, refl}
use Rattle.std.proofs.lemmas.Bool.{leb-true, eqb-true, and_parts}
use Rattle.std.proofs.lemmas.List.{nil_from_length}
use Rattle.std.proofs.lemmas.Option.{same_Some}
use Rattle.traffic_contract.specs.Contract.{Traffic, IsContract, burst_of}
use Rattle.traffic_contract.specs.Refusal.{first_bad, fits_xmin, fits_xave, fits_interval, fits_smax}
use Rattle.traffic_contract.specs.declared.contract.ContractField.{ContractField}
use Rattle.traffic_contract.specs.declared.contract.ContractField.TheVariants.{Xmin, Xave, Interval, Smax}
use Rattle.scenario_reader.specs.Causes.{Rule, unless, or_else, first_cause, judged, stated}
use Rattle.scenario_reader.specs.line.Request.{contract_of}
use Rattle.scenario_reader.specs.declared.cause.LineCause.{LineCause}

-- what is judged Ok passes its rule, and is what was said
pub judged-ok : {X : Type 0} (rule : Rule) (said what : X) → judged rule said ≡ Ok what → (rule ≡ None) × (said ≡ what)
judged-ok None said what e = (refl, cc)
judged-ok (Some c) said what e = cc

-- the same of what may be said
pub stated-ok : {X : Type 0} (rule : Rule) (said : Option X) (what : X) → stated rule said ≡ Ok what → (rule ≡ None) × (said ≡ Some what)
stated-ok None (Some said) what e = (refl, cc)
stated-ok None None what e = cc
stated-ok (Some c) said what e = cc

-- what is made of something that may be there
pub made-some : {X Y : Type 0} (make : X → Y) (o : Option X) (y : Y) → option_map make o ≡ Some y → (x : X) × (o ≡ Some x) × (make x ≡ y)
made-some make None y e = cc
made-some make (Some x) y e = (x, refl, same_Some (make x) y e)

-- a condition that passes holds
pub unless-passes : (holds : Bool) (c : LineCause) → unless holds c ≡ None → holds ≡ true
unless-passes true c e = refl
unless-passes false c e = cc

-- two rules that pass
pub both-pass : (first second : Rule) → or_else first second ≡ None → (first ≡ None) × (second ≡ None)
both-pass None second e = (refl, e)
both-pass (Some c) second e = cc

-- each of the rules passes
abbrev pub RulesPass : List Rule → Type 0
RulesPass [] = Unit {0}
RulesPass (rule ∷ rules) = (rule ≡ None) × RulesPass rules

-- rules that pass together pass each
pub all-pass : (rules : List Rule) → first_cause rules ≡ None → RulesPass rules
all-pass [] e = tt
all-pass (rule ∷ rules) e =
    let p = both-pass rule (first_cause rules) e in
    (p.0, all-pass rules p.1)

-- a list of length 0
pub no-items : {X : Type 0} (xs : List X) → nat_eq (length xs) 0 ≡ true → xs ≡ []
no-items xs e = nil_from_length xs (eqb-true (length xs) 0 e)

-- a choice of none
pub not-said : {X : Type 0} (o : Option X) → is_none o ≡ true → o ≡ None
not-said None e = refl
not-said (Some x) e = cc

-- where no number is refused, this one fits, and none after it is refused
bad-part : (holds : Bool) (rest : Option ContractField) (bad : ContractField) → (if holds then rest else Some bad) ≡ None → (holds ≡ true) × (rest ≡ None)
bad-part true rest bad e = (refl, e)
bad-part false rest bad e = cc

-- terms of which no number is refused are a contract
pub none-bad : (terms : Traffic) → first_bad terms ≡ None → IsContract terms
none-bad terms e =
    let p = bad-part (fits_xmin terms) _ Xmin e in
    let q = bad-part (fits_xave terms) _ Xave p.1 in
    let r = bad-part (fits_interval terms) _ Interval q.1 in
    let s = bad-part (fits_smax terms) None Smax r.1 in
    let xmin = and_parts (nat_le 1 terms.xmin) (nat_le terms.xmin 1048576) p.0 in
    let xave = and_parts (nat_le terms.xmin terms.xave) (nat_le terms.xave 1048576) q.0 in
    let interval = and_parts (nat_le terms.xave terms.interval && nat_le terms.interval 16777216) (nat_le (burst_of terms) 256) r.0 in
    let range = and_parts (nat_le terms.xave terms.interval) (nat_le terms.interval 16777216) interval.0 in
    let smax = and_parts (nat_le 1 terms.smax) (nat_le terms.smax 65536) s.0 in
    record {
      xmin_least = leb-true 1 terms.xmin xmin.0;
      xave_least = leb-true terms.xmin terms.xave xave.0;
      xave_most = leb-true terms.xave 1048576 xave.1;
      interval_least = leb-true terms.xave terms.interval range.0;
      interval_most = leb-true terms.interval 16777216 range.1;
      burst_most = leb-true (burst_of terms) 256 interval.1;
      smax_least = leb-true 1 terms.smax smax.0;
      smax_most = leb-true terms.smax 65536 smax.1;
    }

-- terms that are given passed the test
given-terms : (b : Bool) (terms : Traffic) → is_some (if b then Some terms else None) ≡ true → b ≡ true
given-terms true terms e = refl
given-terms false terms e = cc

-- four numbers that are a contract
pub contract-passes : (terms : Traffic) → is_some (contract_of terms) ≡ true → IsContract terms
contract-passes terms e = none-bad terms (not-said (first_bad terms) (given-terms (is_none (first_bad terms)) terms e))
