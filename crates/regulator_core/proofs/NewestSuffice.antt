-- A regulator stands for every list of ticks whose newest are the ones that it keeps: its answer is the eligible
-- tick after each of them, and with the answer it stands for the longer list.
use Rattle.std.proofs.Common.{◌≡◌, ℕ, ◌≤◌, List, [], ◌∷◌, ◌++◌, length, take, drop, sym, ap, ◌∙◌, subst, arith}
use Rattle.std.proofs.lemmas.List.{reverse-append, length-take, take_all, take-append-drop}
use Rattle.std.specs.Prelude.{reverse}
use Rattle.traffic_contract.specs.Contract.{IsContract, burst_of}
use Rattle.traffic_contract.specs.Keeping.{Keeps}
use Rattle.traffic_contract.specs.Eligible.{IsEligible, eligible, newest_burst}
use Rattle.traffic_contract.proofs.BurstIsPositive.{burst-least}
use Rattle.traffic_contract.proofs.LeastEligibleTick.{eligible-is, eligible-take, take-cons-take}
use Rattle.traffic_contract.proofs.PartsKeepContract.{Keeps-suffix}
use Rattle.regulator_core.specs.Kept.{KeptTicks, RegulatorStandsFor, regulator_with}

-- what it computes from the kept ticks is the eligible tick after the whole list
pub eligible-stands : (kept : KeptTicks) (past : List ℕ) (low : ℕ) → IsContract kept.contract → RegulatorStandsFor kept past → eligible kept.contract kept.recent low ≡ eligible kept.contract past low
eligible-stands kept past low valid stands =
    ap (λ ticks. eligible kept.contract ticks low) (sym stands.latest) ∙ eligible-take kept.contract past low (burst-least kept.contract valid)

pub IsEligible-stands : (kept : KeptTicks) (past : List ℕ) (low : ℕ) → IsContract kept.contract → RegulatorStandsFor kept past → IsEligible kept.contract (reverse past) low (eligible kept.contract kept.recent low)
IsEligible-stands kept past low valid stands =
    subst (IsEligible kept.contract (reverse past) low) (sym (eligible-stands kept past low valid stands))
    (eligible-is kept.contract past low valid (burst-least kept.contract valid) stands.keeps)

-- with its answer it stands for the longer list
pub StandsFor-answered : (kept : KeptTicks) (past : List ℕ) (low e : ℕ) → RegulatorStandsFor kept past → IsEligible kept.contract (reverse past) low e → RegulatorStandsFor (regulator_with kept e) (e ∷ past)
StandsFor-answered kept past low e stands is = record {
  keeps = subst (Keeps kept.contract) (sym (reverse-append (e ∷ []) past)) is.holds;
  latest = sym (take-cons-take (burst_of kept.contract) e past) ∙ ap (λ ticks. newest_burst kept.contract (e ∷ ticks)) stands.latest;
}

-- and what it stands for, it stands for by its newest ticks alone
pub StandsFor-own : (kept : KeptTicks) (past : List ℕ) → RegulatorStandsFor kept past → RegulatorStandsFor kept kept.recent
StandsFor-own kept past stands =
    let parts : reverse (drop (burst_of kept.contract) past) ++ reverse (take (burst_of kept.contract) past) ≡ reverse past = sym (reverse-append (take (burst_of kept.contract) past) (drop (burst_of kept.contract) past)) ∙ ap reverse (take-append-drop (burst_of kept.contract) past) in
    let newest_keep : Keeps kept.contract (reverse (take (burst_of kept.contract) past)) = Keeps-suffix kept.contract (reverse (drop (burst_of kept.contract) past)) (reverse (take (burst_of kept.contract) past)) (subst (Keeps kept.contract) (sym parts) stands.keeps) in
    record {
      keeps = subst (λ ticks. Keeps kept.contract (reverse ticks)) stands.latest newest_keep;
      latest = take_all (burst_of kept.contract) kept.recent (subst (λ ticks. length ticks ≤ burst_of kept.contract) stands.latest (omega (arith, length-take (burst_of kept.contract) past)));
    }
