-- What is drawn is within its limits.
use Rattle.std.proofs.Common.{◌≡◌, ℕ, zero, suc, ◌+◌, ◌*◌, ◌-◌, ◌<◌, ◌≤◌, true, nat_le, ◌&&◌, refl, sym, ap, ◌∙◌, lit≤, arith}
use Rattle.std.proofs.Math.Nat.{mod-lt}
use Rattle.std.proofs.lemmas.Bool.{and_from, le-leb}
use Rattle.std.specs.Prelude.{◌%◌}
use Rattle.net_units.specs.Limits.{is_within}
use Rattle.call_script.specs.Rules.{control_in_range, packets_in_range}
use Rattle.traffic_contract.specs.Contract.{IsContract}
use Rattle.load_maker.specs.Draws.{next_state, state_after, draw}
use Rattle.load_maker.specs.Loads.{contract_drawn, control_of, hops_from, load_from}

-- draws after draws
pub after-both : (n m x : ℕ) → state_after (n + m) x ≡ state_after n (state_after m x)
unfolding state_after
after-both zero m x = ap (λ k. state_after k x) (let same : 0 + m ≡ m = omega arith in same)
after-both (suc n) m x =
    let one : suc n + m ≡ suc (n + m) = omega arith in
    ap (λ k. state_after k x) one ∙ ap next_state (after-both n m x)

-- the draws of one request more
pub after-six : (n x : ℕ) → state_after 6 (state_after (6 * n) x) ≡ state_after (6 * (n + 1)) x
after-six n x = (let same : 6 + 6 * n ≡ 6 * (n + 1) = omega arith in sym (after-both 6 (6 * n) x) ∙ ap (λ k. state_after k x) same)

in-range : (low high n : ℕ) → low ≤ n → n ≤ high → is_within low high n ≡ true
in-range low high n least most = and_from (nat_le low n) (nat_le n high) (le-leb low n least) (le-leb n high most)

pub is-contract : (n : ℕ) → IsContract (contract_drawn n)
is-contract zero = record { xmin_least = lit≤ tt; xave_least = lit≤ tt; xave_most = lit≤ tt; interval_least = lit≤ tt; interval_most = lit≤ tt; burst_most = lit≤ tt; smax_least = lit≤ tt; smax_most = lit≤ tt }
is-contract (suc zero) = record { xmin_least = lit≤ tt; xave_least = lit≤ tt; xave_most = lit≤ tt; interval_least = lit≤ tt; interval_most = lit≤ tt; burst_most = lit≤ tt; smax_least = lit≤ tt; smax_most = lit≤ tt }
is-contract (suc (suc zero)) = record { xmin_least = lit≤ tt; xave_least = lit≤ tt; xave_most = lit≤ tt; interval_least = lit≤ tt; interval_most = lit≤ tt; burst_most = lit≤ tt; smax_least = lit≤ tt; smax_most = lit≤ tt }
is-contract (suc (suc (suc n))) = record { xmin_least = lit≤ tt; xave_least = lit≤ tt; xave_most = lit≤ tt; interval_least = lit≤ tt; interval_most = lit≤ tt; burst_most = lit≤ tt; smax_least = lit≤ tt; smax_most = lit≤ tt }

control-in-range : (n : ℕ) → control_in_range (control_of n) ≡ true
control-in-range zero = refl
control-in-range (suc n) = refl

pub record Fits (x : ℕ) : Type 0 where
  pub some : 1 ≤ (load_from x).hops
  pub few : (load_from x).hops ≤ 4
  pub within : (load_from x).first + (load_from x).hops ≤ 4
  pub contract : IsContract (load_from x).contract
  pub count : (load_from x).count ≤ 16
  pub delay : is_within 1 67108864 (load_from x).delay ≡ true
  pub control : control_in_range (load_from x).control ≡ true
  pub packets : packets_in_range (load_from x).count (load_from x).contract.xave (load_from x).contract.smax ≡ true

delay-within : (hops extra : ℕ) → 1 ≤ hops → hops ≤ 4 → extra < 4 → is_within 1 67108864 (105 * hops + 400 * extra) ≡ true
delay-within hops extra some few small = in-range 1 67108864 (105 * hops + 400 * extra) (omega (arith, some)) (omega (arith, few, small))

pub load-fits : (x : ℕ) → Fits x
load-fits x =
    let hops = mod-lt (draw 1 x) (let some : 0 < 4 = omega arith in some) in
    let few : hops_from x ≤ 4 = omega (arith, hops) in
    let first = mod-lt (draw 2 x) (let some : 0 < 5 - hops_from x = omega (arith, few) in some) in
    let kind = is-contract (draw 3 x % 4) in
    let extra = mod-lt (draw 4 x) (let some : 0 < 4 = omega arith in some) in
    let count = mod-lt (draw 6 x) (let some : 0 < 16 = omega arith in some) in
    let at_most : (load_from x).count ≤ 16 = omega (arith, count) in
    record {
      some = omega arith;
      few = few;
      within = omega (arith, first, few);
      contract = kind;
      count = at_most;
      delay = delay-within (hops_from x) (draw 4 x % 4) (omega arith) few extra;
      control = control-in-range (draw 5 x % 2);
      packets =
          and_from (is_within 1 262144 (load_from x).count && is_within 1 1048576 (load_from x).contract.xave) (is_within 1 65536 (load_from x).contract.smax)
          (and_from (is_within 1 262144 (load_from x).count) (is_within 1 1048576 (load_from x).contract.xave) (in-range 1 262144 (load_from x).count (omega arith) (omega (arith, at_most)))
          (in-range 1 1048576 (load_from x).contract.xave (omega (arith, kind.xmin_least, kind.xave_least)) kind.xave_most))
          (in-range 1 65536 (load_from x).contract.smax kind.smax_least kind.smax_most);
    }
