-- The ticks of a stream's packets are as far apart as the contract that the stream is given.
use Rattle.std.proofs.Common.{◌≡◌, ℕ, ◌+◌, ◌-◌, ◌*◌, ◌/◌, ◌<◌, ◌≤◌, Bool, true, false, if◌then◌else◌, List, length, get_or, min, sym, ap, ◌∙◌, subst, arith}
use Rattle.std.proofs.lemmas.List.{get_or-map, length-map}
use Rattle.std.proofs.Math.Nat.{add-mul, mul-le-mul_right, mul_assoc, mul_comm, div-mul-le_self, div-le_self, mul-div_cancel, one-le-mul}
use Rattle.net_units.specs.Quotient.{ceil_quotient}
use Rattle.traffic_contract.specs.Contract.{IsContract, terms_of}
use Rattle.traffic_contract.specs.Keeping.{Spaced, Keeps}
use Rattle.field_units.specs.declared.stream.Stream.{Stream}
use Rattle.field_units.specs.Moments.{IsPlanned, IsReleased, tick_of, ticks_of}
use Rattle.net_units.specs.Limits.{most_gap}
use Rattle.field_units.specs.Rounding.{gap_in, mean_in, most_mean, traffic_of}
use Rattle.field_units.proofs.RoundedTicks.{ceil_quotient-apart}

-- moments that are planned a time apart and released up to the jitter later come to ticks that are n apart, where n ticks fit into
-- what the jitter leaves of that time
released-apart : (tick parts time n gap : ℕ) (stream : Stream) (planned released : List ℕ) → 1 ≤ tick → 1 ≤ parts → stream.jitter.picoseconds ≤ time → n * tick ≤ time - stream.jitter.picoseconds
    → Spaced gap (time * parts) planned → IsReleased stream parts planned released → Spaced gap n (ticks_of (tick * parts) released)
released-apart tick parts time n gap stream planned released some any longer fits apart release = record {
  apart = λ i h.
      let as_long : length (ticks_of (tick * parts) released) ≡ length released = length-map released (tick_of (tick * parts)) in
      let before : i + gap < length planned = omega (arith, h, as_long, release.all) in
      let kept : get_or planned i 0 + time * parts ≤ get_or planned (i + gap) 0 = apart.apart i before in
      let late : get_or released i 0 ≤ get_or planned i 0 + stream.jitter.picoseconds * parts = release.late i (omega (arith, before)) in
      let early : get_or planned (i + gap) 0 ≤ get_or released (i + gap) 0 = release.early (i + gap) before in
      let left : time * parts ≡ (time - stream.jitter.picoseconds) * parts + stream.jitter.picoseconds * parts =
      ap (λ k. k * parts) (omega (arith, longer)) ∙ add-mul (time - stream.jitter.picoseconds) stream.jitter.picoseconds parts in
      let within : n * (tick * parts) ≤ (time - stream.jitter.picoseconds) * parts =
      (let e : n * tick * parts ≡ n * (tick * parts) = mul_assoc n tick parts in omega (arith, e, mul-le-mul_right {m = n * tick} {n = time - stream.jitter.picoseconds} parts fits)) in
      let far : tick_of (tick * parts) (get_or released i 0) + n ≤ tick_of (tick * parts) (get_or released (i + gap) 0) =
      ceil_quotient-apart (get_or released i 0) (get_or released (i + gap) 0) (tick * parts) n (one-le-mul some any) (omega (arith, kept, late, early, left, within)) in
      let first : get_or (ticks_of (tick * parts) released) i 0 ≡ tick_of (tick * parts) (get_or released i 0) =
      get_or-map (tick_of (tick * parts)) released i 0 0 (omega (arith, before, release.all)) in
      let second : get_or (ticks_of (tick * parts) released) (i + gap) 0 ≡ tick_of (tick * parts) (get_or released (i + gap) 0) =
      get_or-map (tick_of (tick * parts)) released (i + gap) 0 0 (omega (arith, before, release.all)) in
      omega (arith, far, first, second);
}

-- where what the jitter leaves of a time has a whole tick, the jitter is shorter than the time
jitter-shorter : (time jitter tick : ℕ) → 1 ≤ (time - jitter) / tick → jitter ≤ time
jitter-shorter time jitter tick whole = omega (arith, whole, div-le_self (time - jitter) tick)

-- neighbours are a gap apart
neighbours-apart : (tick parts : ℕ) (stream : Stream) (planned released : List ℕ) → 1 ≤ tick → 1 ≤ parts → 1 ≤ gap_in tick stream
    → IsPlanned stream parts planned → IsReleased stream parts planned released → Spaced 1 (gap_in tick stream) (ticks_of (tick * parts) released)
unfolding gap_in
neighbours-apart tick parts stream planned released some any whole plan release =
    let ticks = (stream.apart.picoseconds - stream.jitter.picoseconds) / tick in
    released-apart tick parts stream.apart.picoseconds (min most_gap ticks) 1 stream planned released some any
    (jitter-shorter stream.apart.picoseconds stream.jitter.picoseconds tick (omega (arith, whole)))
    (omega (arith, mul-le-mul_right {m = min most_gap ticks} {n = ticks} tick (omega arith), div-mul-le_self (stream.apart.picoseconds - stream.jitter.picoseconds) tick)) plan.neighbours release

-- and packets that are a window's number apart are as many mean gaps apart
bursts-apart : (tick parts : ℕ) (stream : Stream) (planned released : List ℕ) → 1 ≤ tick → 1 ≤ parts → 1 ≤ mean_in tick stream
    → IsPlanned stream parts planned → IsReleased stream parts planned released → Spaced stream.packets (stream.packets * mean_in tick stream) (ticks_of (tick * parts) released)
unfolding mean_in
bursts-apart tick parts stream planned released some any whole plan release =
    let ticks = (stream.window.picoseconds - stream.jitter.picoseconds) / tick in
    let mean = min (most_mean stream.packets) (ticks / stream.packets) in
    let shared : stream.packets * mean ≤ ticks =
    omega (arith, mul_comm stream.packets mean, mul-le-mul_right {m = mean} {n = ticks / stream.packets} stream.packets (omega arith), div-mul-le_self ticks stream.packets) in
    released-apart tick parts stream.window.picoseconds (stream.packets * mean) stream.packets stream planned released some any
    (jitter-shorter stream.window.picoseconds stream.jitter.picoseconds tick (omega (arith, whole, div-le_self ticks stream.packets)))
    (omega (arith, mul-le-mul_right {m = stream.packets * mean} {n = ticks} tick shared, div-mul-le_self (stream.window.picoseconds - stream.jitter.picoseconds) tick))
    plan.bursts release

-- the contract with a mean gap, and the one of the gap alone
choice-keeps : (tick parts size : ℕ) (stream : Stream) (planned released : List ℕ) (b : Bool) → 1 ≤ tick → 1 ≤ parts
    → IsPlanned stream parts planned → IsReleased stream parts planned released
    → IsContract (if b then terms_of (gap_in tick stream) (mean_in tick stream) (stream.packets * mean_in tick stream) size
    else terms_of (gap_in tick stream) (gap_in tick stream) (gap_in tick stream) size)
    → Keeps (if b then terms_of (gap_in tick stream) (mean_in tick stream) (stream.packets * mean_in tick stream) size
    else terms_of (gap_in tick stream) (gap_in tick stream) (gap_in tick stream) size) (ticks_of (tick * parts) released)
choice-keeps tick parts size stream planned released true some any plan release contract =
    let whole : 1 ≤ mean_in tick stream = omega (arith, contract.xmin_least, contract.xave_least) in
    let burst : stream.packets * mean_in tick stream / mean_in tick stream ≡ stream.packets = mul-div_cancel stream.packets whole in
    record {
      neighbours = neighbours-apart tick parts stream planned released some any contract.xmin_least plan release;
      bursts = subst (λ k. Spaced k (stream.packets * mean_in tick stream) (ticks_of (tick * parts) released)) (sym burst)
          (bursts-apart tick parts stream planned released some any whole plan release);
    }
choice-keeps tick parts size stream planned released false some any plan release contract =
    let apart = neighbours-apart tick parts stream planned released some any contract.xmin_least plan release in
    let one : gap_in tick stream / gap_in tick stream ≡ 1 =
    ap (λ k. k / gap_in tick stream) (omega arith) ∙ mul-div_cancel 1 {n = gap_in tick stream} contract.xmin_least in
    record {
      neighbours = apart;
      bursts = subst (λ k. Spaced k (gap_in tick stream) (ticks_of (tick * parts) released)) (sym one) apart;
    }

-- the ticks of a stream's packets keep its contract
pub stream-keeps : (tick unit parts : ℕ) (stream : Stream) (planned released : List ℕ) → 1 ≤ tick → 1 ≤ parts
    → IsContract (traffic_of tick unit stream) → IsPlanned stream parts planned → IsReleased stream parts planned released
    → Keeps (traffic_of tick unit stream) (ticks_of (tick * parts) released)
unfolding traffic_of
stream-keeps tick unit parts stream planned released some any contract plan release =
    choice-keeps tick parts (ceil_quotient stream.size.bits unit) stream planned released _ some any plan release contract
