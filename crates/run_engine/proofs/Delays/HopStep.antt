-- One hop further on: a packet is eligible there at the latest when it is due.
use Rattle.std.proofs.Common.{◌≡◌, ℕ, ◌+◌, ◌<◌, ◌≤◌, List, [], ◌∷◌, ◌++◌, length, get_or, ap, inl, inr, arith}
use Rattle.run_engine.proofs.Words.{cases_lt, get_or_append_left, get_or_push, length_push, length-append, Jitter, Traffic, burst_of, IsEligible, Keeps, Spaced, IsBehind}
use Rattle.net_units.specs.declared.Kind.{Kind}

spaced-more : (gap least shift : ℕ) (before ticks : List ℕ) → 1 ≤ gap → Spaced gap least before → Spaced gap least ticks → length ticks < length before → IsBehind shift before ticks
    → Spaced gap least (ticks ++ (get_or before (length ticks) 0 + shift) ∷ [])
spaced-more gap least shift before ticks some far near more after = record {
  apart = λ i within.
      let d : ℕ = get_or before (length ticks) 0 + shift in
      let count : length (ticks ++ (get_or before (length ticks) 0 + shift) ∷ []) ≡ length ticks + 1 = length_push ticks (get_or before (length ticks) 0 + shift) in
      let left : get_or (ticks ++ (get_or before (length ticks) 0 + shift) ∷ []) i 0 ≡ get_or ticks i 0 = get_or_append_left ticks ((get_or before (length ticks) 0 + shift) ∷ []) 0 i (omega (arith, within, count)) in
      elim (cases_lt (i + gap) (length ticks)) [
        | inl inside ↦
            (let right : get_or (ticks ++ (get_or before (length ticks) 0 + shift) ∷ []) (i + gap) 0 ≡ get_or ticks (i + gap) 0 = get_or_append_left ticks ((get_or before (length ticks) 0 + shift) ∷ []) 0 (i + gap) inside in
            let h = near.apart i inside in
            omega (arith, left, right, h))
        | inr last ↦
            (let e : length ticks ≡ i + gap = omega (arith, within, count, last) in
            let right : get_or (ticks ++ (get_or before (length ticks) 0 + shift) ∷ []) (i + gap) 0 ≡ get_or before (length ticks) 0 + shift = get_or_push ticks (get_or before (length ticks) 0 + shift) 0 (i + gap) e in
            let h = far.apart i (omega (arith, e, more)) in
            let same : get_or before (length ticks) 0 ≡ get_or before (i + gap) 0 = ap (λ j. get_or before j 0) e in
            let under = after.after i (omega (arith, e, some)) in
            omega (arith, left, right, h, same, under))
      ];
}

-- the due tick is one that keeps the contract, so the eligible tick is no later
pub eligible-after : (c : Traffic) (before ticks : List ℕ) (shift low e : ℕ) → 1 ≤ burst_of c → Keeps c before → Keeps c ticks → length ticks < length before → IsBehind shift before ticks → low ≤ get_or before (length ticks) 0 + shift → IsEligible c ticks low e
    → e ≤ get_or before (length ticks) 0 + shift
eligible-after c before ticks shift low e burst far near more after early is =
    is.least (get_or before (length ticks) 0 + shift) early (record {
      neighbours = spaced-more 1 c.xmin shift before ticks (omega arith) far.neighbours near.neighbours more after;
      bursts = spaced-more (burst_of c) c.interval shift before ticks burst far.bursts near.bursts more after;
    })

-- so one packet more is after too
pub after-more : (shift e : ℕ) (before ticks : List ℕ) → length ticks < length before → IsBehind shift before ticks → e ≤ get_or before (length ticks) 0 + shift → IsBehind shift before (ticks ++ e ∷ [])
after-more shift e before ticks more after under =
    let count = length_push ticks e in
    record {
      fewer = omega (arith, count, more);
      after = λ k within. elim (cases_lt k (length ticks)) [
        | inl inside ↦ (let left = get_or_append_left ticks (e ∷ []) 0 k inside in let h = after.after k inside in omega (arith, left, h))
        | inr last ↦ (let e' : length ticks ≡ k = omega (arith, within, count, last) in let right = get_or_push ticks e 0 k e' in let same : get_or before (length ticks) 0 ≡ get_or before k 0 = ap (λ j. get_or before j 0) e' in omega (arith, right, under, same))
      ];
    }

-- and it stays behind where the hop before takes one more
pub after-longer : (shift e : ℕ) (before ticks : List ℕ) → IsBehind shift before ticks → IsBehind shift (before ++ e ∷ []) ticks
after-longer shift e before ticks after =
    let count = length_push before e in
    record {
      fewer = omega (arith, count, after.fewer);
      after = λ k within. (let fewer = after.fewer in let left = get_or_append_left before (e ∷ []) 0 k (omega (arith, fewer, within)) in let h = after.after k within in omega (arith, left, h));
    }

-- the ticks of a hop against those of the hop before: at most so much behind, for packets that have passed the
-- propagation by now, and under delay-jitter control exactly so much behind
pub record IsTimed (kind : Kind) (shift prop now : ℕ) (before ticks : List ℕ) : Type 0 where
  pub after : IsBehind shift before ticks
  pub passed : (k : ℕ) → k < length ticks → get_or before k 0 + prop < now
  pub paced : kind ≡ Jitter → (k : ℕ) → k < length ticks → get_or before k 0 + shift ≤ get_or ticks k 0

pub timed-none : (kind : Kind) (shift prop now : ℕ) (before : List ℕ) → IsTimed kind shift prop now before []
timed-none kind shift prop now before = record {
  after = record { fewer = omega arith; after = λ k within. absurd (omega (arith, within)) };
  passed = λ k within. absurd (omega (arith, within));
  paced = λ is k within. absurd (omega (arith, within));
}

pub timed-later : (kind : Kind) (shift prop now later : ℕ) (before ticks : List ℕ) → now ≤ later → IsTimed kind shift prop now before ticks → IsTimed kind shift prop later before ticks
timed-later kind shift prop now later before ticks upto timed = record { after = timed.after; passed = λ k within. (let h = timed.passed k within in omega (arith, h, upto)); paced = timed.paced }

pub timed-append : (kind : Kind) (shift prop now : ℕ) (before more ticks : List ℕ) → IsTimed kind shift prop now before ticks → IsTimed kind shift prop now (before ++ more) ticks
timed-append kind shift prop now before more ticks timed =
    let count = length-append before more in
    let fewer = timed.after.fewer in
    record {
      after = record {
        fewer = omega (arith, count, fewer);
        after = λ k within. (let left = get_or_append_left before more 0 k (omega (arith, fewer, within)) in let h = timed.after.after k within in omega (arith, left, h));
      };
      passed = λ k within. (let left = get_or_append_left before more 0 k (omega (arith, fewer, within)) in let h = timed.passed k within in omega (arith, left, h));
      paced = λ is k within. (let left = get_or_append_left before more 0 k (omega (arith, fewer, within)) in let h = timed.paced is k within in omega (arith, left, h));
    }

pub timed-more : (kind : Kind) (shift prop now e : ℕ) (before ticks : List ℕ) → length ticks < length before → IsTimed kind shift prop now before ticks → e ≤ get_or before (length ticks) 0 + shift → get_or before (length ticks) 0 + prop < now → (kind ≡ Jitter → get_or before (length ticks) 0 + shift ≤ e)
    → IsTimed kind shift prop now before (ticks ++ e ∷ [])
timed-more kind shift prop now e before ticks more timed under past exact =
    let count = length_push ticks e in
    record {
      after = after-more shift e before ticks more timed.after under;
      passed = λ k within. elim (cases_lt k (length ticks)) [
        | inl inside ↦ timed.passed k inside
        | inr last ↦ (let e' : length ticks ≡ k = omega (arith, within, count, last) in let same : get_or before (length ticks) 0 ≡ get_or before k 0 = ap (λ j. get_or before j 0) e' in omega (arith, past, same))
      ];
      paced = λ is k within. elim (cases_lt k (length ticks)) [
        | inl inside ↦ (let left = get_or_append_left ticks (e ∷ []) 0 k inside in let h = timed.paced is k inside in omega (arith, left, h))
        | inr last ↦ (let e' : length ticks ≡ k = omega (arith, within, count, last) in let right = get_or_push ticks e 0 k e' in let same : get_or before (length ticks) 0 ≡ get_or before k 0 = ap (λ j. get_or before j 0) e' in let h = exact is in omega (arith, right, h, same))
      ];
    }
