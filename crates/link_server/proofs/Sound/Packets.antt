-- Lists of packets of a sound account: arrival numbers that rise, and how many packets of a row are among them.
use Rattle.std.proofs.Common.{◌≡◌, ℕ, suc, ◌<◌, ◌≤◌, Bool, true, false, List, [], ◌∷◌, ◌++◌, length, ⊎_elim, ap, ◌∙◌, arith, length-append}
use Rattle.std.proofs.lemmas.Bool.{cases_eq, cond_both, eq-eqb, ne_eqb}
use Rattle.std.proofs.lemmas.List.Elements.{filter-append}
use Rattle.link_server.proofs.Words.{filter, Each, Arrival, lead_with}
use Rattle.link_steps.specs.Buffer.{has_lead, held_packets}
use Rattle.link_steps.proofs.SearchAndFilter.{Each-if, filter-none}
use Rattle.link_server.specs.Sound.{AreNumberedWithin, IsSoundPacket}
use Rattle.link_steps.proofs.PacketRows.{lead_with-later}

-- ---- arrival numbers

numbered-lower : (low lower : ℕ) (ps : List Arrival) (high : ℕ) → lower ≤ low → AreNumberedWithin low ps high → AreNumberedWithin lower ps high
numbered-lower low lower [] high less numbered = omega (arith, numbered)
numbered-lower low lower (p ∷ ps) high less numbered = (omega (arith, numbered.0), numbered.1)

-- packets after others, with arrival numbers above theirs
pub numbered-append : (low mid high : ℕ) (ps qs : List Arrival) → AreNumberedWithin low ps mid → AreNumberedWithin mid qs high → AreNumberedWithin low (ps ++ qs) high
numbered-append low mid high [] qs first second = numbered-lower mid low qs high first second
numbered-append low mid high (p ∷ ps) qs first second = (first.0, numbered-append p.place mid high ps qs first.1 second)

pub numbered-filter : (test : Arrival → Bool) (low : ℕ) (ps : List Arrival) (high : ℕ) → AreNumberedWithin low ps high → AreNumberedWithin low (filter test ps) high
numbered-filter test low [] high numbered = numbered
numbered-filter test low (p ∷ ps) high numbered =
    let rest = numbered-filter test p.place ps high numbered.1 in
    cond_both (test p) (p ∷ filter test ps) (filter test ps) (λ qs. AreNumberedWithin low qs high)
    (λ _. (numbered.0, rest))
    (λ _. numbered-lower p.place low (filter test ps) high (omega (arith, numbered.0)) rest)

-- each is above the least
pub numbered-above : (low : ℕ) (ps : List Arrival) (high : ℕ) → AreNumberedWithin low ps high → Each (λ p. low < p.place) ps
numbered-above low [] high numbered = tt
numbered-above low (p ∷ ps) high numbered =
    (numbered.0, Each-if (λ q. p.place < q.place) (λ q. low < q.place) ps (λ q above. omega (arith, numbered.0, above)) (numbered-above p.place ps high numbered.1))

-- ---- counts

-- how many pass a test, of more packets
count-more : (test : Arrival → Bool) (here more : List Arrival) → length (filter test here) ≤ length (filter test (here ++ more))
count-more test here more = rw (filter-append test here more, length-append (filter test here) (filter test more)) (omega arith)

-- one at least passes where one of those added does
count-one : (test : Arrival → Bool) (here before : List Arrival) (p : Arrival) (after : List Arrival) → test p ≡ true → suc (length (filter test here)) ≤ length (filter test (here ++ (before ++ p ∷ after)))
count-one test here before p after passes =
    rw (filter-append test here (before ++ p ∷ after), filter-append test before (p ∷ after), passes)
    (rw (length-append (filter test here) (filter test before ++ p ∷ filter test after), length-append (filter test before) (p ∷ filter test after)) (omega arith))

-- the packets of a row's lead, where the row takes one of those added
count-taken : (test : ℕ → Arrival → Bool) (lead place : ℕ) (here before : List Arrival) (p : Arrival) (after : List Arrival) → length (filter (test 0) here) ≡ 0 → test (lead_with lead place) p ≡ true → suc (length (filter (test lead) here)) ≤ length (filter (test (lead_with lead place)) (here ++ (before ++ p ∷ after)))
count-taken test lead place here before p after none passes =
    let one = count-one (test (lead_with lead place)) here before p after passes in
    ⊎_elim
    (λ (first : lead ≡ 0). (let e : length (filter (test lead) here) ≡ 0 = ap (λ n. length (filter (test n) here)) first ∙ none in omega (arith, one, e)))
    (λ (later : lead ≡ 0 → ⊥).
    let e : length (filter (test (lead_with lead place)) here) ≡ length (filter (test lead) here) = ap (λ n. length (filter (test n) here)) (lead_with-later lead place (omega arith)) in
    omega (arith, one, e))
    (cases_eq lead 0)

pub count-upto : (test : Arrival → Bool) (here : List Arrival) → length (filter test here) ≤ length here
count-upto test [] = omega arith
count-upto test (p ∷ here) =
    let rest = count-upto test here in
    cond_both (test p) (p ∷ filter test here) (filter test here) (λ ps. length ps ≤ suc (length here)) (λ _. omega arith) (λ _. omega arith)

-- ---- the packets of a row

-- each packet has a lead
abbrev pub HasLead : Arrival → Type 0
HasLead p = 1 ≤ p.lead

pub packets-lead : (levels taken : ℕ) (here : List Arrival) → Each (IsSoundPacket levels taken) here → Each HasLead here
packets-lead levels taken here each = Each-if (IsSoundPacket levels taken) HasLead here (λ p sound. sound.lead_least) each

-- a row that has taken no packet has none here
lead-other : (p : Arrival) → HasLead p → has_lead 0 p ≡ false
lead-other p some = ne_eqb p.lead 0 (λ same. absurd (omega (arith, same, some)))

pub held-none : (here : List Arrival) → Each HasLead here → held_packets 0 here ≡ 0
unfolding held_packets
held-none here each = ap length (filter-none (has_lead 0) here (Each-if HasLead (λ p. has_lead 0 p ≡ false) here lead-other each))

-- more packets here hold no fewer slots
pub held-more : (lead : ℕ) (here more : List Arrival) → held_packets lead here ≤ held_packets lead (here ++ more)
unfolding held_packets
held-more lead here more = count-more (has_lead lead) here more

-- a row that takes a packet has one more here
pub held-taken : (lead place : ℕ) (here before : List Arrival) (p : Arrival) (after : List Arrival) → Each HasLead here → p.lead ≡ lead_with lead place → suc (held_packets lead here) ≤ held_packets (lead_with lead place) (here ++ (before ++ p ∷ after))
unfolding held_packets
held-taken lead place here before p after each is =
    count-taken has_lead lead place here before p after (unfold held_packets in held-none here each) (eq-eqb p.lead (lead_with lead place) is)
