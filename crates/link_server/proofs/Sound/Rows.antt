-- Rows of a sound account: leads that are apart, planned packets that lie ahead, and what keeps a row sound.
use Rattle.std.proofs.Common.{◌≡◌, ℕ, zero, suc, ◌+◌, ◌<◌, ◌≤◌, Bool, List, [], ◌∷◌, ◌++◌, ⊎_elim, refl, sym, subst, arith}
use Rattle.std.proofs.lemmas.Bool.{cases_eq, cond_both, leb-true, eq-eqb}
use Rattle.link_server.proofs.Words.{filter, AccountRow, lead_with}
use Rattle.link_steps.specs.Lists.{change_first, without_first, Each}
use Rattle.link_steps.specs.Rows.{SourcePacket, planned_from, is_from, left_at}
use Rattle.link_steps.proofs.SearchAndFilter.{Each-append, Each-filter, Each-if, Each-change_first, Each-without_first}
use Rattle.link_server.specs.Sound.{HasSize, AreAhead, IsApartFrom, HaveOwnLeads}
use Rattle.link_steps.proofs.PacketRows.{lead_with-later}

-- ---- leads

-- rows that are taken out leave the others apart
pub AreApart-filter : (test : AccountRow → Bool) (rows : List AccountRow) → HaveOwnLeads rows → HaveOwnLeads (filter test rows)
AreApart-filter test [] apart = tt
AreApart-filter test (row ∷ rows) apart =
    cond_both (test row) (row ∷ filter test rows) (filter test rows) HaveOwnLeads
    (λ _. (Each-filter (IsApartFrom row.lead) test rows apart.0, AreApart-filter test rows apart.1))
    (λ _. AreApart-filter test rows apart.1)

pub AreApart-without_first : (test : AccountRow → Bool) (rows : List AccountRow) → HaveOwnLeads rows → HaveOwnLeads (without_first test rows)
unfolding without_first
AreApart-without_first test [] apart = tt
AreApart-without_first test (row ∷ rows) apart =
    cond_both (test row) rows (row ∷ without_first test rows) HaveOwnLeads
    (λ _. apart.1)
    (λ _. (Each-without_first (IsApartFrom row.lead) test rows apart.0, AreApart-without_first test rows apart.1))

-- a row that has taken no packet is apart from all
pub AreApart-push : (rows : List AccountRow) (new : AccountRow) → new.lead ≡ 0 → HaveOwnLeads rows → HaveOwnLeads (rows ++ new ∷ [])
AreApart-push [] new none apart = (tt, tt)
AreApart-push (row ∷ rows) new none apart =
    (Each-append (IsApartFrom row.lead) rows (new ∷ []) apart.0 (λ same. omega (arith, same, none), tt), AreApart-push rows new none apart.1)

-- a change that keeps the lead
pub AreApart-changed : (test : AccountRow → Bool) (change : AccountRow → AccountRow) → ((row : AccountRow) → (change row).lead ≡ row.lead) → (rows : List AccountRow) → HaveOwnLeads rows → HaveOwnLeads (change_first test change rows)
unfolding change_first
AreApart-changed test change same [] apart = tt
AreApart-changed test change same (row ∷ rows) apart =
    cond_both (test row) (change row ∷ rows) (row ∷ change_first test change rows) HaveOwnLeads
    (λ _. (subst (λ lead. Each (IsApartFrom lead) rows) (sym (same row)) apart.0, apart.1))
    (λ _. (Each-change_first (IsApartFrom row.lead) test change rows (λ other h. subst (λ lead. lead ≡ row.lead → row.lead ≡ 0) (sym (same other)) h) apart.0, AreApart-changed test change same rows apart.1))

-- the lead of a row is that of its first packet
pub lead_with-first : (lead place : ℕ) → lead ≡ 0 → lead_with lead place ≡ place
lead_with-first lead place none = rw (eq-eqb lead 0 none) refl

-- one above all leads is another than each of them
pub apart-lead_with : (place lead : ℕ) (rows : List AccountRow) → Each (λ row. row.lead < place) rows → Each (IsApartFrom lead) rows → Each (IsApartFrom (lead_with lead place)) rows
apart-lead_with place lead rows low apart =
    ⊎_elim
    (λ (none : lead ≡ 0).
    rw (lead_with-first lead place none)
    (Each-if (λ row. row.lead < place) (IsApartFrom place) rows (λ row below same. absurd (omega (arith, below, same))) low))
    (λ (some : lead ≡ 0 → ⊥). (rw (lead_with-later lead place (omega arith)) apart))
    (cases_eq lead 0)

lead_with-apart : (place lead other : ℕ) → lead < place → (other ≡ lead → lead ≡ 0) → lead_with other place ≡ lead → lead ≡ 0
lead_with-apart place lead other low apart same =
    ⊎_elim
    (λ (none : other ≡ 0). (let e : place ≡ lead = rw (lead_with-first other place none) at same in absurd (omega (arith, low, e))))
    (λ (some : other ≡ 0 → ⊥). (let e : other ≡ lead = rw (lead_with-later other place (omega arith)) at same in apart e))
    (cases_eq other 0)

-- a row that takes a packet stays apart from the others
pub AreApart-taken : (test : AccountRow → Bool) (change : AccountRow → AccountRow) (place : ℕ) → ((row : AccountRow) → (change row).lead ≡ lead_with row.lead place) → (rows : List AccountRow) → Each (λ row. row.lead < place) rows → HaveOwnLeads rows → HaveOwnLeads (change_first test change rows)
unfolding change_first
AreApart-taken test change place is [] low apart = tt
AreApart-taken test change place is (row ∷ rows) low apart =
    cond_both (test row) (change row ∷ rows) (row ∷ change_first test change rows) HaveOwnLeads
    (λ _. (subst (λ lead. Each (IsApartFrom lead) rows) (sym (is row)) (apart-lead_with place row.lead rows low.1 apart.0), apart.1))
    (λ _. (
      Each-change_first (IsApartFrom row.lead) test change rows (λ other h. subst (λ lead. lead ≡ row.lead → row.lead ≡ 0) (sym (is other)) (lead_with-apart place row.lead other.lead low.0 h)) apart.0,
      AreApart-taken test change place is rows low.1 apart.1,
    ))

-- ---- planned packets

-- what lies ahead of a tick lies ahead of an earlier one
pub ahead-earlier : (t u : ℕ) (plan : List SourcePacket) → u ≤ t → AreAhead t plan → AreAhead u plan
ahead-earlier t u [] earlier ahead = tt
ahead-earlier t u (p ∷ plan) earlier ahead = (omega (arith, ahead.0), ahead.1, ahead.2)

-- what is left of a plan lies ahead of the same tick
left-keeps : (t u : ℕ) (plan : List SourcePacket) → AreAhead t plan → AreAhead t (left_at u plan)
left-keeps t u [] ahead = tt
left-keeps t u (p ∷ plan) ahead =
    let rest = left-keeps (suc p.tick) u plan ahead.2 in
    cond_both (is_from u p) (p ∷ left_at u plan) (left_at u plan) (AreAhead t)
    (λ _. (ahead.0, ahead.1, rest))
    (λ _. ahead-earlier (suc p.tick) t (left_at u plan) (omega (arith, ahead.0)) rest)

-- and ahead of the tick at which it is left
pub left-ahead : (t u : ℕ) (plan : List SourcePacket) → AreAhead t plan → AreAhead u (left_at u plan)
left-ahead t u [] ahead = tt
left-ahead t u (p ∷ plan) ahead =
    cond_both (is_from u p) (p ∷ left_at u plan) (left_at u plan) (AreAhead u)
    (λ later. (leb-true u p.tick later, ahead.1, left-keeps (suc p.tick) u plan ahead.2))
    (λ _. left-ahead (suc p.tick) u plan ahead.2)

-- a plan lies ahead of the tick that it begins at
pub planned-ahead : (t u gap size count : ℕ) → t ≤ u → 1 ≤ gap → 1 ≤ size → size ≤ 65536 → AreAhead t (planned_from u gap size count)
unfolding planned_from
planned-ahead t u gap size zero from apart least most = tt
planned-ahead t u gap size (suc count) from apart least most =
    (from, record { least = least; most = most }, planned-ahead (suc u) (u + gap) gap size count (omega arith) apart least most)

-- each planned packet has a size
pub ahead-sizes : (t : ℕ) (plan : List SourcePacket) → AreAhead t plan → Each HasSize plan
ahead-sizes t [] ahead = tt
ahead-sizes t (p ∷ plan) ahead = (ahead.1, ahead-sizes (suc p.tick) plan ahead.2)
