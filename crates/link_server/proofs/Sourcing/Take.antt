-- A row that takes a packet from its source goes on as its account says.
use Rattle.std.proofs.Common.{◌≡◌, ℕ, suc, ◌+◌, Bool, true, false, List, ◌∷◌, take, refl, ap, ◌∙◌, arith}
use Rattle.std.specs.Prelude.{max}
use Rattle.net_units.specs.declared.Kind.{Kind}
use Rattle.net_units.specs.declared.Kind.TheVariants.{Rate, Jitter}
use Rattle.link_server.proofs.Words.{level_number, AccountRow, account_with, Reservation, SourcePacket, Arrival, lead_with, arrival_at}
use Rattle.traffic_contract.specs.Contract.{burst_of}
use Rattle.traffic_contract.specs.Eligible.{eligible, earliest_tick}
use Rattle.regulator_core.specs.Kept.{KeptTicks, regulator_with}
use Rattle.link_steps.specs.Regulator.{waits_until, eligible_next}

max-none : (t due : ℕ) → due ≡ 0 → max t due ≡ t
max-none t due none = omega (arith, none)

-- a packet at a first hop isn't due before its arrival, and may go from then on
earliest-tick-waits : (kind : Kind) (first : Bool) (t due : ℕ) → (first ≡ true → due ≡ 0) → earliest_tick kind t due ≡ waits_until kind first t due
earliest-tick-waits Rate true t due hop = refl
earliest-tick-waits Rate false t due hop = refl
earliest-tick-waits Jitter false t due hop = refl
earliest-tick-waits Jitter true t due hop = max-none t due (hop refl)

-- the regulator's answer is the eligible tick of the row
pub tick-answered : (regulator : KeptTicks) (terms : Reservation) (t due e : ℕ) → (terms.first ≡ true → due ≡ 0) → regulator.contract ≡ terms.contract → regulator.kind ≡ terms.kind → e ≡ eligible regulator.contract regulator.recent (earliest_tick regulator.kind t due) → e ≡ eligible_next terms regulator.recent t due
unfolding eligible_next
tick-answered regulator terms t due e hop same kind value =
    value
    ∙ ap (λ contract. eligible contract regulator.recent (earliest_tick regulator.kind t due)) same
    ∙ ap (λ kind. eligible terms.contract regulator.recent (earliest_tick kind t due)) kind
    ∙ ap (eligible terms.contract regulator.recent) (earliest-tick-waits terms.kind terms.first t due hop)

-- the packet with that tick and the row's lead is the one that the account takes
abbrev packet-of : Reservation → ℕ → ℕ → ℕ → ℕ → ℕ → ℕ → ℕ → Arrival
packet-of terms level lead place number size t e = record {
  place = place;
  lead = lead;
  chan = terms.chan;
  number = number;
  size = size;
  at = t;
  eligible = e;
  level = level;
  next = terms.next;
}

pub packet-taken : (terms : Reservation) (level lead new_lead place taken size t e answered : ℕ) → level ≡ level_number terms.level → new_lead ≡ lead_with lead place → answered ≡ e → packet-of terms level new_lead place (taken + 1) size t answered ≡ arrival_at terms lead place (suc taken) size t e
packet-taken terms level lead new_lead place taken size t e answered at_level same tick =
    let more : taken + 1 ≡ suc taken = omega arith in
    rw (more, same, tick, at_level) refl

-- and so is the row
abbrev row-of : Reservation → ℕ → ℕ → List ℕ → List SourcePacket → AccountRow
row-of terms lead taken recent left = record { terms = terms; lead = lead; taken = taken; recent = recent; left = left }

pub row-taken : (terms : Reservation) (lead new_lead place taken : ℕ) (left : List SourcePacket) (old new : KeptTicks) (e answered : ℕ) → new_lead ≡ lead_with lead place → old.contract ≡ terms.contract → new ≡ regulator_with old answered → answered ≡ e
    → row-of terms new_lead (taken + 1) new.recent left ≡ account_with place e (record { terms = terms; lead = lead; taken = taken; recent = old.recent; left = left })
row-taken terms lead new_lead place taken left old new e answered same contract kept tick =
    let recent : new.recent ≡ take (burst_of terms.contract) (e ∷ old.recent) =
    ap (λ k. k.recent) kept ∙ ap (λ c. take (burst_of c) (answered ∷ old.recent)) contract ∙ ap (λ n. take (burst_of terms.contract) (n ∷ old.recent)) tick in
    let more : taken + 1 ≡ suc taken = omega arith in
    rw (more, same, recent) refl
