-- What a link holds of a channel, as the own entries tell it, is on the contract that the channel's reserves name.
use Rattle.std.proofs.Common.{◌≡◌, ℕ, eqb, List, [], ◌∷◌}
use Rattle.shared_network.proofs.Words.{cond_both, eqb-true, nat_eq, channel_number, link_number, ChanNo, Traffic, link_of, Hop, Each, Reservation, tentative, committed, Ask, Reserve, Relax, Deny, Release, Reply, IsOff, own_at, OwnEntry}
use Rattle.net_units.specs.declared.numbers.Level.{Level}
use Rattle.link_steps.specs.declared.replies.Reply.TheVariants as Is
use Rattle.link_steps.proofs.SearchAndFilter.{Each-filter}
use Rattle.shared_network.specs.Calls.{hold_at}
use Rattle.shared_network.specs.Holds.{Hold, Free, Holds, Untold, reserved, hold_relaxed, denied, freed, hold_with, hold_from}

-- a reserve of the channel names this contract
abbrev pub ReservesOn : ℕ → Traffic → Ask → Type 0
ReservesOn c contract (Reserve chan own kind delay up_reach first next) = channel_number chan ≡ c → own ≡ contract
ReservesOn c contract _ = Unit {0}

pub off-reserves : (c : ℕ) (contract : Traffic) (ask : Ask) → IsOff c ask → ReservesOn c contract ask
off-reserves c contract (Reserve chan own kind delay up_reach first next) off = λ same. absurd (off same)
off-reserves c contract _ off = tt

-- what is held is on this contract
abbrev pub IsOn : Traffic → Hold → Type 0
IsOn contract Free = Unit {0}
IsOn contract (Holds terms) = terms.contract ≡ contract
IsOn contract Untold = Unit {0}

reserved-on : (contract : Traffic) (hold : Hold) (terms : Level → Level → Reservation) (reply : Reply) → ((level reach : Level) → (terms level reach).contract ≡ contract) → IsOn contract hold → IsOn contract (reserved hold terms reply)
reserved-on contract Free terms (Is.Offer level reach) all on = all level reach
reserved-on contract hold terms (Is.Refused refusal) all on = on
reserved-on contract _ terms _ all on = tt

relaxed-on : (contract : Traffic) (hold : Hold) (level : Level) (up_bound : ℕ) (reply : Reply) → IsOn contract hold → IsOn contract (hold_relaxed hold (committed level up_bound) reply)
relaxed-on contract (Holds terms) level up_bound (Is.Relaxed clock) on = on
relaxed-on contract hold level up_bound (Is.Offer one reach) on = tt
relaxed-on contract _ level up_bound _ on = tt

freed-on : (contract : Traffic) (hold : Hold) → IsOn contract (freed hold)
freed-on contract Free = tt
freed-on contract _ = tt

denied-on : (contract : Traffic) (hold : Hold) (reply : Reply) → IsOn contract (denied hold reply)
denied-on contract hold Is.Denied = freed-on contract hold
denied-on contract hold _ = tt

-- one entry
on-with : (c : ℕ) (contract : Traffic) (hold : Hold) (ask : Ask) (reply : Reply) → ReservesOn c contract ask → IsOn contract hold → IsOn contract (hold_with c hold ask reply)
on-with c contract hold (Reserve chan own kind delay up_reach first next) reply names on =
    cond_both (eqb (channel_number chan) c) (reserved hold (λ level reach. tentative chan own kind first next up_reach level reach) reply) hold (IsOn contract)
    (λ here. reserved-on contract hold (λ level reach. tentative chan own kind first next up_reach level reach) reply (λ level reach. names (eqb-true (channel_number chan) c here)) on) (λ off. on)
on-with c contract hold (Relax chan level up_bound) reply names on = cond_both (eqb (channel_number chan) c) (hold_relaxed hold (committed level up_bound) reply) hold (IsOn contract) (λ here. relaxed-on contract hold level up_bound reply on) (λ off. on)
on-with c contract hold (Deny chan) reply names on = cond_both (eqb (channel_number chan) c) (denied hold reply) hold (IsOn contract) (λ here. denied-on contract hold reply) (λ off. on)
on-with c contract hold (Release chan upstream) reply names on = cond_both (eqb (channel_number chan) c) Untold hold (IsOn contract) (λ here. tt) (λ off. on)
on-with c contract hold _ reply names on = on

-- and all of them
on-from : (c : ℕ) (contract : Traffic) (hold : Hold) (own : List OwnEntry) → Each (λ (e : OwnEntry). ReservesOn c contract e.ask) own → IsOn contract hold → IsOn contract (hold_from c hold own)
unfolding hold_from
on-from c contract hold [] each on = on
on-from c contract hold (e ∷ own) each on = on-from c contract (hold_with c hold e.ask e.reply) own each.1 (on-with c contract hold e.ask e.reply each.0 on)

pub held-on : (chan : ChanNo) (contract : Traffic) (hop : Hop) (own : List OwnEntry) → Each (λ (e : OwnEntry). ReservesOn (channel_number chan) contract e.ask) own → IsOn contract (hold_at chan hop own)
held-on chan contract hop own each =
    on-from (channel_number chan) contract Free (own_at (link_of hop) own) (Each-filter (λ (e : OwnEntry). ReservesOn (channel_number chan) contract e.ask) (λ (e : OwnEntry). nat_eq (link_number e.link) (link_of hop)) own each) tt
