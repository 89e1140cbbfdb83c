-- Entries that don't change what a link holds of a channel: those that name another channel, or none, and those that send. What the
-- own entries tell is the same with them, so a channel that holds its route still does.
use Rattle.std.proofs.Common.{◌≡◌, ◌≢◌, ℕ, cond, List, [], ◌∷◌, ◌++◌, sym, refl, ap, ◌∙◌, subst}
use Rattle.shared_network.proofs.Words.{ne_eqb, filter-append, nat_eq, channel_number, link_number, ChanNo, Traffic, link_of, Hop, Each, tentative, committed, Ask, Reserve, Relax, Deny, Release, Arrive, Tick, Reply, IsOff, own_at, OwnEntry}
use Rattle.link_steps.proofs.SearchAndFilter.{Each-filter, Each-if}
use Rattle.shared_network.specs.Calls.{HasNone, HoldsRoute, IsCommitted, hold_at}
use Rattle.shared_network.specs.Holds.{Hold, Free, Untold, reserved, hold_relaxed, denied, hold_with, hold_from, hold_of}
use Rattle.shared_network.specs.Sight.{IsSend}

-- ---- asks

-- it neither reserves, relaxes, denies nor releases the channel
abbrev pub IsStill : ℕ → Ask → Type 0
IsStill c (Reserve chan contract kind delay up_reach first next) = channel_number chan ≢ c
IsStill c (Relax chan level up_bound) = channel_number chan ≢ c
IsStill c (Deny chan) = channel_number chan ≢ c
IsStill c (Release chan upstream) = channel_number chan ≢ c
IsStill c _ = Unit {0}

pub off-still : (c : ℕ) (ask : Ask) → IsOff c ask → IsStill c ask
off-still c (Reserve chan contract kind delay up_reach first next) off = off
off-still c (Relax chan level up_bound) off = off
off-still c (Deny chan) off = off
off-still c (Release chan upstream) off = off
off-still c _ off = tt

pub send-still : (c : ℕ) (ask : Ask) → IsSend ask → IsStill c ask
send-still c (Reserve chan contract kind delay up_reach first next) send = absurd send
send-still c (Relax chan level up_bound) send = absurd send
send-still c (Deny chan) send = absurd send
send-still c (Release chan upstream) send = absurd send
send-still c (Arrive packet) send = absurd send
send-still c Tick send = absurd send
send-still c _ send = tt

still-hold : (c : ℕ) (hold : Hold) (ask : Ask) (reply : Reply) → IsStill c ask → hold_with c hold ask reply ≡ hold
still-hold c hold (Reserve chan contract kind delay up_reach first next) reply off = ap (λ b. cond b (reserved hold (λ level reach. tentative chan contract kind first next up_reach level reach) reply) hold) (ne_eqb (channel_number chan) c off)
still-hold c hold (Relax chan level up_bound) reply off = ap (λ b. cond b (hold_relaxed hold (committed level up_bound) reply) hold) (ne_eqb (channel_number chan) c off)
still-hold c hold (Deny chan) reply off = ap (λ b. cond b (denied hold reply) hold) (ne_eqb (channel_number chan) c off)
still-hold c hold (Release chan upstream) reply off = ap (λ b. cond b Untold hold) (ne_eqb (channel_number chan) c off)
still-hold c hold _ reply off = refl

-- ---- entries

-- all of them
abbrev pub AreStill : ℕ → List OwnEntry → Type 0
AreStill c own = Each (λ (e : OwnEntry). IsStill c e.ask) own

pub none-still : (chan : ChanNo) (own : List OwnEntry) → HasNone chan own → AreStill (channel_number chan) own
none-still chan own none = Each-if (λ (e : OwnEntry). IsOff (channel_number chan) e.ask) (λ (e : OwnEntry). IsStill (channel_number chan) e.ask) own (λ e off. off-still (channel_number chan) e.ask off) none

still-from : (c : ℕ) (hold : Hold) (own : List OwnEntry) → AreStill c own → hold_from c hold own ≡ hold
unfolding hold_from
still-from c hold [] still = refl
still-from c hold (e ∷ own) still = ap (λ h. hold_from c h own) (still-hold c hold e.ask e.reply still.0) ∙ still-from c hold own still.1

still-at : (c l : ℕ) (own : List OwnEntry) → AreStill c own → AreStill c (own_at l own)
still-at c l own still = Each-filter (λ (e : OwnEntry). IsStill c e.ask) (λ (e : OwnEntry). nat_eq (link_number e.link) l) own still

hold-append : (c : ℕ) (hold : Hold) (xs ys : List OwnEntry) → hold_from c hold (xs ++ ys) ≡ hold_from c (hold_from c hold xs) ys
unfolding hold_from
hold-append c hold [] ys = refl
hold-append c hold (x ∷ xs) ys = hold-append c (hold_with c hold x.ask x.reply) xs ys

still-stays : (chan : ChanNo) (hop : Hop) (own entries : List OwnEntry) → AreStill (channel_number chan) entries → hold_at chan hop (own ++ entries) ≡ hold_at chan hop own
still-stays chan hop own entries still =
    ap (hold_of (channel_number chan)) (filter-append (λ (e : OwnEntry). nat_eq (link_number e.link) (link_of hop)) own entries)
    ∙ hold-append (channel_number chan) Free (own_at (link_of hop) own) (own_at (link_of hop) entries)
    ∙ still-from (channel_number chan) (hold_at chan hop own) (own_at (link_of hop) entries) (still-at (channel_number chan) (link_of hop) entries still)

-- where no entry names the channel, its link holds nothing of it
pub none-hold : (chan : ChanNo) (hop : Hop) (own : List OwnEntry) → HasNone chan own → hold_at chan hop own ≡ Free
none-hold chan hop own none = still-from (channel_number chan) Free (own_at (link_of hop) own) (still-at (channel_number chan) (link_of hop) own (none-still chan own none))

-- a channel that holds its route
pub committed-stays : (contract : Traffic) (i : ℕ) (chan : ChanNo) (hop : Hop) (own own' entries : List OwnEntry) → own' ≡ own ++ entries → AreStill (channel_number chan) entries → IsCommitted contract (nat_eq i 0) (hold_at chan hop own) → IsCommitted contract (nat_eq i 0) (hold_at chan hop own')
committed-stays contract i chan hop own own' entries is still was = subst (IsCommitted contract (nat_eq i 0)) (sym (ap (hold_at chan hop) is ∙ still-stays chan hop own entries still)) was

pub route-stays : (chan : ChanNo) (route : List Hop) (contract : Traffic) (own own' entries : List OwnEntry) → own' ≡ own ++ entries → AreStill (channel_number chan) entries → HoldsRoute chan route contract own → HoldsRoute chan route contract own'
route-stays chan route contract own own' entries is still was = λ i hop found. committed-stays contract i chan hop own own' entries is still (was i hop found)
