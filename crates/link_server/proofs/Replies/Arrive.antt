-- The answers to an arrive, case by case.
use Rattle.std.proofs.Common.{◌≡◌, ℕ, suc, ◌+◌, ◌<◌, ◌^◌, [], ◌∷◌, ◌++◌, List, Option, Some, None, length, refl, sym, ap, ◌∙◌, subst, arith}
use Rattle.std.proofs.lemmas.Bool.{eqb-true}
use Rattle.std.proofs.lemmas.List.{length-append}
use Rattle.link_server.proofs.Words.{nat_eq, find, Arrive, Packet, Refusal, Reply, LinkShape, held_packets, slots_of, whole, Each, Reservation, newest, Arrival, account, HeldPacket, QueueAccount}
use Rattle.link_steps.specs.declared.replies.Refusal.TheVariants.{Stray}
use Rattle.link_steps.specs.declared.replies.Reply.TheVariants.{Taken, Refused}
use Rattle.link_steps.specs.declared.replies.Why.TheVariants.{NoRow, WrongNumber}
use Rattle.link_steps.specs.Account.{Account, AccountRow, account_reply, account_after, account_arrive, account_with_arrival, account_arrived_row, account_arrived, is_account_of}
use Rattle.link_steps.specs.Refusals.{RefusalRule, first_refusal, first_hop, uncommitted, wrong_number, past_count, big, full, stray_rules}
use Rattle.link_steps.specs.Regulator.{eligible_next}
use Rattle.link_steps.specs.Replies.{arrive_reply}
use Rattle.link_steps.proofs.Account.{same-kept}
use Rattle.link_steps.proofs.RulesPassed.{unless-none}
use Rattle.link_server.specs.Packets.{arrival_in}
use Rattle.link_server.specs.Sound.{IsSound}
use Rattle.std.proofs.lemmas.Option.{same_Some}
use Rattle.link_server.specs.Changes.{arrive_rule}
use Rattle.link_server.specs.Strays.{arrive_refusal, first_rule, stray}
use Rattle.link_steps.specs.Lists.{change_first}
use Rattle.link_server.proofs.RowsOfTable.Placed.{each-changed}
use Rattle.link_server.proofs.Sound.Numbers.{rows-upto}

-- the first of some rules that applies is the refusal; where none does the rules after them are tried
rule-applies : (rules more : List RefusalRule) (reply : Reply) (refusal : Refusal) → Some refusal ≡ first_rule rules → Refused refusal ≡ first_refusal (rules ++ more) reply
rule-applies [] more reply refusal first = cc
rule-applies (None ∷ rules) more reply refusal first = rule-applies rules more reply refusal first
rule-applies (Some other ∷ rules) more reply refusal first = ap (λ r. Refused (the_refusal other r)) first where
  the_refusal : Refusal → RefusalRule → Refusal
  the_refusal other None = other
  the_refusal other (Some r) = r

rules-kept : (rules more : List RefusalRule) (reply : Reply) → None ≡ first_rule rules → first_refusal more reply ≡ first_refusal (rules ++ more) reply
rules-kept [] more reply none = refl
rules-kept (None ∷ rules) more reply none = rules-kept rules more reply none
rules-kept (Some other ∷ rules) more reply none = cc

-- the rules before and after: where none of the first applies, the first of those after is the refusal of all
pub rule-first : (rules more : List RefusalRule) (refusal : Refusal) → Some refusal ≡ first_rule rules → Some refusal ≡ first_rule (rules ++ more)
rule-first [] more refusal first = cc
rule-first (None ∷ rules) more refusal first = rule-first rules more refusal first
rule-first (Some other ∷ rules) more refusal first = first

pub rule-after : (rules more : List RefusalRule) → None ≡ first_rule rules → first_rule more ≡ first_rule (rules ++ more)
rule-after [] more none = refl
rule-after (None ∷ rules) more none = rule-after rules more none
rule-after (Some other ∷ rules) more none = cc

pub rule-one : (rule : RefusalRule) → rule ≡ first_rule (rule ∷ [])
rule-one None = refl
rule-one (Some refusal) = refl

rules-before : (rules more : List RefusalRule) → None ≡ first_rule (rules ++ more) → None ≡ first_rule rules
rules-before [] more none = refl
rules-before (None ∷ rules) more none = rules-before rules more none
rules-before (Some other ∷ rules) more none = cc

-- a packet that isn't refused is no stray
pub placed-stray : (bounds : List ℕ) (packet : Packet) (terms : Reservation) (taken held : ℕ) → None ≡ arrive_refusal bounds packet terms taken held → None ≡ stray packet terms taken
placed-stray bounds packet terms taken held none = rules-before (stray_rules packet terms taken) (full held (slots_of bounds terms) ∷ []) none

-- the rules on a packet at a row, and the reply where none applies
abbrev all-rules : LinkShape → List Arrival → Packet → AccountRow → List RefusalRule
all-rules shape here packet row = stray_rules packet row.terms row.taken ++ full (held_packets row.lead here) (slots_of shape.bounds row.terms) ∷ []

abbrev taken-reply : ℕ → Packet → AccountRow → Reply
taken-reply t packet row = Taken t (eligible_next row.terms row.recent t packet.due)

-- the reply to a packet that is refused, and to one that is taken
pub arrive-refused : (shape : LinkShape) (k : Account) (packet : Packet) (refusal : Refusal) → Some refusal ≡ arrive_rule shape.bounds k.here packet (find (is_account_of packet.chan) k.rows) → Refused refusal ≡ account_reply (whole shape) k (Arrive packet)
unfolding account_reply arrive_reply
arrive-refused shape k packet refusal first = refused (find (is_account_of packet.chan) k.rows) first where
  refused : (row : Option AccountRow) → Some refusal ≡ arrive_rule shape.bounds k.here packet row → Refused refusal ≡ account_arrive shape k.clock k.here packet row
  refused None first = ap Refused (same_Some refusal (Stray NoRow) first)
  refused (Some row) first = rule-applies (all-rules shape k.here packet row) [] (taken-reply k.clock packet row) refusal first

pub arrive-taken : (shape : LinkShape) (k : Account) (packet : Packet) (row : AccountRow) (e : ℕ) → find (is_account_of packet.chan) k.rows ≡ Some row → None ≡ arrive_rule shape.bounds k.here packet (Some row) → e ≡ eligible_next row.terms row.recent k.clock packet.due
    → Taken k.clock e ≡ account_reply (whole shape) k (Arrive packet)
unfolding account_reply arrive_reply
arrive-taken shape k packet row e found none tick =
    ap (Taken k.clock) tick
    ∙ rules-kept (all-rules shape k.here packet row) [] (taken-reply k.clock packet row) none
    ∙ ap (account_arrive shape k.clock k.here packet) (sym found)

-- a refusal changes nothing
pub arrive-same : (shape : LinkShape) (k : Account) (packet : Packet) (refusal : Refusal) → k ≡ account_after shape k (Arrive packet) (Refused refusal)
unfolding account_after
arrive-same shape k packet refusal = refl

-- a packet with a place is the next one
pub rule-kept : (rule : RefusalRule) (rules : List RefusalRule) → None ≡ first_rule (rule ∷ rules) → (rule ≡ None) × (None ≡ first_rule rules)
rule-kept None rules none = (refl, none)
rule-kept (Some other) rules none = cc

pub next-number : (packet : Packet) (terms : Reservation) (taken : ℕ) → None ≡ stray packet terms taken → packet.number ≡ suc taken
next-number packet terms taken none =
    let after = (rule-kept (first_hop terms) (uncommitted terms ∷ wrong_number packet.number (suc taken) ∷ past_count terms taken ∷ big terms packet.size ∷ []) none).1 in
    let numbered = (rule-kept (uncommitted terms) (wrong_number packet.number (suc taken) ∷ past_count terms taken ∷ big terms packet.size ∷ []) after).1 in
    let kept = (rule-kept (wrong_number packet.number (suc taken)) (past_count terms taken ∷ big terms packet.size ∷ []) numbered).0 in
    eqb-true packet.number (suc taken) (unless-none (nat_eq packet.number (suc taken)) (Stray (WrongNumber (suc taken))) kept)

-- what is kept with the packet
pub arrive-kept : (shape : LinkShape) (t e : ℕ) (old new : QueueAccount) (packet : Packet) (rows : List AccountRow) (row : AccountRow) (taken : HeldPacket) → find (is_account_of packet.chan) rows ≡ Some row
    → arrival_in taken ≡ account_arrived t (suc old.taken) packet row
    → new ≡ record old { taken = old.taken + 1; here = old.here ++ arrival_in taken ∷ []; looked = new.looked }
    → account t new (change_first (is_account_of packet.chan) (account_arrived_row t (suc old.taken) packet) rows) ≡ account_after shape (account t old rows) (Arrive packet) (Taken t e)
unfolding account_after account_with_arrival
arrive-kept shape t e old new packet rows row taken found arrived kept =
    let next : old.taken + 1 ≡ suc old.taken = omega arith in
    let here : new.here ≡ old.here ++ account_arrived t (suc old.taken) packet row ∷ [] =
    ap (λ (queue : QueueAccount). queue.here) kept ∙ ap (λ p. old.here ++ p ∷ []) arrived in
    same-kept (account t new (change_first (is_account_of packet.chan) (account_arrived_row t (suc old.taken) packet) rows)) (account_with_arrival packet (account t old rows) (Some row)) refl (ap (λ (queue : QueueAccount). queue.taken) kept ∙ next) refl here (ap (λ (queue : QueueAccount). queue.on) kept) (ap (λ (queue : QueueAccount). queue.best) kept)
    ∙ ap (account_with_arrival packet (account t old rows)) (sym found)

-- so where the account with the packet is sound, there was a place for it
pub arrive-room : (shape : LinkShape) (room e : ℕ) (k : Account) (packet : Packet) (row : AccountRow) → find (is_account_of packet.chan) k.rows ≡ Some row → IsSound shape room (account_after shape k (Arrive packet) (Taken k.clock e)) → length k.here < room
unfolding account_after account_with_arrival
arrive-room shape room e k packet row found sound =
    let upto = rows-upto shape room (account_with_arrival packet k (Some row)) (subst (λ o. IsSound shape room (account_with_arrival packet k o)) found sound) in
    let more = length-append k.here (account_arrived k.clock (suc k.taken) packet row ∷ []) in
    omega (arith, upto, more)

-- and where the newest eligible ticks of its rows are soon, so is that of the row with the packet
pub arrive-soon : (shape : LinkShape) (e : ℕ) (k : Account) (packet : Packet) (row : AccountRow) → find (is_account_of packet.chan) k.rows ≡ Some row
    → Each (λ r. newest r.recent < 2 ^ 63) (account_after shape k (Arrive packet) (Taken k.clock e)).rows → newest (account_arrived_row k.clock (suc k.taken) packet row).recent < 2 ^ 63
unfolding account_after account_with_arrival
arrive-soon shape e k packet row found soon =
    each-changed (λ r. newest r.recent < 2 ^ 63) (is_account_of packet.chan) (account_arrived_row k.clock (suc k.taken) packet) k.rows row found
    (subst (λ o. Each (λ r. newest r.recent < 2 ^ 63) (account_with_arrival packet k o).rows) found soon)
