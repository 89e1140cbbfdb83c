-- A sound account stays sound when a row takes a packet; and so through an arrive.
use Rattle.std.proofs.Common.{◌≡◌, ℕ, suc, ◌<◌, ◌≤◌, Bool, List, [], ◌∷◌, ◌++◌, length, get_or, Option, Some, None, inl, inr, ⊎_elim, refl, sym, ap, ◌∙◌, subst, arith}
use Rattle.std.proofs.lemmas.Bool.{cases_Bool, cases_eq}
use Rattle.std.proofs.lemmas.List.{length_push}
use Rattle.std.proofs.lemmas.List.Folds.{find-append}
use Rattle.std.proofs.lemmas.Option.{same_Some}
use Rattle.std.specs.Option.{option_or}
use Rattle.link_server.proofs.Words.{find, total, Arrive, Packet, Reply, LinkShape, slots_of, held_packets, whole, Arrival, Start, lead_with, arrival_at}
use Rattle.traffic_contract.proofs.AdmissionTest.{total-le}
use Rattle.traffic_contract.specs.Eligible.{eligible}
use Rattle.link_steps.specs.declared.replies.Reply.TheVariants as Is
use Rattle.link_steps.specs.Account.{Account, AccountRow, account_with, is_account_of, account_arrive, account_arrived_tick, account_arrived_row, account_arrived, account_with_arrival, account_reply, account_after}
use Rattle.link_steps.specs.Legal.{PacketFits}
use Rattle.link_steps.specs.Lists.{change_first, Each}
use Rattle.link_steps.proofs.SearchAndFilter.{Each-append, Each-find, Each-if}
use Rattle.link_steps.proofs.ReservationFound.{arrive-tells}
use Rattle.link_server.specs.Sound.{places_of, places, of_channels, IsSoundPacket, has_arrival_number, IsRunning, IsSoundRow, IsSound}
use Rattle.link_server.proofs.Sound.Packets.{packets-lead, numbered-append, held-more, held-taken}
use Rattle.link_server.proofs.Sound.Best.{held-channels, channels-more, channels-lead, best-more}
use Rattle.link_server.proofs.Sound.Rows.{AreApart-taken, lead_with-first}
use Rattle.link_steps.proofs.PacketRows.{lead_with-later}

-- ---- leads

pub lead_with-most : (lead place most : ℕ) → lead ≤ most → place ≤ most → lead_with lead place ≤ most
lead_with-most lead place most before new =
    ⊎_elim (λ (first : lead ≡ 0). (rw (lead_with-first lead place first) new))
    (λ (later : lead ≡ 0 → ⊥). (rw (lead_with-later lead place (omega arith)) before))
    (cases_eq lead 0)

pub lead_with-least : (lead place : ℕ) → 1 ≤ place → 1 ≤ lead_with lead place
lead_with-least lead place some =
    ⊎_elim (λ (first : lead ≡ 0). (rw (lead_with-first lead place first) some))
    (λ (later : lead ≡ 0 → ⊥). (rw (lead_with-later lead place (omega arith)) (omega arith)))
    (cases_eq lead 0)

-- ---- a row that takes a packet

-- it stays sound
pub taken-sound : (levels clock taken more place e : ℕ) (row : AccountRow) → taken ≤ more → place ≤ more → suc row.taken ≤ more → IsSoundRow levels clock taken row → IsSoundRow levels clock more (account_with place e row)
taken-sound levels clock taken more place e row less upto counted sound = record {
  contract = sound.contract;
  level_most = sound.level_most;
  reach_most = sound.reach_most;
  up_reach_most = sound.up_reach_most;
  up_bound_most = sound.up_bound_most;
  taken_most = counted;
  lead_most = lead_with-most row.lead place more (omega (arith, sound.lead_most)) upto;
  ahead = sound.ahead;
}

-- and so do the others
pub more-sound : (levels clock taken more : ℕ) (row : AccountRow) → taken ≤ more → IsSoundRow levels clock taken row → IsSoundRow levels clock more row
more-sound levels clock taken more row less sound = record {
  contract = sound.contract;
  level_most = sound.level_most;
  reach_most = sound.reach_most;
  up_reach_most = sound.up_reach_most;
  up_bound_most = sound.up_bound_most;
  taken_most = omega (arith, sound.taken_most);
  lead_most = omega (arith, sound.lead_most);
  ahead = sound.ahead;
}

-- the packets here stay sound
pub packets-more : (levels taken more : ℕ) (here : List Arrival) → taken ≤ more → Each (IsSoundPacket levels taken) here → Each (IsSoundPacket levels more) here
packets-more levels taken more here less each =
    Each-if (IsSoundPacket levels taken) (IsSoundPacket levels more) here
    (λ p sound. record {
      lead_least = sound.lead_least;
      lead_most = omega (arith, sound.lead_most);
      size_least = sound.size_least;
      size_most = sound.size_most;
      level_least = sound.level_least;
      level_most = sound.level_most;
    })
    each

-- and the packet that is taken is sound
pub packet-sound : (levels clock taken more place number size t e : ℕ) (row : AccountRow) → taken ≤ more → 1 ≤ place → place ≤ more → 1 ≤ size → size ≤ 65536 → IsSoundRow levels clock taken row → IsSoundPacket levels more (arrival_at row.terms row.lead place number size t e)
packet-sound levels clock taken more place number size t e row less some upto least most sound = record {
  lead_least = lead_with-least row.lead place some;
  lead_most = lead_with-most row.lead place more (omega (arith, sound.lead_most)) upto;
  size_least = least;
  size_most = most;
  level_least = row.terms.level.least;
  level_most = omega (arith, sound.level_most);
}

-- it takes one of the row's free slots
pub places-taken : (bounds : List ℕ) (here all : List Arrival) (place e : ℕ) (row : AccountRow) → held_packets row.lead here < slots_of bounds row.terms → suc (held_packets row.lead here) ≤ held_packets (lead_with row.lead place) all → suc (places_of bounds all (account_with place e row)) ≤ places_of bounds here row
places-taken bounds here all place e row slot one = omega arith

-- other rows have no more free slots than before
places-more : (bounds : List ℕ) (here new : List Arrival) (row : AccountRow) → places_of bounds (here ++ new) row ≤ places_of bounds here row
places-more bounds here new row = omega (arith, held-more row.lead here new)

-- ---- the packet that occupies the link

-- it is found among more packets too
pub running-more : (rate clock : ℕ) (here new : List Arrival) (start : Start) → IsRunning rate clock here start → IsRunning rate clock (here ++ new) start
running-more rate clock here new start running = record {
  is_here = find-append (has_arrival_number start.packet.place) here new ∙ ap (λ first. option_or first (find (has_arrival_number start.packet.place) new)) running.is_here;
  eligible = running.eligible;
  begun = running.begun;
  leaves_later = running.leaves_later;
}

-- ---- lists of which the first that passes a test is changed

-- facts of the one found, once it is changed, and of the others
Each-change_both : {X : Type 0} (P Q : X → Type 0) (test : X → Bool) (change : X → X) (xs : List X) → ((x : X) → P x → Q x) → ((x : X) → find test xs ≡ Some x → P x → Q (change x)) → Each P xs → Each Q (change_first test change xs)
unfolding change_first
Each-change_both P Q test change [] other changed each = tt
Each-change_both P Q test change (x ∷ xs) other changed each =
    elim (cases_Bool (test x)) [
      | inl passed ↦ (let now = changed x (rw passed refl) each.0 in rw passed (now, Each-if P Q xs other each.1))
      | inr failed ↦ (let rest = Each-change_both P Q test change xs other (λ y found. changed y (rw failed found)) each.1 in rw failed (other x each.0, rest))
    ]

-- a sum of which no part grows, and that of the one found falls
total-change_drop : {X : Type 0} (f g : X → ℕ) (test : X → Bool) (change : X → X) (x : X) (xs : List X) → ((y : X) → g y ≤ f y) → find test xs ≡ Some x → suc (g (change x)) ≤ f x → suc (total g (change_first test change xs)) ≤ total f xs
unfolding change_first
total-change_drop f g test change x [] less found drop = cc
total-change_drop f g test change x (y ∷ xs) less found drop =
    elim (cases_Bool (test y)) [
      | inl passed ↦ (
          let same = same_Some y x (rw passed at found) in
          let d : suc (g (change y)) ≤ f y = subst (λ z. suc (g (change z)) ≤ f z) (sym same) drop in
          let rest = total-le g f xs (λ k d inside. less (get_or xs k d)) in
          rw passed (omega (arith, d, rest)))
      | inr failed ↦ (
          let rest = total-change_drop f g test change x xs less (rw failed at found) drop in
          rw failed (omega (arith, rest, less y)))
    ]

-- ---- an arrive

-- the account with the packet taken
arrival-sound : (shape : LinkShape) (room : ℕ) (k : Account) (packet : Packet) (clock eligible : ℕ) (found : Option AccountRow) → PacketFits packet → IsSound shape room k → find (is_account_of packet.chan) k.rows ≡ found → Is.Taken clock eligible ≡ account_arrive shape k.clock k.here packet found → IsSound shape room (account_with_arrival packet k found)
unfolding account_with_arrival places
arrival-sound shape room k packet clock eligible None fits sound found same = sound
arrival-sound shape room k packet clock eligible (Some row) fits sound found same =
    let levels : ℕ = length shape.bounds in
    let place : ℕ = suc k.taken in
    let new : Arrival = account_arrived k.clock place packet row in
    let longer = length_push k.here new in
    let leads = packets-lead levels k.taken k.here sound.packets in
    let one = Each-find (IsSoundRow levels k.clock k.taken) (is_account_of packet.chan) k.rows row sound.rows found in
    let tells = arrive-tells shape.bounds k.clock packet row.terms row.taken (held_packets row.lead k.here) (account_arrived_tick k.clock packet row) clock eligible same in
    let chans : List Arrival = of_channels shape.bounds k.here in
    let held = held-taken row.lead place chans [] new [] (channels-lead shape.bounds k.here leads) refl in
    record {
      taken_most = omega (arith, sound.taken_most, longer);
      numbered = numbered-append 0 k.taken place k.here (new ∷ []) sound.numbered (omega arith, omega arith);
      packets = Each-append (IsSoundPacket levels place) k.here (new ∷ []) (packets-more levels k.taken place k.here (omega arith) sound.packets)
          (packet-sound levels k.clock k.taken place place packet.number packet.size k.clock (account_arrived_tick k.clock packet row) row (omega arith) (omega arith) (omega arith) fits.size_least fits.size_most one, tt);
      apart = AreApart-taken (is_account_of packet.chan) (account_arrived_row k.clock place packet) place (λ r. refl) k.rows (Each-if (IsSoundRow levels k.clock k.taken) (λ r. r.lead < place) k.rows (λ r each. omega (arith, each.lead_most)) sound.rows) sound.apart;
      rows = Each-change_both (IsSoundRow levels k.clock k.taken) (IsSoundRow levels k.clock place) (is_account_of packet.chan) (account_arrived_row k.clock place packet) k.rows
          (λ r each. more-sound levels k.clock k.taken place r (omega arith) each)
          (λ r is each. taken-sound levels k.clock k.taken place place (account_arrived_tick k.clock packet r) r (omega arith) (omega arith) (omega (arith, each.taken_most)) each)
          sound.rows;
      fits = (let drop = total-change_drop (places_of shape.bounds chans) (places_of shape.bounds (chans ++ new ∷ [])) (is_account_of packet.chan) (account_arrived_row k.clock place packet) row k.rows (places-more shape.bounds chans (new ∷ [])) found (places-taken shape.bounds chans (chans ++ new ∷ []) place (account_arrived_tick k.clock packet row) row (omega (arith, tells.free, held-channels shape.bounds k.here row.lead)) held) in
          rw (channels-more shape.bounds k.here (new ∷ []) (one.level_most, tt)) (omega (arith, drop, length_push chans new, sound.fits)));
      best_few = omega (arith, best-more shape.bounds k.here (new ∷ []) (one.level_most, tt), sound.best_few);
      best_ahead = sound.best_ahead;
      running = λ start on. running-more shape.rate k.clock k.here (new ∷ []) start (sound.running start on);
    }

pub sound-arrive : (shape : LinkShape) (room : ℕ) (k : Account) (packet : Packet) (reply : Reply) → PacketFits packet → IsSound shape room k → reply ≡ account_reply (whole shape) k (Arrive packet) → IsSound shape room (account_after shape k (Arrive packet) reply)
unfolding account_after account_reply
sound-arrive shape room k packet (Is.Taken clock eligible) fits sound same =
    arrival-sound shape room k packet clock eligible (find (is_account_of packet.chan) k.rows) fits sound refl same
sound-arrive shape room k packet _ fits sound same = sound
