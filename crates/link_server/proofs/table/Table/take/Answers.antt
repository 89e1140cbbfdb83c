-- The channel's row takes the packet, and where that was the last one the tick by which its hold ends comes on the calendar.
use Rattle.std.proofs.Common.{None, Some, List, ℕ, suc, true, ◌≡◌, ◌+◌, ◌-◌, ◌^◌, ◌<◌, ◌≤◌, get_or, length, map, refl, set, sym, ap, ◌∙◌, subst, arith}
use Rattle.std.proofs.lemmas.List.{length-set}
use Rattle.std.proofs.Math.Seq.{map-set_same}
use Rattle.link_server.specs.KeyedList.{position}
use Rattle.link_server.proofs.Words.{find, is_account_of, Packet, Reservation, whole_of, channel_number, newest, Closing, AccountRow, account_arrived_row, is_phase, arrival_at, TableAccount, IsWithinLevels, reservation_in, row_in, ServedRow}
use Rattle.link_steps.specs.Regulator.{eligible_next}
use Rattle.link_steps.specs.Buffer.{held_packets}
use Rattle.link_steps.proofs.SearchAndFilter.{Each-find}
use Rattle.link_steps.specs.Service.{Arrival}
use Rattle.link_server.specs.Changes.{HasPlace, arrive_rule}
use Rattle.link_server.specs.Sources.{IsReady}
use Rattle.link_server.specs.Strays.{arrive_refusal, stray}
use Rattle.link_server.specs.Departed.{AreCounted, IsCounted, departed_in}
use Rattle.link_server.proofs.Departed.Rows.{counted-at, held-here}
use Rattle.link_server.specs.Holds.{is_open, IsListed, PlansNone}
use Rattle.link_server.specs.Keeping.{IsKeeping}
use Rattle.link_server.specs.Plans.{IsTold}
use Rattle.link_server.proofs.Replies.Arrive.{next-number, placed-stray}
use Rattle.link_server.proofs.Calendars.HoldRows.{listed-put, open-room}
use Rattle.link_server.proofs.Calendars.HoldSteps.{stray-open}
use Rattle.link_server.proofs.Calendars.Expiry.{each-at}
use Rattle.link_server.proofs.RowsOfTable.Placed.{changed-mapped, found-at}
use Rattle.link_server.proofs.Calendars.Plans.{told-same}
use Rattle.link_server.proofs.Calendars.PlanRows.{planned-set, planned-later, same-idle}
use Rattle.link_server.proofs.LinkRests.{listed-later}
use Rattle.link_server.proofs.RowsOfTable.Parts.{index-still, bounds-seen, none-seen, row-seen, IsRowAt, fixed, fixed_in, parts-still, row-at, table-same}
use Rattle.link_server.proofs.table.Table.take.Goals as goal
use Rattle.link_server.proofs.table.Table.take.Goals.{After-index, In_default-arrive_refusal, After-index_mut-row, After-take-taken}

-- the channel's row, as it is found
seen : (c : After-index) → find (is_account_of c.args.packet.now.chan) c.args.self.now.rows ≡ Some (row_in c.index.result.now)
seen c = row-seen c.self.inside c.args.self.now c.args.packet.now.chan (position c.self.inside.rows.keys c.in-Some.key) c.index.result.now c.self.view_is c.in-Some.ensures.some c.index.ensures

-- it can make the step of the tick
ready : (c : After-index) → IsReady c.args.clock (row_in c.index.result.now)
ready c = Each-find (IsReady c.args.clock) (is_account_of c.args.packet.now.chan) c.args.self.now.rows (row_in c.index.result.now) c.requires.ready (seen c)

pub arrive_refusal-requires-clause-few : goal.arrive_refusal-requires-clause-few
arrive_refusal-requires-clause-few c = (ready (goal.at.arrive_refusal-requires-clause-few c).After-index).few

pub arrive_refusal-requires-clause-within : goal.arrive_refusal-requires-clause-within
arrive_refusal-requires-clause-within c =
    let t = c.self.inside in
    subst (IsWithinLevels (length t.bounds)) (sym c.index.ensures) (c.self.invariant.parts.within (position t.rows.keys c.in-Some.key) c.index.result.now c.in-Some.ensures.some.inside)

-- what it counts of those here
counts : (c : After-index) (here : List Arrival) → AreCounted here c.args.self.now.rows c.args.self.now.departed → c.index.result.now.taken - c.index.result.now.departed ≡ held_packets c.index.result.now.lead here
counts c here each =
    let rows = c.self.inside.rows.items in
    let was = subst (λ (table : TableAccount). AreCounted here table.rows table.departed) (sym c.self.view_is) each in
    held-here here c.index.result.now (subst (λ (row : ServedRow). IsCounted here (row_in row) row.departed) (sym c.index.ensures) (counted-at here rows (position c.self.inside.rows.keys c.in-Some.key) c.index.result.now c.in-Some.ensures.some.inside was))

-- so its refusal is that of the account
rule : (c : After-index) (here : List Arrival) → AreCounted here c.args.self.now.rows c.args.self.now.departed
    → arrive_refusal c.self.inside.bounds c.args.packet.now (reservation_in c.index.result.now) c.index.result.now.taken (c.index.result.now.taken - c.index.result.now.departed) ≡ arrive_rule c.args.self.now.server.bounds here c.args.packet.now (Some (row_in c.index.result.now))
rule c here each =
    let t = c.self.inside in
    let row = c.index.result.now in
    ap (arrive_refusal t.bounds c.args.packet.now (reservation_in row) row.taken) (counts c here each)
    ∙ ap (λ bounds. arrive_rule bounds here c.args.packet.now (Some (row_in row))) (bounds-seen t c.args.self.now c.self.invariant c.self.view_is)

-- ---- where the packet is refused

pub returns-in_default-clause-refused : goal.returns-in_default-clause-refused
returns-in_default-clause-refused c = λ here each. ap (arrive_rule c.args.self.now.server.bounds here c.args.packet.now) (sym (none-seen c.self.inside c.args.self.now c.args.packet.now.chan c.self.view_is c.in_default.ensures.none))

pub returns-in-Some-arrive_refusal-clause-refused : goal.returns-in-Some-arrive_refusal-clause-refused
returns-in-Some-arrive_refusal-clause-refused c = λ here each.
    let at = (goal.at.returns-in-Some-arrive_refusal-clause-refused c).After-index in
    c.in-Some-arrive_refusal.ensures ∙ rule at here each ∙ ap (arrive_rule c.args.self.now.server.bounds here c.args.packet.now) (sym (seen at))

-- ---- where the row takes it

placed : (c : In_default-arrive_refusal) → HasPlace c.args.self.now c.args.packet.now (row_in c.index.result.now)
placed c = λ here each. c.in_default-arrive_refusal.ensures ∙ rule (goal.at.In_default-arrive_refusal c).After-index here each

-- the row as it was, which is open
abbrev was : After-index_mut-row → ServedRow
was c = get_or c.self.inside.rows.items (position c.self.inside.rows.keys c.in-Some.key) c.index_mut-row.result.now

-- it may take the packet
record MayTake (clock number : ℕ) (packet : Packet) (table : TableAccount) (row : AccountRow) : Type 0 where
  pub placed : HasPlace table packet row
  pub no_stray : None ≡ stray packet row.terms row.taken
  pub last : newest row.recent < 2 ^ 63
  pub soon : newest (account_arrived_row clock number packet row).recent < 2 ^ 63
  pub few : row.taken + 1 < 2 ^ 64

may : (c : After-index_mut-row) → IsRowAt (MayTake c.args.clock c.args.number c.args.packet.now c.args.self.now) c.self.inside (position c.self.inside.rows.keys c.in-Some.key) c.index_mut-row.result.now
may c =
    let at = goal.at.After-index_mut-row c in
    let row = row_in c.index.result.now in
    let one = ready at.After-index in
    row-at (MayTake c.args.clock c.args.number c.args.packet.now c.args.self.now) c.self.inside c.args.self.now c.args.packet.now.chan (position c.self.inside.rows.keys c.in-Some.key) c.index_mut-row.result.now c.self.view_is c.in-Some.ensures.some
    (record {
      row = row;
      found = seen at.After-index;
      holds = record {
        placed = placed at.In_default-arrive_refusal;
        no_stray = placed-stray c.self.inside.bounds c.args.packet.now row.terms row.taken _ c.in_default-arrive_refusal.ensures;
        last = one.last;
        soon = c.requires.soon row (seen at.After-index) (placed at.In_default-arrive_refusal);
        few = one.few;
      };
    })

opened : (c : After-index_mut-row) → is_open (row_in (was c)) ≡ true
opened c = stray-open c.args.packet.now (row_in (was c)) (may c).is.no_stray

-- a row that takes the packet is at a later hop
later-hop : (packet : Packet) (terms : Reservation) (taken : ℕ) → None ≡ stray packet terms taken → terms.first ≡ true → packet.due ≡ 0
later-hop packet terms taken placed first = absurd (let none = rw first at placed in cc)

pub take-taken-requires-clause-hop : goal.take-taken-requires-clause-hop
take-taken-requires-clause-hop c = λ first.
    later-hop c.args.packet.now (reservation_in (was (goal.at.take-taken-requires-clause-hop c).After-index_mut-row)) _ (may (goal.at.take-taken-requires-clause-hop c).After-index_mut-row).is.no_stray
    (sym (ap (λ (row : ServedRow). row.first) c.index_mut-row.ensures.value) ∙ first)

pub take-taken-requires-clause-last : goal.take-taken-requires-clause-last
take-taken-requires-clause-last c = subst (λ (row : ServedRow). newest (row_in row).recent < 2 ^ 63) (sym c.index_mut-row.ensures.value) (may (goal.at.take-taken-requires-clause-last c).After-index_mut-row).is.last

pub take-taken-requires-clause-few : goal.take-taken-requires-clause-few
take-taken-requires-clause-few c = subst (λ (row : ServedRow). row.taken + 1 < 2 ^ 64) (sym c.index_mut-row.ensures.value) (may (goal.at.take-taken-requires-clause-few c).After-index_mut-row).is.few

-- as it is changed
same : (c : After-take-taken) → row_in c.take-taken.new.self ≡ account_arrived_row c.args.clock c.args.number c.args.packet.now (row_in (get_or c.self.inside.rows.items (position c.self.inside.rows.keys c.in-Some.key) c.index_mut-row.result.now))
same c = c.take-taken.ensures.row ∙ ap (λ row. account_arrived_row c.args.clock c.args.number c.args.packet.now (row_in row)) c.index_mut-row.ensures.value

pub put_hold-requires-clause-room : goal.put_hold-requires-clause-room
put_hold-requires-clause-room c =
    let at = (goal.at.put_hold-requires-clause-room c).After-index_mut-row in
    open-room c.self.inside.bounds c.self.inside.looked c.self.inside.holds c.self.inside.rows.items (position c.self.inside.rows.keys c.in-Some.key) c.index_mut-row.result.now c.self.invariant.listed (may at).inside (opened at)

pub put_hold-requires-clause-last : goal.put_hold-requires-clause-last
put_hold-requires-clause-last c =
    let at = goal.at.put_hold-requires-clause-last c in
    subst (λ n. n < 2 ^ 63) (sym (c.take-taken.new.self.newest ∙ ap (λ row. newest row.recent) (same at.After-take-taken))) (may at.After-index_mut-row).is.soon

pub invariant_of-self : goal.invariant_of-self
invariant_of-self c =
    let t = c.self.inside in
    let is = c.self.invariant in
    let at = goal.at.invariant_of-self c in
    let row = may at.After-index_mut-row in
    let changed = same at.After-take-taken in
    let items = t.rows.items in
    let i = (position c.self.inside.rows.keys c.in-Some.key) in
    let new = c.take-taken.new.self in
    let d = c.index_mut-row.result.now in
    let terms = ap (λ row. row.terms) changed in
    let seen = ap (λ (table : TableAccount). table.looked) c.self.view_is in
    let later : t.looked ≤ c.args.clock = omega (arith, seen, c.requires.looked) in
    let turns = is.turns in
    let long = length-set items i new in
    record {
      same_bounds = is.same_bounds;
      parts =
          parts-still (whole_of t.keeping.budget) t.bounds (set items i new) items t.sums t.keeping is.parts (map-set_same fixed_in items i new d (ap fixed terms))
          (subst (IsKeeping (whole_of t.keeping.budget) t.bounds t.keeping) (sym (map-set_same reservation_in items i new d terms)) is.parts.keeps);
      indexed = index-still t.index.keys.items t.rows.keys (set items i new) items is.indexed (map-set_same fixed_in items i new d (ap fixed terms));
      listed =
          listed-put t.bounds c.args.clock t.holds c.put_hold.new.holds items i new d (listed-later t.bounds t.looked c.args.clock t.holds (map row_in items) later is.listed) row.inside (opened at.After-index_mut-row)
          c.put_hold.ensures.clock c.put_hold.ensures.others
          (c.put_hold.ensures.own (subst PlansNone (sym changed) (each-at (IsListed t.bounds t.looked t.holds.entries) items i d row.inside is.listed.listed).plans_none)) c.put_hold.ensures.room;
      small = is.small;
      planned =
          planned-later t.looked c.args.clock t.plans.calendar _ later
          (planned-set t.looked t.plans.calendar items i new d is.planned row.inside
          (told-same t.plans.calendar.entries (row_in new) (row_in (get_or items i d)) (ap (λ row. row.left) changed) (ap (λ row. channel_number row.terms.chan) changed) (each-at (IsTold t.plans.calendar.entries) items i d row.inside is.planned.told))
          (same-idle (row_in new) (row_in (get_or items i d)) (ap (λ row. row.left) changed) (ap (λ row. is_phase row.terms.phase Closing) changed)));
      turns = omega (arith, turns, long);
    }

pub returns-clause-table : goal.returns-clause-table
returns-clause-table c =
    let at = goal.at.returns-clause-table c in
    rw (← c.self.view_is) (table-same _ _ (changed-mapped c.args.packet.now.chan (account_arrived_row c.args.clock c.args.number c.args.packet.now) c.self.inside.rows.items (position c.self.inside.rows.keys c.in-Some.key) c.take-taken.new.self c.index_mut-row.result.now c.in-Some.ensures.some (same at.After-take-taken)) (map-set_same departed_in c.self.inside.rows.items (position c.self.inside.rows.keys c.in-Some.key) c.take-taken.new.self c.index_mut-row.result.now (c.take-taken.ensures.departed ∙ ap departed_in c.index_mut-row.ensures.value)) refl refl refl)

-- as the packet of the account
pub returns-clause-taken : goal.returns-clause-taken
returns-clause-taken c =
    let row = may (goal.at.returns-clause-taken c).After-index_mut-row in
    let was = get_or c.self.inside.rows.items (position c.self.inside.rows.keys c.in-Some.key) c.index_mut-row.result.now in
    let packet = c.args.packet.now in
    let tick = λ (row : ServedRow). eligible_next (reservation_in row) (row_in row).recent c.args.clock packet.due in
    record {
      row = row_in was;
      found = subst (λ (table : TableAccount). find (is_account_of packet.chan) table.rows ≡ Some (row_in was)) c.self.view_is (found-at packet.chan c.self.inside.rows.items (position c.self.inside.rows.keys c.in-Some.key) c.index_mut-row.result.now c.in-Some.ensures.some);
      holds = record {
        placed = row.is.placed;
        is =
            c.take-taken.ensures.packet
            ∙ ap (λ (row : ServedRow). arrival_at (reservation_in row) row.lead c.args.number (suc row.taken) packet.size c.args.clock (tick row)) c.index_mut-row.ensures.value
            ∙ ap (λ n. arrival_at (reservation_in was) was.lead c.args.number n packet.size c.args.clock (tick was)) (sym (next-number packet (reservation_in was) was.taken row.is.no_stray));
      };
    }
