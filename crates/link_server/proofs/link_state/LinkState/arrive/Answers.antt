-- The row of the packet's channel is found, and judges it; the row takes it, and it is put after those here.
use Rattle.std.proofs.Common.{◌≡◌, ◌++◌, ◌∷◌, [], ◌+◌, ◌<◌, ◌≤◌, ◌^◌, ℕ, Option, None, Some, suc, refl, sym, ap, ◌∙◌, subst, arith}
use Rattle.link_server.proofs.Words.{find, newest, Arrive, Each, Packet, LinkShape, LinkState, whole, account, QueueAccount, RowRests, TableAccount, account_in}
use Rattle.link_steps.specs.declared.replies.Reply.TheVariants.{Taken}
use Rattle.link_steps.specs.Account.{Account, AccountRow, is_account_of, account_reply, account_after, account_arrived, account_arrived_row, account_arrived_tick, account_with_arrival}
use Rattle.link_steps.proofs.AccountOfRows.{eligible-from}
use Rattle.link_steps.specs.Lists.{change_first}
use Rattle.link_server.specs.Changes.{HasPlace, HasRow, TakesAs, arrive_rule}
use Rattle.link_server.specs.Packets.{arrival_in}
use Rattle.link_server.specs.Resting.{RestsFromClock}
use Rattle.link_server.specs.Stood.{IsStood}
use Rattle.link_server.specs.Sound.{IsSound}
use Rattle.link_server.proofs.Replies.Arrive.{arrive-refused, arrive-taken, arrive-same, arrive-kept, arrive-room, arrive-soon}
use Rattle.link_server.specs.Departed.{AreCounted}
use Rattle.link_server.proofs.Departed.Packets.{counted-arrived}
use Rattle.link_server.proofs.Departed.Tick.{rows-led, sound-led}
use Rattle.link_steps.specs.Quiet.{ServiceRests}
use Rattle.link_server.proofs.Sound.Taking.{sound-arrive}
use Rattle.link_server.proofs.Sound.Stood.{all-ready, newest-stood, numbers-left, still-stood}
use Rattle.link_server.proofs.RowsOfTable.Parts.{still-of}
use Rattle.link_server.proofs.link_state.LinkState.arrive.Goals as goal
use Rattle.link_server.proofs.link_state.LinkState.arrive.Goals.{In-Ok, After-push}

-- the clock stays
arrive-clock : (shape : LinkShape) (k : Account) (packet : Packet) (e : ℕ) → k.clock < 2 ^ 61 → (account_after shape k (Arrive packet) (Taken k.clock e)).clock < 2 ^ 61
unfolding account_after account_with_arrival
arrive-clock shape k packet e early = same-clock (find (is_account_of packet.chan) k.rows) where
  same-clock : (row : Option AccountRow) → (account_with_arrival packet k row).clock < 2 ^ 61
  same-clock None = early
  same-clock (Some row) = early

-- the bounds of the table are those of the link
bounds-is : (link : LinkState) → link.table.server.bounds ≡ link.shape.bounds
bounds-is link = ap (λ (table : TableAccount). table.server.bounds) link.of_shape

-- a row with a place for the packet has one by the account
unrefused : (link : LinkState) (packet : Packet) (row : AccountRow) → HasPlace link.table packet row → None ≡ arrive_rule link.shape.bounds link.queue.here packet (Some row)
unrefused link packet row placed = subst (λ bounds. None ≡ arrive_rule bounds link.queue.here packet (Some row)) (bounds-is link) (placed link.queue.here link.counted)

-- ---- the row judges the packet

pub overflow_add-number : goal.overflow_add-number
overflow_add-number c =
    let few = numbers-left c.args.self.now c.requires.early in
    omega (arith, few, c.taken-number.ensures)

pub take-requires-clause-ready : goal.take-requires-clause-ready
take-requires-clause-ready c = all-ready c.args.self.now c.requires.early

pub take-requires-clause-soon : goal.take-requires-clause-soon
take-requires-clause-soon c = λ row found placed.
    let link = c.args.self.now in
    let packet = c.args.packet.now in
    let tick = account_arrived_tick link.clock packet row in
    let reply = arrive-taken link.shape (account_in link) packet row tick found (unrefused link packet row placed) refl in
    let soon = newest-stood link.shape (account_after link.shape (account_in link) (Arrive packet) (Taken link.clock tick)) (arrive-clock link.shape (account_in link) packet tick c.requires.early) (still-stood link (Arrive packet) (Taken link.clock tick) _ c.requires.fits reply refl) in
    let number : suc link.queue.taken ≡ c.taken-number.result + 1 = omega (arith, c.taken-number.ensures) in
    subst (λ n. newest (account_arrived_row link.clock n packet row).recent < 2 ^ 63) number (arrive-soon link.shape tick (account_in link) packet row found soon)

-- ---- where it refuses it

pub returns-in-Err-clause-reply : goal.returns-in-Err-clause-reply
returns-in-Err-clause-reply c =
    let link = c.args.self.now in
    let packet = c.args.packet.now in
    arrive-refused link.shape (account_in link) packet c.in-Err.refusal
    (subst (λ bounds. Some c.in-Err.refusal ≡ arrive_rule bounds link.queue.here packet (find (is_account_of packet.chan) link.table.rows)) (bounds-is link) (c.in-Err.ensures.refused link.queue.here link.counted))

pub returns-in-Err-clause-kept : goal.returns-in-Err-clause-kept
returns-in-Err-clause-kept c =
    ap (λ (table : TableAccount). account c.args.self.now.clock c.args.self.now.queue table.rows) c.in-Err.ensures.same
    ∙ arrive-same c.args.self.now.shape _ c.args.packet.now _

-- the table is as it was
pub invariant_of-self-in-Err-1 : goal.invariant_of-self-in-Err-1
invariant_of-self-in-Err-1 c =
    let link = c.args.self.now in
    let same = sym c.in-Err.ensures.same in
    record {
      of_shape = still-of link c.take.new.self (ap (λ (table : TableAccount). table.server) c.in-Err.ensures.same) (ap (λ (table : TableAccount). table.buffer) c.in-Err.ensures.same);
      looked = (subst (λ (table : TableAccount). table.looked ≤ link.clock) same link.looked.0, link.looked.1);
      few = link.few;
      same_bounds = link.same_bounds;
      same_rate = link.same_rate;
      sound = subst (λ (table : TableAccount). IsSound link.shape link.queue.room (account link.clock link.queue table.rows)) same link.sound;
      stood = subst (λ (table : TableAccount). IsStood link.shape (account link.clock link.queue table.rows)) same link.stood;
      counted = subst (λ (table : TableAccount). AreCounted link.queue.here table.rows table.departed) same link.counted;
      rests = subst (λ (table : TableAccount). RestsFromClock link.shape link.due (account link.clock link.queue table.rows)) same link.rests;
    }

-- ---- where it takes it

-- the row
has : (c : In-Ok) → HasRow (TakesAs c.args.self.now.clock (c.taken-number.result + 1) c.args.packet.now c.args.self.now.table (arrival_in c.in-Ok.taken)) c.args.packet.now.chan c.args.self.now.table.rows
has c = c.in-Ok.ensures.taken

-- the packet is the account's
arrived : (c : In-Ok) → arrival_in c.in-Ok.taken ≡ account_arrived c.args.self.now.clock (suc c.args.self.now.queue.taken) c.args.packet.now (has c).row
arrived c =
    let number : c.taken-number.result + 1 ≡ suc c.args.self.now.queue.taken = omega (arith, c.taken-number.ensures) in
    (has c).holds.is ∙ ap (λ n. account_arrived c.args.self.now.clock n c.args.packet.now (has c).row) number

-- the reply is the account's
replied : (c : In-Ok) → Taken c.args.self.now.clock c.in-Ok.taken.eligible ≡ account_reply (whole c.args.self.now.shape) (account_in c.args.self.now) (Arrive c.args.packet.now)
replied c =
    arrive-taken c.args.self.now.shape (account_in c.args.self.now) c.args.packet.now (has c).row c.in-Ok.taken.eligible (has c).found (unrefused c.args.self.now c.args.packet.now (has c).row (has c).holds.placed) (ap (λ p. p.eligible) (arrived c))

sound : (c : In-Ok) → IsSound c.args.self.now.shape c.args.self.now.queue.room (account_after c.args.self.now.shape (account_in c.args.self.now) (Arrive c.args.packet.now) (Taken c.args.self.now.clock c.in-Ok.taken.eligible))
sound c =
    sound-arrive c.args.self.now.shape c.args.self.now.queue.room (account_in c.args.self.now) c.args.packet.now (Taken c.args.self.now.clock c.in-Ok.taken.eligible) c.requires.fits c.args.self.now.sound (replied c)

pub push-requires-clause-room : goal.push-requires-clause-room
push-requires-clause-room c =
    let at = (goal.at.push-requires-clause-room c).In-Ok in
    arrive-room c.args.self.now.shape c.args.self.now.queue.room c.in-Ok.taken.eligible (account_in c.args.self.now) c.args.packet.now (has at).row (has at).found (sound at)

pub push-requires-clause-next : goal.push-requires-clause-next
push-requires-clause-next c = (let place = ap (λ p. p.place) (arrived (goal.at.push-requires-clause-next c).In-Ok) in omega (arith, place))

pub push-requires-clause-countable : goal.push-requires-clause-countable
push-requires-clause-countable c = numbers-left c.args.self.now c.requires.early

pub push-requires-clause-eligible : goal.push-requires-clause-eligible
push-requires-clause-eligible c =
    let at = (goal.at.push-requires-clause-eligible c).In-Ok in
    let own = ap (λ p. p.eligible) (arrived at) in
    let from = eligible-from (has at).row.terms (has at).row.recent c.args.self.now.clock c.args.packet.now.due in
    omega (arith, own, from)

-- what is kept is the account's
kept : (c : After-push) → account c.args.self.now.clock c.push.new.self c.take.new.self.rows ≡ account_after c.args.self.now.shape (account_in c.args.self.now) (Arrive c.args.packet.now) (Taken c.args.self.now.clock c.in-Ok.taken.eligible)
kept c =
    let link = c.args.self.now in
    let packet = c.args.packet.now in
    let at = (goal.at.After-push c).In-Ok in
    let number : c.taken-number.result + 1 ≡ suc link.queue.taken = omega (arith, c.taken-number.ensures) in
    ap (account link.clock c.push.new.self) (ap (λ (table : TableAccount). table.rows) c.in-Ok.ensures.table ∙ ap (λ n. change_first (is_account_of packet.chan) (account_arrived_row link.clock n packet) link.table.rows) number)
    ∙ arrive-kept link.shape link.clock c.in-Ok.taken.eligible link.queue c.push.new.self packet link.table.rows (has at).row c.in-Ok.taken (has at).found (arrived at) c.push.ensures.kept

pub invariant_of-self : goal.invariant_of-self
invariant_of-self c =
    let link = c.args.self.now in
    let at = goal.at.invariant_of-self c in
    let row = has at.In-Ok in
    let reply = replied at.In-Ok in
    let after = kept at.After-push in
    let room : c.push.new.self.room ≡ link.queue.room = ap (λ (queue : QueueAccount). queue.room) c.push.ensures.kept in
    let few = link.few in
    let took = c.in-Ok.ensures.table in
    record {
      of_shape = still-of link c.take.new.self (ap (λ (table : TableAccount). table.server) took) (ap (λ (table : TableAccount). table.buffer) took);
      looked = (let looked = ap (λ (table : TableAccount). table.looked) took in omega (arith, looked), c.push.ensures.looked);
      few = omega (arith, few, room);
      same_bounds = ap (λ (queue : QueueAccount). queue.bounds) c.push.ensures.kept ∙ link.same_bounds;
      same_rate = ap (λ (queue : QueueAccount). queue.rate) c.push.ensures.kept ∙ link.same_rate;
      sound =
          subst (λ n. IsSound link.shape n (account link.clock c.push.new.self c.take.new.self.rows)) (sym room)
          (subst (IsSound link.shape link.queue.room) (sym after) (sound at.In-Ok));
      stood = still-stood link (Arrive c.args.packet.now) (Taken link.clock c.in-Ok.taken.eligible) _ c.requires.fits reply after;
      counted =
          let now = link.queue.here ++ account_arrived link.clock (suc link.queue.taken) c.args.packet.now row.row ∷ [] in
          subst (λ all. AreCounted all c.take.new.self.rows c.take.new.self.departed) (sym (ap (λ (queue : QueueAccount). queue.here) c.push.ensures.kept ∙ ap (λ p. link.queue.here ++ p ∷ []) (arrived at.In-Ok)))
          (subst (λ (table : TableAccount). AreCounted now table.rows table.departed) (sym took)
          (subst (λ n. AreCounted now (change_first (is_account_of c.args.packet.now.chan) (account_arrived_row link.clock n c.args.packet.now) link.table.rows) link.table.departed) (omega (arith, c.taken-number.ensures))
          (counted-arrived link.clock link.queue.taken c.args.packet.now link.queue.here link.table.rows link.table.departed row.row
          (sound-led _ link.queue.taken link.queue.here link.sound.packets) link.sound.apart (rows-led _ link.clock link.queue.taken link.table.rows link.sound.rows) row.found link.counted)));
      rests = λ before. record {
        rows =
            subst (λ bounds. Each (RowRests bounds link.clock c.due_after-self.result) c.take.new.self.rows) (ap (λ (table : TableAccount). table.server.bounds) took ∙ bounds-is link)
            (c.due_after-self.ensures.rows before link.clock (let looked = ap (λ (table : TableAccount). table.looked) took in omega (arith, looked)));
        best = c.due_after-self.ensures.best before;
        service =
            subst (λ rate. ServiceRests rate c.due_after-self.result c.push.new.self.here c.push.new.self.on) (ap (λ (queue : QueueAccount). queue.rate) c.push.ensures.kept ∙ link.same_rate)
            (c.due_after-self.ensures.service before);
      };
    }

pub returns-in-Ok-clause-reply : goal.returns-in-Ok-clause-reply
returns-in-Ok-clause-reply c = replied (goal.at.returns-in-Ok-clause-reply c).In-Ok

pub returns-in-Ok-clause-kept : goal.returns-in-Ok-clause-kept
returns-in-Ok-clause-kept c = kept (goal.at.returns-in-Ok-clause-kept c).After-push
