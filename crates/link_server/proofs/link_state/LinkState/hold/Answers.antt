-- There is room for the packets of the row, and the row comes into the table.
use Rattle.std.proofs.Common.{◌≡◌, ◌+◌, ◌≤◌, suc, length, refl, sym, ap, ◌∙◌, subst, arith}
use Rattle.link_server.proofs.Words.{AccountRow, total, Offer, slots_of, account_after, account, QueueAccount, TableAccount, reservation_in, row_in, IsWithinLevels, account_in}
use Rattle.link_steps.proofs.ReservationFound.{may-reach}
use Rattle.link_server.specs.Held.{reservations_held}
use Rattle.link_server.specs.Resting.{RestsFromClock}
use Rattle.link_server.specs.Sound.{IsSound, all_places_of, most_places}
use Rattle.link_server.specs.Stood.{IsStood}
use Rattle.link_server.specs.Wants.{ask_for}
use Rattle.link_server.proofs.Replies.Setup.{reserve-kept}
use Rattle.link_server.proofs.Replies.Holding.{held_terms, may-add, sound-held}
use Rattle.link_server.specs.Departed.{AreCounted}
use Rattle.link_server.proofs.Departed.Packets.{new-counted}
use Rattle.link_server.proofs.Departed.Rows.{counted-added, counted-still}
use Rattle.link_server.proofs.Sound.Packets.{packets-lead}
use Rattle.link_server.proofs.LinkRests.{due-now}
use Rattle.link_server.proofs.Sound.Room.{most_places-are}
use Rattle.link_server.proofs.Sound.Setup.{sound-larger}
use Rattle.link_server.proofs.EveryHistoryAgrees.{rows-have}
use Rattle.link_server.proofs.Sound.Stood.{rows-few, stood-offered}
use Rattle.link_server.proofs.RowsOfTable.Sums.{within-reserved}
use Rattle.link_server.proofs.RowsOfTable.Parts.{still-of}
use Rattle.link_server.proofs.link_state.LinkState.hold.Goals as goal
use Rattle.link_server.proofs.link_state.LinkState.hold.Goals.{In_ok-add}
use Rattle.net_units.proofs.ByCases.{on-err}

pub places_with-requires : goal.places_with-requires
places_with-requires c =
    let link = c.args.self.now in
    let wanted = c.args.wanted.now in
    let offer = c.args.offer.now in
    record {
      within =
          subst (λ n. IsWithinLevels n c.in_ok-row.row) (sym (ap (λ (table : TableAccount). length table.server.bounds) link.of_shape))
          (within-reserved _ c.in_ok-row.row (held_terms wanted offer) c.in_ok-row.ensures.row c.requires.may.level_most
          (may-reach link.shape (reservations_held link) wanted.chan wanted.contract wanted.delay wanted.up_reach offer.level offer.reach c.requires.may));
    }

pub add-requires-clause-few : goal.add-requires-clause-few
add-requires-clause-few c = rows-few c.args.self.now

pub add-requires-clause-may : goal.add-requires-clause-may
add-requires-clause-may c = may-add c.args.self.now.shape c.args.self.now.table c.args.wanted.now c.args.offer.now (row_in c.in_ok-row.row) c.args.self.now.of_shape c.requires.may c.in_ok-row.ensures.row

-- the queue has more room, whether the table takes the row or not
pub invariant_of-self : goal.invariant_of-self
invariant_of-self c =
    let link = c.args.self.now in
    let kept = c.reserve.ensures.kept in
    record {
      of_shape = link.of_shape;
      looked = (link.looked.0, let was = link.looked.1 in let looked = ap (λ (queue : QueueAccount). queue.looked) kept in omega (arith, was, looked));
      few = c.reserve.ensures.small link.few;
      same_bounds = ap (λ (queue : QueueAccount). queue.bounds) kept ∙ link.same_bounds;
      same_rate = ap (λ (queue : QueueAccount). queue.rate) kept ∙ link.same_rate;
      sound = subst (λ (queue : QueueAccount). IsSound link.shape c.reserve.new.self.room (account link.clock queue link.table.rows)) (sym kept) (sound-larger link.shape link.queue.room c.reserve.new.self.room (account_in link) c.reserve.ensures.grows link.sound);
      stood = subst (λ (queue : QueueAccount). IsStood link.shape (account link.clock queue link.table.rows)) (sym kept) link.stood;
      counted = counted-still link c.reserve.new.self link.table (ap (λ (queue : QueueAccount). queue.here) kept) refl;
      rests = subst (λ (queue : QueueAccount). RestsFromClock link.shape link.due (account link.clock queue link.table.rows)) (sym kept) link.rests;
    }

-- what is kept once the row is held
held : (c : In_ok-add) → account c.args.self.now.clock c.reserve.new.self c.add.new.self.rows ≡ account_after c.args.self.now.shape (account_in c.args.self.now) (ask_for c.args.wanted.now) (Offer c.args.offer.now.level c.args.offer.now.reach)
held c =
    let link = c.args.self.now in
    ap (λ (queue : QueueAccount). account link.clock queue c.add.new.self.rows) c.reserve.ensures.kept
    ∙ ap (λ (table : TableAccount). account link.clock link.queue table.rows) c.in_ok-add.ensures.added
    ∙ reserve-kept link.shape (account_in link) c.args.wanted.now c.args.offer.now.level c.args.offer.now.reach (row_in c.in_ok-row.row) c.in_ok-row.ensures.row

pub invariant_of-self-2 : goal.invariant_of-self-2
invariant_of-self-2 c =
    let link = c.args.self.now in
    let row = c.in_ok-row.row in
    let added = c.in_ok-add.ensures.added in
    let kept = c.reserve.ensures.kept in
    let room = c.reserve.new.self.room in
    let after = held (goal.at.invariant_of-self-2 c).In_ok-add in
    let bounds = ap (λ (table : TableAccount). table.server.bounds) link.of_shape in
    let places = ap (λ b. total (all_places_of b) link.table.rows) bounds in
    let own = ap (λ b. slots_of b (reservation_in row)) bounds in
    let all = most_places-are link.shape.bounds link.queue.here link.table.rows _ refl in
    let free = c.in_ok-reserve.ensures.room in
    let here = ap (λ (queue : QueueAccount). length queue.here) kept in
    let enough : most_places link.shape.bounds link.queue.here link.table.rows + suc (slots_of link.shape.bounds (reservation_in row)) + suc link.shape.best ≤ room =
    omega (arith, places, own, all, free, here, c.places_with.ensures.value, c.from.ensures) in
    let larger = sound-larger link.shape link.queue.room room (account_in link) c.reserve.ensures.grows link.sound in
    record {
      of_shape = still-of link c.add.new.self (ap (λ (table : TableAccount). table.server) added) (ap (λ (table : TableAccount). table.buffer) added);
      looked = (
        let was = link.looked.0 in let looked = ap (λ (table : TableAccount). table.looked) added in omega (arith, was, looked),
        let was = link.looked.1 in let looked = ap (λ (queue : QueueAccount). queue.looked) kept in omega (arith, was, looked),
      );
      few = c.reserve.ensures.small link.few;
      same_bounds = ap (λ (queue : QueueAccount). queue.bounds) kept ∙ link.same_bounds;
      same_rate = ap (λ (queue : QueueAccount). queue.rate) kept ∙ link.same_rate;
      sound = subst (IsSound link.shape room) (sym after) (sound-held link.shape room (account_in link) c.args.wanted.now c.args.offer.now (row_in row) c.requires.fits larger c.requires.may c.in_ok-row.ensures.row enough);
      stood = subst (IsStood link.shape) (sym after) (stood-offered link.shape (account_in link) c.args.wanted.now c.args.offer.now (rows-have link) c.requires.fits c.requires.may link.stood);
      counted =
          subst (λ (queue : QueueAccount). AreCounted queue.here c.add.new.self.rows c.add.new.self.departed) (sym kept)
          (subst (λ (table : TableAccount). AreCounted link.queue.here table.rows table.departed) (sym added)
          (counted-added link.queue.here link.table.rows link.table.departed (row_in row) row.departed link.counted
          (new-counted link.queue.here (row_in row) row.departed (packets-lead _ link.queue.taken link.queue.here link.sound.packets) (ap (λ (r : AccountRow). r.lead) c.in_ok-row.ensures.row) (ap (λ (r : AccountRow). r.taken) c.in_ok-row.ensures.row) c.in_ok-row.ensures.departed)));
      rests = due-now _ _;
    }

pub returns-clause-kept : goal.returns-clause-kept
returns-clause-kept c = held (goal.at.returns-clause-kept c).In_ok-add

pub returns-in_err-reserve-clause-memory : goal.returns-in_err-reserve-clause-memory
returns-in_err-reserve-clause-memory c = on-err c.from_residual-in_err-reserve.result (ap (λ (queue : QueueAccount). account c.args.self.now.clock queue c.args.self.now.table.rows) c.reserve.ensures.kept)

pub returns-in_err-add-clause-memory : goal.returns-in_err-add-clause-memory
returns-in_err-add-clause-memory c =
    on-err c.from_residual-in_err-add.result (ap (λ (queue : QueueAccount). account c.args.self.now.clock queue c.add.new.self.rows) c.reserve.ensures.kept
    ∙ ap (λ (table : TableAccount). account c.args.self.now.clock c.args.self.now.queue table.rows) c.in_err-add.ensures.same)

pub invariant_of-self-in-Break-branch-3 : goal.invariant_of-self-in-Break-branch-3
invariant_of-self-in-Break-branch-3 c =
    let link = c.args.self.now in
    let kept = c.reserve.ensures.kept in
    let same : c.add.new.self ≡ link.table = c.in_err-add.ensures.same in
    let both = ap (λ (queue : QueueAccount). account link.clock queue c.add.new.self.rows) kept ∙ ap (λ (table : TableAccount). account link.clock link.queue table.rows) same in
    record {
      of_shape = still-of link c.add.new.self (ap (λ (table : TableAccount). table.server) same) (ap (λ (table : TableAccount). table.buffer) same);
      looked = (
        let was = link.looked.0 in let looked = ap (λ (table : TableAccount). table.looked) same in omega (arith, was, looked),
        let was = link.looked.1 in let looked = ap (λ (queue : QueueAccount). queue.looked) kept in omega (arith, was, looked),
      );
      few = c.reserve.ensures.small link.few;
      same_bounds = ap (λ (queue : QueueAccount). queue.bounds) kept ∙ link.same_bounds;
      same_rate = ap (λ (queue : QueueAccount). queue.rate) kept ∙ link.same_rate;
      sound = subst (IsSound link.shape c.reserve.new.self.room) (sym both) (sound-larger link.shape link.queue.room c.reserve.new.self.room (account_in link) c.reserve.ensures.grows link.sound);
      stood = subst (IsStood link.shape) (sym both) link.stood;
      counted = counted-still link c.reserve.new.self c.add.new.self (ap (λ (queue : QueueAccount). queue.here) kept) same;
      rests = subst (RestsFromClock link.shape link.due) (sym both) link.rests;
    }
