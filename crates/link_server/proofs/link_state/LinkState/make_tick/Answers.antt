-- The parts of the tick find what a sound account leaves to count on, and together make what the account says.
use Rattle.std.proofs.Common.{◌≡◌, ◌+◌, length, sym, ap, ◌∙◌, subst, arith}
use Rattle.std.proofs.lemmas.List.{length-append}
use Rattle.link_server.proofs.Words.{find, is_for, source_step, Tick, Each, whole, account, QueueAccount, account_in, RowRests, TableAccount}
use Rattle.link_server.specs.Planned.{IsPlannedFrom}
use Rattle.link_server.proofs.Replies.Pour.{best-step-is, waiting-is}
use Rattle.link_server.proofs.Sound.Sources.{from_best}
use Rattle.link_steps.specs.declared.replies.Reply.TheVariants.{Ticked}
use Rattle.link_server.specs.Departed.{AreCounted, departed_after, leaver}
use Rattle.link_server.proofs.Departed.Tick.{here-after, tick-counted}
use Rattle.link_steps.specs.Account.{Account, from_sources, held_rows, occupies, present, still_here, account_dropped, account_rows_after, account_reply, account_after}
use Rattle.link_server.specs.Serving.{CanServe}
use Rattle.link_steps.specs.Quiet.{ServiceRests}
use Rattle.link_server.specs.Sound.{IsSound}
use Rattle.link_server.proofs.Sound.Numbers.{best-room, brought-room, ahead-from}
use Rattle.link_server.proofs.Sound.Serves.{sound-serves}
use Rattle.link_server.proofs.Sound.Tick.{sound-tick}
use Rattle.link_server.proofs.Sound.Stood.{all-ready, still-stood}
use Rattle.link_server.proofs.Replies.Ticked.{IsServedAs, all-came, tick-replied, tick-kept}
use Rattle.link_server.specs.Sources.{MayBring, queue_after}
use Rattle.link_server.proofs.RowsOfTable.Parts.{still-of}
use Rattle.link_server.proofs.RowsOfTable.Ticks.{at-shape, may-bring}
use Rattle.link_server.proofs.link_state.LinkState.make_tick.Goals as goal
use Rattle.link_server.proofs.link_state.LinkState.make_tick.Goals.{After-take_source_packets-full, After-serve-left, After-depart}

pub expire-requires-clause-ready : goal.expire-requires-clause-ready
expire-requires-clause-ready c = all-ready c.args.self.now c.requires.early

pub take_source_packets-full-requires-clause-looked : goal.take_source_packets-full-requires-clause-looked
take_source_packets-full-requires-clause-looked c = (let looked = ap (λ (table : TableAccount). table.looked) c.expire.ensures.rows in omega (arith, looked))

pub take_source_packets-full-requires-clause-may : goal.take_source_packets-full-requires-clause-may
take_source_packets-full-requires-clause-may c =
    let link = c.args.self.now in
    let table = c.expire.new.self in
    subst (λ bounds. MayBring bounds link.clock link.queue table.rows) (sym (at-shape (λ bounds rows. bounds) link table c.expire.ensures.rows))
    (subst (MayBring link.shape.bounds link.clock link.queue) (sym (at-shape (λ bounds rows. rows) link table c.expire.ensures.rows)) (may-bring link c.requires.early))

pub best_fits-fits-requires : goal.best_fits-fits-requires
best_fits-fits-requires c = record { ahead = ahead-from c.args.self.now.clock c.args.self.now.clock c.args.self.now.queue.best (omega arith) c.args.self.now.sound.best_ahead; bounds = c.args.self.now.same_bounds }

-- the queue once the sources have brought their packets
brought : (c : After-take_source_packets-full) → c.take_source_packets-full.new.queue ≡ queue_after c.args.self.now.shape.bounds c.args.self.now.clock (held_rows c.args.self.now.shape (account_in c.args.self.now)) c.take_source_packets-full.new.queue.looked c.args.self.now.queue
brought c =
    let link = c.args.self.now in
    let new = c.take_source_packets-full.new.queue in
    c.take_source_packets-full.ensures.queue ∙ at-shape (λ bounds rows. queue_after bounds link.clock rows new.looked link.queue) link c.expire.new.self c.expire.ensures.rows

pub take_best-best_lost-requires-clause-ahead : goal.take_best-best_lost-requires-clause-ahead
take_best-best_lost-requires-clause-ahead c =
    let link = c.args.self.now in
    let queue = brought (goal.at.take_best-best_lost-requires-clause-ahead c).After-take_source_packets-full in
    subst (Each (IsPlannedFrom link.clock)) (sym (ap (λ (q : QueueAccount). q.best) queue)) (ahead-from link.clock link.clock link.queue.best (omega arith) link.sound.best_ahead)

pub take_best-best_lost-requires-clause-room : goal.take_best-best_lost-requires-clause-room
take_best-best_lost-requires-clause-room c = λ free.
    let link = c.args.self.now in
    let queue = brought (goal.at.take_best-best_lost-requires-clause-room c).After-take_source_packets-full in
    let counted = waiting-is link.shape (account_in link) in
    let room = best-room link.shape link.queue.room (account_in link) link.sound (omega (arith, c.best_fits-fits.ensures.fewer free, counted)) in
    let all = ap (λ (q : QueueAccount). length q.here) queue in
    let parts = length-append link.queue.here (from_sources link.shape (account_in link)) in
    let still = ap (λ (q : QueueAccount). q.room) queue in
    omega (arith, room, all, parts, still)

pub take_best-best_lost-requires-clause-countable : goal.take_best-best_lost-requires-clause-countable
take_best-best_lost-requires-clause-countable c =
    let link = c.args.self.now in
    let queue = brought (goal.at.take_best-best_lost-requires-clause-countable c).After-take_source_packets-full in
    let all = brought-room link.shape link.queue.room (account_in link) link.sound in
    let most = link.sound.taken_most in
    let few = link.few in
    let parts = length-append (from_sources link.shape (account_in link)) (from_best link.shape (account_in link)) in
    let taken = ap (λ (q : QueueAccount). q.taken) queue in
    omega (arith, all, most, few, parts, taken, c.requires.early)

pub serve-left-requires-clause-serves : goal.serve-left-requires-clause-serves
serve-left-requires-clause-serves c =
    let link = c.args.self.now in
    let queue = brought (goal.at.serve-left-requires-clause-serves c).After-take_source_packets-full in
    subst (λ on. CanServe link.shape link.clock on) (sym (ap (λ (q : QueueAccount). q.on) c.take_best-best_lost.ensures.kept ∙ ap (λ (q : QueueAccount). q.on) queue))
    (sound-serves link.shape link.queue.room (account_in link) link.sound)

pub serve-left-requires-clause-rate : goal.serve-left-requires-clause-rate
serve-left-requires-clause-rate c =
    let link = c.args.self.now in
    let queue = brought (goal.at.serve-left-requires-clause-rate c).After-take_source_packets-full in
    ap (λ (q : QueueAccount). q.rate) c.take_best-best_lost.ensures.kept ∙ ap (λ (q : QueueAccount). q.rate) queue ∙ link.same_rate

pub serve-left-requires-clause-looked : goal.serve-left-requires-clause-looked
serve-left-requires-clause-looked c =
    let looked = c.args.self.now.looked.1 in
    omega (arith, looked, c.take_source_packets-full.ensures.queue_looked, c.take_best-best_lost.ensures.looked)

-- what is served, what is kept and the reply are the account's
came : (c : After-serve-left) → c.take_source_packets-full.new.queue ≡ queue_after c.args.self.now.shape.bounds c.args.self.now.clock (held_rows c.args.self.now.shape (account_in c.args.self.now)) c.take_source_packets-full.new.queue.looked c.args.self.now.queue
    → IsServedAs c.args.self.now.shape (account_in c.args.self.now) c.take_best-best_lost.new.self
came c queue =
    let link = c.args.self.now in
    let src = c.take_source_packets-full.new.queue in
    all-came link.shape link.clock link.queue src c.take_best-best_lost.new.self link.table.rows (source_step c.best_fits-fits.result (find (is_for link.clock) src.best)) queue
    (best-step-is link.shape (account_in link) c.best_fits-fits.result src.best c.best_fits-fits.ensures.step (ap (λ (q : QueueAccount). q.best) queue)) c.take_best-best_lost.ensures.kept

-- the rows of the account
rows : (c : After-serve-left) → c.take_source_packets-full.new.self.rows ≡ account_rows_after c.args.self.now.shape.bounds c.args.self.now.queue.here c.args.self.now.clock c.args.self.now.queue.taken (held_rows c.args.self.now.shape (account_in c.args.self.now))
rows c =
    let link = c.args.self.now in
    ap (λ (table : TableAccount). table.rows) c.take_source_packets-full.ensures.table ∙ at-shape (λ bounds rows. account_rows_after bounds link.queue.here link.clock link.queue.taken rows) link c.expire.new.self c.expire.ensures.rows

-- those that stay are counted
stay-counted : (c : After-serve-left) → AreCounted c.args.self.now.queue.here (held_rows c.args.self.now.shape (account_in c.args.self.now)) c.take_source_packets-full.new.self.departed
stay-counted c =
    let link = c.args.self.now in
    subst (AreCounted link.queue.here _) (sym (ap (λ (table : TableAccount). table.departed) c.take_source_packets-full.ensures.table))
    (subst (λ rows. AreCounted link.queue.here rows c.expire.new.self.departed) (at-shape (λ bounds rows. rows) link c.expire.new.self c.expire.ensures.rows) (c.expire.ensures.counted link.queue.here link.counted))

-- the packet that leaves is the one that occupies the link by the account, if it leaves by then
leaves : (c : After-serve-left) → IsServedAs c.args.self.now.shape (account_in c.args.self.now) c.take_best-best_lost.new.self → c.serve-left.result.gone ≡ leaver c.args.self.now.shape.rate c.args.self.now.clock (occupies c.args.self.now.shape (account_in c.args.self.now))
leaves c came = c.serve-left.ensures.gone ∙ ap (leaver c.args.self.now.shape.rate c.args.self.now.clock) came.occupant

kept : (c : After-depart) → IsServedAs c.args.self.now.shape (account_in c.args.self.now) c.take_best-best_lost.new.self
    → account (c.args.self.now.clock + 1) c.serve-left.new.self c.depart.new.self.rows ≡ account_after c.args.self.now.shape (account_in c.args.self.now) Tick (Ticked c.args.self.now.clock c.take_source_packets-full.result c.serve-left.result.sent c.serve-left.result.best_sent c.take_best-best_lost.result)
kept c came =
    let link = c.args.self.now in
    tick-kept link.shape (account_in link) c.depart.new.self.rows c.take_best-best_lost.new.self c.serve-left.new.self _ came (ap (λ (table : TableAccount). table.rows) c.depart.ensures ∙ rows (goal.at.After-depart c).After-serve-left) c.serve-left.ensures.kept

replied : (c : After-serve-left) → c.take_source_packets-full.new.queue.best ≡ c.args.self.now.queue.best → IsServedAs c.args.self.now.shape (account_in c.args.self.now) c.take_best-best_lost.new.self
    → Ticked c.args.self.now.clock c.take_source_packets-full.result c.serve-left.result.sent c.serve-left.result.best_sent c.take_best-best_lost.result ≡ account_reply (whole c.args.self.now.shape) (account_in c.args.self.now) Tick
replied c left came =
    let link = c.args.self.now in
    let src = c.take_source_packets-full.new.queue in
    ap (λ n. Ticked link.clock n c.serve-left.result.sent c.serve-left.result.best_sent c.take_best-best_lost.result)
    (c.take_source_packets-full.ensures.lost ∙ at-shape (λ bounds rows. account_dropped bounds link.queue.here link.clock rows) link c.expire.new.self c.expire.ensures.rows)
    ∙ tick-replied link.shape (account_in link) c.take_best-best_lost.new.self c.serve-left.result.sent c.serve-left.result.best_sent c.take_best-best_lost.result (source_step c.best_fits-fits.result (find (is_for link.clock) src.best)) came
    c.serve-left.ensures.sent c.serve-left.ensures.best_sent (best-step-is link.shape (account_in link) c.best_fits-fits.result src.best c.best_fits-fits.ensures.step left) c.take_best-best_lost.ensures.lost

pub invariant_of-self : goal.invariant_of-self
invariant_of-self c =
    let link = c.args.self.now in
    let at = goal.at.invariant_of-self c in
    let queue = brought at.After-take_source_packets-full in
    let served = came at.After-serve-left queue in
    let after = kept at.After-depart served in
    let reply = Ticked link.clock c.take_source_packets-full.result c.serve-left.result.sent c.serve-left.result.best_sent c.take_best-best_lost.result in
    let table = c.take_source_packets-full.new.self in
    let took = c.take_source_packets-full.ensures.table in
    let left = c.depart.ensures in
    let room = ap (λ (q : QueueAccount). q.room) c.serve-left.ensures.kept ∙ ap (λ (q : QueueAccount). q.room) c.take_best-best_lost.ensures.kept ∙ ap (λ (q : QueueAccount). q.room) queue in
    let rate = ap (λ (q : QueueAccount). q.rate) c.serve-left.ensures.kept ∙ ap (λ (q : QueueAccount). q.rate) c.take_best-best_lost.ensures.kept ∙ ap (λ (q : QueueAccount). q.rate) queue in
    let bounds = ap (λ (q : QueueAccount). q.bounds) c.serve-left.ensures.kept ∙ ap (λ (q : QueueAccount). q.bounds) c.take_best-best_lost.ensures.kept ∙ ap (λ (q : QueueAccount). q.bounds) queue in
    let few = link.few in
    let gone = leaver link.shape.rate link.clock (occupies link.shape (account_in link)) in
    let still = still_here link.shape.rate link.clock (occupies link.shape (account_in link)) (present link.shape (account_in link)) in
    record {
      of_shape =
          still-of link c.depart.new.self
          (ap (λ (t : TableAccount). t.server) left ∙ ap (λ (t : TableAccount). t.server) took ∙ ap (λ (t : TableAccount). t.server) c.expire.ensures.rows) (ap (λ (t : TableAccount). t.buffer) left ∙ ap (λ (t : TableAccount). t.buffer) took ∙ ap (λ (t : TableAccount). t.buffer) c.expire.ensures.rows);
      looked = (let looked = ap (λ (t : TableAccount). t.looked) left ∙ ap (λ (t : TableAccount). t.looked) took in omega (arith, looked), omega (arith, c.serve-left.ensures.looked));
      sound =
          subst (λ n. IsSound link.shape n (account (link.clock + 1) c.serve-left.new.self c.depart.new.self.rows)) (sym room)
          (subst (IsSound link.shape link.queue.room) (sym after) (sound-tick link.shape link.queue.room (account_in link) reply link.sound));
      few = omega (arith, few, room);
      same_bounds = bounds ∙ link.same_bounds;
      same_rate = rate ∙ link.same_rate;
      stood = still-stood link Tick reply _ tt (replied at.After-serve-left (ap (λ (q : QueueAccount). q.best) queue) served) after;
      counted =
          subst (λ here. AreCounted here c.depart.new.self.rows c.depart.new.self.departed) (sym (ap (λ (kept : Account). kept.here) after ∙ here-after link.shape (account_in link) reply))
          (subst (λ (t : TableAccount). AreCounted still t.rows t.departed) (sym left)
          (subst (λ gone. AreCounted still table.rows (departed_after gone table.rows table.departed)) (sym (leaves at.After-serve-left served))
          (subst (λ rows. AreCounted still rows (departed_after gone rows table.departed)) (sym (rows at.After-serve-left))
          (tick-counted link.shape link.queue.room (account_in link) table.departed link.sound (stay-counted at.After-serve-left)))));
      rests = λ _. record {
        rows =
            subst (λ bounds. Each (RowRests bounds (link.clock + 1) c.next_due-self.result) c.depart.new.self.rows)
            (ap (λ (t : TableAccount). t.server.bounds) left ∙ ap (λ (t : TableAccount). t.server.bounds) took ∙ at-shape (λ bounds rows. bounds) link c.expire.new.self c.expire.ensures.rows)
            (c.next_due-self.ensures.rows (link.clock + 1) (let looked = ap (λ (t : TableAccount). t.looked) left ∙ ap (λ (t : TableAccount). t.looked) took in omega (arith, looked)));
        best = c.next_due-self.ensures.best;
        service = subst (λ rate. ServiceRests rate c.next_due-self.result c.serve-left.new.self.here c.serve-left.new.self.on) (rate ∙ link.same_rate) c.next_due-self.ensures.service;
      };
    }

pub returns-clause-reply : goal.returns-clause-reply
returns-clause-reply c =
    let at = goal.at.returns-clause-reply c in
    let queue = brought at.After-take_source_packets-full in
    replied at.After-serve-left (ap (λ (q : QueueAccount). q.best) queue) (came at.After-serve-left queue)

pub returns-clause-kept : goal.returns-clause-kept
returns-clause-kept c =
    let at = goal.at.returns-clause-kept c in
    kept at.After-depart (came at.After-serve-left (brought at.After-take_source_packets-full))
