-- The rules are tried in their order, over the reservations held and the room of the group.
use Rattle.std.proofs.Common.{◌≡◌, ◌-◌, ◌≤◌, true, Some, None, sym, ap, ◌∙◌, subst, length, arith}
use Rattle.std.proofs.lemmas.Bool.{le-leb, lt-leb}
use Rattle.std.specs.Prelude.{find, nat_le}
use Rattle.net_units.specs.Numbers.{level_number}
use Rattle.net_units.specs.LevelBounds.{reach_of}
use Rattle.link_steps.specs.declared.replies.Refusal.TheVariants.{TooWide, Twice, NoLevel, NoBuffer}
use Rattle.link_steps.specs.declared.replies.Reply.TheVariants.{Offer, Refused}
use Rattle.link_steps.specs.Buffer.{need_of}
use Rattle.link_steps.specs.Levels.{level_of}
use Rattle.link_steps.specs.Replies.{reserve_reply, reserve_reply_in}
use Rattle.link_steps.specs.Reservation.{is_of}
use Rattle.link_steps.proofs.LevelByNumber.{level_of-level}
use Rattle.link_server.specs.Held.{reservations_held}
use Rattle.link_server.specs.State.{account_in}
use Rattle.std.specs.List.{slice_index}
use Rattle.link_quota.specs.Best.{best_of, load_of}
use Rattle.link_quota.specs.Places.{IsQuotaOf}
use Rattle.link_quota.specs.Shares.{IsShare}
use Rattle.link_quota.specs.State.{rules_of}
use Rattle.link_quota.proofs.SomeLegalHistory.{stood-within}
use Rattle.link_quota.proofs.GroupRoom.{room_in, quota-reply, split-wide, split-twice, by-no_level, by-no_buffer, by-offer, seen-found, seen-none}
use Rattle.link_quota.proofs.quota_link.QuotaLink.offer.Goals as goal
use Rattle.link_quota.proofs.quota_link.QuotaLink.offer.Goals.{Else-smax-shape, After-of_group, In_default, After-from-in-Ok}

-- the packets are no wider than the link
narrow : (c : Else-smax-shape) → nat_le c.args.contract.now.smax c.args.self.now.link.shape.cap ≡ true
narrow c = le-leb c.args.contract.now.smax c.args.self.now.link.shape.cap (let cap = ap (λ s. s.cap) c.shape-shape.ensures in let smax = c.smax-smax.ensures.value in let h = c.if-smax-shape.false in omega (arith, h, cap, smax))

-- and no row of the channel is held
absent : (c : In_default) → find (is_of c.args.chan) (reservations_held c.args.self.now.link) ≡ None
absent c = seen-none c.args.self.now.link.shape.bounds (reservations_held c.args.self.now.link) c.args.chan (sym c.in_default.is ∙ c.held_of.ensures.row)

-- so the reply is by the room of the group
by-room : (c : After-of_group) → reserve_reply (rules_of c.args.self.now) (reservations_held c.args.self.now.link) c.args.chan c.args.contract.now c.args.delay c.args.up_reach ≡ reserve_reply_in c.args.self.now.link.shape (reservations_held c.args.self.now.link) c.args.chan c.args.contract.now c.args.delay c.args.up_reach (room_in c.args.self.now.link.shape c.of_group.result.0 c.of_group.result.1 c.args.contract.now)
by-room c =
    quota-reply (rules_of c.args.self.now) (reservations_held c.args.self.now.link) c.args.chan c.args.contract.now c.args.delay c.args.up_reach c.of_group.result.0 c.of_group.result.1 c.requires.splits
    (subst (λ g. IsShare (rules_of c.args.self.now) g (reservations_held c.args.self.now.link) c.of_group.result.0) c.group_of-group.ensures c.of_group.ensures.share)
    (subst (λ g. IsQuotaOf (rules_of c.args.self.now) g c.of_group.result.1) c.group_of-group.ensures c.of_group.ensures.quota)

pub returns-then-smax-shape : goal.returns-then-smax-shape
returns-then-smax-shape c =
    let cap = ap (λ s. s.cap) c.shape-shape.ensures in
    let smax = c.smax-smax.ensures.value in
    let over = c.if-smax-shape.true in
    record {
      reply =
          ap (λ n. Refused (TooWide n c.from-then-smax-shape.result)) (c.from.ensures ∙ smax)
          ∙ ap (λ n. Refused (TooWide c.args.contract.now.smax n)) (c.from-then-smax-shape.ensures ∙ cap)
          ∙ split-wide (rules_of c.args.self.now) (reservations_held c.args.self.now.link) c.args.chan c.args.contract.now c.args.delay c.args.up_reach (lt-leb c.args.contract.now.smax c.args.self.now.link.shape.cap (omega (arith, over, cap, smax)));
    }

pub returns-in-Some : goal.returns-in-Some
returns-in-Some c =
    let here = goal.at.returns-in-Some c in
    let found = seen-found c.args.self.now.link.shape.bounds (reservations_held c.args.self.now.link) c.args.chan c.in-Some.row (sym c.in-Some.is ∙ c.held_of.ensures.row) in
    record {
      reply =
          ap (λ row. Refused (Twice row.phase)) found.1.1
          ∙ split-twice (rules_of c.args.self.now) (reservations_held c.args.self.now.link) c.args.chan c.args.contract.now c.args.delay c.args.up_reach found.0 (narrow here.Else-smax-shape) found.1.0;
    }

pub overflow_sub-free : goal.overflow_sub-free
overflow_sub-free c =
    let here = goal.at.overflow_sub-free c in
    let within = stood-within (rules_of c.args.self.now) (account_in c.args.self.now.link) c.args.self.now.fits c.requires.splits c.args.self.now.stood in
    let most = within.buffer c.group_of-group.result in
    let units = c.of_group.ensures.share.units in
    let quota = c.of_group.ensures.quota.buffer in
    let whole = c.from-in-Ok.ensures in
    omega (arith, most, units, quota, whole)

pub returns-in-Err : goal.returns-in-Err
returns-in-Err c =
    let here = goal.at.returns-in-Err c in
    let shape = c.shape-shape.ensures in
    let best : best_of c.args.self.now.link.shape c.of_group.result.0 c.of_group.result.1 c.args.contract.now ≡ None = ap (λ s. best_of s c.of_group.result.0 c.of_group.result.1 c.args.contract.now) (sym shape) ∙ c.in-Err.ensures.level in
    let sum : c.in-Err.over.sum ≡ load_of c.args.self.now.link.shape c.of_group.result.0 c.args.contract.now (length c.args.self.now.link.shape.bounds) = c.in-Err.ensures.sum ∙ ap (λ s. load_of s c.of_group.result.0 c.args.contract.now (length s.bounds)) shape in
    let bound : c.in-Err.over.bound ≡ slice_index c.of_group.result.1.levels (length c.args.self.now.link.shape.bounds - 1) = c.in-Err.ensures.bound ∙ ap (λ s. slice_index c.of_group.result.1.levels (length s.bounds - 1)) shape in
    record {
      reply =
          ap (λ n. Refused (NoLevel n c.in-Err.over.bound)) sum
          ∙ ap (λ n. Refused (NoLevel (load_of c.args.self.now.link.shape c.of_group.result.0 c.args.contract.now (length c.args.self.now.link.shape.bounds)) n)) bound
          ∙ by-no_level c.args.self.now.link.shape (reservations_held c.args.self.now.link) c.args.chan c.args.contract.now c.args.delay c.args.up_reach (room_in c.args.self.now.link.shape c.of_group.result.0 c.of_group.result.1 c.args.contract.now) (narrow here.Else-smax-shape) (absent here.In_default) best
          ∙ sym (by-room here.After-of_group);
    }

pub need_at-need-requires-clause-within : goal.need_at-need-requires-clause-within
need_at-need-requires-clause-within c = subst (λ s. level_number c.in-Ok.level ≤ length s.bounds) c.shape-shape.ensures c.in-Ok.ensures.within

-- the level found, its need, and what is free
found : (c : After-from-in-Ok) → best_of c.args.self.now.link.shape c.of_group.result.0 c.of_group.result.1 c.args.contract.now ≡ Some (level_number c.in-Ok.level)
found c = ap (λ s. best_of s c.of_group.result.0 c.of_group.result.1 c.args.contract.now) (sym c.shape-shape.ensures) ∙ c.in-Ok.ensures.level

need : (c : After-from-in-Ok) → c.need_at-need.result ≡ need_of c.args.self.now.link.shape.bounds c.args.contract.now c.args.up_reach (reach_of c.args.self.now.link.shape.bounds c.args.delay (level_number c.in-Ok.level))
need c = c.need_at-need.ensures

free : (c : After-from-in-Ok) → c.from-in-Ok.result - c.of_group.result.0.units ≡ c.of_group.result.1.buffer - c.of_group.result.0.units
free c = ap (λ n. n - c.of_group.result.0.units) c.from-in-Ok.ensures

pub returns-then-need-free : goal.returns-then-need-free
returns-then-need-free c =
    let here = goal.at.returns-then-need-free c in
    let needed = need here.After-from-in-Ok in
    let left = free here.After-from-in-Ok in
    let over = c.if-need-free.true in
    record {
      reply =
          ap (λ n. Refused (NoBuffer n (c.from-in-Ok.result - c.of_group.result.0.units))) needed
          ∙ ap (λ n. Refused (NoBuffer (need_of c.args.self.now.link.shape.bounds c.args.contract.now c.args.up_reach (reach_of c.args.self.now.link.shape.bounds c.args.delay (level_number c.in-Ok.level))) n)) left
          ∙ by-no_buffer c.args.self.now.link.shape (reservations_held c.args.self.now.link) c.args.chan c.args.contract.now c.args.delay c.args.up_reach (room_in c.args.self.now.link.shape c.of_group.result.0 c.of_group.result.1 c.args.contract.now) (level_number c.in-Ok.level) (narrow here.Else-smax-shape) (absent here.In_default) (found here.After-from-in-Ok) (lt-leb _ _ (omega (arith, needed, left, over)))
          ∙ sym (by-room here.After-of_group);
    }

pub returns-else-need-free : goal.returns-else-need-free
returns-else-need-free c =
    let here = goal.at.returns-else-need-free c in
    let needed = need here.After-from-in-Ok in
    let left = free here.After-from-in-Ok in
    let within = c.if-need-free.false in
    record {
      reply =
          ap (λ l. Offer l (level_of (reach_of c.args.self.now.link.shape.bounds c.args.delay (level_number c.in-Ok.level)))) (sym (level_of-level c.in-Ok.level))
          ∙ by-offer c.args.self.now.link.shape (reservations_held c.args.self.now.link) c.args.chan c.args.contract.now c.args.delay c.args.up_reach (room_in c.args.self.now.link.shape c.of_group.result.0 c.of_group.result.1 c.args.contract.now) (level_number c.in-Ok.level) (narrow here.Else-smax-shape) (absent here.In_default) (found here.After-from-in-Ok) (le-leb _ _ (omega (arith, needed, left, within)))
          ∙ sym (by-room here.After-of_group);
    }
