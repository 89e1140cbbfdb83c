-- The reply is by the room of the group, and the new row is held in the group's share.
use Rattle.std.proofs.Common.{◌≡◌, List, ◌∷◌, None, refl, sym, ap, ◌∙◌, subst, arith}
use Rattle.std.specs.Vec.{vec_capacity}
use Rattle.net_units.specs.Numbers.{level_number}
use Rattle.net_units.specs.LevelBounds.{reach_of}
use Rattle.net_units.proofs.ByCases.{on-err}
use Rattle.link_steps.specs.declared.replies.Entry.{Entry}
use Rattle.link_steps.specs.declared.replies.Reply.TheVariants.{Offer, Refused}
use Rattle.link_steps.specs.Account.{StandsFor}
use Rattle.link_steps.specs.Levels.{level_of}
use Rattle.link_steps.specs.Split.{SplitFits}
use Rattle.std.specs.Option.{option_map}
use Rattle.link_steps.specs.Scan.{scan_of}
use Rattle.link_server.specs.Held.{reservations_held, seen, seen_of, reach_at}
use Rattle.link_quota.proofs.RowChanges.{IsSetupOf, OffersNew}
use Rattle.link_server.specs.State.{account_in}
use Rattle.link_server.specs.declared.held_row.HeldRow as Row
use Rattle.link_quota.specs.Places.{AreSmall, AreChangedBy}
use Rattle.link_quota.specs.Closing.{AreClosing}
use Rattle.link_quota.specs.Shares.{AreShares}
use Rattle.link_quota.specs.State.{rules_of}
use Rattle.link_quota.specs.Steps.{GoesOn}
use Rattle.link_quota.specs.Stood.{IsLegallyStood}
use Rattle.link_quota.specs.declared.share.Share.{Share}
use Rattle.link_quota.proofs.SomeLegalHistory.{stood-goes, stood-same, shares-kept, shares-setup, reserve-legal, refused-enters, offer-may-be, offers-new, offered-none}
use Rattle.link_quota.proofs.ClosingRoom.{room-more, room-reserved, room-same}
use Rattle.link_quota.proofs.ClosingSteps.{closing-kept, closing-reserved}
use Rattle.link_quota.proofs.SplitSteps.{instead-offered, written-back, small-after, small-shares}
use Rattle.link_server.proofs.LinkRests.{due-now}
use Rattle.link_quota.proofs.quota_link.QuotaLink.reserve.Goals as goal
use Rattle.link_quota.proofs.quota_link.QuotaLink.reserve.Goals.{In_ok-reply-in-Ok, In_err-reply-in-Ok}

pub reserve_at-requires-clause-may : goal.reserve_at-requires-clause-may
reserve_at-requires-clause-may c =
    offer-may-be (rules_of c.args.self.now) (account_in c.args.self.now.link) c.in-Reserve.chan c.in-Reserve.contract c.in-Reserve.kind c.in-Reserve.delay c.in-Reserve.up_reach c.in-Reserve.first c.in-Reserve.next c.args.ask.now c.in-Ok.level c.args.self.now.fits c.requires.splits c.args.self.now.stood c.in-Reserve.is c.in-Ok.ensures.reply

-- ---- refused

pub returns-in-Err-clause-goes : goal.returns-in-Err-clause-goes
returns-in-Err-clause-goes c = record {
  fits = c.requires.fits;
  legal = reserve-legal (rules_of c.args.self.now) (account_in c.args.self.now.link) c.in-Reserve.chan c.in-Reserve.contract c.in-Reserve.kind c.in-Reserve.delay c.in-Reserve.up_reach c.in-Reserve.first c.in-Reserve.next c.args.ask.now (Refused c.in-Err.refusal) c.in-Reserve.is c.in-Err.ensures.reply;
  entered = refused-enters c.args.self.now.link c.in-Reserve.chan c.in-Reserve.contract c.in-Reserve.kind c.in-Reserve.delay c.in-Reserve.up_reach c.in-Reserve.first c.in-Reserve.next c.args.ask.now c.in-Err.refusal c.in-Reserve.is;
}

-- ---- want of memory

pub returns-in_err-reserve-in-Ok-clause-instead : goal.returns-in_err-reserve-in-Ok-clause-instead
returns-in_err-reserve-in-Ok-clause-instead c =
    on-err c.from_residual.result
    (instead-offered (rules_of c.args.self.now) (account_in c.args.self.now.link) c.in-Reserve.chan c.in-Reserve.contract c.in-Reserve.kind c.in-Reserve.delay c.in-Reserve.up_reach c.in-Reserve.first c.in-Reserve.next c.args.ask.now c.in-Ok.level _ c.in-Reserve.is c.in-Ok.ensures.reply)

pub returns-in_err-reply-in-Ok-clause-instead : goal.returns-in_err-reply-in-Ok-clause-instead
returns-in_err-reply-in-Ok-clause-instead c =
    on-err c.from_residual-in_err-reply-in-Ok.result
    (instead-offered (rules_of c.args.self.now) (account_in c.args.self.now.link) c.in-Reserve.chan c.in-Reserve.contract c.in-Reserve.kind c.in-Reserve.delay c.in-Reserve.up_reach c.in-Reserve.first c.in-Reserve.next c.args.ask.now c.in-Ok.level _ c.in-Reserve.is c.in-Ok.ensures.reply)

pub returns-in_err-reply-in-Ok-clause-memory : goal.returns-in_err-reply-in-Ok-clause-memory
returns-in_err-reply-in-Ok-clause-memory c = on-err c.from_residual-in_err-reply-in-Ok.result (λ h stands. (goal.at.returns-in_err-reply-in-Ok-clause-memory c).In_err-reply-in-Ok.in_err-reply-in-Ok.ensures.memory h stands)

pub invariant_of-self-in-Break-branch-2 : goal.invariant_of-self-in-Break-branch-2
invariant_of-self-in-Break-branch-2 c =
    let shape = c.reserve_at.ensures.shape in
    let same : (h : List Entry) → StandsFor c.args.self.now.link.shape (account_in c.args.self.now.link) h → StandsFor c.args.self.now.link.shape (account_in c.reserve_at.new.self) h = λ h stands. subst (λ s. StandsFor s (account_in c.reserve_at.new.self) h) c.reserve_at.ensures.shape (c.in_err-reply-in-Ok.ensures.memory h stands) in
    record {
      fits = subst (λ s. SplitFits (record { shape = s; split = c.args.self.now.split })) (sym shape) c.args.self.now.fits;
      shared = subst (λ s. AreShares (record { shape = s; split = c.args.self.now.split }) (reservations_held c.reserve_at.new.self) c.args.self.now.shares.items) (sym shape)
          (shares-kept (rules_of c.args.self.now) (account_in c.args.self.now.link) (account_in c.reserve_at.new.self) c.args.self.now.shares.items same c.args.self.now.stood c.args.self.now.shared);
      listed = subst (λ (items : List Row.HeldRow). AreClosing (record { shape = c.reserve_at.new.self.shape; split = c.args.self.now.split }) (reservations_held c.reserve_at.new.self) items) (sym c.reserve.ensures.items)
          (subst (λ s. AreClosing (record { shape = s; split = c.args.self.now.split }) (reservations_held c.reserve_at.new.self) c.args.self.now.closing.items) (sym shape)
          (closing-kept (rules_of c.args.self.now) (account_in c.args.self.now.link) (account_in c.reserve_at.new.self) c.args.self.now.closing.items same c.args.self.now.stood c.args.self.now.listed));
      room = room-more c.args.self.now.split (reservations_held c.reserve_at.new.self) (vec_capacity c.args.self.now.closing) (vec_capacity c.reserve.new.self) c.reserve.ensures.capacity
          (room-same (rules_of c.args.self.now) (account_in c.args.self.now.link) (account_in c.reserve_at.new.self) (vec_capacity c.args.self.now.closing) same c.args.self.now.stood c.args.self.now.room);
      stood = subst (λ s. IsLegallyStood (record { shape = s; split = c.args.self.now.split }) (account_in c.reserve_at.new.self)) (sym shape)
          (stood-same (rules_of c.args.self.now) (account_in c.args.self.now.link) (account_in c.reserve_at.new.self) same c.args.self.now.stood);
      rests = due-now c.reserve_at.new.self.shape (account_in c.reserve_at.new.self);
    }

-- ---- offered

goes : (c : In_ok-reply-in-Ok) → GoesOn (rules_of c.args.self.now) (account_in c.args.self.now.link) (account_in c.reserve_at.new.self) c.args.ask.now c.in_ok-reply-in-Ok.reply
goes c =
    let reach : reach_at c.args.self.now.link.shape c.args.ask.now c.in-Ok.level ≡ level_of (reach_of c.args.self.now.link.shape.bounds c.in-Reserve.delay (level_number c.in-Ok.level)) = ap (λ a. reach_at c.args.self.now.link.shape a c.in-Ok.level) c.in-Reserve.is in
    record {
      fits = c.requires.fits;
      legal = reserve-legal (rules_of c.args.self.now) (account_in c.args.self.now.link) c.in-Reserve.chan c.in-Reserve.contract c.in-Reserve.kind c.in-Reserve.delay c.in-Reserve.up_reach c.in-Reserve.first c.in-Reserve.next c.args.ask.now c.in_ok-reply-in-Ok.reply c.in-Reserve.is
          (c.in_ok-reply-in-Ok.ensures.offered ∙ ap (Offer c.in-Ok.level) reach ∙ c.in-Ok.ensures.reply);
      entered = λ h stands. subst (λ s. StandsFor s (account_in c.reserve_at.new.self) (record { ask = c.args.ask.now; reply = c.in_ok-reply-in-Ok.reply } ∷ h)) c.reserve_at.ensures.shape (c.in_ok-reply-in-Ok.ensures.entered h stands);
    }

stood : (c : In_ok-reply-in-Ok) → IsLegallyStood (rules_of c.args.self.now) (account_in c.reserve_at.new.self)
stood c = stood-goes (rules_of c.args.self.now) (account_in c.args.self.now.link) (account_in c.reserve_at.new.self) c.args.ask.now c.in_ok-reply-in-Ok.reply (goes c) c.args.self.now.stood

pub returns-in_ok-reply-in-Ok-clause-goes : goal.returns-in_ok-reply-in-Ok-clause-goes
returns-in_ok-reply-in-Ok-clause-goes c = goes (goal.at.returns-in_ok-reply-in-Ok-clause-goes c).In_ok-reply-in-Ok

pub change_row-requires-clause-few : goal.change_row-requires-clause-few
change_row-requires-clause-few c =
    subst (λ s. AreSmall (record { shape = s; split = c.args.self.now.split }) c.deref_mut.result.now) (sym (c.shape-shape.ensures ∙ c.reserve_at.ensures.shape))
    (subst (λ (items : List Share). AreSmall (rules_of c.args.self.now) items) (sym c.deref_mut.ensures.value)
    (small-shares (rules_of c.args.self.now) (account_in c.args.self.now.link) c.args.self.now.shares.items c.args.self.now.fits c.requires.splits c.args.self.now.stood c.args.self.now.shared))

pub change_row-requires-clause-small : goal.change_row-requires-clause-small
change_row-requires-clause-small c =
    let here = goal.at.change_row-requires-clause-small c in
    small-after (rules_of c.args.self.now) (account_in c.reserve_at.new.self) c.in-Reserve.chan c.held_of-row.result c.args.self.now.fits c.requires.splits (stood here.In_ok-reply-in-Ok)
    (c.held_of-row.ensures.row ∙ ap (λ s. seen_of s.bounds (reservations_held c.reserve_at.new.self) c.in-Reserve.chan) c.reserve_at.ensures.shape)

pub invariant_of-self-in-Ok : goal.invariant_of-self-in-Ok
invariant_of-self-in-Ok c =
    let here = goal.at.invariant_of-self-in-Ok c in
    let same = c.reserve_at.ensures.shape in
    let none = offered-none (rules_of c.args.self.now) (reservations_held c.args.self.now.link) c.in-Reserve.chan c.in-Reserve.contract c.in-Reserve.delay c.in-Reserve.up_reach c.in-Ok.level _ c.in-Ok.ensures.reply in
    let changed : AreChangedBy (rules_of c.args.self.now) (seen_of c.args.self.now.link.shape.bounds (reservations_held c.args.self.now.link) c.in-Reserve.chan) (seen_of c.args.self.now.link.shape.bounds (reservations_held c.reserve_at.new.self) c.in-Reserve.chan) c.args.self.now.shares.items c.change_row.new.shares =
    subst (λ row. AreChangedBy (rules_of c.args.self.now) row (seen_of c.args.self.now.link.shape.bounds (reservations_held c.reserve_at.new.self) c.in-Reserve.chan) c.args.self.now.shares.items c.change_row.new.shares) (sym (ap (option_map (seen c.args.self.now.link.shape.bounds)) none))
    (subst (λ row. AreChangedBy (rules_of c.args.self.now) None row c.args.self.now.shares.items c.change_row.new.shares) (c.held_of-row.ensures.row ∙ ap (λ s. seen_of s.bounds (reservations_held c.reserve_at.new.self) c.in-Reserve.chan) c.reserve_at.ensures.shape)
    (subst (λ (items : List Share). AreChangedBy (rules_of c.args.self.now) None c.held_of-row.result items c.change_row.new.shares) c.deref_mut.ensures.value
    (subst (λ s. AreChangedBy (record { shape = s; split = c.args.self.now.split }) None c.held_of-row.result c.deref_mut.result.now c.change_row.new.shares) (c.shape-shape.ensures ∙ c.reserve_at.ensures.shape) c.change_row.ensures))) in
    let back = written-back c.args.self.now.shares.items c.change_row.new.shares c.args.self.now.shares.len changed.long (sym c.args.self.now.shares.ok.0) in
    record {
      fits = subst (λ s. SplitFits (record { shape = s; split = c.args.self.now.split })) (sym same) c.args.self.now.fits;
      shared =
          subst (λ (items : List Share). AreShares (record { shape = c.reserve_at.new.self.shape; split = c.args.self.now.split }) (reservations_held c.reserve_at.new.self) items) (sym back)
          (subst (λ s. AreShares (record { shape = s; split = c.args.self.now.split }) (reservations_held c.reserve_at.new.self) c.change_row.new.shares) (sym same)
          (shares-setup (rules_of c.args.self.now) (account_in c.args.self.now.link) (account_in c.reserve_at.new.self) c.args.ask.now c.in_ok-reply-in-Ok.reply c.in-Reserve.chan c.args.self.now.shares.items c.change_row.new.shares c.args.self.now.fits (goes here.In_ok-reply-in-Ok) (subst (IsSetupOf c.in-Reserve.chan) (sym c.in-Reserve.is) refl)
          (λ h stands. subst (λ reply. OffersNew c.args.ask.now reply (scan_of c.args.self.now.link.shape h).rows) (sym c.in_ok-reply-in-Ok.ensures.offered) (offers-new (rules_of c.args.self.now) (account_in c.args.self.now.link) c.in-Reserve.chan c.in-Reserve.contract c.in-Reserve.kind c.in-Reserve.delay c.in-Reserve.up_reach c.in-Reserve.first c.in-Reserve.next c.args.ask.now c.in-Ok.level _ c.in-Reserve.is none h stands))
          c.args.self.now.stood c.args.self.now.shared changed));
      listed = subst (λ (items : List Row.HeldRow). AreClosing (record { shape = c.reserve_at.new.self.shape; split = c.args.self.now.split }) (reservations_held c.reserve_at.new.self) items) (sym c.reserve.ensures.items)
          (subst (λ s. AreClosing (record { shape = s; split = c.args.self.now.split }) (reservations_held c.reserve_at.new.self) c.args.self.now.closing.items) (sym same)
          (closing-reserved (rules_of c.args.self.now) (account_in c.args.self.now.link) (account_in c.reserve_at.new.self) c.args.ask.now c.in_ok-reply-in-Ok.reply c.args.self.now.closing.items (goes here.In_ok-reply-in-Ok) c.requires.reserves c.args.self.now.stood c.args.self.now.listed));
      room = room-reserved (rules_of c.args.self.now) (account_in c.args.self.now.link) (account_in c.reserve_at.new.self) c.args.ask.now c.in_ok-reply-in-Ok.reply (vec_capacity c.reserve.new.self) (goes here.In_ok-reply-in-Ok) c.requires.reserves c.args.self.now.stood
          (let rows = c.rows_held.ensures.count in let long = c.len.ensures in let more = c.saturating_sub.ensures in let place = c.in_ok-reserve-in-Ok.ensures.ok in let same = c.reserve.ensures.len in omega (arith, rows, long, more, place, same));
      stood = subst (λ s. IsLegallyStood (record { shape = s; split = c.args.self.now.split }) (account_in c.reserve_at.new.self)) (sym same) (stood here.In_ok-reply-in-Ok);
      rests = due-now c.reserve_at.new.self.shape (account_in c.reserve_at.new.self);
    }
