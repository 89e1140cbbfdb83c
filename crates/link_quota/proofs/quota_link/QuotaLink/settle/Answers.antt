-- The channel's row before is given back, and the one after is held.
use Rattle.std.proofs.Common.{◌≡◌, ◌+◌, List, sym, ap, ◌∙◌, subst}
use Rattle.std.specs.Prelude.{IfSome}
use Rattle.std.specs.Vec.{vec_capacity}
use Rattle.link_steps.specs.Split.{Link, SplitFits}
use Rattle.link_server.specs.Held.{reservations_held, seen_of}
use Rattle.link_server.specs.State.{account_in}
use Rattle.link_quota.specs.Places.{HavePart, AreSmall, AreChangedBy, value_of}
use Rattle.traffic_contract.specs.Admission.{total}
use Rattle.link_quota.specs.Closing.{AreClosing, HasRoomToClose, is_closing, if_closing}
use Rattle.link_quota.specs.Shares.{AreShares}
use Rattle.link_quota.specs.State.{rules_of}
use Rattle.link_quota.specs.Steps.{GoesOn}
use Rattle.link_quota.specs.Stood.{IsLegallyStood}
use Rattle.link_quota.specs.declared.share.Share.{Share}
use Rattle.link_quota.proofs.SomeLegalHistory.{goes-on, stood-goes, shares-setup}
use Rattle.link_quota.proofs.ClosingRoom.{room-settled, place-to-close}
use Rattle.link_quota.proofs.ClosingSteps.{closing-settled}
use Rattle.link_quota.proofs.SplitSteps.{written-back, settling-other, settling-setup, settling-new, part-before, small-after, small-shares}
use Rattle.link_server.proofs.LinkRests.{due-now}
use Rattle.link_quota.proofs.quota_link.QuotaLink.settle.Goals as goal
use Rattle.link_quota.proofs.quota_link.QuotaLink.settle.Goals.{In_ok-reply, After-shape-shape, After-held_of-after}

goes : (c : In_ok-reply) → GoesOn (rules_of c.args.self.now) (account_in c.args.self.now.link) (account_in c.step.new.self) c.args.ask.now c.in_ok-reply.reply
goes c =
    goes-on c.args.self.now.split c.args.self.now.link c.step.new.self c.args.ask.now c.in_ok-reply.reply (settling-other c.args.chan c.args.ask.now c.requires.settles) c.requires.fits (ap (λ (l : Link). l.shape) c.step.ensures.same) c.in_ok-reply.ensures.legal c.in_ok-reply.ensures.entered

stood : (c : In_ok-reply) → IsLegallyStood (rules_of c.args.self.now) (account_in c.step.new.self)
stood c = stood-goes (rules_of c.args.self.now) (account_in c.args.self.now.link) (account_in c.step.new.self) c.args.ask.now c.in_ok-reply.reply (goes c) c.args.self.now.stood

-- the shape is as it was
shape : (c : After-shape-shape) → c.shape-shape.result ≡ c.args.self.now.link.shape
shape c = c.shape-shape.ensures ∙ ap (λ (l : Link). l.shape) c.step.ensures.same

pub change_row-requires-clause-part : goal.change_row-requires-clause-part
change_row-requires-clause-part c =
    let here = goal.at.change_row-requires-clause-part c in
    subst (λ s. IfSome c.held_of-before.result (λ row. HavePart (record { shape = s; split = c.args.self.now.split }) row c.deref_mut.result.now)) (sym (shape here.After-shape-shape))
    (subst (λ (items : List Share). IfSome c.held_of-before.result (λ row. HavePart (rules_of c.args.self.now) row items)) (sym c.deref_mut.ensures.value)
    (part-before (rules_of c.args.self.now) (reservations_held c.args.self.now.link) c.args.chan c.held_of-before.result c.args.self.now.shares.items c.held_of-before.ensures.row c.args.self.now.shared))

pub change_row-requires-clause-few : goal.change_row-requires-clause-few
change_row-requires-clause-few c =
    let here = goal.at.change_row-requires-clause-few c in
    subst (λ s. AreSmall (record { shape = s; split = c.args.self.now.split }) c.deref_mut.result.now) (sym (shape here.After-shape-shape))
    (subst (λ (items : List Share). AreSmall (rules_of c.args.self.now) items) (sym c.deref_mut.ensures.value)
    (small-shares (rules_of c.args.self.now) (account_in c.args.self.now.link) c.args.self.now.shares.items c.args.self.now.fits c.requires.splits c.args.self.now.stood c.args.self.now.shared))

-- what is seen of the channel afterwards
after : (c : After-held_of-after) → c.held_of-after.result ≡ seen_of c.args.self.now.link.shape.bounds (reservations_held c.step.new.self) c.args.chan
after c = c.held_of-after.ensures.row ∙ ap (λ s. seen_of s.bounds (reservations_held c.step.new.self) c.args.chan) (ap (λ (l : Link). l.shape) c.step.ensures.same)

pub change_row-requires-clause-small : goal.change_row-requires-clause-small
change_row-requires-clause-small c =
    let here = goal.at.change_row-requires-clause-small c in
    small-after (rules_of c.args.self.now) (account_in c.step.new.self) c.args.chan c.held_of-after.result c.args.self.now.fits c.requires.splits (stood here.In_ok-reply) (after here.After-held_of-after)

pub list_released-requires : goal.list_released-requires
list_released-requires c =
    let here = goal.at.list_released-requires c in
    record {
      room = λ apart closes.
          place-to-close (rules_of c.args.self.now) (account_in c.args.self.now.link) (account_in c.step.new.self) c.args.ask.now c.in_ok-reply.reply c.args.chan c.args.self.now.closing.items (vec_capacity c.args.self.now.closing) c.args.self.now.fits c.requires.splits (goes here.In_ok-reply) c.requires.settles c.args.self.now.stood c.args.self.now.listed c.args.self.now.room
          (sym (ap is_closing c.held_of-before.ensures.row) ∙ apart) (sym (ap is_closing (after here.After-held_of-after)) ∙ closes);
    }

pub returns-clause-goes : goal.returns-clause-goes
returns-clause-goes c = goes (goal.at.returns-clause-goes c).In_ok-reply

pub invariant_of-self-2 : goal.invariant_of-self-2
invariant_of-self-2 c =
    let here = goal.at.invariant_of-self-2 c in
    let same = ap (λ (l : Link). l.shape) c.step.ensures.same in
    let link = rules_of c.args.self.now in
    let changed : AreChangedBy (rules_of c.args.self.now) (seen_of c.args.self.now.link.shape.bounds (reservations_held c.args.self.now.link) c.args.chan) (seen_of c.args.self.now.link.shape.bounds (reservations_held c.step.new.self) c.args.chan) c.args.self.now.shares.items c.change_row.new.shares =
    subst (λ row. AreChangedBy (rules_of c.args.self.now) row (seen_of c.args.self.now.link.shape.bounds (reservations_held c.step.new.self) c.args.chan) c.args.self.now.shares.items c.change_row.new.shares) c.held_of-before.ensures.row
    (subst (λ row. AreChangedBy (rules_of c.args.self.now) c.held_of-before.result row c.args.self.now.shares.items c.change_row.new.shares) (after here.After-held_of-after)
    (subst (λ (items : List Share). AreChangedBy (rules_of c.args.self.now) c.held_of-before.result c.held_of-after.result items c.change_row.new.shares) c.deref_mut.ensures.value
    (subst (λ s. AreChangedBy (record { shape = s; split = c.args.self.now.split }) c.held_of-before.result c.held_of-after.result c.deref_mut.result.now c.change_row.new.shares) (shape here.After-shape-shape) c.change_row.ensures))) in
    let back = written-back c.args.self.now.shares.items c.change_row.new.shares c.args.self.now.shares.len changed.long (sym c.args.self.now.shares.ok.0) in
    record {
      fits = subst (λ s. SplitFits (record { shape = s; split = c.args.self.now.split })) (sym same) c.args.self.now.fits;
      shared =
          subst (λ (items : List Share). AreShares (record { shape = c.step.new.self.shape; split = c.args.self.now.split }) (reservations_held c.step.new.self) items) (sym back)
          (subst (λ s. AreShares (record { shape = s; split = c.args.self.now.split }) (reservations_held c.step.new.self) c.change_row.new.shares) (sym same)
          (shares-setup (rules_of c.args.self.now) (account_in c.args.self.now.link) (account_in c.step.new.self) c.args.ask.now c.in_ok-reply.reply c.args.chan c.args.self.now.shares.items c.change_row.new.shares c.args.self.now.fits (goes here.In_ok-reply) (settling-setup c.args.chan c.args.ask.now c.requires.settles) (λ h stands. settling-new c.args.chan c.args.ask.now c.in_ok-reply.reply _ c.requires.settles) c.args.self.now.stood c.args.self.now.shared changed));
      listed = subst (λ s. AreClosing (record { shape = s; split = c.args.self.now.split }) (reservations_held c.step.new.self) c.list_released.new.closing.items) (sym same)
          (closing-settled (rules_of c.args.self.now) (account_in c.args.self.now.link) (account_in c.step.new.self) c.args.ask.now c.in_ok-reply.reply c.args.chan c.args.self.now.closing.items c.list_released.new.closing.items c.args.self.now.fits (goes here.In_ok-reply) c.requires.settles c.args.self.now.stood
          (λ apart f. c.list_released.ensures.new (ap is_closing c.held_of-before.ensures.row ∙ apart) f
          ∙ ap (λ row. total f c.args.self.now.closing.items + value_of (if_closing f) row) (after here.After-held_of-after))
          (λ was. c.list_released.ensures.old (ap is_closing c.held_of-before.ensures.row ∙ was))
          c.args.self.now.listed);
      room = subst (HasRoomToClose c.args.self.now.split (reservations_held c.step.new.self)) (sym c.list_released.ensures.capacity)
          (room-settled (rules_of c.args.self.now) (account_in c.args.self.now.link) (account_in c.step.new.self) c.args.ask.now c.in_ok-reply.reply c.args.chan (vec_capacity c.args.self.now.closing) (goes here.In_ok-reply) c.requires.settles c.args.self.now.stood c.args.self.now.room);
      stood = subst (λ s. IsLegallyStood (record { shape = s; split = c.args.self.now.split }) (account_in c.step.new.self)) (sym same) (stood here.In_ok-reply);
      rests = due-now c.step.new.self.shape (account_in c.step.new.self);
    }
