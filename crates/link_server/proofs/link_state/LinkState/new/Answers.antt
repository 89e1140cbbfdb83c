-- Nothing is kept of no history.
use Rattle.std.proofs.Common.{◌≡◌, sym, ap, ◌∙◌, subst, arith}
use Rattle.link_server.proofs.Words.{empty_account, account, QueueAccount, TableAccount}
use Rattle.link_steps.proofs.Account.{nothing-stands}
use Rattle.link_server.specs.Sound.{IsSound}
use Rattle.link_server.specs.Stood.{IsStood}
use Rattle.link_server.proofs.Sound.Stood.{nothing-stood}
use Rattle.link_server.proofs.Replies.Account.{account-nothing}
use Rattle.link_server.proofs.LinkRests.{due-now}
use Rattle.link_server.proofs.Sound.Setup.{nothing-sound}
use Rattle.link_server.proofs.RowsOfTable.Parts.{of-shape}
use Rattle.link_server.proofs.link_state.LinkState.new.Goals as goal
use Rattle.link_server.proofs.link_state.LinkState.new.Goals.{In_ok-new}

nothing : (c : In_ok-new) → account 0 c.reserve.new.self c.in_ok-new.field-0.rows ≡ empty_account
nothing c =
    account-nothing c.reserve.new.self.room c.args.shape.rate c.args.shape.bounds c.reserve.new.self c.in_ok-new.field-0.rows
    (c.reserve.ensures.kept ∙ ap (λ (queue : QueueAccount). record queue { room = c.reserve.new.self.room }) c.in_ok-queue.ensures)
    (ap (λ (table : TableAccount). table.rows) c.in_ok-new.ensures)

pub invariant_of-result-clause-of_shape : goal.invariant_of-result-clause-of_shape
invariant_of-result-clause-of_shape c = of-shape c.args.shape c.in_ok-new.field-0 (ap (λ (table : TableAccount). table.server) c.in_ok-new.ensures) (ap (λ (table : TableAccount). table.buffer) c.in_ok-new.ensures)

pub invariant_of-result-clause-sound : goal.invariant_of-result-clause-sound
invariant_of-result-clause-sound c =
    let room = c.in_ok-reserve.ensures.room in
    subst (IsSound c.args.shape c.reserve.new.self.room) (sym (nothing (goal.at.invariant_of-result-clause-sound c).In_ok-new))
    (nothing-sound c.args.shape c.reserve.new.self.room (omega (arith, room)))

pub invariant_of-result-clause-stood : goal.invariant_of-result-clause-stood
invariant_of-result-clause-stood c = subst (IsStood c.args.shape) (sym (nothing (goal.at.invariant_of-result-clause-stood c).In_ok-new)) (nothing-stood c.args.shape)

pub invariant_of-result-clause-few : goal.invariant_of-result-clause-few
invariant_of-result-clause-few c =
    let none = ap (λ (queue : QueueAccount). queue.room) c.in_ok-queue.ensures in
    c.reserve.ensures.small (omega (arith, none))

pub invariant_of-result-clause-looked : goal.invariant_of-result-clause-looked
invariant_of-result-clause-looked c =
    let kept = ap (λ (queue : QueueAccount). queue.looked) c.reserve.ensures.kept in
    let none = ap (λ (queue : QueueAccount). queue.looked) c.in_ok-queue.ensures in
    let table = ap (λ (table : TableAccount). table.looked) c.in_ok-new.ensures in
    (omega (arith, table), omega (arith, kept, none))

pub invariant_of-result-clause-same_bounds : goal.invariant_of-result-clause-same_bounds
invariant_of-result-clause-same_bounds c = ap (λ (queue : QueueAccount). queue.bounds) c.reserve.ensures.kept ∙ ap (λ (queue : QueueAccount). queue.bounds) c.in_ok-queue.ensures

pub invariant_of-result-clause-same_rate : goal.invariant_of-result-clause-same_rate
invariant_of-result-clause-same_rate c = ap (λ (queue : QueueAccount). queue.rate) c.reserve.ensures.kept ∙ ap (λ (queue : QueueAccount). queue.rate) c.in_ok-queue.ensures

pub invariant_of-result-clause-rests : goal.invariant_of-result-clause-rests
invariant_of-result-clause-rests c = due-now _ _

pub returns-clause-stands : goal.returns-clause-stands
returns-clause-stands c = nothing (goal.at.returns-clause-stands c).In_ok-new ∙ nothing-stands c.args.shape
