-- A row that wasn't closing and is so now is listed.
use Rattle.std.proofs.Common.{◌≡◌, ℕ, ◌+◌, true, Some, rules, refl, sym, ap, ◌∙◌, arith}
use Rattle.traffic_contract.specs.Admission.{total}
use Rattle.traffic_contract.proofs.AdmissionTest.{total-push}
use Rattle.link_steps.specs.declared.replies.Phase.TheVariants.{Closing}
use Rattle.link_steps.specs.Reservation.{is_phase}
use Rattle.link_server.specs.declared.held_row.HeldRow.{HeldRow}
use Rattle.link_quota.specs.Closing.{is_closing, if_closing}
use Rattle.link_quota.specs.Places.{value_of}
use Rattle.link_quota.proofs.closing.list_released.Goals as goal

listed : (f : HeldRow → ℕ) (row : HeldRow) → is_phase row.phase Closing ≡ true → value_of (if_closing f) (Some row) ≡ f row
listed f row closes = rw closes refl

pub push_reserved-requires : goal.push_reserved-requires
push_reserved-requires c =
    let same : c.eq.result ≡ is_phase c.in-Some.row.phase Closing = search rules in
    let room = c.requires.room (sym c.is_closing.ensures ∙ c.if-is_closing.false) (ap is_closing c.in-Some.is ∙ sym same ∙ c.if-eq.true) in
    omega (arith, room, c.args.closing.now.ok)

pub returns-then-eq-clause-new : goal.returns-then-eq-clause-new
returns-then-eq-clause-new c = λ apart f.
    let same : c.eq.result ≡ is_phase c.in-Some.row.phase Closing = search rules in
    ap (total f) c.push_reserved.ensures.items
    ∙ total-push f c.args.closing.now.items c.in-Some.row
    ∙ ap (λ n. total f c.args.closing.now.items + n) (sym (ap (value_of (if_closing f)) c.in-Some.is ∙ listed f c.in-Some.row (sym same ∙ c.if-eq.true)))
