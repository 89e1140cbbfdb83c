-- The shares as the rows that are gone are taken off them, one after the other.
use Rattle.std.proofs.Common.{◌≡◌, ℕ, suc, ◌+◌, true, false, List, [], take, Some, refl, sym, ap, ◌∙◌, arith}
use Rattle.std.proofs.lemmas.Option.{same_Some, slice_get_within}
use Rattle.std.specs.Prelude.{slice_get}
use Rattle.std.specs.List.{slice_index}
use Rattle.traffic_contract.specs.Admission.{total}
use Rattle.link_steps.specs.Reservation.{Reservation}
use Rattle.link_steps.specs.Split.{Link}
use Rattle.link_steps.proofs.ListParts.{stands-at}
use Rattle.link_server.specs.declared.held_row.HeldRow.{HeldRow}
use Rattle.link_quota.specs.Closing.{is_held, if_gone, HaveGone, AreLowered}
use Rattle.link_quota.specs.Places.{HavePart, AreRaisedBy, work_for, units_for_row}
use Rattle.link_quota.specs.Shares.{row_work}
use Rattle.link_quota.specs.declared.share.Share.{Share}
use Rattle.link_quota.proofs.SharesRowByRow.{total-take, total-take-le}
use Rattle.link_quota.proofs.SharesThroughChange.{changed-back}

-- none is gone yet
pub lowered-none : (link : Link) (held : List Reservation) (shares : List Share) → AreLowered link held [] shares shares
lowered-none link held shares = record {
  long = refl;
  each = λ k quota share share' at was is.
      let same = same_Some share' share (sym is ∙ was) in
      record { loads = λ i inside. (let h = ap (λ (s : Share). slice_index s.loads i) same in omega (arith, h)); units = (let h = ap (λ (s : Share). s.units) same in omega (arith, h)) };
}

-- what a row adds to a sum of those that are gone
more-gone : (bounds : List ℕ) (held : List Reservation) (f : HeldRow → ℕ) (rows : List HeldRow) (i : ℕ) (row : HeldRow) → slice_get rows i ≡ Some row → is_held bounds held row ≡ false → total (if_gone bounds held f) (take (suc i) rows) ≡ total (if_gone bounds held f) (take i rows) + f row
more-gone bounds held f rows i row at gone = total-take (if_gone bounds held f) rows i row at ∙ (rw gone refl)

none-gone : (bounds : List ℕ) (held : List Reservation) (f : HeldRow → ℕ) (rows : List HeldRow) (i : ℕ) (row : HeldRow) → slice_get rows i ≡ Some row → is_held bounds held row ≡ true → total (if_gone bounds held f) (take (suc i) rows) ≡ total (if_gone bounds held f) (take i rows)
none-gone bounds held f rows i row at stays = (let more : total (if_gone bounds held f) (take (suc i) rows) ≡ total (if_gone bounds held f) (take i rows) + 0 = total-take (if_gone bounds held f) rows i row at ∙ (rw stays refl) in omega (arith, more))

-- a row that is gone has given its part back
pub lowered-more : (link : Link) (held : List Reservation) (rows : List HeldRow) (i : ℕ) (row : HeldRow) (old mid new : List Share) → slice_get rows i ≡ Some row → is_held link.shape.bounds held row ≡ false → AreLowered link held (take i rows) old mid → AreRaisedBy link row new mid → AreLowered link held (take (suc i) rows) old new
lowered-more link held rows i row old mid new here gone before raised =
    let back = changed-back link row mid new raised in
    record {
      long = back.long ∙ before.long;
      each = λ k quota share share' at was is.
          let inside = slice_get_within new k share' is in
          let long = back.long in
          let middle = stands-at mid k (omega (arith, inside, long)) in
          let one = before.each k quota share middle.0 at was middle.1 in
          let two = back.each k quota middle.0 share' at middle.1 is in
          record {
            loads = λ n within. (let a = one.loads n within in let b = two.loads n within in let c = more-gone link.shape.bounds held (work_for link quota.group (n + 1)) rows i row here gone in omega (arith, a, b, c));
            units = (let a = one.units in let b = two.units in let c = more-gone link.shape.bounds held (units_for_row link quota.group) rows i row here gone in omega (arith, a, b, c));
          };
    }

-- one that is held hasn't
pub lowered-same : (link : Link) (held : List Reservation) (rows : List HeldRow) (i : ℕ) (row : HeldRow) (old mid : List Share) → slice_get rows i ≡ Some row → is_held link.shape.bounds held row ≡ true → AreLowered link held (take i rows) old mid → AreLowered link held (take (suc i) rows) old mid
lowered-same link held rows i row old mid here stays before = record {
  long = before.long;
  each = λ k quota share share' at was is.
      let one = before.each k quota share share' at was is in
      record {
        loads = λ n within. (let a = one.loads n within in let c = none-gone link.shape.bounds held (work_for link quota.group (n + 1)) rows i row here stays in omega (arith, a, c));
        units = (let a = one.units in let c = none-gone link.shape.bounds held (units_for_row link quota.group) rows i row here stays in omega (arith, a, c));
      };
}

-- a row that is gone still has its part
pub part-gone : (link : Link) (held : List Reservation) (rows : List HeldRow) (i : ℕ) (row : HeldRow) (old mid : List Share) → slice_get rows i ≡ Some row → is_held link.shape.bounds held row ≡ false → HaveGone link held rows old → AreLowered link held (take i rows) old mid → HavePart link row mid
part-gone link held rows i row old mid here gone have before = λ k quota share at is own.
    let inside = slice_get_within mid k share is in
    let long = before.long in
    let first = stands-at old k (omega (arith, inside, long)) in
    let most = have k quota first.0 at first.1 in
    let one = before.each k quota first.0 share at first.1 is in
    record {
      loads = λ n within.
          let a = one.loads n within in
          let b = most.loads n within in
          let c = more-gone link.shape.bounds held (work_for link quota.group (n + 1)) rows i row here gone in
          let d = total-take-le (if_gone link.shape.bounds held (work_for link quota.group (n + 1))) rows (suc i) in
          let w : work_for link quota.group (n + 1) row ≡ row_work link.shape.rate link.shape.bounds (n + 1) row = rw own refl in
          omega (arith, a, b, c, d, w);
      units =
          let a = one.units in
          let b = most.units in
          let c = more-gone link.shape.bounds held (units_for_row link quota.group) rows i row here gone in
          let d = total-take-le (if_gone link.shape.bounds held (units_for_row link quota.group)) rows (suc i) in
          let w : units_for_row link quota.group row ≡ row.kept = rw own refl in
          omega (arith, a, b, c, d, w);
    }
