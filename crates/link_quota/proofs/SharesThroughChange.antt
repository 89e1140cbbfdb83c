-- The shares as the row of a channel changes: it is given back, and held anew.
use Rattle.std.proofs.Common.{◌≡◌, ◌+◌, ◌^◌, ◌<◌, ◌⊎◌, inl, inr, true, false, List, Option, Some, None, refl, sym, ap, ◌∙◌, arith}
use Rattle.std.proofs.lemmas.Bool.{cases_Bool}
use Rattle.std.proofs.lemmas.Option.{same_Some, slice_get_within}
use Rattle.link_steps.specs.declared.quota.Quota.{Quota}
use Rattle.link_steps.specs.Split.{Link, is_in}
use Rattle.link_steps.proofs.ListParts.{stands-at}
use Rattle.std.specs.List.{slice_index}
use Rattle.link_server.specs.declared.held_row.HeldRow.{HeldRow}
use Rattle.link_quota.specs.Places.{IsRaisedFor, AreRaisedBy, IsChangedFor, AreChangedBy, HaveRoomFor, AreSmall}
use Rattle.link_quota.specs.declared.share.Share.{Share}

-- nothing changes
pub changed-none : (link : Link) (shares : List Share) → AreChangedBy link None None shares shares
changed-none link shares = record {
  long = refl;
  each = λ k quota share share' at before after.
      let same = same_Some share' share (sym after ∙ before) in
      record { loads = λ i inside. ap (λ (s : Share). slice_index s.loads i + 0) same; units = ap (λ (s : Share). s.units + 0) same };
}

-- the row before is given back
pub changed-back : (link : Link) (row : HeldRow) (old mid : List Share) → AreRaisedBy link row mid old → AreChangedBy link (Some row) None old mid
changed-back link row old mid raised = record {
  long = sym raised.long;
  each = λ k quota share share' at before after. one quota share share' (raised.each k quota share' share at after before) (cases_Bool (is_in link.split quota.group row.chan));
} where
  one : (quota : Quota) (share share' : Share) → IsRaisedFor link quota.group row share' share → (is_in link.split quota.group row.chan ≡ true) ⊎ (is_in link.split quota.group row.chan ≡ false) → IsChangedFor link quota.group (Some row) None share share'
  one quota share share' raised (inl own) =
      let is = raised.own own in
      record { loads = λ i inside. (let h = is.loads i inside in rw own (omega (arith, h))); units = (let h = is.units in rw own (omega (arith, h))) }
  one quota share share' raised (inr other) =
      let same = raised.others other in
      record { loads = λ i inside. (let h = ap (λ (s : Share). slice_index s.loads i) same in rw other (omega (arith, h))); units = (let h = ap (λ (s : Share). s.units) same in rw other (omega (arith, h))) }

-- and the one after is held
pub changed-held : (link : Link) (before : Option HeldRow) (row : HeldRow) (old mid new : List Share) → AreChangedBy link before None old mid → AreRaisedBy link row mid new → AreChangedBy link before (Some row) old new
changed-held link before row old mid new back raised = record {
  long = raised.long ∙ back.long;
  each = λ k quota share share' at was is.
      let inside = slice_get_within old k share was in
      let long = back.long in
      let middle = stands-at mid k (omega (arith, inside, long)) in
      one quota share middle.0 share' (back.each k quota share middle.0 at was middle.1) (raised.each k quota middle.0 share' at middle.1 is) (cases_Bool (is_in link.split quota.group row.chan));
} where
  one : (quota : Quota) (share between share' : Share) → IsChangedFor link quota.group before None share between → IsRaisedFor link quota.group row between share' → (is_in link.split quota.group row.chan ≡ true) ⊎ (is_in link.split quota.group row.chan ≡ false) → IsChangedFor link quota.group before (Some row) share share'
  one quota share between share' back raised (inl own) =
      let is = raised.own own in
      record {
        loads = λ i inside. (let h = is.loads i inside in let g = back.loads i inside in rw own (omega (arith, h, g)));
        units = (let h = is.units in let g = back.units in rw own (omega (arith, h, g)));
      }
  one quota share between share' back raised (inr other) =
      let same = raised.others other in
      record {
        loads = λ i inside. (let h = ap (λ (s : Share). slice_index s.loads i) same in let g = back.loads i inside in rw other (omega (arith, h, g)));
        units = (let h = ap (λ (s : Share). s.units) same in let g = back.units in rw other (omega (arith, h, g)));
      }

-- what is left when a row is given back has room for another
pub room-between : (link : Link) (before : Option HeldRow) (row : HeldRow) (old mid : List Share) → AreChangedBy link before None old mid → AreSmall link old → row.kept < 2 ^ 61 → HaveRoomFor link row mid
room-between link before row old mid back small kept = λ k quota between at is.
    let inside = slice_get_within mid k between is in
    let long = back.long in
    let was = stands-at old k (omega (arith, inside, long)) in
    let few = small k quota was.0 at was.1 in
    let change = back.each k quota was.0 between at was.1 is in
    (λ i in_levels. (let h = change.loads i in_levels in let g = few.loads i in_levels in omega (arith, h, g)), (let h = change.units in let g = few.units in omega (arith, h, g, kept)))
