-- A slot with a value is one of the list's.
use Rattle.std.proofs.Common.{◌≡◌, ◌≤◌, ℕ, inl, inr, Option, Some, None, Bor, List, is_some, IsSome, true≢false, length, ap, sym, subst, ◌∙◌, arith}
use Rattle.std.specs.Prelude.{IfNone, IfSome, option_copied}
use Rattle.std.proofs.lemmas.Bool.{cases_lt}
use Rattle.link_server.specs.KeyedList.{AreKeys, IsUnder, Listed, items_at, position, slot_at}
use Rattle.link_server.proofs.KeyedValues.{held-at, item-at, length-items, some-listed}
use Rattle.link_server.proofs.KeyPlaces.{position-there}
use Rattle.link_server.proofs.keyed_list.KeyedList.get.Goals as goal

module _ {T : Type 0} (slots : List (Option T)) (keys : List ℕ) (spare key : ℕ) (are : AreKeys slots keys) where
  abbrev list : Listed T
  list = record { items = items_at slots keys; keys = keys; spare = spare }

  get-none : (found : Option (Bor T)) → option_copied found ≡ slot_at slots key → IfNone found (length list.items ≤ position keys key)
  get-none (Some value) same = tt
  get-none None same = elim (cases_lt (position keys key) (length keys)) [
    | inl inside ↦ absurd (true≢false (sym (subst (λ k. IsSome (slot_at slots k)) (position-there keys key 0 inside) (held-at slots keys (position keys key) 0 are.held inside)) ∙ ap is_some (sym same)))
    | inr past ↦ (let long = length-items slots keys are.held in omega (arith, past, long))
  ]

  get-some : (found : Option (Bor T)) → option_copied found ≡ slot_at slots key → IfSome found (λ value. IsUnder list key value.now)
  get-some None same = tt
  get-some (Some value) same =
      let inside = some-listed slots keys key are (ap is_some (sym same)) in
      let long = length-items slots keys are.held in
      record {
        inside = omega (arith, inside, long);
        there = item-at slots keys (position keys key) 0 value.now value.now are.held inside (ap (slot_at slots) (position-there keys key 0 inside) ∙ sym same);
      }

pub returns-clause-none : goal.returns-clause-none
returns-clause-none g c =
    subst (λ list. IfNone c.get.result (length list.items ≤ position list.keys c.args.key)) c.self.view_is
    (get-none c.self.inside.slots.slots c.self.inside.keys.items c.self.inside.spare c.args.key c.self.invariant.0 c.get.result c.get.ensures)

pub returns-clause-some : goal.returns-clause-some
returns-clause-some g c =
    subst (λ list. IfSome c.get.result (λ value. IsUnder list c.args.key value.now)) c.self.view_is
    (get-some c.self.inside.slots.slots c.self.inside.keys.items c.self.inside.spare c.args.key c.self.invariant.0 c.get.result c.get.ensures)
