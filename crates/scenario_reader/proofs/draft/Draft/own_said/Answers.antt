use Rattle.std.proofs.Common.{◌≡◌, ℕ, List, Some, length, refl, sym, ◌∙◌, ap, subst, arith}
use Rattle.std.proofs.lemmas.Option.{same_Some, slice_get_read, slice_get_within}
use Rattle.std.specs.List.{slice_get}
use Rattle.line_forms.specs.Values.{number_at}
use Rattle.line_forms.specs.declared.value.FieldValue.{FieldValue}
use Rattle.scenario_reader.specs.Drafts.{Said}
use Rattle.scenario_reader.specs.Kept.{IsDraft}
use Rattle.scenario_reader.specs.line.Using.{IsOwn, SaysOwn}
use Rattle.scenario_reader.proofs.kind.Using.{IsOwnAt, own-there}
use Rattle.scenario_reader.proofs.draft.Draft.own_said.Goals as goal

-- the request is there, among the items of the draft
record IsItem (inside said : Said) (ones : List FieldValue) (place n : ℕ) : Type 0 where
  own : IsOwnAt said ones place
  at : slice_get inside.requests n ≡ Some own.entry

is-item : (inside said : Said) (ones : List FieldValue) (place n : ℕ) → inside ≡ said → n ≡ number_at ones place → IsDraft inside → SaysOwn said ones place → IsItem inside said ones place n
is-item inside said ones place n same its draft says =
    let own = own-there said ones place (subst IsDraft same draft) says in
    record { own = own; at = ap (slice_get inside.requests) its ∙ ap (λ (s : Said). slice_get s.requests (number_at ones place)) same ∙ own.at }

pub index-requires : goal.index-requires
index-requires c =
    let item = is-item _ c.args.self.now c.args.values.now.ones c.args.place c.number.result c.self.view_is c.number.ensures c.self.invariant.0 c.requires in
    let within = slice_get_within c.self.inside.requests.items c.number.result item.own.entry item.at in
    omega (arith, within, c.self.inside.requests.ok.0)

pub returns-clause-at : goal.returns-clause-at
returns-clause-at c =
    let items = c.self.inside.requests.items in
    let item = is-item _ c.args.self.now c.args.values.now.ones c.args.place c.number.result c.self.view_is c.number.ensures c.self.invariant.0 c.requires in
    item.own.at ∙ sym item.at ∙ slice_get_read items (length items) c.number.result c.index.result.now refl (slice_get_within items c.number.result item.own.entry item.at) c.index.ensures

pub returns-clause-own : goal.returns-clause-own
returns-clause-own c =
    let items = c.self.inside.requests.items in
    let item = is-item _ c.args.self.now c.args.values.now.ones c.args.place c.number.result c.self.view_is c.number.ensures c.self.invariant.0 c.requires in
    let here = slice_get_read items (length items) c.number.result c.index.result.now refl (slice_get_within items c.number.result item.own.entry item.at) c.index.ensures in
    subst (IsOwn c.args.self.now) (same_Some item.own.entry c.index.result.now (sym item.at ∙ here)) (record { name = item.own.name; own = item.own.own })
