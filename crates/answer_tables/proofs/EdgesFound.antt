-- An edge that is found between two delays lies between any two around them.
use Rattle.std.proofs.Common.{ℕ, ◌+◌, Bool, not, ◌∙◌, subst, arith}
use Rattle.answer_tables.specs.Ranges.{DelayIs, HasEdge, IsPartOf}
use Rattle.answer_tables.specs.declared.ranges.Across.{Across}

pub part-of-part : (across part smaller : Across) → IsPartOf across part → IsPartOf part smaller → IsPartOf across smaller
part-of-part across part smaller first second = record {
  from = omega (arith, first.from, second.from);
  to = omega (arith, first.to, second.to);
  same = second.same ∙ first.same;
}

pub edge-of-part : (gives : ℕ → Bool → Type 0) (across part : Across) (edge : ℕ) → IsPartOf across part → HasEdge gives part edge → HasEdge gives across edge
edge-of-part gives across part edge is has = record {
  from = omega (arith, is.from, has.from);
  below = omega (arith, is.to, has.below);
  is = subst (DelayIs gives edge) is.same has.is;
  next = subst (λ (accepted : Bool). gives (edge + 1) (not accepted)) is.same has.next;
}
