-- A move carries what is kept of the load of the request that it leaves.
use Rattle.std.proofs.Common.{ℕ, ◌*◌, List, sym, ap, ◌∙◌}
use Rattle.call_script.specs.Rules.{load_at, load_of, loads_in}
use Rattle.scenario_reader.specs.Uses.{use_at}
use Rattle.scenario_reader.specs.declared.uses.Uses.{Uses}
use Rattle.scenario_reader.proofs.Passing.RequestUses.{move-carries}
use Rattle.scenario_reader.proofs.draft.Draft.packets_of.Goals as goal

pub returns-in-Move : goal.returns-in-Move
returns-in-Move c =
    let old = c.in-Move.old in
    let new = c.in-Move.new in
    let carried = move-carries _ c.args.self.now _ _ _ _ _ c.args.op.now old new c.self.view_is c.in-Move.is c.self.invariant.0 c.self.invariant.1 c.requires in
    let kept = ap (λ (one : Uses). one.load) (c.use_at.ensures.value ∙ ap (λ (uses : List Uses). use_at uses old) c.deref.ensures.value) in
    ap (λ (n : ℕ). n * c.hops_of-in-Move.result) (kept ∙ carried)
    ∙ ap (λ (n : ℕ). load_at (loads_in c.args.self.now.callers) old * n) c.hops_of-in-Move.ensures.value
    ∙ ap (load_of c.args.self.now.requests (loads_in c.args.self.now.callers)) (sym c.in-Move.is)
