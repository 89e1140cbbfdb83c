use Rattle.std.proofs.Common.{◌≡◌, length, sym, ◌∙◌, subst, arith}
use Rattle.shared_network.proofs.Words.{slice_get_read, link_number, known_of, Steps}
use Rattle.std.proofs.lemmas.Result.{IfOk-weaker}
use Rattle.link_ledger.specs.Order.{AreInOrder}
use Rattle.shared_network.specs.Ready.{PassGoesOn}
use Rattle.shared_network.specs.Sight.{FitsAt}
use Rattle.shared_network.proofs.Numbering.LinkNumbers.{numbered-length, numbered-at, fits-shape, both-ok, ok-then}
use Rattle.shared_network.proofs.CallSteps.PassAfterStep.{drew-one, goes-on}
use Rattle.shared_network.proofs.network.Network.step_at.Goals as goal

pub index-requires : goal.index-requires
index-requires g c =
    let long = numbered-length (λ x. link_number x.link) c.self.inside.links.items (length g.H.Home.links) c.self.invariant.numbers_are in
    omega (arith, long, c.from.ensures, c.get.ensures.value, c.requires.link, c.self.inside.links.ok)

pub step-requires-clause-fits : goal.step-requires-clause-fits
step-requires-clause-fits g c κs within =
    let below = c.requires.link in
    let is : c.from.result ≡ link_number c.args.link = c.from.ensures ∙ c.get.ensures.value in
    let long = numbered-length (λ x. link_number x.link) c.self.inside.links.items (length g.H.Home.links) c.self.invariant.numbers_are in
    let found = slice_get_read c.self.inside.links.items (length c.self.inside.links.items) c.from.result c.index.result.now (λ i. length c.self.inside.links.items) (omega (arith, long, is, below)) c.index.ensures in
    let at : link_number c.index.result.now.link ≡ link_number c.args.link = numbered-at (λ x. link_number x.link) c.self.inside.links.items (length g.H.Home.links) c.from.result c.index.result.now c.self.invariant.numbers_are (omega (arith, is, below)) found ∙ is in
    fits-shape g.H.Home.links (link_number c.index.result.now.link) c.index.result.now.shape c.args.ask.now c.index.result.now.shape_is (subst (λ l. FitsAt g.H.Home.links l c.args.ask.now) (sym at) c.requires.fits)

pub returns-clause-made : goal.returns-clause-made
returns-clause-made g c =
    let below = c.requires.link in
    let is : c.from.result ≡ link_number c.args.link = c.from.ensures ∙ c.get.ensures.value in
    let long = numbered-length (λ x. link_number x.link) c.self.inside.links.items (length g.H.Home.links) c.self.invariant.numbers_are in
    let found = slice_get_read c.self.inside.links.items (length c.self.inside.links.items) c.from.result c.index.result.now (λ i. length c.self.inside.links.items) (omega (arith, long, is, below)) c.index.ensures in
    let at : link_number c.index.result.now.link ≡ link_number c.args.link = numbered-at (λ x. link_number x.link) c.self.inside.links.items (length g.H.Home.links) c.from.result c.index.result.now c.self.invariant.numbers_are (omega (arith, is, below)) found ∙ is in
    IfOk-weaker c.step.result _ _ (λ reply steps. subst (λ l. Steps g.H.Home.links l c.args.ask.now c.args.pass.now c.step.new.pass reply) at steps) c.step.ensures.made

pub returns-clause-ready : goal.returns-clause-ready
returns-clause-ready g c =
    both-ok (λ reply. Steps g.H.Home.links (link_number c.index.result.now.link) c.args.ask.now c.args.pass.now c.step.new.pass reply)
    (λ reply. AreInOrder g.H.Home.owners (length g.H.Home.links) (known_of (link_number c.index.result.now.link) c.step.new.pass.view))
    (PassGoesOn g.H.Home.table g.H.Home.owners g.H.Home.links c.args.pass.now c.step.new.pass) c.step.result
    (λ reply steps order. goes-on g.H.Home.table g.H.Home.owners g.H.Home.links (link_number c.index.result.now.link) c.args.ask.now c.args.pass.now c.step.new.pass reply c.self.invariant.splits c.requires.pass steps order c.step.ensures.same.0 c.step.ensures.same.2) c.step.ensures.made c.step.ensures.order

pub returns-clause-drew : goal.returns-clause-drew
returns-clause-drew g c = ok-then (λ reply. Steps g.H.Home.links (link_number c.index.result.now.link) c.args.ask.now c.args.pass.now c.step.new.pass reply) _ c.step.result (λ reply steps. drew-one _ _ _ _ _ reply steps) c.step.ensures.made
