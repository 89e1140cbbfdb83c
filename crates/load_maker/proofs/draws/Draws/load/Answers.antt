-- Six draws are a load.
use Rattle.load_maker.proofs.LoopsMakeLoad.{load-is}
use Rattle.load_maker.proofs.draws.Draws.load.Goals as goal

pub returns-clause-value : goal.returns-clause-value
returns-clause-value c =
    load-is c.args.self.now.state c.draw.new.self.state c.draw-2.new.self.state c.draw-3.new.self.state c.draw-4.new.self.state c.draw-5.new.self.state c.draw-6.new.self.state
    c.draw.result c.draw-2.result c.draw-3.result c.draw-4.result c.draw-5.result c.draw-6.result c.contract-contract.result c.control-control.result
    c.draw.ensures.state c.draw-2.ensures.state c.draw-3.ensures.state c.draw-4.ensures.state c.draw-5.ensures.state c.draw-6.ensures.state
    c.draw.ensures.value c.draw-2.ensures.value c.draw-3.ensures.value c.draw-4.ensures.value c.draw-5.ensures.value c.draw-6.ensures.value
    c.contract-contract.ensures c.control-control.ensures
