use Rattle.net_units.proofs.NameIsText.{name-is-text}
use Rattle.net_units.proofs.name.Name.as_str.Goals as goal

pub unreachable-requires : goal.unreachable-requires
unreachable-requires c =
    c.in-Err.ensures.cases.0 (rw c.as_bytes.ensures.value (name-is-text c.args.self.now c.as_bytes.ensures.valid))
