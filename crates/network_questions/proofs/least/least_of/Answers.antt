use Rattle.network_questions.proofs.least.least_of.Goals as goal

pub returns : goal.returns
returns c = record { asking = c.in_ok-asking.asking; stands = c.in_ok-asking.ensures; row = c.in_ok-row.row; is = c.in_ok-row.ensures; holds = c.is_acceptance.ensures }
