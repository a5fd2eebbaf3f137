use Rattle.def_reader.proofs.connections.least_nets.Goals as goal

pub returns-then-branch-clause-names : goal.returns-then-branch-clause-names
returns-then-branch-clause-names c = c.in_ok-are_apart.ensures.names c.if-branch.true

pub returns-then-branch-clause-connections : goal.returns-then-branch-clause-connections
returns-then-branch-clause-connections c = c.in_ok-are_apart.ensures.connections c.if-branch.true
