use Rattle.std.proofs.Common.{rules}
use Rattle.tables.specs.Calls.{type_call}
use Rattle.tables.specs.Types.{type_of}
use Rattle.workbench.specs.Runs.{type', step}
use Rattle.workbench.proofs.Reach.{went}
use Rattle.workbench.proofs.stages.Workbench.term_type.Goals as goal

pub invariant_of-self : goal.invariant_of-self
unfolding step type_call
invariant_of-self g c = went (type' (type_of c.args.t)) c.self.invariant (search rules)
