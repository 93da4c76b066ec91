use Rattle.std.proofs.Common.{rules}
use Rattle.tables.specs.Calls.{name_call}
use Rattle.workbench.specs.Runs.{name', step}
use Rattle.workbench.proofs.Reach.{went}
use Rattle.workbench.proofs.stages.Workbench.name.Goals as goal

pub invariant_of-self : goal.invariant_of-self
unfolding step name_call
invariant_of-self g c = went (name' c.args.bytes.now) c.self.invariant (search rules)
