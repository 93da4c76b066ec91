use Rattle.std.proofs.Common.{vec_items}
use Rattle.script.specs.Sessions.{Lines}
use Rattle.script.proofs.session.run_script.Given as goal

-- each answer so far is a whole line
abbrev pub invariant-loop-number : goal.invariant-loop-number
invariant-loop-number l = Lines (vec_items l.answers)
