use Rattle.std.proofs.Common.{◌≡◌, ◌+◌, map, vec_items, vec_len, vec_capacity}
use Rattle.workbench.specs.Runs.{call_of, calls}
use Rattle.workbench.proofs.Turns.{Left}
use Rattle.workbench.proofs.run.make_calls.Given as goal

abbrev pub invariant-loop-call : goal.invariant-loop-call
invariant-loop-call g l = record {
  left : Left l.calls l.call-index l.workbench (vec_items l.answers) (calls (map call_of l.calls) l.initial.workbench) (vec_items l.initial.answers);
  len : vec_len l.answers ≡ vec_len l.initial.answers + l.call-index;
  capacity : vec_capacity l.answers ≡ vec_capacity l.initial.answers;
}
