use Rattle.std.proofs.Common.{arith}
use Rattle.workbench.proofs.Turns.{left_more, left_end}
use Rattle.workbench.proofs.run.make_calls.Goals as goal

pub loop-call-preserved : goal.loop-call-preserved
loop-call-preserved g c = record {
  left = left_more c.loop-call.invariant.left _ c.loop-call-test.true c.call-answer.ensures c.push_reserved.ensures.items;
  len = omega arith;
  capacity = cc;
}

pub returns : goal.returns
returns g c =
    let (t, a) = left_end c.loop-call.invariant.left c.loop-call-test.false in
    record { tables = t; items = a; len = omega arith; capacity = c.loop-call.invariant.capacity }
