use Rattle.std.proofs.Common.{◌≤◌, flat_map, take}
use Rattle.std.specs.Fmt.{HasWritten, IsPlainFormatter}
use Rattle.script.specs.Print.{spelled}
use Rattle.script.proofs.PlainRuns.{IsPlainRun}
use Rattle.script.proofs.printer.QuotedDisplay.fmt.Given as goal

abbrev pub invariant-loop-end : goal.invariant-loop-end
invariant-loop-end g l = record {
  begun : l.start ≤ l.end;
  plain : IsPlainRun l.bytes l.start l.end;
  wrote : IsPlainFormatter l.initial.f → HasWritten g.W.Write.write_str_gives l.initial.f (flat_map spelled (take l.start l.bytes)) l.f;
}
