use Rattle.std.proofs.Common.{rules, arith, append_assoc}
use Rattle.std.proofs.lemmas.Grind.{common_steps, put_three, put_four}
use Rattle.script.proofs.PlainRuns.{run_and_byte, run_at_end}
use Rattle.script.proofs.printer.QuotedDisplay.fmt.Goals as goal

pub loop-end-preserved : goal.loop-end-preserved
loop-end-preserved g c =
    let l = c.loop-end in
    let bs = c.args.self.now.0.now in
    record {
      begun = omega arith;
      plain = λ k low high. absurd (omega arith);
      wrote = λ plain.
          let before = l.invariant.wrote plain in
          let run = c.write_ascii.ensures before.plain (search rules) in
          let byte = c.fmt.ensures.writes run.plain (search rules) in
          let text = run_and_byte bs l.start l.end l.invariant.begun (omega arith) l.invariant.plain in
          put_three _ _ _ _ _ _ _ _ _ before run byte (grind (arith, common_steps, text));
    }

pub returns-clause-writes : goal.returns-clause-writes
returns-clause-writes g c = λ plain ok.
    let l = c.loop-end in
    let bs = c.args.self.now.0.now in
    let quote = c.write_str.ensures.writes plain (search rules) in
    let before = l.invariant.wrote quote.plain in
    let run = c.write_ascii-2.ensures before.plain (search rules) in
    let text = run_at_end bs l.start l.end l.invariant.begun (omega arith) l.invariant.plain in
    put_four _ _ _ _ _ _ _ _ _ _ _ quote before run (c.write_str-2.ensures.writes run.plain ok) (grind (arith, common_steps, append_assoc, text))
