use Rattle.std.proofs.Common.{rules, arith}
use Rattle.std.proofs.Output.{has_written_append}
use Rattle.std.specs.Fmt.{HasWritten}
use Rattle.script.specs.AnswerText.{part_text}
use Rattle.script.proofs.PartTexts.{part_is, no_part}
use Rattle.script.proofs.print_types.Shown+TypeId.+types.Goals as goal
use Rattle.script.proofs.print_types.Shown+TypeId.+types.Goals.{write_part-then-part-self+in_ok-write, write_part-else-part-self}

pub write_part-returns : goal.write_part-returns
write_part-returns g t c = λ plain ok.
    let w = c.args.self.tables.now in
    let n = c.args.self.value.0 in
    let m = c.args.part.0 in
    let before = c.write_str.ensures.writes plain (search rules) in
    let part : HasWritten g.W.Write.write_str_gives c.write_str.new.self (part_text w n m) c.if-part-self.f =
    elim c.if-part-self.branch [
      | write_part-then-part-self+in_ok-write a ↦ rw (a.f-is, part_is w n m (omega arith)) (a.write.ensures before.plain (search rules))
      | write_part-else-part-self a ↦ rw (a.f-is, no_part w n m (omega arith)) (search rules)
    ]
    in
    has_written_append _ _ _ _ _ _ before (has_written_append _ _ _ _ _ _ part (c.write_str-2.ensures.writes part.plain ok))
