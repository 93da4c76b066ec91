use Rattle.std.proofs.Common.{◌+◌, ◌*◌, flat_map, take}
use Rattle.std.specs.Fmt.{HasWritten, IsPlainFormatter}
use Rattle.script.specs.AnswerText.{field_text, part_text}
use Rattle.script.proofs.print_types.Shown+TypeId.+types.Given as goal

-- the number falls from a type to its parts; at one number the whole goes before a part
abbrev pub decreases-write : goal.decreases-write
decreases-write g l = 2 * l.self.value.0 + 1

abbrev pub decreases-write_part : goal.decreases-write_part
decreases-write_part g l = 2 * l.self.value.0

abbrev pub invariant-write-loop-field : goal.invariant-write-loop-field
invariant-write-loop-field g l =
    let w = l.self.tables.now in
    IsPlainFormatter l.initial.f
    → HasWritten
    g.W.Write.write_str_gives
    l.initial.f
    (flat_map (field_text w (part_text w l.self.value.0)) (take l.field-index l.fields))
    l.f
