use Rattle.std.proofs.Common.{[], refl, ap, ◌∙◌}
use denote.Struct.Field.{shr_slice_field}
use mir.Syntax.{erased}
use Rattle.tables.specs.contracts.term_type.FieldType.{the_row}
use Rattle.tables.specs.Types.{type_of, same_type}
use Rattle.tables.proofs.Fields.{eq-same_type}
use Rattle.tables.proofs.hold_types.TermTypeRefSliceFieldTypeStructure.held.Goals as goal

pub returns : goal.returns
returns c =
    c.eq.ensures ∙ eq-same_type (shr_slice_field (record { mir = erased; lft = [] }) the_row tt).row _ (λ x. x.now) (λ x y. refl) c.term_type.result c.args.self.now
    ∙ ap (λ t. same_type t (type_of c.args.self.now)) c.term_type.ensures.value
