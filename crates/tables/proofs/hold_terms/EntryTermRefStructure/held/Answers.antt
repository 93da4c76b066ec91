use Rattle.std.proofs.Common.{[], refl, ap, ◌∙◌}
use Rattle.std.specs.Borrow.{u16}
use denote.Struct.Field.{shr_slice_field}
use mir.Syntax.{erased}
use Rattle.tables.specs.contracts.ids.TermId.{the_row as term_id}
use Rattle.tables.specs.contracts.term.FieldTerm.{the_row as field_term}
use Rattle.tables.specs.Terms.{term_of, same_term}
use Rattle.tables.proofs.SameTerms.{eq-same_term}
use Rattle.tables.proofs.hold_terms.EntryTermRefStructure.held.Goals as goal

pub returns : goal.returns
returns c =
    c.eq.ensures
    ∙ eq-same_term (shr_slice_field (record { mir = erased; lft = [] }) term_id tt).row (shr_slice_field (record { mir = erased; lft = [] }) field_term tt).row (shr_slice_field (record { mir = erased; lft = [] }) u16 tt).row
    _ _ _ (λ x. x.now) (λ x. x.now) (λ x. x.now) (λ x y. refl) (λ x y. refl) (λ x y. refl) c.term.result.term c.args.self.now.term
    ∙ ap (λ e. same_term e.term (term_of c.args.self.now.term)) c.term.ensures
