-- Which types may be entered: their parts are entered already, and options stand where they may.
use Rattle.std.specs.Prelude.{Bool, true, false, not, ◌&&◌, List, [], ◌∷◌, length, nat_lt}
use Rattle.tables.specs.declared.ids.NameId.{NameId}
use Rattle.tables.specs.declared.ids.TermId.{TermId}
use Rattle.tables.specs.declared.ids.TypeId.{TypeId}
use Rattle.tables.specs.declared.term.Op1.{Op1}
use Rattle.tables.specs.declared.term.Op1.TheVariants.{RecordGet, Uuf}
use Rattle.tables.specs.declared.term.Term.TheVariants.{Prim, Var, None, Some, Set as SetTerm, Record as RecordTerm, Unary, Binary, Ite}
use Rattle.tables.specs.declared.term.TermPrim.{TermPrim}
use Rattle.tables.specs.declared.term.TermPrim.TheVariants.{String as StringLiteral, Entity as EntityLiteral}
use Rattle.tables.specs.declared.term_type.FieldType.{FieldType}
use Rattle.tables.specs.declared.term_type.TermType.{TermType}
use Rattle.tables.specs.declared.term_type.TermType.TheVariants.{Entity, Set, Option, Record}
use Rattle.tables.specs.Names.{before}
use Rattle.std.specs.List.{list_all}
use Rattle.tables.specs.Types.{Type'}
use Rattle.tables.specs.Terms.{Term'}
use Rattle.tables.specs.Contents.{Contents, name_at, type_at}

-- The number points at an entered name.
abbrev pub is_name : Contents → NameId → Bool
is_name w n = nat_lt n.0 (length w.names)

-- The number points at an entered type.
abbrev pub is_type : Contents → TypeId → Bool
is_type w t = nat_lt t.0 (length w.types)

-- The number points at an entered term.
abbrev pub is_term : Contents → TermId → Bool
is_term w t = nat_lt t.0 (length w.terms)

-- The type is an option.
abbrev pub is_option : {F : Type 0} → TermType F → Bool
is_option (Option t) = true
is_option t = false

-- An entered type that is no option: what a set or an option may be of.
abbrev pub plain : Contents → TypeId → Bool
plain w t = is_type w t && not (is_option (type_at w t.0))

-- A field's name and type are entered. Its type may be an option.
abbrev pub field_fits : Contents → FieldType → Bool
field_fits w f = is_name w f.name && is_type w f.ty

-- The field's name comes before that of the first of the others, and so on: no name comes twice.
unfoldable pub ascending_after : Contents → FieldType → List FieldType → Bool
ascending_after w f [] = true
ascending_after w f (g ∷ gs) = before (name_at w f.name.0) (name_at w g.name.0) && ascending_after w g gs

-- The fields are in the order of their names, each name once.
abbrev pub ascending : Contents → List FieldType → Bool
ascending w [] = true
ascending w (f ∷ fs) = ascending_after w f fs

-- The type may be entered.
abbrev pub fits : Contents → Type' → Bool
fits w (Entity n) = is_name w n
fits w (Set t) = plain w t
fits w (Option t) = plain w t
fits w (Record fs) = list_all (field_fits w) fs && ascending w fs
fits w t = true

-- The names of a literal without parts, and the names and types of an operator, are entered.
abbrev pub prim_fits : Contents → TermPrim → Bool
prim_fits w (StringLiteral n) = is_name w n
prim_fits w (EntityLiteral u) = is_name w u.ty && is_name w u.id
prim_fits w l = true

abbrev pub op_fits : {P : Type 0} → Contents → Op1 P → Bool
op_fits w (RecordGet n) = is_name w n
op_fits w (Uuf f) = is_name w f.id && (is_type w f.arg && is_type w f.out)
op_fits w o = true

-- The parts of a term are entered.
abbrev pub term_fits : Contents → Term' → Bool
term_fits w (Prim l) = prim_fits w l
term_fits w (Var v) = is_name w v.id && is_type w v.ty
term_fits w (None t) = is_type w t
term_fits w (Some t) = is_term w t
term_fits w (SetTerm t es) = is_type w t && list_all (is_term w) es
term_fits w (RecordTerm fs) = list_all (λ f. is_name w f.name && is_term w f.term) fs
term_fits w (Unary o t) = op_fits w o && is_term w t
term_fits w (Binary o a b) = is_term w a && is_term w b
term_fits w (Ite g a b) = is_term w g && (is_term w a && is_term w b)
