-- The parts of a type and of a term, where more is held, and where it may be entered.
use Rattle.std.proofs.Common.{◌≡◌, ℕ, ◌<◌, ◌≤◌, true, not, ◌&&◌, List, [], ◌∷◌, length, arith, ltb-true}
use Rattle.std.proofs.ByRecursion.{All-weaker}
use Rattle.std.proofs.lemmas.Bool.{and_parts}
use Rattle.tables.specs.declared.ids.NameId.{NameId}
use Rattle.tables.specs.declared.ids.TypeId.{TypeId}
use Rattle.tables.specs.declared.ids.TermId.{TermId}
use Rattle.tables.specs.declared.term.FieldTerm.{FieldTerm}
use Rattle.tables.specs.declared.term.Op1.{Op1}
use Rattle.tables.specs.declared.term.Op1.TheVariants.{RecordGet, Uuf}
use Rattle.tables.specs.declared.term.Term.TheVariants.{Prim, Var, None, Some, Set as SetTerm, Record as RecordTerm, Unary, Binary, Ite}
use Rattle.tables.specs.declared.term.TermPrim.{TermPrim}
use Rattle.tables.specs.declared.term.TermPrim.TheVariants.{String as StringLiteral, Entity as EntityLiteral}
use Rattle.tables.specs.Terms.{Term'}
use Rattle.tables.specs.declared.term_type.FieldType.{FieldType}
use Rattle.tables.specs.declared.term_type.TermType.TheVariants.{Entity, Set, Option, Record}
use Rattle.tables.specs.Types.{Type'}
use Rattle.std.specs.List.{list_all, AllByRecursion}
use Rattle.tables.specs.Contents.{Contents, type_at}
use Rattle.tables.specs.Shapes.{is_name, is_type, is_term, is_option, field_fits, ascending, fits, prim_fits, op_fits, term_fits}
use Rattle.laws.specs.Sound.{PartsBelow, PrimBelow, OpBelow, TermBelow}

pub parts_more : (m m' n : ℕ) → m ≤ m' → (t : Type') → PartsBelow m n t → PartsBelow m' n t
parts_more m m' n l (Entity x) h = omega arith
parts_more m m' n l (Record fs) h = All-weaker _ _ (λ f p. (omega (arith, p.0), p.1)) fs h
parts_more m m' n l t h = h

fields_below : (w : Contents) (fs : List FieldType) → list_all (field_fits w) fs ≡ true → AllByRecursion (λ f. (f.name.0 < length w.names) × (f.ty.0 < length w.types)) fs
fields_below w [] e = tt
fields_below w (f ∷ fs) e =
    let (a, b) = and_parts (field_fits w f) (list_all (field_fits w) fs) e in
    let (n, t) = and_parts (is_name w f.name) (is_type w f.ty) a in
    ((ltb-true f.name.0 (length w.names) n, ltb-true f.ty.0 (length w.types) t), fields_below w fs b)

pub fits_parts : (w : Contents) (t : Type') → fits w t ≡ true → PartsBelow (length w.names) (length w.types) t
fits_parts w (Entity x) e = ltb-true x.0 (length w.names) e
fits_parts w (Set t) e = ltb-true t.0 (length w.types) (and_parts (is_type w t) (not (is_option (type_at w t.0))) e).0
fits_parts w (Option t) e = ltb-true t.0 (length w.types) (and_parts (is_type w t) (not (is_option (type_at w t.0))) e).0
fits_parts w (Record fs) e = fields_below w fs (and_parts (list_all (field_fits w) fs) (ascending w fs) e).0
fits_parts w t e = tt

-- The same of terms.
prim_more : (m m' : ℕ) → m ≤ m' → (l : TermPrim) → PrimBelow m l → PrimBelow m' l
prim_more m m' l (StringLiteral n) h = omega arith
prim_more m m' l (EntityLiteral u) h = (omega (arith, h.0), omega (arith, h.1))
prim_more m m' l p h = h

op_more : {P : Type 0} (m m' n n' : ℕ) → m ≤ m' → n ≤ n' → (o : Op1 P) → OpBelow m n o → OpBelow m' n' o
op_more m m' n n' l k (RecordGet x) h = omega arith
op_more m m' n n' l k (Uuf f) (a, b, c) = (omega arith, omega arith, omega arith)
op_more m m' n n' l k o h = h

pub term_more : (m m' n n' k : ℕ) → m ≤ m' → n ≤ n' → (t : Term') → TermBelow m n k t → TermBelow m' n' k t
term_more m m' n n' k l j (Prim p) h = prim_more m m' l p h
term_more m m' n n' k l j (Var v) (a, b) = (omega arith, omega arith)
term_more m m' n n' k l j (None t) h = omega arith
term_more m m' n n' k l j (SetTerm t es) (a, b) = (omega arith, b)
term_more m m' n n' k l j (RecordTerm fs) h = All-weaker _ _ (λ f p. (omega (arith, p.0), p.1)) fs h
term_more m m' n n' k l j (Unary o t) (a, b) = (op_more m m' n n' l j o a, b)
term_more m m' n n' k l j t h = h

module _ (w : Contents) where
  name_below : (n : NameId) → is_name w n ≡ true → n.0 < length w.names
  name_below n e = ltb-true n.0 (length w.names) e

  type_below : (t : TypeId) → is_type w t ≡ true → t.0 < length w.types
  type_below t e = ltb-true t.0 (length w.types) e

  term_below : (t : TermId) → is_term w t ≡ true → t.0 < length w.terms
  term_below t e = ltb-true t.0 (length w.terms) e

  elements_below : (es : List TermId) → list_all (is_term w) es ≡ true → AllByRecursion (λ e. e.0 < length w.terms) es
  elements_below [] e = tt
  elements_below (t ∷ ts) e = let (a, b) = and_parts (is_term w t) (list_all (is_term w) ts) e in (term_below t a, elements_below ts b)

  attributes_below : (fs : List FieldTerm) → list_all (λ f. is_name w f.name && is_term w f.term) fs ≡ true → AllByRecursion (λ f. (f.name.0 < length w.names) × (f.term.0 < length w.terms)) fs
  attributes_below [] e = tt
  attributes_below (f ∷ fs) e =
      let (a, b) = and_parts (is_name w f.name && is_term w f.term) (list_all (λ f. is_name w f.name && is_term w f.term) fs) e in
      let (n, t) = and_parts (is_name w f.name) (is_term w f.term) a in
      ((name_below f.name n, term_below f.term t), attributes_below fs b)

  prim_below : (l : TermPrim) → prim_fits w l ≡ true → PrimBelow (length w.names) l
  prim_below (StringLiteral n) e = name_below n e
  prim_below (EntityLiteral u) e = let (a, b) = and_parts (is_name w u.ty) (is_name w u.id) e in (name_below u.ty a, name_below u.id b)
  prim_below l e = tt

  op_below : {P : Type 0} (o : Op1 P) → op_fits w o ≡ true → OpBelow (length w.names) (length w.types) o
  op_below (RecordGet n) e = name_below n e
  op_below (Uuf f) e =
      let (a, r) = and_parts (is_name w f.id) (is_type w f.arg && is_type w f.out) e in
      let (b, c) = and_parts (is_type w f.arg) (is_type w f.out) r in
      (name_below f.id a, type_below f.arg b, type_below f.out c)
  op_below o e = tt

  pub fits_term : (t : Term') → term_fits w t ≡ true → TermBelow (length w.names) (length w.types) (length w.terms) t
  fits_term (Prim l) e = prim_below l e
  fits_term (Var v) e = let (a, b) = and_parts (is_name w v.id) (is_type w v.ty) e in (name_below v.id a, type_below v.ty b)
  fits_term (None t) e = type_below t e
  fits_term (Some t) e = term_below t e
  fits_term (SetTerm t es) e = let (a, b) = and_parts (is_type w t) (list_all (is_term w) es) e in (type_below t a, elements_below es b)
  fits_term (RecordTerm fs) e = attributes_below fs e
  fits_term (Unary o t) e = let (a, b) = and_parts (op_fits w o) (is_term w t) e in (op_below o a, term_below t b)
  fits_term (Binary o a b) e = let (x, y) = and_parts (is_term w a) (is_term w b) e in (term_below a x, term_below b y)
  fits_term (Ite g a b) e =
      let (x, r) = and_parts (is_term w g) (is_term w a && is_term w b) e in
      let (y, z) = and_parts (is_term w a) (is_term w b) r in
      (term_below g x, term_below a y, term_below b z)
