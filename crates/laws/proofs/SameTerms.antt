-- Two terms that test as the same are equal, and the other way round.
use Rattle.std.proofs.Common.{◌≡◌, ℕ, Bool, true, false, cond, ◌&&◌, eqb, List, sym, refl, ap, ◌∙◌, subst}
use mathlib.Core.Bool.{false≢true}
use Rattle.std.proofs.lemmas.Bool.{and_parts, and_from, eqb-true, eq-eqb}
use Rattle.std.proofs.lemmas.Bool.Decides.{Decides-eqb, Decides-int_eq}
use Rattle.std.proofs.lemmas.Slice.Eq.{slice_eq-Decides}
use Rattle.std.specs.Bool.{Decides}
use Rattle.std.specs.Cmp.Lexicographic.{pointwise}
use Rattle.std.specs.Prelude.{nat_eq}
use Rattle.tables.specs.declared.ids.TermId.{TermId}
use Rattle.tables.specs.declared.term.Ext.{Ext}
use Rattle.tables.specs.declared.term.Ext.TheVariants.{Decimal, Datetime, Duration}
use Rattle.tables.specs.declared.term.FieldTerm.{FieldTerm}
use Rattle.tables.specs.declared.term.Op1.{Op1}
use Rattle.tables.specs.declared.term.Op1.TheVariants.{Not, Bvneg, Bvnego, OptionGet, RecordGet, StringLike, Uuf, DatetimeVal, DurationVal}
use Rattle.tables.specs.declared.term.Op2.{Op2}
use Rattle.tables.specs.declared.term.Op2.TheVariants.{And, Or, Eq, Bvadd, Bvsub, Bvmul, Bvslt, Bvsle, Bvsaddo, Bvssubo, Bvsmulo, SetMember, SetSubset, SetInter}
use Rattle.tables.specs.declared.term.Term.TheVariants.{Prim, Var, None, Some, Set, Record, Unary, Binary, Ite}
use Rattle.tables.specs.declared.term.TermPrim.{TermPrim}
use Rattle.tables.specs.declared.term.TermPrim.TheVariants.{Bool as Truth, Bitvec, String, Entity, Ext as Extension}
use Rattle.tables.specs.Terms.{Term', op2_number, same_ext, same_truth, same_prim, same_op, same_element, same_attribute, same_term}

element-Decides : (s t : TermId) → Decides (same_element s t) (s ≡ t)
element-Decides s t = (λ e. λ i. record { 0 = eqb-true s.0 t.0 e i }, λ e. eq-eqb s.0 t.0 (ap (λ h. h.0) e))

attribute-Decides : (f g : FieldTerm) → Decides (same_attribute f g) (f ≡ g)
attribute-Decides f g = (
  λ e.
      let (n, t) = and_parts (eqb f.name.0 g.name.0) (eqb f.term.0 g.term.0) e in
      λ i. record { name = record { 0 = eqb-true f.name.0 g.name.0 n i }; term = record { 0 = eqb-true f.term.0 g.term.0 t i } },
  λ e. and_from _ _ (eq-eqb f.name.0 g.name.0 (ap (λ h. h.name.0) e)) (eq-eqb f.term.0 g.term.0 (ap (λ h. h.term.0) e)),
)

elements-Decides : (xs ys : List TermId) → Decides (pointwise same_element xs ys) (xs ≡ ys)
elements-Decides xs ys = slice_eq-Decides element-Decides xs ys (pointwise same_element xs ys) refl

attributes-Decides : (xs ys : List FieldTerm) → Decides (pointwise same_attribute xs ys) (xs ≡ ys)
attributes-Decides xs ys = slice_eq-Decides attribute-Decides xs ys (pointwise same_attribute xs ys) refl

pattern-Decides : (xs ys : List ℕ) → Decides (pointwise nat_eq xs ys) (xs ≡ ys)
pattern-Decides xs ys = slice_eq-Decides Decides-eqb xs ys (pointwise nat_eq xs ys) refl

ext_same : (x y : Ext) → same_ext x y ≡ true → x ≡ y
ext_same (Decimal y) (Decimal z) e = ap Decimal ((Decides-int_eq y z).0 e)
ext_same (Datetime y) (Datetime z) e = ap Datetime ((Decides-int_eq y z).0 e)
ext_same (Duration y) (Duration z) e = ap Duration ((Decides-int_eq y z).0 e)
ext_same x y e = absurd (false≢true e)

same_ext_lem : (x : Ext) → same_ext x x ≡ true
same_ext_lem (Decimal y) = (Decides-int_eq y y).1 refl
same_ext_lem (Datetime y) = (Decides-int_eq y y).1 refl
same_ext_lem (Duration y) = (Decides-int_eq y y).1 refl

truth_same : (a b : Bool) → same_truth a b ≡ true → a ≡ b
truth_same true b e = sym e
truth_same false true e = absurd (false≢true e)
truth_same false false e = refl

same_truth_lem : (a : Bool) → same_truth a a ≡ true
same_truth_lem true = refl
same_truth_lem false = refl

prim_same : (l k : TermPrim) → same_prim l k ≡ true → l ≡ k
prim_same (Truth a) (Truth b) e = ap Truth (truth_same a b e)
prim_same (Bitvec y) (Bitvec z) e = ap Bitvec ((Decides-int_eq y z).0 e)
prim_same (String m) (String n) e = λ i. String (record { 0 = eqb-true m.0 n.0 e i })
prim_same (Entity u) (Entity v) e =
    let (a, b) = and_parts (eqb u.ty.0 v.ty.0) (eqb u.id.0 v.id.0) e in
    λ i. Entity (record { ty = record { 0 = eqb-true u.ty.0 v.ty.0 a i }; id = record { 0 = eqb-true u.id.0 v.id.0 b i } })
prim_same (Extension x) (Extension y) e = ap Extension (ext_same x y e)
prim_same l k e = absurd (false≢true e)

same_prim_lem : (l : TermPrim) → same_prim l l ≡ true
same_prim_lem (Truth a) = same_truth_lem a
same_prim_lem (Bitvec z) = (Decides-int_eq z z).1 refl
same_prim_lem (String n) = eq-eqb n.0 n.0 refl
same_prim_lem (Entity u) = and_from _ _ (eq-eqb u.ty.0 u.ty.0 refl) (eq-eqb u.id.0 u.id.0 refl)
same_prim_lem (Extension x) = same_ext_lem x

op_same : (o p : Op1 (List ℕ)) → same_op o p ≡ true → o ≡ p
op_same Not Not e = refl
op_same Bvneg Bvneg e = refl
op_same Bvnego Bvnego e = refl
op_same OptionGet OptionGet e = refl
op_same (RecordGet m) (RecordGet n) e = λ i. RecordGet (record { 0 = eqb-true m.0 n.0 e i })
op_same (StringLike x) (StringLike y) e = ap StringLike ((pattern-Decides x y).0 e)
op_same (Uuf f) (Uuf g) e =
    let (a, r) = and_parts (eqb f.id.0 g.id.0) (eqb f.arg.0 g.arg.0 && eqb f.out.0 g.out.0) e in
    let (b, c) = and_parts (eqb f.arg.0 g.arg.0) (eqb f.out.0 g.out.0) r in
    λ i. Uuf (record { id = record { 0 = eqb-true f.id.0 g.id.0 a i }; arg = record { 0 = eqb-true f.arg.0 g.arg.0 b i }; out = record { 0 = eqb-true f.out.0 g.out.0 c i } })
op_same DatetimeVal DatetimeVal e = refl
op_same DurationVal DurationVal e = refl
op_same o p e = absurd (false≢true e)

same_op_lem : (o : Op1 (List ℕ)) → same_op o o ≡ true
same_op_lem (RecordGet m) = eq-eqb m.0 m.0 refl
same_op_lem (StringLike x) = (pattern-Decides x x).1 refl
same_op_lem (Uuf f) = and_from _ _ (eq-eqb f.id.0 f.id.0 refl) (and_from _ _ (eq-eqb f.arg.0 f.arg.0 refl) (eq-eqb f.out.0 f.out.0 refl))
same_op_lem o = refl

op2_at : ℕ → Op2
op2_at n =
    cond (eqb n 0) And
    (cond (eqb n 1) Or
    (cond (eqb n 2) Eq
    (cond (eqb n 3) Bvadd
    (cond (eqb n 4) Bvsub
    (cond (eqb n 5) Bvmul
    (cond (eqb n 6) Bvslt
    (cond (eqb n 7) Bvsle
    (cond (eqb n 8) Bvsaddo
    (cond (eqb n 9) Bvssubo
    (cond (eqb n 10) Bvsmulo
    (cond (eqb n 11) SetMember
    (cond (eqb n 12) SetSubset SetInter))))))))))))

op2_back : (o : Op2) → op2_at (op2_number o) ≡ o
unfolding op2_at
op2_back And = refl
op2_back o = refl

pub terms_same : (s t : Term') → same_term s t ≡ true → s ≡ t
unfolding same_term
terms_same (Prim l) (Prim k) e = ap Prim (prim_same l k e)
terms_same (Var v) (Var w) e =
    let (a, b) = and_parts (eqb v.id.0 w.id.0) (eqb v.ty.0 w.ty.0) e in
    λ i. Var (record { id = record { 0 = eqb-true v.id.0 w.id.0 a i }; ty = record { 0 = eqb-true v.ty.0 w.ty.0 b i } })
terms_same (None s) (None t) e = λ i. None (record { 0 = eqb-true s.0 t.0 e i })
terms_same (Some s) (Some t) e = λ i. Some (record { 0 = eqb-true s.0 t.0 e i })
terms_same (Set s x) (Set t y) e =
    let (a, b) = and_parts (eqb s.0 t.0) (pointwise same_element x y) e in
    λ i. Set (record { 0 = eqb-true s.0 t.0 a i }) ((elements-Decides x y).0 b i)
terms_same (Record x) (Record y) e = ap Record ((attributes-Decides x y).0 e)
terms_same (Unary o s) (Unary p t) e =
    let (a, b) = and_parts (same_op o p) (eqb s.0 t.0) e in
    λ i. Unary (op_same o p a i) (record { 0 = eqb-true s.0 t.0 b i })
terms_same (Binary o a b) (Binary p c d) e =
    let (x, r) = and_parts (eqb (op2_number o) (op2_number p)) (eqb a.0 c.0 && eqb b.0 d.0) e in
    let (y, z) = and_parts (eqb a.0 c.0) (eqb b.0 d.0) r in
    let q : o ≡ p = sym (op2_back o) ∙ ap op2_at (eqb-true (op2_number o) (op2_number p) x) ∙ op2_back p in
    λ i. Binary (q i) (record { 0 = eqb-true a.0 c.0 y i }) (record { 0 = eqb-true b.0 d.0 z i })
terms_same (Ite g a b) (Ite h c d) e =
    let (x, r) = and_parts (eqb g.0 h.0) (eqb a.0 c.0 && eqb b.0 d.0) e in
    let (y, z) = and_parts (eqb a.0 c.0) (eqb b.0 d.0) r in
    λ i. Ite (record { 0 = eqb-true g.0 h.0 x i }) (record { 0 = eqb-true a.0 c.0 y i }) (record { 0 = eqb-true b.0 d.0 z i })
terms_same s t e = absurd (false≢true e)

same_term_lem : (t : Term') → same_term t t ≡ true
unfolding same_term
same_term_lem (Prim l) = same_prim_lem l
same_term_lem (Var v) = and_from _ _ (eq-eqb v.id.0 v.id.0 refl) (eq-eqb v.ty.0 v.ty.0 refl)
same_term_lem (None t) = eq-eqb t.0 t.0 refl
same_term_lem (Some t) = eq-eqb t.0 t.0 refl
same_term_lem (Set t x) = and_from _ _ (eq-eqb t.0 t.0 refl) ((elements-Decides x x).1 refl)
same_term_lem (Record x) = (attributes-Decides x x).1 refl
same_term_lem (Unary o t) = and_from _ _ (same_op_lem o) (eq-eqb t.0 t.0 refl)
same_term_lem (Binary o a b) = and_from _ _ (eq-eqb (op2_number o) (op2_number o) refl) (and_from _ _ (eq-eqb a.0 a.0 refl) (eq-eqb b.0 b.0 refl))
same_term_lem (Ite g a b) = and_from _ _ (eq-eqb g.0 g.0 refl) (and_from _ _ (eq-eqb a.0 a.0 refl) (eq-eqb b.0 b.0 refl))

pub same_terms : (s t : Term') → s ≡ t → same_term s t ≡ true
same_terms s t e = subst (λ u. same_term s u ≡ true) e (same_term_lem s)
