-- Names, types and terms are entered lawfully, and opening is sound.
use Rattle.std.proofs.Common.{◌≡◌, ℕ, zero, suc, ◌<◌, true, false, ◌&&◌, ap, leb, List, [], ◌∷◌, ◌++◌, length, get_or, Some, None, codes, sym, refl, ◌∙◌, subst, true≢false, arith}
use mathlib.Core.Bool.{false≢true}
use Rattle.std.proofs.lemmas.Slice.Eq.{bytes_eq-Decides}
use Rattle.std.proofs.lemmas.List.{append-nil, length_push}
use Rattle.tables.specs.declared.capacities.Capacities.{Capacities}
use Rattle.tables.specs.declared.ids.NameId.{NameId}
use Rattle.tables.specs.declared.ids.TypeId.{TypeId}
use Rattle.tables.specs.declared.ids.TermId.{TermId}
use Rattle.tables.specs.declared.term.Op1.{Op1}
use Rattle.tables.specs.declared.term.Op1.TheVariants.{RecordGet, Uuf}
use Rattle.tables.specs.declared.term.Term.TheVariants.{Prim, Unary, Some as SomeTerm}
use Rattle.tables.specs.declared.term.TermPrim.{TermPrim}
use Rattle.tables.specs.declared.term.TermPrim.TheVariants.{String as StringLiteral, Entity as EntityLiteral}
use Rattle.tables.specs.Terms.{Term', Entry'}
use Rattle.tables.specs.declared.term_type.TermType.TheVariants.{Bool as BoolT}
use Rattle.tables.specs.Types.{Type'}
use Rattle.tables.specs.Contents.{Contents, name_at, type_at, truth, entry_at, literal_of, entry_of, opening}
use Rattle.tables.specs.Kinds.{name_kind, type_kind, term_kind, find, enter_name, enter_type, enter_term}
use Rattle.tables.specs.Shapes.{is_type, is_term, ascending_after, fits, prim_fits, op_fits, term_fits}
use Rattle.tables.specs.Calls.{name_call, type_call, term_call}
use Rattle.tables.proofs.Room.{name_room, room_name, type_room, room_type, term_room, room_term}
use Rattle.laws.specs.Sound.{PartsBelow, TermBelow, Sound}
use Rattle.laws.specs.Lawful.{recap, Lawful, NameStands, TypeStands, TermStands}
use Rattle.laws.proofs.Once.{each_push, at_old, at_new, once_push, first_some, first_none}
use Rattle.laws.proofs.SameTypes.{types_same, same_types}
use Rattle.laws.proofs.SameTerms.{terms_same, same_terms}
use Rattle.std.proofs.lemmas.Bool.{and_parts}
use Rattle.laws.proofs.Growth.{parts_more, fits_parts, term_more, fits_term}
use Rattle.laws.proofs.Entry.{Entry, entry_lawful}

module _ (s : List ℕ) (w : Contents) where
  pub name_found : (i : ℕ) → find name_kind s w ≡ Some i → (i < length w.names) × (name_at w i ≡ s)
  unfolding find
  name_found i e =
      let (a, b, c) = first_some (name_kind.held s w) 0 (length w.names) i e in
      (omega arith, (bytes_eq-Decides (name_at w i) s).0 c)

  pub name_absent : find name_kind s w ≡ None → (i : ℕ) → i < length w.names → name_at w i ≡ s → ⊥
  unfolding find
  name_absent e i h p =
      true≢false (sym ((bytes_eq-Decides (name_at w i) s).1 p) ∙ first_none (name_kind.held s w) 0 (length w.names) e i (omega arith) (omega arith))

  name_keeps : find name_kind s w ≡ None → Sound w → Sound (name_kind.put s w)
  name_keeps e g =
      record {
        names_once = once_push (λ x. x) [] w.names s g.names_once (name_absent e);
        types_once = g.types_once;
        terms_once = g.terms_once;
        term_parts = λ i h. term_more (length w.names) (length (w.names ++ s ∷ [])) (length w.types) (length w.types) i (omega (arith, length_push w.names s)) (omega arith) (entry_at w i).term (g.term_parts i h);
        parts = λ i h. parts_more (length w.names) (length (w.names ++ s ∷ [])) i (omega (arith, length_push w.names s)) (type_at w i) (g.parts i h);
      }

module _ (t : Type') (w : Contents) where
  pub type_found : (i : ℕ) → find type_kind t w ≡ Some i → (i < length w.types) × (type_at w i ≡ t)
  unfolding find
  type_found i e =
      let (a, b, c) = first_some (type_kind.held t w) 0 (length w.types) i e in
      (omega arith, types_same (type_at w i) t c)

  pub type_absent : find type_kind t w ≡ None → (i : ℕ) → i < length w.types → type_at w i ≡ t → ⊥
  unfolding find
  type_absent e i h p =
      true≢false (sym (same_types (type_at w i) t p) ∙ first_none (type_kind.held t w) 0 (length w.types) e i (omega arith) (omega arith))

  type_keeps : fits w t ≡ true → find type_kind t w ≡ None → Sound w → Sound (type_kind.put t w)
  type_keeps f e g =
      record {
        names_once = g.names_once;
        types_once = once_push (λ x. x) BoolT w.types t g.types_once (type_absent e);
        parts = each_push w.types t (λ i. PartsBelow (length w.names) i (get_or (w.types ++ t ∷ []) i BoolT))
            (λ i h. subst (PartsBelow (length w.names) i) (sym (at_old BoolT w.types t i h)) (g.parts i h))
            (subst (PartsBelow (length w.names) (length w.types)) (sym (at_new BoolT w.types t)) (fits_parts w t f));
        terms_once = g.terms_once;
        term_parts = λ i h. term_more (length w.names) (length w.names) (length w.types) (length (w.types ++ t ∷ [])) i (omega arith) (omega (arith, length_push w.types t)) (entry_at w i).term (g.term_parts i h);
      }

module _ (t : Term') (ty : TypeId) (w : Contents) where
  abbrev cell : Entry'
  cell = entry_of w t ty

  pub term_found : (i : ℕ) → find term_kind cell w ≡ Some i → (i < length w.terms) × ((entry_at w i).term ≡ t)
  unfolding find
  term_found i e =
      let (a, b, c) = first_some (term_kind.held cell w) 0 (length w.terms) i e in
      (omega arith, terms_same (entry_at w i).term t c)

  pub term_absent : find term_kind cell w ≡ None → (i : ℕ) → i < length w.terms → (entry_at w i).term ≡ t → ⊥
  unfolding find
  term_absent e i h p =
      true≢false (sym (same_terms (entry_at w i).term t p) ∙ first_none (term_kind.held cell w) 0 (length w.terms) e i (omega arith) (omega arith))

  term_keeps : term_fits w t ≡ true → find term_kind cell w ≡ None → Sound w → Sound (term_kind.put cell w)
  term_keeps f e g =
      record {
        names_once = g.names_once;
        types_once = g.types_once;
        terms_once = once_push (λ x. x.term) (truth false) w.terms cell g.terms_once (term_absent e);
        parts = g.parts;
        term_parts = each_push w.terms cell (λ i. TermBelow (length w.names) (length w.types) i (get_or (w.terms ++ cell ∷ []) i (truth false)).term)
            (λ i h. subst (λ x. TermBelow (length w.names) (length w.types) i x.term) (sym (at_old (truth false) w.terms cell i h)) (g.term_parts i h))
            (subst (λ x. TermBelow (length w.names) (length w.types) (length w.terms) x.term) (sym (at_new (truth false) w.terms cell)) (fits_term w t f));
      }

name_entry : (s : List ℕ) → Entry (λ _. leb (length s) 255) name_kind (λ _. s) (λ n. record { 0 = n }) (λ (n : NameId). NameStands s n.0)
unfolding find
name_entry s =
    record {
      test_recap = λ w c. refl;
      find_recap = λ w c. refl;
      put_recap = λ w c. refl;
      count_recap = λ w c. refl;
      room = λ w c m l. let (a, b) = name_room s w l in room_name s (recap c w) (omega arith) (omega arith);
      grows = λ w. record {
        more_terms = [];
        more_types = [];
        more_names = s ∷ [];
        terms = sym (append-nil w.terms);
        types = sym (append-nil w.types);
        names = refl;
        capacities = refl;
      };
      keeps = λ w t e g. name_keeps s w e g;
      held = λ w i e. name_found s w i e;
      new = λ w. (omega (arith, length_push w.names s), at_new [] w.names s);
    }

type_entry : (t : Type') → Entry (λ w. fits w t) type_kind (λ _. t) (λ n. record { 0 = n }) (λ (n : TypeId). TypeStands t n.0)
unfolding find ascending_after
type_entry t =
    record {
      test_recap = λ w c. refl;
      find_recap = λ w c. refl;
      put_recap = λ w c. refl;
      count_recap = λ w c. refl;
      room = λ w c m l. let (a, b) = type_room t w l in room_type t (recap c w) (omega arith) (omega arith);
      grows = λ w. record {
        more_terms = [];
        more_types = t ∷ [];
        more_names = [];
        terms = sym (append-nil w.terms);
        types = refl;
        names = sym (append-nil w.names);
        capacities = refl;
      };
      keeps = λ w f e g. type_keeps t w f e g;
      held = λ w i e. type_found t w i e;
      new = λ w. (omega (arith, length_push w.types t), at_new BoolT w.types t);
    }

-- Whether the parts of a term are entered, and whether it is literal, does not hang on the capacities.
prim_recap : (w : Contents) (c : Capacities) (l : TermPrim) → prim_fits (recap c w) l ≡ prim_fits w l
prim_recap w c (StringLiteral n) = refl
prim_recap w c (EntityLiteral u) = refl
prim_recap w c l = refl

op_recap : {P : Type 0} (w : Contents) (c : Capacities) (o : Op1 P) → op_fits (recap c w) o ≡ op_fits w o
op_recap w c (RecordGet n) = refl
op_recap w c (Uuf f) = refl
op_recap w c o = refl

term_recap : (w : Contents) (c : Capacities) (t : Term') → term_fits (recap c w) t ≡ term_fits w t
term_recap w c (Prim l) = prim_recap w c l
term_recap w c (Unary o t) = ap (λ b. b && is_term w t) (op_recap w c o)
term_recap w c t = refl

literal_recap : (w : Contents) (c : Capacities) (t : Term') → literal_of (recap c w) t ≡ literal_of w t
literal_recap w c (SomeTerm t) = refl
literal_recap w c t = refl

term_entry : (t : Term') (ty : TypeId) → Entry (λ w. is_type w ty && term_fits w t) term_kind (λ w. entry_of w t ty) (λ n. record { 0 = n }) (λ (n : TermId). TermStands t n.0)
unfolding find
term_entry t ty =
    record {
      test_recap = λ w c. ap (λ b. is_type w ty && b) (term_recap w c t);
      find_recap = λ w c. refl;
      put_recap = λ w c. ap (λ b. recap c (term_kind.put (record { term = t; ty = ty; literal = b }) w)) (literal_recap w c t);
      count_recap = λ w c. refl;
      room = λ w c m l. let (a, b) = term_room (entry_of w t ty) w l in room_term (entry_of (recap c w) t ty) (recap c w) (omega arith) (omega arith);
      grows = λ w. record {
        more_terms = entry_of w t ty ∷ [];
        more_types = [];
        more_names = [];
        terms = refl;
        types = sym (append-nil w.types);
        names = sym (append-nil w.names);
        capacities = refl;
      };
      keeps = λ w f e g. term_keeps t ty w (and_parts (is_type w ty) (term_fits w t) f).1 e g;
      held = λ w i e. term_found t ty w i e;
      new = λ w. (omega (arith, length_push w.terms (entry_of w t ty)), ap (λ x. x.term) (at_new (truth false) w.terms (entry_of w t ty)));
    }

pub name_lawful : (s : List ℕ) → Lawful (name_call s) (λ n. NameStands s n.0)
unfolding name_call enter_name
name_lawful s = entry_lawful (λ _. leb (length s) 255) name_kind (λ _. s) (λ n. record { 0 = n }) (name_entry s)

pub type_lawful : (t : Type') → Lawful (type_call t) (λ n. TypeStands t n.0)
unfolding type_call enter_type
type_lawful t = entry_lawful (λ w. fits w t) type_kind (λ _. t) (λ n. record { 0 = n }) (type_entry t)

pub term_lawful : (t : Term') (ty : TypeId) → Lawful (term_call t ty) (λ n. TermStands t n.0)
unfolding term_call enter_term
term_lawful t ty = entry_lawful (λ w. is_type w ty && term_fits w t) term_kind (λ w. entry_of w t ty) (λ n. record { 0 = n }) (term_entry t ty)

-- To show a thing of the only place.
only : (P : ℕ → Type 0) → P 0 → (i : ℕ) → i < 1 → P i
only P p zero h = p
only P p (suc i) h = absurd (omega arith)

pub opening_sound : (k : Capacities) → Sound (opening k)
unfolding opening
opening_sound k =
    record {
      names_once = once_push (λ x. x) [] (codes "entity" ∷ []) (codes "tag")
          (once_push (λ x. x) [] [] (codes "entity") (λ i j hi. absurd (omega arith)) (λ i h. absurd (omega arith)))
          (only (λ i. get_or (codes "entity" ∷ []) i [] ≡ codes "tag" → ⊥) (λ e. false≢true ((bytes_eq-Decides (codes "entity") (codes "tag")).1 e)));
      types_once = once_push (λ x. x) BoolT [] BoolT (λ i j hi. absurd (omega arith)) (λ i h. absurd (omega arith));
      terms_once = once_push (λ x. x.term) (truth false) (truth false ∷ []) (truth true)
          (once_push (λ x. x.term) (truth false) [] (truth false) (λ i j hi. absurd (omega arith)) (λ i h. absurd (omega arith)))
          (only (λ i. (get_or (truth false ∷ []) i (truth false)).term ≡ (truth true).term → ⊥) (λ e. cc));
      parts = only (λ i. PartsBelow 2 i (get_or (BoolT ∷ []) i BoolT)) tt;
      term_parts = each_push (truth false ∷ []) (truth true) (λ i. TermBelow 2 1 i (get_or (truth false ∷ truth true ∷ []) i (truth false)).term) (only (λ i. TermBelow 2 1 i (get_or (truth false ∷ truth true ∷ []) i (truth false)).term) tt) tt;
    }
