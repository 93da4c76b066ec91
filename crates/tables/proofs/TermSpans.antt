-- Terms whose lists lie in the tables that hold them.
use Rattle.std.proofs.Common.{◌≡◌, ℕ, ◌+◌, ◌≤◌, true, List, [], ◌∷◌, ◌++◌, map, length, refl, ap, ◌∙◌, ap₂, arith, length-append, le-leb}
use Rattle.std.specs.List.{list_all}
use Rattle.tables.specs.declared.span.Span.{Span}
use Rattle.tables.specs.declared.term.Entry.{Entry}
use Rattle.tables.specs.declared.term.Op1.TheVariants.{StringLike}
use Rattle.tables.specs.declared.term.Term.{Term}
use Rattle.tables.specs.declared.term.Term.TheVariants.{Set, Record, Unary}
use Rattle.tables.specs.Spans.{part, within, lists_within}
use Rattle.tables.specs.Terms.{with_pattern, with_lists, with_term, MapsLists, elements_of, attributes_of, pattern_of}
use Rattle.tables.proofs.Spans.{list_all-push, map_behind, part_kept, part_behind, within_more}

abbrev Cell : Type 0
Cell = Term Span Span Span

pub lists_more : (e f p e' f' p' : ℕ) → e ≤ e' → f ≤ f' → p ≤ p' → (t : Cell) → lists_within e f p t ≡ true → lists_within e' f' p' t ≡ true
lists_more e f p e' f' p' k l m (Set t s) h = within_more e e' k s h
lists_more e f p e' f' p' k l m (Record s) h = within_more f f' l s h
lists_more e f p e' f' p' k l m (Unary (StringLike s) t) h = within_more p p' m s h
lists_more e f p e' f' p' k l m t h = refl

-- Lists put behind those of a term change nothing that it reads.
module _ {X Y Z : Type 0} (es xs : List X) (fs ys : List Y) (ps zs : List Z) where
  pub lists_kept : (t : Cell) → lists_within (length es) (length fs) (length ps) t ≡ true → with_lists (part (es ++ xs)) (part (fs ++ ys)) (part (ps ++ zs)) t ≡ with_lists (part es) (part fs) (part ps) t
  lists_kept (Set t s) h = ap (Set t) (part_kept es xs s h)
  lists_kept (Record s) h = ap Record (part_kept fs ys s h)
  lists_kept (Unary (StringLike s) t) h = ap (λ x. Unary (StringLike x) t) (part_kept ps zs s h)
  lists_kept t h = refl

-- A span behind a list, of the list that is put there: what it reads, and that it lies within both.
module _ {X : Type 0} (xs ys : List X) {s : Span} {zs : List X} (span : s ≡ record { first = length xs; count = length ys }) (lists : zs ≡ xs ++ ys) where
  behind : part zs s ≡ ys
  behind = ap₂ part lists span ∙ part_behind xs ys

  behind_within : within (length zs) s ≡ true
  behind_within =
      let n = length-append xs ys in
      ap₂ (λ l c. within (length l) c) lists span ∙ le-leb (length xs + length ys) (length (xs ++ ys)) (omega arith)

-- A term whose lists are put behind the others: the cell u that holds it reads as the term, and its lists lie within the list cells.
module _ {E F P X Y Z : Type 0} (e : E → List X) (f : F → List Y) (p : P → List Z) (R : E → Span → Type 0) (S : F → Span → Type 0) (T : P → Span → Type 0)
    (es xs : List X) (fs ys : List Y) (ps zs : List Z) {a b c : Span} {es' : List X} {fs' : List Y} {ps' : List Z}
    (span_e : a ≡ record { first = length es; count = length xs }) (span_f : b ≡ record { first = length fs; count = length ys }) (span_p : c ≡ record { first = length ps; count = length zs })
    (lists_e : es' ≡ es ++ xs) (lists_f : fs' ≡ fs ++ ys) (lists_p : ps' ≡ ps ++ zs)
    (at_e : (x : E) (s : Span) → R x s → s ≡ a) (at_f : (y : F) (s : Span) → S y s → s ≡ b) (at_p : (z : P) (s : Span) → T z s → s ≡ c) where
  read : Cell → Term (List X) (List Y) (List Z)
  read = with_lists (part es') (part fs') (part ps')

  reads_back : (t : Term E F P) (u : Cell) → MapsLists R S T t u → xs ≡ elements_of (with_lists e f p t) → ys ≡ attributes_of (with_lists e f p t) → zs ≡ pattern_of (with_lists e f p t) → with_lists (part es') (part fs') (part ps') u ≡ with_lists e f p t
  reads_back (Set t x) u (s, r, m) i j k = ap (with_lists (part es') (part fs') (part ps')) m ∙ ap (Set t) (ap (part es') (at_e x s r) ∙ behind es xs span_e lists_e ∙ i)
  reads_back (Record y) u (s, r, m) i j k = ap (with_lists (part es') (part fs') (part ps')) m ∙ ap Record (ap (part fs') (at_f y s r) ∙ behind fs ys span_f lists_f ∙ j)
  reads_back (Unary (StringLike z) t) u (o, (s, r, n), m) i j k = ap (with_lists (part es') (part fs') (part ps')) (m ∙ ap (λ v. Unary v t) n) ∙ ap (λ v. Unary (StringLike v) t) (ap (part ps') (at_p z s r) ∙ behind ps zs span_p lists_p ∙ k)
  reads_back (Unary o t) u (v, n, m) i j k = ap (with_lists (part es') (part fs') (part ps')) m ∙ ap (λ v. Unary (with_pattern (part ps') v) t) n
  reads_back t u m i j k = ap (with_lists (part es') (part fs') (part ps')) m

  lies_within : (t : Term E F P) (u : Cell) → MapsLists R S T t u → lists_within (length es') (length fs') (length ps') u ≡ true
  lies_within (Set t x) u (s, r, m) = ap (lists_within (length es') (length fs') (length ps')) m ∙ ap (within (length es')) (at_e x s r) ∙ behind_within es xs span_e lists_e
  lies_within (Record y) u (s, r, m) = ap (lists_within (length es') (length fs') (length ps')) m ∙ ap (within (length fs')) (at_f y s r) ∙ behind_within fs ys span_f lists_f
  lies_within (Unary (StringLike z) t) u (o, (s, r, n), m) = ap (lists_within (length es') (length fs') (length ps')) (m ∙ ap (λ v. Unary v t) n) ∙ ap (within (length ps')) (at_p z s r) ∙ behind_within ps zs span_p lists_p
  lies_within (Unary o t) u (v, n, m) = ap (lists_within (length es') (length fs') (length ps')) (m ∙ ap (λ v. Unary v t) n)
  lies_within t u m = ap (lists_within (length es') (length fs') (length ps')) m

  module _ (ts : List (Entry Cell)) (h : list_all (λ t. lists_within (length es) (length fs) (length ps) t.term) ts ≡ true) (t : Entry (Term E F P)) (u : Cell) {ts' : List (Entry Cell)}
      (cell : MapsLists R S T t.term u) (cells : ts' ≡ ts ++ record { term = u; ty = t.ty; literal = t.literal } ∷ []) where
    pub terms_put : xs ≡ elements_of (with_lists e f p t.term) → ys ≡ attributes_of (with_lists e f p t.term) → zs ≡ pattern_of (with_lists e f p t.term)
        → map (with_term (with_lists (part es') (part fs') (part ps'))) ts' ≡ map (with_term (with_lists (part es) (part fs) (part ps))) ts ++ with_term (with_lists e f p) t ∷ []
    terms_put i j k =
        ap (map (with_term (with_lists (part es') (part fs') (part ps')))) cells
        ∙ map_behind (λ t. lists_within (length es) (length fs) (length ps) t.term) (with_term (with_lists (part es') (part fs') (part ps'))) (with_term (with_lists (part es) (part fs) (part ps)))
        (λ v g. λ n. record { term = ((λ m. with_lists (part (lists_e m)) (part (lists_f m)) (part (lists_p m)) v.term) ∙ lists_kept es xs fs ys ps zs v.term g) n; ty = v.ty; literal = v.literal }) ts (record { term = u; ty = t.ty; literal = t.literal }) h
        ∙ ap (λ x. map (with_term (with_lists (part es) (part fs) (part ps))) ts ++ record { term = x; ty = t.ty; literal = t.literal } ∷ []) (reads_back t.term u cell i j k)

    pub terms_within : list_all (λ t. lists_within (length es') (length fs') (length ps') t.term) ts' ≡ true
    terms_within =
        let i = ap length lists_e ∙ length-append es xs in
        let j = ap length lists_f ∙ length-append fs ys in
        let k = ap length lists_p ∙ length-append ps zs in
        ap (list_all (λ t. lists_within (length es') (length fs') (length ps') t.term)) cells
        ∙ list_all-push (λ t. lists_within (length es) (length fs) (length ps) t.term) (λ t. lists_within (length es') (length fs') (length ps') t.term)
        (λ v g. lists_more (length es) (length fs) (length ps) (length es') (length fs') (length ps') (omega arith) (omega arith) (omega arith) v.term g) ts _ h (lies_within t.term u cell)
