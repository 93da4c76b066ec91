-- Lists in the tables that hold them.
use Rattle.std.proofs.Common.{◌≡◌, ℕ, ◌+◌, ◌≤◌, Bool, true, List, [], ◌∷◌, ◌++◌, map, length, take, drop, refl, ap, ◌∙◌, ap₂, arith, length-append, length-drop, le-leb, leb-true}
use Rattle.std.proofs.lemmas.Bool.{and_parts, and_from}
use Rattle.std.proofs.lemmas.List.{take_all, length-take, take-append-le, drop-append-le, drop_at, map_push}
use Rattle.tables.specs.declared.span.Span.{Span}
use Rattle.tables.specs.declared.term_type.TermType.{TermType}
use Rattle.tables.specs.declared.term_type.TermType.TheVariants.{Record}
use Rattle.std.specs.List.{list_all}
use Rattle.tables.specs.Spans.{part, with_fields, MapsFields, within, record_within}
use Rattle.tables.specs.Types.{fields_of}

-- A type whose fields are given another way reads as it did, where each of them does.
pub with_fields-MapsFields : {F G X : Type 0} (f : F → X) (g : G → X) (R : F → G → Type 0) → ((x : F) (y : G) → R x y → g y ≡ f x) → (t : TermType F) (u : TermType G) → MapsFields R t u → with_fields g u ≡ with_fields f t
with_fields-MapsFields f g R e (Record x) u (y, r, m) = ap (with_fields g) m ∙ ap Record (e x y r)
with_fields-MapsFields f g R e t u m = ap (with_fields g) m

module _ {X : Type 0} where
  -- One more element passes the test, and what passed passes a weaker one.
  pub list_all-push : (p q : X → Bool) → ((x : X) → p x ≡ true → q x ≡ true) → (xs : List X) (x : X) → list_all p xs ≡ true → q x ≡ true → list_all q (xs ++ x ∷ []) ≡ true
  list_all-push p q w [] x h g = and_from (q x) true g refl
  list_all-push p q w (y ∷ ys) x h g =
      let (a, b) = and_parts (p y) (list_all p ys) h in
      and_from (q y) (list_all q (ys ++ x ∷ [])) (w y a) (list_all-push p q w ys x b g)

  -- Two functions that agree where the test passes.
  pub map_list_all : {Y : Type 0} (p : X → Bool) (f g : X → Y) → ((x : X) → p x ≡ true → f x ≡ g x) → (xs : List X) → list_all p xs ≡ true → map f xs ≡ map g xs
  map_list_all p f g e [] h = refl
  map_list_all p f g e (x ∷ xs) h = let (a, b) = and_parts (p x) (list_all p xs) h in ap₂ ◌∷◌ (e x a) (map_list_all p f g e xs b)

  -- One more element read by f, where those before it read by f as by g.
  pub map_behind : {Y : Type 0} (p : X → Bool) (f g : X → Y) → ((x : X) → p x ≡ true → f x ≡ g x) → (xs : List X) (x : X) → list_all p xs ≡ true → map f (xs ++ x ∷ []) ≡ map g xs ++ f x ∷ []
  map_behind p f g e xs x h = map_push f xs x ∙ ap (λ l. l ++ f x ∷ []) (map_list_all p f g e xs h)

-- A record's fields are a part of the list cells, and no more than they are.
pub fields_fit : {X : Type 0} (xs : List X) (t : TermType Span) → length (fields_of (with_fields (part xs) t)) ≤ length xs
fields_fit xs (Record s) =
    let c = length-take s.count (drop s.first xs) in
    let d = length-drop s.first xs in
    omega arith
fields_fit xs t = omega arith

-- What is put behind changes no part that lay within the list.
pub part_kept : {X : Type 0} (xs ys : List X) (s : Span) → within (length xs) s ≡ true → part (xs ++ ys) s ≡ part xs s
part_kept xs ys s h =
    let l = leb-true (s.first + s.count) (length xs) h in
    let d : s.first ≤ length xs = omega arith in
    let t : s.count ≤ length (drop s.first xs) = simp length-drop (omega arith) in
    ap (take s.count) (drop-append-le s.first xs ys d) ∙ take-append-le s.count (drop s.first xs) ys t

pub part_behind : {X : Type 0} (xs ys : List X) → part (xs ++ ys) (record { first = length xs; count = length ys }) ≡ ys
part_behind xs ys = ap (take (length ys)) (drop_at xs ys (length xs) refl) ∙ take_all (length ys) ys (omega arith)

pub within_more : (m n : ℕ) → m ≤ n → (s : Span) → within m s ≡ true → within n s ≡ true
within_more m n l s h = let g = leb-true (s.first + s.count) m h in le-leb (s.first + s.count) n (omega arith)

pub record_more : (m n : ℕ) → m ≤ n → (t : TermType Span) → record_within m t ≡ true → record_within n t ≡ true
record_more m n l (Record s) h = within_more m n l s h
record_more m n l t h = refl

pub fields_kept : {X : Type 0} (xs ys : List X) (t : TermType Span) → record_within (length xs) t ≡ true → with_fields (part (xs ++ ys)) t ≡ with_fields (part xs) t
fields_kept xs ys (Record s) h = ap Record (part_kept xs ys s h)
fields_kept xs ys t h = refl

-- A name whose bytes are put behind the others.
module _ (bs : List ℕ) (ns : List Span) (s : List ℕ) (h : list_all (within (length bs)) ns ≡ true) where
  pub names_put : map (part (bs ++ s)) (ns ++ record { first = length bs; count = length s } ∷ []) ≡ map (part bs) ns ++ s ∷ []
  names_put =
      map_behind (within (length bs)) (part (bs ++ s)) (part bs) (λ x g. part_kept bs s x g) ns (record { first = length bs; count = length s }) h
      ∙ ap (λ l. map (part bs) ns ++ l ∷ []) (part_behind bs s)

  pub names_within : list_all (within (length (bs ++ s))) (ns ++ record { first = length bs; count = length s } ∷ []) ≡ true
  names_within =
      let n = length-append bs s in
      list_all-push (within (length bs)) (within (length (bs ++ s))) (within_more (length bs) (length (bs ++ s)) (omega arith))
      ns (record { first = length bs; count = length s }) h (le-leb (length bs + length s) (length (bs ++ s)) (omega arith))

-- A type whose fields gs are put behind the others, at the span s: the cell u that holds it reads as the type, and lies within the list cells.
module _ {X Y : Type 0} (fs gs : List X) (f : Y → List X) (R : Y → Span → Type 0) {s : Span} {fs' : List X}
    (span : s ≡ record { first = length fs; count = length gs }) (lists : fs' ≡ fs ++ gs) (at : (y : Y) (x : Span) → R y x → x ≡ s) where
  reads_back : (t : TermType Y) (u : TermType Span) → MapsFields R t u → gs ≡ fields_of (with_fields f t) → with_fields (part fs') u ≡ with_fields f t
  reads_back (Record y) u (x, r, m) g = ap (with_fields (part fs')) m ∙ ap Record (ap₂ part lists (at y x r ∙ span) ∙ part_behind fs gs ∙ g)
  reads_back t u m g = ap (with_fields (part fs')) m

  lies_within : (t : TermType Y) (u : TermType Span) → MapsFields R t u → record_within (length fs') u ≡ true
  lies_within (Record y) u (x, r, m) =
      let n = length-append fs gs in
      ap₂ (λ l c. record_within (length l) c) lists (m ∙ ap Record (at y x r ∙ span)) ∙ le-leb (length fs + length gs) (length (fs ++ gs)) (omega arith)
  lies_within t u m = ap (record_within (length fs')) m

  module _ (ts : List (TermType Span)) (h : list_all (record_within (length fs)) ts ≡ true) (t : TermType Y) (u : TermType Span) {ts' : List (TermType Span)}
      (cell : MapsFields R t u) (cells : ts' ≡ ts ++ u ∷ []) where
    pub types_put : gs ≡ fields_of (with_fields f t) → map (with_fields (part fs')) ts' ≡ map (with_fields (part fs)) ts ++ with_fields f t ∷ []
    types_put g =
        ap (map (with_fields (part fs'))) cells
        ∙ map_behind (record_within (length fs)) (with_fields (part fs')) (with_fields (part fs)) (λ c k. ap (λ l. with_fields (part l) c) lists ∙ fields_kept fs gs c k) ts u h
        ∙ ap (λ l. map (with_fields (part fs)) ts ++ l ∷ []) (reads_back t u cell g)

    pub types_within : list_all (record_within (length fs')) ts' ≡ true
    types_within =
        let n = ap length lists ∙ length-append fs gs in
        ap (list_all (record_within (length fs'))) cells
        ∙ list_all-push (record_within (length fs)) (record_within (length fs')) (record_more (length fs) (length fs') (omega arith)) ts u h (lies_within t u cell)
