-- Lists of lawful calls.
use Rattle.std.proofs.Common.{◌≡◌, ℕ, ◌<◌, Bool, true, false, ◌⊎◌, List, [], ◌∷◌, ◌++◌, length, get_or, Ok, Err, Result, sym, refl, ap, ◌∙◌, subst, inl, inr, arith, length-append}
use Rattle.std.proofs.lemmas.List.{append_assoc, get_or_append_left}
use Rattle.tables.specs.declared.capacities.Capacities.{Capacities}
use Rattle.tables.specs.declared.result.CompileError.{CompileError}
use Rattle.tables.specs.declared.result.CompileError.TheVariants.{Full}
use Rattle.tables.specs.declared.term_type.TermType.TheVariants.{Bool as BoolT}
use Rattle.tables.specs.Types.{Type'}
use Rattle.tables.specs.Ranges.{Smaller}
use Rattle.tables.specs.Contents.{Contents}
use Rattle.tables.specs.Kinds.{Step, answering, giving}
use Rattle.laws.specs.Sound.{Sound}
use Rattle.laws.specs.Lawful.{is_full, recap, Later, Lawful, NameStands, TypeStands}
use Rattle.laws.proofs.Entry.{Later-refl}
use Rattle.workbench.specs.declared.calls.Reply.{Reply}
use Rattle.workbench.specs.Runs.{Call', Answer, step, calls}
use Rattle.workbench.specs.Law.{Alike}

pub Later-trans : {u v w : Contents} → Later u v → Later v w → Later u w
Later-trans {u} {v} {w} p q =
    record {
      more_terms = p.more_terms ++ q.more_terms;
      more_types = p.more_types ++ q.more_types;
      more_names = p.more_names ++ q.more_names;
      terms = q.terms ∙ ap (λ l. l ++ q.more_terms) p.terms ∙ append_assoc u.terms p.more_terms q.more_terms;
      types = q.types ∙ ap (λ l. l ++ q.more_types) p.types ∙ append_assoc u.types p.more_types q.more_types;
      names = q.names ∙ ap (λ l. l ++ q.more_names) p.names ∙ append_assoc u.names p.more_names q.more_names;
      capacities = q.capacities ∙ p.capacities;
    }

-- What a number points at, later too.
at_later : {X : Type 0} (d : X) (xs : List X) {ys : List X} (more : List X) → ys ≡ xs ++ more → (n : ℕ) {x : X} → (n < length xs) × (get_or xs n d ≡ x) → (n < length ys) × (get_or ys n d ≡ x)
at_later d xs more e n {x} (h, p) =
    subst (λ l. (n < length l) × (get_or l n d ≡ x)) (sym e) (omega (arith, length-append xs more), get_or_append_left xs more d n h ∙ p)

pub names_later : {w v : Contents} → Later w v → (s : List ℕ) (n : ℕ) → NameStands s n w → NameStands s n v
names_later {w} l s n h = at_later [] w.names l.more_names l.names n h

pub types_later : {w v : Contents} → Later w v → (t : Type') (n : ℕ) → TypeStands t n w → TypeStands t n v
types_later {w} l t n h = at_later BoolT w.types l.more_types l.types n h

-- What is made of an answer.
answered_err : {A : Type 0} (f : A → Reply) (r : Result A CompileError) (e : CompileError) → answering f r ≡ Err e → (d : CompileError) × (r ≡ Err d)
answered_err f (Err d) e p = (d, refl)
answered_err f (Ok a) e p = absurd (cc)

answered_ok : {A : Type 0} (f : A → Reply) (r : Result A CompileError) (b : Reply) → answering f r ≡ Ok b → (a : A) × (r ≡ Ok a) × (f a ≡ b)
answered_ok f (Ok a) b p = (a, refl, cc)
answered_ok f (Err d) b p = absurd (cc)

answered_full : {A : Type 0} (f : A → Reply) (r : Result A CompileError) → is_full (answering f r) ≡ is_full r
answered_full f (Ok a) = refl
answered_full f (Err (Full t)) = refl
answered_full f (Err e) = refl

pub giving_lawful : {A : Type 0} (f : A → Reply) (m : Step A) (Q : A → Contents → Type 0) → Lawful m Q → Lawful (giving f m) (λ r w. (a : A) × (f a ≡ r) × Q a w)
giving_lawful f m Q law =
    record {
      refused = λ w e p. let (d, q) = answered_err f (m w).1 e p in law.refused w d q;
      later = law.later;
      sound = law.sound;
      roomy = λ w k s n. ap (λ o. (o.0, answering f o.1)) (law.roomy w k s (sym (answered_full f (m w).1) ∙ n));
      gives = λ w b p. let (a, q, e) = answered_ok f (m w).1 b p in (a, e, law.gives w a q);
    }

pub calls_append : (bs cs : List Call') (w : Contents) → (calls (bs ++ cs) w).0 ≡ (calls cs (calls bs w).0).0
unfolding calls
calls_append [] cs w = refl
calls_append (b ∷ bs) cs w = calls_append bs cs (step b w).0

module _ (Q : Call' → Reply → Contents → Type 0) (law : (c : Call') → Lawful (step c) (Q c)) where
  pub calls_later : (cs : List Call') (w : Contents) → Later w (calls cs w).0
  unfolding calls
  calls_later [] w = Later-refl w
  calls_later (c ∷ cs) w = Later-trans ((law c).later w) (calls_later cs (step c w).0)

  pub calls_sound : (cs : List Call') (w : Contents) → Sound w → Sound (calls cs w).0
  unfolding calls
  calls_sound [] w s = s
  calls_sound (c ∷ cs) w s = calls_sound cs (step c w).0 ((law c).sound w s)

  -- A larger workbench answers a list alike, and then what comes after it, if nothing was full till then.
  pub calls_alike : (cs : List Call') (w : Contents) (l : Capacities) → Smaller w.capacities l → (xs ys : List Answer)
      → ((calls cs (recap l w)).0 ≡ recap l (calls cs w).0 → Alike xs ys)
      → Alike ((calls cs w).1 ++ xs) ((calls cs (recap l w)).1 ++ ys)
  unfolding calls Alike
  calls_alike [] w l s xs ys h = h refl
  calls_alike (c ∷ cs) w l s xs ys h = go (is_full (step c w).1) refl (calls_alike cs (step c w).0 l (subst (λ k. Smaller k l) (sym ((law c).later w).capacities) s) xs ys)
    where
      go : (b : Bool) → is_full (step c w).1 ≡ b
          → (((calls cs (recap l (step c w).0)).0 ≡ recap l (calls cs (step c w).0).0 → Alike xs ys)
          → Alike ((calls cs (step c w).0).1 ++ xs) ((calls cs (recap l (step c w).0)).1 ++ ys))
          → (is_full (step c w).1 ≡ true) ⊎ (((step c w).1 ≡ (step c (recap l w)).1) × Alike ((calls cs (step c w).0).1 ++ xs) ((calls cs (step c (recap l w)).0).1 ++ ys))
      go true q ih = inl q
      go false q ih =
          let e = (law c).roomy w l s q in
          let v : (step c (recap l w)).0 ≡ recap l (step c w).0 = ap (λ o. o.0) e in
          inr (sym (ap (λ o. o.1) e), subst (λ u. Alike ((calls cs (step c w).0).1 ++ xs) ((calls cs u).1 ++ ys)) (sym v) (ih (λ r. h (ap (λ u. (calls cs u).0) v ∙ r))))
