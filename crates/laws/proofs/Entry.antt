-- A call that tests a structure and enters it, for every kind of structure.
use Rattle.std.proofs.Common.{◌≡◌, ℕ, Bool, true, false, cond, [], Some, None, Ok, Err, Option, sym, refl, ap, ◌∙◌, subst, ap₂, true≢false}
use Rattle.std.proofs.lemmas.List.{append-nil}
use Rattle.tables.specs.declared.capacities.Capacities.{Capacities}
use Rattle.tables.specs.declared.result.CompileError.{CompileError}
use Rattle.tables.specs.declared.result.CompileError.TheVariants.{Full, BadInput}
use Rattle.tables.specs.declared.result.Table.{Table}
use Rattle.tables.specs.Ranges.{Smaller}
use Rattle.tables.specs.Contents.{Contents}
use Rattle.tables.specs.Kinds.{Outcome, Step, Kind, find, put_unless, enter_unless, enter, answering, giving}
use Rattle.laws.specs.Sound.{Sound}
use Rattle.laws.specs.Lawful.{is_full, recap, Later, Lawful}

pub Later-refl : (w : Contents) → Later w w
Later-refl w =
    record {
      more_terms = [];
      more_types = [];
      more_names = [];
      terms = sym (append-nil w.terms);
      types = sym (append-nil w.types);
      names = sym (append-nil w.names);
      capacities = refl;
    }

-- The call.
abbrev pub checked : {A B : Type 0} → (Contents → Bool) → Kind A → (Contents → A) → (ℕ → B) → Step B
checked test k a f w = cond (test w) (giving f (enter k (a w)) w) (w, Err BadInput)

-- What a kind has to keep to for the call to be lawful.
pub record Entry {A B : Type 0} (test : Contents → Bool) (k : Kind A) (a : Contents → A) (f : ℕ → B) (Q : B → Contents → Type 0) : Type 0 where
  pub test_recap : (w : Contents) (c : Capacities) → test (recap c w) ≡ test w
  pub find_recap : (w : Contents) (c : Capacities) → find k (a (recap c w)) (recap c w) ≡ find k (a w) w
  pub put_recap : (w : Contents) (c : Capacities) → k.put (a (recap c w)) (recap c w) ≡ recap c (k.put (a w) w)
  pub count_recap : (w : Contents) (c : Capacities) → k.count (recap c w) ≡ k.count w
  pub room : (w : Contents) (c : Capacities) → Smaller w.capacities c → k.lacking (a w) w ≡ None → k.lacking (a (recap c w)) (recap c w) ≡ None
  pub grows : (w : Contents) → Later w (k.put (a w) w)
  pub keeps : (w : Contents) → test w ≡ true → find k (a w) w ≡ None → Sound w → Sound (k.put (a w) w)
  pub held : (w : Contents) (i : ℕ) → find k (a w) w ≡ Some i → Q (f i) w
  pub new : (w : Contents) → Q (f (k.count w)) (k.put (a w) w)

module _ {A B : Type 0} (test : Contents → Bool) (k : Kind A) (a : Contents → A) (f : ℕ → B) where
  abbrev both : Outcome ℕ → Outcome B
  both o = (o.0, answering f o.1)

  abbrev over : Capacities → Outcome B → Outcome B
  over c o = (recap c o.0, o.1)

  -- The four ways that the call can go.
  is_bad : (w : Contents) → test w ≡ false → checked test k a f w ≡ (w, Err BadInput)
  is_bad w t = ap (λ b. cond b (both (enter k (a w) w)) (w, Err BadInput)) t

  is_found : (w : Contents) (i : ℕ) → test w ≡ true → find k (a w) w ≡ Some i → checked test k a f w ≡ (w, Ok (f i))
  unfolding enter
  is_found w i t e = ap₂ (λ b o. cond b (both (enter_unless k (a w) o w)) (w, Err BadInput)) t e

  is_full_lem : (w : Contents) (x : Table) → test w ≡ true → find k (a w) w ≡ None → k.lacking (a w) w ≡ Some x → checked test k a f w ≡ (w, Err (Full x))
  unfolding enter
  is_full_lem w x t e l = ap₂ (λ b o. cond b (both (enter_unless k (a w) o w)) (w, Err BadInput)) t e ∙ ap (λ o. both (put_unless k (a w) o w)) l

  is_new : (w : Contents) → test w ≡ true → find k (a w) w ≡ None → k.lacking (a w) w ≡ None → checked test k a f w ≡ (k.put (a w) w, Ok (f (k.count w)))
  unfolding enter
  is_new w t e l = ap₂ (λ b o. cond b (both (enter_unless k (a w) o w)) (w, Err BadInput)) t e ∙ ap (λ o. both (put_unless k (a w) o w)) l

  data Way (w : Contents) : Type 0 where
    bad : test w ≡ false → Way w
    found : (i : ℕ) → test w ≡ true → find k (a w) w ≡ Some i → Way w
    full : (x : Table) → test w ≡ true → find k (a w) w ≡ None → k.lacking (a w) w ≡ Some x → Way w
    new : test w ≡ true → find k (a w) w ≡ None → k.lacking (a w) w ≡ None → Way w

  way : (w : Contents) → Way w
  way w = tested (test w) refl
    where
      lacked : test w ≡ true → find k (a w) w ≡ None → (o : Option Table) → k.lacking (a w) w ≡ o → Way w
      lacked t e (Some x) l = full x t e l
      lacked t e None l = new t e l

      searched : test w ≡ true → (o : Option ℕ) → find k (a w) w ≡ o → Way w
      searched t (Some i) e = found i t e
      searched t None e = lacked t e (k.lacking (a w) w) refl

      tested : (b : Bool) → test w ≡ b → Way w
      tested false t = bad t
      tested true t = searched t (find k (a w) w) refl

  -- `Full` comes exactly in the third of them.
  pub is_only_full : (w : Contents) (x : Table) → (checked test k a f w).1 ≡ Err (Full x) → (test w ≡ true) × (find k (a w) w ≡ None) × (k.lacking (a w) w ≡ Some x)
  is_only_full w x p = go (way w)
    where
      go : Way w → (test w ≡ true) × (find k (a w) w ≡ None) × (k.lacking (a w) w ≡ Some x)
      go (bad t) = absurd (cc (is_bad w t))
      go (found i t s) = absurd (cc (is_found w i t s))
      go (full y t s l) = (t, s, cc (is_full_lem w y t s l))
      go (new t s l) = absurd (cc (is_new w t s l))

  pub is_always_full : (w : Contents) (x : Table) → test w ≡ true → find k (a w) w ≡ None → k.lacking (a w) w ≡ Some x → (checked test k a f w).1 ≡ Err (Full x)
  is_always_full w x t e l = ap (λ o. o.1) (is_full_lem w x t e l)

  module _ {Q : B → Contents → Type 0} (law : Entry test k a f Q) where
    refuses : (w : Contents) (e : CompileError) → (checked test k a f w).1 ≡ Err e → (checked test k a f w).0 ≡ w
    refuses w e p = go (way w)
      where
        go : Way w → (checked test k a f w).0 ≡ w
        go (bad t) = ap (λ o. o.0) (is_bad w t)
        go (found i t s) = ap (λ o. o.0) (is_found w i t s)
        go (full x t s l) = ap (λ o. o.0) (is_full_lem w x t s l)
        go (new t s l) = absurd (cc (is_new w t s l))

    extends : (w : Contents) → Later w (checked test k a f w).0
    extends w = go (way w)
      where
        go : Way w → Later w (checked test k a f w).0
        go (bad t) = subst (λ o. Later w o.0) (sym (is_bad w t)) (Later-refl w)
        go (found i t s) = subst (λ o. Later w o.0) (sym (is_found w i t s)) (Later-refl w)
        go (full x t s l) = subst (λ o. Later w o.0) (sym (is_full_lem w x t s l)) (Later-refl w)
        go (new t s l) = subst (λ o. Later w o.0) (sym (is_new w t s l)) (law.grows w)

    stays : (w : Contents) → Sound w → Sound (checked test k a f w).0
    stays w g = go (way w)
      where
        go : Way w → Sound (checked test k a f w).0
        go (bad t) = subst (λ o. Sound o.0) (sym (is_bad w t)) g
        go (found i t s) = subst (λ o. Sound o.0) (sym (is_found w i t s)) g
        go (full x t s l) = subst (λ o. Sound o.0) (sym (is_full_lem w x t s l)) g
        go (new t s l) = subst (λ o. Sound o.0) (sym (is_new w t s l)) (law.keeps w t s g)

    widens : (w : Contents) (c : Capacities) → Smaller w.capacities c → is_full (checked test k a f w).1 ≡ false → checked test k a f (recap c w) ≡ (recap c (checked test k a f w).0, (checked test k a f w).1)
    widens w c m n = go (way w)
      where
        go : Way w → checked test k a f (recap c w) ≡ over c (checked test k a f w)
        go (bad t) = is_bad (recap c w) (law.test_recap w c ∙ t) ∙ sym (ap (over c) (is_bad w t))
        go (found i t s) = is_found (recap c w) i (law.test_recap w c ∙ t) (law.find_recap w c ∙ s) ∙ sym (ap (over c) (is_found w i t s))
        go (full x t s l) = absurd (true≢false (sym (ap (λ o. is_full o.1) (is_full_lem w x t s l)) ∙ n))
        go (new t s l) =
            is_new (recap c w) (law.test_recap w c ∙ t) (law.find_recap w c ∙ s) (law.room w c m l)
            ∙ (λ i. (law.put_recap w c i, Ok (f (law.count_recap w c i)))) ∙ sym (ap (over c) (is_new w t s l))

    answers : (w : Contents) (b : B) → (checked test k a f w).1 ≡ Ok b → Q b (checked test k a f w).0
    answers w b p = go (way w)
      where
        take : (v : Contents) (x : B) → checked test k a f w ≡ (v, Ok x) → Q x v → Q b (checked test k a f w).0
        take v x e q =
            let z : x ≡ b = cc in
            subst (λ o. Q b o.0) (sym e) (subst (λ y. Q y v) z q)

        go : Way w → Q b (checked test k a f w).0
        go (bad t) = absurd (cc (is_bad w t))
        go (found i t s) = take w (f i) (is_found w i t s) (law.held w i s)
        go (full x t s l) = absurd (cc (is_full_lem w x t s l))
        go (new t s l) = take (k.put (a w) w) (f (k.count w)) (is_new w t s l) (law.new w)

    pub entry_lawful : Lawful (checked test k a f) Q
    entry_lawful = record { refused = refuses; later = extends; sound = stays; roomy = widens; gives = answers }
