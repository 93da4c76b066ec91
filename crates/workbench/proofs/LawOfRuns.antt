-- The law of runs.
use Rattle.std.proofs.Common.{List, [], ◌∷◌, ◌++◌, sym, refl, ◌∙◌, subst}
use mathlib.Core.Logic.{∥∥₁_elim}
use native.Mathlib.Nat.{ℕ_set}
use Rattle.std.proofs.lemmas.List.{append-nil}
use Rattle.tables.specs.Ranges.{Smaller}
use Rattle.tables.specs.Contents.{Contents, opening}
use Rattle.laws.specs.Sound.{HeldOnce}
use Rattle.laws.specs.Lawful.{recap, Later, Lawful}
use Rattle.laws.proofs.Entries.{name_lawful, type_lawful, opening_sound}
use Rattle.laws.proofs.Fullness.{full_exactly}
use Rattle.laws.proofs.Inverse.{hold_once}
use Rattle.workbench.specs.declared.calls.Reply.{Reply}
use Rattle.workbench.specs.declared.calls.Reply.TheVariants.{Name, «Type» as TypeR}
use Rattle.workbench.specs.Runs.{Call', name', type', step, calls, runs}
use Rattle.workbench.specs.Reached.{Reached}
use Rattle.workbench.specs.Law.{Alike, PointsAt, RefusedCallsChangeNothing, LargerWorkbenchesAnswerAlike, EachStructureHasOneNumber, NumbersLast, LawOfRuns}
use Rattle.workbench.proofs.Lawful.{Later-trans, names_later, types_later, giving_lawful, calls_append, calls_later, calls_sound, calls_alike}

-- A lawful step whose answers are what another statement says of them.
weaker_answer : {A : Type 0} {m : Contents → _} (P Q : A → Contents → Type 0) → ((a : A) (w : Contents) → P a w → Q a w) → Lawful m P → Lawful m Q
weaker_answer P Q h law = record { refused = law.refused; later = law.later; sound = law.sound; roomy = law.roomy; gives = λ w a e. h a _ (law.gives w a e) }

step_lawful : (c : Call') → Lawful (step c) (PointsAt c)
unfolding step
step_lawful (name' s) = weaker_answer _ (PointsAt (name' s)) (λ r w (n, e, h). subst (λ x. PointsAt (name' s) x w) e h) (giving_lawful Name _ _ (name_lawful s))
step_lawful (type' t) = weaker_answer _ (PointsAt (type' t)) (λ r w (n, e, h). subst (λ x. PointsAt (type' t) x w) e h) (giving_lawful TypeR _ _ (type_lawful t))

-- What a number points at, later too.
points_later : (c : Call') (r : Reply) {w v : Contents} → Later w v → PointsAt c r w → PointsAt c r v
points_later (name' s) (Name n) l h = names_later l s n.0 h
points_later (type' t) (TypeR n) l h = types_later l t n.0 h
points_later c r l h = h

abbrev after : List Call' → Contents → Contents
after cs w = (calls cs w).0

refused_calls_change_nothing : RefusedCallsChangeNothing
unfolding runs calls
refused_calls_change_nothing = (
  (λ k ds d e p. calls_append ds (d ∷ []) (opening k) ∙ (step_lawful d).refused (after ds (opening k)) e p),
  (λ k ds ss s e p. calls_append ss (s ∷ []) (after ds (opening k)) ∙ (step_lawful s).refused (after ss (after ds (opening k))) e p),
)

each_structure_has_one_number : EachStructureHasOneNumber
unfolding runs
each_structure_has_one_number k ds ss =
    hold_once (after ss (after ds (opening k)))
    (calls_sound PointsAt step_lawful ss (after ds (opening k))
    (calls_sound PointsAt step_lawful ds (opening k) (opening_sound k)))

larger_workbenches_answer_alike : LargerWorkbenchesAnswerAlike
unfolding runs opening Alike
larger_workbenches_answer_alike k l s ds ss =
    let w = after ds (opening k) in
    let x = (calls ss w).1 in
    calls_alike PointsAt step_lawful ds (opening k) l s x (calls ss (after ds (opening l))).1
    (λ e. subst (λ v. Alike x (calls ss v).1) (sym e)
    (subst (λ y. Alike y (calls ss (recap l w)).1) (append-nil x)
    (subst (λ y. Alike (x ++ []) y) (append-nil (calls ss (recap l w)).1)
    (calls_alike PointsAt step_lawful ss w l
    (subst (λ c. Smaller c l) (sym (calls_later PointsAt step_lawful ds (opening k)).capacities) s) [] [] (λ _. refl)))))

numbers_last : NumbersLast
unfolding runs calls
numbers_last = (
  (λ k ds d r es ss p.
      let w = after ds (opening k) in
      let v = (step d w).0 in
      let e = calls_append ds (d ∷ es) (opening k) in
      subst (λ u. PointsAt d r (after ss u)) (sym e)
      (points_later d r (Later-trans (calls_later PointsAt step_lawful es v) (calls_later PointsAt step_lawful ss (after es v)))
      ((step_lawful d).gives w r p))),
  (λ k ds ss s r ts p.
      let w = after ss (after ds (opening k)) in
      let v = (step s w).0 in
      let e = calls_append ss (s ∷ ts) (after ds (opening k)) in
      subst (λ u. PointsAt s r u) (sym e)
      (points_later s r (calls_later PointsAt step_lawful ts v) ((step_lawful s).gives w r p))),
)

pub law_of_runs : LawOfRuns
law_of_runs =
    record {
      refused_calls_change_nothing = refused_calls_change_nothing;
      larger_workbenches_answer_alike = larger_workbenches_answer_alike;
      each_structure_has_one_number = each_structure_has_one_number;
      full_comes_exactly_when_cells_are_missing = full_exactly;
      numbers_last = numbers_last;
    }

-- That each structure has one number has at most one proof, so it can be told from some run.
held_once_prop : (w : Contents) → IsProp (HeldOnce w)
held_once_prop w x y =
    λ i. record {
      names = λ a b h g e. ℕ_set a b (x.names a b h g e) (y.names a b h g e) i;
      types = λ a b h g e. ℕ_set a b (x.types a b h g e) (y.types a b h g e) i;
      terms = λ a b h g e. ℕ_set a b (x.terms a b h g e) (y.terms a b h g e) i;
    }

-- The tables of every workbench in hand.
pub held_once : {w : Contents} → Reached w → HeldOnce w
unfolding runs calls
held_once {w} r = ∥∥₁_elim r (held_once_prop w) (λ (k, cs, e, q). subst HeldOnce (sym q) (each_structure_has_one_number k cs []))
