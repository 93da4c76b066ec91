-- The turns of the loop over a list of calls.
use Rattle.std.proofs.Common.{◌≡◌, ℕ, ◌+◌, ◌<◌, ◌≤◌, List, [], ◌∷◌, ◌++◌, map, length, get_or, drop, sym, ap, ◌∙◌}
use Rattle.std.proofs.lemmas.List.{drop_more, drop_all, append-nil, append_assoc}
use Rattle.tables.specs.declared.capacities.Capacities.{Capacities}
use Rattle.tables.specs.Contents.{Contents, opening}
use Rattle.tables.specs.Kinds.{Now}
use Rattle.workbench.specs.declared.calls.Call.{Call}
use Rattle.workbench.specs.Runs.{Call', call_of, Answer, step, calls, runs}

-- What is still to be called, and the answers so far, give what the whole list gives.
pub record Left (xs : List Call) (i : ℕ) (w : Contents) (as' : List Answer) (whole : Contents × List Answer) (before : List Answer) : Type 0 where
  pub tables : (calls (map call_of (drop i xs)) w).0 ≡ whole.0
  pub answers : as' ++ (calls (map call_of (drop i xs)) w).1 ≡ before ++ whole.1

module _ {xs : List Call} {i : ℕ} {w : Contents} {as' : List Answer} {whole : Contents × List Answer} {before : List Answer} (left : Left xs i w as' whole before) where
  pub left_end : length xs ≤ i → (w ≡ whole.0) × (as' ≡ before ++ whole.1)
  unfolding calls
  left_end h =
      let e : calls (map call_of (drop i xs)) w ≡ (w, []) = ap (λ l. calls (map call_of l) w) (drop_all i xs h) in
      (sym (ap (λ o. o.0) e) ∙ left.tables, sym (append-nil as') ∙ sym (ap (λ o. as' ++ o.1) e) ∙ left.answers)

  pub left_more : (d : Call) {r : Answer} {v : Contents} {bs : List Answer} → i < length xs → Now (step (call_of (get_or xs i d)) w) r v → bs ≡ as' ++ r ∷ [] → Left xs (i + 1) v bs whole before
  unfolding calls
  left_more d {r} {v} {bs} h (p, q) b =
      let x = get_or xs i d in
      let o = calls (map call_of (drop (i + 1) xs)) (step (call_of x) w).0 in
      let t : calls (map call_of (drop i xs)) w ≡ (o.0, (step (call_of x) w).1 ∷ o.1) = ap (λ l. calls (map call_of l) w) (drop_more xs i d h) in
      let n : calls (map call_of (drop (i + 1) xs)) v ≡ o = ap (calls (map call_of (drop (i + 1) xs))) p in
      record {
        tables = ap (λ z. z.0) n ∙ sym (ap (λ z. z.0) t) ∙ left.tables;
        answers = (λ j. b j ++ (n j).1) ∙ append_assoc as' (r ∷ []) o.1 ∙ ap (λ y. as' ++ y ∷ o.1) q ∙ sym (ap (λ z. as' ++ z.1) t) ∙ left.answers;
      }

-- The parts of a run, put together.
pub together : (k : Capacities) (ds ss : List Call') {w₀ w₁ w₂ w₃ : Contents} {as₀ as₁ as₂ : List Answer}
    → w₀ ≡ opening k → as₀ ≡ []
    → w₁ ≡ (calls ds w₀).0 → as₁ ≡ as₀ ++ (calls ds w₀).1 → w₂ ≡ w₁
    → w₃ ≡ (calls ss w₂).0 → as₂ ≡ as₁ ++ (calls ss w₂).1
    → (w₃ ≡ (runs k ds ss).0) × (as₂ ≡ (runs k ds ss).1)
unfolding runs
together k ds ss start none a b s c d =
    let w = s ∙ a ∙ ap (λ z. (calls ds z).0) start in
    let l = b ∙ (λ j. none j ++ (calls ds (start j)).1) in
    (c ∙ ap (λ z. (calls ss z).0) w, d ∙ (λ j. l j ++ (calls ss (w j)).1))
