-- What the search for a match keeps true from turn to turn.
use Rattle.std.proofs.Common.{◌≡◌, ◌≢◌, ℕ, ◌+◌, ◌-◌, ◌*◌, ◌≤◌, Bool, true, false, ◌&&◌, ◌||◌, eqb, List, [], ◌∷◌, length, get_or, take, drop, cond, Some, None, Option, sym, refl, ap, ◌∙◌, ap₂, arith}
use mathlib.Core.Path.{fun_ext}
use Rattle.std.specs.List.{list_all}
use Rattle.std.proofs.lemmas.List.{drop_more, take_rest}
use Rattle.std.proofs.lemmas.Bool.{false≢true, or_right, cond-false, eq-eqb, ne_eqb}
use Rattle.pattern.specs.declared.like.AfterRun.{AfterRun}
use Rattle.pattern.specs.Like.{is_empty, some_suffix, begins_with, matches}
use Rattle.pattern.proofs.Suffixes.{or_covered, suffix_twice, suffix_shorter, suffix_from}

-- One of the tries after the last run that are still to come succeeds.
unfoldable pub later_try : Option AfterRun → Bool
later_try None = false
later_try (Some run) = some_suffix (matches run.pattern.now) (drop 1 run.text.now)

-- How many tries are left at most.
abbrev pub tries_left : List ℕ → Option AfterRun → ℕ
tries_left text None = length text + 1
tries_left text (Some run) = length run.text.now

-- How many numbers the next try reads at most.
abbrev pub numbers_again : Option AfterRun → ℕ
numbers_again None = 0
numbers_again (Some run) = length run.pattern.now

module _ (pattern text : List ℕ) where
  -- How many turns are left at most: each try reads the pattern at most once.
  abbrev pub turns_left : List ℕ → Option AfterRun → ℕ
  turns_left numbers run = tries_left text run * (length pattern + 1) + length numbers

  -- What is left of both, or a later try, gives what the whole gives. And a later try succeeds only where what is left of
  -- the pattern matches some suffix of what is left of the text, since it has to come past there.
  pub record Searching (numbers bytes : List ℕ) (run : Option AfterRun) : Type 0 where
    pub inside_pattern : length numbers ≤ length pattern
    pub inside_again : numbers_again run ≤ length pattern
    pub inside_text : length bytes ≤ tries_left text run
    pub same : (matches numbers bytes || later_try run) ≡ matches pattern text
    pub covered : later_try run ≡ true → some_suffix (matches numbers) bytes ≡ true

  pub search_begins : Searching pattern text None
  unfolding later_try
  search_begins = record {
    inside_pattern = omega arith;
    inside_again = omega arith;
    inside_text = omega arith;
    same = or_covered (matches pattern text) false (λ e. absurd (false≢true e));
    covered = λ e. absurd (false≢true e);
  }

-- A pattern that has come to its end, or asks for another byte, does not match.
no_match : (numbers rest : List ℕ) (b : ℕ) → ((p : List ℕ) → numbers ≢ 256 ∷ p) → ((p : List ℕ) → numbers ≢ b ∷ p) → matches numbers (b ∷ rest) ≡ false
unfolding matches is_empty begins_with
no_match [] rest b no_run no_byte = refl
no_match (c ∷ p) rest b no_run no_byte =
    cond-false _ _ _ (ne_eqb c 256 (λ e. no_run p (ap (λ x. x ∷ p) e)))
    ∙ ap (λ x. x && matches p rest) (ne_eqb c b (λ e. no_byte p (ap (λ x. x ∷ p) e)))

-- A pattern that holds runs only, and no other, matches the empty text.
pub all_runs : (numbers : List ℕ) → list_all (λ n. eqb n 256) numbers ≡ matches numbers []
unfolding matches is_empty some_suffix begins_with
all_runs [] = refl
all_runs (c ∷ p) = elim (eqb c 256) as (λ run. (run && list_all (λ n. eqb n 256) p) ≡ cond run (matches p []) false) [ true ↦ all_runs p | false ↦ refl ]

module _ {pattern text numbers bytes : List ℕ} {run : Option AfterRun} (s : Searching pattern text numbers bytes run) where
  -- At the end of the text no later try does better than what is left of the pattern.
  pub search_ends : bytes ≡ [] → matches numbers [] ≡ matches pattern text
  unfolding some_suffix
  search_ends end = sym (ap (matches numbers) end) ∙ sym (or_covered _ _ (λ l. at_end (s.covered l))) ∙ s.same
    where
      at_end : some_suffix (matches numbers) bytes ≡ true → matches numbers bytes ≡ true
      at_end l = ap (matches numbers) end ∙ sym (ap (some_suffix (matches numbers)) end) ∙ l

  -- The next byte of the text is b, and no run comes next in the pattern.
  module _ (some : 1 ≤ length bytes) {b : ℕ} (b_is : b ≡ get_or bytes 0 0) (no_run : (p : List ℕ) → numbers ≢ 256 ∷ p) where
    rest : List ℕ
    rest = take (length bytes - 1) (drop 1 bytes)

    front : bytes ≡ b ∷ rest
    unfolding rest
    front = drop_more bytes 0 0 some ∙ ap₂ (λ c t. c ∷ t) (sym b_is) (sym (take_rest bytes 1))

    -- A byte that comes next in both is passed in both.
    pub search_byte : (more : List ℕ) → numbers ≡ b ∷ more → Searching pattern text more (take (length bytes - 1) (drop 1 bytes)) run
    unfolding matches begins_with rest
    search_byte more is = record {
      inside_pattern = omega (arith, ap length is, s.inside_pattern);
      inside_again = s.inside_again;
      inside_text = omega (arith, ap length front, s.inside_text);
      same = sym (ap (λ x. x || later_try run) here) ∙ s.same;
      covered = λ l. suffix_shorter (matches more) b b rest (sym (ap₂ some_suffix first front) ∙ s.covered l);
    }
      where
        first : matches numbers ≡ begins_with b (matches more)
        first = ap matches is ∙ fun_ext (λ t. cond-false _ _ _ (ne_eqb b 256 (λ e. no_run more (is ∙ ap (λ x. x ∷ more) e))))

        here : matches numbers bytes ≡ matches more rest
        here = ap₂ (λ test t. test t) first front ∙ ap (λ x. x && matches more rest) (eq-eqb b b refl)

    module _ (no_byte : (p : List ℕ) → numbers ≢ b ∷ p) where
      stuck : matches numbers bytes ≡ false
      stuck = ap (matches numbers) front ∙ no_match numbers rest b no_run no_byte

      -- With no run to go back to, there is no match.
      pub search_fails : run ≡ None → false ≡ matches pattern text
      unfolding later_try
      search_fails is = ap₂ (λ x r. x || later_try r) (sym stuck) (sym is) ∙ s.same

      -- Else the next try is made.
      pub search_back : (last next : AfterRun) → run ≡ Some last → next.pattern.now ≡ last.pattern.now → next.text.now ≡ drop 1 last.text.now → Searching pattern text next.pattern.now next.text.now (Some next)
      unfolding later_try
      search_back last next is p t = record {
        inside_pattern = again;
        inside_again = again;
        inside_text = omega arith;
        same = sym (suffix_from test next.text.now) ∙ tries ∙ ap (λ x. x || later_try run) (sym stuck) ∙ s.same;
        covered = λ l. suffix_from test next.text.now ∙ or_right (test next.text.now) _ l;
      }
        where
          test : List ℕ → Bool
          test = matches next.pattern.now

          again : length next.pattern.now ≤ length pattern
          again = omega (arith, ap numbers_again is, ap length p, s.inside_again)

          tries : some_suffix test next.text.now ≡ later_try run
          tries = ap₂ (λ n b. some_suffix (matches n) b) p t ∙ ap later_try (sym is)

module _ {pattern text numbers : List ℕ} {run : Option AfterRun} (next : AfterRun) (s : Searching pattern text numbers next.text.now run) where
  -- A new run takes the place of the one before: where a later try after that one succeeds, some suffix of what is left does.
  pub search_run : numbers ≡ 256 ∷ next.pattern.now → Searching pattern text next.pattern.now next.text.now (Some next)
  unfolding later_try matches
  search_run is = record {
    inside_pattern = omega (arith, ap length is, s.inside_pattern);
    inside_again = omega (arith, ap length is, s.inside_pattern);
    inside_text = omega arith;
    same = sym (suffix_from test next.text.now) ∙ sym here ∙ sym (or_covered _ _ (λ l. here ∙ enough l)) ∙ s.same;
    covered = λ l. suffix_from test next.text.now ∙ or_right (test next.text.now) _ l;
  }
    where
      test : List ℕ → Bool
      test = matches next.pattern.now

      first : matches numbers ≡ some_suffix test
      first = ap matches is ∙ fun_ext (λ t. refl)

      here : matches numbers next.text.now ≡ some_suffix test next.text.now
      here = ap (λ f. f next.text.now) first

      enough : later_try run ≡ true → some_suffix test next.text.now ≡ true
      enough l = suffix_twice test next.text.now (sym (ap (λ f. some_suffix f next.text.now) first) ∙ s.covered l)
