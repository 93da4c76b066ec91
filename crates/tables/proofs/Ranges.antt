-- Capacities in their ranges.
use Rattle.std.proofs.Common.{◌≡◌, ℕ, ◌≤◌, true, leb, leb-true}
use Rattle.std.proofs.lemmas.Bool.{and_parts}
use Rattle.tables.specs.declared.capacities.Capacities.{Capacities}
use Rattle.tables.specs.Ranges.{between, in_range}

pub record Ranged (c : Capacities) : Type 0 where
  pub terms : (2 ≤ c.terms) × (c.terms ≤ 4096)
  pub types : (1 ≤ c.types) × (c.types ≤ 512)
  pub names : (2 ≤ c.names) × (c.names ≤ 1024)
  pub bytes : (9 ≤ c.bytes) × (c.bytes ≤ 16384)
  pub lists : (0 ≤ c.lists) × (c.lists ≤ 8192)
  pub rows : (0 ≤ c.rows) × (c.rows ≤ 200)

both : (low high n : ℕ) → between low high n ≡ true → (low ≤ n) × (n ≤ high)
both low high n e = let (a, b) = and_parts (leb low n) (leb n high) e in (leb-true low n a, leb-true n high b)

pub ranged : (c : Capacities) → in_range c ≡ true → Ranged c
unfolding in_range
ranged c e =
    let (a, r) = and_parts (between 2 4096 c.terms) _ e in
    let (b, s) = and_parts (between 1 512 c.types) _ r in
    let (d, t) = and_parts (between 2 1024 c.names) _ s in
    let (f, u) = and_parts (between 9 16384 c.bytes) _ t in
    let (g, h) = and_parts (between 0 8192 c.lists) (between 0 200 c.rows) u in
    record {
      terms = both 2 4096 c.terms a;
      types = both 1 512 c.types b;
      names = both 2 1024 c.names d;
      bytes = both 9 16384 c.bytes f;
      lists = both 0 8192 c.lists g;
      rows = both 0 200 c.rows h;
    }
