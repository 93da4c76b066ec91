-- The capacities that a workbench may be opened with.
use Rattle.std.specs.Prelude.{ℕ, ◌≤◌, Bool, ◌&&◌, nat_le}
use Rattle.tables.specs.declared.capacities.Capacities.{Capacities}

-- The number n lies between a lowest and a highest one.
abbrev pub between : ℕ → ℕ → ℕ → Bool
between low high n = nat_le low n && nat_le n high

-- Each capacity lies in its range.
unfoldable pub in_range : Capacities → Bool
in_range c =
    between 2 4096 c.terms
    && (between 1 512 c.types
    && (between 2 1024 c.names
    && (between 9 16384 c.bytes
    && (between 0 8192 c.lists && between 0 200 c.rows))))

-- No capacity of the first is above that of the second.
abbrev pub Smaller : Capacities → Capacities → Type 0
Smaller c d =
    (c.terms ≤ d.terms) × (c.types ≤ d.types) × (c.names ≤ d.names)
    × (c.bytes ≤ d.bytes) × (c.lists ≤ d.lists) × (c.rows ≤ d.rows)

-- The capacities of the tables that hold cells are at most what they may be.
pub record IsLimited (c : Capacities) : Type 0 where
  pub terms : c.terms ≤ 4096
  pub types : c.types ≤ 512
  pub names : c.names ≤ 1024
  pub bytes : c.bytes ≤ 16384
  pub lists : c.lists ≤ 8192
