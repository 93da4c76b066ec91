use Rattle.std.proofs.Common.{◌≡◌, ◌++◌, take, vec_items, vec_capacity}
use Rattle.tables.proofs.cells.Cells.extend.Given as goal

-- the cells so far are behind, in the same memory
abbrev pub invariant-loop-cell : goal.invariant-loop-cell
invariant-loop-cell g l = record {
  held : vec_items l.self.held ≡ vec_items l.initial.self.held ++ take l.cell-index l.cells;
  capacity : l.self.capacity ≡ l.initial.self.capacity;
  room : vec_capacity l.self.held ≡ vec_capacity l.initial.self.held;
}
