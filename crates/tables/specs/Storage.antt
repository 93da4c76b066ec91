-- How the tables of the code hold what they hold.
use Rattle.std.specs.Prelude.{◌≡◌, ℕ, ◌+◌, ◌≤◌, true, map, length, vec_items}
use Rattle.std.specs.List.{list_all}
use Rattle.tables.specs.declared.storage.Tables.TheInside.{Inside}
use Rattle.tables.specs.Spans.{part, with_fields, within, record_within, lists_within}
use Rattle.tables.specs.Terms.{with_lists, with_term}
use Rattle.tables.specs.Contents.{Contents}

-- How many list cells are in use.
abbrev pub lists_in : Inside → ℕ
lists_in t = length (vec_items t.fields.held) + (length (vec_items t.elements.held) + (length (vec_items t.attributes.held) + length (vec_items t.patterns.held)))

-- What they hold: the bytes of a name and the lists of types and terms lie at spans of the bytes and of the list cells.
abbrev pub contents : Inside → Contents
contents t =
    record {
      terms = map (with_term (with_lists (part (vec_items t.elements.held)) (part (vec_items t.attributes.held)) (part (vec_items t.patterns.held)))) (vec_items t.terms.held);
      types = map (with_fields (part (vec_items t.fields.held))) (vec_items t.types.held);
      names = map (part (vec_items t.bytes.held)) (vec_items t.names.held);
      bytes = length (vec_items t.bytes.held);
      lists = lists_in t;
      capacities = record {
        terms = t.terms.capacity;
        types = t.types.capacity;
        names = t.names.capacity;
        bytes = t.bytes.capacity;
        lists = t.fields.capacity;
        rows = t.rows;
      };
    }

-- Each span lies within the cells that it is a span of, and the list cells fit the one capacity that they share.
pub record IsStorage (t : Inside) : Type 0 where
  pub named : list_all (within (length (vec_items t.bytes.held))) (vec_items t.names.held) ≡ true
  pub listed : list_all (record_within (length (vec_items t.fields.held))) (vec_items t.types.held) ≡ true
  pub termed : list_all (λ e. lists_within (length (vec_items t.elements.held)) (length (vec_items t.attributes.held)) (length (vec_items t.patterns.held)) e.term) (vec_items t.terms.held) ≡ true
  pub shared : lists_in t ≤ t.fields.capacity
  pub elements : t.elements.capacity ≡ t.fields.capacity
  pub attributes : t.attributes.capacity ≡ t.fields.capacity
  pub patterns : t.patterns.capacity ≡ t.fields.capacity
