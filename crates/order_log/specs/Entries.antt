-- By node, the accesses that have their places and are not retired.
use Rattle.std.specs.Prelude.{ℕ, ◌+◌, ◌%◌, ◌<◌, ◌≤◌, ◌==◌, Bool, not, ◌&&◌, List, [], length, map, vec_len, vec_capacity, slice_index_or}
use Rattle.std.specs.List.{All, filter}
use Rattle.std.specs.declared.vec.Vec.{Vec}
use Rattle.order_log.specs.declared.span.Span.{Span}
use Rattle.order_log.specs.declared.waiting.Entry.{Entry}
use Rattle.order_log.specs.Spans.{includes}

-- the lists, and how many entries more each has room for
pub record ListsView : Type 0 where
  pub lists : List (List Entry)
  pub spare : ℕ

-- whether access i of a node is one of processor p's in the span
abbrev pub is_meant : ℕ → Span → ℕ → ℕ → Bool
is_meant p span node i = (node == p) && includes span i

-- without the entries of processor p in the span
abbrev pub without : ℕ → Span → List Entry → List Entry
without p span entries = filter (λ e. not (is_meant p span e.node.0 e.index)) entries

-- which list has the entries of a node: the nodes are dealt out to the lists
abbrev pub list_number : ℕ → List (List Entry) → ℕ
list_number node lists = node % length lists

-- that list
abbrev pub list_of : ℕ → List (List Entry) → List Entry
list_of node lists = slice_index_or lists (list_number node lists) []

module _ {X Z : Type 0} where
  abbrev pub items_of : List (Vec X Z) → List (List X)
  items_of lists = map (λ v. v.items) lists

  -- each list has room for n more
  abbrev pub HaveRoom : ℕ → List (Vec X Z) → Type 0
  HaveRoom n lists = All (λ v. vec_len v + n ≤ vec_capacity v) lists

  -- there is a list, and each has room for n more
  pub record AreRoomy (n : ℕ) (lists : List (Vec X Z)) : Type 0 where
    pub some : 0 < length lists
    pub room : HaveRoom n lists
