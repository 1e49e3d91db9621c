-- What a store of cache lines means: the bytes of memory, which lines each node has, and which it has asked for.
use Rattle.std.specs.Prelude.{◌≡◌, ℕ, zero, suc, ◌+◌, ◌-◌, ◌*◌, ◌/◌, ◌<◌, ◌≤◌, ◌==◌, ◌⊎◌, nat_lt, nat_le, Bool, true, not, ◌&&◌, ◌||◌, if◌then◌else◌, List, [], ◌∷◌, ◌++◌, length, Option, None, Some}
use Rattle.std.specs.List.{list_any}
use Rattle.rsim_base.specs.Bytes.{byte_of, count_of}
use Rattle.rsim_base.specs.declared.memory.Line.{Line}
use Rattle.rsim_base.specs.declared.memory.Node.{Node}
use Rattle.rsim_base.specs.declared.memory.Size.{Size}

-- a line that a node asks for, and whether it asks to own it
pub record Wish : Type 0 where
  pub line : ℕ
  pub own : Bool

pub record StoreView : Type 0 where
  -- memory: the byte at each address, and which addresses have one
  pub bytes : ℕ → ℕ
  pub mapped : ℕ → Bool
  -- by node and line: whether the node has a copy, may read it now, and may write it
  pub held : ℕ → ℕ → Bool
  pub near : ℕ → ℕ → Bool
  pub owned : ℕ → ℕ → Bool
  -- by node, the oldest first
  pub wishes : ℕ → List Wish
  pub nodes : ℕ
  pub line_bytes : ℕ
  pub ticks : ℕ

-- ---- memory

-- the line of an address
abbrev pub line_at : StoreView → ℕ → ℕ
line_at v a = a / v.line_bytes

-- the n bytes from address a on are mapped
abbrev pub AreMapped : StoreView → ℕ → ℕ → Type 0
AreMapped v a n = (k : ℕ) → k < n → v.mapped (a + k) ≡ true

-- some byte of the line is mapped
abbrev pub IsLineMapped : StoreView → ℕ → Type 0
IsLineMapped v line = (a : ℕ) × (v.mapped a ≡ true) × (line_at v a ≡ line)

-- the n bytes from address a on, as a big-endian number
abbrev pub value_at : (ℕ → ℕ) → ℕ → ℕ → ℕ
value_at bytes a zero = 0
value_at bytes a (suc n) = value_at bytes a n * 256 + bytes (a + n)

-- memory after an aligned value of n bytes was stored at a
abbrev pub stored : (ℕ → ℕ) → ℕ → ℕ → ℕ → ℕ → ℕ
stored bytes a n value b = if nat_le a b && nat_lt b (a + n) then byte_of value n (b - a) else bytes b

-- ---- what calls answer and leave

-- what node p reads: nothing where the line is not near
abbrev pub read_of : StoreView → ℕ → ℕ → ℕ → Option ℕ
read_of v p a n = if v.near p (line_at v a) then Some (value_at v.bytes a n) else None

-- after a write by node p: as before where the line is not owned
abbrev pub after_write : StoreView → ℕ → ℕ → ℕ → ℕ → StoreView
after_write v p a n value = if v.owned p (line_at v a) then record v { bytes = stored v.bytes a n value } else v

-- a node has at most so many wishes
abbrev pub most_wishes : ℕ
most_wishes = 16

-- a wish asks for at least this
abbrev pub covers : ℕ → Bool → Wish → Bool
covers line own wish = (wish.line == line) && (wish.own || not own)

abbrev pub is_covered : StoreView → ℕ → ℕ → Bool → Bool
is_covered v p line own = list_any (covers line own) (v.wishes p)

-- whether a wish is taken: one that another covers adds nothing
abbrev pub takes_wish : StoreView → ℕ → ℕ → Bool → Bool
takes_wish v p line own = is_covered v p line own || nat_lt (length (v.wishes p)) most_wishes

abbrev pub with_wish : StoreView → ℕ → Wish → StoreView
with_wish v p wish = record v { wishes = λ q. if q == p then v.wishes q ++ wish ∷ [] else v.wishes q }

abbrev pub after_wish : StoreView → ℕ → ℕ → Bool → StoreView
after_wish v p line own =
    if takes_wish v p line own && not (is_covered v p line own) then with_wish v p (record { line = line; own = own }) else v

-- ---- what stands behind a store

-- what a read, a write and a wish of a node make of it
pub record Effects (I : Type 0) : Type 0 where
  pub reading : ℕ → ℕ → Size → I → I
  pub writing : ℕ → ℕ → Size → ℕ → I → I
  pub wishing : ℕ → ℕ → Bool → I → I

-- nothing else does: a read changes nothing, a write memory, a wish the wishes
abbrev pub plain_effects : Effects StoreView
plain_effects = record {
  reading = λ p a n v. v;
  writing = λ p a n value v. after_write v p a (count_of n) value;
  wishing = λ p line own v. after_wish v p line own;
}

-- ---- a tick

-- node p and line l are among these
abbrev pub is_among : List (Node × Line) → ℕ → ℕ → Bool
is_among lost p l = list_any (λ x. (x.0.0 == p) && (x.1.0 == l)) lost

abbrev pub are_once : List (Node × Line) → Bool
are_once [] = true
are_once (x ∷ xs) = not (is_among xs x.0.0 x.1.0) && are_once xs

-- these are the lines that left the nodes that held them, each once
pub record AreLost (old new : StoreView) (lost : List (Node × Line)) : Type 0 where
  pub exactly : (p l : ℕ) → is_among lost p l ≡ (old.held p l && not (new.held p l))
  pub once : are_once lost ≡ true

-- the first list is the second without some of it
abbrev pub IsLeftOf : List Wish → List Wish → Type 0
IsLeftOf left [] = left ≡ []
IsLeftOf left (w ∷ ws) = IsLeftOf left ws ⊎ ((rest : List Wish) × (left ≡ w ∷ rest) × IsLeftOf rest ws)

-- lines have gone to nodes and from them, and wishes were taken off: memory is as before
pub record Ticks (old new : StoreView) (gone : List (Node × Line)) : Type 0 where
  pub same : new ≡ record old { held = new.held; near = new.near; owned = new.owned; wishes = new.wishes; ticks = old.ticks + 1 }
  pub lost : AreLost old new gone
  pub left : (p : ℕ) → IsLeftOf (new.wishes p) (old.wishes p)

-- ---- what is true of every store

-- What is near or owned is held; what a node owns no other holds; nobody else holds a line.
pub record IsSound (v : StoreView) : Type 0 where
  pub within : (p l : ℕ) → v.held p l ≡ true → p < v.nodes
  pub near : (p l : ℕ) → v.near p l ≡ true → v.held p l ≡ true
  pub owned : (p l : ℕ) → v.owned p l ≡ true → v.held p l ≡ true
  pub alone : (p q l : ℕ) → v.owned p l ≡ true → v.held q l ≡ true → q ≡ p
  pub few : (p : ℕ) → length (v.wishes p) ≤ most_wishes
  pub small : (a : ℕ) → v.bytes a < 256
