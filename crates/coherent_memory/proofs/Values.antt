-- What a node reads is the content of memory.
use Rattle.std.proofs.Common.{◌≡◌, ℕ, zero, suc, ◌+◌, ◌*◌, ◌/◌, ◌%◌, ◌<◌, Bool, true, List, [], ◌∷◌, cond, slice_index, refl, sym, ap, ◌∙◌, arith}
use Rattle.rsim_base.specs.Bytes.{count_of}
use Rattle.rsim_base.specs.declared.memory.Size.{Size}
use Rattle.memory_contracts.specs.Protocol.Coherent.{Coherent}
use Rattle.memory_contracts.specs.Protocol.Content.{bytes_of}
use Rattle.memory_contracts.specs.Protocol.Laws.{OwnedHasContent, SharedHasContent}
use Rattle.memory_contracts.specs.Protocol.Lines.{Cell, Copy, Absent, Shared, Owned, Evicting, Emptied, LineState, all_mailed, cell, mailed, stance}
use Rattle.memory_contracts.specs.Protocol.Messages.{Message, GetS, GetM, Put, Inv, Recall, Grant, PutAck, InvAck, RecallAck, Done}
use Rattle.memory_contracts.specs.Protocol.NodeTable.{is_held}
use Rattle.memory_contracts.specs.Store.{value_at}
use Rattle.cache_levels.specs.Sizes.{IsLineSize}
use Rattle.node_memory.specs.Nodes.{byte_in, copy_of}
use Rattle.coherent_memory.specs.SystemInvariants.{IsFine}
use Rattle.coherent_memory.specs.Lost.{holds}
use Rattle.coherent_memory.specs.Stores.{Shape, byte_at}
use Rattle.coherent_memory.specs.Systems.{System, between, content, is_kept, line_of}
use Rattle.coherent_memory.proofs.Addresses.{same_line}

-- messages leave the copy of a cell
mailed-copy : (m : Message) (c : Cell) → (mailed m c).stance.copy ≡ c.stance.copy
mailed-copy GetS c = refl
mailed-copy GetM c = refl
mailed-copy (Put bytes) c = refl
mailed-copy Inv c = refl
mailed-copy (Recall own) c = refl
mailed-copy (Grant own bytes) c = refl
mailed-copy PutAck c = refl
mailed-copy InvAck c = refl
mailed-copy (RecallAck kept bytes) c = refl
mailed-copy Done c = refl

all_mailed-copy : (ms : List Message) (c : Cell) → (all_mailed ms c).stance.copy ≡ c.stance.copy
all_mailed-copy [] c = refl
all_mailed-copy (m ∷ ms) c = mailed-copy m (all_mailed ms c) ∙ all_mailed-copy ms c

pub line_of-copy : (n : ℕ) (s : System) (l x : ℕ) → ((line_of n s l).at x).stance.copy ≡ copy_of (s.nodes x) l
line_of-copy n s l x = all_mailed-copy (between n s l x) (cell (stance (copy_of (s.nodes x) l) _ [] 0) [])

-- a copy that is held has the content of its line
held-content : SharedHasContent → OwnedHasContent → (n : ℕ) (g : List ℕ) (l : LineState) (x : ℕ) (copy : Copy) → Coherent n g l → x < n → (l.at x).stance.copy ≡ copy → is_held copy ≡ true → bytes_of copy ≡ g
held-content shared owned n g l x Absent coherent below is held = absurd cc
held-content shared owned n g l x (Shared bytes) coherent below is held = shared n g bytes l x coherent below is
held-content shared owned n g l x (Owned bytes) coherent below is held = owned n g bytes l x coherent below is
held-content shared owned n g l x (Evicting bytes) coherent below is held = absurd cc
held-content shared owned n g l x Emptied coherent below is held = absurd cc

pub held_has-content : SharedHasContent → OwnedHasContent → (n : ℕ) (s : System) (p l : ℕ) → IsFine n s → p < n → holds s p l ≡ true → bytes_of (copy_of (s.nodes p) l) ≡ content n s l
held_has-content shared owned n s p l fine below held =
    let kept = (fine.right.nodes p below).copies l held in
    held-content shared owned n (content n s l) (line_of n s l) p (copy_of (s.nodes p) l) (fine.lines l kept) below (line_of-copy n s l p) held

-- the byte at an address, where its line is kept
pub byte_at-kept : (shape : Shape) (s : System) (b : ℕ) → is_kept shape.nodes s (b / shape.line_bytes) ≡ true → byte_at shape s b ≡ slice_index (content shape.nodes s (b / shape.line_bytes)) (b % shape.line_bytes)
byte_at-kept shape s b kept =
    ap (λ (k : Bool). cond k (slice_index (content shape.nodes s (b / shape.line_bytes)) (b % shape.line_bytes)) 0) kept

-- values that agree in each byte
pub value_at-same : (f g : ℕ → ℕ) (a n : ℕ) → ((k : ℕ) → k < n → f (a + k) ≡ g (a + k)) → value_at f a n ≡ value_at g a n
value_at-same f g a zero same = refl
value_at-same f g a (suc n) same =
    ap (λ (v : ℕ). v * 256 + f (a + n)) (value_at-same f g a n (λ k below. same k (omega (arith, below))))
    ∙ ap (λ (b : ℕ). value_at g a n * 256 + b) (same n (omega arith))

-- what node p has of a line that it holds is memory
pub held-value : SharedHasContent → OwnedHasContent → (shape : Shape) (s : System) (p a : ℕ) (n : Size) →
    IsFine shape.nodes s → p < shape.nodes → IsLineSize shape.line_bytes → (s.nodes p).levels.line_bytes ≡ shape.line_bytes → a % count_of n ≡ 0 →
    holds s p (a / shape.line_bytes) ≡ true → value_at (byte_in (s.nodes p)) a (count_of n) ≡ value_at (byte_at shape s) a (count_of n)
held-value shared owned shape s p a n fine below size bytes aligned held = value_at-same (byte_in (s.nodes p)) (byte_at shape s) a (count_of n) each
  where
    each : (k : ℕ) → k < count_of n → byte_in (s.nodes p) (a + k) ≡ byte_at shape s (a + k)
    each k under =
        let line : (a + k) / shape.line_bytes ≡ a / shape.line_bytes = same_line shape.line_bytes a n size aligned k under in
        let held_here : holds s p ((a + k) / shape.line_bytes) ≡ true = ap (holds s p) line ∙ held in
        let kept = (fine.right.nodes p below).copies ((a + k) / shape.line_bytes) held_here in
        ap (λ (w : ℕ). slice_index (bytes_of (copy_of (s.nodes p) ((a + k) / w))) ((a + k) % w)) bytes
        ∙ ap (λ (bs : List ℕ). slice_index bs ((a + k) % shape.line_bytes)) (held_has-content shared owned shape.nodes s p ((a + k) / shape.line_bytes) fine below held_here)
        ∙ sym (byte_at-kept shape s (a + k) kept)
