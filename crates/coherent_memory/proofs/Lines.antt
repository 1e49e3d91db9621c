-- Lines of two systems that are alike, and a system that has one message more than another.
use Rattle.std.proofs.Common.{◌≡◌, ℕ, Bool, true, false, cond, ◌&&◌, ◌==◌, List, [], ◌++◌, refl, sym, ap₂, ◌∙◌, subst}
use Rattle.memory_contracts.specs.Protocol.Alike.{IsAlike, AreAlike}
use Rattle.memory_contracts.specs.Protocol.Lines.{Cell, Copy, cell, stance, mailed, all_mailed, with_mail}
use Rattle.memory_contracts.specs.Protocol.Messages.{Message}
use Rattle.node_memory.specs.Nodes.{awaits, copy_of}
use Rattle.coherent_memory.specs.Systems.{System, alone, between, home_at, if_about, line_of}
use Rattle.coherent_memory.proofs.Alike.{AreReordered, AreReordered-sym, AreReordered-trans}
use Rattle.coherent_memory.proofs.Places.{eqb-refl}

-- ---- cells with nothing under way

abbrev pub stand : Copy → Bool → Cell
stand copy register = cell (stance copy register [] 0) []

pub cells_alike : {c d : Copy} {a b : Bool} {ms ks : List Message} → c ≡ d → a ≡ b → AreReordered ms ks → IsAlike (all_mailed ms (stand c a)) (all_mailed ks (stand d b))
cells_alike {c = c} {a = a} {ms = ms} {ks = ks} e f r = subst (λ z. IsAlike (all_mailed ms (stand c a)) (all_mailed ks z)) (ap₂ stand e f) (r.alike (stand c a))

-- ---- lines

-- the home and the nodes have the same of line l, and the same is said about it in some order
pub record IsSameLine (n l : ℕ) (s t : System) : Type 0 where
  pub records : (home_at n s l).records l ≡ (home_at n t l).records l
  pub copies : (x : ℕ) → copy_of (s.nodes x) l ≡ copy_of (t.nodes x) l
  pub registers : (x : ℕ) → awaits (s.nodes x) l ≡ awaits (t.nodes x) l
  pub messages : (x : ℕ) → AreReordered (between n s l x) (between n t l x)

pub same_alike : {n l : ℕ} {s t : System} → IsSameLine n l s t → AreAlike n (line_of n s l) (line_of n t l)
same_alike same = record {
  home = same.records;
  nodes = λ x below. cells_alike (same.copies x) (same.registers x) (same.messages x);
}

-- ---- one message more

-- s is r with the message m more, about line k between its home and node y
pub record HasMore (n k y : ℕ) (m : Message) (r s : System) : Type 0 where
  pub records : (l : ℕ) → (home_at n s l).records l ≡ (home_at n r l).records l
  pub copies : (l x : ℕ) → copy_of (s.nodes x) l ≡ copy_of (r.nodes x) l
  pub registers : (l x : ℕ) → awaits (s.nodes x) l ≡ awaits (r.nodes x) l
  pub messages : (l x : ℕ) → AreReordered (between n s l x) (if_about ((k == l) && (y == x)) m ++ between n r l x)

mailed_where : (b t : Bool) (m : Message) (ms : List Message) (c : Cell) → b ≡ true → all_mailed (if_about (b && t) m ++ ms) c ≡ cond t (mailed m (all_mailed ms c)) (all_mailed ms c)
mailed_where true true m ms c e = refl
mailed_where true false m ms c e = refl
mailed_where false t m ms c e = absurd cc

-- the line of the message, with it
pub more_at : {n k y : ℕ} {m : Message} {r s : System} → HasMore n k y m r s → AreAlike n (line_of n s k) (with_mail y m (line_of n r k))
more_at {n = n} {k = k} {y = y} {m = m} {r = r} {s = s} more = record {
  home = more.records k;
  nodes = λ x below.
      subst (λ d. IsAlike (all_mailed (between n s k x) (alone (s.nodes x) k)) d)
      (mailed_where (k == k) (y == x) m (between n r k x) (alone (r.nodes x) k) (eqb-refl k))
      (cells_alike (more.copies k x) (more.registers k x) (more.messages k x));
}

-- every other line
pub more_same : {n k y : ℕ} {m : Message} {r s : System} → HasMore n k y m r s → (l : ℕ) → (k == l) ≡ false → IsSameLine n l s r
more_same {n = n} {y = y} {m = m} {r = r} {s = s} more l other = record {
  records = more.records l;
  copies = more.copies l;
  registers = more.registers l;
  messages = λ x. subst (λ b. AreReordered (between n s l x) (if_about (b && (y == x)) m ++ between n r l x)) other (more.messages l x);
}

pub more_away : {n k y : ℕ} {m : Message} {r s : System} → HasMore n k y m r s → (l : ℕ) → (k == l) ≡ false → AreAlike n (line_of n s l) (line_of n r l)
more_away more l other = same_alike (more_same more l other)

-- the same message more: it was moved
pub moved : {n k y : ℕ} {m : Message} {r s t : System} → HasMore n k y m r s → HasMore n k y m r t → (l : ℕ) → IsSameLine n l s t
moved before after l = record {
  records = before.records l ∙ sym (after.records l);
  copies = λ x. before.copies l x ∙ sym (after.copies l x);
  registers = λ x. before.registers l x ∙ sym (after.registers l x);
  messages = λ x. AreReordered-trans (before.messages l x) (AreReordered-sym (after.messages l x));
}
