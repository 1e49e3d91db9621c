-- A line as it is where one node has another side, and what a side that changes at one line does to it.
use Rattle.std.proofs.Common.{◌≡◌, ℕ, ◌%◌, ◌==◌, Bool, true, false, cond, List, [], ◌∷◌, ◌++◌, map, refl, sym, ap, subst, ◌∙◌}
use Rattle.std.specs.List.{flat_map}
use Rattle.std.proofs.lemmas.Bool.{eqb-true, eq-eqb}
use Rattle.memory_contracts.specs.Protocol.Alike.{AreAlike, IsAlike}
use Rattle.memory_contracts.specs.Protocol.Coherent.{Coherent}
use Rattle.memory_contracts.specs.Protocol.Lines.{Cell, Copy, LineState, Stance, all_mailed, cell, mailed, with_cell, with_stance}
use Rattle.memory_contracts.specs.Protocol.Messages.{Message, GetS, GetM, Put, PutAck}
use Rattle.memory_contracts.specs.Letters.{Mail}
use Rattle.node_memory.specs.Nodes.{NodeView}
use Rattle.node_memory.specs.Sides.{Side, side_of}
use Rattle.coherent_memory.specs.Systems.{System, alone, home_at, line_of, of_mail}
use Rattle.coherent_memory.specs.Turns.{with_node}
use Rattle.coherent_memory.proofs.Adding.{between_in, more_to_ask, to_be_sent, under_way, waiting_for}
use Rattle.coherent_memory.proofs.Alike.{AreReordered, AreReordered-same, AreReordered-sym, AreReordered-trans, IsAlike-refl, all_mailed-append, all_mailed-copy, all_mailed-register}
use Rattle.coherent_memory.proofs.Keeping.{ProtocolLaws}
use Rattle.coherent_memory.proofs.Lines.{cells_alike, stand}
use Rattle.coherent_memory.proofs.Places.{eqb-refl, eqb-sym, joined_all, with_at-both}

-- ---- a cell where the node has another copy and another register

abbrev pub standing : Copy → Bool → Cell → Cell
standing copy register c = cell (record c.stance { copy = copy; register = register }) c.words

standing-mailed : (m : Message) (copy : Copy) (register : Bool) (c : Cell) → mailed m (standing copy register c) ≡ standing copy register (mailed m c)
standing-mailed GetS copy register c = refl
standing-mailed GetM copy register c = refl
standing-mailed (Put bytes) copy register c = refl
standing-mailed PutAck copy register c = refl
standing-mailed m copy register c = refl

standing-all : (ms : List Message) (copy : Copy) (register : Bool) (c : Cell) → all_mailed ms (standing copy register c) ≡ standing copy register (all_mailed ms c)
standing-all [] copy register c = refl
standing-all (m ∷ ms) copy register c = ap (mailed m) (standing-all ms copy register c) ∙ standing-mailed m copy register (all_mailed ms c)

-- ---- a line where node x has another cell

pub cell-at : (x : ℕ) (c : Cell) (l : LineState) → (with_cell x c l).at x ≡ c
cell-at x c l = ap (λ b. cond b c (l.at x)) (eqb-refl x)

pub cell-twice : (x : ℕ) (c d : Cell) (l : LineState) → with_cell x d (with_cell x c l) ≡ with_cell x d l
cell-twice x c d l = λ i. record { home = l.home; at = λ y. by (x == y) (l.at y) i }
  where
    by : (b : Bool) (e : Cell) → cond b d (cond b c e) ≡ cond b d e
    by true e = refl
    by false e = refl

pub cell-same : (x : ℕ) (l : LineState) → with_cell x (l.at x) l ≡ l
cell-same x l = λ i. record { home = l.home; at = λ y. by y (x == y) refl i }
  where
    by : (y : ℕ) (b : Bool) → (x == y) ≡ b → cond b (l.at x) (l.at y) ≡ l.at y
    by y true e = ap l.at (eqb-true x y e)
    by y false e = refl

-- where it stands otherwise than in the cell that it had
pub stance-at : (x : ℕ) (f : Stance → Stance) (c : Cell) (l : LineState) → with_stance x (f ((with_cell x c l).at x).stance) (with_cell x c l) ≡ with_cell x (cell (f c.stance) c.words) l
stance-at x f c l =
    ap (λ (d : Cell). with_cell x (cell (f d.stance) d.words) (with_cell x c l)) (cell-at x c l) ∙ cell-twice x c (cell (f c.stance) c.words) l

-- ---- a line where node p has another side

abbrev pub said_between : ℕ → System → ℕ → List Mail → ℕ → List Message
said_between n s p outbox l =
    to_be_sent l p (home_at n s l) ++ (under_way l p s.carrier.flights ++ (flat_map (of_mail l) outbox ++ waiting_for l p (home_at n s l)))

abbrev pub side_cell : ℕ → System → ℕ → Side → ℕ → Cell
side_cell n s p a l = all_mailed (said_between n s p a.outbox l) (stand (a.copies l) (a.registers l))

pub copy-there : (n : ℕ) (s : System) (p : ℕ) (a : Side) (l : ℕ) → (side_cell n s p a l).stance.copy ≡ a.copies l
copy-there n s p a l = all_mailed-copy (said_between n s p a.outbox l) (stand (a.copies l) (a.registers l))

pub register-there : (n : ℕ) (s : System) (p : ℕ) (a : Side) (l : ℕ) → (side_cell n s p a l).stance.register ≡ a.registers l
register-there n s p a l = all_mailed-register (said_between n s p a.outbox l) (stand (a.copies l) (a.registers l))

abbrev pub seen : ℕ → System → ℕ → Side → ℕ → LineState
seen n s p a l = with_cell p (side_cell n s p a l) (line_of n s l)

-- its own side
pub seen-own : (n : ℕ) (s : System) (p l : ℕ) → seen n s p (side_of (s.nodes p)) l ≡ line_of n s l
seen-own n s p l = cell-same p (line_of n s l)

-- that of another view
pub seen-other : (n : ℕ) (s : System) (p : ℕ) (v : NodeView) (l : ℕ) → seen n s p (side_of v) l ≡ line_of n (with_node p v s) l
seen-other n s p v l = λ i. record { home = (line_of n s l).home; at = λ x. by x i }
  where
    here : (x : ℕ) (b : Bool) → b ≡ true → p ≡ x → cond b (side_cell n s p (side_of v) l) ((line_of n s l).at x) ≡ all_mailed (between_in l x (home_at n s l) s.carrier.flights v) (alone v l)
    here x b e same = ap (λ b. cond b (side_cell n s p (side_of v) l) ((line_of n s l).at x)) e ∙ ap (λ y. all_mailed (between_in l y (home_at n s l) s.carrier.flights v) (alone v l)) same

    by : (x : ℕ) → (seen n s p (side_of v) l).at x ≡ (line_of n (with_node p v s) l).at x
    by x = with_at-both (λ w. (seen n s p (side_of v) l).at x ≡ all_mailed (between_in l x (home_at n s l) s.carrier.flights w) (alone w l)) s.nodes p v x
        (λ same. here x (p == x) (eq-eqb p x (sym same)) (sym same))
        (λ other. ap (λ b. cond b (side_cell n s p (side_of v) l) ((line_of n s l).at x)) (eqb-sym x p false other))

-- ---- a side that changes at line k: it has this copy and register there, and more to send

abbrev pub mails : ℕ → ℕ → List Message → List Mail
mails k to ms = map (λ m. record { line = k; to = to; message = m }) ms

pub record ChangesAt (k : ℕ) (ms : List Message) (copy : Copy) (register : Bool) (a b : Side) : Type 0 where
  pub there_copy : b.copies k ≡ copy
  pub there_register : b.registers k ≡ register
  pub copies : (l : ℕ) → (l == k) ≡ false → b.copies l ≡ a.copies l
  pub registers : (l : ℕ) → (l == k) ≡ false → b.registers l ≡ a.registers l
  pub outbox : b.outbox ≡ a.outbox ++ mails k (k % a.nodes) ms

about-mails : (k to l : ℕ) (ms : List Message) (b : Bool) → (k == l) ≡ b → flat_map (of_mail l) (mails k to ms) ≡ cond b ms []
about-mails k to l [] true e = refl
about-mails k to l [] false e = refl
about-mails k to l (m ∷ ms) true e = ap (λ b. cond b (m ∷ []) [] ++ flat_map (of_mail l) (mails k to ms)) e ∙ ap (λ ks. m ∷ ks) (about-mails k to l ms true e)
about-mails k to l (m ∷ ms) false e = ap (λ b. cond b (m ∷ []) [] ++ flat_map (of_mail l) (mails k to ms)) e ∙ about-mails k to l ms false e

module _ (n p : ℕ) (s : System) (k : ℕ) (ms : List Message) (copy : Copy) (register : Bool) (a b : Side) (changes : ChangesAt k ms copy register a b) where
  more-said : (l : ℕ) (t : Bool) → (k == l) ≡ t → AreReordered (said_between n s p b.outbox l) (cond t ms [] ++ said_between n s p a.outbox l)
  more-said l t e = more_to_ask
      (to_be_sent l p (home_at n s l))
      (under_way l p s.carrier.flights)
      (flat_map (of_mail l) b.outbox)
      (flat_map (of_mail l) a.outbox)
      (waiting_for l p (home_at n s l))
      (cond t ms [])
      (AreReordered-trans (AreReordered-same (ap (flat_map (of_mail l)) changes.outbox))
      (AreReordered-trans (joined_all (of_mail l) a.outbox (mails k (k % a.nodes) ms))
      (AreReordered-same (ap (λ ks. ks ++ flat_map (of_mail l) a.outbox) (about-mails k (k % a.nodes) l ms t e)))))

  after-said : all_mailed (ms ++ said_between n s p a.outbox k) (stand copy register) ≡ all_mailed ms (standing copy register (side_cell n s p a k))
  after-said =
      all_mailed-append ms (said_between n s p a.outbox k) (stand copy register)
      ∙ ap (all_mailed ms) (standing-all (said_between n s p a.outbox k) copy register (stand (a.copies k) (a.registers k)))

  at-node : (x : ℕ) (t : Bool) (c d e : Cell) → IsAlike c d → IsAlike (cond t c e) (cond t d e)
  at-node x true c d e alike = alike
  at-node x false c d e alike = IsAlike-refl e

  -- line k has what is to be sent more, and the node stands there as the side does
  pub changes-there : AreAlike n (with_cell p (all_mailed ms (standing copy register (side_cell n s p a k))) (line_of n s k)) (seen n s p b k)
  changes-there = record {
    home = refl;
    nodes = λ x below. at-node x (p == x) (all_mailed ms (standing copy register (side_cell n s p a k))) (side_cell n s p b k) ((line_of n s k).at x)
        (subst (λ c. IsAlike c (side_cell n s p b k)) after-said
        (cells_alike (sym changes.there_copy) (sym changes.there_register) (AreReordered-sym (more-said k true (eqb-refl k)))));
  }

  -- every other line is as before
  pub changes-away : (l : ℕ) → (l == k) ≡ false → AreAlike n (seen n s p a l) (seen n s p b l)
  changes-away l other = record {
    home = refl;
    nodes = λ x below. at-node x (p == x) (side_cell n s p a l) (side_cell n s p b l) ((line_of n s l).at x)
        (cells_alike (sym (changes.copies l other)) (sym (changes.registers l other)) (AreReordered-sym (more-said l false (eqb-sym l k false other))));
  }

-- where line k stays coherent, all do
pub side-step : ProtocolLaws → (n p : ℕ) (s : System) (k : ℕ) (ms : List Message) (copy : Copy) (register : Bool) (a b : Side) → ChangesAt k ms copy register a b
    → ((g : List ℕ) → Coherent n g (seen n s p a k) → Coherent n g (with_cell p (all_mailed ms (standing copy register (side_cell n s p a k))) (line_of n s k)))
    → (l : ℕ) (g : List ℕ) → Coherent n g (seen n s p a l) → Coherent n g (seen n s p b l)
side-step laws n p s k ms copy register a b changes there l g co = by (l == k) refl
  where
    by : (t : Bool) → (l == k) ≡ t → Coherent n g (seen n s p b l)
    by true e =
        let same = eqb-true l k e in
        subst (λ x. Coherent n g (seen n s p b x)) (sym same)
        (laws.order n g _ _ (changes-there n p s k ms copy register a b changes) (there g (subst (λ x. Coherent n g (seen n s p a x)) same co)))
    by false e = laws.order n g _ _ (changes-away n p s k ms copy register a b changes l e) co
