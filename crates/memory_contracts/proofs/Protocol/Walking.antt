-- A walk written out scene by scene is checked by computing each step.
use Rattle.std.proofs.Common.{◌≡◌, ℕ, zero, suc, ◌-◌, ◌<◌, ◌==◌, Bool, true, false, cond, ◌&&◌, List, [], ◌∷◌, ◌++◌, length, get_or, set, drop, refl, sym, ap, ◌∙◌, arith}
use Rattle.std.proofs.lemmas.Bool.{eqb-true, eqb-false}
use Rattle.std.proofs.lemmas.Bool.Decides.{nat_tests}
use Rattle.std.proofs.lemmas.List.{length-set, get_or-set_same, get_or-set_other, get_or_past}
use Rattle.machine_config.specs.declared.config.Protocol.{Protocol}
use Rattle.memory_contracts.specs.Protocol.Messages.{Message, GetS, GetM, Put, PutAck}
use Rattle.memory_contracts.specs.Protocol.Lines.{Owned, Cell, cell, LineState, mailed, all_mailed, with_mail, with_cell}
use Rattle.memory_contracts.specs.Protocol.HomeTable.{HomeStep, after_step, home_takes, to_one}
use Rattle.memory_contracts.specs.Protocol.NodeTable.{after_message, after_start, after_eviction, after_write, may_start, is_held}
use Rattle.memory_contracts.specs.Protocol.Events.{Event, HomeTakes, NodeTakes, Starts, Evicts, Reads, Writes, Leads, Moment, is_to_home, is_to_node}
use Rattle.memory_contracts.specs.Protocol.Walks.{Scene, Step, LeadsAlong, absent, moment_of}

-- ---- scenes

abbrev line_of : Scene → LineState
line_of s = (moment_of s).line

abbrev node_of : Scene → ℕ → Cell
node_of s x = get_or s.nodes x absent

-- the scene with another cell at node x
abbrev placed : ℕ → Cell → Scene → Scene
placed x c s = record s { nodes = set s.nodes x c }

-- a cell without a message that came last
abbrev unmailed : Message → Cell → Cell
unmailed GetS c = cell (record c.stance { asked = drop 1 c.stance.asked }) c.words
unmailed GetM c = cell (record c.stance { asked = drop 1 c.stance.asked }) c.words
unmailed (Put bytes) c = cell (record c.stance { asked = drop 1 c.stance.asked }) c.words
unmailed PutAck c = cell (record c.stance { acks = c.stance.acks - 1 }) c.words
unmailed m c = cell c.stance (drop 1 c.words)

-- the scene without the message that is taken
abbrev without : ℕ → Message → Scene → Scene
without x m s = placed x (unmailed m (node_of s x)) s

abbrev served : HomeStep → ℕ → Message → Scene → ℕ → Cell
served step x m s y = all_mailed (step.sent y) (cond (step.waits && (x == y)) (mailed m (node_of s y)) (node_of s y))

-- the scene after the home did this
abbrev after_home_in : HomeStep → ℕ → Message → Scene → Scene
after_home_in step x m s = record { content = s.content; home = step.after; nodes = served step x m s 0 ∷ served step x m s 1 ∷ served step x m s 2 ∷ [] }

-- ---- what is computed for a step

-- nothing is sent to other nodes than the three
abbrev pub SendsToNoOther : (ℕ → List Message) → Type 0
SendsToNoOther sent = (y : ℕ) → sent (suc (suc (suc y))) ≡ []

abbrev pub IsStep : Protocol → Event → Scene → Scene → Type 0
IsStep protocol (HomeTakes x m) s t =
    (x < 3)
    × (is_to_home m ≡ true)
    × (node_of s x ≡ mailed m (unmailed m (node_of s x)))
    × (t ≡ after_home_in (home_takes protocol 3 x m s.home) x m (without x m s))
    × SendsToNoOther (home_takes protocol 3 x m s.home).sent
IsStep protocol (NodeTakes x m) s t =
    (x < 3)
    × (is_to_node m ≡ true)
    × (node_of s x ≡ mailed m (unmailed m (node_of s x)))
    × (t ≡ placed x (after_message m (unmailed m (node_of s x))) s)
IsStep protocol (Starts x own) s t =
    (x < 3)
    × (may_start own (node_of s x).stance.copy ≡ true)
    × ((node_of s x).stance.register ≡ false)
    × (t ≡ placed x (cell (after_start own (node_of s x).stance) (node_of s x).words) s)
IsStep protocol (Evicts x) s t = (x < 3) × (t ≡ placed x (cell (after_eviction (node_of s x).stance) (node_of s x).words) s)
IsStep protocol (Reads x) s t = (x < 3) × (is_held (node_of s x).stance.copy ≡ true) × (t ≡ s)
IsStep protocol (Writes x change) s t =
    (x < 3)
    × (bytes : List ℕ)
    × ((node_of s x).stance.copy ≡ Owned bytes)
    × (t ≡ record { content = change s.content; home = s.home; nodes = set s.nodes x (cell (after_write (change bytes) (node_of s x).stance) (node_of s x).words) })

abbrev pub AreSteps : Protocol → Scene → List Step → Type 0
AreSteps protocol s [] = Unit {0}
AreSteps protocol s (t ∷ ts) = (length s.nodes ≡ 3) × IsStep protocol t.event s t.after × AreSteps protocol t.after ts

-- ---- that is what the events lead to

node-placed : (nodes : List Cell) (x y : ℕ) (c : Cell) → x < length nodes → get_or (set nodes x c) y absent ≡ cond (x == y) c (get_or nodes y absent)
node-placed nodes x y c known = by (x == y) refl
  where
    by : (t : Bool) → (x == y) ≡ t → get_or (set nodes x c) y absent ≡ cond t c (get_or nodes y absent)
    by true is = ap (λ z. get_or (set nodes x c) z absent) (sym (eqb-true x y is)) ∙ get_or-set_same nodes x c absent known
    by false other = get_or-set_other nodes x y c absent (λ same. eqb-false x y other (sym same))

line-placed : (s : Scene) (x : ℕ) (c : Cell) → x < length s.nodes → line_of (placed x c s) ≡ with_cell x c (line_of s)
line-placed s x c known = λ i. record { home = s.home; at = λ y. node-placed s.nodes x y c known i }

-- a cell put in place twice
node-placed-twice : (nodes : List Cell) (x y : ℕ) (c d : Cell) → x < length nodes → cond (x == y) c (get_or (set nodes x d) y absent) ≡ cond (x == y) c (get_or nodes y absent)
node-placed-twice nodes x y c d known = ap (λ e. cond (x == y) c e) (node-placed nodes x y d known) ∙ by (x == y)
  where
    by : (t : Bool) → cond t c (cond t d (get_or nodes y absent)) ≡ cond t c (get_or nodes y absent)
    by true = refl
    by false = refl

-- the scene without the message, and the message beside it
line-without : (s : Scene) (x : ℕ) (m : Message) → x < length s.nodes → node_of s x ≡ mailed m (unmailed m (node_of s x)) → line_of s ≡ with_mail x m (line_of (without x m s))
line-without s x m known is = λ i. record { home = s.home; at = λ y. at y (x == y) refl i }
  where
    d : Cell
    d = unmailed m (node_of s x)

    at : (y : ℕ) (t : Bool) → (x == y) ≡ t → get_or s.nodes y absent ≡ cond t (mailed m (get_or (set s.nodes x d) y absent)) (get_or (set s.nodes x d) y absent)
    at y true same =
        ap (λ z. get_or s.nodes z absent) (sym (eqb-true x y same))
        ∙ is
        ∙ ap (mailed m) (sym (get_or-set_same s.nodes x d absent known))
        ∙ ap (λ z. mailed m (get_or (set s.nodes x d) z absent)) (eqb-true x y same)
    at y false other = sym (get_or-set_other s.nodes x y d absent (λ same. eqb-false x y other (sym same)))

pub other_node : (x y : ℕ) → x < 3 → (x == suc (suc (suc y))) ≡ false
other_node x y below = grind (arith, nat_tests, below)

pub and-false : (b : Bool) → (b && false) ≡ false
and-false true = refl
and-false false = refl

line-home : (step : HomeStep) (x : ℕ) (m : Message) (s : Scene) → x < 3 → length s.nodes ≡ 3 → SendsToNoOther step.sent → line_of (after_home_in step x m s) ≡ after_step step x m (line_of s)
line-home step x m s below three few = λ i. record { home = step.after; at = λ y. at y i }
  where
    at : (y : ℕ) → get_or (served step x m s 0 ∷ served step x m s 1 ∷ served step x m s 2 ∷ []) y absent ≡ served step x m s y
    at zero = refl
    at (suc zero) = refl
    at (suc (suc zero)) = refl
    at (suc (suc (suc y))) =
        let z = suc (suc (suc y)) in
        let past : get_or s.nodes z absent ≡ absent = get_or_past s.nodes z absent (omega (arith, three)) in
        sym (ap (λ ms. all_mailed ms (cond (step.waits && (x == z)) (mailed m (node_of s z)) (node_of s z))) (few y)
        ∙ ap (λ t. cond (step.waits && t) (mailed m (node_of s z)) (node_of s z)) (other_node x y below)
        ∙ ap (λ t. cond t (mailed m (node_of s z)) (node_of s z)) (and-false step.waits)
        ∙ past)

-- a moment of which the line is written otherwise
moment-same : (content other : List ℕ) (l k : LineState) → content ≡ other → l ≡ k → ◌≡◌ {A = Moment} (record { content = content; line = l }) (record { content = other; line = k })
moment-same content other l k e f = λ i. record { content = e i; line = f i }

step-leads : (protocol : Protocol) (e : Event) (s t : Scene) → length s.nodes ≡ 3 → IsStep protocol e s t → Leads protocol 3 e (moment_of s) (moment_of t)
step-leads protocol (HomeTakes x m) s t three (below, up, stands, is, few) =
    let known : x < length s.nodes = omega (arith, below, three) in
    let rest = without x m s in
    let long : length rest.nodes ≡ 3 = length-set s.nodes x (unmailed m (node_of s x)) ∙ three in (
      line_of rest,
      below,
      up,
      line-without s x m known stands,
      ap moment_of is ∙ moment-same s.content s.content _ _ refl (line-home (home_takes protocol 3 x m s.home) x m rest below long few),
    )
step-leads protocol (NodeTakes x m) s t three (below, down, stands, is) =
    let known : x < length s.nodes = omega (arith, below, three) in
    let rest = without x m s in
    let c = after_message m (unmailed m (node_of s x)) in
    let node : node_of rest x ≡ unmailed m (node_of s x) = get_or-set_same s.nodes x (unmailed m (node_of s x)) absent known in
    let line : line_of (placed x c s) ≡ with_cell x c (line_of rest) =
    λ i. record { home = s.home; at = λ y. (node-placed s.nodes x y c known ∙ sym (node-placed-twice s.nodes x y c (unmailed m (node_of s x)) known)) i } in (
      line_of rest,
      below,
      down,
      line-without s x m known stands,
      ap moment_of is ∙ moment-same s.content s.content _ _ refl (line ∙ ap (λ d. with_cell x (after_message m d) (line_of rest)) (sym node)),
    )
step-leads protocol (Starts x own) s t three (below, may, shut, is) =
    let known : x < length s.nodes = omega (arith, below, three) in
    (below, may, shut, ap moment_of is ∙ moment-same s.content s.content _ _ refl (line-placed s x _ known))
step-leads protocol (Evicts x) s t three (below, is) =
    let known : x < length s.nodes = omega (arith, below, three) in
    (below, ap moment_of is ∙ moment-same s.content s.content _ _ refl (line-placed s x _ known))
step-leads protocol (Reads x) s t three (below, held, is) = (below, held, ap moment_of is)
step-leads protocol (Writes x change) s t three (below, bytes, owned, is) =
    let known : x < length s.nodes = omega (arith, below, three) in
    (below, bytes, owned, ap moment_of is ∙ moment-same (change s.content) (change s.content) _ _ refl (line-placed s x _ known))

pub steps-lead : (protocol : Protocol) (s : Scene) (steps : List Step) → AreSteps protocol s steps → LeadsAlong protocol s steps
steps-lead protocol s [] all = tt
steps-lead protocol s (t ∷ ts) (three, is, rest) = (step-leads protocol t.event s t.after three is, steps-lead protocol t.after ts rest)

-- a walk goes on from where another ends
abbrev pub end_of : Scene → List Step → Scene
end_of s [] = s
end_of s (t ∷ ts) = end_of t.after ts

pub steps-append : (protocol : Protocol) (s : Scene) (xs ys : List Step) → AreSteps protocol s xs → AreSteps protocol (end_of s xs) ys → AreSteps protocol s (xs ++ ys)
steps-append protocol s [] ys first second = second
steps-append protocol s (t ∷ ts) ys (three, is, rest) second = (three, is, steps-append protocol t.after ts ys rest second)

-- a message to one of the three goes to no other
pub to_one-few : (x : ℕ) (m : Message) → x < 3 → SendsToNoOther (to_one x m)
to_one-few x m below y = ap (λ t. cond t (m ∷ []) []) (other_node x (y) below)
