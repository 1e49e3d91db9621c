-- The access that a step makes, and the line that doesn't differ from it.
use Rattle.std.proofs.Common.{◌≡◌, ◌⊎◌, ◌==◌, ℕ, Bool, true, false, not, if◌then◌else◌, [], ◌∷◌, None, Some, refl, sym, ap, inl, inr, ◌∙◌, arith}
use Rattle.std.proofs.lemmas.Bool.{eqb-true, eq-eqb}
use Rattle.rsim_base.specs.Accesses.{loads, stores}
use Rattle.rsim_base.specs.Bytes.{count_of}
use Rattle.rsim_base.specs.declared.memory.Access.{Access}
use Rattle.rsim_base.specs.declared.memory.Kind.{Kind}
use Rattle.rsim_base.specs.declared.memory.Kind.TheVariants as kind
use Rattle.rsim_base.specs.declared.memory.Size.{Size}
use Rattle.rsim_base.specs.declared.memory.Size.TheVariants.{B1, B2, B4, B8}
use Rattle.order_certificate.specs.Certificate.{IsInText}
use Rattle.sparc_meaning.specs.Acts.{HasFound}
use Rattle.sparc_meaning.specs.Run.{accesses_of, uses_value}
use Rattle.sparc_meaning.specs.declared.acts.Act.{Act}
use Rattle.sparc_meaning.specs.declared.acts.Act.TheVariants.{Nothing, Load, Store, Atomic, Fence, Out, End as Ended}
use Rattle.order_checker.specs.declared.verdict.Part.{Part}
use Rattle.order_checker.specs.Faults.{same_kind, differing}
use Rattle.order_checker.specs.Order.{IsEntryOf}

-- x is access i of processor p, made by a step that found the value
pub record IsMade (p i value : ℕ) (act : Act) (x : Access) : Type 0 where
  pub list : accesses_of p i act ≡ x ∷ []
  pub node : x.node.0 ≡ p
  pub index : x.index ≡ i
  pub uses : uses_value act ≡ loads x.kind
  pub loaded : loads x.kind ≡ true → x.loaded ≡ value
  pub unloaded : loads x.kind ≡ false → x.loaded ≡ 0
  pub unstored : stores x.kind ≡ false → x.stored ≡ 0

pub act_cases : (p i value : ℕ) (act : Act) → HasFound value act → ((accesses_of p i act ≡ []) × (uses_value act ≡ false)) ⊎ ((x : Access) × IsMade p i value act x)
act_cases p i value Nothing found = inl (refl, refl)
act_cases p i value (Fence mask) found = inl (refl, refl)
act_cases p i value (Out spoken) found = inl (refl, refl)
act_cases p i value Ended found = inl (refl, refl)
act_cases p i value (Load addr size loaded) found = inr (
  record { node = record { 0 = p }; index = i; kind = kind.Load; addr = addr; size = size; loaded = loaded; stored = 0 },
  record { list = refl; node = refl; index = refl; uses = refl; loaded = λ is. found; unloaded = λ is. absurd cc; unstored = λ is. refl },
)
act_cases p i value (Store addr size stored) found = inr (
  record { node = record { 0 = p }; index = i; kind = kind.Store; addr = addr; size = size; loaded = 0; stored = stored },
  record { list = refl; node = refl; index = refl; uses = refl; loaded = λ is. absurd cc; unloaded = λ is. refl; unstored = λ is. absurd cc },
)
act_cases p i value (Atomic addr size loaded stored) found = inr (
  record { node = record { 0 = p }; index = i; kind = kind.Atomic; addr = addr; size = size; loaded = loaded; stored = stored },
  record { list = refl; node = refl; index = refl; uses = refl; loaded = λ is. found; unloaded = λ is. absurd cc; unstored = λ is. absurd cc },
)

-- ---- a line that does not differ

pub record AreAlike (made e : Access) : Type 0 where
  pub kind : e.kind ≡ made.kind
  pub size : e.size ≡ made.size
  pub addr : e.addr.0 ≡ made.addr.0
  pub stored : e.stored ≡ made.stored

kinds : (k l : Kind) → same_kind k l ≡ true → l ≡ k
kinds kind.Load kind.Load e = refl
kinds kind.Load kind.Store e = absurd cc
kinds kind.Load kind.Atomic e = absurd cc
kinds kind.Store kind.Load e = absurd cc
kinds kind.Store kind.Store e = refl
kinds kind.Store kind.Atomic e = absurd cc
kinds kind.Atomic kind.Load e = absurd cc
kinds kind.Atomic kind.Store e = absurd cc
kinds kind.Atomic kind.Atomic e = refl

pub same_kind-refl : (k : Kind) → same_kind k k ≡ true
same_kind-refl kind.Load = refl
same_kind-refl kind.Store = refl
same_kind-refl kind.Atomic = refl

sizes : (m n : Size) → count_of m ≡ count_of n → m ≡ n
sizes B1 B1 e = refl
sizes B1 B2 e = absurd (omega arith)
sizes B1 B4 e = absurd (omega arith)
sizes B1 B8 e = absurd (omega arith)
sizes B2 B1 e = absurd (omega arith)
sizes B2 B2 e = refl
sizes B2 B4 e = absurd (omega arith)
sizes B2 B8 e = absurd (omega arith)
sizes B4 B1 e = absurd (omega arith)
sizes B4 B2 e = absurd (omega arith)
sizes B4 B4 e = refl
sizes B4 B8 e = absurd (omega arith)
sizes B8 B1 e = absurd (omega arith)
sizes B8 B2 e = absurd (omega arith)
sizes B8 B4 e = absurd (omega arith)
sizes B8 B8 e = refl

all_pass : (a b c d : Bool) (w x y z : Part) →
    (if not a then Some w else if not b then Some x else if not c then Some y else if not d then Some z else None) ≡ None → (a ≡ true) × (b ≡ true) × (c ≡ true) × (d ≡ true)
all_pass false b c d w x y z e = absurd cc
all_pass true false c d w x y z e = absurd cc
all_pass true true false d w x y z e = absurd cc
all_pass true true true false w x y z e = absurd cc
all_pass true true true true w x y z e = (refl, refl, refl, refl)

pub differing_none : (made e : Access) → differing made e ≡ None → AreAlike made e
differing_none made e none =
    let parts = all_pass (same_kind made.kind e.kind) (count_of e.size == count_of made.size) (e.addr.0 == made.addr.0) (e.stored == made.stored) _ _ _ _ none in
    record { kind = kinds made.kind e.kind parts.0; size = sizes e.size made.size (eqb-true _ _ parts.1); addr = eqb-true _ _ parts.2; stored = eqb-true _ _ parts.3 }

none_from : (a b c d : Bool) (w x y z : Part) → a ≡ true → b ≡ true → c ≡ true → d ≡ true →
    (if not a then Some w else if not b then Some x else if not c then Some y else if not d then Some z else None) ≡ None
none_from a b c d w x y z p q r s = rw (p, q, r, s) refl

pub differing-alike : (made e : Access) → AreAlike made e → differing made e ≡ None
differing-alike made e are = none_from (same_kind made.kind e.kind) (count_of e.size == count_of made.size) (e.addr.0 == made.addr.0) (e.stored == made.stored) _ _ _ _
    (ap (same_kind made.kind) are.kind ∙ same_kind-refl made.kind) (eq-eqb _ _ (ap count_of are.size)) (eq-eqb _ _ are.addr) (eq-eqb _ _ are.stored)

access_same : (x e : Access) → e.node.0 ≡ x.node.0 → e.kind ≡ x.kind → e.size ≡ x.size → e.index ≡ x.index → e.addr.0 ≡ x.addr.0 → e.loaded ≡ x.loaded → e.stored ≡ x.stored → e ≡ x
access_same x e node k size index addr loaded stored = λ t. record {
  node = record { 0 = node t };
  kind = k t;
  size = size t;
  index = index t;
  addr = record { 0 = addr t };
  loaded = loaded t;
  stored = stored t;
}

-- the line of an access that doesn't differ from it is the access, as what a step has loaded is the line's value
pub made_line : (p i : ℕ) (act : Act) (x e : Access) → IsMade p i e.loaded act x → IsInText e → e.node.0 ≡ p → e.index ≡ i → differing x e ≡ None → e ≡ x
made_line p i act x e made in_text node index none =
    let are = differing_none x e none in
    access_same x e (node ∙ sym made.node) are.kind are.size (index ∙ sym made.index) are.addr (loaded are (loads x.kind) refl) are.stored
  where
    loaded : AreAlike x e → (b : Bool) → loads x.kind ≡ b → e.loaded ≡ x.loaded
    loaded are true is = sym (made.loaded is)
    loaded are false is = in_text.loaded (ap loads are.kind ∙ is) ∙ sym (made.unloaded is)

-- an entry of the access doesn't differ from it
pub IsEntryOf-alike : (x e : Access) → IsEntryOf x e → AreAlike x e
IsEntryOf-alike x e is = record { kind = is.kind; size = is.size; addr = ap (λ a. a.0) is.addr; stored = is.stored }
