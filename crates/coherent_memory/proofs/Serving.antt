-- A home serves what waits for a line.
use Rattle.std.proofs.Common.{◌≡◌, ℕ, ◌+◌, ◌*◌, ◌<◌, ◌≤◌, ◌==◌, Bool, true, false, cond, length, refl, sym, ap, subst, ◌∙◌}
use Rattle.std.proofs.Math.Bridge.{le_prop}
use Rattle.std.proofs.Math.Logic.{∥∥₁_elim}
use Rattle.std.proofs.lemmas.Bool.{eq-eqb, eqb-true}
use Rattle.memory_contracts.specs.Updates.{with_at}
use Rattle.directory.specs.Homes.{HomeView, Serves}
use Rattle.coherent_memory.specs.SystemInvariants.{IsFine}
use Rattle.coherent_memory.specs.Laws.{ServingKeeps}
use Rattle.coherent_memory.specs.Systems.{System}
use Rattle.coherent_memory.specs.Rooms.{Grows, RoomStays}
use Rattle.coherent_memory.specs.Turns.{ServesAll, more, none, with_home}

-- the same home again
pub same-at : (f : ℕ → HomeView) (p : ℕ) → with_at f p (f p) ≡ f
same-at f p = λ i q. by q (q == p) refl i
  where
    by : (q : ℕ) (b : Bool) → (q == p) ≡ b → cond b (f p) (f q) ≡ f q
    by q true e = ap f (sym (eqb-true q p e))
    by q false e = refl

pub same-home : (p : ℕ) (home : HomeView) (s : System) → home ≡ s.homes p → with_home p home s ≡ s
same-home p home s same = λ i. record { homes = (ap (λ (h : HomeView). with_at s.homes p h) same ∙ same-at s.homes p) i; nodes = s.nodes; carrier = s.carrier }

-- whether or not a request was served
pub served-fine : ServingKeeps → (n p now line : ℕ) (home : HomeView) (s : System) (b : Bool) → IsFine n s → p < n → Serves line now (s.homes p) home b → IsFine n (with_home p home s)
served-fine law n p now line home s true fine below serves = (law n p now line home s fine below serves).fine
served-fine law n p now line home s false fine below serves = subst (IsFine n) (sym (same-home p home s serves.0)) fine

-- the home of node p is the new one
pub home_at-same : (p : ℕ) (home : HomeView) (s : System) → (with_home p home s).homes p ≡ home
home_at-same p home s = ap (λ (b : Bool). cond b home (s.homes p)) (eq-eqb p p refl)

pub twice-home : (p : ℕ) (h k : HomeView) (s : System) → with_home p h (with_home p k s) ≡ with_home p h s
twice-home p h k s = λ i. record { homes = λ q. by q (q == p) i; nodes = s.nodes; carrier = s.carrier }
  where
    by : (q : ℕ) (b : Bool) → cond b h (cond b k (s.homes q)) ≡ cond b h (s.homes q)
    by q true = refl
    by q false = refl

-- what has been served so far, from the first state on
pub record IsServing (p line now : ℕ) (first s : System) : Type 0 where
  pub same : s ≡ with_home p (s.homes p) first
  pub serves : (h : HomeView) → ServesAll line now (s.homes p) h → ServesAll line now (first.homes p) h

pub serving-start : (p line now : ℕ) (s : System) → IsServing p line now s s
serving-start p line now s = record { same = sym (same-home p (s.homes p) s refl); serves = λ h all. all }

module _ (p line now : ℕ) (first s t : System) (home : HomeView) (so_far : IsServing p line now first s) (is : t ≡ with_home p home s) where
  pub now-home : t.homes p ≡ home
  now-home = ap (λ (u : System). u.homes p) is ∙ home_at-same p home s

  from-first : t ≡ with_home p home first
  from-first = is ∙ ap (λ (u : System). with_home p home u) so_far.same ∙ twice-home p home (s.homes p) first

  pub serving-more : Serves line now (s.homes p) home true → IsServing p line now first t
  serving-more serves = record {
    same = from-first ∙ ap (λ (h : HomeView). with_home p h first) (sym now-home);
    serves = λ h all. so_far.serves h (more serves (subst (λ (k : HomeView). ServesAll line now k h) now-home all));
  }

  pub serving-end : Serves line now (s.homes p) home false → (h : HomeView) × ServesAll line now (first.homes p) h × (t ≡ with_home p h first)
  serving-end serves = (home, so_far.serves home (none serves), from-first)

-- the lines of a home stay its own
pub lines-served : (line now l : ℕ) (v w : HomeView) → Serves line now v w true → w.lines l ≡ v.lines l
lines-served line now l v w serves = ap (λ (h : HomeView). h.lines l) serves.after

-- there is room for as many answers as there are nodes
pub room-stays : RoomStays → (n p line : ℕ) (u : HomeView) (s : System) → ∥ IsFine n s ∥₁ → p < n → length u.outgoing + 2 * n ≤ 2048 → Grows line u (s.homes p) → length (s.homes p).outgoing + n ≤ 2048
room-stays law n p line u s fine below room grows = ∥∥₁_elim fine le_prop (λ (f : IsFine n s). law n p line u s f below room grows)
