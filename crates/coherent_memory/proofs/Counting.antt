-- How many messages of the home are between it and a node, and how many it has to send about a line.
use Rattle.std.proofs.Common.{◌≡◌, ℕ, zero, suc, ◌+◌, ◌<◌, ◌≤◌, ◌==◌, Bool, true, false, cond, ◌&&◌, List, [], ◌∷◌, ◌++◌, length, All, refl, sym, ap, ◌∙◌, true≢false, arith}
use Rattle.std.specs.List.{flat_map}
use Rattle.std.proofs.lemmas.Bool.{eqb-true}
use Rattle.std.proofs.lemmas.Bool.Decides.{nat_tests}
use Rattle.std.proofs.lemmas.List.Elements.{All-tail}
use Rattle.memory_contracts.specs.Protocol.Content.{count_to_node, from_home}
use Rattle.memory_contracts.specs.Protocol.Events.{is_to_node}
use Rattle.memory_contracts.specs.Protocol.Lines.{Cell, all_mailed, mailed}
use Rattle.memory_contracts.specs.Protocol.Messages.{Message, GetS, GetM, Put, Inv, Recall, Grant, PutAck, InvAck, RecallAck, Done}
use Rattle.directory.specs.Homes.{Post}
use Rattle.coherent_memory.specs.Systems.{of_post}

-- ---- messages of the home

pub count-append : (xs ys : List Message) → count_to_node (xs ++ ys) ≡ count_to_node xs + count_to_node ys
count-append [] ys = omega arith
count-append (m ∷ xs) ys = by (is_to_node m) (count-append xs ys)
  where
    by : (b : Bool) → count_to_node (xs ++ ys) ≡ count_to_node xs + count_to_node ys → cond b (suc (count_to_node (xs ++ ys))) (count_to_node (xs ++ ys)) ≡ cond b (suc (count_to_node xs)) (count_to_node xs) + count_to_node ys
    by true e = omega (arith, e)
    by false e = e

from_home-mailed : (m : Message) (c : Cell) → from_home (mailed m c) ≡ count_to_node (m ∷ []) + from_home c
from_home-mailed GetS c = omega arith
from_home-mailed GetM c = omega arith
from_home-mailed (Put bytes) c = omega arith
from_home-mailed Inv c = omega arith
from_home-mailed (Recall own) c = omega arith
from_home-mailed (Grant own bytes) c = omega arith
from_home-mailed PutAck c = omega arith
from_home-mailed InvAck c = omega arith
from_home-mailed (RecallAck kept bytes) c = omega arith
from_home-mailed Done c = omega arith

pub from_home-all_mailed : (ms : List Message) (c : Cell) → from_home (all_mailed ms c) ≡ count_to_node ms + from_home c
from_home-all_mailed [] c = omega arith
from_home-all_mailed (m ∷ ms) c =
    let first = from_home-mailed m (all_mailed ms c) in
    let rest = from_home-all_mailed ms c in
    let both = count-append (m ∷ []) ms in
    omega (arith, first, rest, both)

-- ---- sums over the first nodes

abbrev pub sum_below : ℕ → (ℕ → ℕ) → ℕ
sum_below zero f = 0
sum_below (suc n) f = f n + sum_below n f

pub sum_below-few : (n : ℕ) (f : ℕ → ℕ) → ((x : ℕ) → x < n → f x ≤ 1) → sum_below n f ≤ n
sum_below-few zero f few = omega arith
sum_below-few (suc n) f few =
    let rest = sum_below-few n f (λ x below. few x (omega (arith, below))) in
    let last = few n (omega arith) in
    omega (arith, rest, last)

sum_below-same : (n : ℕ) (f g : ℕ → ℕ) → ((x : ℕ) → x < n → f x ≡ g x) → sum_below n f ≡ sum_below n g
sum_below-same zero f g same = refl
sum_below-same (suc n) f g same =
    let rest = sum_below-same n f g (λ x below. same x (omega (arith, below))) in
    let last = same n (omega arith) in
    omega (arith, rest, last)

sum_below-add : (n : ℕ) (f g : ℕ → ℕ) → sum_below n (λ x. f x + g x) ≡ sum_below n f + sum_below n g
sum_below-add zero f g = omega arith
sum_below-add (suc n) f g = let rest = sum_below-add n f g in omega (arith, rest)

-- one at y, and nothing elsewhere
abbrev at_node : ℕ → ℕ → ℕ
at_node y x = cond (y == x) 1 0

none-below : (n y : ℕ) → n ≤ y → sum_below n (at_node y) ≡ 0
none-below zero y above = refl
none-below (suc n) y above =
    let rest = none-below n y (omega (arith, above)) in
    let other : (y == n) ≡ false = grind (arith, nat_tests) in
    let last : at_node y n ≡ 0 = ap (λ b. cond b 1 0) other in
    omega (arith, rest, last)

one-below : (n y : ℕ) → y < n → sum_below n (at_node y) ≡ 1
one-below zero y below = omega (arith, below)
one-below (suc n) y below = by (y == n) refl (one-below n y)
  where
    by : (b : Bool) → (y == n) ≡ b → (y < n → sum_below n (at_node y) ≡ 1) → cond b 1 0 + sum_below n (at_node y) ≡ 1
    by true e lower = let rest = none-below n y (let same = eqb-true y n e in omega (arith, same)) in omega (arith, rest)
    by false e lower = let rest = lower (grind (arith, nat_tests, below, e)) in omega (arith, rest)

sum_below-zero : (n : ℕ) → sum_below n (λ x. 0) ≡ 0
sum_below-zero zero = refl
sum_below-zero (suc n) = let rest = sum_below-zero n in omega (arith, rest)

-- ---- what a home has to send about a line

-- a post about the line to a node that there is
pub record IsAbout (n l : ℕ) (post : Post) : Type 0 where
  pub line : (post.line == l) ≡ true
  pub to : post.to < n
  pub kind : is_to_node post.message ≡ true

abbrev pub posts_to : ℕ → List Post → ℕ → ℕ
posts_to l sent x = count_to_node (flat_map (of_post l x) sent)

post-counts : (n l : ℕ) (post : Post) → IsAbout n l post → (x : ℕ) → count_to_node (of_post l x post) ≡ at_node post.to x
post-counts n l post about x = by (post.line == l) (post.to == x) about.line
  where
    by : (a b : Bool) → a ≡ true → count_to_node (cond (a && b) (post.message ∷ []) []) ≡ cond b 1 0
    by true true e = ap (λ c. cond c 1 0) about.kind
    by true false e = refl
    by false b e = absurd (true≢false (sym e))

-- each goes to some node
pub posts-counted : (n l : ℕ) (sent : List Post) → All (IsAbout n l) sent → sum_below n (posts_to l sent) ≡ length sent
posts-counted n l [] about = sum_below-zero n
posts-counted n l (post ∷ sent) about =
    let first : IsAbout n l post = about 0 post (omega arith) in
    let rest = posts-counted n l sent (All-tail (IsAbout n l) post sent about) in
    let split : sum_below n (posts_to l (post ∷ sent)) ≡ sum_below n (λ x. at_node post.to x + posts_to l sent x) =
    sum_below-same n (posts_to l (post ∷ sent)) (λ x. at_node post.to x + posts_to l sent x)
    (λ x below. count-append (of_post l x post) (flat_map (of_post l x) sent) ∙ ap (λ k. k + posts_to l sent x) (post-counts n l post first x)) in
    let both = sum_below-add n (at_node post.to) (posts_to l sent) in
    let one = one-below n post.to first.to in
    omega (arith, rest, split, both, one)
