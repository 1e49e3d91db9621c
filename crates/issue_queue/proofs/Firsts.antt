-- The least number that passes a test, by what it tells of the test.
use Rattle.std.proofs.Common.{◌≡◌, ℕ, zero, suc, ◌+◌, ◌%◌, ◌<◌, ◌≤◌, Bool, true, false, cond, refl, sym, ap, ◌∙◌, subst, arith}
use Rattle.ring_set.specs.Sets.{aged, has, least, place_at}
use Rattle.ring_set.specs.declared.set.Places.{Places}
use Rattle.issue_queue.specs.Words.{IsFirst, LacksAges}

-- a is the first number below n that passes, or there is none and a is n
record TellsFirst (p : ℕ → Bool) (n a : ℕ) : Type 0 where
  within : a ≤ n
  there : a < n → p a ≡ true
  before : (k : ℕ) → k < a → p k ≡ false

before_suc : (p : ℕ → Bool) (a : ℕ) → p zero ≡ false → ((k : ℕ) → k < a → p (suc k) ≡ false) → (k : ℕ) → k < suc a → p k ≡ false
before_suc p a is rest zero lt = is
before_suc p a is rest (suc k) lt = rest k (omega arith)

tells-suc : (p : ℕ → Bool) (n a : ℕ) (b : Bool) → p zero ≡ b → TellsFirst (λ k. p (suc k)) n a → TellsFirst p (suc n) (cond b zero (suc a))
tells-suc p n a true is rest = record { within = omega arith; there = λ _. is; before = λ k lt. absurd (omega arith) }
tells-suc p n a false is rest = record {
  within = omega (arith, rest.within);
  there = λ lt. rest.there (omega arith);
  before = before_suc p a is rest.before;
}

tells-least : (p : ℕ → Bool) (n : ℕ) → TellsFirst p n (least p n)
unfolding least
tells-least p zero = record { within = omega arith; there = λ lt. absurd (omega arith); before = λ k lt. absurd (omega arith) }
tells-least p (suc n) = tells-suc p n (least (λ k. p (suc k)) n) (p zero) refl (tells-least (λ k. p (suc k)) n)

age_of : (set : Places) (low head age k : ℕ) → head ≡ low % 128 → aged set head k ≡ has set ((low + k) % 128)
unfolding place_at
age_of set low head age k at = let e : (head + k) % 128 ≡ (low + k) % 128 = omega arith in ap (has set) e

-- what the oldest place of a set tells, counted from a number's place
pub first_from_oldest : (set : Places) (low head age : ℕ) → head ≡ low % 128 → age ≡ least (aged set head) 128 → age < 128 → IsFirst set low age
first_from_oldest set low head age at is lt =
    let tells : TellsFirst (aged set head) 128 age = subst (TellsFirst (aged set head) 128) (sym is) (tells-least (aged set head) 128) in
    record {
      within = lt;
      there = sym (age_of set low head age age at) ∙ tells.there lt;
      before = λ k l. sym (age_of set low head age k at) ∙ tells.before k l;
    }

pub none_from_oldest : (set : Places) (low head age : ℕ) → head ≡ low % 128 → age ≡ least (aged set head) 128 → 128 ≤ age → LacksAges set low
none_from_oldest set low head age at is le =
    let tells : TellsFirst (aged set head) 128 age = subst (TellsFirst (aged set head) 128) (sym is) (tells-least (aged set head) 128) in
    λ k lt. sym (age_of set low head age k at) ∙ tells.before k (omega arith)

pub none_of_all : (set : Places) → LacksAges set 0 → (j : ℕ) → j < 128 → has set j ≡ false
none_of_all set none j lt = let e : j ≡ (0 + j) % 128 = omega arith in ap (has set) e ∙ none j lt
