-- Lines that are added to a home.
use Rattle.std.proofs.Common.{◌≡◌, ℕ, ◌+◌, ◌*◌, ◌/◌, ◌%◌, ◌<◌, ◌≤◌, ◌==◌, ◌⊎◌, inl, inr, Bool, true, false, cond, refl, sym, ap, subst, ◌∙◌, arith}
use Rattle.std.specs.Int.{div_ceil}
use Rattle.std.proofs.Math.Nat.{div-lt_iff_lt-mul, div-mul-le_self, mul-div_cancel}
use Rattle.std.proofs.lemmas.Grind.{div_ceil_times}
use Rattle.std.proofs.lemmas.Bool.{cases_lt, eqb-true, eq-eqb}
use Rattle.std.proofs.lemmas.Nat.{div-add-mod', le-div, mod_below, mul-le}
use Rattle.elf64_load.specs.Image.{ImageView}
use Rattle.memory_contracts.specs.Protocol.Lines.{HomeRecord}
use Rattle.directory.specs.Fresh.{AreMore, IsFresh}
use Rattle.memory_contracts.specs.Updates.{with_at}
use Rattle.directory.specs.HomeParts.{has_line, records_in}
use Rattle.directory.specs.Start.{IsFirst, IsOfHome}
use Rattle.directory.specs.declared.records.Records.{Records}
use Rattle.directory.specs.declared.share.Share.{Share}

-- one more line, of which this is noted
pub record IsAdded (line : ℕ) (h : HomeRecord) (old new : Records) : Type 0 where
  pub lines : has_line new ≡ with_at (has_line old) line true
  pub noted : records_in new ≡ with_at (records_in old) line h

grown : (has : ℕ → Bool) (x k : ℕ) → has k ≡ true → with_at has x true k ≡ true
grown has x k there = by (k == x)
  where
    by : (b : Bool) → cond b true (has k) ≡ true
    by true = refl
    by false = there

first-with : (image : ImageView) (line_bytes line : ℕ) (h : HomeRecord) (has : ℕ → Bool) (records : ℕ → HomeRecord) → IsFirst image line_bytes line h → ((l : ℕ) → has l ≡ true → IsFirst image line_bytes l (records l)) →
    (l : ℕ) → with_at has line true l ≡ true → IsFirst image line_bytes l (with_at records line h l)
first-with image line_bytes line h has records first fresh l = by (l == line) refl
  where
    by : (b : Bool) → (l == line) ≡ b → cond b true (has l) ≡ true → IsFirst image line_bytes l (cond b h (records l))
    by true e there = subst (λ k. IsFirst image line_bytes k h) (sym (eqb-true l line e)) first
    by false e there = fresh l there

share-with : (image : ImageView) (line_bytes n h line : ℕ) (has : ℕ → Bool) → IsOfHome image line_bytes n h line → ((l : ℕ) → has l ≡ true → IsOfHome image line_bytes n h l) →
    (l : ℕ) → with_at has line true l ≡ true → IsOfHome image line_bytes n h l
share-with image line_bytes n h line has of_home all l = by (l == line) refl
  where
    by : (b : Bool) → (l == line) ≡ b → cond b true (has l) ≡ true → IsOfHome image line_bytes n h l
    by true e there = subst (λ k. IsOfHome image line_bytes n h k) (sym (eqb-true l line e)) of_home
    by false e there = all l there

pub AreMore-added : (image : ImageView) (share : Share) (line : ℕ) (h : HomeRecord) (old new : Records) → IsAdded line h old new → IsFirst image share.line_bytes line h → IsOfHome image share.line_bytes share.nodes share.home.0 line → IsFresh image share old → AreMore image share old new
AreMore-added image share line h old new is first of_home fresh = record {
  fresh = record {
    first = λ l there.
        subst (λ (records : ℕ → HomeRecord). IsFirst image share.line_bytes l (records l)) (sym is.noted)
        (first-with image share.line_bytes line h (has_line old) (records_in old) first fresh.first l (sym (ap (λ (has : ℕ → Bool). has l) is.lines) ∙ there));
    of_share = λ l there.
        share-with image share.line_bytes share.nodes share.home.0 line (has_line old) of_home fresh.of_share l (sym (ap (λ (has : ℕ → Bool). has l) is.lines) ∙ there);
  };
  grows = λ l there. ap (λ (has : ℕ → Bool). has l) is.lines ∙ grown (has_line old) line l there;
}

pub there-added : (line : ℕ) (h : HomeRecord) (old new : Records) → IsAdded line h old new → has_line new line ≡ true
there-added line h old new is = ap (λ (has : ℕ → Bool). has line) is.lines ∙ ap (λ b. cond b true (has_line old line)) (eq-eqb line line refl)

-- lines follow each other as their bytes do
pub line-rises : (a b line_bytes : ℕ) → 0 < line_bytes → a ≤ b → a / line_bytes ≤ b / line_bytes
line-rises a b line_bytes some rises =
    let low = div-mul-le_self a line_bytes in
    le-div (a / line_bytes) b line_bytes some (omega (arith, low, rises))

-- the line of each of len bytes from first on is before the line behind them
pub line-before : (first len a line_bytes lines : ℕ) → 0 < line_bytes → lines ≡ div_ceil (first % line_bytes + len) line_bytes → a < first + len → a / line_bytes < first / line_bytes + lines
line-before first len a line_bytes lines some all high =
    let parts = div-add-mod' first line_bytes in
    let ceil : first % line_bytes + len ≤ lines * line_bytes = subst (λ n. first % line_bytes + len ≤ n * line_bytes) (sym all) (div_ceil_times (first % line_bytes + len) line_bytes some).0 in
    (div-lt_iff_lt-mul some).1 (omega (arith, parts, ceil, high))

-- each line from that of the first byte on, up to the line behind the last, has one of the bytes
pub line-has-byte : (first len line_bytes lines line : ℕ) → 0 < line_bytes → 0 < len → lines ≡ div_ceil (first % line_bytes + len) line_bytes → first / line_bytes ≤ line → line < first / line_bytes + lines →
    (a : ℕ) × (first ≤ a) × (a < first + len) × (a / line_bytes ≡ line)
line-has-byte first len line_bytes lines line some wide all low high = by (cases_lt (first / line_bytes) line)
  where
    parts : first / line_bytes * line_bytes + first % line_bytes ≡ first
    parts = div-add-mod' first line_bytes

    by : (first / line_bytes < line) ⊎ (line ≤ first / line_bytes) → (a : ℕ) × (first ≤ a) × (a < first + len) × (a / line_bytes ≡ line)
    by (inl later) =
        let rest = mod_below first line_bytes some in
        let below : lines * line_bytes < first % line_bytes + len + line_bytes = subst (λ n. n * line_bytes < first % line_bytes + len + line_bytes) (sym all) (div_ceil_times (first % line_bytes + len) line_bytes some).1 in
        let from : (first / line_bytes + 1) * line_bytes ≤ line * line_bytes = mul-le (first / line_bytes + 1) line_bytes line line_bytes (omega (arith, later)) (omega arith) in
        let until : (line + 1) * line_bytes ≤ (first / line_bytes + lines) * line_bytes = mul-le (line + 1) line_bytes (first / line_bytes + lines) line_bytes (omega (arith, high)) (omega arith) in
        (line * line_bytes, grind (arith, parts, rest, from), grind (arith, parts, below, until), mul-div_cancel line some)
    by (inr same) = (first, omega arith, omega (arith, wide), omega (arith, low, same))
