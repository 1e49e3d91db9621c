-- What holds a register at some place of the path: it is not free, and no take gives it again.
use Rattle.std.proofs.Common.{◌≡◌, ◌≢◌, ℕ, zero, suc, ◌+◌, ◌-◌, ◌<◌, ◌≤◌, ◌==◌, All, Ok, Err, None, Some, Option, if◌then◌else◌, nat_lt, true, false, List, [], ◌∷◌, ◌++◌, length, map, replicate, get_or, set, slice_index_or, ⊎_elim, inl, inr, sym, ap, ◌∙◌, subst, refl, arith, append_assoc, length-append, get_or-set_other}
use Rattle.std.proofs.Math.ListN.{get_or-append}
use Rattle.std.proofs.Math.Seq.{get_or-append_right}
use Rattle.std.proofs.lemmas.Bool.{cases_eq, cases_lt, eq-eqb, ne_eqb, le-ltb}
use Rattle.std.proofs.lemmas.Bool.Decides.{nat_tests}
use Rattle.std.proofs.lemmas.List.{append-nil, get_or-map, length-map}
use Rattle.std.specs.List.{range_with_len}
use Rattle.rsim_base.specs.Limits.{arch_registers}
use Rattle.rsim_base.specs.declared.processor.Renamed.{Renamed}
use Rattle.rsim_base.specs.declared.refusals.NoneFree.{NoneFree}
use Rattle.sparc_meaning.specs.declared.arch.Arch.{Arch}
use Rattle.sparc_meaning.specs.Registers.{HasRegisters, value_of}
use Rattle.rename.specs.Laws.{AllReleasedIsRenaming, FirstHoldValues, GivenOnce, HoldersAreNotFree, HoldersKeepValues, NamedAlong}
use Rattle.rename.specs.Names.{NamesView, TakesOf, take_of, taken}
use Rattle.rename.specs.Renaming.{IsRenaming, OldsAreBefore, named, news, olds, retired_registers, times}
use Rattle.rename.specs.Start.{first_names, registers_of}
use Rattle.rename.proofs.InFlight.{after, kept_or_named, named-append, ok_is_no_err, released_is_renaming}
use Rattle.rename.proofs.Times.{one, one_other, one_same, times-append, times-cons, times_held}

pub named_along : NamedAlong
named_along r older younger held = named-append r older younger held

-- ---- what holds a register is not free

-- the younger takes kept what held their registers behind the older ones
olds_behind : (older younger : List Renamed) (held : ℕ → ℕ) → OldsAreBefore (older ++ younger) held → OldsAreBefore younger (λ r. named r older (held r))
olds_behind [] younger held h = h
olds_behind (t ∷ older) younger held h = olds_behind older younger (λ r. after t r (held r)) h.2

olds-append : (older younger : List Renamed) → olds (older ++ younger) ≡ olds older ++ olds younger
olds-append [] younger = refl
olds-append (t ∷ older) younger = ap (λ os. t.old.0 ∷ os) (olds-append older younger)

pub holders_are_not_free : HoldersAreNotFree
holders_are_not_free retired older younger v r h low =
    let x = named r older (retired r) in
    let all = times-append x (olds older) (olds younger) in
    let split = ap (times x) (olds-append older younger) in
    let total : times x v.current + (times x (olds (older ++ younger)) + times x v.free) ≤ 1 =
    ⊎_elim (λ (less : x < length v.values). omega (arith, h.once x less)) (λ (more : length v.values ≤ x). omega (arith, h.no_more x more)) (cases_lt x (length v.values)) in
    ⊎_elim
    (λ (stays : named r younger x ≡ x).
    let is : get_or v.current r 0 ≡ x = h.names r low ∙ (named-append r older younger (retired r) ∙ stays) in
    let stands : 1 ≤ times x v.current = subst (λ y. 1 ≤ times y v.current) is (times_held v.current r (omega (arith, h.count))) in
    omega arith)
    (λ (kept : 1 ≤ times x (olds younger)). omega arith)
    (kept_or_named younger (λ q. named q older (retired q)) r (olds_behind older younger retired h.olds_are))

-- so a take gives another one
gives_other : (x y : ℕ) (rest : List ℕ) → times x (y ∷ rest) ≡ 0 → x ≢ y
gives_other x y rest none e = absurd (omega (arith, times-cons x y rest, one_same x y (sym e)))

keeps_by : (x q : ℕ) (t : Renamed) (v w : NamesView) (free : List ℕ) → times x free ≡ 0 → TakesOf q v free (Ok t) w → slice_index_or w.values x None ≡ slice_index_or v.values x None
keeps_by x q t v w [] none takes = absurd (ok_is_no_err t (record {}) takes.0)
keeps_by x q t v w (y ∷ rest) none takes = ap (λ (u : NamesView). slice_index_or u.values x None) takes.1 ∙ get_or-set_other v.values y x None None (gives_other x y rest none)

pub holders_keep_values : HoldersKeepValues
holders_keep_values retired older younger v w r q t h low takes =
    keeps_by (named r older (retired r)) q t v w v.free (holders_are_not_free retired older younger v r h low) takes

-- ---- each register is given once

-- what f gives of n numbers from a on, once it gives y at b
abbrev at_after : (f : ℕ → ℕ) (b y k : ℕ) → ℕ
at_after f b y k = if b == k then y else f k

unmoved : (x b y a n : ℕ) (f : ℕ → ℕ) → b < a → times x (map (at_after f b y) (range_with_len a n)) ≡ times x (map f (range_with_len a n))
unmoved x b y a zero f h = refl
unmoved x b y a (suc n) f h =
    let rest = unmoved x b y (a + 1) n f (omega arith) in
    let same : at_after f b y a ≡ f a = rw (ne_eqb b a (λ e. omega arith)) refl in
    let first = ap (one x) same in
    omega (arith, times-cons x (at_after f b y a) (map (at_after f b y) (range_with_len (a + 1) n)), times-cons x (f a) (map f (range_with_len (a + 1) n)), rest, first)

moved_one : (x b y a n : ℕ) (f : ℕ → ℕ) → a ≤ b → b < a + n → times x (map (at_after f b y) (range_with_len a n)) + one x (f b) ≡ times x (map f (range_with_len a n)) + one x y
moved_one x b y a zero f low high = absurd (omega arith)
moved_one x b y a (suc n) f low high =
    let here = times-cons x (at_after f b y a) (map (at_after f b y) (range_with_len (a + 1) n)) in
    let there = times-cons x (f a) (map f (range_with_len (a + 1) n)) in
    ⊎_elim
    (λ (e : b ≡ a).
    let is : at_after f b y a ≡ y = rw (eq-eqb b a e) refl in
    let first = ap (one x) is in
    let same = ap (λ k. one x (f k)) e in
    omega (arith, here, there, first, same, unmoved x b y (a + 1) n f (omega arith)))
    (λ (d : b ≡ a → ⊥).
    let is : at_after f b y a ≡ f a = rw (ne_eqb b a d) refl in
    let first = ap (one x) is in
    omega (arith, here, there, first, moved_one x b y (a + 1) n f (omega arith) (omega arith)))
    (cases_eq b a)

-- what n registers are held by
abbrev held_by : ℕ → (ℕ → ℕ) → List ℕ
held_by n held = map held (range_with_len 0 n)

-- what is held behind takes and kept by them is what was held before them and given by them
moved : (n x : ℕ) (ts : List Renamed) (held : ℕ → ℕ) → arch_registers ≡ n → OldsAreBefore ts held
    → times x (held_by n (λ r. named r ts (held r))) + times x (olds ts) ≡ times x (held_by n held) + times x (news ts)
moved n x [] held is h = refl
moved n x (t ∷ ts) held is h =
    let rest = moved n x ts (λ r. after t r (held r)) is h.2 in
    let low : t.reg.0 < n = subst (λ m. t.reg.0 < m) is h.0 in
    let first = moved_one x t.reg.0 t.new.0 0 n held (omega arith) (omega arith) in
    let kept = ap (one x) h.1 in
    omega (arith, rest, first, kept, times-cons x t.old.0 (olds ts), times-cons x t.new.0 (news ts))

-- a list by its elements
by_elements : (xs : List ℕ) (a : ℕ) (f : ℕ → ℕ) → ((k : ℕ) → k < length xs → get_or xs k 0 ≡ f (a + k)) → xs ≡ map f (range_with_len a (length xs))
by_elements [] a f is = refl
by_elements (x ∷ xs) a f is =
    let zeroth : a + 0 ≡ a = omega arith in
    let first : x ≡ f a = is 0 (omega arith) ∙ ap f zeroth in
    let rest = by_elements xs (a + 1) f (λ k less. let e : a + suc k ≡ (a + 1) + k = omega arith in is (suc k) (omega arith) ∙ ap f e) in
    ap (λ y. y ∷ xs) first ∙ ap (λ ys. f a ∷ ys) rest

current_is : (n : ℕ) (retired : ℕ → ℕ) (ts : List Renamed) (v : NamesView) → arch_registers ≡ n → IsRenaming retired ts v → v.current ≡ held_by n (λ r. named r ts (retired r))
current_is n retired ts v is h =
    let f : ℕ → ℕ = λ r. named r ts (retired r) in
    by_elements v.current 0 f (λ k less. let e : 0 + k ≡ k = omega arith in h.names k (subst (λ m. k < m) h.count less) ∙ ap f (sym e)) ∙ ap (λ m. held_by m f) (h.count ∙ is)

once_each : (n x : ℕ) (retired : ℕ → ℕ) (ts : List Renamed) (v : NamesView) → arch_registers ≡ n → IsRenaming retired ts v
    → (x < length v.values → times x (held_by n retired) + (times x (news ts) + times x v.free) ≡ 1)
    × (length v.values ≤ x → times x (held_by n retired) + (times x (news ts) + times x v.free) ≡ 0)
once_each n x retired ts v is h =
    let current = ap (times x) (current_is n retired ts v is h) in
    let all = moved n x ts retired is h.olds_are in
    (λ less. omega (arith, current, all, h.once x less), λ more. omega (arith, current, all, h.no_more x more))

pub given_once : GivenOnce
unfolding retired_registers
given_once retired ts v x h = once_each arch_registers x retired ts v refl h

-- ---- the oldest takes retire together

pub all_released_is_renaming : AllReleasedIsRenaming
all_released_is_renaming retired [] younger v h = let P : List ℕ → Type 0 = λ free. IsRenaming retired younger (record v { free = free }) in subst P (sym (append-nil v.free)) h
all_released_is_renaming retired (t ∷ older) younger v h =
    let one_less = released_is_renaming retired t (older ++ younger) v h in
    let rest = all_released_is_renaming (λ r. after t r (retired r)) older younger (record v { free = v.free ++ t.old.0 ∷ [] }) one_less in
    let P : List ℕ → Type 0 = λ free. IsRenaming (λ r. named r (t ∷ older) (retired r)) younger (record v { free = free }) in
    subst P (append_assoc v.free (t.old.0 ∷ []) (olds older)) rest

-- ---- at first

-- what stands in the first of two lists, and what in the second
first_part : (xs ys : List ℕ) (n : ℕ) → n < length xs → get_or (xs ++ ys) n 0 ≡ get_or xs n 0
first_part xs ys n h = get_or-append xs ys 0 n h

second_part : (xs ys : List ℕ) (n : ℕ) → length xs ≤ n → get_or (xs ++ ys) n 0 ≡ get_or ys (n - length xs) 0
second_part xs ys n h = get_or-append_right xs ys n 0 h

value_at : (r : ℕ) (s : Arch) → HasRegisters s → r < arch_registers → get_or (registers_of s) r 0 ≡ value_of s r
unfolding value_of
value_at r s h low =
    let last = s.cc ∷ s.y ∷ [] in
    ⊎_elim
    (λ (global : r < 8). let t : nat_lt r 8 ≡ true = grind (arith, nat_tests) in rw t (first_part s.globals (s.windowed ++ last) r (omega (arith, h.globals))))
    (λ (high : 8 ≤ r).
    let t : nat_lt r 8 ≡ false = le-ltb r 8 high in
    let e : r - length s.globals ≡ r - 8 = ap (λ n. r - n) h.globals in
    let rest = second_part s.globals (s.windowed ++ last) r (omega (arith, h.globals)) ∙ ap (λ n. get_or (s.windowed ++ last) n 0) e in
    ⊎_elim
    (λ (windowed : r < 136).
    let u : nat_lt r 136 ≡ true = grind (arith, nat_tests) in
    rw (t, u) (rest ∙ first_part s.windowed last (r - 8) (omega (arith, h.windowed))))
    (λ (behind : 136 ≤ r).
    let u : nat_lt r 136 ≡ false = le-ltb r 136 behind in
    let f : (r - 8) - length s.windowed ≡ r - 136 = omega (arith, h.windowed) in
    let end = rest ∙ (second_part s.windowed last (r - 8) (omega (arith, h.windowed)) ∙ ap (λ n. get_or last n 0) f) in
    ⊎_elim
    (λ (is : r ≡ 136). let z : r - 136 ≡ 0 = omega arith in rw (t, u, eq-eqb r 136 is) (end ∙ ap (λ n. get_or last n 0) z))
    (λ (d : r ≡ 136 → ⊥). let z : r - 136 ≡ 1 = omega arith in rw (t, u, ne_eqb r 136 d) (end ∙ ap (λ n. get_or last n 0) z))
    (cases_eq r 136))
    (cases_lt r 136))
    (cases_lt r 8)

count_of_registers : (s : Arch) → HasRegisters s → length (registers_of s) ≡ arch_registers
count_of_registers s h =
    let last = s.cc ∷ s.y ∷ [] in
    omega (arith, length-append s.globals (s.windowed ++ last), length-append s.windowed last, h.globals, h.windowed)

pub first_hold_values : FirstHoldValues
first_hold_values extra r s h low =
    let rs = registers_of s in
    let some : ℕ → Option ℕ = λ n. Some n in
    let none : Option ℕ = None in
    let within : r < length rs = omega (arith, count_of_registers s h) in
    get_or-append (map some rs) (replicate extra none) none r (omega (arith, length-map rs some))
    ∙ (get_or-map some rs r 0 none within ∙ ap some (value_at r s h low))
