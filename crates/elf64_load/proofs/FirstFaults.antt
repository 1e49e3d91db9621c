-- The rules of faults, one after the other and over all headers.
use Rattle.std.proofs.Common.{◌≡◌, ℕ, zero, suc, ◌+◌, ◌<◌, ◌≤◌, Bool, true, false, nat_lt, cond, List, [], ◌∷◌, ◌++◌, length, get_or, filter, sum_by, Option, Some, None, option_map, take, drop, not, Err, refl, ap, sym, ◌∙◌, inl, inr, zero-add, arith}
use Rattle.std.specs.List.{All, list_any, position}
use Rattle.std.specs.Option.{is_none, option_or}
use Rattle.std.proofs.lemmas.Bool.{cases_Bool, ltb-false}
use Rattle.std.proofs.lemmas.List.Elements.{All-cons, All-nil}
use Rattle.std.proofs.lemmas.List.Sums.{sum_by-cons}
use Rattle.list_facts.specs.Options.{option_or_assoc}
use Rattle.elf64_load.specs.Image.{fetched}
use Rattle.elf64_load.specs.Elf.{is_load, is_interp, meets_stacks, has_text, headers, entry_of, loaded}
use Rattle.elf64_load.specs.Faults.{when, first_some, segment_fault, segments_fault, shared, faults, first_fault, Loads}
use Rattle.elf64_load.specs.Layout.{size_of, IsInFile}
use Rattle.elf64_load.specs.declared.header.ProgramHeader.{ProgramHeader}
use Rattle.elf64_load.specs.declared.fault.ElfFault.{ElfFault}
use Rattle.elf64_load.specs.declared.fault.ElfFault.TheVariants.{Truncated, NotElf, NotBig64, NotSparcV9, NotExec, NoText, BadPhentsize, Interp, SegmentPastEnd, SegmentShort, SegmentWraps, TooLarge, StackOverlap, SharedBlock, BadEntry, Memory}

pub first_some-append : (xs ys : List (Option ElfFault)) → first_some (xs ++ ys) ≡ option_or (first_some xs) (first_some ys)
first_some-append [] ys = refl
first_some-append (x ∷ xs) ys =
    ap (option_or x) (first_some-append xs ys) ∙ sym (option_or_assoc x (first_some xs) (first_some ys))

-- where there is none in a list of two parts, there is none in either
pub none_of_both : {X : Type 0} (a b : Option X) → option_or a b ≡ None → (a ≡ None) × (b ≡ None)
none_of_both None b e = (refl, e)
none_of_both (Some x) b e = cc

-- a rule that finds no fault is met
pub when-None : (wrong : Bool) (fault : ElfFault) → when wrong fault ≡ None → wrong ≡ false
when-None true fault e = cc
when-None false fault e = refl

-- ---- all segments

abbrev pub total : List ProgramHeader → ℕ
total hs = sum_by (λ (h : ProgramHeader). h.memsz) (filter is_load hs)

pub total-cons : (h : ProgramHeader) (hs : List ProgramHeader) → total (h ∷ hs) ≡ size_of h + total hs
total-cons h hs =
    elim (is_load h) as (λ b. sum_by (λ (g : ProgramHeader). g.memsz) (cond b (h ∷ filter is_load hs) (filter is_load hs)) ≡ cond b h.memsz 0 + total hs) [
      | true ↦ sum_by-cons (λ (g : ProgramHeader). g.memsz) h (filter is_load hs)
      | false ↦ sym (zero-add (total hs))
    ]

pub total-sizes : (hs : List ProgramHeader) → sum_by size_of hs ≡ total hs
total-sizes [] = refl
total-sizes (h ∷ hs) =
    sum_by-cons size_of h hs ∙ ap (λ n. size_of h + n) (total-sizes hs) ∙ sym (total-cons h hs)

size_at : (hs : List ProgramHeader) (h : ProgramHeader) (k : ℕ) (d : ProgramHeader) → k < length (h ∷ hs) → size_of (get_or (h ∷ hs) k d) ≤ total (h ∷ hs)
size_at hs h zero d below = omega (arith, total-cons h hs)
size_at [] h (suc k) d below = absurd (omega arith)
size_at (g ∷ gs) h (suc k) d below =
    let later = size_at gs g k d (omega arith) in omega (arith, later, total-cons h (g ∷ gs))

-- none has more bytes than all together
pub size-le-total : (hs : List ProgramHeader) → All (λ h. size_of h ≤ total hs) hs
size-le-total [] = All-nil (λ h. size_of h ≤ 0)
size-le-total (h ∷ hs) = λ k d below. size_at hs h k d below

-- a segment without a fault of its own has its bytes in the file
in_file : (size i : ℕ) (h : ProgramHeader) → is_load h ≡ true → segment_fault size i h ≡ None → IsInFile size h
in_file size i h load e =
    let one = none_of_both _ _ e in
    let two = none_of_both _ _ one.1 in
    let past = ltb-false _ _ (when-None _ _ one.0) in
    let short = ltb-false _ _ (when-None _ _ two.0) in
    record { bytes = λ _. past; short = λ _. short }

in_file_or_none : (size i : ℕ) (h : ProgramHeader) → cond (is_load h) (segment_fault size i h) None ≡ None → IsInFile size h
in_file_or_none size i h e =
    elim (cases_Bool (is_load h)) [
      | inl pass ↦ in_file size i h pass (sym (rw pass refl) ∙ e)
      | inr fail ↦ record { bytes = λ pass. cc; short = λ pass. cc }
    ]

pub in_file-from_faults : (size i : ℕ) (hs : List ProgramHeader) → segments_fault size i hs ≡ None → All (IsInFile size) hs
in_file-from_faults size i [] e = All-nil (IsInFile size)
in_file-from_faults size i (h ∷ hs) e =
    let parts = none_of_both (cond (is_load h) (segment_fault size i h) None) (segments_fault size (i + 1) hs) e in
    All-cons (IsInFile size) h hs (in_file_or_none size i h parts.0) (in_file-from_faults size (i + 1) hs parts.1)

-- ---- the whole list

-- the rules on all headers, up to that of the mapped bytes
abbrev pub segment_rules : ℕ → List ProgramHeader → List (Option ElfFault)
segment_rules size hs =
    when (list_any is_interp hs) Interp
    ∷ segments_fault size 0 hs
    ∷ when (nat_lt 16777216 (sum_by (λ (h : ProgramHeader). h.memsz) (filter is_load hs))) TooLarge
    ∷ []

-- and those behind it
abbrev pub last_rules : List ℕ → List ProgramHeader → List (Option ElfFault)
last_rules file hs =
    option_map StackOverlap (position meets_stacks hs)
    ∷ shared 0 hs
    ∷ when (not (list_any has_text hs)) NoText
    ∷ when (is_none (fetched (loaded file) (entry_of file))) BadEntry
    ∷ []

pub fault-from_rules : (file : List ℕ) (hs : List ProgramHeader) → hs ≡ headers file → first_some (take 8 (faults file)) ≡ None → first_fault file ≡ option_or (first_some (segment_rules (length file) hs)) (first_some (last_rules file hs))
fault-from_rules file hs same none =
    first_some-append (take 8 (faults file)) (drop 8 (faults file))
    ∙ ap (λ o. option_or o (first_some (drop 8 (faults file)))) none
    ∙ first_some-append (segment_rules (length file) (headers file)) (last_rules file (headers file))
    ∙ ap (λ gs. option_or (first_some (segment_rules (length file) gs)) (first_some (last_rules file gs))) (sym same)

-- an answer of a first fault
pub Loads-fault : (file : List ℕ) (fault : ElfFault) → first_fault file ≡ Some fault → Loads file (Err fault)
Loads-fault file (Truncated n) e = e
Loads-fault file NotElf e = e
Loads-fault file NotBig64 e = e
Loads-fault file NotSparcV9 e = e
Loads-fault file NotExec e = e
Loads-fault file NoText e = e
Loads-fault file BadPhentsize e = e
Loads-fault file Interp e = e
Loads-fault file (SegmentPastEnd i) e = e
Loads-fault file (SegmentShort i) e = e
Loads-fault file (SegmentWraps i) e = e
Loads-fault file TooLarge e = e
Loads-fault file (StackOverlap i) e = e
Loads-fault file (SharedBlock i j) e = e
Loads-fault file BadEntry e = e
Loads-fault file Memory e = tt

-- the first fault, by what each part of the list finds
pub first_fault-is : (file : List ℕ) (hs : List ProgramHeader) → hs ≡ headers file → first_some (take 8 (faults file)) ≡ None → (a b c d e : Option ElfFault) → a ≡ first_some (segment_rules (length file) hs) → b ≡ option_map StackOverlap (position meets_stacks hs) → c ≡ shared 0 hs → d ≡ when (not (list_any has_text hs)) NoText → e ≡ when (is_none (fetched (loaded file) (entry_of file))) BadEntry → first_fault file ≡ option_or a (option_or b (option_or c (option_or d (option_or e None))))
first_fault-is file hs same none a b c d e p q r s t =
    fault-from_rules file hs same none
    ∙ sym (ap (λ o. option_or o (option_or b (option_or c (option_or d (option_or e None))))) p
    ∙ ap (λ o. option_or (first_some (segment_rules (length file) hs)) (option_or o (option_or c (option_or d (option_or e None))))) q
    ∙ ap (λ o. option_or (first_some (segment_rules (length file) hs)) (option_or (option_map StackOverlap (position meets_stacks hs)) (option_or o (option_or d (option_or e None))))) r
    ∙ ap (λ o. option_or (first_some (segment_rules (length file) hs)) (option_or (option_map StackOverlap (position meets_stacks hs)) (option_or (shared 0 hs) (option_or o (option_or e None))))) s
    ∙ ap (λ o. option_or (first_some (segment_rules (length file) hs)) (option_or (option_map StackOverlap (position meets_stacks hs)) (option_or (shared 0 hs) (option_or (when (not (list_any has_text hs)) NoText) (option_or o None))))) t)

-- what the rules on all headers give where they find no fault
pub sound-segments : (size : ℕ) (hs : List ProgramHeader) → first_some (segment_rules size hs) ≡ None → All (IsInFile size) hs × (total hs ≤ 16777216)
sound-segments size hs e =
    let one = none_of_both _ _ e in
    let two = none_of_both _ _ one.1 in
    let three = none_of_both _ _ two.1 in
    (in_file-from_faults size 0 hs two.0, ltb-false _ _ (when-None _ _ three.0))

pub when-true : (wrong : Bool) (fault : ElfFault) → wrong ≡ true → Some fault ≡ when wrong fault
when-true wrong fault e = sym (ap (λ b. when b fault) e)

pub when-false : (wrong : Bool) (fault : ElfFault) → wrong ≡ false → None ≡ when wrong fault
when-false wrong fault e = sym (ap (λ b. when b fault) e)
