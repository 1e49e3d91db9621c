-- The texts of the machine's order and report, piece by piece.
use Rattle.std.proofs.Common.{◌≡◌, ◌≤◌, ◌+◌, ◌<◌, ℕ, zero, suc, add-one, List, [], ◌∷◌, ◌++◌, length, map, drop, codes, decimal, Some, IfSome, slice_get, append_assoc, append-nil, arith, refl, sym, ap, subst, ◌∙◌}
use Rattle.std.proofs.lemmas.Fmt.{decimal_digit}
use Rattle.std.specs.List.{flat_map}
use Rattle.rsim_base.specs.declared.memory.Model.{Model}
use Rattle.order_certificate.specs.OrderText.{heading, line, ending}
use Rattle.cycle_loop.specs.Answers.{IsOf, waiting_stores}
use Rattle.cycle_loop.specs.Machine.{CoreView, MachineView}
use Rattle.rsim_top.specs.Machine.{accesses_of, counts_of, order_of, report_of}
use Rattle.rsim_top.specs.ReportText.{count_lines, counter_names, no_counts, output_text, outputs_text, processor_line, processor_lines, report, report_foot, report_head}
use Rattle.list_facts.specs.Places.{slice_get_below}

-- the heading, all lines, and the end
pub order_of-parts : (model : Model) (v : MachineView) → (heading model (length v.cores) ++ flat_map line (accesses_of v)) ++ ending (counts_of v) ≡ order_of model v
unfolding order_of
order_of-parts model v = refl

-- ---- a list that is put processor by processor

-- what is put for one processor, and for those from number p on
pub record IsPutEach (one : ℕ → CoreView → List ℕ) (all : ℕ → List CoreView → List ℕ) : Type 0 where
  pub none : (p : ℕ) → all p [] ≡ []
  pub more : (p : ℕ) (c : CoreView) (cs : List CoreView) → all p (c ∷ cs) ≡ one p c ++ all (p + 1) cs

drop_at : {A : Type 0} (xs : List A) (i : ℕ) (x : A) → slice_get xs i ≡ Some x → drop i xs ≡ x ∷ drop (suc i) xs
drop_at [] i x at = absurd cc
drop_at (y ∷ xs) zero x at = cc
drop_at (y ∷ xs) (suc i) x at = drop_at xs i x at

pub drop_next : {A : Type 0} (xs : List A) (i : ℕ) (x : A) → slice_get xs i ≡ Some x → drop i xs ≡ x ∷ drop (i + 1) xs
drop_next xs i x at = rw add-one (drop_at xs i x at)

pub drop_past : {A : Type 0} (xs : List A) (i : ℕ) → length xs ≤ i → drop i xs ≡ []
drop_past [] zero past = refl
drop_past [] (suc i) past = refl
drop_past (x ∷ xs) zero past = absurd (omega arith)
drop_past (x ∷ xs) (suc i) past = drop_past xs i (omega arith)

-- with processor p put too
pub put_more : (one : ℕ → CoreView → List ℕ) (all : ℕ → List CoreView → List ℕ) → IsPutEach one all → (cores : List CoreView) (p : ℕ) (text grown whole : List ℕ) → p < length cores →
    IsOf cores p (λ c. grown ≡ text ++ one p c) → text ++ all p (drop p cores) ≡ whole → grown ++ all (p + 1) (drop (p + 1) cores) ≡ whole
put_more one all each cores p text grown whole within of so_far =
    let core = slice_get_below cores p within in
    let is : grown ≡ text ++ one p core.0 = subst (λ o. IfSome o (λ c. grown ≡ text ++ one p c)) core.1 of in
    let rest = drop_next cores p core.0 core.1 in
    ap (λ t. t ++ all (p + 1) (drop (p + 1) cores)) is
    ∙ append_assoc text (one p core.0) (all (p + 1) (drop (p + 1) cores))
    ∙ ap (λ t. text ++ t) (sym (each.more p core.0 (drop (p + 1) cores)) ∙ ap (all p) (sym rest))
    ∙ so_far

-- with all put
pub put_all : (one : ℕ → CoreView → List ℕ) (all : ℕ → List CoreView → List ℕ) → IsPutEach one all → (cores : List CoreView) (p : ℕ) (text whole : List ℕ) → length cores ≤ p →
    text ++ all p (drop p cores) ≡ whole → text ≡ whole
put_all one all each cores p text whole past so_far =
    sym (append-nil text) ∙ ap (λ t. text ++ t) (sym (each.none p) ∙ ap (all p) (sym (drop_past cores p past))) ∙ so_far

-- what is so of a processor by one of its fields
pub IsOf-map : (cores : List CoreView) (p : ℕ) (P Q : CoreView → Type 0) → ((c : CoreView) → P c → Q c) → p < length cores → IsOf cores p P → IsOf cores p Q
IsOf-map cores p P Q f within of =
    let core = slice_get_below cores p within in
    subst (λ o. IfSome o Q) (sym core.1) (f core.0 (subst (λ o. IfSome o P) core.1 of))

-- two facts of one processor
pub IsOf-both : (cores : List CoreView) (p : ℕ) (P Q R : CoreView → Type 0) → ((c : CoreView) → P c → Q c → R c) → p < length cores → IsOf cores p P → IsOf cores p Q → IsOf cores p R
IsOf-both cores p P Q R f within of also =
    let core = slice_get_below cores p within in
    subst (λ o. IfSome o R) (sym core.1) (f core.0 (subst (λ o. IfSome o P) core.1 of) (subst (λ o. IfSome o Q) core.1 also))

-- ---- the lines, outputs and counts of processors

abbrev pub line_of : ℕ → CoreView → List ℕ
line_of p c = processor_line p c.retired c.arch.end

abbrev pub lines_from : ℕ → List CoreView → List ℕ
lines_from p cores = processor_lines p (map (λ c. c.retired) cores) (map (λ c. c.arch.end) cores)

pub lines_put : IsPutEach line_of lines_from
lines_put = record { none = λ p. refl; more = λ p c cs. refl }

abbrev pub output_of : ℕ → CoreView → List ℕ
output_of p c = output_text p c.output

abbrev pub outputs_from : ℕ → List CoreView → List ℕ
outputs_from p cores = outputs_text p (map (λ c. c.output) cores)

pub outputs_put : IsPutEach output_of outputs_from
outputs_put = record { none = λ p. refl; more = λ p c cs. refl }

abbrev pub count_of : ℕ → CoreView → List ℕ
count_of p c = c.retired ∷ []

abbrev pub counts_from : ℕ → List CoreView → List ℕ
counts_from p cores = map (λ c. c.retired) cores

pub counts_put : IsPutEach count_of counts_from
counts_put = record { none = λ p. refl; more = λ p c cs. refl }

-- ---- the report

pub head_put : (before mid text : List ℕ) (cycles : ℕ) → mid ≡ before ++ codes "rsim report 1\ncycles " → text ≡ mid ++ decimal cycles ++ 10 ∷ [] → text ≡ before ++ report_head cycles
head_put before mid text cycles one two = two ∙ ap (λ t. t ++ decimal cycles ++ 10 ∷ []) one ∙ simp append_assoc

pub output_put : (before one two three four text out : List ℕ) (p : ℕ) → one ≡ before ++ codes "output " → two ≡ one ++ decimal p ++ 32 ∷ [] → three ≡ two ++ decimal (length out) ++ 10 ∷ [] → four ≡ three ++ out →
    text ≡ four ++ codes "\n" → text ≡ before ++ output_text p out
output_put before one two three four text out p first second third fourth last =
    last
    ∙ ap (λ t. t ++ codes "\n") (fourth ∙ ap (λ t. t ++ out) (third ∙ ap (λ t. t ++ decimal (length out) ++ 10 ∷ []) (second ∙ ap (λ t. t ++ decimal p ++ 32 ∷ []) first)))
    ∙ simp append_assoc

-- the counters where nothing is counted
abbrev pub uncounted : List ℕ
uncounted = codes "count fetched 0\ncount dispatched 0\ncount issued 0\ncount bound 0\ncount forwarded 0\ncount settled 0\ncount performed 0\ncount squashed 0\ncount mispredicts 0\ncount rollbacks 0\ncount wishes 0\ncount lost 0\nend\n"

counted_none : count_lines counter_names no_counts ++ codes "end\n" ≡ uncounted
counted_none = rw (decimal_digit 0 (omega arith)) refl

foot_text : (unperformed : ℕ) → report_foot unperformed no_counts ≡ codes "unperformed " ++ (decimal unperformed ++ (10 ∷ uncounted))
foot_text unperformed =
    let lines = count_lines counter_names no_counts in
    let word = codes "unperformed " in
    let number = decimal unperformed in
    append_assoc (word ++ number ++ codes "\n") lines (codes "end\n")
    ∙ append_assoc (word ++ number) (codes "\n") (lines ++ codes "end\n")
    ∙ append_assoc word number (codes "\n" ++ (lines ++ codes "end\n"))
    ∙ ap (λ t. word ++ (number ++ (10 ∷ t))) counted_none

pub foot_put : (before one two text counts : List ℕ) (unperformed : ℕ) → one ≡ before ++ codes "unperformed " → two ≡ one ++ decimal unperformed ++ 10 ∷ [] → text ≡ two ++ counts → counts ≡ uncounted →
    text ≡ before ++ report_foot unperformed no_counts
foot_put before one two text counts unperformed first next last is =
    let word = codes "unperformed " in
    let number = decimal unperformed in
    last
    ∙ ap (λ t. two ++ t) is
    ∙ ap (λ t. t ++ uncounted) (next ∙ ap (λ t. t ++ decimal unperformed ++ 10 ∷ []) first)
    ∙ append_assoc (before ++ word ++ number) (10 ∷ []) uncounted
    ∙ append_assoc (before ++ word) number (10 ∷ uncounted)
    ∙ append_assoc before word (number ++ (10 ∷ uncounted))
    ∙ ap (λ t. before ++ t) (sym (foot_text unperformed))

pub report_put : (v : MachineView) (t0 t1 t2 t3 t4 : List ℕ) → t0 ≡ [] → t1 ≡ t0 ++ report_head v.cycles → t2 ≡ t1 ++ lines_from 0 v.cores → t3 ≡ t2 ++ outputs_from 0 v.cores →
    t4 ≡ t3 ++ report_foot (waiting_stores v.cores) no_counts → t4 ≡ report_of v
unfolding report_of report
report_put v t0 t1 t2 t3 t4 none head lines outputs foot =
    foot ∙ ap (λ t. t ++ report_foot (waiting_stores v.cores) no_counts) (outputs ∙ ap (λ t. t ++ outputs_from 0 v.cores) (lines ∙ ap (λ t. t ++ lines_from 0 v.cores) (head ∙ ap (λ t. t ++ report_head v.cycles) none)))
