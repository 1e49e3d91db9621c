-- The text of a report.
use Rattle.std.specs.Prelude.{ℕ, ◌+◌, List, [], ◌∷◌, ◌++◌, length, replicate, codes, decimal}
use Rattle.std.specs.List.{concat}
use Rattle.order_certificate.specs.Hex.{hex}
use Rattle.sparc_meaning.specs.declared.arch.End.{End}
use Rattle.sparc_meaning.specs.declared.arch.End.TheVariants.{Running, Exit, Trapped}

abbrev pub end_text : End → List ℕ
end_text Running = codes "running"
end_text (Exit status) = codes "exit " ++ decimal status
end_text (Trapped trap pc) = codes "trap " ++ (hex 3 trap ++ (codes " " ++ hex 16 pc))

-- the line of processor p: the steps that it retired, and how it ended
abbrev pub processor_line : ℕ → ℕ → End → List ℕ
processor_line p retired how =
    codes "processor " ++ decimal p ++ codes " retired " ++ decimal retired ++ codes " " ++ end_text how ++ codes "\n"

-- the lines of processors, the first of them number p
abbrev pub processor_lines : ℕ → List ℕ → List End → List ℕ
processor_lines p (retired ∷ counts) (how ∷ ends) = processor_line p retired how ++ processor_lines (p + 1) counts ends
processor_lines p [] ends = []
processor_lines p (retired ∷ counts) [] = []

-- the output of processor p, behind its length
abbrev pub output_text : ℕ → List ℕ → List ℕ
output_text p output = codes "output " ++ decimal p ++ codes " " ++ decimal (length output) ++ codes "\n" ++ output ++ codes "\n"

-- the outputs of processors, the first of them number p
abbrev pub outputs_text : ℕ → List (List ℕ) → List ℕ
outputs_text p [] = []
outputs_text p (output ∷ outputs) = output_text p output ++ outputs_text (p + 1) outputs

-- the names of the counters, in their order
abbrev pub counter_names : List (List ℕ)
counter_names =
    codes "fetched" ∷ codes "dispatched" ∷ codes "issued" ∷ codes "bound" ∷ codes "forwarded" ∷ codes "settled"
    ∷ codes "performed" ∷ codes "squashed" ∷ codes "mispredicts" ∷ codes "rollbacks" ∷ codes "wishes" ∷ codes "lost" ∷ []

-- the line of each counter
abbrev pub count_lines : List (List ℕ) → List ℕ → List ℕ
count_lines (name ∷ names) (count ∷ counts) = concat (
    codes "count " ∷ name ∷ codes " " ∷ decimal count ∷ codes "\n" ∷ count_lines names counts ∷ [])
count_lines [] counts = []
count_lines (name ∷ names) [] = []

-- where nothing is counted
abbrev pub no_counts : List ℕ
no_counts = replicate 12 0

-- what stands before the processors' lines, and behind their outputs
abbrev pub report_head : ℕ → List ℕ
report_head cycles = codes "rsim report 1\ncycles " ++ decimal cycles ++ codes "\n"

abbrev pub report_foot : ℕ → List ℕ → List ℕ
report_foot unperformed counters = codes "unperformed " ++ decimal unperformed ++ codes "\n" ++ count_lines counter_names counters ++ codes "end\n"

-- the report of a run: its cycles, and by processor the retired steps, the end and the output; then the
-- retired stores that were not performed, and the counters
unfoldable pub report : ℕ → List ℕ → List End → List (List ℕ) → ℕ → List ℕ → List ℕ
report cycles retired ends outputs unperformed counters =
    report_head cycles ++ processor_lines 0 retired ends ++ outputs_text 0 outputs ++ report_foot unperformed counters
