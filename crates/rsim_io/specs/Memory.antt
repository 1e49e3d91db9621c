-- A shelf and a sink that are kept in memory.
use Rattle.std.specs.Prelude.{ℕ, List, refl}
use Rattle.std.specs.Coded.{Coded, code_by, coded×, coded_list, coded_ℕ}
use Rattle.std.specs.FinMap.{code}
use Rattle.rsim_io.specs.Failures.{FailuresView}
use Rattle.rsim_io.specs.Files.{Files}

-- the files, and the calls that fail
pub record ShelfInMemory : Type 0 where
  pub files : Files
  pub failing : FailuresView

-- the bytes that were written, and the calls that fail
pub record SinkInMemory : Type 0 where
  pub written : List ℕ
  pub failing : FailuresView

-- the files of a shelf that never fails but for names that are not held, and how often it was asked for such a name
pub record SureShelfInMemory : Type 0 where
  pub files : Files
  pub faults : ℕ

abbrev pub files_code : Coded Files
files_code = code (coded_list coded_ℕ) (coded_list coded_ℕ)

abbrev failing_code : Coded FailuresView
failing_code =
    code_by (List ℕ × (ℕ × ℕ)) (coded× (coded_list coded_ℕ) (coded× coded_ℕ coded_ℕ)) (λ f. (f.fails, (f.calls, f.faults))) (λ p. record { fails = p.0; calls = p.1.0; faults = p.1.1 }) (λ _. refl)

abbrev pub shelf_code : Coded ShelfInMemory
shelf_code =
    code_by (Files × FailuresView) (coded× files_code failing_code) (λ s. (s.files, s.failing)) (λ p. record { files = p.0; failing = p.1 }) (λ _. refl)

abbrev pub sure_shelf_code : Coded SureShelfInMemory
sure_shelf_code =
    code_by (Files × ℕ) (coded× files_code coded_ℕ) (λ s. (s.files, s.faults)) (λ p. record { files = p.0; faults = p.1 }) (λ _. refl)
