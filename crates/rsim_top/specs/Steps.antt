-- The steps of the commands before anything is written, and what each of them refuses.
use Rattle.std.specs.Prelude.{ℕ, ◌*◌, not, nat_le, List, Option, option_map}
use Rattle.std.specs.Option.{option_or}
use Rattle.rsim_base.specs.Limits.{max_steps}
use Rattle.machine_config.specs.Faults.{first_fault as config_fault, given}
use Rattle.machine_config.specs.Keys.{processors, retire_width}
use Rattle.elf64_load.specs.Faults.{first_fault as elf_fault}
use Rattle.rsim_top.specs.declared.refusal.File.TheVariants as file
use Rattle.rsim_top.specs.declared.refusal.Refusal.{Refusal}
use Rattle.rsim_top.specs.declared.refusal.Refusal.TheVariants as refusal
use Rattle.rsim_top.specs.TwoFiles.{TwoFiles, when}

-- the longest configuration, executable and order, in bytes
abbrev pub longest_config : ℕ
longest_config = 65536

abbrev pub longest_exe : ℕ
longest_exe = 16777216

abbrev pub longest_order : ℕ
longest_order = 1073741824

-- a configuration with a fault, and one with which the run may retire more than 8,000,000 instructions
abbrev pub setup_refusal : ℕ → List ℕ → Option Refusal
setup_refusal cycles text =
    option_or (option_map refusal.Config (config_fault text))
    (when (not (nat_le (cycles * given text processors * given text retire_width) max_steps)) refusal.TooLong)

-- an executable with a fault
abbrev pub image_refusal : List ℕ → Option Refusal
image_refusal exe = option_map refusal.Elf (elf_fault exe)

-- what `rsim` fetches, and refuses before a run of so many cycles
abbrev pub run_files : ℕ → List ℕ → List ℕ → TwoFiles
run_files cycles config exe = record {
  first = file.Config;
  first_name = config;
  first_limit = longest_config;
  second = file.Exe;
  second_name = exe;
  second_limit = longest_exe;
  refuses = λ text bytes. option_or (setup_refusal cycles text) (image_refusal bytes);
}

-- what `rsimcheck` fetches, and refuses before the check
abbrev pub check_files : List ℕ → List ℕ → TwoFiles
check_files exe order = record {
  first = file.Exe;
  first_name = exe;
  first_limit = longest_exe;
  second = file.Order;
  second_name = order;
  second_limit = longest_order;
  refuses = λ bytes text. image_refusal bytes;
}
