-- The exit status of a program for each refusal, and the refusal for a write that failed.
use Rattle.std.specs.Prelude.{ℕ}
use Rattle.rsim_io.specs.declared.shelf.StoreFault.{StoreFault}
use Rattle.rsim_io.specs.declared.shelf.StoreFault.TheVariants.{Failed, Memory as StoreMemory}
use Rattle.rsim_top.specs.declared.refusal.File.{File}
use Rattle.rsim_top.specs.declared.refusal.File.TheVariants as file
use Rattle.rsim_top.specs.declared.refusal.Refusal.{Refusal}
use Rattle.rsim_top.specs.declared.refusal.Refusal.TheVariants.{Words, Read, Big, Config, TooLong, Unbuilt, Elf, Write, Memory}

abbrev pub code_of : Refusal → ℕ
code_of (Words fault) = 2
code_of (Config fault) = 3
code_of (Big file.Config) = 3
code_of TooLong = 3
code_of Unbuilt = 3
code_of (Elf fault) = 4
code_of (Big file.Exe) = 4
code_of (Big file.Order) = 5
code_of (Big file.Report) = 5
code_of (Read which) = 5
code_of (Write which) = 6
code_of Memory = 7

abbrev pub write_refusal_of : File → StoreFault → Refusal
write_refusal_of which Failed = Write which
write_refusal_of which StoreMemory = Memory
