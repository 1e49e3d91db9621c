-- Laws of the step: it is told by its operands, and what is known of it before they are.
use Rattle.std.specs.Prelude.{◌≡◌, ℕ, Bool, true, false}
use Rattle.elf64_load.specs.Image.{ImageView}
use Rattle.sparc_decode.specs.declared.instr.Op.{Op}
use Rattle.sparc_decode.specs.Effects.{window_effect_of_form}
use Rattle.sparc_decode.specs.declared.kinds.FormKind.{FormKind}
use Rattle.sparc_decode.specs.declared.kinds.FormKind.TheVariants.{Loads, Stores, LoadsAndStoresByte, Swaps, ComparesAndSwaps}
use Rattle.sparc_decode.specs.Kinds.{kind}
use Rattle.sparc_meaning.specs.declared.acts.Act.TheVariants.{End as Ended}
use Rattle.sparc_meaning.specs.declared.acts.Want.TheVariants as want
use Rattle.sparc_meaning.specs.declared.arch.Arch.{Arch}
use Rattle.sparc_meaning.specs.declared.arch.ArchPhase.{ArchPhase}
use Rattle.sparc_meaning.specs.declared.arch.ArchPhase.TheVariants.{Run, Spill, Fill}
use Rattle.sparc_meaning.specs.declared.fetched.Fetched.{Fetched}
use Rattle.sparc_meaning.specs.declared.fetched.Operands.{Operands}
use Rattle.sparc_meaning.specs.Acts.{reads}
use Rattle.sparc_meaning.specs.Applied.{applied}
use Rattle.sparc_meaning.specs.Arch.{is_running}
use Rattle.sparc_meaning.specs.Computed.{computed}
use Rattle.sparc_meaning.specs.Fetched.{next_of, operands, spills_by, fills_by}
use Rattle.sparc_meaning.specs.Step.{step}
use Rattle.sparc_meaning.specs.Windows.{spills_first, fills_first, windows_of}

-- A step is what its operands compute, applied to the state. So what `sources` names is all that a step reads, and
-- what `dest` names is all that it writes, each time; the same holds of the steps of spills and fills.
abbrev pub StepIsComputed : Type 0
StepIsComputed = (image : ImageView) (s : Arch) (value : ℕ) →
    let f = next_of image s in let x = operands f s in step image s value ≡ applied f x (computed image f x) value s

-- A step that ends the processor changes nothing else.
abbrev pub EndsAlone : Type 0
EndsAlone = (image : ImageView) (s : Arch) (value : ℕ) → is_running s.end ≡ true → is_running (step image s value).state.end ≡ false
    → ((step image s value).state ≡ record s { end = (step image s value).state.end }) × ((step image s value).act ≡ Ended)

-- A step that reads nothing from memory doesn't look at the value that it is given.
abbrev pub OthersIgnoreTheValue : Type 0
OthersIgnoreTheValue = (image : ImageView) (s : Arch) (v w : ℕ) → reads (step image s v).act ≡ want.None → step image s w ≡ step image s v

-- a step accesses memory: those of spills and fills do
unfoldable pub accesses_by : FormKind → Bool
accesses_by (Loads n) = true
accesses_by (Stores n) = true
accesses_by LoadsAndStoresByte = true
accesses_by Swaps = true
accesses_by (ComparesAndSwaps n) = true
accesses_by _ = false

abbrev pub accesses : ArchPhase → FormKind → Bool
accesses Run k = accesses_by k
accesses (Spill n) k = true
accesses (Fill n) k = true

-- its address is a sum of two operands: not that of CASA and CASXA, nor that of a step of a spill or fill
unfoldable pub adds_by : FormKind → Bool
adds_by (ComparesAndSwaps n) = false
adds_by _ = true

abbrev pub adds : ArchPhase → FormKind → Bool
adds Run k = adds_by k
adds (Spill n) k = false
adds (Fill n) k = false

-- The trap and the address of an access, and all else that it computes, go by the operands of its address alone: the
-- first register, and where its address is a sum the register of operand 2.
abbrev pub AddressesAlone : Type 0
AddressesAlone = (image : ImageView) (f : Fetched) (x x' : Operands) → accesses f.part (kind f.instr.op) ≡ true → x'.a ≡ x.a
    → (adds f.part (kind f.instr.op) ≡ true → x'.b ≡ x.b) → computed image f x' ≡ computed image f x

-- An instruction spills or fills a window first exactly where its effect on the windows asks for that.
abbrev pub EffectsAsk : Type 0
EffectsAsk = (o : Op) (s : Arch) →
    (spills_first o s ≡ spills_by (window_effect_of_form o) (windows_of s)) × (fills_first o s ≡ fills_by (window_effect_of_form o) (windows_of s))
