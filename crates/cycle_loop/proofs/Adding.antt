-- The access that a step adds to the order, and memory after it.
use Rattle.std.proofs.Common.{◌≡◌, ◌⊎◌, ◌+◌, ◌*◌, ◌%◌, ◌<◌, ◌^◌, nat_lt, ℕ, Bool, true, false, if◌then◌else◌, List, [], ◌∷◌, length, Some, refl, sym, ap, subst, ◌∙◌, inl, inr, arith}
use Rattle.std.proofs.Math.Nat.{mod-lt}
use Rattle.std.proofs.lemmas.Nat.{pow_pos}
use Rattle.rsim_base.specs.Accesses.{loads}
use Rattle.rsim_base.specs.Bytes.{byte_of, count_of, gap_of, IsByteOf, FitsIn}
use Rattle.rsim_base.specs.ByteSets.{gap_of-IsByteOf, count_of-bounds}
use Rattle.rsim_base.specs.declared.memory.Access.{Access}
use Rattle.rsim_base.specs.declared.memory.Kind.TheVariants as kind
use Rattle.rsim_base.specs.declared.memory.Size.{Size}
use Rattle.rsim_base.specs.declared.memory.Size.TheVariants.{B1, B2, B4, B8}
use Rattle.elf64_load.specs.Image.{ImageView}
use Rattle.memory_contracts.specs.Store.{stored, value_at}
use Rattle.order_checker.specs.Faults.{writes}
use Rattle.order_checker.specs.Values.{loaded_byte, stored_byte}
use Rattle.order_checker.specs.Walking.{written_byte}
use Rattle.sparc_meaning.specs.declared.acts.Act.{Act}
use Rattle.sparc_meaning.specs.declared.acts.Act.TheVariants.{Nothing, Load, Store, Atomic, Fence, Out, End as Ended}
use Rattle.sparc_meaning.specs.declared.acts.Want.{Want}
use Rattle.sparc_meaning.specs.declared.arch.Arch.{Arch}
use Rattle.sparc_meaning.specs.Acts.{IsAligned, IsSized, HasFound, reads}
use Rattle.sparc_meaning.specs.Run.{accesses_of}
use Rattle.sparc_meaning.specs.Step.{step}
use Rattle.sparc_meaning.specs.StepReads.{step_reads, step_aligned, step_found, step_sized}
use Rattle.sparc_meaning.specs.Wants.{wanted}
use Rattle.sparc_meaning.specs.Accesses.{HasNumbers}
use Rattle.cycle_loop.specs.Machine.{bytes_after, next_step, value_found}
use Rattle.cycle_loop.specs.Stands.{IsTold}
use Rattle.cycle_loop.proofs.Explained.{byte_in_memory}
use Rattle.cycle_loop.proofs.Written.{stored-is, value_at-byte, value_at-fits}

-- ---- what a step has found

-- what is loaded is what memory has there
abbrev pub IsFoundIn : (ℕ → ℕ) → Act → Type 0
IsFoundIn bytes (Load addr n loaded) = loaded ≡ value_at bytes addr.0 (count_of n)
IsFoundIn bytes (Atomic addr n loaded stored) = loaded ≡ value_at bytes addr.0 (count_of n)
IsFoundIn bytes (Store addr n stored) = Unit {0}
IsFoundIn bytes Nothing = Unit {0}
IsFoundIn bytes (Fence mask) = Unit {0}
IsFoundIn bytes (Out spoken) = Unit {0}
IsFoundIn bytes Ended = Unit {0}

found_in : (bytes : ℕ → ℕ) (act : Act) → HasFound (value_found bytes (reads act)) act → IsFoundIn bytes act
found_in bytes (Load addr n loaded) found = found
found_in bytes (Atomic addr n loaded stored) found = found
found_in bytes (Store addr n stored) found = tt
found_in bytes Nothing found = tt
found_in bytes (Fence mask) found = tt
found_in bytes (Out spoken) found = tt
found_in bytes Ended found = tt

-- what is known of the act of each step
pub record IsActOn (bytes : ℕ → ℕ) (act : Act) : Type 0 where
  pub aligned : IsAligned act
  pub sized : IsSized act
  pub found : IsFoundIn bytes act

pub next_step-act : (image : ImageView) (bytes : ℕ → ℕ) (arch : Arch) → IsActOn bytes (next_step image bytes arch).act
next_step-act image bytes arch =
    let value = value_found bytes (wanted image arch) in
    record {
      aligned = step_aligned image arch value;
      sized = step_sized image arch value;
      found = found_in bytes (step image arch value).act
          (subst (λ (w : Want). HasFound (value_found bytes w) (step image arch value).act) (sym (step_reads image arch value)) (step_found image arch value));
    }

-- ---- the access

-- memory is what the order has written, and its bytes are bytes
pub record IsMemory (image : ImageView) (order : List Access) (bytes : ℕ → ℕ) : Type 0 where
  pub written : (a : ℕ) → a < 2 ^ 64 → bytes a ≡ written_byte image order (length order) a
  pub small : (a : ℕ) → a < 2 ^ 64 → bytes a < 256

-- the access has this place in its program, memory has what it has loaded, and then what it has stored
pub record Adds (image : ImageView) (order : List Access) (bytes after : ℕ → ℕ) (p i : ℕ) (e : Access) : Type 0 where
  pub node : e.node.0 ≡ p
  pub index : e.index ≡ i
  pub told : IsTold e
  pub value : loads e.kind ≡ true → (byte : ℕ) → IsByteOf byte e.addr.0 (count_of e.size) → loaded_byte e byte ≡ written_byte image order (length order) byte
  pub after_it : (a : ℕ) → a < 2 ^ 64 → after a ≡ (if writes a (Some e) then stored_byte e a else bytes a)
  pub small : (a : ℕ) → a < 2 ^ 64 → after a < 256

-- how far a byte of an aligned access is above its address
above_address : (n : Size) (addr byte : ℕ) → addr % count_of n ≡ 0 → addr < 2 ^ 64 → IsByteOf byte addr (count_of n) → addr + gap_of addr byte ≡ byte
above_address B1 addr byte aligned fits (k, below, is) = omega arith
above_address B2 addr byte aligned fits (k, below, is) = omega arith
above_address B4 addr byte aligned fits (k, below, is) = omega arith
above_address B8 addr byte aligned fits (k, below, is) = omega arith

-- no byte of an aligned access is past the last address
in_memory : (n : Size) (addr i : ℕ) → addr % count_of n ≡ 0 → addr < 2 ^ 64 → i < count_of n → addr + i < 2 ^ 64
in_memory B1 addr i aligned fits below = omega arith
in_memory B2 addr i aligned fits below = omega arith
in_memory B4 addr i aligned fits below = omega arith
in_memory B8 addr i aligned fits below = omega arith

found_bytes : (image : ImageView) (order : List Access) (bytes : ℕ → ℕ) (e : Access) → IsMemory image order bytes → e.addr.0 % count_of e.size ≡ 0 → e.addr.0 < 2 ^ 64 →
    e.loaded ≡ value_at bytes e.addr.0 (count_of e.size) → (byte : ℕ) → IsByteOf byte e.addr.0 (count_of e.size) → loaded_byte e byte ≡ written_byte image order (length order) byte
found_bytes image order bytes e memory aligned fits found byte here =
    ap (λ v. byte_of v (count_of e.size) (gap_of e.addr.0 byte)) found
    ∙ value_at-byte bytes e.addr.0 e.size (gap_of e.addr.0 byte) (λ i low. memory.small (e.addr.0 + i) (in_memory e.size e.addr.0 i aligned fits low))
    (gap_of-IsByteOf byte e.addr.0 (count_of e.size) fits (count_of-bounds e.size).1 here)
    ∙ ap bytes (above_address e.size e.addr.0 byte aligned fits here)
    ∙ memory.written byte (byte_in_memory byte e.addr.0 (count_of e.size) here)

found_fits : (image : ImageView) (order : List Access) (bytes : ℕ → ℕ) (addr : ℕ) (n : Size) (loaded : ℕ) → IsMemory image order bytes → addr % count_of n ≡ 0 → addr < 2 ^ 64 →
    loaded ≡ value_at bytes addr (count_of n) → FitsIn n loaded
found_fits image order bytes addr n loaded memory aligned fits found =
    subst (FitsIn n) (sym found) (value_at-fits bytes addr n (λ i low. memory.small (addr + i) (in_memory n addr i aligned fits low)))

chosen_small : (b : Bool) (x y : ℕ) → x < 256 → y < 256 → (if b then x else y) < 256
chosen_small true x y p q = p
chosen_small false x y p q = q

stored_small : (bytes : ℕ → ℕ) (addr : ℕ) (n : Size) (value a : ℕ) → addr % count_of n ≡ 0 → addr < 2 ^ 64 → a < 2 ^ 64 → bytes a < 256 → stored bytes addr (count_of n) value a < 256
stored_small bytes addr n value a aligned fits byte small =
    subst (λ (x : ℕ). x < 256) (sym (stored-is bytes addr n value a aligned fits byte))
    (chosen_small (nat_lt (gap_of addr a) (count_of n)) (byte_of value (count_of n) (gap_of addr a)) (bytes a) (mod-lt _ (omega arith)) small)

-- A step makes no access and leaves memory as it is, or adds one.
pub adds : (image : ImageView) (order : List Access) (bytes : ℕ → ℕ) (p i : ℕ) (act : Act) → IsMemory image order bytes → IsActOn bytes act →
    ((e : Access) → accesses_of p i act ≡ e ∷ [] → HasNumbers e) →
    ((accesses_of p i act ≡ []) × (bytes_after act bytes ≡ bytes)) ⊎ ((e : Access) × (accesses_of p i act ≡ e ∷ []) × Adds image order bytes (bytes_after act bytes) p i e)
adds image order bytes p i Nothing memory is numbers = inl (refl, refl)
adds image order bytes p i (Fence mask) memory is numbers = inl (refl, refl)
adds image order bytes p i (Out spoken) memory is numbers = inl (refl, refl)
adds image order bytes p i Ended memory is numbers = inl (refl, refl)
adds image order bytes p i (Load addr n loaded) memory is numbers =
    let has = numbers _ refl in inr (
      _,
      refl,
      record {
        node = refl;
        index = refl;
        told = record {
          printable = record { addr = has.addr; loaded = found_fits image order bytes addr.0 n loaded memory is.aligned has.addr is.found; stored = pow_pos (8 * count_of n) };
          loaded = λ lacks. absurd cc;
          stored = λ lacks. refl;
        };
        value = λ is_load. found_bytes image order bytes (record { node = record { 0 = p }; kind = kind.Load; size = n; index = i; addr = addr; loaded = loaded; stored = 0 }) memory is.aligned has.addr is.found;
        after_it = λ a fits. refl;
        small = memory.small;
      },
    )
adds image order bytes p i (Store addr n value) memory is numbers =
    let has = numbers _ refl in inr (
      _,
      refl,
      record {
        node = refl;
        index = refl;
        told = record {
          printable = record { addr = has.addr; loaded = pow_pos (8 * count_of n); stored = is.sized has.stored };
          loaded = λ lacks. refl;
          stored = λ lacks. absurd cc;
        };
        value = λ is_load. absurd cc;
        after_it = λ a fits. stored-is bytes addr.0 n value a is.aligned has.addr fits;
        small = λ a fits. stored_small bytes addr.0 n value a is.aligned has.addr fits (memory.small a fits);
      },
    )
adds image order bytes p i (Atomic addr n loaded value) memory is numbers =
    let has = numbers _ refl in
    let fits_loaded = found_fits image order bytes addr.0 n loaded memory is.aligned has.addr is.found in inr (
      _,
      refl,
      record {
        node = refl;
        index = refl;
        told = record {
          printable = record { addr = has.addr; loaded = fits_loaded; stored = is.sized fits_loaded };
          loaded = λ lacks. absurd cc;
          stored = λ lacks. absurd cc;
        };
        value = λ is_load. found_bytes image order bytes (record { node = record { 0 = p }; kind = kind.Atomic; size = n; index = i; addr = addr; loaded = loaded; stored = value }) memory is.aligned has.addr is.found;
        after_it = λ a fits. stored-is bytes addr.0 n value a is.aligned has.addr fits;
        small = λ a fits. stored_small bytes addr.0 n value a is.aligned has.addr fits (memory.small a fits);
      },
    )
