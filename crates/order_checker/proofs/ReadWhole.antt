-- A load that memory's value explains whole.
use Rattle.std.proofs.Common.{◌≡◌, ◌<◌, ◌+◌, ◌%◌, ◌^◌, ◌==◌, ℕ, None, sym, ap, subst, ◌∙◌, arith}
use Rattle.std.proofs.lemmas.Bool.{eq-eqb, cond-true}
use Rattle.rsim_base.specs.Bytes.{byte_of, count_of, gap_of}
use Rattle.rsim_base.specs.declared.memory.Access.{Access}
use Rattle.rsim_base.specs.declared.memory.Size.{Size}
use Rattle.rsim_base.specs.declared.memory.Size.TheVariants.{B1, B2, B4, B8}
use Rattle.elf64_load.specs.Image.{ImageView}
use Rattle.image_memory.specs.Memory.{IsValueAt, byte_in}
use Rattle.image_memory.specs.declared.memory.Memory.{Memory}
use Rattle.order_certificate.specs.Certificate.{CertificateView}
use Rattle.order_checker.specs.declared.walk.Walk.{Walk}
use Rattle.order_checker.specs.Faults.{source_byte, wrong}
use Rattle.order_checker.specs.Firsts.{first}
use Rattle.order_checker.specs.Values.{loaded_byte}
use Rattle.order_checker.specs.Walking.{HasWritten, IsAtLine, latest_left, touches}
use Rattle.order_checker.proofs.Covered.{none_writes}
use Rattle.order_checker.proofs.FirstOnes.{first_none-from}
use Rattle.order_checker.proofs.Latest.{source_before}

-- the bytes of an aligned access do not go round
in_range : (n : Size) (addr b : ℕ) → addr % count_of n ≡ 0 → addr < 2 ^ 64 → b < count_of n → addr + b < 2 ^ 64
in_range B1 addr b aligned fits below = omega arith
in_range B2 addr b aligned fits below = omega arith
in_range B4 addr b aligned fits below = omega arith
in_range B8 addr b aligned fits below = omega arith

same_byte : (n : Size) (addr b : ℕ) → addr % count_of n ≡ 0 → addr < 2 ^ 64 → b < count_of n → (addr + b) % 2 ^ 64 ≡ addr + b
same_byte n addr b aligned fits below = let in_64 = in_range n addr b aligned fits below in omega (arith, in_64)

gap_back : (addr b : ℕ) → addr < 2 ^ 64 → addr + b < 2 ^ 64 → gap_of addr (addr + b) ≡ b
gap_back addr b fits in_64 = omega arith

pub right_whole : (image : ImageView) (c : CertificateView) (j : ℕ) (e : Access) (w : Walk) (memory : Memory) (value : ℕ) → IsAtLine image c j e w → HasWritten image c.lines j memory →
    e.addr.0 % count_of e.size ≡ 0 → latest_left (touches e) c.lines e w ≡ None → IsValueAt image memory e.addr.0 e.size value → value ≡ e.loaded → first (wrong image c.lines j e) (count_of e.size) ≡ None
right_whole image c j e w memory value at written aligned none_left found same = first_none-from (wrong image c.lines j e) (count_of e.size) (λ b below. right b below)
  where
    right : (b : ℕ) → b < count_of e.size → wrong image c.lines j e b ≡ None
    right b below =
        let fits = (at.certificate.in_text j e at.stands).printable.addr in
        let byte = (e.addr.0 + b) % 2 ^ 64 in
        let byte_is : byte ≡ e.addr.0 + b = same_byte e.size e.addr.0 b aligned fits below in
        let in_64 : byte < 2 ^ 64 = subst (λ n. n < 2 ^ 64) (sym byte_is) (in_range e.size e.addr.0 b aligned fits below) in
        let gap : gap_of e.addr.0 byte ≡ b = ap (gap_of e.addr.0) byte_is ∙ gap_back e.addr.0 b fits (in_range e.size e.addr.0 b aligned fits below) in
        let none = none_writes image c j e w at none_left b below in
        let source : source_byte image c.lines j e byte ≡ loaded_byte e byte =
        source_before image c j e w byte at none ∙ sym (written byte in_64) ∙ ap (byte_in image memory) byte_is ∙ sym (found b below)
        ∙ ap (λ v. byte_of v (count_of e.size) b) same ∙ ap (byte_of e.loaded (count_of e.size)) (sym gap) in
        cond-true (source_byte image c.lines j e byte == loaded_byte e byte) None _ (eq-eqb _ _ source)
