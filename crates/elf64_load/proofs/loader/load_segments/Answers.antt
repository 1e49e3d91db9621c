use Rattle.std.proofs.Common.{◌≡◌, ℕ, ◌≤◌, true, false, not, nat_lt, List, length, map, filter, Some, None, refl, sym, ap, ◌∙◌, arith, rules}
use Rattle.std.specs.Option.{is_none}
use Rattle.std.proofs.lemmas.List.Elements.{All-weaker}
use Rattle.std.proofs.lemmas.Result.{err_from_is_err_and}
use Rattle.elf64_load.specs.Image.{RegionView, ImageView, fetched}
use Rattle.elf64_load.specs.Elf.{entry_of, headers, is_load, loaded, region_of}
use Rattle.elf64_load.specs.Faults.{first_fault}
use Rattle.elf64_load.specs.Layout.{size_of}
use Rattle.elf64_load.specs.declared.header.ProgramHeader.{ProgramHeader}
use Rattle.elf64_load.specs.declared.fault.ElfFault.TheVariants.{BadEntry}
use Rattle.elf64_load.proofs.FirstFaults.{first_fault-is, Loads-fault, size-le-total, sound-segments, total, total-sizes, when-false, when-true}
use Rattle.elf64_load.proofs.loader.load_segments.Goals as goal

pub returns-in_err-mapped : goal.returns-in_err-mapped
returns-in_err-mapped c =
    let file : List ℕ = c.args.file.now in
    let fault = c.in_err-mapped.field-0.0 in
    let first : first_fault file ≡ Some fault = first_fault-is file c.args.headers.now c.requires.headers c.requires.table (Some fault) _ _ _ _ c.in_err-mapped.ensures.fault refl refl refl refl in
    let p = err_from_is_err_and c.from_residual.result c.from_residual.ensures.1 in
    rw (p.1, p.2) (Loads-fault file fault first)

pub returns-in_err-check_stacks : goal.returns-in_err-check_stacks
returns-in_err-check_stacks c =
    let file : List ℕ = c.args.file.now in
    let fault = c.in_err-check_stacks.field-0.0 in
    let first : first_fault file ≡ Some fault = first_fault-is file c.args.headers.now c.requires.headers c.requires.table None (Some fault) _ _ _ c.in_ok-mapped.ensures.fault c.in_err-check_stacks.ensures refl refl refl in
    let p = err_from_is_err_and c.from_residual-in_err-check_stacks.result c.from_residual-in_err-check_stacks.ensures.1 in
    rw (p.1, p.2) (Loads-fault file fault first)

pub spans_in_order-requires-clause-sizes : goal.spans_in_order-requires-clause-sizes
spans_in_order-requires-clause-sizes c =
    let hs = c.args.headers.now in
    let small = (sound-segments (length c.args.file.now) hs (sym c.in_ok-mapped.ensures.fault)).1 in
    All-weaker (λ (h : ProgramHeader). size_of h ≤ total hs) (λ (h : ProgramHeader). size_of h ≤ 16777216) (λ h le. omega (arith, le, small)) hs (size-le-total hs)

pub returns-in_err-check_blocks : goal.returns-in_err-check_blocks
returns-in_err-check_blocks c =
    let file : List ℕ = c.args.file.now in
    let fault = c.in_err-check_blocks.field-0.0 in
    let first : first_fault file ≡ Some fault = first_fault-is file c.args.headers.now c.requires.headers c.requires.table None None (Some fault) _ _ c.in_ok-mapped.ensures.fault c.in_ok-check_stacks.ensures c.in_err-check_blocks.ensures refl refl in
    let p = err_from_is_err_and c.from_residual-in_err-check_blocks.result c.from_residual-in_err-check_blocks.ensures.1 in
    rw (p.1, p.2) (Loads-fault file fault first)

pub returns-in_err-check_text : goal.returns-in_err-check_text
returns-in_err-check_text c =
    let file : List ℕ = c.args.file.now in
    let fault = c.in_err-check_text.field-0.0 in
    let first : first_fault file ≡ Some fault = first_fault-is file c.args.headers.now c.requires.headers c.requires.table None None None (Some fault) _ c.in_ok-mapped.ensures.fault c.in_ok-check_stacks.ensures c.in_ok-check_blocks.ensures c.in_err-check_text.ensures refl in
    let p = err_from_is_err_and c.from_residual-in_err-check_text.result c.from_residual-in_err-check_text.ensures.1 in
    rw (p.1, p.2) (Loads-fault file fault first)

pub load-requires-clause-bytes : goal.load-requires-clause-bytes
load-requires-clause-bytes c =
    (sound-segments (length c.args.file.now) c.args.headers.now (sym c.in_ok-mapped.ensures.fault)).0

pub load-requires-clause-mapped : goal.load-requires-clause-mapped
load-requires-clause-mapped c = c.in_ok-mapped.ensures.size ∙ sym (total-sizes c.args.headers.now)

pub load-requires-clause-small : goal.load-requires-clause-small
load-requires-clause-small c =
    let small = (sound-segments (length c.args.file.now) c.args.headers.now (sym c.in_ok-mapped.ensures.fault)).1 in
    omega (arith, small, c.in_ok-mapped.ensures.size)

-- the image of these headers
abbrev image_of : List ℕ → List ProgramHeader → ℕ → ImageView
image_of file hs entry = record {
  regions = map (region_of file) (filter (λ (h : ProgramHeader). nat_lt 0 h.memsz) (filter is_load hs));
  entry = entry;
}

loaded-from : (file : List ℕ) (hs : List ProgramHeader) (regions : List RegionView) (entry : ℕ) → hs ≡ headers file → regions ≡ (image_of file hs 0).regions → entry ≡ entry_of file → ◌≡◌ {A = ImageView} (record { regions = regions; entry = entry }) (loaded file)
loaded-from file hs regions entry same is at =
    ap (λ (r : List RegionView). record { regions = r; entry = entry }) is
    ∙ ap (image_of file hs) at
    ∙ ap (λ gs. image_of file gs (entry_of file)) same

pub returns-then-is_none : goal.returns-then-is_none
returns-then-is_none c =
    let file : List ℕ = c.args.file.now in
    let hs : List ProgramHeader = c.args.headers.now in
    let regions : c.in_ok-regions.regions ≡ (image_of file hs 0).regions = search rules in
    let image : c.new-image.result ≡ loaded file =
    c.new-image.ensures ∙ loaded-from file hs c.in_ok-regions.regions c.entry-entry.result c.requires.headers regions c.entry-entry.ensures in
    let word : c.fetch.result ≡ fetched (loaded file) (entry_of file) =
    c.fetch.ensures ∙ ap (λ i. fetched i c.entry-entry.result) image ∙ ap (fetched (loaded file)) c.entry-entry.ensures in
    let bad : is_none (fetched (loaded file) (entry_of file)) ≡ true =
    ap is_none (sym word) ∙ ap not c.is_none.ensures ∙ ap (λ b. not (not b)) c.if-is_none.true in
    first_fault-is file c.args.headers.now c.requires.headers c.requires.table None None None None (Some BadEntry) c.in_ok-mapped.ensures.fault c.in_ok-check_stacks.ensures c.in_ok-check_blocks.ensures c.in_ok-check_text.ensures (when-true _ BadEntry bad)

pub returns : goal.returns
returns c =
    let file : List ℕ = c.args.file.now in
    let hs : List ProgramHeader = c.args.headers.now in
    let regions : c.in_ok-regions.regions ≡ (image_of file hs 0).regions = search rules in
    let image : c.new-image.result ≡ loaded file =
    c.new-image.ensures ∙ loaded-from file hs c.in_ok-regions.regions c.entry-entry.result c.requires.headers regions c.entry-entry.ensures in
    let word : c.fetch.result ≡ fetched (loaded file) (entry_of file) =
    c.fetch.ensures ∙ ap (λ i. fetched i c.entry-entry.result) image ∙ ap (fetched (loaded file)) c.entry-entry.ensures in
    let good : is_none (fetched (loaded file) (entry_of file)) ≡ false =
    ap is_none (sym word) ∙ ap not c.is_none.ensures ∙ ap (λ b. not (not b)) c.if-is_none.false in (
      first_fault-is file c.args.headers.now c.requires.headers c.requires.table None None None None None c.in_ok-mapped.ensures.fault c.in_ok-check_stacks.ensures c.in_ok-check_blocks.ensures c.in_ok-check_text.ensures (when-false _ BadEntry good),
      image,
    )
