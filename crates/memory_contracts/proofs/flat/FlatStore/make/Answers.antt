use Rattle.std.proofs.Common.{◌≡◌, ℕ, ◌/◌, ◌≤◌, true, true≢false, ◌||◌, List, length, refl, sym, ap, subst, ◌∙◌, arith}
use Rattle.std.specs.List.{All, list_any}
use Rattle.std.proofs.lemmas.Bool.{and_parts}
use Rattle.std.proofs.lemmas.List.Elements.{All-nil}
use Rattle.elf64_load.specs.Image.{ImageView, holds, in_one_stack, is_mapped}
use Rattle.elf64_load.specs.Layout.{spans}
use Rattle.elf64_load.specs.declared.span.Span.{Span}
use Rattle.machine_config.specs.Sizes.{line_doublewords, sizes_of}
use Rattle.memory_contracts.specs.FlatLayout.{mapped_in}
use Rattle.memory_contracts.specs.Parts.{has_doubleword, has_line, owner_in, wishes_of}
use Rattle.memory_contracts.specs.declared.wishes.Wanted.{Wanted}
use Rattle.memory_contracts.proofs.Sizes.{line-doubleword}
use Rattle.memory_contracts.proofs.Starting.{bytes-start, is_at-none}
use Rattle.memory_contracts.proofs.flat.FlatStore.make.Goals as goal

-- what is mapped by the spans of an image is mapped in it
mapped_in-spans : (image : ImageView) (order copy : List Span) → copy ≡ order → ((a : ℕ) → list_any (λ s. spans a s) order ≡ list_any (holds a 1) image.regions) → (a : ℕ) → mapped_in copy a ≡ is_mapped image a
mapped_in-spans image order copy same is a =
    ap (λ (xs : List Span). list_any (λ s. spans a s) xs || in_one_stack a 1) same ∙ ap (λ b. b || in_one_stack a 1) (is a)

pub make_places-requires : goal.make_places-requires
make_places-requires c =
    let low = (sizes_of c.args.config.now c.requires).line.0 in
    omega (arith, low, c.from-line_bytes.ensures)

pub invariant_of-result : goal.invariant_of-result
invariant_of-result c =
    let sizes = sizes_of c.args.config.now c.requires in
    let line_bytes = c.from-line_bytes.result in
    let line : line_bytes ≡ c.args.config.now.line = c.from-line_bytes.ensures in
    let low = sizes.line.0 in
    let nodes = sizes.processors.1 in
    let doublewords = line_doublewords c.args.config.now sizes in
    let image = c.args.image.now in
    let memory = c.in_ok-memory.memory in
    let owners = c.in_ok-memory.owners in
    let none = c.in_ok-wishes.ensures.none in
    let same = mapped_in-spans image c.spans.result.now c.in-Ok.spans.items c.in-Ok.ensures.items c.spans.ensures in
    let Known : List Wanted → Type 0 = λ ws. All (λ (w : Wanted). has_line owners w.line.0 ≡ true) ws in
    let Few : List Wanted → Type 0 = λ ws. length ws ≤ 16 in
    record {
      kept = record {
        line = omega (arith, low, line);
        nodes = omega (arith, nodes, c.in_ok-wishes.ensures.nodes);
        doublewords = λ a mapped. (and_parts (has_doubleword memory (a / 8)) (has_line owners (a / 8 / (line_bytes / 8))) (c.in_ok-memory.ensures.there a (sym (same a) ∙ mapped))).0;
        lines = λ a mapped.
            ap (has_line owners) (sym (line-doubleword a line_bytes (omega (arith, doublewords, line))))
            ∙ (and_parts (has_doubleword memory (a / 8)) (has_line owners (a / 8 / (line_bytes / 8))) (c.in_ok-memory.ensures.there a (sym (same a) ∙ mapped))).1;
        known = λ p. subst Known (sym (none p)) (All-nil (λ (w : Wanted). has_line owners w.line.0 ≡ true));
        few = λ p. subst Few (sym (none p)) (omega arith);
        owned = λ p l at. absurd (true≢false (sym at ∙ is_at-none (owner_in owners l) p (c.in_ok-memory.ensures.fresh.free l)));
      };
    }

pub returns : goal.returns
returns c =
    let image = c.args.image.now in
    let memory = c.in_ok-memory.memory in
    let owners = c.in_ok-memory.owners in
    let per_line = c.from-line_bytes.result / 8 in
    let same = mapped_in-spans image c.spans.result.now c.in-Ok.spans.items c.in-Ok.ensures.items c.spans.ensures in
    let free = c.in_ok-memory.ensures.fresh.free in
    record {
      bytes = bytes-start image memory owners per_line c.in_ok-memory.ensures.fresh c.in_ok-memory.ensures.there;
      mapped = λ i a. same a i;
      held = λ p l. is_at-none (owner_in owners l) p (free l);
      near = λ p l. is_at-none (owner_in owners l) p (free l);
      owned = λ p l. is_at-none (owner_in owners l) p (free l);
      wishes = λ p. ap wishes_of (c.in_ok-wishes.ensures.none p);
      nodes = c.in_ok-wishes.ensures.nodes;
      line_bytes = c.from-line_bytes.ensures;
      ticks = refl;
    }
