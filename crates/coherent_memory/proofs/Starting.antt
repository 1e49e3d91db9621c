-- Memory at first: nobody has a line, and the bytes are the image's.
use Rattle.std.proofs.Common.{◌≡◌, ℕ, ◌+◌, ◌*◌, ◌/◌, ◌%◌, ◌^◌, ◌<◌, ◌≤◌, ◌||◌, Bool, true, false, cond, List, [], ◌++◌, slice_get, slice_index, Option, None, option_and_then, is_some, mul_comm, refl, sym, ap, subst, ◌∙◌, ⊎_elim, arith}
use Rattle.std.specs.FinMap.{get-empty}
use Rattle.std.specs.Option.{option_map_or}
use Rattle.std.specs.Ordering.{nat_cmp}
use Rattle.std.specs.List.{All, flat_map, list_any}
use Rattle.std.proofs.Math.Nat.{div-add-mod, mod-lt}
use Rattle.std.proofs.lemmas.Bool.{cases_lt, false_from_ne_true}
use Rattle.std.proofs.lemmas.List.Elements.{All-nil}
use Rattle.elf64_load.specs.Image.{ImageView, byte_at, holds as region_holds, in_one_stack, is_mapped}
use Rattle.elf64_load.specs.Layout.{spans}
use Rattle.elf64_load.specs.declared.span.Span.{Span}
use Rattle.image_memory.specs.Images.{byte_at-unmapped}
use Rattle.machine_config.specs.declared.config.Config.{Config}
use Rattle.machine_config.specs.declared.config.Protocol.TheVariants.{Msi}
use Rattle.cache_sets.specs.Empty.{slot_of-empty}
use Rattle.cache_levels.specs.Levels as level
use Rattle.cache_levels.specs.Levels.{empty_levels, near, owned}
use Rattle.memory_contracts.specs.Protocol.Alike.{AreAlike, IsAlike}
use Rattle.memory_contracts.specs.Protocol.Coherent.{Coherent}
use Rattle.memory_contracts.specs.Protocol.Events.{start}
use Rattle.memory_contracts.specs.Protocol.Laws.{CurrentIsContent, LinesStayCoherent, OrderIsFree}
use Rattle.memory_contracts.specs.Protocol.Lines.{Cell, Idle, Absent, all_mailed, cell, nobody, stance}
use Rattle.memory_contracts.specs.Protocol.Messages.{Message}
use Rattle.memory_contracts.specs.Protocol.NodeTable.{is_held}
use Rattle.memory_contracts.specs.FlatLayout.{mapped_in}
use Rattle.memory_contracts.specs.Start.{IsStart}
use Rattle.cache_levels.specs.Sizes.{IsLineSize}
use Rattle.miss_registers.specs.Misses.{victim_of}
use Rattle.node_memory.specs.Nodes.{Coming, NodeView, awaits, copy_of, empty_node, kept_as, no_misses}
use Rattle.node_memory.specs.Sound.{AreBefore}
use Rattle.coherent_memory.specs.SystemInvariants.{IsFine, IsRightFlight, IsRightLetter, IsRightMail, IsRightNode, IsRightPost}
use Rattle.coherent_memory.specs.First.{IsFirst}
use Rattle.coherent_memory.specs.Stores as store
use Rattle.coherent_memory.specs.Stores.{Shape, store_of}
use Rattle.coherent_memory.specs.Systems.{System, alone, between, content, home_at, home_number, is_kept, line_of, of_flight, of_letter, of_mail, of_post}
use Rattle.coherent_memory.specs.MemoryInvariants.{IsWhole}
use Rattle.coherent_memory.proofs.Alike.{IsAlike-refl}
use Rattle.coherent_memory.proofs.Soundness.{IsNothing, clash}

-- ---- an empty node

copy-empty : (config : Config) (l : ℕ) → level.copy_of l (empty_levels config) ≡ None
copy-empty config l = ap (λ (o : Option ℕ). option_and_then (slice_get (empty_levels config).copies) o) (slot_of-empty config.l2_sets config.l2_ways l)

pub absent-empty : (config : Config) (p l : ℕ) → copy_of (empty_node config p) l ≡ Absent
absent-empty config p l = ap (λ o. kept_as o (victim_of (no_misses config.miss_registers) l)) (copy-empty config l) ∙ ap (λ slot. kept_as None slot) (get-empty nat_cmp l)

unawaited-empty : (config : Config) (p l : ℕ) → awaits (empty_node config p) l ≡ false
unawaited-empty config p l = ap is_some (get-empty nat_cmp l)

pub nothing-empty : (config : Config) (p : ℕ) → IsNothing (empty_node config p)
nothing-empty config p = record {
  near = λ l. ap is_some (slot_of-empty config.l1_sets config.l1_ways l);
  owned = λ l. ap (λ o. option_map_or (λ copy. copy.owned) o false) (copy-empty config l);
  held = λ l. ap is_held (absent-empty config p l);
  wishes = refl;
}

-- ---- all of memory

module _ (stay : LinesStayCoherent) (order : OrderIsFree) (current : CurrentIsContent) (image : ImageView) (config : Config) (s : System) (some : 0 < config.processors) (first : IsFirst image config s) where
  home_below : (l : ℕ) → home_number config.processors l < config.processors
  home_below l = mod-lt l some

  -- nothing is said about any line
  quiet : (l x : ℕ) → x < config.processors → between config.processors s l x ≡ []
  quiet l x below =
      let h = first.homes (home_number config.processors l) (home_below l) in
      let outgoing = ap (λ ps. flat_map (of_post l x) ps) h.outgoing in
      let flights = ap (λ fs. flat_map (of_flight l x) fs) first.flights in
      let outbox = ap (λ (v : NodeView). flat_map (of_mail l) v.outbox) (first.nodes x below) in
      let waiting = ap (λ ws. flat_map (of_letter l x) ws) h.waiting in
      ap (λ (ms : List Message). ms ++ (flat_map (of_flight l x) s.carrier.flights ++ (flat_map (of_mail l) (s.nodes x).outbox ++ flat_map (of_letter l x) (home_at config.processors s l).waiting))) outgoing
      ∙ (ap (λ (ms : List Message). ms ++ (flat_map (of_mail l) (s.nodes x).outbox ++ flat_map (of_letter l x) (home_at config.processors s l).waiting)) flights
      ∙ (ap (λ (ms : List Message). ms ++ flat_map (of_letter l x) (home_at config.processors s l).waiting) outbox ∙ waiting))

  cell-first : (l x : ℕ) → x < config.processors → (line_of config.processors s l).at x ≡ cell (stance Absent false [] 0) []
  cell-first l x below =
      ap (λ (ms : List Message). all_mailed ms (alone (s.nodes x) l)) (quiet l x below)
      ∙ (ap (λ (v : NodeView). alone v l) (first.nodes x below)
      ∙ λ i. cell (stance (absent-empty config x l i) (unawaited-empty config x l i) [] 0) [])

  record-first : (l : ℕ) → is_kept config.processors s l ≡ true → (line_of config.processors s l).home ≡ record { phase = Idle; owner = None; sharers = nobody; memory = (line_of config.processors s l).home.memory }
  record-first l kept =
      let is = (first.homes (home_number config.processors l) (home_below l)).records l kept in
      λ i. record { phase = is.phase i; owner = is.owner i; sharers = is.sharers i; memory = (line_of config.processors s l).home.memory }

  coherent-first : (l : ℕ) → is_kept config.processors s l ≡ true → Coherent config.processors (line_of config.processors s l).home.memory (line_of config.processors s l)
  coherent-first l kept =
      let n = config.processors in
      let bytes = (line_of n s l).home.memory in
      let at_start : Coherent n bytes (start bytes) = (stay Msi n bytes [] (record { content = bytes; line = start bytes }) refl).0 in
      let alike : AreAlike n (start bytes) (line_of n s l) = record {
        home = sym (record-first l kept);
        nodes = λ x below. subst (λ (c : Cell). IsAlike (cell (stance Absent false [] 0) []) c) (sym (cell-first l x below)) (IsAlike-refl _);
      } in
      order n bytes (start bytes) (line_of n s l) alike at_start

  pub content-first : (l : ℕ) → is_kept config.processors s l ≡ true → content config.processors s l ≡ (line_of config.processors s l).home.memory
  content-first l kept = current config.processors (line_of config.processors s l).home.memory (line_of config.processors s l) (coherent-first l kept)

  pub fine-first : IsFine config.processors s
  fine-first =
      let n = config.processors in
      let kept = is_kept n s in
      record {
        some = some;
        right = record {
          homes = λ h below.
              let is = first.homes h below in
              record {
                at = is.at;
                nodes = is.nodes;
                outgoing = subst (λ ps. All (IsRightPost n kept h) ps) (sym is.outgoing) (All-nil (IsRightPost n kept h));
                waiting = subst (λ ws. All (IsRightLetter n kept h) ws) (sym is.waiting) (All-nil (IsRightLetter n kept h));
              };
          nodes = λ p below. subst (λ (v : NodeView). IsRightNode n kept p v) (sym (first.nodes p below))
              (record {
                at = refl;
                nodes = refl;
                outbox = All-nil (IsRightMail n kept);
                wishes = All-nil (λ w. kept w.line ≡ true);
                copies = λ l held. absurd (clash _ held ((nothing-empty config p).held l));
              });
          flights = subst (λ fs. All (IsRightFlight n kept) fs) (sym first.flights) (All-nil (IsRightFlight n kept));
        };
        lines = λ l there. subst (λ (g : List ℕ). Coherent n g (line_of n s l)) (sym (content-first l there)) (coherent-first l there);
      }

-- ---- the store

module _ (stay : LinesStayCoherent) (order : OrderIsFree) (current : CurrentIsContent) (image : ImageView) (config : Config) (s : System) (some : 0 < config.processors) (first : IsFirst image config s)
    (shape : Shape) (nodes : shape.nodes ≡ config.processors) (bytes : shape.line_bytes ≡ config.line) (wide : 0 < config.line) where
  -- a line with a mapped byte is kept
  pub kept-first : (a : ℕ) → is_mapped image a ≡ true → is_kept config.processors s (a / config.line) ≡ true
  kept-first a mapped = (first.homes (home_number config.processors (a / config.line)) (mod-lt (a / config.line) some)).lines a mapped refl

  byte-first : (a : ℕ) → a < 2 ^ 64 → (b : Bool) → is_kept config.processors s (a / config.line) ≡ b →
      cond b (slice_index (content config.processors s (a / config.line)) (a % config.line)) 0 ≡ byte_at image a
  byte-first a fits true kept =
      let l = a / config.line in
      let is = (first.homes (home_number config.processors l) (mod-lt l some)).records l kept in
      let parts : l * config.line + a % config.line ≡ a = omega (arith, div-add-mod a config.line, mul_comm l config.line) in
      ap (λ (bs : List ℕ). slice_index bs (a % config.line)) (content-first stay order current image config s some first l kept)
      ∙ is.bytes.image_bytes (a % config.line) (mod-lt a wide) (omega (arith, parts, fits))
      ∙ ap (byte_at image) parts
  byte-first a fits false unkept =
      sym (byte_at-unmapped image a (false_from_ne_true (is_mapped image a) (λ mapped. clash _ (kept-first a mapped) unkept)))

  pub bytes-first : (a : ℕ) → a < 2 ^ 64 → store.byte_at shape s a ≡ byte_at image a
  bytes-first a fits =
      ap (λ (n : ℕ). cond (is_kept n s (a / shape.line_bytes)) (slice_index (content n s (a / shape.line_bytes)) (a % shape.line_bytes)) 0) nodes
      ∙ ap (λ (lb : ℕ). cond (is_kept config.processors s (a / lb)) (slice_index (content config.processors s (a / lb)) (a % lb)) 0) bytes
      ∙ byte-first a fits (is_kept config.processors s (a / config.line)) refl

  -- each is a byte
  pub small-first : (a : ℕ) → store.byte_at shape s a < 256
  small-first a =
      subst (λ (n : ℕ). cond (is_kept n s (a / shape.line_bytes)) (slice_index (content n s (a / shape.line_bytes)) (a % shape.line_bytes)) 0 < 256) (sym nodes)
      (by (is_kept config.processors s (a / shape.line_bytes)) refl)
    where
      by : (b : Bool) → is_kept config.processors s (a / shape.line_bytes) ≡ b → cond b (slice_index (content config.processors s (a / shape.line_bytes)) (a % shape.line_bytes)) 0 < 256
      by true kept =
          let l = a / shape.line_bytes in
          let is = (first.homes (home_number config.processors l) (mod-lt l some)).records l kept in
          subst (λ (bs : List ℕ). slice_index bs (a % shape.line_bytes) < 256) (sym (content-first stay order current image config s some first l kept)) (is.bytes.small (a % shape.line_bytes))
      by false unkept = omega arith

  module _ (mapped : shape.mapped ≡ is_mapped image) (past : (p : ℕ) → config.processors ≤ p → IsNothing (s.nodes p)) where
    nothing-first : (p : ℕ) → IsNothing (s.nodes p)
    nothing-first p =
        ⊎_elim (λ (below : p < config.processors). subst IsNothing (sym (first.nodes p below)) (nothing-empty config p))
        (λ (beyond : config.processors ≤ p). past p beyond)
        (cases_lt p config.processors)

    pub start-first : IsStart image config (store_of shape 0 s)
    start-first = record {
      bytes = bytes-first;
      mapped = mapped;
      held = λ p l. (nothing-first p).held l;
      near = λ p l. (nothing-first p).near l;
      owned = λ p l. (nothing-first p).owned l;
      wishes = λ p. (nothing-first p).wishes;
      nodes = nodes;
      line_bytes = bytes;
      ticks = refl;
    }

    pub whole-first : IsLineSize shape.line_bytes → s.carrier.ticks ≡ 0 → IsWhole shape 0 s
    whole-first size ticks = record {
      size = size;
      bytes = λ p below. ap (λ (v : NodeView). v.levels.line_bytes) (first.nodes p (subst (λ (n : ℕ). p < n) nodes below)) ∙ sym bytes;
      fetched = λ p below. subst (AreBefore 0) (sym (ap (λ (v : NodeView). v.coming) (first.nodes p (subst (λ (n : ℕ). p < n) nodes below)))) (All-nil (λ (c : Coming). c.since < 0));
      kept = λ a there.
          ap (λ (n : ℕ). is_kept n s (a / shape.line_bytes)) nodes
          ∙ (ap (λ (lb : ℕ). is_kept config.processors s (a / lb)) bytes
          ∙ kept-first a (sym (ap (λ (f : ℕ → Bool). f a) mapped) ∙ there));
      carrier = ticks;
    }

-- ---- what is mapped

-- by the spans of an image what is mapped in it
pub mapped-spans : (image : ImageView) (order copy : List Span) → copy ≡ order → ((a : ℕ) → list_any (λ x. spans a x) order ≡ list_any (region_holds a 1) image.regions) → mapped_in copy ≡ is_mapped image
mapped-spans image order copy same is = λ i a. (ap (λ (xs : List Span). list_any (λ x. spans a x) xs || in_one_stack a 1) same ∙ ap (λ b. b || in_one_stack a 1) (is a)) i
