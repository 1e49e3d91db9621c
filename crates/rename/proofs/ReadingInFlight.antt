-- What entries in flight read.
use Rattle.std.proofs.Common.{◌≡◌, ℕ, ◌<◌, All, IfSome, Option, None, Some, option_map, List, [], ◌∷◌, ◌++◌, map, slice_index, sym, ap, ◌∙◌, subst, refl, arith, append_assoc}
use Rattle.std.proofs.lemmas.List.Elements.{All-nil, All-cons, All-head, All-tail}
use Rattle.rsim_base.specs.Limits.{arch_registers}
use Rattle.rsim_base.specs.declared.processor.PhysReg.{PhysReg}
use Rattle.rsim_base.specs.declared.processor.Renamed.{Renamed}
use Rattle.rename.specs.Names.{NamesView}
use Rattle.rename.specs.Reading.{Access, AreBelow, AreNamed, IsNamed, behind, holders, takes_along}
use Rattle.rename.specs.ReadingLaws.{CutIsNamed, FreeHaveNoReader, JoinIsNamed, OperandsNameEarlier, RetiredIsNamed}
use Rattle.rename.specs.Renaming.{IsRenaming, named, times}
use Rattle.rename.proofs.Holders.{holders_are_not_free}
use Rattle.rename.proofs.InFlight.{named-append}

-- what holds the registers behind takes, where `held` holds them before
abbrev held_along : List Renamed → (ℕ → ℕ) → ℕ → ℕ
held_along ts held r = named r ts (held r)

along : (ts us : List Renamed) (held : ℕ → ℕ) → held_along (ts ++ us) held ≡ held_along us (held_along ts held)
along ts us held = λ i r. named-append r ts us (held r) i

-- registers that are held alike are looked up alike
holders_same : (f g : ℕ → ℕ) (reads : List (Option ℕ)) → AreBelow reads → ((r : ℕ) → r < arch_registers → f r ≡ g r) → holders f reads ≡ holders g reads
holders_same f g [] below same = refl
holders_same f g (None ∷ reads) below same =
    let P : Option ℕ → Type 0 = λ n. IfSome n (λ r. r < arch_registers) in
    let none : Option PhysReg = None in
    ap (λ rest. none ∷ rest) (holders_same f g reads (All-tail P None reads below) same)
holders_same f g (Some r ∷ reads) below same =
    let P : Option ℕ → Type 0 = λ n. IfSome n (λ q. q < arch_registers) in
    let register : ℕ → Option PhysReg = λ n. Some (record { 0 = n }) in
    let first = same r (All-head P (Some r) reads below) in
    let rest = holders_same f g reads (All-tail P (Some r) reads below) same in
    ap (λ n. register n ∷ holders f reads) first ∙ ap (λ more. register (g r) ∷ more) rest

joined : (held : ℕ → ℕ) (entries : List Access) (e : Access) → AreNamed held entries → IsNamed (held_along (takes_along entries) held) e → AreNamed held (entries ++ e ∷ [])
joined held [] e h is = (is, tt)
joined held (d ∷ entries) e h is =
    (h.0, joined (behind d held) entries e h.1 (subst (λ (f : ℕ → ℕ). IsNamed f e) (along d.takes (takes_along entries) held) is))

pub join_is_named : JoinIsNamed
join_is_named retired entries e v h named_so_far below sources results =
    joined retired entries e named_so_far (record {
      below = below;
      operands = sources ∙ holders_same (slice_index v.current) (held_along (takes_along entries) retired) e.reads below (λ r low. h.names r low);
      results = results;
    })

pub operands_name_earlier : OperandsNameEarlier
operands_name_earlier retired [] later e h = h.0
operands_name_earlier retired (d ∷ before) later e h =
    subst (λ (f : ℕ → ℕ). IsNamed f e) (sym (along d.takes (takes_along before) retired)) (operands_name_earlier (behind d retired) before later e h.1)

pub cut_is_named : CutIsNamed
cut_is_named retired [] gone h = tt
cut_is_named retired (d ∷ kept) gone h = (h.0, cut_is_named (behind d retired) kept gone h.1)

pub retired_is_named : RetiredIsNamed
retired_is_named retired e entries h = h.1

-- ---- readers

-- nothing free is named by these
abbrev NoneIsFree : NamesView → List (Option PhysReg) → Type 0
NoneIsFree v sources = All (λ p. IfSome p (λ q. times q.0 v.free ≡ 0)) sources

none_is_free : (v : NamesView) (held : ℕ → ℕ) (reads : List (Option ℕ)) → AreBelow reads → ((r : ℕ) → r < arch_registers → times (held r) v.free ≡ 0) → NoneIsFree v (holders held reads)
none_is_free v held [] below busy = let Q : Option PhysReg → Type 0 = λ p. IfSome p (λ q. times q.0 v.free ≡ 0) in All-nil Q
none_is_free v held (None ∷ reads) below busy =
    let P : Option ℕ → Type 0 = λ n. IfSome n (λ r. r < arch_registers) in
    let Q : Option PhysReg → Type 0 = λ p. IfSome p (λ q. times q.0 v.free ≡ 0) in
    All-cons Q None (holders held reads) tt (none_is_free v held reads (All-tail P None reads below) busy)
none_is_free v held (Some r ∷ reads) below busy =
    let P : Option ℕ → Type 0 = λ n. IfSome n (λ q. q < arch_registers) in
    let Q : Option PhysReg → Type 0 = λ p. IfSome p (λ q. times q.0 v.free ≡ 0) in
    All-cons Q (Some (record { 0 = held r })) (holders held reads) (busy r (All-head P (Some r) reads below)) (none_is_free v held reads (All-tail P (Some r) reads below) busy)

readers_by : (retired : ℕ → ℕ) (older : List Renamed) (entries : List Access) (v : NamesView) → IsRenaming retired (older ++ takes_along entries) v → AreNamed (held_along older retired) entries
    → All (λ (e : Access). NoneIsFree v e.sources) entries
readers_by retired older [] v h named_all = let P : Access → Type 0 = λ e. NoneIsFree v e.sources in All-nil P
readers_by retired older (e ∷ entries) v h named_all =
    let P : Access → Type 0 = λ d. NoneIsFree v d.sources in
    let busy : (r : ℕ) → r < arch_registers → times (held_along older retired r) v.free ≡ 0 = λ r low. holders_are_not_free retired older (e.takes ++ takes_along entries) v r h low in
    let first = subst (NoneIsFree v) (sym named_all.0.operands) (none_is_free v (held_along older retired) e.reads named_all.0.below busy) in
    let renaming = subst (λ (ts : List Renamed). IsRenaming retired ts v) (sym (append_assoc older e.takes (takes_along entries))) h in
    let naming = subst (λ (f : ℕ → ℕ). AreNamed f entries) (sym (along older e.takes retired)) named_all.1 in
    All-cons P e entries first (readers_by retired (older ++ e.takes) entries v renaming naming)

pub free_have_no_reader : FreeHaveNoReader
free_have_no_reader retired entries v h named_all = readers_by retired [] entries v h named_all
