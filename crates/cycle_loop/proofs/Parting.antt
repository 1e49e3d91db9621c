-- A turn by its parts.
use Rattle.std.proofs.Common.{◌≡◌, ◌++◌, ◌&&◌, not, ℕ, Bool, true, false, if◌then◌else◌, List, [], ◌∷◌, map, Option, None, Some, IfSome, option_to_list, refl, sym, ap, subst, ◌∙◌, ◌⊎◌, inl, inr, ⊎_elim, arith}
use Rattle.std.proofs.lemmas.List.{append-nil}
use Rattle.rsim_base.specs.declared.memory.Access.{Access}
use Rattle.rsim_base.specs.declared.memory.Kind.TheVariants as kind
use Rattle.elf64_load.specs.Image.{ImageView, is_mapped}
use Rattle.memory_contracts.specs.Store.{StoreView}
use Rattle.order_log.specs.Log.{Place, placed}
use Rattle.sparc_meaning.specs.declared.acts.Act.{Act}
use Rattle.sparc_meaning.specs.declared.acts.Act.TheVariants.{Nothing, Load, Store, Atomic, Fence, Out, End as Ended}
use Rattle.sparc_meaning.specs.declared.acts.Want.{Want}
use Rattle.sparc_meaning.specs.declared.arch.Arch.{Arch}
use Rattle.sparc_meaning.specs.Acts.{reads}
use Rattle.sparc_meaning.specs.Arch.{is_running}
use Rattle.sparc_meaning.specs.Run.{accesses_of}
use Rattle.sparc_meaning.specs.Step.{step}
use Rattle.sparc_meaning.specs.StepReads.{step_reads}
use Rattle.sparc_meaning.specs.Stepped.{Stepped}
use Rattle.sparc_meaning.specs.Accesses.{HasNumbers, access_of}
use Rattle.cycle_loop.specs.Ranges.{HaveNumbers}
use Rattle.cycle_loop.specs.Lines.{IsActMapped, IsWantMapped, wants_line}
use Rattle.cycle_loop.specs.Machine.{At, CoreView, after_step, lacks_line, next_step, turn, value_found}
use Rattle.cycle_loop.specs.Stores.{is_store}
use Rattle.cycle_loop.specs.Turns.{tried}
use Rattle.cycle_loop.proofs.Allowed.{step_allowed}
use Rattle.cycle_loop.proofs.Mapped.{allowed-mapped}
use Rattle.list_facts.specs.Places.{slice_get_more}

-- ---- lines

-- an act that lacks its line wants it, unless it is a store
lacks_by_want : (v : StoreView) (p : ℕ) (act : Act) → is_store act ≡ false → lacks_line v p act ≡ wants_line v p (reads act)
lacks_by_want v p (Load addr n loaded) plain = refl
lacks_by_want v p (Atomic addr n loaded value) plain = refl
lacks_by_want v p (Store addr n value) plain = absurd cc
lacks_by_want v p Nothing plain = refl
lacks_by_want v p (Fence mask) plain = refl
lacks_by_want v p (Out spoken) plain = refl
lacks_by_want v p Ended plain = refl

want_mapped : (v : StoreView) (act : Act) → IsActMapped v act → IsWantMapped v (reads act)
want_mapped v (Load addr n loaded) are = are
want_mapped v (Atomic addr n loaded value) are = are
want_mapped v (Store addr n value) are = tt
want_mapped v Nothing are = tt
want_mapped v (Fence mask) are = tt
want_mapped v (Out spoken) are = tt
want_mapped v Ended are = tt

-- the access of each step is mapped
pub step_mapped : (image : ImageView) (v : StoreView) (a : Arch) (value : ℕ) (act : Act) → v.mapped ≡ is_mapped image → act ≡ (step image a value).act → IsActMapped v act
step_mapped image v a value act same is = subst (IsActMapped v) (sym is) (allowed-mapped image v (step image a value).act same (step_allowed image a value))

pub wanted_mapped : (image : ImageView) (v : StoreView) (a : Arch) (w : Want) → v.mapped ≡ is_mapped image → w ≡ reads (step image a 0).act → IsWantMapped v w
wanted_mapped image v a w same is = subst (IsWantMapped v) (sym is) (want_mapped v (step image a 0).act (allowed-mapped image v (step image a 0).act same (step_allowed image a 0)))

-- the step that reads what was wanted is the next one
pub step_next : (image : ImageView) (bytes : ℕ → ℕ) (a : Arch) (w : Want) (value : ℕ) → w ≡ reads (step image a 0).act → value ≡ value_found bytes w → step image a value ≡ next_step image bytes a
step_next image bytes a w value is found = ap (step image a) (found ∙ ap (value_found bytes) (is ∙ step_reads image a 0))

-- ---- turns

turn_by_tests : (running lacks : Bool) (p : ℕ) (s : Stepped) (x : At) → running ≡ true → (if running && not lacks then after_step p s x else x) ≡ (if lacks then x else after_step p s x)
turn_by_tests true true p s x runs = refl
turn_by_tests true false p s x runs = refl
turn_by_tests false lacks p s x runs = absurd cc

-- a processor that has not ended tries its next step
pub turn_tried : (image : ImageView) (v : StoreView) (p : ℕ) (x : At) → is_running x.core.arch.end ≡ true → turn image v p x ≡ tried v p (next_step image x.bytes x.core.arch) x
turn_tried image v p x runs = turn_by_tests (is_running x.core.arch.end) (lacks_line v p (next_step image x.bytes x.core.arch).act) p (next_step image x.bytes x.core.arch) x runs

tried_off : (lacks : Bool) (p : ℕ) (s : Stepped) (x : At) → lacks ≡ false → (if lacks then x else after_step p s x) ≡ after_step p s x
tried_off true p s x is = absurd cc
tried_off false p s x is = refl

-- one that has it, and does not store, makes its step
pub has_line : (image : ImageView) (v : StoreView) (p : ℕ) (a : Arch) (value : ℕ) (w : Want) → w ≡ reads (step image a 0).act → wants_line v p w ≡ false → is_store (step image a value).act ≡ false →
    lacks_line v p (step image a value).act ≡ false
has_line image v p a value w is has plain =
    lacks_by_want v p (step image a value).act plain ∙ ap (wants_line v p) (step_reads image a value ∙ sym (is ∙ step_reads image a 0)) ∙ has

pub turn_made : (image : ImageView) (v : StoreView) (p : ℕ) (x : At) (s : Stepped) → is_running x.core.arch.end ≡ true → s ≡ next_step image x.bytes x.core.arch → lacks_line v p s.act ≡ false → after_step p s x ≡ turn image v p x
turn_made image v p x s runs is has =
    sym (turn_tried image v p x runs ∙ ap (λ (t : Stepped). tried v p t x) (sym is) ∙ tried_off (lacks_line v p s.act) p s x has)

pub turn_tried_on : (image : ImageView) (v : StoreView) (p : ℕ) (x : At) (s : Stepped) → is_running x.core.arch.end ≡ true → s ≡ next_step image x.bytes x.core.arch → tried v p s x ≡ turn image v p x
turn_tried_on image v p x s runs is = sym (turn_tried image v p x runs ∙ ap (λ (t : Stepped). tried v p t x) (sym is))

-- ---- what is put at the end of the log

numbers_with : (log : List Place) (made : Option Access) → IfSome made HasNumbers → HaveNumbers log → HaveNumbers (log ++ map (λ a. placed a true) (option_to_list made))
numbers_with log None has all = subst HaveNumbers (sym (append-nil log)) all
numbers_with log (Some e) has all = λ j x at. ⊎_elim (all j x) (λ last. subst (λ (y : Place). HasNumbers y.access) (sym last.1) has) (slice_get_more log (placed e true) j x at)

pub HaveNumbers-more : (p i : ℕ) (act : Act) (log new : List Place) → IfSome (access_of p i act) HasNumbers → new ≡ log ++ map (λ a. placed a true) (accesses_of p i act) → HaveNumbers log → HaveNumbers new
HaveNumbers-more p i act log new is same all = subst HaveNumbers (sym same) (numbers_with log (access_of p i act) is all)

-- ---- over a store that was asked for lines

lacks_wishes : (v w : StoreView) (p : ℕ) (act : Act) → w ≡ record v { wishes = w.wishes } → lacks_line w p act ≡ lacks_line v p act
lacks_wishes v w p act same = ap (λ (u : StoreView). lacks_line u p act) same ∙ by_act act
  where
    by_act : (act : Act) → lacks_line (record v { wishes = w.wishes }) p act ≡ lacks_line v p act
    by_act (Load addr n loaded) = refl
    by_act (Atomic addr n loaded stored) = refl
    by_act (Store addr n stored) = refl
    by_act Nothing = refl
    by_act (Fence mask) = refl
    by_act (Out spoken) = refl
    by_act Ended = refl

pub has_line_over : (image : ImageView) (v w : StoreView) (p : ℕ) (a : Arch) (value : ℕ) (x : Want) → w ≡ record v { wishes = w.wishes } → x ≡ reads (step image a 0).act → wants_line v p x ≡ false → is_store (step image a value).act ≡ false →
    lacks_line w p (step image a value).act ≡ false
has_line_over image v w p a value x same is has plain = lacks_wishes v w p (step image a value).act same ∙ has_line image v p a value x is has plain

pub turn_tried_over : (image : ImageView) (v w : StoreView) (p : ℕ) (core : CoreView) (log : List Place) (s : Stepped) → w ≡ record v { wishes = w.wishes } → is_running core.arch.end ≡ true → s ≡ next_step image v.bytes core.arch →
    ◌≡◌ {A = At} (tried w p s (record { core = core; log = log; bytes = w.bytes })) (turn image v p (record { core = core; log = log; bytes = v.bytes }))
turn_tried_over image v w p core log s same runs is =
    let bytes : w.bytes ≡ v.bytes = ap (λ (u : StoreView). u.bytes) same in
    ap (λ (b : ℕ → ℕ). let x : At = record { core = core; log = log; bytes = b } in tried w p s x) bytes
    ∙ ap (λ (lacks : Bool). let x : At = record { core = core; log = log; bytes = v.bytes } in if lacks then x else after_step p s x) (lacks_wishes v w p s.act same)
    ∙ turn_tried_on image v p (record { core = core; log = log; bytes = v.bytes }) s runs is

pub turn_made_over : (image : ImageView) (v w : StoreView) (p : ℕ) (core : CoreView) (log : List Place) (s : Stepped) → w ≡ record v { wishes = w.wishes } → is_running core.arch.end ≡ true → s ≡ next_step image v.bytes core.arch →
    lacks_line w p s.act ≡ false → ◌≡◌ {A = At} (after_step p s (record { core = core; log = log; bytes = w.bytes })) (turn image v p (record { core = core; log = log; bytes = v.bytes }))
turn_made_over image v w p core log s same runs is has =
    let bytes : w.bytes ≡ v.bytes = ap (λ (u : StoreView). u.bytes) same in
    ap (λ (b : ℕ → ℕ). let x : At = record { core = core; log = log; bytes = b } in after_step p s x) bytes
    ∙ turn_made image v p (record { core = core; log = log; bytes = v.bytes }) s runs is (sym (lacks_wishes v w p s.act same) ∙ has)
