-- A replay by the code, with one step more.
use Rattle.std.proofs.Common.{◌≡◌, ◌⊎◌, ◌+◌, ◌<◌, ◌≤◌, ℕ, zero, suc, List, [], ◌∷◌, ◌++◌, length, map, Bool, true, false, if◌then◌else◌, IfSome, Option, None, Some, option_map, option_and_then, slice_get, Ok, Err, refl, sym, ap, subst, inl, inr, ⊎_elim, ◌∙◌, add-one, arith}
use Rattle.std.proofs.lemmas.Bool.{cases_lt}
use Rattle.std.proofs.lemmas.List.{length_push, append-nil}
use Rattle.rsim_base.specs.Made as base
use Rattle.rsim_base.specs.Made.{Made}
use Rattle.rsim_base.specs.declared.memory.Access.{Access}
use Rattle.order_axioms.specs.Counted.{counts}
use Rattle.order_axioms.specs.declared.counting.Fences.{Fences}
use Rattle.elf64_load.specs.Image.{ImageView}
use Rattle.sparc_meaning.specs.Arch.{IsSound, boot, is_running}
use Rattle.sparc_meaning.specs.Step.{step}
use Rattle.sparc_meaning.specs.Run.{Ran, after, accesses_of, fences_after, made_after}
use Rattle.sparc_meaning.specs.Stepped.{Stepped}
use Rattle.sparc_meaning.specs.declared.acts.Act.{Act}
use Rattle.sparc_meaning.specs.declared.acts.Act.TheVariants.{Nothing, Load, Store, Atomic, Fence, Out, End as Over}
use Rattle.sparc_meaning.specs.declared.arch.Arch.{Arch}
use Rattle.order_checker.specs.declared.verdict.Rejected.{Rejected}
use Rattle.order_checker.specs.Faults.{is_of, place_of, replayed, followed, then_followed, then_after, next_step, step_fault, unless, loaded_of}
use Rattle.order_checker.proofs.FirstOnes.{least_at}
use Rattle.order_checker.specs.Programs.{kept, IsProgram, IsReplaying, AreAtMost}
use Rattle.list_facts.specs.Places.{map-append_one, slice_get-append_left, slice_get_last, slice_get_below}
use Rattle.list_facts.specs.Options.{Ok-injective}
use Rattle.order_checker.proofs.Replays.{step_fault_none}

-- a fault stays
pub replayed_fault : (image : ImageView) (n : ℕ) (lines : List Access) (p k m : ℕ) (r : Rejected) → replayed image n lines p k ≡ Err r → k ≤ m → replayed image n lines p m ≡ Err r
replayed_fault image n lines p k zero r is low = let same : k ≡ 0 = omega arith in subst (λ j. replayed image n lines p j ≡ Err r) same is
replayed_fault image n lines p k (suc m) r is low = ⊎_elim
    (λ lt. ap (λ o. then_followed o (followed image lines p m)) (replayed_fault image n lines p k m r is (omega arith)))
    (λ ge. let same : k ≡ suc m = omega arith in subst (λ j. replayed image n lines p j ≡ Err r) same is) (cases_lt k (suc m))

pub next_fault : (image : ImageView) (n : ℕ) (lines : List Access) (p k m i : ℕ) (place : Option ℕ) (arch : Arch) (r : Rejected) (ran : Ran) → replayed image n lines p k ≡ Ok ran → ran.state ≡ arch → length ran.accesses ≡ i → place ≡ place_of lines p i →
    next_step image lines p k i place arch ≡ Err r → k < m → replayed image n lines p m ≡ Err r
next_fault image n lines p k m i place arch r ran is state count found fault below =
    replayed_fault image n lines p (suc k) m r
    (ap (λ o. then_followed o (followed image lines p k)) is
    ∙ ap (then_after p ran) (ap (λ j. next_step image lines p k j (place_of lines p j) ran.state) count ∙ ap (λ o. next_step image lines p k i o ran.state) (sym found) ∙ ap (next_step image lines p k i place) state ∙ fault))
    (omega arith)

-- ---- what is kept of a step

-- of a step without a fault, which makes no access or one whose line stands there
kept_one : {A : Type 0} (p i : ℕ) (act : Act) (x : Access) (a : A) → accesses_of p i act ≡ x ∷ [] → kept act (Some a) ≡ a ∷ []
kept_one p i (Load addr size loaded) x a one = refl
kept_one p i (Store addr size stored) x a one = refl
kept_one p i (Atomic addr size loaded stored) x a one = refl
kept_one p i Nothing x a one = absurd cc
kept_one p i (Fence mask) x a one = absurd cc
kept_one p i (Out spoken) x a one = absurd cc
kept_one p i Over x a one = absurd cc

kept_none : {A : Type 0} (p i : ℕ) (act : Act) (o : Option A) → accesses_of p i act ≡ [] → kept act o ≡ []
kept_none p i (Load addr size loaded) o none = absurd cc
kept_none p i (Store addr size stored) o none = absurd cc
kept_none p i (Atomic addr size loaded stored) o none = absurd cc
kept_none p i Nothing o none = refl
kept_none p i (Fence mask) o none = refl
kept_none p i (Out spoken) o none = refl
kept_none p i Over o none = refl

none_or_one : (p i : ℕ) (act : Act) → (accesses_of p i act ≡ []) ⊎ ((x : Access) × (accesses_of p i act ≡ x ∷ []))
none_or_one p i (Load addr size loaded) = inr (_, refl)
none_or_one p i (Store addr size stored) = inr (_, refl)
none_or_one p i (Atomic addr size loaded stored) = inr (_, refl)
none_or_one p i Nothing = inl refl
none_or_one p i (Fence mask) = inl refl
none_or_one p i (Out spoken) = inl refl
none_or_one p i Over = inl refl

-- a program with one access more
IsProgram-push : (lines : List Access) (p : ℕ) (made : List Made) (places : List ℕ) (fences : List Fences) (m : Made) (j : ℕ) (f : Fences) → IsProgram lines p made places fences → place_of lines p (length made) ≡ Some j → m.fences ≡ counts f →
    IsProgram lines p (made ++ m ∷ []) (places ++ j ∷ []) (fences ++ f ∷ [])
IsProgram-push lines p made places fences m j f is at same = record {
  count = length_push places j ∙ ap (λ n. n + 1) is.count ∙ sym (length_push made m);
  stand = λ i below. ⊎_elim (λ lt. earlier i lt)
      (λ ge. let e : i ≡ length places = let g = is.count in let h = length_push made m in omega arith in
      ap (slice_get (places ++ j ∷ [])) e ∙ slice_get_last places j ∙ sym at ∙ ap (place_of lines p) (sym is.count ∙ sym e)) (cases_lt i (length made));
  fenced = map-append_one counts fences f ∙ ap (λ xs. xs ++ counts f ∷ []) is.fenced ∙ ap (λ g. map (λ (n : Made). n.fences) made ++ g ∷ []) (sym same) ∙ sym (map-append_one (λ (n : Made). n.fences) made m);
}
  where
    earlier : (i : ℕ) → i < length made → slice_get (places ++ j ∷ []) i ≡ place_of lines p i
    earlier i lt =
        let here = slice_get_below places i (omega (arith, is.count)) in
        slice_get-append_left places (j ∷ []) i here.0 here.1 ∙ sym here.1 ∙ is.stand i lt

program_more : (lines : List Access) (p : ℕ) (made : List Made) (places : List ℕ) (fences : List Fences) (f : base.Fences) (now : Fences) (act : Act) (place : Option ℕ) (line : Option Access) → IsProgram lines p made places fences →
    place ≡ place_of lines p (length made) → f ≡ counts now → step_fault p (length made) (accesses_of p (length made) act) place line ≡ None →
    IsProgram lines p (made ++ map (made_after f) (accesses_of p (length made) act)) (places ++ kept act place) (fences ++ kept act (option_map (λ _. now) place))
program_more lines p made places fences f now act place line is found same fine = ⊎_elim none one (none_or_one p (length made) act)
  where
    none : accesses_of p (length made) act ≡ [] → IsProgram lines p (made ++ map (made_after f) (accesses_of p (length made) act)) (places ++ kept act place) (fences ++ kept act (option_map (λ _. now) place))
    none without =
        let e1 : made ++ map (made_after f) (accesses_of p (length made) act) ≡ made = ap (λ xs. made ++ map (made_after f) xs) without ∙ append-nil made in
        let e2 : places ++ kept act place ≡ places = ap (λ ys. places ++ ys) (kept_none p (length made) act place without) ∙ append-nil places in
        let e3 : fences ++ kept act (option_map (λ _. now) place) ≡ fences = ap (λ ys. fences ++ ys) (kept_none p (length made) act (option_map (λ _. now) place) without) ∙ append-nil fences in
        subst (λ xs. IsProgram lines p xs (places ++ kept act place) (fences ++ kept act (option_map (λ _. now) place))) (sym e1)
        (subst (λ ys. IsProgram lines p made ys (fences ++ kept act (option_map (λ _. now) place))) (sym e2) (subst (λ zs. IsProgram lines p made places zs) (sym e3) is))

    placed : (x : Access) → accesses_of p (length made) act ≡ x ∷ [] → (j : ℕ) × (place ≡ Some j)
    placed x with_x = let at = step_fault_none p (length made) x place line (ap (λ xs. step_fault p (length made) xs place line) (sym with_x) ∙ fine) in (at.0, at.2)

    one : (x : Access) × (accesses_of p (length made) act ≡ x ∷ []) → IsProgram lines p (made ++ map (made_after f) (accesses_of p (length made) act)) (places ++ kept act place) (fences ++ kept act (option_map (λ _. now) place))
    one (x, with_x) =
        let at = placed x with_x in
        let j = at.0 in
        let e1 : made ++ map (made_after f) (accesses_of p (length made) act) ≡ made ++ made_after f x ∷ [] = ap (λ xs. made ++ map (made_after f) xs) with_x in
        let e2 : places ++ kept act place ≡ places ++ j ∷ [] = ap (λ o. places ++ kept act o) at.1 ∙ ap (λ ys. places ++ ys) (kept_one p (length made) act x j with_x) in
        let e3 : fences ++ kept act (option_map (λ _. now) place) ≡ fences ++ now ∷ [] = ap (λ o. fences ++ kept act (option_map (λ _. now) o)) at.1 ∙ ap (λ ys. fences ++ ys) (kept_one p (length made) act x now with_x) in
        subst (λ xs. IsProgram lines p xs (places ++ kept act place) (fences ++ kept act (option_map (λ _. now) place))) (sym e1)
        (subst (λ ys. IsProgram lines p (made ++ made_after f x ∷ []) ys (fences ++ kept act (option_map (λ _. now) place))) (sym e2)
        (subst (λ zs. IsProgram lines p (made ++ made_after f x ∷ []) (places ++ j ∷ []) zs) (sym e3)
        (IsProgram-push lines p made places fences (made_after f x) j now is (sym found ∙ at.1) same)))

few_more : (p k : ℕ) (made : List Made) (f : base.Fences) (act : Act) → length made ≤ k → length (made ++ map (made_after f) (accesses_of p (length made) act)) ≤ k + 1
few_more p k made f act few = ⊎_elim
    (λ none. let e = ap (λ xs. length (made ++ map (made_after f) xs)) none ∙ ap length (append-nil made) in omega arith)
    (λ (x, one). let e = ap (λ xs. length (made ++ map (made_after f) xs)) one ∙ length_push made (made_after f x) in omega arith) (none_or_one p (length made) act)

was_ok : (running : Bool) (fault : Option Rejected) (ended : Rejected) (s t : Stepped) → (if running then unless fault s else Err ended) ≡ Ok t → (fault ≡ None) × (s ≡ t)
was_ok false fault ended s t e = absurd cc
was_ok true (Some r) ended s t e = absurd cc
was_ok true None ended s t e = (refl, Ok-injective e)

no_fault : (image : ImageView) (lines : List Access) (p k i : ℕ) (place : Option ℕ) (arch : Arch) (s : Stepped) → next_step image lines p k i place arch ≡ Ok s →
    step_fault p i (accesses_of p i s.act) place (option_and_then (slice_get lines) place) ≡ None
no_fault image lines p k i place arch s is =
    let line = option_and_then (slice_get lines) place in
    let made = step image arch (loaded_of line) in
    let parts = was_ok (is_running arch.end) (step_fault p i (accesses_of p i made.act) place line) _ made s is in
    subst (λ (t : Stepped). step_fault p i (accesses_of p i t.act) place line ≡ None) parts.1 parts.0

pub replaying_more : (image : ImageView) (n : ℕ) (lines : List Access) (p k i : ℕ) (old new : Arch) (now after_it : Fences) (places : List ℕ) (fences : List Fences) (place : Option ℕ) (act : Act) →
    (was : IsReplaying image n lines p k old now places fences) → length places ≡ i → place ≡ place_of lines p i →
    next_step image lines p k i place old ≡ Ok (record { state = new; act = act }) → IsSound new → counts after_it ≡ fences_after act (counts now) → AreAtMost (k + 1) after_it →
    IsReplaying image n lines p (k + 1) new after_it (places ++ kept act place) (fences ++ kept act (option_map (λ _. now) place))
replaying_more image n lines p k i old new now after_it places fences place act was count found stepped sound fenced low =
    let ran = was.so_far.ran in
    let s : Stepped = record { state = new; act = act } in
    let same : i ≡ length ran.accesses = sym count ∙ was.so_far.made.count in
    let found_there : place ≡ place_of lines p (length ran.accesses) = found ∙ ap (place_of lines p) same in
    let here : next_step image lines p k (length ran.accesses) place ran.state ≡ Ok s = ap (λ j. next_step image lines p k j place ran.state) (sym same) ∙ ap (next_step image lines p k i place) was.state ∙ stepped in
    let more : replayed image n lines p (suc k) ≡ Ok (after p ran s) =
    ap (λ o. then_followed o (followed image lines p k)) was.so_far.is ∙ ap (λ o. then_after p ran (next_step image lines p k (length ran.accesses) o ran.state)) (sym found_there) ∙ ap (then_after p ran) here in
    record {
      so_far = record {
        ran = after p ran s;
        is = subst (λ j. replayed image n lines p j ≡ Ok (after p ran s)) (sym (add-one k)) more;
        made = program_more lines p ran.accesses places fences ran.fences now act place (option_and_then (slice_get lines) place) was.so_far.made found_there was.fenced
            (no_fault image lines p k (length ran.accesses) place ran.state s here);
      };
      state = refl;
      sound = sound;
      fenced = ap (fences_after act) was.fenced ∙ sym fenced;
      few_fences = low;
      few = few_more p k ran.accesses ran.fences act was.few;
    }

-- before the first step
pub replaying_start : (image : ImageView) (n : ℕ) (lines : List Access) (p : ℕ) (arch : Arch) (places : List ℕ) (fences : List Fences) → arch ≡ boot image p n → IsSound arch → places ≡ [] → fences ≡ [] →
    IsReplaying image n lines p 0 arch (record { ll = 0; sl = 0; ls = 0; ss = 0 }) places fences
replaying_start image n lines p arch places fences is sound no_places no_fences_yet = record {
  so_far = record {
    ran = record { state = boot image p n; accesses = []; fences = base.no_fences; output = [] };
    is = refl;
    made = record { count = ap length no_places; stand = λ i below. absurd (omega arith); fenced = ap (map counts) no_fences_yet };
  };
  state = sym is;
  sound = sound;
  fenced = refl;
  few_fences = record { ll = omega arith; sl = omega arith; ls = omega arith; ss = omega arith };
  few = omega arith;
}

-- ---- the place of a line is below their number

pub place_below : (lines : List Access) (p i m : ℕ) (place : Option ℕ) → place ≡ place_of lines p i → length lines ≤ m → IfSome place (λ j. j < m)
place_below lines p i m None is most = tt
place_below lines p i m (Some j) is most = let at = (least_at (λ k. is_of p i (slice_get lines k)) (length lines) j (sym is)).below in omega arith
