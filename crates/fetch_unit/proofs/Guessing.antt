-- A guess that is right leads to the pair that the instruction computes.
use Rattle.std.proofs.Common.{◌≡◌, ◌%◌, ◌==◌, ℕ, Bool, true, false, if◌then◌else◌, Some, Result, Ok, Err, refl, sym, ap, subst, ◌∙◌}
use Rattle.elf64_load.specs.Image.{ImageView}
use Rattle.sparc_decode.specs.declared.instr.Op.{Op}
use Rattle.sparc_decode.specs.declared.instr.Op.TheVariants as op
use Rattle.sparc_decode.specs.declared.kinds.FormKind.{FormKind}
use Rattle.sparc_decode.specs.declared.kinds.FormKind.TheVariants as kinds
use Rattle.sparc_decode.specs.Kinds.{kind}
use Rattle.sparc_alu.specs.declared.arithmetic.AluOut.{AluOut}
use Rattle.sparc_alu.specs.declared.arithmetic.DivisionByZero.{DivisionByZero}
use Rattle.sparc_alu.specs.Results as alu
use Rattle.sparc_meaning.specs.declared.arch.ArchPhase.{ArchPhase}
use Rattle.sparc_meaning.specs.declared.fetched.Computed.{Computed}
use Rattle.sparc_meaning.specs.declared.fetched.Fetched.{Fetched}
use Rattle.sparc_meaning.specs.declared.fetched.Operands.{Operands}
use Rattle.sparc_meaning.specs.Computed.{computed_by, computed_in, is_taken, jump, links_to, second, served, total, traps_by, written}
use Rattle.sparc_meaning.specs.Forms as form
use Rattle.sparc_meaning.specs.Stepped.{by_slot_to, straight}
use Rattle.branch_predict.specs.Guesses.{PredictorView, guessed, guessed_by}
use Rattle.branch_predict.specs.declared.predictor.Guess.TheVariants.{Taken, NotTaken}
use Rattle.fetch_unit.specs.Laws.{LeadOn, StraightOnes, may_turn, way}
use Rattle.fetch_unit.specs.Path.{branch_to, led_by, led_to}

-- ---- instructions that go straight on

-- the kinds that do
unfoldable goes_straight : FormKind → Bool
goes_straight kinds.BranchesOnCodes = false
goes_straight kinds.BranchesOnRegister = false
goes_straight kinds.Calls = false
goes_straight kinds.Jumps = false
goes_straight kinds.Returns = false
goes_straight _ = true

record IsStraight (c : Computed) (f : Fetched) : Type 0 where
  next : c.next ≡ straight f.pair
  taken : c.taken ≡ false

-- what arithmetic gives, or its trap
straight_written : (r : Result AluOut DivisionByZero) (f : Fetched) → IsStraight (written r f) f
straight_written (Ok out) f = record { next = refl; taken = refl }
straight_written (Err fault) f = record { next = refl; taken = refl }

straight_either : (b : Bool) (c d : Computed) (f : Fetched) → IsStraight c f → IsStraight d f → IsStraight (if b then c else d) f
straight_either true c d f p q = p
straight_either false c d f p q = q

straight_served : (number : ℕ) (f : Fetched) (x : Operands) → IsStraight (served number f x) f
straight_served number f x =
    straight_either (number == 16) _ _ f (record { next = refl; taken = refl })
    (straight_either (number == 17) _ _ f (record { next = refl; taken = refl })
    (straight_either (number == 18) _ _ f (record { next = refl; taken = refl }) (record { next = refl; taken = refl })))

straight_by : (k : FormKind) (image : ImageView) (f : Fetched) (x : Operands) → goes_straight k ≡ true → IsStraight (computed_by k image f x) f
unfolding goes_straight computed_by
straight_by kinds.BranchesOnCodes image f x e = cc
straight_by kinds.BranchesOnRegister image f x e = cc
straight_by kinds.Calls image f x e = cc
straight_by kinds.Jumps image f x e = cc
straight_by kinds.Returns image f x e = cc
straight_by kinds.TrapsIfTaken image f x e =
    straight_either (is_taken f x) _ _ f (straight_served (total f x % 128) f x) (record { next = refl; taken = refl })
straight_by kinds.Computes image f x e = straight_written (alu.computed f.instr.op x.a (second f.instr.src2 x) x.cc x.y) f
straight_by _ image f x e = record { next = refl; taken = refl }

-- ---- where the right guess leads

leads_straight : (k : FormKind) (c : Computed) (f : Fetched) → way k c ≡ (if c.taken then Taken else NotTaken) → branch_to k false f.instr f.pair ≡ straight f.pair → IsStraight c f
    → led_to (way k c) k f.instr f.pair ≡ Some c.next
leads_straight k c f is straight_on p = rw (is, p.taken) (ap Some (straight_on ∙ sym p.next))

-- a branch, taken or not
leads_branch : (goes : Bool) (k : FormKind) (f : Fetched) → led_to (if goes then Taken else NotTaken) k f.instr f.pair ≡ Some (branch_to k goes f.instr f.pair)
leads_branch true k f = refl
leads_branch false k f = refl

-- a jump, or its trap
leads_jump : (target : ℕ) (f : Fetched) → Some (by_slot_to (jump target f).next.npc f.pair) ≡ Some (jump target f).next
leads_jump target f =
    let c : Bool → Computed = λ b. if b then links_to target f else traps_by 0x034 f in
    elim (target % 4 == 0) as (λ b. Some (by_slot_to (c b).next.npc f.pair) ≡ Some (c b).next) [ true ↦ refl | false ↦ refl ]

leads : (k : FormKind) (image : ImageView) (f : Fetched) (x : Operands) → let c = computed_by k image f x in led_to (way k c) k f.instr f.pair ≡ Some c.next
unfolding computed_by goes_straight
leads kinds.BranchesOnCodes image f x = leads_branch (is_taken f x) kinds.BranchesOnCodes f
leads kinds.BranchesOnRegister image f x = leads_branch (is_taken f x) kinds.BranchesOnRegister f
leads kinds.Calls image f x = refl
leads kinds.Jumps image f x = leads_jump (total f x) f
leads kinds.Returns image f x = leads_jump (total f x) f
leads k image f x = leads_straight k (computed_by k image f x) f refl refl (straight_by k image f x refl)

pub lead_on : LeadOn
lead_on image f x runs =
    let P : ArchPhase → Type 0 = λ part. let c = computed_in part image f x in led_by (way (kind f.instr.op) c) f.instr f.pair ≡ Some c.next in
    subst P (sym runs) (leads (kind f.instr.op) image f x)

-- ---- guesses that are right

straight_guess : (o : Op) (image : ImageView) (f : Fetched) (x : Operands) (p : PredictorView) → may_turn (kind o) ≡ false
    → (guessed_by o f.pair.pc f.instr p).guess ≡ way (kind o) (computed_by (kind o) image f x)
unfolding kind computed_by goes_straight
straight_guess op.Bicc image f x p e = cc
straight_guess op.BPcc image f x p e = cc
straight_guess op.BPr image f x p e = cc
straight_guess op.Jmpl image f x p e = cc
straight_guess op.Return image f x p e = cc
straight_guess op.Call image f x p e = refl
straight_guess o image f x p e = sym (ap (λ b. if b then Taken else NotTaken) (straight_by (kind o) image f x refl).taken)

pub straight_ones : StraightOnes
straight_ones image f x p runs e =
    let P : ArchPhase → Type 0 = λ part. (guessed f.pair.pc f.instr p).guess ≡ way (kind f.instr.op) (computed_in part image f x) in
    subst P (sym runs) (straight_guess f.instr.op image f x p e)
