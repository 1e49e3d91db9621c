-- A fault of an order is none of a text.
use Rattle.std.proofs.Common.{◌≡◌, ℕ, zero, suc, Bool, true, false, if◌then◌else◌, List, [], ◌∷◌, length, slice_get, slice_index, Option, None, Some, option_map, Result, Ok, Err, refl, ap, subst, inl, inr}
use Rattle.std.specs.Option.{option_or}
use Rattle.std.specs.Result.{IfErr}
use Rattle.std.proofs.lemmas.Result.{IfErr-weaker}
use Rattle.rsim_base.specs.Accesses.{loads}
use Rattle.rsim_base.specs.Bytes.{count_of}
use Rattle.rsim_base.specs.declared.memory.Access.{Access}
use Rattle.elf64_load.specs.Image.{ImageView}
use Rattle.order_certificate.specs.Certificate.{CertificateView}
use Rattle.sparc_meaning.specs.Arch.{is_running}
use Rattle.sparc_meaning.specs.Run.{Ran}
use Rattle.sparc_meaning.specs.Stepped.{Stepped}
use Rattle.order_checker.specs.declared.verdict.Part.{Part}
use Rattle.order_checker.specs.declared.verdict.Rejected.{Rejected}
use Rattle.order_checker.specs.declared.verdict.Rejected.TheVariants.{Differs}
use Rattle.order_checker.specs.Checked.{is_of_text}
use Rattle.order_checker.specs.Faults.{stray, stray_of, step_fault, unless, then_after, followed, then_followed, replayed, unmade, unmade_of, run_fault_of, run_fault, replay, late, wrong, line_fault_of, line_fault, first_fault, file_line, place_of}
use Rattle.order_checker.specs.Firsts.{first}
use Rattle.order_checker.specs.Outcomes.{IsFault}
use Rattle.list_facts.specs.Options.{Some-injective, Err-injective}

abbrev IsPlain : Option Rejected → Type 0
IsPlain o = (r : Rejected) → o ≡ Some r → is_of_text r ≡ false

none_plain : IsPlain None
none_plain r e = absurd cc

some_plain : (s : Rejected) → is_of_text s ≡ false → IsPlain (Some s)
some_plain s is r e = subst (λ t. is_of_text t ≡ false) (Some-injective e) is

or_plain : (a b : Option Rejected) → IsPlain a → IsPlain b → IsPlain (option_or a b)
or_plain None b p q = q
or_plain (Some s) b p q = p

if_plain : (b : Bool) (o p : Option Rejected) → IsPlain o → IsPlain p → IsPlain (if b then o else p)
if_plain true o p x y = x
if_plain false o p x y = y

first_plain : (f : ℕ → Option Rejected) (n : ℕ) → ((k : ℕ) → IsPlain (f k)) → IsPlain (first f n)
first_plain f zero all = none_plain
first_plain f (suc n) all = or_plain (first f n) (f n) (first_plain f n all) (all n)

stray_plain : (n : ℕ) (lines : List Access) (j : ℕ) (o : Option Access) → IsPlain (stray_of n lines j o)
stray_plain n lines j None = none_plain
stray_plain n lines j (Some e) = if_plain _ _ None (some_plain _ refl) none_plain

unmade_plain : (p count j : ℕ) (o : Option Access) → IsPlain (unmade_of p count j o)
unmade_plain p count j None = none_plain
unmade_plain p count j (Some e) = if_plain _ _ None (some_plain _ refl) none_plain

differs_plain : (line : ℕ) (o : Option Part) → IsPlain (option_map (Differs line) o)
differs_plain line None = none_plain
differs_plain line (Some part) = some_plain _ refl

step_plain : (p i : ℕ) (made : List Access) (place : Option ℕ) (line : Option Access) → IsPlain (step_fault p i made place line)
step_plain p i [] place line = none_plain
step_plain p i (x ∷ more) None line = some_plain _ refl
step_plain p i (x ∷ more) (Some j) None = some_plain _ refl
step_plain p i (x ∷ more) (Some j) (Some e) = differs_plain (file_line j) _

-- the same of what ends a replay
abbrev IsPlainResult : {A : Type 0} → Result A Rejected → Type 0
IsPlainResult {A} x = (r : Rejected) → ◌≡◌ {A = Result A Rejected} x (Err r) → is_of_text r ≡ false

unless_plain : {A : Type 0} (o : Option Rejected) (x : A) → IsPlain o → IsPlainResult (unless o x)
unless_plain None x plain r e = absurd cc
unless_plain (Some s) x plain r e = plain r (ap Some (Err-injective e))

ended_plain : (b : Bool) (x : Result Stepped Rejected) (s : Rejected) → IsPlainResult x → is_of_text s ≡ false → IsPlainResult (if b then x else Err s)
ended_plain true x s plain is r e = plain r e
ended_plain false x s plain is r e = subst (λ t. is_of_text t ≡ false) (Err-injective e) is

after_plain : (p : ℕ) (ran : Ran) (x : Result Stepped Rejected) → IsPlainResult x → IsPlainResult (then_after p ran x)
after_plain p ran (Ok s) plain r e = absurd cc
after_plain p ran (Err t) plain r e = plain r (ap Err (Err-injective e))

followed_plain : (image : ImageView) (lines : List Access) (p s : ℕ) (ran : Ran) → IsPlainResult (followed image lines p s ran)
followed_plain image lines p s ran = after_plain p ran _ (ended_plain (is_running ran.state.end) _ _ (unless_plain _ _ (step_plain p (length ran.accesses) _ (place_of lines p (length ran.accesses)) _)) refl)

then_plain : (x : Result Ran Rejected) (f : Ran → Result Ran Rejected) → IsPlainResult x → ((ran : Ran) → IsPlainResult (f ran)) → IsPlainResult (then_followed x f)
then_plain (Ok ran) f plain all = all ran
then_plain (Err s) f plain all = plain

replayed_plain : (image : ImageView) (n : ℕ) (lines : List Access) (p k : ℕ) → IsPlainResult (replayed image n lines p k)
replayed_plain image n lines p zero r e = absurd cc
replayed_plain image n lines p (suc k) r e = then_plain (replayed image n lines p k) (followed image lines p k) (replayed_plain image n lines p k) (followed_plain image lines p k) r e

run_plain : (lines : List Access) (p : ℕ) (x : Result Ran Rejected) → IsPlainResult x → IsPlain (run_fault_of lines p x)
run_plain lines p (Ok ran) plain = first_plain (unmade lines p (length ran.accesses)) (length lines) (λ j. unmade_plain p (length ran.accesses) j _)
run_plain lines p (Err s) plain = λ r e. plain r (ap Err (Some-injective e))

line_plain : (image : ImageView) (c : CertificateView) (j : ℕ) (o : Option Access) → IsPlain (line_fault_of image c j o)
line_plain image c j None = none_plain
line_plain image c j (Some e) = or_plain _ _
    (first_plain (late image c j e) e.index (λ i. if_plain _ _ None (some_plain _ refl) none_plain))
    (if_plain (loads e.kind) _ None (first_plain (wrong image c.lines j e) (count_of e.size) (λ b. if_plain _ None _ none_plain (some_plain _ refl))) none_plain)

pub first_fault-plain : (image : ImageView) (c : CertificateView) (r : Rejected) → first_fault image c ≡ Some r → is_of_text r ≡ false
unfolding first_fault
first_fault-plain image c r e = or_plain (first (stray c.processors c.lines) (length c.lines)) (option_or (first (run_fault image c) c.processors) (first (line_fault image c) (length c.lines))) (first_plain (stray c.processors c.lines) (length c.lines) (λ j. stray_plain c.processors c.lines j (slice_get c.lines j)))
    (or_plain (first (run_fault image c) c.processors) (first (line_fault image c) (length c.lines)) (first_plain (run_fault image c) c.processors (λ p. run_plain c.lines p (replay image c p) (replayed_plain image c.processors c.lines p (slice_index c.counts p))))
    (first_plain (line_fault image c) (length c.lines) (λ j. line_plain image c j (slice_get c.lines j)))) r e

pub IsFault-plain : (image : ImageView) (c : CertificateView) (r : Rejected) → IsFault (first_fault image c) r → is_of_text r ≡ false
IsFault-plain image c r (inl out) = ap is_of_text out
IsFault-plain image c r (inr is) = first_fault-plain image c r is

pub plain_where_fault : {T : Type 0} (image : ImageView) (c : CertificateView) (result : Result T Rejected) → IfErr result (IsFault (first_fault image c)) → IfErr result (λ r. is_of_text r ≡ false)
plain_where_fault image c result told = IfErr-weaker result (IsFault (first_fault image c)) (λ r. is_of_text r ≡ false) (IsFault-plain image c) told
