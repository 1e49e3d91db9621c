-- The verdict on an order, from its parts.
use Rattle.std.proofs.Common.{◌≡◌, ℕ, List, length, None, Some, Result, Ok, Err, IfOk, IfErr, OnOk, sym, ap, subst, inl, inr, ◌∙◌}
use Rattle.std.specs.Option.{option_or}
use Rattle.rsim_base.specs.declared.memory.Access.{Access}
use Rattle.elf64_load.specs.Image.{ImageView}
use Rattle.order_certificate.specs.Certificate.{CertificateView, IsCertificate, text_of}
use Rattle.order_certificate.specs.Laws.{ReadsOnce}
use Rattle.order_certificate.specs.Reading.{IsRead}
use Rattle.order_certificate.specs.declared.fault.TextFault.{TextFault}
use Rattle.sparc_meaning.specs.Run.{Ran}
use Rattle.order_checker.specs.declared.verdict.Accepted.{Accepted}
use Rattle.order_checker.specs.declared.verdict.Rejected.{Rejected}
use Rattle.order_checker.specs.declared.verdict.Rejected.TheVariants as rejected
use Rattle.order_checker.specs.Checked.{Checks, IsVerdict, accepted, unless_fault, verdict}
use Rattle.order_checker.specs.Faults.{stray, run_fault, line_fault, first_fault}
use Rattle.order_checker.specs.Firsts.{first}
use Rattle.order_checker.specs.Fit.{Fit}
use Rattle.order_checker.specs.Laws.{FaultlessFits, FittingIsFaultless}
use Rattle.order_checker.specs.Outcomes.{IsFault}

-- ---- the first fault

pub fault_of_strays : (image : ImageView) (c : CertificateView) (r : Rejected) → IsFault (first (stray c.processors c.lines) (length c.lines)) r → IsFault (first_fault image c) r
unfolding first_fault
fault_of_strays image c r (inl out) = inl out
fault_of_strays image c r (inr is) = inr (ap (λ o. option_or o (option_or (first (run_fault image c) c.processors) (first (line_fault image c) (length c.lines)))) is)

pub fault_of_runs : (image : ImageView) (c : CertificateView) (r : Rejected) → first (stray c.processors c.lines) (length c.lines) ≡ None → IsFault (first (run_fault image c) c.processors) r → IsFault (first_fault image c) r
unfolding first_fault
fault_of_runs image c r strays (inl out) = inl out
fault_of_runs image c r strays (inr is) = inr (
    ap (λ o. option_or o (option_or (first (run_fault image c) c.processors) (first (line_fault image c) (length c.lines)))) strays
    ∙ ap (λ o. option_or o (first (line_fault image c) (length c.lines))) is
    )

first_fault-lines : (image : ImageView) (c : CertificateView) → first (stray c.processors c.lines) (length c.lines) ≡ None → first (run_fault image c) c.processors ≡ None → first_fault image c ≡ first (line_fault image c) (length c.lines)
unfolding first_fault
first_fault-lines image c strays runs =
    ap (λ o. option_or o (option_or (first (run_fault image c) c.processors) (first (line_fault image c) (length c.lines)))) strays
    ∙ ap (λ o. option_or o (first (line_fault image c) (length c.lines))) runs

pub fault_of_lines : (image : ImageView) (c : CertificateView) (r : Rejected) → first (stray c.processors c.lines) (length c.lines) ≡ None → first (run_fault image c) c.processors ≡ None → IsFault (first (line_fault image c) (length c.lines)) r →
    IsFault (first_fault image c) r
fault_of_lines image c r strays runs (inl out) = inl out
fault_of_lines image c r strays runs (inr is) = inr (first_fault-lines image c strays runs ∙ is)

pub no_fault : (image : ImageView) (c : CertificateView) → first (stray c.processors c.lines) (length c.lines) ≡ None → first (run_fault image c) c.processors ≡ None → first (line_fault image c) (length c.lines) ≡ None → first_fault image c ≡ None
no_fault image c strays runs lines = first_fault-lines image c strays runs ∙ lines

-- ---- answers but for want of memory

pub Checks-map : (P Q : Result Accepted Rejected → Type 0) (r : Result Accepted Rejected) → Checks P r → (P r → Q r) → Checks Q r
Checks-map P Q (Ok a) p f = f p
Checks-map P Q (Err (rejected.Text fault)) p f = f p
Checks-map P Q (Err (rejected.Foreign k)) p f = f p
Checks-map P Q (Err (rejected.Ended p s)) q f = f q
Checks-map P Q (Err (rejected.Missing p i)) q f = f q
Checks-map P Q (Err (rejected.Differs k part)) p f = f p
Checks-map P Q (Err (rejected.OutOfOrder k p i)) q f = f q
Checks-map P Q (Err (rejected.WrongValue k b e f)) p g = g p
Checks-map P Q (Err rejected.Memory) p f = tt

pub verdict_once : ReadsOnce → (image : ImageView) (text : List ℕ) (r : Result Accepted Rejected) → Checks (IsVerdict image text) r → (order : Result CertificateView TextFault) → IsRead text order → Checks (λ s. s ≡ verdict image order) r
verdict_once once image text r checked order is = Checks-map (IsVerdict image text) (λ s. s ≡ verdict image order) r checked (λ v. v.is ∙ ap (verdict image) (once text v.order order v.is_read is))

pub Checks-fault : (image : ImageView) (c : CertificateView) (r : Rejected) → IsFault (first_fault image c) r → Checks (λ s. s ≡ unless_fault c (first_fault image c)) (Err r)
Checks-fault image c r (inl out) = subst (λ s. Checks (λ t. t ≡ unless_fault c (first_fault image c)) (Err s)) (sym out) tt
Checks-fault image c r (inr is) = all r (ap (unless_fault c) (sym is))
  where
    all : (s : Rejected) → unless_fault c (Some s) ≡ unless_fault c (first_fault image c) → Checks (λ t. t ≡ unless_fault c (first_fault image c)) (Err s)
    all (rejected.Text fault) e = e
    all (rejected.Foreign k) e = e
    all (rejected.Ended p s) e = e
    all (rejected.Missing p i) e = e
    all (rejected.Differs k part) e = e
    all (rejected.OutOfOrder k p i) e = e
    all (rejected.WrongValue k b w f) e = e
    all rejected.Memory e = tt

-- what is answered of an order that was read
pub Checks-order : (image : ImageView) (c : CertificateView) (r : Result Accepted Rejected) → IfOk r (λ a. a ≡ accepted c) → OnOk r (first_fault image c ≡ None) → IfErr r (IsFault (first_fault image c)) → Checks (λ s. s ≡ unless_fault c (first_fault image c)) r
Checks-order image c (Ok a) is none fault = ap Ok is ∙ ap (unless_fault c) (sym none)
Checks-order image c (Err r) is none fault = Checks-fault image c r fault

-- ---- orders that fit

pub accepted_fits : FaultlessFits → (image : ImageView) (text : List ℕ) (r : Result Accepted Rejected) → IfOk r (λ a. (c : CertificateView) × IsCertificate c × (text ≡ text_of c) × (a ≡ accepted c) × (first_fault image c ≡ None)) →
    IfOk r (λ a. (c : CertificateView) × IsCertificate c × (text ≡ text_of c) × (a ≡ accepted c) × ((runs : List Ran) × Fit image c.model c.counts c.lines runs))
accepted_fits fits image text (Ok a) (c, is, whole, told, none) = (c, is, whole, told, fits image c is none)
accepted_fits fits image text (Err r) p = tt

pub fitting_accepted : FittingIsFaultless → (image : ImageView) (c : CertificateView) (runs : List Ran) (r : Result Accepted Rejected) → IsCertificate c → Fit image c.model c.counts c.lines runs →
    Checks (λ s. s ≡ unless_fault c (first_fault image c)) r → Checks (λ s. s ≡ Ok (accepted c)) r
fitting_accepted faultless image c runs r is fit checked = Checks-map (λ s. s ≡ unless_fault c (first_fault image c)) (λ s. s ≡ Ok (accepted c)) r checked (λ e. e ∙ ap (unless_fault c) (faultless image c runs is fit))

-- ---- the parts of an order as the code has them

pub strays_same : (c : CertificateView) (n : ℕ) (lines : List Access) → n ≡ c.processors → lines ≡ c.lines → first (stray n lines) (length lines) ≡ first (stray c.processors c.lines) (length c.lines)
strays_same c n lines count same = ap (λ m. first (stray m lines) (length lines)) count ∙ ap (λ ls. first (stray c.processors ls) (length ls)) same
