-- The text of an order is read as that order, each front of it is read as cut off, and no other text is read as an order.
use Rattle.std.proofs.Common.{◌≡◌, ℕ, zero, suc, ◌<◌, ◌≤◌, List, [], ◌∷◌, ◌++◌, length, take, drop, sum, codes, slice_get, Some, Result, Ok, Err, IfOk, refl, sym, ap, ◌∙◌, subst, arith, append_assoc, append-nil, length-drop}
use Rattle.std.specs.List.{AllByRecursion, flat_map}
use Rattle.std.proofs.lemmas.List.{take-append-drop}
use Rattle.std.proofs.lemmas.List.Sums.{sum_by-cons}
use Rattle.rsim_base.specs.declared.memory.Access.{Access}
use Rattle.order_certificate.specs.declared.fault.TextFault.{TextFault}
use Rattle.order_certificate.specs.declared.fault.TextFault.TheVariants.{Truncated}
use Rattle.order_certificate.specs.Certificate.{CertificateView, IsCertificate, IsInText, text_of}
use Rattle.rsim_base.specs.Limits.{max_steps}
use Rattle.order_certificate.specs.OrderText.{line, heading, ending}
use Rattle.order_certificate.specs.Reading.{pieces, AreCounts, order_of, IsRead, Reads}
use Rattle.order_certificate.proofs.Accesses.{access_body, access_written}
use Rattle.order_certificate.proofs.Counts.{ending_body, ending_is}
use Rattle.order_certificate.proofs.Founds.{heading_told, body_found}
use Rattle.order_certificate.proofs.Fronts.{front_of, heading_front, body_front}
use Rattle.order_certificate.proofs.Headings.{version_written, model_body, model_written, processors_body, processors_written, heading_lines}
use Rattle.order_certificate.proofs.Once.{read_once}
use Rattle.order_certificate.proofs.Orders.{behind_version, behind_model, behind_processors, lines_printed, reads_map}

-- ---- orders

counts_few : (counts : List ℕ) → sum counts ≤ max_steps → AreCounts counts
counts_few [] few = tt
counts_few (count ∷ counts) few =
    let both = sum_by-cons (λ x. x) count counts in
    (omega (arith, few, both), counts_few counts (omega (arith, few, both)))

all_in_text : (lines : List Access) → ((j : ℕ) (e : Access) → slice_get lines j ≡ Some e → IsInText e) → AllByRecursion IsInText lines
all_in_text [] in_text = tt
all_in_text (e ∷ lines) in_text = (in_text 0 e refl, all_in_text lines (λ j x found. in_text (suc j) x found))

each_in_text : (lines : List Access) → AllByRecursion IsInText lines → (j : ℕ) (e : Access) → slice_get lines j ≡ Some e → IsInText e
each_in_text [] all j e found = absurd (let no : ⊥ = cc in no)
each_in_text (x ∷ lines) all zero e found = let same : x ≡ e = cc in subst IsInText same all.0
each_in_text (x ∷ lines) all (suc j) e found = each_in_text lines all.1 j e found

-- the text, line by line
text_lines : (c : CertificateView) →
    text_of c ≡ codes "rsim order 1\n" ++ (model_body c.model ++ 10 ∷ (processors_body c.processors ++ 10 ∷ (flat_map (λ e. access_body e ++ 10 ∷ []) c.lines ++ (ending_body c.counts ++ 10 ∷ []))))
text_lines c =
    append_assoc (heading c.model c.processors) (flat_map line c.lines) (ending c.counts)
    ∙ (λ i. heading c.model c.processors ++ (lines_printed c.lines i ++ ending_is c.counts i))
    ∙ heading_lines c.model c.processors (flat_map (λ e. access_body e ++ 10 ∷ []) c.lines ++ (ending_body c.counts ++ 10 ∷ []))

-- ---- fronts

read_front_of : (c : CertificateView) (front behind : List ℕ) → IsCertificate c → front ++ behind ≡ text_of c → IsRead front (front_of c behind)
read_front_of c front behind ok e =
    let r : Result CertificateView TextFault = front_of c behind in
    let entries : List ℕ = flat_map (λ e. access_body e ++ 10 ∷ []) c.lines ++ (ending_body c.counts ++ 10 ∷ []) in
    let text₃ : List ℕ = processors_body c.processors ++ 10 ∷ entries in
    let text₂ : List ℕ = model_body c.model ++ 10 ∷ text₃ in
    heading_front version_written 1 (behind_version r) c tt text₂ front behind tt (e ∙ text_lines c) (λ front₂ e₂.
    heading_front model_written 2 (behind_model r) c c.model text₃ front₂ behind tt e₂ (λ front₃ e₃.
    heading_front processors_written 3 (behind_processors c.model r) c c.processors entries front₃ behind (ok.some, ok.most) e₃ (λ front₄ e₄.
    body_front access_written (order_of c.model c.processors) c.processors c.counts ok.counts (counts_few c.counts ok.few_steps) ok.few_steps c.lines [] 4 front₄ behind (all_in_text c.lines ok.in_text) ok.few_lines e₄)))

pub read_whole : (c : CertificateView) → IsCertificate c → IsRead (text_of c) (Ok c)
read_whole c ok = read_front_of c (text_of c) [] ok (append-nil (text_of c))

pub read_front : (c : CertificateView) (k : ℕ) → IsCertificate c → k < length (text_of c) → IsRead (take k (text_of c)) (Err Truncated)
read_front c k ok below =
    subst (IsRead (take k (text_of c))) (some_left (drop k (text_of c)) (omega (arith, length-drop k (text_of c))))
    (read_front_of c (take k (text_of c)) (drop k (text_of c)) ok (take-append-drop k (text_of c)))
  where
    some_left : (behind : List ℕ) → 0 < length behind → front_of c behind ≡ Err Truncated
    some_left [] some = absurd (omega arith)
    some_left (b ∷ behind) some = refl

-- ---- what is found

pub read_found : (text : List ℕ) (c : CertificateView) → IsRead text (Ok c) → IsCertificate c × (text ≡ text_of c)
read_found text c read =
    let version = heading_told version_written 1 (behind_version (Ok c)) text c read in
    let model = heading_told model_written 2 (behind_model (Ok c)) version.rest c version.then_so in
    let processors = heading_told processors_written 3 (behind_processors model.value (Ok c)) model.rest c model.then_so in
    let found = body_found access_written (order_of model.value processors.value) processors.value (pieces processors.rest) [] 4 processors.rest c refl (omega arith) processors.then_so in
    let made : CertificateView = order_of model.value processors.value found.more found.counts in
    let ok : IsCertificate made = record {
      some = processors.ok.0;
      most = processors.ok.1;
      counts = found.long;
      few_steps = found.few_steps;
      few_lines = found.few;
      in_text = each_in_text found.more found.all;
    } in
    let is : text ≡ text_of made =
    version.is ∙ ap (λ t. codes "rsim order 1\n" ++ t) (model.is ∙ ap (λ t. model_body model.value ++ 10 ∷ t) (processors.is ∙ ap (λ t. processors_body processors.value ++ 10 ∷ t) found.is)) ∙ sym (text_lines made) in
    subst (λ d. IsCertificate d × (text ≡ text_of d)) found.same (ok, is)

-- ---- the clauses on a result that the text is read as

module _ (text : List ℕ) (r : Result CertificateView TextFault) (read : Reads (IsRead text) r) where
  pub reads_whole : (c : CertificateView) → IsCertificate c → text ≡ text_of c → Reads (λ s. s ≡ Ok c) r
  reads_whole c ok is = reads_map (IsRead text) (λ s. s ≡ Ok c) r (λ s read. read_once text s (Ok c) read (subst (λ t. IsRead t (Ok c)) (sym is) (read_whole c ok))) read

  pub reads_front : (c : CertificateView) (k : ℕ) → IsCertificate c → k < length (text_of c) → text ≡ take k (text_of c) → Reads (λ s. s ≡ Err Truncated) r
  reads_front c k ok below is =
      reads_map (IsRead text) (λ s. s ≡ Err Truncated) r (λ s read. read_once text s (Err Truncated) read (subst (λ t. IsRead t (Err Truncated)) (sym is) (read_front c k ok below))) read

pub found_of : (text : List ℕ) (r : Result CertificateView TextFault) → Reads (IsRead text) r → IfOk r (λ c. IsCertificate c × (text ≡ text_of c))
found_of text (Ok c) read = read_found text c read
found_of text (Err f) read = tt

-- ---- laws

pub same_text : (c d : CertificateView) → IsCertificate c → IsCertificate d → text_of c ≡ text_of d → c ≡ d
same_text c d first second e =
    let same : ◌≡◌ {A = Result CertificateView TextFault} (Ok c) (Ok d) = read_once (text_of d) (Ok c) (Ok d) (subst (λ t. IsRead t (Ok c)) e (read_whole c first)) (read_whole d second) in
    let is : c ≡ d = cc in
    is

pub front_once : (c : CertificateView) (k : ℕ) (r : Result CertificateView TextFault) → IsCertificate c → k < length (text_of c) → IsRead (take k (text_of c)) r → r ≡ Err Truncated
front_once c k r ok below read = read_once (take k (text_of c)) r (Err Truncated) read (read_front c k ok below)
