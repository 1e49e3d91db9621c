-- The turn of a processor keeps what stands.
use Rattle.std.proofs.Common.{◌≡◌, ◌⊎◌, ◌<◌, ◌+◌, ◌++◌, ℕ, true, if◌then◌else◌, List, [], ◌∷◌, length, map, Some, slice_get, refl, sym, ap, subst, ◌∙◌, inl, inr, ⊎_elim, arith}
use Rattle.std.specs.List.{Contains}
use Rattle.std.proofs.lemmas.List.{append-nil, length-append, length-map}
use Rattle.rsim_base.specs.Made.{Fences, Made}
use Rattle.rsim_base.specs.declared.memory.Access.{Access}
use Rattle.rsim_base.specs.declared.memory.Model.{Model}
use Rattle.elf64_load.specs.Image.{ImageView}
use Rattle.order_checker.specs.Faults.{writes}
use Rattle.order_checker.specs.Values.{Explains, stored_byte}
use Rattle.sparc_meaning.specs.declared.acts.Act.{Act}
use Rattle.sparc_meaning.specs.Arch.{IsSound, is_running}
use Rattle.sparc_meaning.specs.Run.{accesses_of, after, made_after, output_of}
use Rattle.sparc_meaning.specs.Step.{step}
use Rattle.sparc_meaning.specs.Wants.{wanted}
use Rattle.sparc_meaning.specs.Accesses.{HasNumbers}
use Rattle.cycle_loop.specs.Machine.{CoreView, bytes_after, core_after, next_step, value_found}
use Rattle.cycle_loop.specs.Stands.{IsRunOf, IsTold}
use Rattle.cycle_loop.proofs.Adding.{Adds, IsMemory, adds, next_step-act}
use Rattle.cycle_loop.proofs.Explained.{explains_more}
use Rattle.cycle_loop.proofs.Listing.{IsListed, IsListed-earlier, IsListed-more, IsListed-other}
use Rattle.list_facts.specs.Places.{length-changed, length-middle, slice_get_changed, slice_get_middle, slice_get_more}
use Rattle.cycle_loop.proofs.Runs.{run_on, stepped_on, value_of}
use Rattle.cycle_loop.proofs.Written.{written_more}

-- ---- the order as a text, and memory

-- the accesses of n processors, whose loads are explained, and memory after them
pub record IsText (image : ImageView) (n : ℕ) (order : List Access) (bytes : ℕ → ℕ) : Type 0 where
  pub nodes : (j : ℕ) (e : Access) → slice_get order j ≡ Some e → e.node.0 < n
  pub told : (j : ℕ) (e : Access) → slice_get order j ≡ Some e → IsTold e
  pub explains : Explains image order
  pub memory : IsMemory image order bytes

-- what a step with this act makes: nothing, or one access
abbrev pub Makes : ImageView → List Access → (ℕ → ℕ) → ℕ → ℕ → Act → Type 0
Makes image order bytes p i act =
    ((accesses_of p i act ≡ []) × (bytes_after act bytes ≡ bytes)) ⊎ ((e : Access) × (accesses_of p i act ≡ e ∷ []) × Adds image order bytes (bytes_after act bytes) p i e)

IsText-more : (image : ImageView) (n : ℕ) (order : List Access) (bytes after_it : ℕ → ℕ) (p i : ℕ) (e : Access) → IsText image n order bytes → p < n →
    ((j : ℕ) (f : Access) → slice_get order j ≡ Some f → f.node.0 ≡ p → f.index < i) → Adds image order bytes after_it p i e → IsText image n (order ++ e ∷ []) after_it
IsText-more image n order bytes after_it p i e text among earlier a = record {
  nodes = λ j f at. ⊎_elim (text.nodes j f) (λ last. subst (λ (q : ℕ). q < n) (sym (ap (λ (x : Access). x.node.0) last.1 ∙ a.node)) among) (slice_get_more order e j f at);
  told = λ j f at. ⊎_elim (text.told j f) (λ last. subst IsTold (sym last.1) a.told) (slice_get_more order e j f at);
  explains = explains_more image order e (record { fits = λ j f at. (text.told j f at).printable.addr })
      (record { earlier = λ j f at own. let low = earlier j f at (own ∙ a.node) in let is = a.index in omega arith }) text.explains a.value;
  memory = record {
    written = λ b fits. a.after_it b fits ∙ ap (λ kept. if writes b (Some e) then stored_byte e b else kept) (text.memory.written b fits) ∙ sym (written_more image order e b);
    small = a.small;
  };
}

pub IsText-after : (image : ImageView) (n : ℕ) (order : List Access) (bytes : ℕ → ℕ) (p i : ℕ) (act : Act) → IsText image n order bytes → p < n →
    ((j : ℕ) (f : Access) → slice_get order j ≡ Some f → f.node.0 ≡ p → f.index < i) → Makes image order bytes p i act → IsText image n (order ++ accesses_of p i act) (bytes_after act bytes)
IsText-after image n order bytes p i act text among earlier (inl (none, same)) =
    subst (λ (xs : List Access). IsText image n xs (bytes_after act bytes)) (sym (append-nil order) ∙ ap (λ xs. order ++ xs) (sym none)) (subst (IsText image n order) (sym same) text)
IsText-after image n order bytes p i act text among earlier (inr (e, one, a)) =
    subst (λ (xs : List Access). IsText image n (order ++ xs) (bytes_after act bytes)) (sym one) (IsText-more image n order bytes (bytes_after act bytes) p i e text among earlier a)

-- ---- the programs

IsListed-none : (model : Model) (order : List Access) (p : ℕ) (made : List Made) → IsListed model order p made → IsListed model (order ++ []) p (made ++ [])
IsListed-none model order p made listed = rw (append-nil order, append-nil made) listed

listed_own : (image : ImageView) (model : Model) (order : List Access) (bytes : ℕ → ℕ) (p i : ℕ) (act : Act) (fences : Fences) (made : List Made) → IsListed model order p made → i ≡ length made →
    Makes image order bytes p i act → IsListed model (order ++ accesses_of p i act) p (made ++ map (made_after fences) (accesses_of p i act))
listed_own image model order bytes p i act fences made listed number (inl (none, same)) = subst
    (λ (xs : List Access). IsListed model (order ++ xs) p (made ++ map (made_after fences) xs)) (sym none) (IsListed-none model order p made listed)
listed_own image model order bytes p i act fences made listed number (inr (e, one, a)) = subst
    (λ (xs : List Access). IsListed model (order ++ xs) p (made ++ map (made_after fences) xs)) (sym one) (IsListed-more model order p made (made_after fences e) a.node (a.index ∙ number) listed)

listed_other : (image : ImageView) (model : Model) (order : List Access) (bytes : ℕ → ℕ) (p i : ℕ) (act : Act) (q : ℕ) (made : List Made) → (q ≡ p → ⊥) → IsListed model order q made →
    Makes image order bytes p i act → IsListed model (order ++ accesses_of p i act) q made
listed_other image model order bytes p i act q made other listed (inl (none, same)) =
    subst (λ (xs : List Access). IsListed model xs q made) (sym (append-nil order) ∙ ap (λ xs. order ++ xs) (sym none)) listed
listed_other image model order bytes p i act q made other listed (inr (e, one, a)) =
    subst (λ (xs : List Access). IsListed model (order ++ xs) q made) (sym one) (IsListed-other model order q made e (λ own. other (sym own ∙ a.node)) listed)

none_in : (waiting : List Made) (m : Made) → waiting ≡ [] → Contains waiting m → ⊥
none_in [] m e (k, below, at) = omega arith
none_in (x ∷ xs) m e contains = absurd cc

-- a run's accesses and their places
pub IsRunOf-listed : (image : ImageView) (model : Model) (n : ℕ) (order : List Access) (p : ℕ) (c : CoreView) (r : IsRunOf image model n order p c) → IsListed model order p r.ran.accesses
IsRunOf-listed image model n order p c r = record {
  numbered = r.numbered;
  made = r.made;
  all = λ i m at. ⊎_elim (λ place. place) (λ waits. absurd (none_in c.waiting m r.none_waits waits)) (r.all i m at);
  once = r.once;
  ordered = r.ordered;
}

run_own : (image : ImageView) (model : Model) (n : ℕ) (order : List Access) (bytes : ℕ → ℕ) (p : ℕ) (c : CoreView) → (r : IsRunOf image model n order p c) → is_running c.arch.end ≡ true →
    let s = next_step image bytes c.arch in IsSound s.state → Makes image order bytes p c.accesses s.act → IsRunOf image model n (order ++ accesses_of p c.accesses s.act) p (core_after p s c)
run_own image model n order bytes p c r running sound makes =
    let value = value_found bytes (wanted image c.arch) in
    let s = step image c.arch value in
    let stepped : step image r.ran.state (value_of s.act) ≡ s = ap (λ a. step image a (value_of s.act)) r.state ∙ stepped_on image c.arch value in
    let runs : is_running r.ran.state.end ≡ true = ap (λ a. is_running a.end) r.state ∙ running in
    let listed = listed_own image model order bytes p c.accesses s.act r.ran.fences r.ran.accesses (IsRunOf-listed image model n order p c r) (sym r.count) makes in
    let same : r.ran.accesses ++ map (made_after r.ran.fences) (accesses_of p c.accesses s.act) ≡ (after p r.ran s).accesses =
    ap (λ i. r.ran.accesses ++ map (made_after r.ran.fences) (accesses_of p i s.act)) (sym r.count) in
    let there = subst (λ (xs : List Made). IsListed model (order ++ accesses_of p c.accesses s.act) p xs) same listed in
    record {
      ran = after p r.ran s;
      has_run = run_on image p n c.retired r.ran s r.has_run runs stepped;
      numbered = there.numbered;
      state = refl;
      output = ap (λ xs. xs ++ output_of s.act) r.output;
      count = ap length (sym same) ∙ length-append r.ran.accesses (map (made_after r.ran.fences) (accesses_of p c.accesses s.act))
          ∙ ap (λ k. k + length (map (made_after r.ran.fences) (accesses_of p c.accesses s.act))) r.count ∙ ap (λ k. c.accesses + k) (length-map (accesses_of p c.accesses s.act) (made_after r.ran.fences));
      sound = sound;
      made = there.made;
      all = λ i m at. inl (there.all i m at);
      once = there.once;
      ordered = there.ordered;
      none_waits = r.none_waits;
    }

run_other : (image : ImageView) (model : Model) (n : ℕ) (order : List Access) (bytes : ℕ → ℕ) (p i : ℕ) (act : Act) (q : ℕ) (c : CoreView) → (q ≡ p → ⊥) → (r : IsRunOf image model n order q c) →
    Makes image order bytes p i act → IsRunOf image model n (order ++ accesses_of p i act) q c
run_other image model n order bytes p i act q c other r makes =
    let there = listed_other image model order bytes p i act q r.ran.accesses other (IsRunOf-listed image model n order q c r) makes in
    record {
      ran = r.ran;
      has_run = r.has_run;
      numbered = there.numbered;
      state = r.state;
      output = r.output;
      count = r.count;
      sound = r.sound;
      made = there.made;
      all = λ j m at. inl (there.all j m at);
      once = there.once;
      ordered = there.ordered;
      none_waits = r.none_waits;
    }

-- ---- all processors, their order and memory

pub record Stand (image : ImageView) (model : Model) (order : List Access) (cores : List CoreView) (bytes : ℕ → ℕ) : Type 0 where
  pub runs : (p : ℕ) (c : CoreView) → slice_get cores p ≡ Some c → IsRunOf image model (length cores) order p c
  pub text : IsText image (length cores) order bytes

-- the one behind `done` makes a step
pub Stand-stepped : (image : ImageView) (model : Model) (order : List Access) (done : List CoreView) (c : CoreView) (cs : List CoreView) (bytes : ℕ → ℕ) → Stand image model order (done ++ c ∷ cs) bytes →
    is_running c.arch.end ≡ true → let p = length done in let s = next_step image bytes c.arch in IsSound s.state → ((e : Access) → accesses_of p c.accesses s.act ≡ e ∷ [] → HasNumbers e) →
    Stand image model (order ++ accesses_of p c.accesses s.act) (done ++ core_after p s c ∷ cs) (bytes_after s.act bytes)
Stand-stepped image model order done c cs bytes stand running sound numbers =
    let p = length done in
    let s = next_step image bytes c.arch in
    let n = length (done ++ c ∷ cs) in
    let same : n ≡ length (done ++ core_after p s c ∷ cs) = sym (length-changed done c (core_after p s c) cs) in
    let own = stand.runs p c (slice_get_middle done c cs) in
    let makes = adds image order bytes p c.accesses s.act stand.text.memory (next_step-act image bytes c.arch) numbers in
    let earlier : (j : ℕ) (f : Access) → slice_get order j ≡ Some f → f.node.0 ≡ p → f.index < c.accesses = λ j f at of_p.
    subst (λ (k : ℕ). f.index < k) own.count (IsListed-earlier model order p own.ran.accesses (IsRunOf-listed image model n order p c own) j f at of_p) in
    let next_text = IsText-after image n order bytes p c.accesses s.act stand.text (length-middle done c cs) earlier makes in
    let next_own = run_own image model n order bytes p c own running sound makes in
    record {
      runs = λ q d at. subst (λ (k : ℕ). IsRunOf image model k (order ++ accesses_of p c.accesses s.act) q d) same
          (⊎_elim (λ here. rw (here.0, here.1) next_own)
          (λ there. run_other image model n order bytes p c.accesses s.act q d there.0 (stand.runs q d there.1) makes)
          (slice_get_changed done c (core_after p s c) cs q d at));
      text = subst (λ (k : ℕ). IsText image k (order ++ accesses_of p c.accesses s.act) (bytes_after s.act bytes)) same next_text;
    }
