-- The file of an order, so far as it is written.
use Rattle.std.proofs.Common.{◌≡◌, ◌<◌, ◌++◌, ℕ, suc, true, false, Bool, if◌then◌else◌, List, [], ◌∷◌, length, map, Option, None, Some, Result, Ok, Err, refl, sym, ap, subst, ◌∙◌, append-nil, append_assoc, arith}
use Rattle.std.specs.List.{flat_map}
use Rattle.std.proofs.lemmas.List.Concat.{flat_map-append}
use Rattle.rsim_base.specs.declared.memory.Access.{Access}
use Rattle.rsim_base.specs.declared.memory.Model.{Model}
use Rattle.cycle_loop.specs.Machine.{MachineView}
use Rattle.order_certificate.specs.OrderText.{ending, heading, line}
use Rattle.order_log.specs.Laws.{AreRetired, AreRetired-first, AreRetired-rest, pop_takes_first}
use Rattle.order_log.specs.Log.{Place, after_pop, first_final, placed}
use Rattle.rsim_io.specs.Files.{Appends, Files}
use Rattle.rsim_io.specs.declared.shelf.StoreFault.{StoreFault}
use Rattle.rsim_top.specs.Machine.{accesses_of, counts_of, order_of}
use Rattle.rsim_top.specs.Outside.{HasFile, HasPrefixOfFile}
use Rattle.rsim_top.specs.Pieces.{GoesOn, IsSoFar}
use Rattle.rsim_top.proofs.Texts.{order_of-parts}
use Rattle.rsim_top.proofs.Stored.{IsSoFar-more, IsSoFar-written, HasPrefixOfFile-so_far, HasPrefixOfFile-from_failed, HasPrefixOfFile-longer}

-- ---- a text that goes on

pub GoesOn-nothing : (name : List ℕ) (now : Option Files) (piece : List ℕ) → GoesOn name [] now piece now piece (Ok tt)
GoesOn-nothing name now piece = λ old so_far is. subst (λ s. IsSoFar name s old now piece) (sym (append-nil so_far)) is

-- into the piece
pub GoesOn-piece : (name more : List ℕ) (now : Option Files) (piece grown : List ℕ) → grown ≡ piece ++ more → GoesOn name more now piece now grown (Ok tt)
GoesOn-piece name more now piece grown put = λ old so_far is. subst (IsSoFar name (so_far ++ more) old now) (sym put) (IsSoFar-more old now name so_far piece more is)

-- ...which goes into the file then
pub GoesOn-file : (name more : List ℕ) (now new : Option Files) (piece grown left : List ℕ) → grown ≡ piece ++ more → Appends now name grown (Ok tt) new → left ≡ [] → GoesOn name more now piece new left (Ok tt)
GoesOn-file name more now new piece grown left put appended none = λ old so_far is.
    subst (IsSoFar name (so_far ++ more) old new) (sym none) (IsSoFar-written old now new name (so_far ++ more) grown (GoesOn-piece name more now piece grown put old so_far is) appended)

-- nothing was put
pub GoesOn-short : (name more : List ℕ) (now : Option Files) (piece grown : List ℕ) (fault : StoreFault) → GoesOn name more now piece now grown (Err fault)
GoesOn-short name more now piece grown fault = λ old so_far is. HasPrefixOfFile-so_far old now name so_far more (so_far ++ more) piece is refl

-- the piece did not go into the file whole
pub GoesOn-failed : (name more : List ℕ) (now new : Option Files) (piece grown left : List ℕ) (fault : StoreFault) → grown ≡ piece ++ more → Appends now name grown (Err fault) new → GoesOn name more now piece new left (Err fault)
GoesOn-failed name more now new piece grown left fault put appended = λ old so_far is.
    HasPrefixOfFile-from_failed old now new name (so_far ++ more) [] (so_far ++ more) grown fault (GoesOn-piece name more now piece grown put old so_far is) (append-nil (so_far ++ more)) appended

-- more behind more
pub GoesOn-both : (name first next : List ℕ) (a b c : Option Files) (p q r : List ℕ) (result : Result (Unit {0}) StoreFault) → GoesOn name first a p b q (Ok tt) → GoesOn name next b q c r result → GoesOn name (first ++ next) a p c r result
GoesOn-both name first next a b c p q r (Ok done) one two = λ old so_far is.
    subst (λ s. IsSoFar name s old c r) (append_assoc so_far first next) (two old (so_far ++ first) (one old so_far is))
GoesOn-both name first next a b c p q r (Err fault) one two = λ old so_far is.
    subst (λ s. HasPrefixOfFile name s old c) (append_assoc so_far first next) (two old (so_far ++ first) (one old so_far is))

-- what is left in part is a part of more
pub GoesOn-longer : (name more rest : List ℕ) (a b : Option Files) (p q : List ℕ) (fault : StoreFault) → GoesOn name more a p b q (Err fault) → GoesOn name (more ++ rest) a p b q (Err fault)
GoesOn-longer name more rest a b p q fault goes = λ old so_far is.
    subst (λ s. HasPrefixOfFile name s old b) (append_assoc so_far more rest) (HasPrefixOfFile-longer name (so_far ++ more) rest old b (goes old so_far is))

-- ---- accesses that are taken out

abbrev pub lines_of : List Place → List ℕ
lines_of log = flat_map line (map (λ x. x.access) log)

-- the first access is taken out of the log
pub taken_first : (log : List Place) (a : Access) → first_final log ≡ Some a → map (λ (x : Place). x.access) log ≡ a ∷ map (λ x. x.access) (after_pop log)
taken_first log a taken = ap (map (λ (x : Place). x.access)) (pop_takes_first a log taken)

pub AreRetired-popped : (log : List Place) (a : Access) → first_final log ≡ Some a → AreRetired log → AreRetired (after_pop log)
AreRetired-popped log a taken all = AreRetired-rest (placed a true) (after_pop log) (subst AreRetired (pop_takes_first a log taken) all)

pub shorter_popped : (log : List Place) (a : Access) → first_final log ≡ Some a → length (after_pop log) < length log
shorter_popped log a taken = let same : length log ≡ suc (length (after_pop log)) = ap length (pop_takes_first a log taken) in omega arith

-- none is left
pub none_left : (log : List Place) → first_final log ≡ None → AreRetired log → log ≡ []
none_left [] none all = refl
none_left (x ∷ log) none all = absurd (not_both x.retired (AreRetired-first x log all) none)
  where
    not_both : (b : Bool) → b ≡ true → (if b then Some x.access else None) ≡ None → ⊥
    not_both true is none = cc
    not_both false is none = cc

-- the lines so far, where the first that is left was written too
pub lines_taken : (done all : List Access) (log : List Place) (a : Access) → all ≡ done ++ map (λ x. x.access) log → first_final log ≡ Some a → all ≡ (done ++ a ∷ []) ++ map (λ x. x.access) (after_pop log)
lines_taken done all log a parts taken = parts ∙ ap (λ xs. done ++ xs) (taken_first log a taken) ∙ sym (append_assoc done (a ∷ []) (map (λ (x : Place). x.access) (after_pop log)))

pub line_behind : (done : List Access) (a : Access) → flat_map line (done ++ a ∷ []) ≡ flat_map line done ++ line a
line_behind done a = flat_map-append line done (a ∷ []) ∙ ap (λ t. flat_map line done ++ t) (append-nil (line a))

pub lines_rest : (done : List Access) (a : Access) (rest : List Access) → flat_map line ((done ++ a ∷ []) ++ rest) ≡ (flat_map line done ++ line a) ++ flat_map line rest
lines_rest done a rest = flat_map-append line (done ++ a ∷ []) rest ∙ ap (λ t. t ++ flat_map line rest) (line_behind done a)

-- ---- the whole file

-- the heading alone
pub IsSoFar-begun : (name : List ℕ) (model : Model) (n : ℕ) (old now : Option Files) (piece : List ℕ) → HasFile name [] old now → piece ≡ heading model n → IsSoFar name (heading model n) old now piece
IsSoFar-begun name model n old now piece made begun = record { done = []; file = made; follows = begun }

-- the heading and all lines
abbrev pub listed : Model → MachineView → List ℕ
listed model v = heading model (length v.cores) ++ flat_map line (accesses_of v)

-- ...and the end
pub IsSoFar-ended : (name : List ℕ) (model : Model) (v : MachineView) (old now : Option Files) (piece grown : List ℕ) → IsSoFar name (listed model v) old now piece → grown ≡ piece ++ ending (counts_of v) → IsSoFar name (order_of model v) old now grown
IsSoFar-ended name model v old now piece grown is ended =
    subst (λ s. IsSoFar name s old now grown) (order_of-parts model v)
    (subst (IsSoFar name (listed model v ++ ending (counts_of v)) old now) (sym ended) (IsSoFar-more old now name (listed model v) piece (ending (counts_of v)) is))

pub HasPrefixOfFile-listed : (name : List ℕ) (model : Model) (v : MachineView) (old now : Option Files) → HasPrefixOfFile name (listed model v) old now → HasPrefixOfFile name (order_of model v) old now
HasPrefixOfFile-listed name model v old now part =
    subst (λ s. HasPrefixOfFile name s old now) (order_of-parts model v) (HasPrefixOfFile-longer name (listed model v) (ending (counts_of v)) old now part)

pub HasPrefixOfFile-lines : (name : List ℕ) (model : Model) (v : MachineView) (old now : Option Files) (piece : List ℕ) → IsSoFar name (listed model v) old now piece → HasPrefixOfFile name (order_of model v) old now
HasPrefixOfFile-lines name model v old now piece is =
    HasPrefixOfFile-so_far old now name (listed model v) (ending (counts_of v)) (order_of model v) piece is (order_of-parts model v)
