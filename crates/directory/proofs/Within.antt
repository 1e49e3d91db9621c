-- A row of the home's table notes nodes that there are, and sends to such nodes alone.
use Rattle.std.proofs.Common.{◌≡◌, ℕ, ◌<◌, ◌≤◌, ◌==◌, Bool, true, false, cond, ◌&&◌, ◌||◌, not, List, [], ◌∷◌, Option, None, Some, refl, ap, ◌∙◌, arith}
use Rattle.std.proofs.lemmas.Bool.Decides.{nat_tests}
use Rattle.machine_config.specs.declared.config.Protocol.{Protocol}
use Rattle.memory_contracts.specs.Protocol.Messages.{Message, GetS, GetM, Put, Inv, Recall, Grant, PutAck, InvAck, RecallAck, Done}
use Rattle.memory_contracts.specs.Protocol.Lines.{Phase, Idle, Collecting, Recalling, Granting, HomeRecord, besides, is_some_node, joined, nobody}
use Rattle.memory_contracts.specs.Protocol.HomeTable.{HomeStep, collects, grants_owned, grants_shared, home_row, home_takes, is_mesi, is_owner, nothing, recalls, to_each, to_none, to_one, waiting}
use Rattle.memory_contracts.specs.Updates.{with_at}
use Rattle.directory.specs.HomeParts.{AreKnown}
use Rattle.directory.specs.Bounds.{AreBelow, IsKnown, owner_bound, phase_bound}

pub record IsWithin (n : ℕ) (step : HomeStep) : Type 0 where
  pub after : IsKnown n step.after
  pub sent : (y : ℕ) → n ≤ y → step.sent y ≡ []

-- ---- nodes that there are not

other : (x y n : ℕ) → x < n → n ≤ y → (x == y) ≡ false
other x y n below above = grind (arith, nat_tests)

pub one-below : (n x : ℕ) (m : Message) → x < n → (y : ℕ) → n ≤ y → to_one x m y ≡ []
one-below n x m below y above = ap (λ b. cond b (m ∷ []) []) (other x y n below above)

each-below : (n : ℕ) (set : ℕ → Bool) (m : Message) → AreBelow n set → (y : ℕ) → n ≤ y → to_each set m y ≡ []
each-below n set m few y above = ap (λ b. cond b (m ∷ []) []) (few y above)

joined-below : (n x : ℕ) (set : ℕ → Bool) → x < n → AreBelow n set → AreBelow n (joined x set)
joined-below n x set below few y above = ap (λ b. b || set y) (other x y n below above) ∙ few y above

besides-below : (n x : ℕ) (set : ℕ → Bool) → AreBelow n set → AreBelow n (besides x set)
besides-below n x set few y above = ap (λ b. not (x == y) && b) (few y above) ∙ none (x == y)
  where
    none : (b : Bool) → (not b && false) ≡ false
    none true = refl
    none false = refl

nobody-below : (n : ℕ) → AreBelow n nobody
nobody-below n y above = refl

-- ---- what a row may do

either : (n : ℕ) (s t : HomeStep) → IsWithin n s → IsWithin n t → (b : Bool) → IsWithin n (cond b s t)
either n s t of_s of_t true = of_s
either n s t of_s of_t false = of_t

nothing-within : (n : ℕ) (h : HomeRecord) → IsKnown n h → IsWithin n (nothing h)
nothing-within n h known = record { after = known; sent = λ y above. refl }

waiting-within : (n : ℕ) (h : HomeRecord) → IsKnown n h → IsWithin n (waiting h)
waiting-within n h known = record { after = known; sent = λ y above. refl }

owned-within : (n p : ℕ) (sharers : ℕ → Bool) (bytes : List ℕ) → p < n → AreBelow n sharers → IsWithin n (grants_owned p sharers bytes)
owned-within n p sharers bytes below few = record {
  after = record { phase = omega (arith, below); owner = omega (arith, below); sharers = few };
  sent = one-below n p (Grant true bytes) below;
}

shared-within : (n p : ℕ) (sharers : ℕ → Bool) (bytes : List ℕ) → p < n → AreBelow n sharers → IsWithin n (grants_shared p sharers bytes)
shared-within n p sharers bytes below few = record {
  after = record { phase = omega (arith, below); owner = omega arith; sharers = few };
  sent = one-below n p (Grant false bytes) below;
}

recalls-within : (n q p : ℕ) (own : Bool) (h : HomeRecord) → q < n → p < n → IsKnown n h → IsWithin n (recalls q p own h)
recalls-within n q p own h of_q of_p known = record {
  after = record { phase = omega (arith, of_q, of_p); owner = known.owner; sharers = known.sharers };
  sent = one-below n q (Recall own) of_q;
}

collects-within : (n p : ℕ) (others : ℕ → Bool) (h : HomeRecord) → p < n → AreBelow n others → IsKnown n h → IsWithin n (collects p others h)
collects-within n p others h below few known = record {
  after = record { phase = omega (arith, below); owner = known.owner; sharers = known.sharers };
  sent = each-below n others Inv few;
}

put_back-within : (n p : ℕ) (bytes : List ℕ) (h : HomeRecord) → p < n → IsKnown n h → IsWithin n (record { after = record h { owner = None; memory = bytes }; waits = false; sent = to_one p PutAck })
put_back-within n p bytes h below known = record {
  after = record { phase = known.phase; owner = omega arith; sharers = known.sharers };
  sent = one-below n p PutAck below;
}

told-within : (n p : ℕ) (h : HomeRecord) → p < n → IsKnown n h → IsWithin n (record { after = h; waits = false; sent = to_one p PutAck })
told-within n p h below known = record { after = known; sent = one-below n p PutAck below }

turned-within : (n : ℕ) (phase : Phase) (h : HomeRecord) → phase_bound phase ≤ n → IsKnown n h → IsWithin n (record { after = record h { phase = phase }; waits = false; sent = to_none })
turned-within n phase h of_phase known = record {
  after = record { phase = of_phase; owner = known.owner; sharers = known.sharers };
  sent = λ y above. refl;
}

kept-below : (n p q : ℕ) → p < n → q < n → (kept : Bool) → AreBelow n (joined p (cond kept (joined q nobody) nobody))
kept-below n p q of_p of_q true = joined-below n p (joined q nobody) of_p (joined-below n q nobody of_q (nobody-below n))
kept-below n p q of_p of_q false = joined-below n p nobody of_p (nobody-below n)

-- ---- the rows

row-within : (protocol : Protocol) (n : ℕ) (h : HomeRecord) (phase : Phase) (owner : Option ℕ) (p : ℕ) (m : Message) → p < n → IsKnown n h → phase_bound phase ≤ n → owner_bound owner ≤ n → IsWithin n (home_row protocol n h phase owner p m)
row-within protocol n h Idle None p GetS below known of_phase of_owner =
    either n (grants_owned p h.sharers h.memory) (grants_shared p (joined p h.sharers) h.memory)
    (owned-within n p h.sharers h.memory below known.sharers)
    (shared-within n p (joined p h.sharers) h.memory below (joined-below n p h.sharers below known.sharers))
    (is_mesi protocol && not (is_some_node n h.sharers))
row-within protocol n h Idle (Some q) p GetS below known of_phase of_owner = recalls-within n q p false h (omega (arith, of_owner)) below known
row-within protocol n h Idle (Some q) p GetM below known of_phase of_owner = recalls-within n q p true h (omega (arith, of_owner)) below known
row-within protocol n h Idle None p GetM below known of_phase of_owner =
    either n (collects p (besides p h.sharers) h) (grants_owned p nobody h.memory)
    (collects-within n p (besides p h.sharers) h below (besides-below n p h.sharers known.sharers) known)
    (owned-within n p nobody h.memory below (nobody-below n))
    (is_some_node n (besides p h.sharers))
row-within protocol n h Idle owner p (Put bytes) below known of_phase of_owner =
    either n (record { after = record h { owner = None; memory = bytes }; waits = false; sent = to_one p PutAck }) (record { after = h; waits = false; sent = to_one p PutAck })
    (put_back-within n p bytes h below known)
    (told-within n p h below known)
    (is_owner owner p)
row-within protocol n h phase owner p GetS below known of_phase of_owner = waiting-within n h known
row-within protocol n h phase owner p GetM below known of_phase of_owner = waiting-within n h known
row-within protocol n h phase owner p (Put bytes) below known of_phase of_owner = waiting-within n h known
row-within protocol n h (Collecting p left) owner q InvAck below known of_phase of_owner =
    either n (record { after = record h { phase = Collecting p (besides q left) }; waits = false; sent = to_none }) (grants_owned p nobody h.memory)
    (turned-within n (Collecting p (besides q left)) h of_phase known)
    (owned-within n p nobody h.memory (omega (arith, of_phase)) (nobody-below n))
    (is_some_node n (besides q left))
row-within protocol n h (Recalling q p false) owner x (RecallAck kept bytes) below known of_phase of_owner =
    either n (grants_shared p (joined p (cond kept (joined q nobody) nobody)) bytes) (nothing h)
    (shared-within n p (joined p (cond kept (joined q nobody) nobody)) bytes (omega (arith, of_phase)) (kept-below n p q (omega (arith, of_phase)) (omega (arith, of_phase)) kept))
    (nothing-within n h known)
    (q == x)
row-within protocol n h (Recalling q p true) owner x (RecallAck kept bytes) below known of_phase of_owner =
    either n (grants_owned p nobody bytes) (nothing h) (owned-within n p nobody bytes (omega (arith, of_phase)) (nobody-below n)) (nothing-within n h known) (q == x)
row-within protocol n h (Granting p) owner x Done below known of_phase of_owner =
    either n (record { after = record h { phase = Idle }; waits = false; sent = to_none }) (nothing h) (turned-within n Idle h (omega arith) known) (nothing-within n h known) (p == x)
row-within protocol n h phase owner x m below known of_phase of_owner = nothing-within n h known

pub takes-within : (protocol : Protocol) (n p : ℕ) (m : Message) (h : HomeRecord) → p < n → IsKnown n h → IsWithin n (home_takes protocol n p m h)
takes-within protocol n p m h below known = row-within protocol n h h.phase h.owner p m below known known.phase known.owner

pub known-with : (n : ℕ) (records : ℕ → HomeRecord) (line : ℕ) (h : HomeRecord) → AreKnown n records → IsKnown n h → AreKnown n (with_at records line h)
known-with n records line h known of_h l = by (l == line)
  where
    by : (b : Bool) → IsKnown n (cond b h (records l))
    by true = of_h
    by false = known l
