-- An event at the home keeps the line coherent: each row of its table, at every node.
use Rattle.std.proofs.Common.{◌≡◌, ℕ, zero, suc, ◌<◌, Bool, true, false, cond, not, ◌&&◌, ◌||◌, ◌==◌, List, Option, None, Some, is_some, refl, sym, ap, ◌∙◌, subst, true≢false, arith}
use Rattle.std.proofs.lemmas.Bool.{eqb-true, eqb-false, eq-eqb}
use Rattle.machine_config.specs.declared.config.Protocol.{Protocol}
use Rattle.machine_config.specs.declared.config.Protocol.TheVariants.{Msi, Mesi}
use Rattle.memory_contracts.specs.Protocol.Messages.{Message, GetS, GetM, Put, PutAck, InvAck, RecallAck, Done, get}
use Rattle.memory_contracts.specs.Protocol.Lines.{Phase, Idle, Collecting, Recalling, Granting, HomeRecord, Cell, LineState, mailed, with_mail, nobody, joined, besides, is_some_node}
use Rattle.memory_contracts.specs.Protocol.HomeTable.{HomeStep, nothing, to_one, to_none, is_owner, grants_owned, grants_shared, collects, recalls, waiting, home_row, after_step, after_home}
use Rattle.memory_contracts.specs.Protocol.Roles.{Owning, listed, role}
use Rattle.memory_contracts.specs.Protocol.Coherent.{Fits, Coherent, HasNoSharers}
use Rattle.memory_contracts.specs.Protocol.Events.{is_to_home}
use Rattle.memory_contracts.proofs.Protocol.Homes.{shared_at, exclusive_at, owned_at, collect_at, asks_not_owner, recall_at, put_bytes, put_at, late_put_at, answer_at, last_answer_at, back_bytes, back_from, back_shared_at, back_owned_at, done_by, done_shared_at, done_owned_at, silent_idle, silent_collecting, silent_recalling, silent_granting}

-- ---- sets of nodes

same : (x : ℕ) → (x == x) ≡ true
same x = eq-eqb x x refl

not_both : (a b y : ℕ) → (a ≡ b → ⊥) → (a == y) ≡ true → (b == y) ≡ false
not_both a b y apart is_a = by (b == y) refl
  where
    by : (t : Bool) → (b == y) ≡ t → (b == y) ≡ false
    by true e = absurd (apart (eqb-true a y is_a ∙ sym (eqb-true b y e)))
    by false e = e

or_left : (a b : Bool) → (a || b) ≡ false → a ≡ false
or_left true b e = e
or_left false b e = refl

or_right : (a b : Bool) → (a || b) ≡ false → b ≡ false
or_right true b e = absurd (true≢false e)
or_right false b e = e

and_right : (a b : Bool) → (a && b) ≡ true → b ≡ true
and_right true b e = e
and_right false b e = absurd (true≢false (sym e))

and_none : (a b : Bool) → b ≡ false → (a && b) ≡ false
and_none true b e = e
and_none false b e = refl

none_next : (n : ℕ) (set : ℕ → Bool) (y : ℕ) → y < suc n → set n ≡ false → (y < n → set y ≡ false) → set y ≡ false
none_next n set y below at_n less = by (y == n) refl
  where
    by : (t : Bool) → (y == n) ≡ t → set y ≡ false
    by true e = ap set (eqb-true y n e) ∙ at_n
    by false e = let other = eqb-false y n e in less (omega (arith, below, other))

pub none_below : (n : ℕ) (set : ℕ → Bool) → is_some_node n set ≡ false → HasNoSharers n set
none_below zero set none y below = absurd (omega (arith, below))
none_below (suc n) set none y below = none_next n set y below (or_left (set n) (is_some_node n set) none) (none_below n set (or_right (set n) (is_some_node n set) none) y)

-- ---- the rows

abbrev noted : Phase → Option ℕ → (ℕ → Bool) → List ℕ → HomeRecord
noted phase owner sharers memory = record { phase = phase; owner = owner; sharers = sharers; memory = memory }

module _ (n : ℕ) (g : List ℕ) (x : ℕ) (below : x < n) (at : ℕ → Cell) (sharers : ℕ → Bool) (memory : List ℕ) where
  abbrev Before : Phase → Option ℕ → Message → Type 0
  Before phase owner m = Coherent n g (with_mail x m (record { home = noted phase owner sharers memory; at = at }))

  abbrev After : HomeStep → Message → Type 0
  After step m = Coherent n g (after_step step x m (record { home = noted Idle None sharers memory; at = at }))

  at_x : (phase : Phase) (owner : Option ℕ) (m : Message) → Before phase owner m → Fits g (mailed m (at x)) (role (noted phase owner sharers memory) x)
  at_x phase owner m co = subst (λ t. Fits g (cond t (mailed m (at x)) (at x)) (role (noted phase owner sharers memory) x)) (same x) (co.nodes x below)

  gets_shared : Before Idle None GetS → After (grants_shared x (joined x sharers) memory) GetS
  gets_shared co = record {
    home = (below, co.home, ap (λ t. t || sharers x) (same x));
    nodes = λ y known. shared_at g (at y) memory (x == y) (sharers y) co.home (co.nodes y known);
  }

  gets_idle : (protocol : Protocol) → Before Idle None GetS → After (home_row protocol n (noted Idle None sharers memory) Idle None x GetS) GetS
  gets_idle Msi co = gets_shared co
  gets_idle Mesi co = by (is_some_node n sharers) refl
    where
      by : (b : Bool) → is_some_node n sharers ≡ b → After (cond (not b) (grants_owned x sharers memory) (grants_shared x (joined x sharers) memory)) GetS
      by true some = gets_shared co
      by false none = record {
        home = (below, refl, none_below n sharers none);
        nodes = λ y known. exclusive_at g (at y) memory (x == y) (sharers y) co.home (co.nodes y known);
      }

  getm_idle : Before Idle None GetM → After (cond (is_some_node n (besides x sharers)) (collects x (besides x sharers) (noted Idle None sharers memory)) (grants_owned x nobody memory)) GetM
  getm_idle co = by (is_some_node n (besides x sharers)) refl
    where
      by : (b : Bool) → is_some_node n (besides x sharers) ≡ b → After (cond b (collects x (besides x sharers) (noted Idle None sharers memory)) (grants_owned x nobody memory)) GetM
      by true some = record {
        home = (below, co.home, ap (λ t. not t && sharers x) (same x), λ y known. and_right (not (x == y)) (sharers y));
        nodes = λ y known. collect_at g (at y) (x == y) (sharers y) (co.nodes y known);
      }
      by false none = record {
        home = (below, refl, λ y known. refl);
        nodes = λ y known. owned_at g (at y) memory (x == y) (sharers y) co.home (none_below n (besides x sharers) none y known) (co.nodes y known);
      }

  get_owned : (own : Bool) (q : ℕ) → Before Idle (Some q) (get own) → After (recalls q x own (noted Idle (Some q) sharers memory)) (get own)
  get_owned own q co = record {
    home = (co.home.0, below, refl, asks_not_owner g (at x) own (q == x) (sharers x) (at_x Idle (Some q) (get own) co), co.home.1);
    nodes = λ y known. recall_at g (at y) own (x == y) (q == y) (sharers y) (co.nodes y known);
  }

  put_owned : (protocol : Protocol) (q : ℕ) (bytes : List ℕ) → Before Idle (Some q) (Put bytes) → After (home_row protocol n (noted Idle (Some q) sharers memory) Idle (Some q) x (Put bytes)) (Put bytes)
  put_owned protocol q bytes co = by (q == x) refl
    where
      by : (b : Bool) → (q == x) ≡ b → After (cond b (record { after = noted Idle None sharers bytes; waits = false; sent = to_one x PutAck }) (record { after = noted Idle (Some q) sharers memory; waits = false; sent = to_one x PutAck })) (Put bytes)
      by true is = record {
        home = put_bytes g (at x) bytes (q == x) (sharers x) is (at_x Idle (Some q) (Put bytes) co);
        nodes = λ y known. put_at g (at y) bytes (x == y) (sharers y) (co.home.1 y known)
            (subst (λ z. Fits g (cond (x == y) (mailed (Put bytes) (at y)) (at y)) (cond (z == y) Owning (listed (sharers y)))) (eqb-true q x is) (co.nodes y known));
      }
      by false other = record {
        home = co.home;
        nodes = λ y known. late_put_at g (at y) bytes (x == y) (q == y) (sharers y) (not_both x q y (λ e. eqb-false q x other (sym e))) (co.nodes y known);
      }

  put_unowned : (protocol : Protocol) (bytes : List ℕ) → Before Idle None (Put bytes) → After (home_row protocol n (noted Idle None sharers memory) Idle None x (Put bytes)) (Put bytes)
  put_unowned protocol bytes co = record {
    home = co.home;
    nodes = λ y known. late_put_at g (at y) bytes (x == y) false (sharers y) (λ is. refl) (co.nodes y known);
  }

  waits_on : (phase : Phase) (owner : Option ℕ) (m : Message) → Before phase owner m → After (waiting (noted phase owner sharers memory)) m
  waits_on phase owner m co = record { home = co.home; nodes = co.nodes }

  inv_ack : (protocol : Protocol) (p : ℕ) (left : ℕ → Bool) → Before (Collecting p left) None InvAck → After (home_row protocol n (noted (Collecting p left) None sharers memory) (Collecting p left) None x InvAck) InvAck
  inv_ack protocol p left co = by (is_some_node n (besides x left)) refl
    where
      by : (b : Bool) → is_some_node n (besides x left) ≡ b → After (cond b (record { after = noted (Collecting p (besides x left)) None sharers memory; waits = false; sent = to_none }) (grants_owned p nobody memory)) InvAck
      by true some = record {
        home = (co.home.0, co.home.1, and_none (not (x == p)) (left p) co.home.2, λ y known is. co.home.3 y known (and_right (not (x == y)) (left y) is));
        nodes = λ y known. answer_at g (at y) (x == y) (p == y) (left y) (sharers y) (co.nodes y known);
      }
      by false none = record {
        home = (co.home.0, refl, λ y known. refl);
        nodes = λ y known. last_answer_at g (at y) memory (x == y) (p == y) (left y) (sharers y) co.home.1 (none_below n (besides x left) none y known) (co.nodes y known);
      }

  abbrev RecallRow : (protocol : Protocol) (o q p : ℕ) (own kept : Bool) (bytes : List ℕ) → Type 0
  RecallRow protocol o q p own kept bytes =
      Before (Recalling q p own) (Some o) (RecallAck kept bytes)
      → After (home_row protocol n (noted (Recalling q p own) (Some o) sharers memory) (Recalling q p own) (Some o) x (RecallAck kept bytes)) (RecallAck kept bytes)

  recall_ack_x : (protocol : Protocol) (o p : ℕ) (own kept : Bool) (bytes : List ℕ) → RecallRow protocol o x p own kept bytes
  recall_ack_x protocol o p false kept bytes co = subst (λ t. After (cond t (grants_shared p (joined p (cond kept (joined x nobody) nobody)) bytes) (nothing h)) (RecallAck kept bytes)) (sym (same x)) (by kept co)
    where
      h : HomeRecord
      h = noted (Recalling x p false) (Some o) sharers memory

      is : (kept : Bool) → Before (Recalling x p false) (Some o) (RecallAck kept bytes) → bytes ≡ g
      is kept co = back_bytes g (at x) kept bytes false (x == x) (p == x) (sharers x) (at_x (Recalling x p false) (Some o) (RecallAck kept bytes) co)

      by : (kept : Bool) → Before (Recalling x p false) (Some o) (RecallAck kept bytes) → After (grants_shared p (joined p (cond kept (joined x nobody) nobody)) bytes) (RecallAck kept bytes)
      by true co = record {
        home = (co.home.1, is true co, ap (λ t. t || joined x nobody p) (same p));
        nodes = λ y known. back_shared_at g (at y) true bytes (x == y) (p == y) (sharers y) (is true co) (co.home.4 y known) (not_both x p y (eqb-false x p co.home.3)) (co.nodes y known);
      }
      by false co = record {
        home = (co.home.1, is false co, ap (λ t. t || false) (same p));
        nodes = λ y known. back_shared_at g (at y) false bytes (x == y) (p == y) (sharers y) (is false co) (co.home.4 y known) (not_both x p y (eqb-false x p co.home.3)) (co.nodes y known);
      }
  recall_ack_x protocol o p true kept bytes co = subst (λ t. After (cond t (grants_owned p nobody bytes) (nothing h)) (RecallAck kept bytes)) (sym (same x)) by
    where
      h : HomeRecord
      h = noted (Recalling x p true) (Some o) sharers memory

      is : bytes ≡ g
      is = back_bytes g (at x) kept bytes true (x == x) (p == x) (sharers x) (at_x (Recalling x p true) (Some o) (RecallAck kept bytes) co)

      by : After (grants_owned p nobody bytes) (RecallAck kept bytes)
      by = record {
        home = (co.home.1, refl, λ y known. refl);
        nodes = λ y known. back_owned_at g (at y) kept bytes (x == y) (p == y) (sharers y) is (co.home.4 y known) (not_both x p y (eqb-false x p co.home.3)) (co.nodes y known);
      }

  recall_ack : (protocol : Protocol) (o q p : ℕ) (own kept : Bool) (bytes : List ℕ) → RecallRow protocol o q p own kept bytes
  recall_ack protocol o q p own kept bytes co =
      let from : (q == x) ≡ true = back_from g (at x) kept bytes own (q == x) (p == x) (sharers x) (at_x (Recalling q p own) (Some o) (RecallAck kept bytes) co) in
      subst (λ z. RecallRow protocol o z p own kept bytes) (sym (eqb-true q x from)) (recall_ack_x protocol o p own kept bytes) co

  abbrev DoneRow : Protocol → Option ℕ → ℕ → Type 0
  DoneRow protocol owner p = Before (Granting p) owner Done → After (home_row protocol n (noted (Granting p) owner sharers memory) (Granting p) owner x Done) Done

  abbrev idle_again : Option ℕ → HomeStep
  idle_again owner = record { after = noted Idle owner sharers memory; waits = false; sent = to_none }

  done_unowned : Before (Granting x) None Done → After (idle_again None) Done
  done_unowned co = record {
    home = co.home.1;
    nodes = λ y known. done_shared_at g (at y) memory (x == y) (sharers y) (λ is. ap sharers (sym (eqb-true x y is)) ∙ co.home.2) (co.nodes y known);
  }

  done_owned : (o : ℕ) → Before (Granting x) (Some o) Done → After (idle_again (Some o)) Done
  done_owned o co = record {
    home = (subst (λ z. z < n) (sym co.home.1) below, co.home.2);
    nodes = λ y known. subst (λ z. Fits g (at y) (cond (z == y) Owning (listed (sharers y)))) (sym co.home.1) (done_owned_at g (at y) memory (x == y) (sharers y) (co.nodes y known));
  }

  done_x : (protocol : Protocol) (owner : Option ℕ) → DoneRow protocol owner x
  done_x protocol None co = subst (λ t. After (cond t (idle_again None) (nothing (noted (Granting x) None sharers memory))) Done) (sym (same x)) (done_unowned co)
  done_x protocol (Some o) co = subst (λ t. After (cond t (idle_again (Some o)) (nothing (noted (Granting x) (Some o) sharers memory))) Done) (sym (same x)) (done_owned o co)

  done : (protocol : Protocol) (owner : Option ℕ) (p : ℕ) → DoneRow protocol owner p
  done protocol owner p co =
      let by : (p == x) ≡ true = done_by g (at x) memory (is_some owner) (p == x) (sharers x) (at_x (Granting p) owner Done co) in
      subst (λ z. DoneRow protocol owner z) (sym (eqb-true p x by)) (done_x protocol owner) co

  -- ---- any phase, owner and message

  abbrev Row : Protocol → Phase → Option ℕ → Message → Type 0
  Row protocol phase owner m = Before phase owner m → After (home_row protocol n (noted phase owner sharers memory) phase owner x m) m

  idle_row : (protocol : Protocol) (owner : Option ℕ) (m : Message) → is_to_home m ≡ true → Row protocol Idle owner m
  idle_row protocol None GetS up co = gets_idle protocol co
  idle_row protocol None GetM up co = getm_idle co
  idle_row protocol None (Put bytes) up co = put_unowned protocol bytes co
  idle_row protocol (Some q) GetS up co = get_owned false q co
  idle_row protocol (Some q) GetM up co = get_owned true q co
  idle_row protocol (Some q) (Put bytes) up co = put_owned protocol q bytes co
  idle_row protocol owner InvAck up co = silent_idle g (mailed InvAck (at x)) 8 (is_owner owner x) (sharers x) refl refl (at_x Idle owner InvAck co)
  idle_row protocol owner (RecallAck kept bytes) up co = silent_idle g (mailed (RecallAck kept bytes) (at x)) 9 (is_owner owner x) (sharers x) refl refl (at_x Idle owner (RecallAck kept bytes) co)
  idle_row protocol owner Done up co = silent_idle g (mailed Done (at x)) 10 (is_owner owner x) (sharers x) refl refl (at_x Idle owner Done co)
  idle_row protocol owner m up co = absurd (true≢false (sym up))

  collecting_row : (protocol : Protocol) (p : ℕ) (left : ℕ → Bool) (owner : Option ℕ) (m : Message) → is_to_home m ≡ true → Row protocol (Collecting p left) owner m
  collecting_row protocol p left (Some o) m up co = absurd co.home
  collecting_row protocol p left None GetS up co = waits_on (Collecting p left) None GetS co
  collecting_row protocol p left None GetM up co = waits_on (Collecting p left) None GetM co
  collecting_row protocol p left None (Put bytes) up co = waits_on (Collecting p left) None (Put bytes) co
  collecting_row protocol p left None InvAck up co = inv_ack protocol p left co
  collecting_row protocol p left None (RecallAck kept bytes) up co = silent_collecting g (mailed (RecallAck kept bytes) (at x)) 9 (p == x) (left x) (sharers x) refl refl refl refl (at_x (Collecting p left) None (RecallAck kept bytes) co)
  collecting_row protocol p left None Done up co = silent_collecting g (mailed Done (at x)) 10 (p == x) (left x) (sharers x) refl refl refl refl (at_x (Collecting p left) None Done co)
  collecting_row protocol p left None m up co = absurd (true≢false (sym up))

  recalling_row : (protocol : Protocol) (q p : ℕ) (own : Bool) (owner : Option ℕ) (m : Message) → is_to_home m ≡ true → Row protocol (Recalling q p own) owner m
  recalling_row protocol q p own None m up co = absurd co.home
  recalling_row protocol q p own (Some o) GetS up co = waits_on (Recalling q p own) (Some o) GetS co
  recalling_row protocol q p own (Some o) GetM up co = waits_on (Recalling q p own) (Some o) GetM co
  recalling_row protocol q p own (Some o) (Put bytes) up co = waits_on (Recalling q p own) (Some o) (Put bytes) co
  recalling_row protocol q p own (Some o) InvAck up co = silent_recalling g (mailed InvAck (at x)) own 8 (q == x) (p == x) (sharers x) refl refl refl refl (at_x (Recalling q p own) (Some o) InvAck co)
  recalling_row protocol q p own (Some o) (RecallAck kept bytes) up co = recall_ack protocol o q p own kept bytes co
  recalling_row protocol q p own (Some o) Done up co = silent_recalling g (mailed Done (at x)) own 10 (q == x) (p == x) (sharers x) refl refl refl refl (at_x (Recalling q p own) (Some o) Done co)
  recalling_row protocol q p own (Some o) m up co = absurd (true≢false (sym up))

  granting_row : (protocol : Protocol) (p : ℕ) (owner : Option ℕ) (m : Message) → is_to_home m ≡ true → Row protocol (Granting p) owner m
  granting_row protocol p owner GetS up co = waits_on (Granting p) owner GetS co
  granting_row protocol p owner GetM up co = waits_on (Granting p) owner GetM co
  granting_row protocol p owner (Put bytes) up co = waits_on (Granting p) owner (Put bytes) co
  granting_row protocol p owner InvAck up co = silent_granting g (mailed InvAck (at x)) (is_some owner) memory 8 (p == x) (sharers x) refl refl refl refl (at_x (Granting p) owner InvAck co)
  granting_row protocol p owner (RecallAck kept bytes) up co = silent_granting g (mailed (RecallAck kept bytes) (at x)) (is_some owner) memory 9 (p == x) (sharers x) refl refl refl refl (at_x (Granting p) owner (RecallAck kept bytes) co)
  granting_row protocol p owner Done up co = done protocol owner p co
  granting_row protocol p owner m up co = absurd (true≢false (sym up))

  pub any_row : (protocol : Protocol) (phase : Phase) (owner : Option ℕ) (m : Message) → is_to_home m ≡ true → Row protocol phase owner m
  any_row protocol Idle owner m up co = idle_row protocol owner m up co
  any_row protocol (Collecting p left) owner m up co = collecting_row protocol p left owner m up co
  any_row protocol (Recalling q p own) owner m up co = recalling_row protocol q p own owner m up co
  any_row protocol (Granting p) owner m up co = granting_row protocol p owner m up co

-- the home takes a message, which stands beside all else of the line
pub home_keeps : (protocol : Protocol) (n : ℕ) (g : List ℕ) (x : ℕ) (m : Message) (rest : LineState) → x < n → is_to_home m ≡ true
    → Coherent n g (with_mail x m rest) → Coherent n g (after_home protocol n x m rest)
home_keeps protocol n g x m rest below up co = any_row n g x below rest.at rest.home.sharers rest.home.memory protocol rest.home.phase rest.home.owner m up co
