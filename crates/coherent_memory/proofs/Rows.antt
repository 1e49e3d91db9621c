-- What a row of the home's table sends: to which nodes, and that it is for nodes alone.
use Rattle.std.proofs.Common.{◌≡◌, ℕ, zero, suc, ◌<◌, ◌≤◌, Bool, true, false, cond, not, ◌&&◌, ◌==◌, List, [], ◌∷◌, ◌++◌, map, Option, None, Some, All, refl, ap, ap₂, ◌∙◌, append-nil, arith}
use Rattle.std.specs.List.{flat_map}
use Rattle.std.proofs.lemmas.Bool.{and_from, and_left, and_right, cond_both, eqb-false, eqb-true, ne_eqb}
use Rattle.std.proofs.lemmas.List.Concat.{flat_map-append}
use Rattle.std.proofs.lemmas.List.Elements.{All-append, All-cons, All-map, All-nil, All-weaker}
use Rattle.std.proofs.lemmas.List.Folds.{flat_map-map}
use Rattle.machine_config.specs.declared.config.Protocol.{Protocol}
use Rattle.memory_contracts.specs.Protocol.Events.{is_to_node}
use Rattle.memory_contracts.specs.Protocol.HomeTable.{HomeStep, collects, grants_owned, grants_shared, home_row, is_mesi, nothing, to_none, to_one}
use Rattle.memory_contracts.specs.Protocol.Lines.{HomeRecord, Phase, Idle, Collecting, Recalling, Granting, besides, is_some_node, joined, nobody}
use Rattle.memory_contracts.specs.Protocol.Messages.{Message, GetS, GetM, Put, Inv, Recall, Grant, PutAck, InvAck, RecallAck, Done}
use Rattle.directory.specs.Homes.{post_to, posts}
use Rattle.coherent_memory.specs.SystemInvariants.{IsRightPost}
use Rattle.coherent_memory.specs.Systems.{home_number, if_about, of_post}
use Rattle.coherent_memory.proofs.Places.{eqb-refl}

-- ---- posts, by the line and the node that they are about

about_these : (b : Bool) (ms : List Message) → b ≡ true → flat_map (λ m. if_about b m) ms ≡ ms
about_these true [] e = refl
about_these true (m ∷ ms) e = ap (λ ks. m ∷ ks) (about_these true ms e)
about_these false ms e = absurd cc

about_none : (b : Bool) (ms : List Message) → b ≡ false → flat_map (λ m. if_about b m) ms ≡ []
about_none true ms e = absurd cc
about_none false [] e = refl
about_none false (m ∷ ms) e = about_none false ms e

to_this : (l x line now y : ℕ) (ms : List Message) → flat_map (of_post l x) (map (post_to line now y) ms) ≡ flat_map (λ m. if_about ((line == l) && (y == x)) m) ms
to_this l x line now y ms = flat_map-map (of_post l x) (post_to line now y) ms

-- one node more
posts-suc : (n l x line now : ℕ) (sent : ℕ → List Message) →
    flat_map (of_post l x) (posts (suc n) line now sent) ≡ flat_map (of_post l x) (posts n line now sent) ++ flat_map (λ m. if_about ((line == l) && (n == x)) m) (sent n)
posts-suc n l x line now sent =
    flat_map-append (of_post l x) (posts n line now sent) (map (post_to line now n) (sent n)) ∙ ap (λ ms. flat_map (of_post l x) (posts n line now sent) ++ ms) (to_this l x line now n (sent n))

-- nothing about another line
pub posts-other : (n l x line now : ℕ) (sent : ℕ → List Message) → (line == l) ≡ false → flat_map (of_post l x) (posts n line now sent) ≡ []
posts-other zero l x line now sent other = refl
posts-other (suc n) l x line now sent other =
    posts-suc n l x line now sent
    ∙ ap₂ (λ ms ks. ms ++ ks) (posts-other n l x line now sent other) (about_none ((line == l) && (n == x)) (sent n) (and_left (line == l) (n == x) other))

-- nothing to a node that is not there
posts-past : (n l x line now : ℕ) (sent : ℕ → List Message) → n ≤ x → flat_map (of_post l x) (posts n line now sent) ≡ []
posts-past zero l x line now sent past = refl
posts-past (suc n) l x line now sent past =
    posts-suc n l x line now sent
    ∙ ap₂ (λ ms ks. ms ++ ks) (posts-past n l x line now sent (omega (arith, past))) (about_none ((line == l) && (n == x)) (sent n) (and_right (line == l) (n == x) (ne_eqb n x (λ same. omega (arith, past, same)))))

-- to each node what is for it
pub posts-at : (n x line now : ℕ) (sent : ℕ → List Message) → x < n → flat_map (of_post line x) (posts n line now sent) ≡ sent x
posts-at zero x line now sent below = absurd (omega (arith, below))
posts-at (suc n) x line now sent below = posts-suc n line x line now sent ∙ by (n == x) refl (posts-at n x line now sent)
  where
    by : (t : Bool) → (n == x) ≡ t → (x < n → flat_map (of_post line x) (posts n line now sent) ≡ sent x) → flat_map (of_post line x) (posts n line now sent) ++ flat_map (λ m. if_about ((line == line) && (n == x)) m) (sent n) ≡ sent x
    by true e less =
        let same : n ≡ x = eqb-true n x e in
        ap₂ (λ ms ks. ms ++ ks) (posts-past n line x line now sent (omega (arith, same))) (about_these ((line == line) && (n == x)) (sent n) (and_from (line == line) (n == x) (eqb-refl line) e)) ∙ ap sent same
    by false e less =
        let other = eqb-false n x e in
        ap₂ (λ ms ks. ms ++ ks) (less (omega (arith, below, other))) (about_none ((line == line) && (n == x)) (sent n) (and_right (line == line) (n == x) e)) ∙ append-nil (sent x)

-- ---- what a row sends is for nodes

abbrev ToNode : Message → Type 0
ToNode m = is_to_node m ≡ true

abbrev pub SendsToNodes : HomeStep → Type 0
SendsToNodes step = (y : ℕ) → All ToNode (step.sent y)

-- a message or none
if_sent : (b : Bool) (m : Message) → is_to_node m ≡ true → All ToNode (cond b (m ∷ []) [])
if_sent b m kind = cond_both b (m ∷ []) [] (λ ms. All ToNode ms) (λ e. All-cons ToNode m [] kind (All-nil ToNode)) (λ e. All-nil ToNode)

one_sent : (x : ℕ) (m : Message) → is_to_node m ≡ true → (y : ℕ) → All ToNode (to_one x m y)
one_sent x m kind y = if_sent (x == y) m kind

none_sent : (y : ℕ) → All ToNode (to_none y)
none_sent y = All-nil ToNode

pub row_sends : (protocol : Protocol) (n : ℕ) (h : HomeRecord) (phase : Phase) (owner : Option ℕ) (p : ℕ) (m : Message) → SendsToNodes (home_row protocol n h phase owner p m)
row_sends protocol n h Idle None p GetS =
    cond_both (is_mesi protocol && not (is_some_node n h.sharers)) (grants_owned p h.sharers h.memory) (grants_shared p (joined p h.sharers) h.memory) SendsToNodes
    (λ e. one_sent p (Grant true h.memory) refl)
    (λ e. one_sent p (Grant false h.memory) refl)
row_sends protocol n h Idle (Some q) p GetS = one_sent q (Recall false) refl
row_sends protocol n h Idle (Some q) p GetM = one_sent q (Recall true) refl
row_sends protocol n h Idle None p GetM =
    cond_both (is_some_node n (besides p h.sharers)) (collects p (besides p h.sharers) h) (grants_owned p nobody h.memory) SendsToNodes
    (λ e y. if_sent (besides p h.sharers y) Inv refl)
    (λ e. one_sent p (Grant true h.memory) refl)
row_sends protocol n h Idle None p (Put bytes) = one_sent p PutAck refl
row_sends protocol n h Idle (Some q) p (Put bytes) =
    cond_both (q == p) (record { after = record h { owner = None; memory = bytes }; waits = false; sent = to_one p PutAck }) (record { after = h; waits = false; sent = to_one p PutAck }) SendsToNodes
    (λ e. one_sent p PutAck refl)
    (λ e. one_sent p PutAck refl)
row_sends protocol n h phase owner p GetS = none_sent
row_sends protocol n h phase owner p GetM = none_sent
row_sends protocol n h phase owner p (Put bytes) = none_sent
row_sends protocol n h (Collecting p left) owner q InvAck =
    cond_both (is_some_node n (besides q left)) (record { after = record h { phase = Collecting p (besides q left) }; waits = false; sent = to_none }) (grants_owned p nobody h.memory) SendsToNodes
    (λ e. none_sent)
    (λ e. one_sent p (Grant true h.memory) refl)
row_sends protocol n h (Recalling q p false) owner x (RecallAck kept bytes) =
    cond_both (q == x) (grants_shared p (joined p (cond kept (joined q nobody) nobody)) bytes) (nothing h) SendsToNodes
    (λ e. one_sent p (Grant false bytes) refl)
    (λ e. none_sent)
row_sends protocol n h (Recalling q p true) owner x (RecallAck kept bytes) =
    cond_both (q == x) (grants_owned p nobody bytes) (nothing h) SendsToNodes
    (λ e. one_sent p (Grant true bytes) refl)
    (λ e. none_sent)
row_sends protocol n h (Granting p) owner x Done =
    cond_both (p == x) (record { after = record h { phase = Idle }; waits = false; sent = to_none }) (nothing h) SendsToNodes (λ e. none_sent) (λ e. none_sent)
row_sends protocol n h phase owner x m = none_sent

-- ---- posts are where they belong

pub right_posts : (m n : ℕ) (kept : ℕ → Bool) (p line now : ℕ) (sent : ℕ → List Message)
    → m ≤ n
    → kept line ≡ true
    → home_number n line ≡ p
    → ((y : ℕ) → All ToNode (sent y))
    → All (IsRightPost n kept p) (posts m line now sent)
right_posts zero n kept p line now sent few is_kept mine kinds = All-nil (IsRightPost n kept p)
right_posts (suc m) n kept p line now sent few is_kept mine kinds =
    All-append (IsRightPost n kept p) (posts m line now sent) (map (post_to line now m) (sent m))
    (right_posts m n kept p line now sent (omega (arith, few)) is_kept mine kinds)
    (All-map (IsRightPost n kept p) (post_to line now m) (sent m)
    (All-weaker ToNode (λ k. IsRightPost n kept p (post_to line now m k)) (λ k kind. record { line = is_kept; home = mine; to = few; kind = kind }) (sent m) (kinds m)))
