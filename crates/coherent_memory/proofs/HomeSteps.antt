-- A home takes a message, or serves a request that has waited.
use Rattle.std.proofs.Common.{◌≡◌, ℕ, ◌<◌, Bool, true, false, cond, ◌&&◌, ◌==◌, ◌⊎◌, inl, inr, List, [], ◌∷◌, ◌++◌, All, arith, refl, sym, ap, ap₂, ◌∙◌, subst}
use Rattle.std.specs.List.{flat_map, remove}
use Rattle.std.proofs.lemmas.Bool.{cases_Bool, eqb-true}
use Rattle.std.proofs.lemmas.List.Elements.{All-append, All-push}
use Rattle.memory_contracts.specs.Carrier.{Flight}
use Rattle.memory_contracts.specs.Protocol.Alike.{AreAlike, IsAlike}
use Rattle.memory_contracts.specs.Protocol.Coherent.{Coherent}
use Rattle.memory_contracts.specs.Protocol.Events.{is_to_home}
use Rattle.memory_contracts.specs.Protocol.HomeTable.{HomeStep, after_home, after_step, home_takes}
use Rattle.memory_contracts.specs.Protocol.Lines.{Cell, all_mailed, mailed, with_mail}
use Rattle.memory_contracts.specs.Protocol.Messages.{Message}
use Rattle.memory_contracts.specs.Letters.{Letter, letter_of, said}
use Rattle.directory.specs.Homes.{HomeView, home_after, posts}
use Rattle.node_memory.specs.Nodes.{NodeView}
use Rattle.coherent_memory.specs.SystemInvariants.{GoesRight, HasKept, IsFine, IsRight, IsRightFlight, IsRightHome, IsRightLetter, IsRightPost}
use Rattle.coherent_memory.specs.Laws.{HomeTakesKeeps, ServingKeeps}
use Rattle.coherent_memory.specs.Systems.{System, alone, between, content, home_at, home_number, if_about, is_kept, line_of, of_letter, of_post}
use Rattle.coherent_memory.specs.Turns.{with_home, without_flight}
use Rattle.coherent_memory.proofs.Adding.{between_in, flight_more, letter_more, more_as, more_to_send, more_waiting, to_be_asked, to_be_sent, under_way, waiting_for}
use Rattle.coherent_memory.proofs.Alike.{AreReordered, AreReordered-append, AreReordered-refl, AreReordered-same, AreReordered-sym, AreReordered-trans, all_mailed-append}
use Rattle.coherent_memory.proofs.Keeping.{ProtocolLaws, home_takes_keeps, keeps}
use Rattle.coherent_memory.proofs.Lines.{HasMore, IsSameLine, more_at, more_away, same_alike}
use Rattle.coherent_memory.proofs.Places.{All-at_place, All-remove, eqb-refl, eqb-sym, joined_all, joined_last, with_at-both, with_at-other, with_at-same}
use Rattle.coherent_memory.proofs.Rights.{kept_with_home, right_with_carrier, right_with_home}
use Rattle.coherent_memory.proofs.Rows.{posts-at, posts-other, right_posts, row_sends}

-- ---- what a home has to say after a message, and who waits

abbrev step_at : Letter → HomeView → HomeStep
step_at letter v = home_takes v.protocol v.nodes letter.from letter.message (v.records letter.line)

-- a request that has to wait
abbrev if_waits : Bool → List Message → List Message
if_waits waits ms = cond waits ms []

waits_more : (waits : Bool) (l x : ℕ) (letter : Letter) (waiting : List Letter) →
    AreReordered (flat_map (of_letter l x) (cond waits (waiting ++ letter ∷ []) waiting)) (if_waits waits (of_letter l x letter) ++ flat_map (of_letter l x) waiting)
waits_more true l x letter waiting = joined_last (of_letter l x) waiting letter
waits_more false l x letter waiting = AreReordered-refl _

-- all that is said then, with what the home sends in front
says_after : (l x now : ℕ) (letter : Letter) (v : HomeView) (flights : List Flight) (node : NodeView) →
    AreReordered (between_in l x (home_after letter now v) flights node)
    (flat_map (of_post l x) (posts v.nodes letter.line now (step_at letter v).sent) ++ (if_waits (step_at letter v).waits (of_letter l x letter) ++ between_in l x v flights node))
says_after l x now letter v flights node =
    let step = step_at letter v in
    let sent = posts v.nodes letter.line now step.sent in
    let after = home_after letter now v in
    AreReordered-trans
    (more_to_send (to_be_sent l x after) (to_be_sent l x v) (under_way l x flights) (to_be_asked l node) (waiting_for l x after) (flat_map (of_post l x) sent)
    (joined_all (of_post l x) v.outgoing sent))
    (AreReordered-append (flat_map (of_post l x) sent) (flat_map (of_post l x) sent) _ _ (AreReordered-refl (flat_map (of_post l x) sent))
    (more_waiting (to_be_sent l x v) (under_way l x flights) (to_be_asked l node) (waiting_for l x after) (waiting_for l x v) (if_waits step.waits (of_letter l x letter))
    (waits_more step.waits l x letter v.waiting)))

waits_here : (waits b t : Bool) (m : Message) → b ≡ true → if_waits waits (if_about (b && t) m) ≡ if_about (waits && t) m
waits_here true true t m e = refl
waits_here false true t m e = refl
waits_here waits false t m e = absurd cc

waits_there : (waits b t : Bool) (m : Message) → b ≡ false → if_waits waits (if_about (b && t) m) ≡ []
waits_there waits true t m e = absurd cc
waits_there true false t m e = refl
waits_there false false t m e = refl

-- of the line of the message
says_here : (x now : ℕ) (letter : Letter) (v : HomeView) (flights : List Flight) (node : NodeView)
    → x < v.nodes
    → AreReordered
    (between_in letter.line x (home_after letter now v) flights node)
    ((step_at letter v).sent x ++ (if_about ((step_at letter v).waits && (letter.from == x)) letter.message ++ between_in letter.line x v flights node))
says_here x now letter v flights node below =
    let step = step_at letter v in
    AreReordered-trans (says_after letter.line x now letter v flights node)
    (AreReordered-same (ap₂ (λ ms ks. ms ++ (ks ++ between_in letter.line x v flights node))
    (posts-at v.nodes x letter.line now step.sent below)
    (waits_here step.waits (letter.line == letter.line) (letter.from == x) letter.message (eqb-refl letter.line))))

-- of any other line
says_there : (l x now : ℕ) (letter : Letter) (v : HomeView) (flights : List Flight) (node : NodeView)
    → (letter.line == l) ≡ false
    → AreReordered (between_in l x (home_after letter now v) flights node) (between_in l x v flights node)
says_there l x now letter v flights node other =
    let step = step_at letter v in
    AreReordered-trans (says_after l x now letter v flights node)
    (AreReordered-same (ap₂ (λ ms ks. ms ++ (ks ++ between_in l x v flights node))
    (posts-other v.nodes l x letter.line now step.sent other)
    (waits_there step.waits (letter.line == l) (letter.from == x) letter.message other)))

-- ---- the lines afterwards

mailed_if : (b : Bool) (m : Message) (ms : List Message) (c : Cell) → all_mailed (if_about b m ++ ms) c ≡ cond b (mailed m (all_mailed ms c)) (all_mailed ms c)
mailed_if true m ms c = refl
mailed_if false m ms c = refl

mailed_after : (sent : List Message) (b : Bool) (m : Message) (ms ks : List Message) (c : Cell)
    → AreReordered ks (sent ++ (if_about b m ++ ms))
    → IsAlike (all_mailed sent (cond b (mailed m (all_mailed ms c)) (all_mailed ms c))) (all_mailed ks c)
mailed_after sent b m ms ks c r =
    subst (λ d. IsAlike d (all_mailed ks c)) (all_mailed-append sent (if_about b m ++ ms) c ∙ ap (all_mailed sent) (mailed_if b m ms c)) ((AreReordered-sym r).alike c)

-- home p of r took the letter
abbrev taken : ℕ → ℕ → Letter → System → System
taken p now letter r = with_home p (home_after letter now (r.homes p)) r

home_taken : (p q now : ℕ) (letter : Letter) (r : System) → q ≡ p → (taken p now letter r).homes q ≡ home_after letter now (r.homes p)
home_taken p q now letter r same = ap (taken p now letter r).homes same ∙ with_at-same r.homes p (home_after letter now (r.homes p))

-- the line of the message: as the protocol says
line_step : (n p now : ℕ) (letter : Letter) (r : System)
    → home_number n letter.line ≡ p
    → (r.homes p).nodes ≡ n
    → AreAlike n (after_step (step_at letter (r.homes p)) letter.from letter.message (line_of n r letter.line)) (line_of n (taken p now letter r) letter.line)
line_step n p now letter r mine nodes = record {
  home = sym (ap (λ v. v.records k) at_home ∙ with_at-same (r.homes p).records k step.after);
  nodes = λ x below. mailed_after (step.sent x) (step.waits && (letter.from == x)) letter.message (between n r k x) (between n t k x) (alone (r.nodes x) k)
      (subst (λ v. AreReordered (between_in k x v r.carrier.flights (r.nodes x)) (step.sent x ++ (if_about (step.waits && (letter.from == x)) letter.message ++ between n r k x))) (sym at_home)
      (subst (λ v. AreReordered (between_in k x (home_after letter now (r.homes p)) r.carrier.flights (r.nodes x)) (step.sent x ++ (if_about (step.waits && (letter.from == x)) letter.message ++ between_in k x v r.carrier.flights (r.nodes x))))
      (ap r.homes (sym mine))
      (says_here x now letter (r.homes p) r.carrier.flights (r.nodes x) (subst (λ m. x < m) (sym nodes) below))));
}
  where
    k : ℕ
    k = letter.line

    step : HomeStep
    step = step_at letter (r.homes p)

    t : System
    t = taken p now letter r

    at_home : t.homes (home_number n k) ≡ home_after letter now (r.homes p)
    at_home = home_taken p (home_number n k) now letter r mine

line_taken : (n p now : ℕ) (letter : Letter) (r : System)
    → home_number n letter.line ≡ p
    → (r.homes p).nodes ≡ n
    → AreAlike n (after_home (r.homes p).protocol n letter.from letter.message (line_of n r letter.line)) (line_of n (taken p now letter r) letter.line)
line_taken n p now letter r mine nodes =
    subst (λ step. AreAlike n (after_step step letter.from letter.message (line_of n r letter.line)) (line_of n (taken p now letter r) letter.line))
    (ap₂ (λ m h. home_takes (r.homes p).protocol m letter.from letter.message h) nodes (ap (λ q. (r.homes q).records letter.line) (sym mine)))
    (line_step n p now letter r mine nodes)

-- any other line: as before
line_stays : (n p now : ℕ) (letter : Letter) (r : System) (l : ℕ) → (letter.line == l) ≡ false → IsSameLine n l r (taken p now letter r)
line_stays n p now letter r l other = record {
  records = with_at-both (λ v. (home_at n r l).records l ≡ v.records l) r.homes p after (home_number n l)
      (λ here. ap (λ q. (r.homes q).records l) here ∙ sym (with_at-other (r.homes p).records letter.line (step_at letter (r.homes p)).after l (eqb-sym letter.line l false other)))
      (λ there. refl);
  copies = λ x. refl;
  registers = λ x. refl;
  messages = λ x. with_at-both (λ v. AreReordered (between n r l x) (between_in l x v r.carrier.flights (r.nodes x))) r.homes p after (home_number n l)
      (λ here. AreReordered-trans
      (AreReordered-same (ap (λ q. between_in l x (r.homes q) r.carrier.flights (r.nodes x)) here))
      (AreReordered-sym (says_there l x now letter (r.homes p) r.carrier.flights (r.nodes x) other)))
      (λ there. AreReordered-refl (between n r l x));
}
  where
    after : HomeView
    after = home_after letter now (r.homes p)

-- ---- messages are where they belong

waits_right : (waits : Bool) (P : Letter → Type 0) (letter : Letter) (waiting : List Letter) → P letter → All P waiting → All P (cond waits (waiting ++ letter ∷ []) waiting)
waits_right true P letter waiting right all = All-push P waiting letter all right
waits_right false P letter waiting right all = all

right_after : (n : ℕ) (kept : ℕ → Bool) (p now : ℕ) (letter : Letter) (v : HomeView) → IsRightLetter n kept p letter → IsRightHome n kept p v → IsRightHome n kept p (home_after letter now v)
right_after n kept p now letter v right home =
    let step = step_at letter v in
    record {
      at = home.at;
      nodes = home.nodes;
      outgoing = All-append (IsRightPost n kept p) v.outgoing (posts v.nodes letter.line now step.sent) home.outgoing
          (right_posts v.nodes n kept p letter.line now step.sent (omega (arith, home.nodes)) right.line right.home
          (row_sends v.protocol v.nodes (v.records letter.line) (v.records letter.line).phase (v.records letter.line).owner letter.from letter.message));
      waiting = waits_right step.waits (IsRightLetter n kept p) letter v.waiting right home.waiting;
    }

-- ---- all of memory

-- home p takes the letter, which s has more than r
taken_keeps : ProtocolLaws → (n p now : ℕ) (letter : Letter) (s r : System)
    → IsFine n s
    → p < n
    → is_kept n r ≡ is_kept n s
    → IsRight n (is_kept n s) r
    → IsRightLetter n (is_kept n s) p letter
    → HasMore n letter.line letter.from letter.message r s
    → HasKept n s (taken p now letter r)
taken_keeps laws n p now letter s r fine below same right of_letter more =
    keeps laws n s (taken p now letter r) fine.some
    (kept_with_home n p (home_after letter now (r.homes p)) r refl ∙ same)
    (right_with_home p (home_after letter now (r.homes p)) right (λ known. right_after n (is_kept n s) p now letter (r.homes p) of_letter home))
    (λ l kept. by l kept (cases_Bool (letter.line == l)))
  where
    home : IsRightHome n (is_kept n s) p (r.homes p)
    home = right.homes p below

    here : Coherent n (content n s letter.line) (line_of n (taken p now letter r) letter.line)
    here =
        let g : List ℕ = content n s letter.line in
        let rest = line_of n r letter.line in
        let before : Coherent n g (with_mail letter.from letter.message rest) = laws.order n g (line_of n s letter.line) (with_mail letter.from letter.message rest) (more_at more) (fine.lines letter.line of_letter.line) in
        laws.order n g (after_home (r.homes p).protocol n letter.from letter.message rest) (line_of n (taken p now letter r) letter.line)
        (line_taken n p now letter r of_letter.home home.nodes)
        (home_takes_keeps laws (r.homes p).protocol n letter.from letter.message g rest of_letter.from of_letter.kind before)

    by : (l : ℕ) → is_kept n s l ≡ true → ((letter.line == l) ≡ true) ⊎ ((letter.line == l) ≡ false) → Coherent n (content n s l) (line_of n (taken p now letter r) l)
    by l kept (inl e) = subst (λ l. Coherent n (content n s l) (line_of n (taken p now letter r) l)) (eqb-true letter.line l e) here
    by l kept (inr e) =
        laws.order n (content n s l) (line_of n r l) (line_of n (taken p now letter r) l) (same_alike (line_stays n p now letter r l e))
        (laws.order n (content n s l) (line_of n s l) (line_of n r l) (more_away more l e) (fine.lines l kept))

-- from under way
letter_right : (n : ℕ) (kept : ℕ → Bool) (p : ℕ) (f : Flight) → f.to ≡ p → is_to_home (said f.message) ≡ true → IsRightFlight n kept f → IsRightLetter n kept p (letter_of f.message)
letter_right n kept p f to kind right =
    let goes : f.to ≡ home_number n f.message.line.0 = subst (λ b. GoesRight n f b) kind right.goes in
    record {
      line = right.line;
      home = sym goes ∙ to;
      from = subst (λ b. cond b f.message.from.0 f.to < n) kind right.party;
      kind = kind;
    }

pub home_takes_message : ProtocolLaws → HomeTakesKeeps
home_takes_message laws n p now i f s fine below at to kind =
    let right : IsRightFlight n (is_kept n s) f = All-at_place (IsRightFlight n (is_kept n s)) s.carrier.flights i f fine.right.flights at in
    taken_keeps laws n p now (letter_of f.message) s (without_flight i s) fine below refl
    (right_with_carrier (without_flight i s).carrier fine.right (All-remove (IsRightFlight n (is_kept n s)) s.carrier.flights i fine.right.flights))
    (letter_right n (is_kept n s) p f to kind right)
    (more_as refl (ap (λ b. cond b f.message.from.0 f.to) kind) refl (flight_more n i f s at))

-- from among those that wait
with_home-twice : (p : ℕ) (a b : HomeView) (s : System) → with_home p a (with_home p b s) ≡ with_home p a s
with_home-twice p a b s = λ i. record { homes = λ q. once (q == p) (s.homes q) i; nodes = s.nodes; carrier = s.carrier }
  where
    once : (t : Bool) (v : HomeView) → cond t a (cond t b v) ≡ cond t a v
    once true v = refl
    once false v = refl

pub serving_keeps : ProtocolLaws → ServingKeeps
serving_keeps laws n p now line home s fine below serves =
    subst (λ t. HasKept n s t) same
    (taken_keeps laws n p now letter s r fine below
    (kept_with_home n p left s refl)
    (right_with_home p left fine.right (λ known. record {
      at = (fine.right.homes p below).at;
      nodes = (fine.right.homes p below).nodes;
      outgoing = (fine.right.homes p below).outgoing;
      waiting = All-remove (IsRightLetter n (is_kept n s) p) (s.homes p).waiting serves.place (fine.right.homes p below).waiting;
    }))
    right
    (letter_more n p serves.place letter s right.home serves.stands))
  where
    letter : Letter
    letter = serves.letter

    left : HomeView
    left = record (s.homes p) { waiting = remove (s.homes p).waiting serves.place }

    r : System
    r = with_home p left s

    right : IsRightLetter n (is_kept n s) p letter
    right = All-at_place (IsRightLetter n (is_kept n s) p) (s.homes p).waiting serves.place letter (fine.right.homes p below).waiting serves.stands

    same : taken p now letter r ≡ with_home p home s
    same =
        ap (λ v. with_home p (home_after letter now v) r) (with_at-same s.homes p left)
        ∙ (with_home-twice p (home_after letter now left) left s ∙ ap (λ v. with_home p v s) (sym serves.after))
