-- A home has room for what it sends: it has at most one message to send to each node about a line.
use Rattle.std.proofs.Common.{◌≡◌, ℕ, zero, suc, ◌+◌, ◌<◌, ◌≤◌, ◌==◌, Bool, true, false, cond, ◌&&◌, not, List, [], ◌∷◌, ◌++◌, length, map, All, slice_get, get_or, Option, Some, None, refl, sym, ap, subst, ◌∙◌, true≢false, arith, append_assoc, length-append}
use Rattle.std.specs.List.{flat_map, remove}
use Rattle.std.proofs.lemmas.Bool.{eqb-true, eq-eqb}
use Rattle.std.proofs.lemmas.List.{append-nil}
use Rattle.std.proofs.lemmas.List.Edits.{length-remove}
use Rattle.std.proofs.lemmas.List.Elements.{All-append, All-cons, All-nil, All-tail}
use Rattle.std.proofs.lemmas.List.Quantifiers.{position-Some}
use Rattle.std.proofs.lemmas.Grind.{flat_map-append}
use Rattle.std.proofs.lemmas.Option.{get_or_from_slice_get}
use Rattle.machine_config.specs.declared.config.Protocol.{Protocol}
use Rattle.memory_contracts.specs.Protocol.Content.{count_to_node, from_home}
use Rattle.memory_contracts.specs.Protocol.HomeTable.{HomeStep, home_row, home_takes, is_mesi, grants_owned, grants_shared, collects, to_one}
use Rattle.memory_contracts.specs.Protocol.Laws.{OneFromHome}
use Rattle.memory_contracts.specs.Protocol.Lines.{HomeRecord, Phase, Idle, Collecting, Recalling, Granting, besides, is_some_node, joined, nobody}
use Rattle.memory_contracts.specs.Protocol.Messages.{Message, GetS, GetM, Put, Inv, Recall, Grant, PutAck, InvAck, RecallAck, Done}
use Rattle.memory_contracts.specs.Letters.{Letter}
use Rattle.directory.specs.Homes.{HomeView, Post, first_for, home_after, is_idle, post_to, posts}
use Rattle.coherent_memory.specs.SystemInvariants.{IsFine, IsRightPost}
use Rattle.coherent_memory.specs.Rooms.{Grows, RoomStays, ServingGrows, ServingShortens, StartGrows, TakingGrows}
use Rattle.coherent_memory.specs.Systems.{System, alone, content, home_at, home_number, is_kept, line_of, of_flight, of_letter, of_mail, of_post}
use Rattle.coherent_memory.proofs.Counting.{IsAbout, count-append, from_home-all_mailed, posts-counted, posts_to, sum_below-few}

-- ---- what is to be sent grows

pub starts : StartGrows
starts line v = record { sent = []; outgoing = sym (append-nil v.outgoing); about = All-nil (λ (post : Post). post.line ≡ line) }

map-about : (line now x : ℕ) (ms : List Message) → All (λ (post : Post). post.line ≡ line) (map (post_to line now x) ms)
map-about line now x [] = All-nil (λ (post : Post). post.line ≡ line)
map-about line now x (m ∷ ms) = All-cons (λ (post : Post). post.line ≡ line) (post_to line now x m) (map (post_to line now x) ms) refl (map-about line now x ms)

posts-about : (n line now : ℕ) (sent : ℕ → List Message) → All (λ (post : Post). post.line ≡ line) (posts n line now sent)
posts-about zero line now sent = All-nil (λ (post : Post). post.line ≡ line)
posts-about (suc n) line now sent =
    All-append (λ (post : Post). post.line ≡ line) (posts n line now sent) (map (post_to line now n) (sent n)) (posts-about n line now sent) (map-about line now n (sent n))

pub taking : TakingGrows
taking now m u v g =
    let more = posts v.nodes m.line now (home_takes v.protocol v.nodes m.from m.message (v.records m.line)).sent in
    record {
      sent = g.sent ++ more;
      outgoing = ap (λ ps. ps ++ more) g.outgoing ∙ append_assoc u.outgoing g.sent more;
      about = All-append (λ (post : Post). post.line ≡ m.line) g.sent more g.about (posts-about v.nodes m.line now (home_takes v.protocol v.nodes m.from m.message (v.records m.line)).sent);
    }

-- ---- a request that has waited

-- it is about the line
served-line : (line : ℕ) (letters : List Letter) (place : ℕ) (w : Letter) → first_for line letters ≡ Some place → slice_get letters place ≡ Some w → w.line ≡ line
served-line line letters place w first at =
    let (_, passes, _) = position-Some (λ (v : Letter). v.line == line) letters place w first in
    let same = get_or_from_slice_get letters place w w at in
    eqb-true w.line line (ap (λ (v : Letter). v.line == line) (sym same) ∙ passes)

pub serving : ServingGrows
serving line now u v w g serves =
    let about : serves.letter.line ≡ line = served-line line v.waiting serves.place serves.letter serves.first serves.stands in
    let before : Grows line u (record v { waiting = remove v.waiting serves.place }) = record { sent = g.sent; outgoing = g.outgoing; about = g.about } in
    let here = subst (λ l. Grows l u (record v { waiting = remove v.waiting serves.place })) (sym about) before in
    let after = taking now serves.letter u (record v { waiting = remove v.waiting serves.place }) here in
    subst (λ (w : HomeView). Grows line u w) (sym serves.after)
    (subst (λ l. Grows l u (home_after serves.letter now (record v { waiting = remove v.waiting serves.place }))) about after)

-- an idle line lets nothing wait
either : (b : Bool) (x y : HomeStep) → x.waits ≡ false → y.waits ≡ false → (cond b x y).waits ≡ false
either true x y e f = e
either false x y e f = f

idle-serves : (protocol : Protocol) (n : ℕ) (h : HomeRecord) (owner : Option ℕ) (p : ℕ) (m : Message) → (home_row protocol n h Idle owner p m).waits ≡ false
idle-serves protocol n h None p GetS =
    either (is_mesi protocol && not (is_some_node n h.sharers)) (grants_owned p h.sharers h.memory) (grants_shared p (joined p h.sharers) h.memory) refl refl
idle-serves protocol n h None p GetM =
    either (is_some_node n (besides p h.sharers)) (collects p (besides p h.sharers) h) (grants_owned p nobody h.memory) refl refl
idle-serves protocol n h None p (Put bytes) = refl
idle-serves protocol n h None p Inv = refl
idle-serves protocol n h None p (Recall own) = refl
idle-serves protocol n h None p (Grant own bytes) = refl
idle-serves protocol n h None p PutAck = refl
idle-serves protocol n h None p InvAck = refl
idle-serves protocol n h None p (RecallAck kept bytes) = refl
idle-serves protocol n h None p Done = refl
idle-serves protocol n h (Some q) p GetS = refl
idle-serves protocol n h (Some q) p GetM = refl
idle-serves protocol n h (Some q) p (Put bytes) =
    either (q == p) (record { after = record h { owner = None; memory = bytes }; waits = false; sent = to_one p PutAck }) (record { after = h; waits = false; sent = to_one p PutAck }) refl refl
idle-serves protocol n h (Some q) p Inv = refl
idle-serves protocol n h (Some q) p (Recall own) = refl
idle-serves protocol n h (Some q) p (Grant own bytes) = refl
idle-serves protocol n h (Some q) p PutAck = refl
idle-serves protocol n h (Some q) p InvAck = refl
idle-serves protocol n h (Some q) p (RecallAck kept bytes) = refl
idle-serves protocol n h (Some q) p Done = refl

served-at : (protocol : Protocol) (n : ℕ) (h : HomeRecord) (phase : Phase) (owner : Option ℕ) (p : ℕ) (m : Message) → is_idle phase ≡ true → (home_row protocol n h phase owner p m).waits ≡ false
served-at protocol n h Idle owner p m idle = idle-serves protocol n h owner p m
served-at protocol n h (Collecting q left) owner p m idle = absurd (true≢false (sym idle))
served-at protocol n h (Recalling q r own) owner p m idle = absurd (true≢false (sym idle))
served-at protocol n h (Granting q) owner p m idle = absurd (true≢false (sym idle))

pub shortens : ServingShortens
shortens line now v w serves =
    let (within, _, _) = position-Some (λ (w : Letter). w.line == line) v.waiting serves.place serves.letter serves.first in
    let about : serves.letter.line ≡ line = served-line line v.waiting serves.place serves.letter serves.first serves.stands in
    let m = serves.letter in
    let left = remove v.waiting serves.place in
    let idle : is_idle (v.records m.line).phase ≡ true = subst (λ l. is_idle (v.records l).phase ≡ true) (sym about) serves.idle in
    let h = v.records m.line in
    let serves_it : (home_takes v.protocol v.nodes m.from m.message h).waits ≡ false = served-at v.protocol v.nodes h h.phase h.owner m.from m.message idle in
    let waiting : w.waiting ≡ left = ap (λ (w : HomeView). w.waiting) serves.after ∙ ap (λ b. cond b (left ++ m ∷ []) left) serves_it in
    let long = ap length waiting in
    let one = length-remove v.waiting serves.place within in
    omega (arith, long, one)

-- ---- what is to be sent about one line

All-right : {X : Type 0} (P : X → Type 0) (xs ys : List X) → All P (xs ++ ys) → All P ys
All-right P [] ys all = all
All-right P (x ∷ xs) ys all = All-right P xs ys (All-tail P x (xs ++ ys) all)

-- what a home has to send to a node about a line of its own is between the two
posts-between : (n l x : ℕ) (s : System) → count_to_node (flat_map (of_post l x) (home_at n s l).outgoing) ≤ from_home ((line_of n s l).at x)
posts-between n l x s =
    let posts = flat_map (of_post l x) (home_at n s l).outgoing in
    let rest = flat_map (of_flight l x) s.carrier.flights ++ (flat_map (of_mail l) (s.nodes x).outbox ++ flat_map (of_letter l x) (home_at n s l).waiting) in
    let all = from_home-all_mailed (posts ++ rest) (alone (s.nodes x) l) in
    let split = count-append posts rest in
    omega (arith, all, split)

-- what grows is what is counted
sent-few : OneFromHome → (n p l : ℕ) (s : System) → IsFine n s → is_kept n s l ≡ true → home_number n l ≡ p → (old sent : List Post) → (s.homes p).outgoing ≡ old ++ sent → All (IsAbout n l) sent → length sent ≤ n
sent-few one n p l s fine kept home old sent grown about =
    let few : (x : ℕ) → x < n → posts_to l sent x ≤ 1 = λ x below.
    let all = posts-between n l x s in
    let single = one n (content n s l) (line_of n s l) x (fine.lines l kept) below in
    let here : (home_at n s l).outgoing ≡ old ++ sent = ap (λ h. (s.homes h).outgoing) home ∙ grown in
    let split = ap (λ ps. count_to_node (flat_map (of_post l x) ps)) here ∙ ap count_to_node (flat_map-append (of_post l x) old sent) ∙ count-append (flat_map (of_post l x) old) (flat_map (of_post l x) sent) in
    omega (arith, all, single, split) in
    let sum = posts-counted n l sent about in
    let bound = sum_below-few n (posts_to l sent) few in
    omega (arith, sum, bound)

grown-few : OneFromHome → (n p l : ℕ) (s : System) → IsFine n s → p < n → (old sent : List Post) → (s.homes p).outgoing ≡ old ++ sent → All (λ (post : Post). post.line ≡ l) sent → length sent ≤ n
grown-few one n p l s fine below old [] grown about = omega arith
grown-few one n p l s fine below old (post ∷ sent) grown about =
    let right : All (IsRightPost n (is_kept n s) p) (post ∷ sent) =
    All-right (IsRightPost n (is_kept n s) p) old (post ∷ sent)
    (subst (λ (ps : List Post). All (IsRightPost n (is_kept n s) p) ps) grown (fine.right.homes p below).outgoing) in
    let first : IsRightPost n (is_kept n s) p post = right 0 post (omega arith) in
    let line : post.line ≡ l = about 0 post (omega arith) in
    sent-few one n p l s fine (ap (is_kept n s) (sym line) ∙ first.line) (ap (home_number n) (sym line) ∙ first.home) old (post ∷ sent) grown
    (λ k d inside. record { line = eq-eqb (get_or (post ∷ sent) k d).line l (about k d inside); to = (right k d inside).to; kind = (right k d inside).kind })

pub room : OneFromHome → RoomStays
room one n p line u s fine below free g =
    let few = grown-few one n p line s fine below u.outgoing g.sent g.outgoing g.about in
    let long : length (s.homes p).outgoing ≡ length u.outgoing + length g.sent = ap length g.outgoing ∙ length-append u.outgoing g.sent in
    omega (arith, few, long, free)
