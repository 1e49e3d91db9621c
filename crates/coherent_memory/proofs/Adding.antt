-- Which message one system has more than another: one under way, one that waits at a home, or one that is to be sent.
use Rattle.std.proofs.Common.{◌≡◌, ℕ, Bool, true, false, cond, ◌&&◌, ◌==◌, List, [], ◌∷◌, ◌++◌, Some, drop, refl, sym, ap, ◌∙◌, subst, true≢false}
use Rattle.std.specs.List.{flat_map, remove, slice_get}
use Rattle.std.proofs.lemmas.Bool.{eqb-true, eq-eqb, eqb-false, false_from_ne_true}
use Rattle.memory_contracts.specs.Carrier.{Flight, after_send, class_of, is_full, sends}
use Rattle.memory_contracts.specs.Protocol.Messages as Says
use Rattle.memory_contracts.specs.Letters.{Letter, Mail, said}
use Rattle.memory_contracts.specs.declared.message.Message.{Message}
use Rattle.directory.specs.Homes.{HomeView, Post}
use Rattle.node_memory.specs.Nodes.{NodeView, awaits, copy_of}
use Rattle.coherent_memory.specs.Systems.{System, between, home_at, home_number, if_about, of_flight, of_letter, of_mail, of_post, party}
use Rattle.coherent_memory.specs.Turns.{with_carrier, with_home, with_node, without_flight, without_mail, without_post}
use Rattle.coherent_memory.proofs.Alike.{AreReordered, AreReordered-refl, more_before, more_behind}
use Rattle.coherent_memory.proofs.Lines.{HasMore}
use Rattle.coherent_memory.proofs.Places.{eqb-sym, joined_last, removed, with_at-both}

-- ---- what is said about a line, by who has it

abbrev pub to_be_sent : ℕ → ℕ → HomeView → List Says.Message
to_be_sent l x v = flat_map (of_post l x) v.outgoing

abbrev pub under_way : ℕ → ℕ → List Flight → List Says.Message
under_way l x flights = flat_map (of_flight l x) flights

abbrev pub to_be_asked : ℕ → NodeView → List Says.Message
to_be_asked l v = flat_map (of_mail l) v.outbox

abbrev pub waiting_for : ℕ → ℕ → HomeView → List Says.Message
waiting_for l x v = flat_map (of_letter l x) v.waiting

abbrev pub between_in : ℕ → ℕ → HomeView → List Flight → NodeView → List Says.Message
between_in l x home flights node = to_be_sent l x home ++ (under_way l x flights ++ (to_be_asked l node ++ waiting_for l x home))

-- one of these has more, so the whole has
pub more_to_send : (a a' b c d ms : List Says.Message) → AreReordered a (ms ++ a') → AreReordered (a ++ (b ++ (c ++ d))) (ms ++ (a' ++ (b ++ (c ++ d))))
more_to_send a a' b c d ms r = more_before a a' ms (b ++ (c ++ d)) r

pub more_under_way : (a b b' c d ms : List Says.Message) → AreReordered b (ms ++ b') → AreReordered (a ++ (b ++ (c ++ d))) (ms ++ (a ++ (b' ++ (c ++ d))))
more_under_way a b b' c d ms r = more_behind (b ++ (c ++ d)) (b' ++ (c ++ d)) ms a (more_before b b' ms (c ++ d) r)

pub more_to_ask : (a b c c' d ms : List Says.Message) → AreReordered c (ms ++ c') → AreReordered (a ++ (b ++ (c ++ d))) (ms ++ (a ++ (b ++ (c' ++ d))))
more_to_ask a b c c' d ms r =
    more_behind (b ++ (c ++ d)) (b ++ (c' ++ d)) ms a (more_behind (c ++ d) (c' ++ d) ms b (more_before c c' ms d r))

pub more_waiting : (a b c d d' ms : List Says.Message) → AreReordered d (ms ++ d') → AreReordered (a ++ (b ++ (c ++ d))) (ms ++ (a ++ (b ++ (c ++ d'))))
more_waiting a b c d d' ms r = more_behind (b ++ (c ++ d)) (b ++ (c ++ d')) ms a (more_behind (c ++ d) (c ++ d') ms b (more_behind d d' ms c r))

-- ---- messages under way

-- the message of one place
pub flight_more : (n i : ℕ) (f : Flight) (s : System) → slice_get s.carrier.flights i ≡ Some f → HasMore n f.message.line.0 (party f) (said f.message) (without_flight i s) s
flight_more n i f s e = record {
  records = λ l. refl;
  copies = λ l x. refl;
  registers = λ l x. refl;
  messages = λ l x. more_under_way
      (to_be_sent l x (home_at n s l))
      (under_way l x s.carrier.flights)
      (under_way l x (remove s.carrier.flights i))
      (to_be_asked l (s.nodes x))
      (waiting_for l x (home_at n s l))
      (of_flight l x f)
      (removed (of_flight l x) s.carrier.flights i f e);
}

-- one that was sent
pub posted_more : (n p to : ℕ) (m : Message) (s : System) → is_full s.carrier p (class_of m.kind) ≡ false → HasMore n m.line.0 (party (sends s.carrier p to m)) (said m) s (with_carrier (after_send s.carrier p to m) s)
posted_more n p to m s room =
    subst (λ b. HasMore n m.line.0 (party sent) (said m) s (with_carrier (cond b s.carrier (record (s.carrier) { flights = s.carrier.flights ++ sent ∷ [] })) s))
    (sym room)
    (record {
      records = λ l. refl;
      copies = λ l x. refl;
      registers = λ l x. refl;
      messages = λ l x. more_under_way
          (to_be_sent l x (home_at n s l))
          (under_way l x (s.carrier.flights ++ sent ∷ []))
          (under_way l x s.carrier.flights)
          (to_be_asked l (s.nodes x))
          (waiting_for l x (home_at n s l))
          (of_flight l x sent)
          (joined_last (of_flight l x) s.carrier.flights sent);
    })
  where
    sent : Flight
    sent = sends s.carrier p to m

-- ---- messages of a home

-- the line of another home is another line
pub other_home : (n k l p : ℕ) → home_number n k ≡ p → (home_number n l == p) ≡ false → (k == l) ≡ false
other_home n k l p mine other = false_from_ne_true (k == l) (λ same. eqb-false (home_number n l) p other (ap (home_number n) (sym (eqb-true k l same)) ∙ mine))

not_about : (b t : Bool) (m : Says.Message) (ms : List Says.Message) → b ≡ false → AreReordered ms (if_about (b && t) m ++ ms)
not_about true t m ms e = absurd (true≢false e)
not_about false t m ms e = AreReordered-refl ms

-- home p has a message more than h, about a line of its own
pub home_more : (n k y p : ℕ) (m : Says.Message) (h : HomeView) (s : System)
    → home_number n k ≡ p
    → h.records ≡ (s.homes p).records
    → ((l x : ℕ) → AreReordered (between_in l x (s.homes p) s.carrier.flights (s.nodes x)) (if_about ((k == l) && (y == x)) m ++ between_in l x h s.carrier.flights (s.nodes x)))
    → HasMore n k y m (with_home p h s) s
home_more n k y p m h s mine records messages = record {
  records = λ l. with_at-both (λ v. (home_at n s l).records l ≡ v.records l) s.homes p h (home_number n l)
      (λ same. ap (λ q. (s.homes q).records l) same ∙ sym (ap (λ f. f l) records))
      (λ other. refl);
  copies = λ l x. refl;
  registers = λ l x. refl;
  messages = λ l x. with_at-both (λ v. AreReordered (between n s l x) (if_about ((k == l) && (y == x)) m ++ between_in l x v s.carrier.flights (s.nodes x))) s.homes p h (home_number n l)
      (λ same. subst (λ q. AreReordered (between_in l x (s.homes q) s.carrier.flights (s.nodes x)) (if_about ((k == l) && (y == x)) m ++ between_in l x h s.carrier.flights (s.nodes x))) (sym same) (messages l x))
      (λ other. not_about (k == l) (y == x) m (between n s l x) (other_home n k l p mine other));
}

-- the oldest that is to be sent
pub post_more : (n p : ℕ) (post : Post) (s : System) → home_number n post.line ≡ p → slice_get (s.homes p).outgoing 0 ≡ Some post → HasMore n post.line post.to post.message (without_post p s) s
post_more n p post s mine e = home_more n post.line post.to p post.message (record (s.homes p) { outgoing = drop 1 (s.homes p).outgoing }) s mine refl (λ l x. more_to_send
    (to_be_sent l x (s.homes p))
    (flat_map (of_post l x) (drop 1 (s.homes p).outgoing))
    (under_way l x s.carrier.flights)
    (to_be_asked l (s.nodes x))
    (waiting_for l x (s.homes p))
    (of_post l x post)
    (removed (of_post l x) (s.homes p).outgoing 0 post e))

-- one that waits
pub letter_more : (n p i : ℕ) (letter : Letter) (s : System)
    → home_number n letter.line ≡ p
    → slice_get (s.homes p).waiting i ≡ Some letter
    → HasMore n letter.line letter.from letter.message (with_home p (record (s.homes p) { waiting = remove (s.homes p).waiting i }) s) s
letter_more n p i letter s mine e = home_more n letter.line letter.from p letter.message (record (s.homes p) { waiting = remove (s.homes p).waiting i }) s mine refl (λ l x. more_waiting
    (to_be_sent l x (s.homes p))
    (under_way l x s.carrier.flights)
    (to_be_asked l (s.nodes x))
    (waiting_for l x (s.homes p))
    (flat_map (of_letter l x) (remove (s.homes p).waiting i))
    (of_letter l x letter)
    (removed (of_letter l x) (s.homes p).waiting i letter e))

-- ---- messages of a node

not_of_node : (b t : Bool) (m : Says.Message) (ms : List Says.Message) → t ≡ false → AreReordered ms (if_about (b && t) m ++ ms)
not_of_node b true m ms e = absurd (true≢false e)
not_of_node true false m ms e = AreReordered-refl ms
not_of_node false false m ms e = AreReordered-refl ms

of_node : (b t : Bool) (m : Says.Message) (ks ms : List Says.Message) → t ≡ true → AreReordered ms (if_about b m ++ ks) → AreReordered ms (if_about (b && t) m ++ ks)
of_node true t m ks ms e r = subst (λ b. AreReordered ms (if_about b m ++ ks)) (sym e) r
of_node false t m ks ms e r = r

-- node p has a message more than v
pub node_more : (n k p : ℕ) (m : Says.Message) (v : NodeView) (s : System)
    → ((l : ℕ) → copy_of v l ≡ copy_of (s.nodes p) l)
    → ((l : ℕ) → awaits v l ≡ awaits (s.nodes p) l)
    → ((l : ℕ) → AreReordered (to_be_asked l (s.nodes p)) (if_about (k == l) m ++ to_be_asked l v))
    → HasMore n k p m (with_node p v s) s
node_more n k p m v s copies registers messages = record {
  records = λ l. refl;
  copies = λ l x. with_at-both (λ w. copy_of (s.nodes x) l ≡ copy_of w l) s.nodes p v x (λ same. ap (λ q. copy_of (s.nodes q) l) same ∙ sym (copies l)) (λ other. refl);
  registers = λ l x. with_at-both (λ w. awaits (s.nodes x) l ≡ awaits w l) s.nodes p v x (λ same. ap (λ q. awaits (s.nodes q) l) same ∙ sym (registers l)) (λ other. refl);
  messages = λ l x. with_at-both (λ w. AreReordered (between n s l x) (if_about ((k == l) && (p == x)) m ++ between_in l x (home_at n s l) s.carrier.flights w)) s.nodes p v x
      (λ same. of_node (k == l) (p == x) m (between_in l x (home_at n s l) s.carrier.flights v) (between n s l x) (eq-eqb p x (sym same))
      (more_to_ask
      (to_be_sent l x (home_at n s l))
      (under_way l x s.carrier.flights)
      (to_be_asked l (s.nodes x))
      (to_be_asked l v)
      (waiting_for l x (home_at n s l))
      (if_about (k == l) m)
      (subst (λ q. AreReordered (to_be_asked l (s.nodes q)) (if_about (k == l) m ++ to_be_asked l v)) (sym same) (messages l))))
      (λ other. not_of_node (k == l) (p == x) m (between n s l x) (eqb-sym x p false other));
}

-- the oldest that is to be sent
pub mail_more : (n p : ℕ) (mail : Mail) (s : System) → slice_get (s.nodes p).outbox 0 ≡ Some mail → HasMore n mail.line p mail.message (without_mail p s) s
mail_more n p mail s e = node_more n mail.line p mail.message (record (s.nodes p) { outbox = drop 1 (s.nodes p).outbox }) s (λ l. refl) (λ l. refl) (λ l. removed (of_mail l) (s.nodes p).outbox 0 mail e)

-- ---- the same message, said otherwise

pub more_as : {n k l y x : ℕ} {m j : Says.Message} {r s : System} → k ≡ l → y ≡ x → m ≡ j → HasMore n k y m r s → HasMore n l x j r s
more_as {n = n} {k = k} {y = y} {x = x} {j = j} {r = r} {s = s} e f g more =
    subst (λ k. HasMore n k x j r s) e (subst (λ y. HasMore n k y j r s) f (subst (λ m. HasMore n k y m r s) g more))
