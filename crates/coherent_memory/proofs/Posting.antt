-- A message that goes on its way: who says it, where it goes, and what the carrier answers.
use Rattle.std.proofs.Common.{◌≡◌, ℕ, zero, ◌<◌, All, Bool, true, false, cond, not, List, [], ◌∷◌, ◌++◌, length, None, Some, option_map, slice_get, drop, refl, sym, ap, subst, ◌∙◌, arith}
use Rattle.std.proofs.Math.Bridge.{le_prop}
use Rattle.std.proofs.Math.Logic.{∥∥₁_elim}
use Rattle.std.proofs.Math.Nat.{mod-lt, ℕ_set}
use Rattle.std.proofs.lemmas.Bool.{cond_both}
use Rattle.memory_contracts.specs.Carrier.{CarrierView, after_send, class_of, is_full, sends}
use Rattle.memory_contracts.specs.Letters.{Mail}
use Rattle.memory_contracts.specs.declared.message.Message.{Message}
use Rattle.directory.specs.Homes.{HomeView, Post, first_outgoing, mail_of, may_go}
use Rattle.node_memory.specs.Nodes.{NodeView, without_first_mail}
use Rattle.coherent_memory.specs.SystemInvariants.{IsFine, IsRightMail, IsRightPost}
use Rattle.coherent_memory.specs.Systems.{System}
use Rattle.coherent_memory.specs.Sending.{MailsOne, PostsOne, none, refused, sent}
use Rattle.coherent_memory.specs.Turns as Turns
use Rattle.coherent_memory.specs.Turns.{HomeSends, NodeSends, next_mail, next_post}
use Rattle.coherent_memory.proofs.Places.{with_at-same}

-- ---- the oldest message of a home

post-to : (n h latency now : ℕ) (kept : ℕ → Bool) (posts : List Post) (mail : Mail) → All (IsRightPost n kept h) posts → option_map mail_of (first_outgoing latency now posts) ≡ Some mail → mail.to < n
post-to n h latency now kept [] mail right is = absurd cc
post-to n h latency now kept (post ∷ posts) mail right is = by (may_go latency now post) is
  where
    by : (b : Bool) → option_map mail_of (cond b (Some post) None) ≡ Some mail → mail.to < n
    by true e =
        let same : mail_of post ≡ mail = cc in
        subst (λ (m : Mail). m.to < n) same (right zero post (omega arith)).to
    by false e = absurd cc

pub post-below : (n p now : ℕ) (s : System) (mail : Mail) → ∥ IsFine n s ∥₁ → p < n → next_post p now s ≡ Some mail → mail.to < n
post-below n p now s mail fine below is =
    ∥∥₁_elim fine le_prop (λ (f : IsFine n s). post-to n p (s.homes p).latency now _ (s.homes p).outgoing mail (f.right.homes p below).outgoing is)

pub home-at : (n p : ℕ) (s : System) → ∥ IsFine n s ∥₁ → p < n → (s.homes p).at ≡ p
home-at n p s fine below = ∥∥₁_elim fine (ℕ_set (s.homes p).at p) (λ (f : IsFine n s). (f.right.homes p below).at)

-- ---- the oldest message of a node

mail-to : (n : ℕ) (kept : ℕ → Bool) (mails : List Mail) (mail : Mail) → 0 < n → All (IsRightMail n kept) mails → slice_get mails 0 ≡ Some mail → mail.to < n
mail-to n kept [] mail some right is = absurd cc
mail-to n kept (first ∷ mails) mail some right is =
    let same : first ≡ mail = cc in
    let one = right zero first (omega arith) in
    subst (λ (m : Mail). m.to < n) same (subst (λ (x : ℕ). x < n) (sym one.to) (mod-lt first.line some))

pub mail-below : (n p : ℕ) (s : System) (mail : Mail) → ∥ IsFine n s ∥₁ → p < n → next_mail p s ≡ Some mail → mail.to < n
mail-below n p s mail fine below is = ∥∥₁_elim fine le_prop (λ (f : IsFine n s). mail-to n _ (s.nodes p).outbox mail f.some (f.right.nodes p below).outbox is)

pub node-at : (n p : ℕ) (s : System) → ∥ IsFine n s ∥₁ → p < n → (s.nodes p).at ≡ p
node-at n p s fine below = ∥∥₁_elim fine (ℕ_set (s.nodes p).at p) (λ (f : IsFine n s). (f.right.nodes p below).at)

-- ---- the carrier

pub full-of : (b r : Bool) → r ≡ not b → r ≡ false → b ≡ true
full-of true r e f = refl
full-of false r e f = absurd cc

pub free-of : (b r : Bool) → r ≡ not b → r ≡ true → b ≡ false
free-of true r e f = absurd cc
free-of false r e f = refl

-- what a carrier refuses changes nothing
pub send-refused : (c : CarrierView) (p to : ℕ) (m : Message) → is_full c p (class_of m.kind) ≡ true → after_send c p to m ≡ c
send-refused c p to m full = ap (λ (b : Bool). cond b c (record c { flights = c.flights ++ sends c p to m ∷ [] })) full

pub send-nodes : (c : CarrierView) (p to : ℕ) (m : Message) → (after_send c p to m).nodes ≡ c.nodes
send-nodes c p to m = cond_both _ c _ (λ (d : CarrierView). d.nodes ≡ c.nodes) (λ _. refl) (λ _. refl)

-- ---- one message after the other

posts-shorter-of : (latency now : ℕ) (posts : List Post) (mail : Mail) → option_map mail_of (first_outgoing latency now posts) ≡ Some mail → length (drop 1 posts) < length posts
posts-shorter-of latency now [] mail is = absurd cc
posts-shorter-of latency now (post ∷ posts) mail is = omega arith

pub posts-shorter : (p now : ℕ) (s t : System) → PostsOne p now s t true → length (t.homes p).outgoing < length (s.homes p).outgoing
posts-shorter p now s t (sent mail next free is) =
    let posts = (s.homes p).outgoing in
    let new : (t.homes p).outgoing ≡ drop 1 posts = ap (λ (u : System). (u.homes p).outgoing) is ∙ ap (λ (h : HomeView). h.outgoing) (with_at-same s.homes p (record (s.homes p) { outgoing = drop 1 posts })) in
    subst (λ (ps : List Post). length ps < length posts) (sym new) (posts-shorter-of (s.homes p).latency now posts mail next)

pub posts-then : (p now : ℕ) (s t w : System) → PostsOne p now s t true → HomeSends p now t w → HomeSends p now s w
posts-then p now s t w (sent mail next free is) rest = Turns.sends s w mail next free (subst (λ (u : System). HomeSends p now u w) is rest)

pub posts-end : (p now : ℕ) (s t : System) → PostsOne p now s t false → HomeSends p now s t
posts-end p now s t (none next is) = subst (λ (u : System). HomeSends p now s u) (sym is) (Turns.ends s next)
posts-end p now s t (refused mail next full is) = subst (λ (u : System). HomeSends p now s u) (sym is) (Turns.refused s mail next full)

mails-shorter-of : (mails : List Mail) (mail : Mail) → slice_get mails 0 ≡ Some mail → length (drop 1 mails) < length mails
mails-shorter-of [] mail is = absurd cc
mails-shorter-of (first ∷ mails) mail is = omega arith

pub mails-shorter : (p : ℕ) (s t : System) → MailsOne p s t true → length (t.nodes p).outbox < length (s.nodes p).outbox
mails-shorter p s t (sent mail next free is) =
    let mails = (s.nodes p).outbox in
    let new : (t.nodes p).outbox ≡ drop 1 mails = ap (λ (u : System). (u.nodes p).outbox) is ∙ ap (λ (v : NodeView). v.outbox) (with_at-same s.nodes p (without_first_mail (s.nodes p))) in
    subst (λ (ms : List Mail). length ms < length mails) (sym new) (mails-shorter-of mails mail next)

pub mails-then : (p : ℕ) (s t w : System) → MailsOne p s t true → NodeSends p t w → NodeSends p s w
mails-then p s t w (sent mail next free is) rest = Turns.sends s w mail next free (subst (λ (u : System). NodeSends p u w) is rest)

pub mails-end : (p : ℕ) (s t : System) → MailsOne p s t false → NodeSends p s t
mails-end p s t (none next is) = subst (λ (u : System). NodeSends p s u) (sym is) (Turns.ends s next)
mails-end p s t (refused mail next full is) = subst (λ (u : System). NodeSends p s u) (sym is) (Turns.refused s mail next full)
