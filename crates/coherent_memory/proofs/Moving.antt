-- Messages that go on their way: what a home or a node has to send is under way then.
use Rattle.std.proofs.Common.{◌≡◌, ℕ, ◌<◌, Bool, true, false, cond, List, [], ◌∷◌, None, Some, drop, refl, sym, ap, ◌∙◌, subst}
use Rattle.std.specs.List.{slice_get}
use Rattle.std.specs.Option.{option_map}
use Rattle.std.proofs.lemmas.List.Elements.{All-drop}
use Rattle.memory_contracts.specs.Protocol.Events.{is_to_home, is_to_node}
use Rattle.memory_contracts.specs.Letters.{Mail, message_of, said}
use Rattle.directory.specs.Homes.{Post, first_outgoing, mail_of, may_go}
use Rattle.node_memory.specs.Nodes.{without_first_mail}
use Rattle.coherent_memory.specs.SystemInvariants.{IsRightMail, IsRightPost}
use Rattle.coherent_memory.specs.Laws.{MailKeeps, PostKeeps}
use Rattle.coherent_memory.specs.Systems.{home_number, is_kept}
use Rattle.coherent_memory.specs.Turns.{posted, without_mail, without_post}
use Rattle.coherent_memory.proofs.Adding.{mail_more, more_as, post_more, posted_more}
use Rattle.coherent_memory.proofs.Keeping.{ProtocolLaws, keeps_alike}
use Rattle.coherent_memory.proofs.Lines.{HasMore, moved, same_alike}
use Rattle.coherent_memory.proofs.Places.{All-at_place}
use Rattle.coherent_memory.proofs.Rights.{kept_with_home, right_posted, right_to_home, right_to_node, right_with_home, right_with_node, to_node_only}
use Rattle.memory_contracts.specs.declared.message.Message.{Message}
use Rattle.coherent_memory.proofs.Saying.{said-saying}

-- ---- of a home

first_posted : (latency now : ℕ) (outgoing : List Post) (mail : Mail) → option_map mail_of (first_outgoing latency now outgoing) ≡ Some mail → (post : Post) × (slice_get outgoing 0 ≡ Some post) × (mail_of post ≡ mail)
first_posted latency now [] mail e = absurd cc
first_posted latency now (post ∷ outgoing) mail e = by (may_go latency now post) e
  where
    by : (b : Bool) → option_map mail_of (cond b (Some post) None) ≡ Some mail → (first : Post) × (Some post ≡ Some first) × (mail_of first ≡ mail)
    by true e = (post, refl, cc)
    by false e = absurd cc

pub post_keeps : ProtocolLaws → PostKeeps
post_keeps laws n p now mail s fine below next room =
    let m : Message = message_of p mail in
    let (post, first, as_mail) = first_posted (s.homes p).latency now (s.homes p).outgoing mail next in
    let right : IsRightPost n (is_kept n s) p post = All-at_place (IsRightPost n (is_kept n s) p) (s.homes p).outgoing 0 post (fine.right.homes p below).outgoing first in
    let same : m.line.0 ≡ post.line = ap (λ mail. mail.line) (sym as_mail) in
    let words : said m ≡ post.message = said-saying p mail.line mail.message ∙ ap (λ mail. mail.message) (sym as_mail) in
    let to : mail.to ≡ post.to = ap (λ mail. mail.to) (sym as_mail) in
    let kind : is_to_node (said m) ≡ true = ap is_to_node words ∙ right.kind in
    let after : HasMore n post.line post.to post.message (without_post p s) (posted p mail (without_post p s)) =
    more_as same (ap (λ b. cond b m.from.0 mail.to) (to_node_only (said m) kind) ∙ to) words (posted_more n p mail.to m (without_post p s) room) in
    let home = record (s.homes p) { outgoing = drop 1 (s.homes p).outgoing } in
    keeps_alike laws n s (without_post p (posted p mail s)) fine
    (kept_with_home n p home (posted p mail s) refl)
    (right_with_home p home
    (right_posted p mail.to m room fine.right (right_to_node s.carrier p mail.to m (ap (is_kept n s) same ∙ right.line) (subst (λ x. x < n) (sym to) right.to) kind))
    (λ known. record {
      at = (fine.right.homes p below).at;
      nodes = (fine.right.homes p below).nodes;
      outgoing = All-drop (IsRightPost n (is_kept n s) p) 1 (s.homes p).outgoing (fine.right.homes p below).outgoing;
      waiting = (fine.right.homes p below).waiting;
    }))
    (λ l. same_alike (moved (post_more n p post s right.home first) after l))

-- ---- of a node

pub mail_keeps : ProtocolLaws → MailKeeps
mail_keeps laws n p mail s fine below first room =
    let m : Message = message_of p mail in
    let right : IsRightMail n (is_kept n s) mail = All-at_place (IsRightMail n (is_kept n s)) (s.nodes p).outbox 0 mail (fine.right.nodes p below).outbox first in
    let words : said m ≡ mail.message = said-saying p mail.line mail.message in
    let kind : is_to_home (said m) ≡ true = ap is_to_home words ∙ right.kind in
    let after : HasMore n mail.line p mail.message (without_mail p s) (posted p mail (without_mail p s)) =
    more_as refl (ap (λ b. cond b p mail.to) kind) words (posted_more n p mail.to m (without_mail p s) room) in
    let node = fine.right.nodes p below in
    keeps_alike laws n s (without_mail p (posted p mail s)) fine
    refl
    (right_with_node p (without_first_mail (s.nodes p))
    (right_posted p mail.to m room fine.right
    (right_to_home s.carrier p mail.to m fine.some right.line right.to below kind))
    (λ known. record {
      at = node.at;
      nodes = node.nodes;
      outbox = All-drop (IsRightMail n (is_kept n s)) 1 (s.nodes p).outbox node.outbox;
      wishes = node.wishes;
      copies = node.copies;
    }))
    (λ l. same_alike (moved (mail_more n p mail s first) after l))
