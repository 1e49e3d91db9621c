-- One message on its way, or none.
use Rattle.std.specs.Prelude.{◌≡◌, ℕ, Bool, true, false, None, Some}
use Rattle.memory_contracts.specs.Letters.{Mail}
use Rattle.coherent_memory.specs.Systems.{System}
use Rattle.coherent_memory.specs.Turns.{is_refused, next_mail, next_post, posted, without_mail, without_post}

-- the oldest message of the home of node p goes, if it may and the carrier takes it
pub data PostsOne (p now : ℕ) (s t : System) : Bool → Type 0 where
  none : next_post p now s ≡ None → t ≡ s → PostsOne p now s t false
  refused : (mail : Mail) → next_post p now s ≡ Some mail → is_refused p mail s ≡ true → t ≡ s → PostsOne p now s t false
  sent : (mail : Mail) → next_post p now s ≡ Some mail → is_refused p mail s ≡ false → t ≡ without_post p (posted p mail s) → PostsOne p now s t true

-- and so does that of node p
pub data MailsOne (p : ℕ) (s t : System) : Bool → Type 0 where
  none : next_mail p s ≡ None → t ≡ s → MailsOne p s t false
  refused : (mail : Mail) → next_mail p s ≡ Some mail → is_refused p mail s ≡ true → t ≡ s → MailsOne p s t false
  sent : (mail : Mail) → next_mail p s ≡ Some mail → is_refused p mail s ≡ false → t ≡ without_mail p (posted p mail s) → MailsOne p s t true
