-- A turn keeps every line coherent, with the content that it had.
use Rattle.std.proofs.Common.{ℕ, ◌<◌, true, List, refl, sym, subst, ◌∙◌}
use Rattle.rsim_base.specs.declared.memory.Line.{Line}
use Rattle.rsim_base.specs.declared.memory.Node.{Node}
use Rattle.memory_contracts.specs.Letters.{letter_of}
use Rattle.directory.specs.Homes.{HomeView, Serves, home_after}
use Rattle.node_memory.specs.Sound.{IsSound}
use Rattle.coherent_memory.specs.SystemInvariants.{HasKept, IsFine}
use Rattle.coherent_memory.specs.Laws.{BeginKeeps, HomeTakesKeeps, MailKeeps, NodeTakesKeeps, PostKeeps, ServingKeeps, TurnKeeps}
use Rattle.coherent_memory.specs.Systems.{System}
use Rattle.coherent_memory.specs.Turns.{HomeSends, NodeSends, Receives, ServesAll, begun, by_home, by_node, ends, full, more, none, nothing, posted, refused, sends, with_home, without_flight, without_mail, without_post}
use Rattle.coherent_memory.proofs.Serving.{home_at-same, twice-home}

pub kept-refl : (n : ℕ) (s : System) → IsFine n s → HasKept n s s
kept-refl n s fine = record { fine = fine; lines = λ l. refl; content = λ l kept. refl }

pub kept-trans : (n : ℕ) (s t u : System) → HasKept n s t → HasKept n t u → HasKept n s u
kept-trans n s t u first then = record {
  fine = then.fine;
  lines = λ l. then.lines l ∙ first.lines l;
  content = λ l kept. then.content l (first.lines l ∙ kept) ∙ first.content l kept;
}

-- the laws of the steps
pub record StepLaws : Type 0 where
  pub home : HomeTakesKeeps
  pub serving : ServingKeeps
  pub post : PostKeeps
  pub mail : MailKeeps
  pub node : NodeTakesKeeps
  pub begin : BeginKeeps

module _ (laws : StepLaws) (n p now : ℕ) (below : p < n) where
  serves-keep : (line : ℕ) (h home : HomeView) (s : System) → ServesAll line now h home → IsFine n (with_home p h s) → HasKept n (with_home p h s) (with_home p home s)
  serves-keep line h home s (none last) fine = subst (λ (k : HomeView). HasKept n (with_home p h s) (with_home p k s)) (sym last.0) (kept-refl n (with_home p h s) fine)
  serves-keep line h home s (more {v = k} serves rest) fine =
      let here = with_home p h s in
      let first : HasKept n here (with_home p k here) = laws.serving n p now line k here fine below (subst (λ (x : HomeView). Serves line now x k true) (sym (home_at-same p h s)) serves) in
      let step : HasKept n here (with_home p k s) = subst (λ (u : System). HasKept n here u) (twice-home p k h s) first in
      kept-trans n here (with_home p k s) (with_home p home s) step (serves-keep line k home s rest step.fine)

  receive-keeps : (s t : System) (told : List (Node × Line)) → IsFine n s → IsSound (s.nodes p) → Receives p now s t told → HasKept n s t
  receive-keeps s t _ fine sound (full packed same) = subst (λ (u : System). HasKept n s u) (sym same) (kept-refl n s fine)
  receive-keeps s t _ fine sound (nothing free empty same) = subst (λ (u : System). HasKept n s u) (sym same) (kept-refl n s fine)
  receive-keeps s t _ fine sound (by_home i f free next stands to kind takes) =
      let (home, serves, same) = takes in
      let h = home_after (letter_of f.message) now (s.homes p) in
      let first = laws.home n p now i f s fine below stands to kind in
      let all = serves-keep f.message.line.0 h home (without_flight i s) serves first.fine in
      subst (λ (u : System). HasKept n s u) (sym same) (kept-trans n s (with_home p h (without_flight i s)) (with_home p home (without_flight i s)) first all)
  receive-keeps s t _ fine sound (by_node i f free next stands to kind same) =
      subst (λ (u : System). HasKept n s u) (sym same) (laws.node n p i f s fine below sound stands to kind)

  posts-keep : (s t : System) → IsFine n s → HomeSends p now s t → HasKept n s t
  posts-keep _ _ fine (ends s last) = kept-refl n s fine
  posts-keep _ _ fine (refused s mail next packed) = kept-refl n s fine
  posts-keep _ _ fine (sends s t mail next free rest) =
      let u = without_post p (posted p mail s) in
      let first = laws.post n p now mail s fine below next free in
      kept-trans n s u t first (posts-keep u t first.fine rest)

  mails-keep : (s t : System) → IsFine n s → NodeSends p s t → HasKept n s t
  mails-keep _ _ fine (ends s last) = kept-refl n s fine
  mails-keep _ _ fine (refused s mail next packed) = kept-refl n s fine
  mails-keep _ _ fine (sends s t mail next free rest) =
      let u = without_mail p (posted p mail s) in
      let first = laws.mail n p mail s fine below next free in
      kept-trans n s u t first (mails-keep u t first.fine rest)

pub turn-keeps : StepLaws → TurnKeeps
turn-keeps laws n p now s t gone fine sound later below turn =
    let first = laws.begin n p now s fine below sound in
    let second = receive-keeps laws n p now below (begun p now s) turn.taken turn.told first.fine later turn.receives in
    let third = posts-keep laws n p now below turn.taken turn.sent second.fine turn.home in
    let fourth = mails-keep laws n p now below turn.sent t third.fine turn.node in
    kept-trans n s (begun p now s) t first (kept-trans n (begun p now s) turn.taken t second (kept-trans n turn.taken turn.sent t third fourth))
