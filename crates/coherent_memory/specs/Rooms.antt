-- Why a home that has room for a message can also serve what waits for its line.
use Rattle.std.specs.Prelude.{◌≡◌, ℕ, suc, ◌+◌, ◌*◌, ◌<◌, ◌≤◌, true, All, List, ◌++◌, length}
use Rattle.memory_contracts.specs.Letters.{Letter}
use Rattle.directory.specs.Homes.{HomeView, Post, Serves, home_after, most_outgoing}
use Rattle.coherent_memory.specs.SystemInvariants.{IsFine}
use Rattle.coherent_memory.specs.Systems.{System}

-- more is to be sent, all of it about one line
pub record Grows (line : ℕ) (u v : HomeView) : Type 0 where
  pub sent : List Post
  pub outgoing : v.outgoing ≡ u.outgoing ++ sent
  pub about : All (λ (post : Post). post.line ≡ line) sent

abbrev pub StartGrows : Type 0
StartGrows = (line : ℕ) (v : HomeView) → Grows line v v

abbrev pub TakingGrows : Type 0
TakingGrows = (now : ℕ) (m : Letter) (u v : HomeView) → Grows m.line u v → Grows m.line u (home_after m now v)

abbrev pub ServingGrows : Type 0
ServingGrows = (line now : ℕ) (u v w : HomeView) → Grows line u v → Serves line now v w true → Grows line u w

-- a home has at most one message to send to each node about the line, so half of the room is still free
abbrev pub RoomStays : Type 0
RoomStays =
    (n p line : ℕ) (u : HomeView) (s : System)
    → IsFine n s
    → p < n
    → length u.outgoing + 2 * n ≤ most_outgoing
    → Grows line u (s.homes p)
    → length (s.homes p).outgoing + n ≤ most_outgoing

-- each request that is served waits no more
abbrev pub ServingShortens : Type 0
ServingShortens = (line now : ℕ) (v w : HomeView) → Serves line now v w true → suc (length w.waiting) ≡ length v.waiting
