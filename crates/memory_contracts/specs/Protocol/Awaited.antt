-- What a node awaits of the home: the line, or the answer to what it put back.
use Rattle.std.specs.Prelude.{ℕ, suc, Bool, true, false, ◌&&◌, ◌==◌, List, [], ◌∷◌}
use Rattle.memory_contracts.specs.Protocol.Messages.{Message, GetS, GetM, Put, Grant}
use Rattle.memory_contracts.specs.Protocol.Lines.{Phase, Idle, Collecting, Recalling, Granting, Copy, Evicting, Emptied}

abbrev pub number : Bool → ℕ
number true = 1
number false = 0

-- how many of its requests ask for the line, and how many put it back
abbrev pub count_gets : List Message → ℕ
count_gets [] = 0
count_gets (GetS ∷ ms) = suc (count_gets ms)
count_gets (GetM ∷ ms) = suc (count_gets ms)
count_gets (m ∷ ms) = count_gets ms

abbrev pub count_puts : List Message → ℕ
count_puts [] = 0
count_puts (Put bytes ∷ ms) = suc (count_puts ms)
count_puts (m ∷ ms) = count_puts ms

abbrev pub is_leaving : Copy → Bool
is_leaving (Evicting bytes) = true
is_leaving Emptied = true
is_leaving copy = false

abbrev pub has_grant : List Message → Bool
has_grant [] = false
has_grant (Grant own bytes ∷ ms) = true
has_grant (m ∷ ms) = has_grant ms

-- the request of node x is served, and the Grant has not come
abbrev pub is_served_now : Phase → ℕ → List Message → Bool
is_served_now Idle x words = false
is_served_now (Collecting p left) x words = p == x
is_served_now (Recalling q p own) x words = p == x
is_served_now (Granting p) x words = (p == x) && has_grant words
