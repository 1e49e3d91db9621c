-- What the parts of a home stand for.
use Rattle.std.specs.Prelude.{◌≡◌, ℕ, ◌<◌, nat_eq, Bool, List, [], map, slice_get, None, Some, is_some, option_map, unwrap_or}
use Rattle.std.specs.HashMap.{get}
use Rattle.memory_contracts.specs.Protocol.Lines.{HomeRecord, Idle, nobody}
use Rattle.memory_contracts.specs.Letters.{Letter, letter_of}
use Rattle.directory.specs.Homes as Homes
use Rattle.directory.specs.Bounds.{IsKnown}
use Rattle.directory.specs.Meanings.{record_of, word_of}
use Rattle.directory.specs.declared.outgoing.Outgoing.{Outgoing}
use Rattle.directory.specs.declared.outgoing.Post.{Post}
use Rattle.directory.specs.declared.records.Records.{Records}
use Rattle.directory.specs.declared.waiting.Waiting.{Waiting}

-- ---- lines

abbrev pub has_line : Records → ℕ → Bool
has_line records line = is_some (get nat_eq records.lines line)

-- of a line that is not kept
abbrev pub unkept : HomeRecord
unkept = record { phase = Idle; owner = None; sharers = nobody; memory = [] }

abbrev pub records_in : Records → ℕ → HomeRecord
records_in records line = unwrap_or (option_map record_of (get nat_eq records.lines line)) unkept

abbrev pub AreKnown : ℕ → (ℕ → HomeRecord) → Type 0
AreKnown n records = (line : ℕ) → IsKnown n (records line)

-- ---- requests that wait

abbrev pub letters_in : Waiting → List Letter
letters_in waiting = map letter_of waiting.requests.items

-- they are from nodes that there are
abbrev pub AreFrom : ℕ → List Letter → Type 0
AreFrom n letters = (i : ℕ) (w : Letter) → slice_get letters i ≡ Some w → w.from < n

-- ---- what is to be sent

abbrev pub post_of : Post → Homes.Post
post_of post = record { line = post.line.0; to = post.to.0; message = word_of post.word; since = post.since }

abbrev pub posts_in : Outgoing → List Homes.Post
posts_in outgoing = map post_of outgoing.posts.items
