-- What the parts of a node stand for.
use Rattle.std.specs.Prelude.{if◌then◌else◌, ℕ, ◌%◌, List, [], ◌∷◌, map, Option, None, Some}
use Rattle.std.specs.Option.{option_map_or}
use Rattle.rsim_base.specs.declared.memory.Line.{Line}
use Rattle.rsim_base.specs.declared.memory.Node.{Node}
use Rattle.cache_levels.specs.declared.levels.Evicted.{Evicted}
use Rattle.memory_contracts.specs.Parts.{wish_of}
use Rattle.memory_contracts.specs.Protocol.Lines as Has
use Rattle.memory_contracts.specs.Protocol.Messages as Says
use Rattle.memory_contracts.specs.Letters.{Mail}
use Rattle.memory_contracts.specs.Store.{Wish}
use Rattle.node_memory.specs.Nodes as Nodes
use Rattle.node_memory.specs.declared.coming.Coming.{Coming}
use Rattle.node_memory.specs.declared.coming.Fetched.{Fetched}
use Rattle.node_memory.specs.declared.lines.Lines.{Lines}
use Rattle.node_memory.specs.declared.outbox.Outbox.{Outbox}
use Rattle.node_memory.specs.declared.outbox.Post.{Post}
use Rattle.node_memory.specs.declared.table.NodeCopy.{NodeCopy}
use Rattle.node_memory.specs.declared.table.NodeCopy.TheVariants.{Absent, Shared, Owned, Evicting, Emptied}
use Rattle.node_memory.specs.declared.wish_list.WishList.{WishList}
use Rattle.node_memory.specs.declared.word.Word.{Word}
use Rattle.node_memory.specs.declared.word.Word.TheVariants.{Get, Put, InvAck, RecallAck, Done}

-- ---- copies

abbrev pub copy_in : NodeCopy → Has.Copy
copy_in Absent = Has.Absent
copy_in (Shared bytes) = Has.Shared bytes
copy_in (Owned bytes) = Has.Owned bytes
copy_in (Evicting bytes) = Has.Evicting bytes
copy_in Emptied = Has.Emptied

-- ---- what a node says

abbrev pub word_of : Word → Says.Message
word_of (Get own) = Says.get own
word_of (Put bytes) = Says.Put bytes
word_of InvAck = Says.InvAck
word_of (RecallAck kept bytes) = Says.RecallAck kept bytes
word_of Done = Says.Done

abbrev pub words_of : Option Word → List Says.Message
words_of None = []
words_of (Some word) = word_of word ∷ []

-- to the home of the line, one of so many nodes
abbrev pub mail_of : ℕ → Post → Mail
mail_of nodes post = record { line = post.line.0; to = post.line.0 % nodes; message = word_of post.word }

abbrev pub mails_in : ℕ → Outbox → List Mail
mails_in nodes outbox = map (mail_of nodes) outbox.posts.items

-- what is to be sent of a line that leaves
abbrev pub posts_for : Evicted → List Post
posts_for e = option_map_or (λ (line : Line). if e.owned then record { line = line; word = Put e.bytes } ∷ [] else []) e.line []

-- ---- what a node wishes

abbrev pub wishes_in : WishList → List Wish
wishes_in wishes = map wish_of wishes.list.items

abbrev pub coming_of : Fetched → Nodes.Coming
coming_of fetched = record { line = fetched.line.0; since = fetched.since }

abbrev pub coming_in : Coming → List Nodes.Coming
coming_in coming = map coming_of coming.lines.items

-- ---- a node

abbrev pub node_with : Node → ℕ → ℕ → Lines → WishList → Coming → Outbox → Nodes.NodeView
node_with at nodes latency lines wishes coming outbox = record {
  at = at.0;
  nodes = nodes;
  latency = latency;
  levels = lines.levels;
  misses = lines.misses;
  wishes = wishes_in wishes;
  coming = coming_in coming;
  outbox = mails_in nodes outbox;
}
