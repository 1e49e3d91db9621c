-- How many messages of each class each node has under way.
use Rattle.std.specs.Prelude.{ℕ, ◌==◌, ◌&&◌, if◌then◌else◌, slice_index_or}
use Rattle.memory_contracts.specs.Carrier.{same_class}
use Rattle.memory_contracts.specs.declared.message.Class.{Class}
use Rattle.memory_contracts.specs.declared.message.Class.TheVariants.{Ask, Order, Give, Reply}
use Rattle.memory_contracts.specs.declared.rooms.Counts.{Counts}
use Rattle.memory_contracts.specs.declared.rooms.Rooms.{Rooms}

abbrev pub counted_of : Counts → Class → ℕ
counted_of counts Ask = counts.ask
counted_of counts Order = counts.order
counted_of counts Give = counts.give
counted_of counts Reply = counts.reply

abbrev pub with_counted : Counts → Class → ℕ → Counts
with_counted counts Ask n = record counts { ask = n }
with_counted counts Order n = record counts { order = n }
with_counted counts Give n = record counts { give = n }
with_counted counts Reply n = record counts { reply = n }

abbrev pub no_counts : Counts
no_counts = record { ask = 0; order = 0; give = 0; reply = 0 }

abbrev pub count_in : Rooms → ℕ → Class → ℕ
count_in rooms p c = counted_of (slice_index_or rooms.counts p no_counts) c

-- f, but n for node p and class c
abbrev pub with_count : (ℕ → Class → ℕ) → ℕ → Class → ℕ → ℕ → Class → ℕ
with_count f p c n q d = if (p == q) && same_class c d then n else f q d
