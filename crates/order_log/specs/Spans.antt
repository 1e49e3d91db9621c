-- Accesses of one processor, by their numbers.
use Rattle.std.specs.Prelude.{ℕ, ◌==◌, nat_le, Bool}
use Rattle.order_log.specs.declared.span.Span.{Span}
use Rattle.order_log.specs.declared.span.Span.TheVariants.{Only, From}

-- whether access i is one of them
abbrev pub includes : Span → ℕ → Bool
includes (Only only) i = i == only
includes (From first) i = nat_le first i
