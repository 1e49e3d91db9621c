-- Two states of a line in which the same messages are under way, in whatever order.
use Rattle.std.specs.Prelude.{◌≡◌, ℕ, ◌<◌}
use Rattle.std.specs.List.Sorted.{IsPermutation}
use Rattle.memory_contracts.specs.Protocol.Lines.{Cell, LineState}

pub record IsAlike (c d : Cell) : Type 0 where
  pub copy : c.stance.copy ≡ d.stance.copy
  pub register : c.stance.register ≡ d.stance.register
  pub asked : IsPermutation c.stance.asked d.stance.asked
  pub acks : c.stance.acks ≡ d.stance.acks
  pub words : IsPermutation c.words d.words

pub record AreAlike (n : ℕ) (l k : LineState) : Type 0 where
  pub home : l.home ≡ k.home
  pub nodes : (x : ℕ) → x < n → IsAlike (l.at x) (k.at x)
