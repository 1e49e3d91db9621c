-- The keys of a configuration: one row each, with its values and what stands where it is not named.
-- `of` gives the number that a configuration has for the key; of a word it is the word's place in the row, from 0.
use Rattle.std.specs.Prelude.{ℕ, Bool, if◌then◌else◌, List, [], ◌∷◌, codes}
use Rattle.rsim_base.specs.Limits.{line_room, max_in_flight, max_processors}
use Rattle.rsim_base.specs.declared.memory.Model.{Model}
use Rattle.rsim_base.specs.declared.memory.Model.TheVariants.{Sc, Pc, Rc}
use Rattle.machine_config.specs.declared.config.Config.{Config}
use Rattle.machine_config.specs.declared.config.Protocol.{Protocol}
use Rattle.machine_config.specs.declared.config.Protocol.TheVariants.{Msi, Mesi}
use Rattle.machine_config.specs.declared.config.PredictorKind.{PredictorKind}
use Rattle.machine_config.specs.declared.config.PredictorKind.TheVariants.{Static, TwoBit}

-- what may be said of a key: a number from low to high; such a number that is a power of two; one of these words
pub data Values : Type 0 where
  number : ℕ → ℕ → Values
  power : ℕ → ℕ → Values
  word : List (List ℕ) → Values

pub record Key : Type 0 where
  pub name : List ℕ
  pub values : Values
  pub default : ℕ
  pub of : Config → ℕ

abbrev pub key : List ℕ → Values → ℕ → (Config → ℕ) → Key
key name values default of = record { name = name; values = values; default = default; of = of }

-- ---- words and their places

abbrev pub place_of_model : Model → ℕ
place_of_model Sc = 0
place_of_model Pc = 1
place_of_model Rc = 2

abbrev pub place_of_switch : Bool → ℕ
place_of_switch on = if on then 0 else 1

abbrev pub place_of_protocol : Protocol → ℕ
place_of_protocol Msi = 0
place_of_protocol Mesi = 1

abbrev pub place_of_predictor : PredictorKind → ℕ
place_of_predictor Static = 0
place_of_predictor TwoBit = 1

abbrev pub switch : Values
switch = word (codes "on" ∷ codes "off" ∷ [])

-- ---- the table

-- the two keys that shape the mesh
abbrev pub processors : Key
processors = key (codes "processors") (number 1 max_processors) 1 (λ c. c.processors)

abbrev pub mesh_width : Key
mesh_width = key (codes "mesh_width") (number 1 max_processors) 1 (λ c. c.mesh_width)

-- the most instructions that a processor retires in a cycle
abbrev pub retire_width : Key
retire_width = key (codes "retire_width") (number 1 8) 4 (λ c. c.retire_width)

unfoldable pub keys : List Key
keys =
    processors
    ∷ mesh_width
    ∷ key (codes "model") (word (codes "sc" ∷ codes "pc" ∷ codes "rc" ∷ [])) 0 (λ c. place_of_model c.model)
    ∷ key (codes "speculate") switch 0 (λ c. place_of_switch c.speculate)
    ∷ key (codes "store_prefetch") switch 0 (λ c. place_of_switch c.store_prefetch)
    ∷ key (codes "protocol") (word (codes "msi" ∷ codes "mesi" ∷ [])) 1 (λ c. place_of_protocol c.protocol)
    ∷ key (codes "line") (power 16 line_room) 64 (λ c. c.line)
    ∷ key (codes "l1_sets") (power 1 1024) 64 (λ c. c.l1_sets)
    ∷ key (codes "l1_ways") (number 1 8) 2 (λ c. c.l1_ways)
    ∷ key (codes "l2_sets") (power 1 4096) 256 (λ c. c.l2_sets)
    ∷ key (codes "l2_ways") (number 1 16) 4 (λ c. c.l2_ways)
    ∷ key (codes "miss_registers") (number 1 16) 8 (λ c. c.miss_registers)
    ∷ key (codes "active_list") (number 4 max_in_flight) 64 (λ c. c.active_list)
    ∷ key (codes "rename_registers") (number 8 512) 128 (λ c. c.rename_registers)
    ∷ key (codes "fetch_width") (number 1 8) 4 (λ c. c.fetch_width)
    ∷ key (codes "fetch_queue") (number 1 32) 8 (λ c. c.fetch_queue)
    ∷ retire_width
    ∷ key (codes "store_buffer") (number 1 32) 8 (λ c. c.store_buffer)
    ∷ key (codes "ports") (number 1 4) 2 (λ c. c.ports)
    ∷ key (codes "alu_units") (number 1 8) 2 (λ c. c.alu_units)
    ∷ key (codes "alu_latency") (number 1 8) 1 (λ c. c.alu_latency)
    ∷ key (codes "mul_units") (number 1 4) 1 (λ c. c.mul_units)
    ∷ key (codes "mul_latency") (number 1 32) 4 (λ c. c.mul_latency)
    ∷ key (codes "div_units") (number 1 4) 1 (λ c. c.div_units)
    ∷ key (codes "div_latency") (number 1 64) 20 (λ c. c.div_latency)
    ∷ key (codes "predictor") (word (codes "static" ∷ codes "two_bit" ∷ [])) 1 (λ c. place_of_predictor c.predictor)
    ∷ key (codes "predictor_size") (power 16 4096) 512 (λ c. c.predictor_size)
    ∷ key (codes "return_stack") (number 1 32) 8 (λ c. c.return_stack)
    ∷ key (codes "l1_latency") (number 1 8) 1 (λ c. c.l1_latency)
    ∷ key (codes "l2_latency") (number 1 64) 6 (λ c. c.l2_latency)
    ∷ key (codes "home_latency") (number 1 200) 20 (λ c. c.home_latency)
    ∷ key (codes "flit_bytes") (power 4 16) 8 (λ c. c.flit_bytes)
    ∷ key (codes "router_depth") (number 1 16) 4 (λ c. c.router_depth)
    ∷ []
