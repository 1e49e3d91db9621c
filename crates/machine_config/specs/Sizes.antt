-- What an allowed configuration has at each key that takes a number, by the key's name: the ranges of the table of
-- keys, as facts that a proof can cite, and what follows for lines.
use Rattle.std.specs.Int.{is_power_of_two}
use Rattle.std.proofs.Common.{◌≡◌, ℕ, ◌%◌, ◌≤◌, ◌==◌, Bool, true, false, not, ◌&&◌, nat_le, IsTrue, refl, ap, ⊎_elim, arith}
use Rattle.std.proofs.lemmas.Bool.{agree_below_at, and_from, le-leb, eqb-true, cases_Bool}
use Rattle.rsim_base.specs.Limits.{line_room, max_in_flight, max_processors}
use Rattle.machine_config.specs.Keys.{keys}
use Rattle.machine_config.specs.Allowed.{IsAllowed}
use Rattle.machine_config.specs.declared.config.Config.{Config}

pub record AreSizes (config : Config) : Type 0 where
  pub processors : (1 ≤ config.processors) × (config.processors ≤ max_processors)
  pub mesh_width : (1 ≤ config.mesh_width) × (config.mesh_width ≤ max_processors)
  pub line : (16 ≤ config.line) × (config.line ≤ line_room) × IsTrue (is_power_of_two config.line)
  pub l1_sets : (1 ≤ config.l1_sets) × (config.l1_sets ≤ 1024) × IsTrue (is_power_of_two config.l1_sets)
  pub l1_ways : (1 ≤ config.l1_ways) × (config.l1_ways ≤ 8)
  pub l2_sets : (1 ≤ config.l2_sets) × (config.l2_sets ≤ 4096) × IsTrue (is_power_of_two config.l2_sets)
  pub l2_ways : (1 ≤ config.l2_ways) × (config.l2_ways ≤ 16)
  pub miss_registers : (1 ≤ config.miss_registers) × (config.miss_registers ≤ 16)
  pub active_list : (4 ≤ config.active_list) × (config.active_list ≤ max_in_flight)
  pub rename_registers : (8 ≤ config.rename_registers) × (config.rename_registers ≤ 512)
  pub fetch_width : (1 ≤ config.fetch_width) × (config.fetch_width ≤ 8)
  pub fetch_queue : (1 ≤ config.fetch_queue) × (config.fetch_queue ≤ 32)
  pub retire_width : (1 ≤ config.retire_width) × (config.retire_width ≤ 8)
  pub store_buffer : (1 ≤ config.store_buffer) × (config.store_buffer ≤ 32)
  pub ports : (1 ≤ config.ports) × (config.ports ≤ 4)
  pub alu_units : (1 ≤ config.alu_units) × (config.alu_units ≤ 8)
  pub alu_latency : (1 ≤ config.alu_latency) × (config.alu_latency ≤ 8)
  pub mul_units : (1 ≤ config.mul_units) × (config.mul_units ≤ 4)
  pub mul_latency : (1 ≤ config.mul_latency) × (config.mul_latency ≤ 32)
  pub div_units : (1 ≤ config.div_units) × (config.div_units ≤ 4)
  pub div_latency : (1 ≤ config.div_latency) × (config.div_latency ≤ 64)
  pub predictor_size : (16 ≤ config.predictor_size) × (config.predictor_size ≤ 4096) × IsTrue (is_power_of_two config.predictor_size)
  pub return_stack : (1 ≤ config.return_stack) × (config.return_stack ≤ 32)
  pub l1_latency : (1 ≤ config.l1_latency) × (config.l1_latency ≤ 8)
  pub l2_latency : (1 ≤ config.l2_latency) × (config.l2_latency ≤ 64)
  pub home_latency : (1 ≤ config.home_latency) × (config.home_latency ≤ 200)
  pub flit_bytes : (4 ≤ config.flit_bytes) × (config.flit_bytes ≤ 16) × IsTrue (is_power_of_two config.flit_bytes)
  pub router_depth : (1 ≤ config.router_depth) × (config.router_depth ≤ 16)

pub sizes_of : (config : Config) → IsAllowed config → AreSizes config
unfolding keys
sizes_of config allowed =
    let (processors, (mesh_width, (_, (_, (_, (_, (line, (l1_sets, (l1_ways, (l2_sets, (l2_ways, (miss_registers, (active_list, (rename_registers, (fetch_width, (fetch_queue, (retire_width, (store_buffer, (ports, (alu_units, (alu_latency, (mul_units, (mul_latency, (div_units, (div_latency, (_, (predictor_size, (return_stack, (l1_latency, (l2_latency, (home_latency, (flit_bytes, (router_depth, _))))))))))))))))))))))))))))))))) = allowed.rows in
    record {
      processors = processors;
      mesh_width = mesh_width;
      line = line;
      l1_sets = l1_sets;
      l1_ways = l1_ways;
      l2_sets = l2_sets;
      l2_ways = l2_ways;
      miss_registers = miss_registers;
      active_list = active_list;
      rename_registers = rename_registers;
      fetch_width = fetch_width;
      fetch_queue = fetch_queue;
      retire_width = retire_width;
      store_buffer = store_buffer;
      ports = ports;
      alu_units = alu_units;
      alu_latency = alu_latency;
      mul_units = mul_units;
      mul_latency = mul_latency;
      div_units = div_units;
      div_latency = div_latency;
      predictor_size = predictor_size;
      return_stack = return_stack;
      l1_latency = l1_latency;
      l2_latency = l2_latency;
      home_latency = home_latency;
      flit_bytes = flit_bytes;
      router_depth = router_depth;
    }

-- ---- lines

abbrev is_odd_power : ℕ → Bool
is_odd_power x = nat_le 16 x && is_power_of_two x && not (x % 8 == 0)

-- each power of two from 16 to the longest line is a multiple of 8
doublewords-power : (x : ℕ) → 16 ≤ x → x ≤ line_room → IsTrue (is_power_of_two x) → x % 8 ≡ 0
unfolding lib.Count.ones
doublewords-power x low high power =
    ⊎_elim (λ (e : (x % 8 == 0) ≡ true). eqb-true (x % 8) 0 e)
    (λ (e : (x % 8 == 0) ≡ false).
    let odd : is_odd_power x ≡ true = and_from (nat_le 16 x && is_power_of_two x) (not (x % 8 == 0)) (and_from (nat_le 16 x) (is_power_of_two x) (le-leb 16 x low) power) (ap not e) in
    let none : is_odd_power x ≡ false = agree_below_at is_odd_power (λ _. false) 129 x refl (omega arith) in
    absurd cc)
    (cases_Bool (x % 8 == 0))

-- a line is so many whole doublewords
pub line_doublewords : (config : Config) → AreSizes config → config.line % 8 ≡ 0
line_doublewords config sizes = doublewords-power config.line sizes.line.0 sizes.line.1 sizes.line.2
