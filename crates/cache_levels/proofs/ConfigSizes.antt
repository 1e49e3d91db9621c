-- The caches that a configuration asks for are small enough.
use Rattle.std.proofs.Common.{◌≡◌, ◌*◌, ◌^◌, ◌<◌, ◌≤◌, arith}
use Rattle.std.proofs.Math.Nat.{mul-le-mul}
use Rattle.machine_config.specs.Allowed.{IsAllowed}
use Rattle.machine_config.specs.Sizes.{line_doublewords, sizes_of}
use Rattle.machine_config.specs.declared.config.Config.{Config}
use Rattle.cache_levels.specs.Sizes.{IsLineSize}

pub line_fits : (config : Config) → IsAllowed config → IsLineSize config.line
line_fits config allowed =
    let sizes = sizes_of config allowed in
    record { low = sizes.line.0; high = sizes.line.1; words = line_doublewords config sizes }

pub first_fits : (config : Config) → IsAllowed config → (config.l1_sets ≡ 0 → ⊥) × (config.l1_sets * config.l1_ways < 2 ^ 32)
first_fits config allowed =
    let sizes = sizes_of config allowed in
    let most : config.l1_sets * config.l1_ways ≤ 1024 * 8 = mul-le-mul sizes.l1_sets.1 sizes.l1_ways.1 in
    (λ e. omega (arith, sizes.l1_sets.0), omega (arith, most))

pub second_fits : (config : Config) → IsAllowed config → (config.l2_sets ≡ 0 → ⊥) × (config.l2_sets * config.l2_ways < 2 ^ 32)
second_fits config allowed =
    let sizes = sizes_of config allowed in
    let most : config.l2_sets * config.l2_ways ≤ 4096 * 16 = mul-le-mul sizes.l2_sets.1 sizes.l2_ways.1 in
    (λ e. omega (arith, sizes.l2_sets.0), omega (arith, most))
