-- What a configuration may ask of a predictor.
use Rattle.std.proofs.Common.{◌<◌, arith}
use Rattle.machine_config.specs.Allowed.{IsAllowed}
use Rattle.machine_config.specs.Keys.{keys}
use Rattle.machine_config.specs.declared.config.Config.{Config}

pub some_counter : (config : Config) → IsAllowed config → 0 < config.predictor_size
unfolding keys
some_counter config allowed =
    let (_, (_, (_, (_, (_, (_, (_, (_, (_, (_, (_, (_, (_, (_, (_, (_, (_, (_, (_, (_, (_, (_, (_, (_, (_, (_, (size, _))))))))))))))))))))))))))) = allowed.rows in
    omega (arith, size.0)
