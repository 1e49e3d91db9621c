-- A configuration asks for at least one counter.
use Rattle.branch_predict.proofs.Settings.{some_counter}
use Rattle.branch_predict.proofs.predictor.Predictor.make.Goals as goal

pub make-requires : goal.make-requires
make-requires c = some_counter _ c.requires
