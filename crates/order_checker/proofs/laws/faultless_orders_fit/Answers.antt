-- Both directions of the law.
use Rattle.order_checker.proofs.Clean.{runs_of, fits_where_clean}
use Rattle.order_checker.proofs.Fitting.{fits_without_fault}
use Rattle.order_checker.proofs.laws.faultless_orders_fit.Goals as goal

pub returns-clause-fits : goal.returns-clause-fits
returns-clause-fits c = λ image order is none. (runs_of image order, fits_where_clean image order is none)

pub returns-clause-faultless : goal.returns-clause-faultless
returns-clause-faultless c = λ image order runs is fit. fits_without_fault image order runs is fit
