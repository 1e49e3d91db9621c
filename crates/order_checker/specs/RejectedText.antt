-- How a fault of an order is told: its name, and its numbers in decimal.
use Rattle.std.specs.Prelude.{ℕ, List, ◌++◌, codes, decimal}
use Rattle.order_certificate.specs.FaultText.{fault_text}
use Rattle.order_checker.specs.declared.verdict.Part.{Part}
use Rattle.order_checker.specs.declared.verdict.Part.TheVariants as part
use Rattle.order_checker.specs.declared.verdict.Rejected.{Rejected}
use Rattle.order_checker.specs.declared.verdict.Rejected.TheVariants.{Text, Foreign, Ended, Missing, Differs, OutOfOrder, WrongValue, Memory}

abbrev pub part_text : Part → List ℕ
part_text part.Kind = codes "Kind"
part_text part.Size = codes "Size"
part_text part.Addr = codes "Addr"
part_text part.Stored = codes "Stored"

-- a number behind what is told already
abbrev pub and_number : List ℕ → ℕ → List ℕ
and_number told n = told ++ codes " " ++ decimal n

abbrev pub rejected_text : Rejected → List ℕ
rejected_text (Text fault) = fault_text fault
rejected_text (Foreign line) = and_number (codes "Foreign") line
rejected_text (Ended p steps) = and_number (and_number (codes "Ended") p.0) steps
rejected_text (Missing p i) = and_number (and_number (codes "Missing") p.0) i
rejected_text (Differs line part) = and_number (codes "Differs") line ++ codes " " ++ part_text part
rejected_text (OutOfOrder line p i) = and_number (and_number (and_number (codes "OutOfOrder") line) p.0) i
rejected_text (WrongValue line b wrote has) = and_number (and_number (and_number (and_number (codes "WrongValue") line) b) wrote) has
rejected_text Memory = codes "no memory"
