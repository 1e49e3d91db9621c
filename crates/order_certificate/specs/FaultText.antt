-- How a text's fault is told.
use Rattle.std.specs.Prelude.{ℕ, List, ◌++◌, codes, decimal}
use Rattle.order_certificate.specs.declared.fault.TextFault.{TextFault}
use Rattle.order_certificate.specs.declared.fault.TextFault.TheVariants.{BadLine, Truncated, TooMany, Memory}

abbrev pub fault_text : TextFault → List ℕ
fault_text (BadLine line) = codes "BadLine " ++ decimal line
fault_text Truncated = codes "Truncated"
fault_text TooMany = codes "TooMany"
fault_text Memory = codes "no memory"
