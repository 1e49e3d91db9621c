use Rattle.std.proofs.Common.{◌≡◌, ◌^◌, ◌<◌, drop}
use Rattle.order_certificate.specs.Fields.{hex_from}
use Rattle.order_certificate.proofs.fields.hex.Given as goal

-- the number so far, with the digits that are left
abbrev pub invariant-loop-digit : goal.invariant-loop-digit
invariant-loop-digit l = record {
  fits : l.number < 16 ^ l.digit-index;
  same : hex_from l.number (drop l.digit-index l.digits) ≡ hex_from 0 l.digits;
}
