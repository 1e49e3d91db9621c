-- What a home has noted before any message names no nodes.
use Rattle.std.proofs.Common.{◌≡◌, ℕ, ◌≤◌, nat_eq, Bool, true, List, [], Option, None, Some, is_some, option_map, unwrap_or, refl, sym, subst, arith}
use Rattle.std.specs.HashMap.{get}
use Rattle.elf64_load.specs.Image.{ImageView}
use Rattle.memory_contracts.specs.Protocol.Lines.{HomeRecord, Phase}
use Rattle.directory.specs.Fresh.{IsFresh}
use Rattle.memory_contracts.specs.Letters.{Letter}
use Rattle.directory.specs.HomeParts.{AreFrom, AreKnown, records_in, unkept}
use Rattle.directory.specs.Bounds.{AreBelow, IsKnown, owner_bound, phase_bound}
use Rattle.directory.specs.Meanings.{record_of}
use Rattle.directory.specs.Start.{IsFirst}
use Rattle.directory.specs.declared.line_record.LineRecord.{LineRecord}
use Rattle.directory.specs.declared.records.Records.{Records}
use Rattle.directory.specs.declared.share.Share.{Share}

known-first : (n : ℕ) (image : ImageView) (line_bytes line : ℕ) (h : HomeRecord) → IsFirst image line_bytes line h → IsKnown n h
known-first n image line_bytes line h first = record {
  phase = subst (λ (phase : Phase). phase_bound phase ≤ n) (sym first.phase) (omega arith);
  owner = subst (λ (owner : Option ℕ). owner_bound owner ≤ n) (sym first.owner) (omega arith);
  sharers = subst (λ (set : ℕ → Bool). AreBelow n set) (sym first.sharers) (λ y above. refl);
}

pub known-fresh : (n : ℕ) (image : ImageView) (share : Share) (records : Records) → IsFresh image share records → AreKnown n (records_in records)
known-fresh n image share records fresh line = by (get nat_eq records.lines line) (fresh.first line)
  where
    by : (o : Option LineRecord) → (is_some o ≡ true → IsFirst image share.line_bytes line (unwrap_or (option_map record_of o) unkept)) → IsKnown n (unwrap_or (option_map record_of o) unkept)
    by None first = record { phase = omega arith; owner = omega arith; sharers = λ y above. refl }
    by (Some r) first = known-first n image share.line_bytes line (record_of r) (first refl)

pub from-none : (n : ℕ) (letters : List Letter) → letters ≡ [] → AreFrom n letters
from-none n letters none = subst (λ (letters : List Letter). AreFrom n letters) (sym none) (λ i w at. absurd cc)
