-- Bytes that are put behind others, in turn.
use Rattle.std.proofs.Common.{◌≡◌, ℕ, List, [], ◌++◌, length, take, append_assoc, append-nil, sym, ap, ◌∙◌}
use Rattle.std.proofs.Math.Seq.{take-append_seam}
use Rattle.rsim_base.specs.Texts.{Extends}

pub extends_by : (old new behind : List ℕ) → new ≡ old ++ behind → Extends old new
extends_by old new behind e = record { behind = behind; is = e }

pub extends_none : (old new : List ℕ) → new ≡ old → Extends old new
extends_none old new e = record { behind = []; is = e ∙ sym (append-nil old) }

pub extends_on : {old mid new : List ℕ} → Extends old mid → Extends mid new → Extends old new
extends_on {old} {mid} {new} first then = record {
  behind = first.behind ++ then.behind;
  is = then.is ∙ ap (λ t. t ++ then.behind) first.is ∙ append_assoc old first.behind then.behind;
}

-- as many bytes as there were are those
pub extends_front : (old new : List ℕ) → Extends old new → take (length old) new ≡ old
extends_front old new longer = ap (take (length old)) longer.is ∙ take-append_seam old longer.behind
