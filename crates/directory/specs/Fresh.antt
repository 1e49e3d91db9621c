-- Records of lines that nobody has.
use Rattle.std.specs.Prelude.{◌≡◌, ℕ, true}
use Rattle.elf64_load.specs.Image.{ImageView}
use Rattle.directory.specs.HomeParts.{has_line, records_in}
use Rattle.directory.specs.Start.{IsFirst, IsOfHome}
use Rattle.directory.specs.declared.records.Records.{Records}
use Rattle.directory.specs.declared.share.Share.{Share}

-- Each line that is kept is one of the share. Nobody has it, and its bytes are the image's.
pub record IsFresh (image : ImageView) (share : Share) (records : Records) : Type 0 where
  pub first : (line : ℕ) → has_line records line ≡ true → IsFirst image share.line_bytes line (records_in records line)
  pub of_share : (line : ℕ) → has_line records line ≡ true → IsOfHome image share.line_bytes share.nodes share.home.0 line

-- fresh records, with all lines that were there before
pub record AreMore (image : ImageView) (share : Share) (old new : Records) : Type 0 where
  pub fresh : IsFresh image share new
  pub grows : (line : ℕ) → has_line old line ≡ true → has_line new line ≡ true
