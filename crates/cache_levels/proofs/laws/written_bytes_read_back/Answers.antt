use Rattle.cache_levels.proofs.Copying.{write_reads_back}
use Rattle.cache_levels.proofs.laws.written_bytes_read_back.Goals as goal

pub returns : goal.returns
returns c = write_reads_back
