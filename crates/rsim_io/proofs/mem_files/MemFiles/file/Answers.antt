use Rattle.std.proofs.Common.{refl}
use Rattle.rsim_io.proofs.Files.{get-files_of}
use Rattle.rsim_io.proofs.mem_files.MemFiles.file.Goals as goal

pub returns-in_err-file : goal.returns-in_err-file
returns-in_err-file c = rw (← c.self.view_is, get-files_of, ← c.get.ensures.value, c.in_err-file.was, c.from_residual.ensures) refl

pub returns : goal.returns
returns c = rw (← c.self.view_is, get-files_of, ← c.get.ensures.value, c.in_ok-file.was, c.deref.ensures.value) refl
