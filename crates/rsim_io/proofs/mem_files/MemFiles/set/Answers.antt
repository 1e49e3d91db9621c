use Rattle.std.proofs.Common.{rules, ◌≡◌, Some}
use Rattle.std.specs.String.{string_bytes, string_cmp}
use Rattle.std.specs.BTreeMap.{UpdatesBy}
use Rattle.rsim_io.proofs.Files.{files_of-update}
use Rattle.rsim_io.proofs.mem_files.MemFiles.set.Goals as goal

pub returns-clause-ok : goal.returns-clause-ok
returns-clause-ok c =
    let updates : UpdatesBy string_cmp (string_cmp c.in_ok-name.name) c.self.inside.files c.insert.new.self (Some c.in_ok-bytes.bytes) = search rules in
    let name : string_bytes c.in_ok-name.name ≡ c.args.name.now = search rules in
    let bytes : c.in_ok-bytes.bytes.items ≡ c.args.bytes.now = search rules in
    let new = files_of-update c.self.inside.files c.insert.new.self (string_bytes c.in_ok-name.name) c.in_ok-bytes.bytes updates in
    rw (← c.self.view_is, ← name, ← bytes) new
