use Rattle.std.proofs.Common.{rules, ◌≡◌, ◌++◌, ◌∙◌, refl, sym, ap, Some, None, option_map, MatchResult}
use Rattle.std.specs.FinMap.{get, insert}
use Rattle.rsim_io.specs.Entries.{files_of}
use Rattle.rsim_io.proofs.Files.{files_of-update, get-files_of, Appends-held, Appends-made}
use Rattle.rsim_io.proofs.mem_files.MemFiles.append.Goals as goal

pub returns-in-Some-clause-appended : goal.returns-in-Some-clause-appended
returns-in-Some-clause-appended c =
    let old = files_of c.self.inside.files in
    let file = c.extend_from_slice.new.self in
    let held : get old c.args.name.now ≡ Some c.in-Some.file.now.items = get-files_of c.self.inside.files c.args.name.now ∙ ap (option_map (λ v. v.items)) (sym c.in-Some.ensures.value) in
    let new = files_of-update c.self.inside.files (c.get_mut.follows.lender file) c.args.name.now file ((c.get_mut.follows.holds file).3 (rw (← c.in-Some.ensures.value) refl)) in
    let grown : MatchResult c.map_err.result (λ _. file.items ≡ c.in-Some.file.now.items ++ c.args.bytes.now) (λ _. file.items ≡ c.in-Some.file.now.items) = search rules in
    rw (← c.self.view_is) (Appends-held old _ c.args.name.now c.args.bytes.now c.in-Some.file.now.items file.items c.map_err.result held new grown)

pub returns-in-None-clause-appended : goal.returns-in-None-clause-appended
returns-in-None-clause-appended c =
    let old = files_of c.self.inside.files in
    let absent : get old c.args.name.now ≡ None = get-files_of c.self.inside.files c.args.name.now ∙ ap (option_map (λ v. v.items)) (sym c.in-None.ensures.value) in
    let made : MatchResult c.map_err-in-None.result (λ _. c.set.new.self ≡ insert old c.args.name.now c.args.bytes.now) (λ _. c.set.new.self ≡ old) = let none = c.get_mut.follows.holds-at-none in let ok = rw none at c.set.ensures.ok in let err = rw none at c.set.ensures.err in search rules in
    rw (← c.self.view_is) (Appends-made old c.set.new.self c.args.name.now c.args.bytes.now c.map_err-in-None.result absent made)
