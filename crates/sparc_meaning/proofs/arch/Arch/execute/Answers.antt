-- An instruction that needs no spill or fill has its window.
use Rattle.std.proofs.Common.{sym}
use Rattle.sparc_meaning.proofs.Parts.{return_has_kept, restore_has_kept, save_has_room}
use Rattle.sparc_meaning.proofs.arch.Arch.execute.Goals as goal

pub return_to-requires-clause-kept : goal.return_to-requires-clause-kept
return_to-requires-clause-kept c = return_has_kept c.args.i.now.op c.args.self.now (sym c.in-Returns.ensures) c.requires.filled

pub save-requires-clause-room : goal.save-requires-clause-room
save-requires-clause-room c = save_has_room c.args.i.now.op c.args.self.now (sym c.in-Saves.ensures) c.requires.spilled

pub restore-requires-clause-kept : goal.restore-requires-clause-kept
restore-requires-clause-kept c = restore_has_kept c.args.i.now.op c.args.self.now (sym c.in-Restores.ensures) c.requires.filled
