-- What was put into the table of the line's processor.
use Rattle.std.proofs.Common.{◌≡◌, refl, ap, inl, inr, ⊎_elim, ◌∙◌, Some, arith, length, slice_get}
use Rattle.std.proofs.lemmas.Bool.{or_right}
use Rattle.std.proofs.lemmas.Option.{slice_get_read}
use Rattle.order_checker.specs.Tables.{has_line}
use Rattle.order_checker.proofs.TableLines.{OnOk_both, IfErr_map}
use Rattle.order_checker.proofs.places.note_line.Goals as goal

pub returns-clause-noted : goal.returns-clause-noted
returns-clause-noted c =
    let was : slice_get c.args.tables.now.items c.args.line.now.node.0 ≡ Some c.index_mut.result.now = slice_get_read c.args.tables.now.items (length c.args.tables.now.items) c.args.line.now.node.0 c.index_mut.result.now refl (omega arith) c.index_mut.ensures.value in
    OnOk_both c.put_first.result (λ fresh put. record {
      table = c.put_first.new.self;
      before = c.index_mut.result.now;
      among = omega arith;
      was = was;
      fresh = fresh;
      is = refl;
      put = put;
    }) c.put_first.ensures.fresh c.put_first.ensures.put

pub returns-clause-fault : goal.returns-clause-fault
returns-clause-fault c =
    let was : slice_get c.args.tables.now.items c.args.line.now.node.0 ≡ Some c.index_mut.result.now = slice_get_read c.args.tables.now.items (length c.args.tables.now.items) c.args.line.now.node.0 c.index_mut.result.now refl (omega arith) c.index_mut.ensures.value in
    IfErr_map c.put_first.result c.put_first.ensures.fault (λ r fault. ⊎_elim (λ out. inl out) (λ (told, is). inr (told, or_right _ _ (ap (has_line c.args.line.now.index) was ∙ is))) fault)
