use Rattle.std.proofs.Common.{◌+◌, length, get_or, Some, sym, ap, ◌∙◌}
use Rattle.std.proofs.lemmas.Result.{err_from_is_err_and}
use Rattle.machine_config.specs.Text.{value_of}
use Rattle.machine_config.specs.Keys.{keys, processors}
use Rattle.machine_config.specs.Allowed.{Allows}
use Rattle.machine_config.specs.declared.fault.ConfigFault.TheVariants.{UnknownName, Repeated}
use Rattle.machine_config.proofs.Lines.{line_fault-empty, line_fault-unknown, line_fault-repeated, line_fault-value, HasRead-empty, HasRead-value, named-at, key-empty, key-some, key-place}
use Rattle.machine_config.proofs.Table.{place-below, values-at, word_count-at}
use Rattle.machine_config.proofs.Meant.{Allows-value, value_fault-same, number_of-same}
use Rattle.machine_config.proofs.reader.Given.read_line.Goals as goal

pub returns-then-is_empty : goal.returns-then-is_empty
returns-then-is_empty c = λ earlier read.
    let empty = key-empty _ _ _ c.split_key.ensures.key c.is_empty.ensures c.if-is_empty.true in
    (line_fault-empty earlier c.args.line.now empty, HasRead-empty earlier c.args.line.now c.args.self.now read empty)

pub returns-in_default : goal.returns-in_default
returns-in_default c = λ earlier read.
    let some = key-some _ _ _ c.split_key.ensures.key c.is_empty.ensures c.if-is_empty.false in
    let none = key-place _ _ _ _ c.split_key.ensures.key c.place_of.ensures c.in_default.is in
    line_fault-unknown earlier c.args.line.now some none ∙ ap (λ n. Some (UnknownName (n + 1))) (sym read.lines)

pub bounds-self-place : goal.bounds-self-place
bounds-self-place c = place-below _ c.in-Some.place (key-place _ _ _ _ c.split_key.ensures.key c.place_of.ensures c.in-Some.is)

pub returns-then-self-place : goal.returns-then-self-place
returns-then-self-place c = λ earlier read.
    let some = key-some _ _ _ c.split_key.ensures.key c.is_empty.ensures c.if-is_empty.false in
    let at = key-place _ _ _ _ c.split_key.ensures.key c.place_of.ensures c.in-Some.is in
    let again = sym (named-at earlier c.args.self.now c.in-Some.place _ read (place-below _ _ at)) ∙ c.if-self-place.true in
    line_fault-repeated earlier c.args.line.now c.in-Some.place some at again ∙ ap (λ n. Some (Repeated (n + 1))) (sym read.lines)

pub read-requires : goal.read-requires
read-requires c =
    let at = key-place _ _ _ _ c.split_key.ensures.key c.place_of.ensures c.in-Some.is in
    word_count-at c.table.result.now c.in-Some.place _ c.table.ensures.rows c.table.ensures.count (place-below _ _ at)

pub returns-in_err-self : goal.returns-in_err-self
returns-in_err-self c = λ earlier read.
    let some = key-some _ _ _ c.split_key.ensures.key c.is_empty.ensures c.if-is_empty.false in
    let at = key-place _ _ _ _ c.split_key.ensures.key c.place_of.ensures c.in-Some.is in
    let first = sym (named-at earlier c.args.self.now c.in-Some.place _ read (place-below _ _ at)) ∙ c.if-self-place.false in
    let values = values-at c.table.result.now c.in-Some.place _ c.table.ensures.rows c.table.ensures.count (place-below _ _ at) in
    let p = err_from_is_err_and c.from_residual.result c.from_residual.ensures.1 in
    rw (p.1, p.2)
    (line_fault-value earlier c.args.line.now c.in-Some.place some at first
    ∙ value_fault-same _ _ _ _ _ _ (sym values) (ap (λ n. n + 1) (sym read.lines)) (sym c.split_key.ensures.value) ∙ c.in_err-self.ensures)

pub returns : goal.returns
returns c = λ earlier read.
    let some = key-some _ _ _ c.split_key.ensures.key c.is_empty.ensures c.if-is_empty.false in
    let at = key-place _ _ _ _ c.split_key.ensures.key c.place_of.ensures c.in-Some.is in
    let first = sym (named-at earlier c.args.self.now c.in-Some.place _ read (place-below _ _ at)) ∙ c.if-self-place.false in
    let values = values-at c.table.result.now c.in-Some.place _ c.table.ensures.rows c.table.ensures.count (place-below _ _ at) in
    let fine = value_fault-same _ _ _ _ _ _ (sym values) (ap (λ n. n + 1) (sym read.lines)) (sym c.split_key.ensures.value) ∙ c.in_ok-self.ensures.0 in
    let number = c.in_ok-self.ensures.1 ∙ number_of-same _ _ _ _ values c.split_key.ensures.value in
    let allowed : Allows (get_or keys c.in-Some.place processors).values c.in_ok-self.field-0 = rw number (Allows-value (get_or keys c.in-Some.place processors).values (length earlier + 1) (value_of c.args.line.now) fine) in (
      line_fault-value earlier c.args.line.now c.in-Some.place some at first ∙ fine,
      HasRead-value earlier c.args.line.now c.args.self.now c.in-Some.place c.in_ok-self.field-0 read at first number allowed,
    )
