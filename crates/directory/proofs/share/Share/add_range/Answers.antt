use Rattle.std.proofs.Common.{◌≡◌, ◌+◌, ◌/◌, ◌%◌, ◌<◌, subst, arith}
use Rattle.std.specs.Int.{div_ceil}
use Rattle.std.proofs.lemmas.Bool.Decides.{nat_tests}
use Rattle.directory.proofs.Added.{line-before, line-has-byte, line-rises}
use Rattle.directory.proofs.share.Share.add_range.Goals as goal

pub returns-clause-there : goal.returns-clause-there
returns-clause-there c = λ a low high share.
    let s = c.args.self.now in
    let wide = s.some in
    let some : 0 < s.line_bytes = omega (arith, wide) in
    let all = subst (λ len. c.div_ceil.result ≡ div_ceil (c.args.first % s.line_bytes + len) s.line_bytes) c.from.ensures c.div_ceil.ensures in
    c.in_ok-add_lines.ensures.there (a / s.line_bytes) (line-rises c.args.first a s.line_bytes some low) (line-before c.args.first c.args.len a s.line_bytes c.div_ceil.result some all high) share

pub add_lines-requires-clause-mapped : goal.add_lines-requires-clause-mapped
add_lines-requires-clause-mapped c = λ l low high.
    let s = c.args.self.now in
    let wide = s.some in
    let some : 0 < s.line_bytes = omega (arith, wide) in
    let all = subst (λ len. c.div_ceil.result ≡ div_ceil (c.args.first % s.line_bytes + len) s.line_bytes) c.from.ensures c.div_ceil.ensures in
    let (a, from, until, line) = line-has-byte c.args.first c.args.len s.line_bytes c.div_ceil.result l some (grind (arith, nat_tests, c.if-len-eq0.false)) all low high in
    (a, c.requires.mapped a from until, line)
