-- One more byte is put into a line.
use Rattle.std.proofs.Common.{◌≡◌, ℕ, ◌+◌, ◌<◌, List, [], ◌∷◌, ◌++◌, length, get_or, set, map, take, drop, append_assoc, length-append, arith, sym, ap, ◌∙◌}
use Rattle.std.specs.List.{range_with_len}
use Rattle.std.proofs.lemmas.List.{drop_more, set_at, length-take-le}
use Rattle.std.proofs.lemmas.List.FromFn.{length-map-range_with_len, map-range_with_len_more}

pub put_more : (f : ℕ → ℕ) (at k : ℕ) (old : List ℕ) → at + k < length old →
    set (take at old ++ (map f (range_with_len 0 k) ++ drop (at + k) old)) (at + k) (f k) ≡ take at old ++ (map f (range_with_len 0 (k + 1)) ++ drop (at + (k + 1)) old)
put_more f at k old h =
    let new = map f (range_with_len 0 k) in
    let front = take at old ++ new in
    let size : length front ≡ at + k = length-append (take at old) new ∙ omega (arith, length-take-le at old (omega arith), length-map-range_with_len f 0 k) in
    let rest : drop (at + k) old ≡ get_or old (at + k) 0 ∷ drop (at + k + 1) old = drop_more old (at + k) 0 h in
    let more : map f (range_with_len 0 (k + 1)) ≡ new ++ f k ∷ [] = map-range_with_len_more f 0 k k (omega arith) in
    let next : at + k + 1 ≡ at + (k + 1) = omega arith in
    let end : drop (at + k + 1) old ≡ drop (at + (k + 1)) old = ap (λ (n : ℕ). drop n old) next in
    let whole : take at old ++ (new ++ drop (at + k) old) ≡ front ++ get_or old (at + k) 0 ∷ drop (at + k + 1) old = sym (append_assoc (take at old) new (drop (at + k) old)) ∙ ap (λ (ys : List ℕ). front ++ ys) rest in
    ap (λ (ys : List ℕ). set ys (at + k) (f k)) whole
    ∙ (set_at front (get_or old (at + k) 0) (drop (at + k + 1) old) (f k) (at + k) size
    ∙ (append_assoc (take at old) new (f k ∷ drop (at + k + 1) old)
    ∙ ap (λ (ys : List ℕ). take at old ++ ys)
    (sym (append_assoc new (f k ∷ []) (drop (at + k + 1) old)) ∙ (ap (λ (ys : List ℕ). ys ++ drop (at + k + 1) old) (sym more) ∙ ap (λ (ys : List ℕ). map f (range_with_len 0 (k + 1)) ++ ys) end))))
