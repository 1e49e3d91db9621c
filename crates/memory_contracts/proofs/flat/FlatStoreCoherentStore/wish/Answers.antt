use Rattle.std.proofs.Common.{◌≡◌, ℕ, ◌≤◌, ◌==◌, true, cond, List, [], ◌∷◌, ◌++◌, length, sym, ap, subst, ◌∙◌, length-append, arith}
use Rattle.std.specs.List.{All}
use Rattle.std.proofs.lemmas.List.{length-map}
use Rattle.std.proofs.lemmas.List.Elements.{All-append}
use Rattle.memory_contracts.specs.Store.{StoreView, Wish}
use Rattle.memory_contracts.specs.Flat.{store_of}
use Rattle.memory_contracts.specs.FlatLayout.{AreOwned, mapped_in}
use Rattle.memory_contracts.specs.FlatStores.{flat_of}
use Rattle.memory_contracts.specs.Parts.{byte_in, has_line, owner_in, wanted_in, wish_of, wishes_of}
use Rattle.memory_contracts.specs.declared.wishes.Wanted.{Wanted}
use Rattle.memory_contracts.proofs.Turns.{All-one, few-with, known-with}
use Rattle.memory_contracts.proofs.Wishing.{after_wish-new, wishes-pushed}
use Rattle.memory_contracts.proofs.flat.FlatStoreCoherentStore.wish.Goals as goal

pub invariant_of-self : goal.invariant_of-self
invariant_of-self c =
    let k = c.args.self.now.kept in
    let p = c.args.p.0 in
    let w : Wanted = record { line = c.args.line; own = c.args.own } in
    let wanted = wanted_in c.args.self.now.wishes in
    let has = has_line c.args.self.now.owners in
    let nodes = k.nodes in
    let (a, mapped, line) = c.requires.mapped in
    let here : has c.args.line.0 ≡ true = ap has (sym line) ∙ k.lines a mapped in
    let Known : (ℕ → List Wanted) → Type 0 = λ f. (q : ℕ) → All (λ (w : Wanted). has w.line.0 ≡ true) (f q) in
    let Few : (ℕ → List Wanted) → Type 0 = λ f. (q : ℕ) → length (f q) ≤ 16 in
    let one : All (λ (w : Wanted). has w.line.0 ≡ true) (w ∷ []) = All-one has w here in
    let room = length-append (wanted p) (w ∷ []) in
    record {
      kept = record {
        line = k.line;
        nodes = omega (arith, nodes, c.push.ensures.nodes);
        doublewords = k.doublewords;
        lines = k.lines;
        known = subst Known (sym c.push.ensures.wishes) (known-with has wanted p (wanted p ++ w ∷ []) k.known (All-append (λ (w : Wanted). has w.line.0 ≡ true) (wanted p) (w ∷ []) (k.known p) one));
        few = subst Few (sym c.push.ensures.wishes) (few-with wanted p (wanted p ++ w ∷ []) k.few (omega (arith, room, c.count.ensures)));
        owned = subst (λ (n : ℕ). AreOwned n (owner_in c.args.self.now.owners)) (sym c.push.ensures.nodes) k.owned;
      };
    }

pub returns-clause-after : goal.returns-clause-after
returns-clause-after c =
    let s = c.args.self.now in
    let p = c.args.p.0 in
    let w : Wanted = record { line = c.args.line; own = c.args.own } in
    let wanted = wanted_in s.wishes in
    let at : (ℕ → List Wish) → ℕ → StoreView = λ wishes nodes. store_of (record {
      bytes = byte_in s.memory;
      mapped = mapped_in s.spans.items;
      owner = owner_in s.owners;
      wishes = wishes;
      nodes = nodes;
      line_bytes = s.line_bytes;
      ticks = s.ticks;
    }) in
    let seen : (ℕ → List Wanted) → ℕ → List Wish = λ f q. wishes_of (f q) in
    let wishes : ◌≡◌ {A = ℕ → List Wish} (λ q. wishes_of (wanted_in c.push.new.self q)) (λ q. cond (q == p) (wishes_of (wanted q) ++ wish_of w ∷ []) (wishes_of (wanted q))) =
    ap seen c.push.ensures.wishes ∙ (λ i q. wishes-pushed wanted p w q i) in
    let room = length-map (wanted p) wish_of in
    (λ i. at (wishes i) (c.push.ensures.nodes i))
    ∙ sym (after_wish-new (store_of (flat_of s)) p c.args.line.0 c.args.own (sym c.cover.ensures ∙ c.if-cover.false) (omega (arith, room, c.count.ensures)))

pub returns-clause-told : goal.returns-clause-told
returns-clause-told c = returns-clause-after c
