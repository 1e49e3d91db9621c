-- The walks before and after one line.
use Rattle.std.proofs.Common.{◌≡◌, ◌<◌, ◌+◌, nat_lt, ℕ, suc, List, [], ◌∷◌, ◌++◌, length, None, Some, slice_get, slice_set, slice_index, sym, ap, subst, ⊎_elim, ◌∙◌, add-one, arith}
use Rattle.std.specs.List.{remove, take_while}
use Rattle.std.proofs.Math.ListN.{length-set}
use Rattle.std.proofs.lemmas.List.{length_push}
use Rattle.std.proofs.lemmas.Bool.{cases_eq}
use Rattle.std.proofs.lemmas.Option.{slice_get_within}
use Rattle.rsim_base.specs.declared.memory.Access.{Access}
use Rattle.elf64_load.specs.Image.{ImageView}
use Rattle.image_memory.specs.declared.memory.Memory.{Memory}
use Rattle.order_certificate.specs.Certificate.{CertificateView, IsCertificate}
use Rattle.order_checker.specs.declared.replay.Program.{Program}
use Rattle.order_checker.specs.declared.walk.Walk.{Walk}
use Rattle.order_checker.specs.Faults.{stray}
use Rattle.order_checker.specs.Firsts.{first}
use Rattle.order_checker.specs.Programs.{IsReplayed}
use Rattle.order_checker.specs.Standing.{IsWalked}
use Rattle.order_checker.specs.Walking.{IsWalk, IsAtLine, AreWalks, HasWalked, HasWritten}
use Rattle.order_checker.proofs.AtLines.{node_below, index_within, here_is, here_alone}
use Rattle.list_facts.specs.Places.{slice_get_more}
use Rattle.list_facts.specs.Options.{Some-injective}
use Rattle.order_checker.proofs.StillStanding.{walked_past}
use Rattle.order_checker.proofs.TableLines.{slice_get-set_same, slice_get-set_other}
use Rattle.order_checker.proofs.Written.{walked_own, left_more}

-- the same program, at another place of its walk
pub IsWalk-on : (image : ImageView) (c : CertificateView) (p j k : ℕ) (old new : Walk) → IsWalk image c p j old → new.program ≡ old.program → IsWalked old.program.places.items k new.next new.left.items → IsWalk image c p k new
IsWalk-on image c p j k old new was same walked = record {
  replayed = subst (λ (q : Program). IsReplayed image c.processors c.lines p (slice_index c.counts p) q.places.items q.fences.items) (sym same) was.replayed;
  fine = was.fine;
  walked = subst (λ (q : Program). IsWalked q.places.items k new.next new.left.items) (sym same) walked;
}

-- what `reach` leaves
abbrev pub Reaches : ℕ → Walk → Walk → Type 0
Reaches i old new = (places : List ℕ) (j : ℕ) → i < length places → IsWalked places j old.next old.left.items → IsWalked places j new.next new.left.items

pub IsAtLine-reached : (image : ImageView) (c : CertificateView) (j : ℕ) (e : Access) (old new : Walk) → IsCertificate c → first (stray c.processors c.lines) (length c.lines) ≡ None → slice_get c.lines j ≡ Some e →
    IsWalk image c e.node.0 j old → new.program ≡ old.program → Reaches e.index old new → e.index < new.next → IsAtLine image c j e new
IsAtLine-reached image c j e old new certificate strays stands was same reaches reached = record {
  certificate = certificate;
  strays = strays;
  stands = stands;
  walk = IsWalk-on image c e.node.0 j j old new was same (reaches old.program.places.items j (index_within image c j e old strays stands was) was.walked);
  reached = reached;
}

pub left_before : (image : ImageView) (c : CertificateView) (j : ℕ) (e : Access) (w : Walk) → IsAtLine image c j e w → length (take_while (λ k. nat_lt k e.index) w.left.items) < length w.left.items
left_before image c j e w at = left_more w.program.places.items j e.index w.next w.left.items at.walk.walked at.reached (here_is image c j e w at)

-- the walk of the line's processor goes on
pub IsWalk-passed : (image : ImageView) (c : CertificateView) (j : ℕ) (e : Access) (old new : Walk) → IsAtLine image c j e old → new.program ≡ old.program → new.next ≡ old.next →
    new.left.items ≡ remove old.left.items (length (take_while (λ k. nat_lt k e.index) old.left.items)) → IsWalk image c e.node.0 (j + 1) new
IsWalk-passed image c j e old new at same next left =
    subst (λ k. IsWalk image c e.node.0 k new) (sym (add-one j)) (IsWalk-on image c e.node.0 j (suc j) old new at.walk same
    (subst (λ n. IsWalked old.program.places.items (suc j) n new.left.items) (sym next)
    (subst (IsWalked old.program.places.items (suc j) old.next) (sym left)
    (walked_own old.program.places.items j e.index old.next old.left.items at.walk.walked at.reached (here_is image c j e old at)
    (λ k within is. sym (here_alone image c e.node.0 j e old at.certificate at.stands at.walk (node_below c j e at.strays at.stands) k within is).1)))))

-- the walk of one processor more
pub AreWalks-more : (image : ImageView) (c : CertificateView) (n : ℕ) (old : List Walk) (w : Walk) → AreWalks image c n 0 old → IsWalk image c n 0 w → AreWalks image c (n + 1) 0 (old ++ w ∷ [])
AreWalks-more image c n old w are is = record {
  count = let e = length_push old w in let f = are.count in omega arith;
  each = λ p v at. ⊎_elim (λ was. are.each p v was) (λ (here, v_is). subst (IsWalk image c p 0) (sym v_is) (subst (λ q. IsWalk image c q 0 w) (sym (here ∙ are.count)) is)) (slice_get_more old w p v at);
}

-- the walk of another processor has come to the next line too
IsWalk-past : (image : ImageView) (c : CertificateView) (p j : ℕ) (e : Access) (w : Walk) → IsCertificate c → slice_get c.lines j ≡ Some e → (p ≡ e.node.0 → ⊥) → p < c.processors → IsWalk image c p j w → IsWalk image c p (suc j) w
IsWalk-past image c p j e w certificate stands other below was = record {
  replayed = was.replayed;
  fine = was.fine;
  walked = walked_past w.program.places.items j w.next w.left.items was.walked (λ k within is. other (sym (here_alone image c p j e w certificate stands was below k within is).0));
}

pub HasWalked-on : (image : ImageView) (c : CertificateView) (j : ℕ) (e : Access) (old new : List Walk) (w : Walk) (before after : Memory) → HasWalked image c j old before → slice_get c.lines j ≡ Some e →
    new ≡ slice_set old e.node.0 w → IsWalk image c e.node.0 (j + 1) w → HasWritten image c.lines (j + 1) after → HasWalked image c (j + 1) new after
HasWalked-on image c j e old new w before after had stands set walk written = record {
  certificate = had.certificate;
  strays = had.strays;
  each = record {
    count = ap length set ∙ length-set old e.node.0 w ∙ had.each.count;
    each = λ p v at. ⊎_elim (λ same. here p v at same) (λ ne. other p v at ne) (cases_eq p e.node.0);
  };
  written = written;
}
  where
    below : e.node.0 < length old
    below = subst (λ n. e.node.0 < n) (sym had.each.count) (node_below c j e had.strays stands)

    here : (p : ℕ) (v : Walk) → slice_get new p ≡ Some v → p ≡ e.node.0 → IsWalk image c p (j + 1) v
    here p v at same =
        let v_is : w ≡ v = Some-injective (sym (slice_get-set_same old e.node.0 w below) ∙ ap (λ ws. slice_get ws e.node.0) (sym set) ∙ ap (slice_get new) (sym same) ∙ at) in
        subst (IsWalk image c p (j + 1)) v_is (subst (λ q. IsWalk image c q (j + 1) w) (sym same) walk)

    other : (p : ℕ) (v : Walk) → slice_get new p ≡ Some v → (p ≡ e.node.0 → ⊥) → IsWalk image c p (j + 1) v
    other p v at ne =
        let was = sym (slice_get-set_other old e.node.0 p w ne) ∙ ap (λ ws. slice_get ws p) (sym set) ∙ at in
        subst (λ k. IsWalk image c p k v) (sym (add-one j))
        (IsWalk-past image c p j e v had.certificate stands ne (subst (λ n. p < n) had.each.count (slice_get_within old p v was)) (had.each.each p v was))
