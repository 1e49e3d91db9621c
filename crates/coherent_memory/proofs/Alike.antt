-- Cells to which the same messages are mailed in another order.
use Rattle.std.proofs.Common.{◌≡◌, suc, List, [], ◌∷◌, ◌++◌, refl, sym, ap, ◌∙◌, subst, append_assoc}
use Rattle.std.specs.List.Sorted.{IsPermutation}
use Rattle.std.proofs.lemmas.List.Sorted.{IsPermutation-refl, IsPermutation-sym, IsPermutation-trans, IsPermutation-cons, IsPermutation-middle}
use Rattle.memory_contracts.specs.Protocol.Messages.{Message, GetS, GetM, Put, PutAck}
use Rattle.memory_contracts.specs.Protocol.Lines.{Cell, cell, mailed, all_mailed}
use Rattle.memory_contracts.specs.Protocol.Alike.{IsAlike}

-- ---- cells

pub IsAlike-refl : (c : Cell) → IsAlike c c
IsAlike-refl c = record {
  copy = refl;
  register = refl;
  asked = IsPermutation-refl c.stance.asked;
  acks = refl;
  words = IsPermutation-refl c.words;
}

pub IsAlike-sym : (c d : Cell) → IsAlike c d → IsAlike d c
IsAlike-sym c d a = record {
  copy = sym a.copy;
  register = sym a.register;
  asked = IsPermutation-sym c.stance.asked d.stance.asked a.asked;
  acks = sym a.acks;
  words = IsPermutation-sym c.words d.words a.words;
}

pub IsAlike-trans : (c d e : Cell) → IsAlike c d → IsAlike d e → IsAlike c e
IsAlike-trans c d e a b = record {
  copy = a.copy ∙ b.copy;
  register = a.register ∙ b.register;
  asked = IsPermutation-trans c.stance.asked d.stance.asked e.stance.asked a.asked b.asked;
  acks = a.acks ∙ b.acks;
  words = IsPermutation-trans c.words d.words e.words a.words b.words;
}

-- ---- where a message is mailed to

pub data Place (m : Message) : Type 0 where
  asked : ((c : Cell) → mailed m c ≡ cell (record c.stance { asked = m ∷ c.stance.asked }) c.words) → Place m
  acks : ((c : Cell) → mailed m c ≡ cell (record c.stance { acks = suc c.stance.acks }) c.words) → Place m
  words : ((c : Cell) → mailed m c ≡ cell c.stance (m ∷ c.words)) → Place m

pub place : (m : Message) → Place m
place GetS = asked (λ c. refl)
place GetM = asked (λ c. refl)
place (Put bytes) = asked (λ c. refl)
place PutAck = acks (λ c. refl)
place m = words (λ c. refl)

-- ---- two messages, in either order

swap_front : {X : Type 0} (x y : X) (zs : List X) → IsPermutation (x ∷ y ∷ zs) (y ∷ x ∷ zs)
swap_front x y zs = IsPermutation-middle (x ∷ []) y zs

alike_as : {c d e f : Cell} → c ≡ e → d ≡ f → IsAlike e f → IsAlike c d
alike_as {d = d} {e = e} p q a = subst (λ c. IsAlike c d) (sym p) (subst (λ d. IsAlike e d) (sym q) a)

by_places : (m k : Message) (c : Cell) → Place m → Place k → IsAlike (mailed m (mailed k c)) (mailed k (mailed m c))
by_places m k c (asked e) (asked f) = alike_as (ap (mailed m) (f c) ∙ e _) (ap (mailed k) (e c) ∙ f _) (record {
  copy = refl;
  register = refl;
  asked = swap_front m k c.stance.asked;
  acks = refl;
  words = IsPermutation-refl c.words;
})
by_places m k c (asked e) (acks f) = alike_as (ap (mailed m) (f c) ∙ e _) (ap (mailed k) (e c) ∙ f _) (IsAlike-refl _)
by_places m k c (asked e) (words f) = alike_as (ap (mailed m) (f c) ∙ e _) (ap (mailed k) (e c) ∙ f _) (IsAlike-refl _)
by_places m k c (acks e) (asked f) = alike_as (ap (mailed m) (f c) ∙ e _) (ap (mailed k) (e c) ∙ f _) (IsAlike-refl _)
by_places m k c (acks e) (acks f) = alike_as (ap (mailed m) (f c) ∙ e _) (ap (mailed k) (e c) ∙ f _) (IsAlike-refl _)
by_places m k c (acks e) (words f) = alike_as (ap (mailed m) (f c) ∙ e _) (ap (mailed k) (e c) ∙ f _) (IsAlike-refl _)
by_places m k c (words e) (asked f) = alike_as (ap (mailed m) (f c) ∙ e _) (ap (mailed k) (e c) ∙ f _) (IsAlike-refl _)
by_places m k c (words e) (acks f) = alike_as (ap (mailed m) (f c) ∙ e _) (ap (mailed k) (e c) ∙ f _) (IsAlike-refl _)
by_places m k c (words e) (words f) = alike_as (ap (mailed m) (f c) ∙ e _) (ap (mailed k) (e c) ∙ f _) (record {
  copy = refl;
  register = refl;
  asked = IsPermutation-refl c.stance.asked;
  acks = refl;
  words = swap_front m k c.words;
})

pub mailed-comm : (m k : Message) (c : Cell) → IsAlike (mailed m (mailed k c)) (mailed k (mailed m c))
mailed-comm m k c = by_places m k c (place m) (place k)

-- ---- the same messages to alike cells

by_place : (m : Message) (c d : Cell) → Place m → IsAlike c d → IsAlike (mailed m c) (mailed m d)
by_place m c d (asked e) a = alike_as (e c) (e d) (record {
  copy = a.copy;
  register = a.register;
  asked = IsPermutation-cons m c.stance.asked d.stance.asked a.asked;
  acks = a.acks;
  words = a.words;
})
by_place m c d (acks e) a = alike_as (e c) (e d) (record {
  copy = a.copy;
  register = a.register;
  asked = a.asked;
  acks = ap (λ k. suc k) a.acks;
  words = a.words;
})
by_place m c d (words e) a = alike_as (e c) (e d) (record {
  copy = a.copy;
  register = a.register;
  asked = a.asked;
  acks = a.acks;
  words = IsPermutation-cons m c.words d.words a.words;
})

pub mailed-alike : (m : Message) (c d : Cell) → IsAlike c d → IsAlike (mailed m c) (mailed m d)
mailed-alike m c d a = by_place m c d (place m) a

pub all_mailed-alike : (ms : List Message) (c d : Cell) → IsAlike c d → IsAlike (all_mailed ms c) (all_mailed ms d)
all_mailed-alike [] c d a = a
all_mailed-alike (m ∷ ms) c d a = mailed-alike m (all_mailed ms c) (all_mailed ms d) (all_mailed-alike ms c d a)

pub all_mailed-append : (ms ks : List Message) (c : Cell) → all_mailed (ms ++ ks) c ≡ all_mailed ms (all_mailed ks c)
all_mailed-append [] ks c = refl
all_mailed-append (m ∷ ms) ks c = ap (mailed m) (all_mailed-append ms ks c)

all_mailed-mailed : (m : Message) (ms : List Message) (c : Cell) → IsAlike (mailed m (all_mailed ms c)) (all_mailed ms (mailed m c))
all_mailed-mailed m [] c = IsAlike-refl (mailed m c)
all_mailed-mailed m (k ∷ ms) c =
    IsAlike-trans _ _ _ (mailed-comm m k (all_mailed ms c)) (mailed-alike k _ _ (all_mailed-mailed m ms c))

all_mailed-comm : (ms ks : List Message) (c : Cell) → IsAlike (all_mailed ms (all_mailed ks c)) (all_mailed ks (all_mailed ms c))
all_mailed-comm [] ks c = IsAlike-refl (all_mailed ks c)
all_mailed-comm (m ∷ ms) ks c =
    IsAlike-trans _ _ _ (mailed-alike m _ _ (all_mailed-comm ms ks c)) (all_mailed-mailed m ks (all_mailed ms c))

-- ---- lists of messages that are the same in another order: the cells that they are mailed to are alike

pub record AreReordered (ms ks : List Message) : Type 0 where
  pub alike : (c : Cell) → IsAlike (all_mailed ms c) (all_mailed ks c)

pub AreReordered-refl : (ms : List Message) → AreReordered ms ms
AreReordered-refl ms = record { alike = λ c. IsAlike-refl (all_mailed ms c) }

pub AreReordered-same : {ms ks : List Message} → ms ≡ ks → AreReordered ms ks
AreReordered-same {ms = ms} e = subst (λ ks. AreReordered ms ks) e (AreReordered-refl ms)

pub AreReordered-sym : {ms ks : List Message} → AreReordered ms ks → AreReordered ks ms
AreReordered-sym {ms = ms} {ks = ks} r = record { alike = λ c. IsAlike-sym (all_mailed ms c) (all_mailed ks c) (r.alike c) }

pub AreReordered-trans : {ms ks js : List Message} → AreReordered ms ks → AreReordered ks js → AreReordered ms js
AreReordered-trans r q = record { alike = λ c. IsAlike-trans _ _ _ (r.alike c) (q.alike c) }

pub AreReordered-comm : (ms ks : List Message) → AreReordered (ms ++ ks) (ks ++ ms)
AreReordered-comm ms ks = record { alike = λ c. alike_as (all_mailed-append ms ks c) (all_mailed-append ks ms c) (all_mailed-comm ms ks c) }

pub AreReordered-append : (ms ms' ks ks' : List Message) → AreReordered ms ms' → AreReordered ks ks' → AreReordered (ms ++ ks) (ms' ++ ks')
AreReordered-append ms ms' ks ks' r q = record {
  alike = λ c. alike_as
      (all_mailed-append ms ks c)
      (all_mailed-append ms' ks' c)
      (IsAlike-trans _ _ _ (all_mailed-alike ms _ _ (q.alike c)) (r.alike (all_mailed ks' c)));
}

-- ---- some of the messages come to the front

pub more_before : (xs ys ms ks : List Message) → AreReordered xs (ms ++ ys) → AreReordered (xs ++ ks) (ms ++ (ys ++ ks))
more_before xs ys ms ks r = AreReordered-trans (AreReordered-append xs (ms ++ ys) ks ks r (AreReordered-refl ks)) (AreReordered-same (append_assoc ms ys ks))

pub more_behind : (xs ys ms ks : List Message) → AreReordered xs (ms ++ ys) → AreReordered (ks ++ xs) (ms ++ (ks ++ ys))
more_behind xs ys ms ks r =
    AreReordered-trans (AreReordered-append ks ks xs (ms ++ ys) (AreReordered-refl ks) r)
    (AreReordered-trans (AreReordered-same (sym (append_assoc ks ms ys)))
    (AreReordered-trans (AreReordered-append (ks ++ ms) (ms ++ ks) ys ys (AreReordered-comm ks ms) (AreReordered-refl ys))
    (AreReordered-same (append_assoc ms ks ys))))

-- ---- what no message changes

copy_by_place : (m : Message) (c : Cell) → Place m → (mailed m c).stance.copy ≡ c.stance.copy
copy_by_place m c (asked e) = ap (λ (d : Cell). d.stance.copy) (e c)
copy_by_place m c (acks e) = ap (λ (d : Cell). d.stance.copy) (e c)
copy_by_place m c (words e) = ap (λ (d : Cell). d.stance.copy) (e c)

pub all_mailed-copy : (ms : List Message) (c : Cell) → (all_mailed ms c).stance.copy ≡ c.stance.copy
all_mailed-copy [] c = refl
all_mailed-copy (m ∷ ms) c = copy_by_place m (all_mailed ms c) (place m) ∙ all_mailed-copy ms c

register_by_place : (m : Message) (c : Cell) → Place m → (mailed m c).stance.register ≡ c.stance.register
register_by_place m c (asked e) = ap (λ (d : Cell). d.stance.register) (e c)
register_by_place m c (acks e) = ap (λ (d : Cell). d.stance.register) (e c)
register_by_place m c (words e) = ap (λ (d : Cell). d.stance.register) (e c)

pub all_mailed-register : (ms : List Message) (c : Cell) → (all_mailed ms c).stance.register ≡ c.stance.register
all_mailed-register [] c = refl
all_mailed-register (m ∷ ms) c = register_by_place m (all_mailed ms c) (place m) ∙ all_mailed-register ms c
