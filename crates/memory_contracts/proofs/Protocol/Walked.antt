-- The walks through every row: each step is computed.
use Rattle.std.proofs.Common.{suc, ◌==◌, true, false, cond, not, ◌&&◌, ◌||◌, [], ◌∷◌, ◌++◌, refl, ap, ◌∙◌, lit<}
use Rattle.machine_config.specs.declared.config.Protocol.{Protocol}
use Rattle.machine_config.specs.declared.config.Protocol.TheVariants.{Msi, Mesi}
use Rattle.memory_contracts.specs.Protocol.Messages.{Inv, Recall, Grant, PutAck}
use Rattle.memory_contracts.specs.Protocol.Lines.{besides}
use Rattle.memory_contracts.specs.Protocol.HomeTable.{to_each}
use Rattle.memory_contracts.specs.Protocol.Walks.{WalksMsi, WalksMesi, after_leavers, after_lenders, after_owners, after_readers, beginning, last_reader, leavers, lenders, mesi_readers, mesi_walk, msi_readers, msi_walk, new, old, owners, two_sharers}
use Rattle.memory_contracts.proofs.Protocol.Walking.{AreSteps, SendsToNoOther, and-false, other_node, steps-append, steps-lead, to_one-few}

-- the orders to give up two shared copies go to no third node
invalidates-few : SendsToNoOther (to_each (besides 2 two_sharers) Inv)
invalidates-few y =
    let z = suc (suc (suc y)) in
    ap (λ t. cond (not (2 == z) && (t || ((0 == z) || false))) (Inv ∷ []) []) (other_node 1 y (lit< tt))
    ∙ ap (λ t. cond (not (2 == z) && (t || false)) (Inv ∷ []) []) (other_node 0 y (lit< tt))
    ∙ ap (λ t. cond t (Inv ∷ []) []) (and-false (not (2 == z)))

msi_readers-steps : AreSteps Msi beginning msi_readers
msi_readers-steps = (
  refl,
  (lit< tt, refl, refl, refl),
  (
    refl,
    (lit< tt, refl, refl, refl, to_one-few 0 (Grant false old) (lit< tt)),
    (
      refl,
      (lit< tt, refl, refl, refl),
      (
        refl,
        (lit< tt, refl, refl, refl, λ y. refl),
        (
          refl,
          (lit< tt, refl, refl, refl),
          (
            refl,
            (lit< tt, refl, refl, refl, λ y. refl),
            (
              refl,
              (lit< tt, refl, refl, refl, to_one-few 1 (Grant false old) (lit< tt)),
              (
                refl,
                (lit< tt, refl, refl, refl),
                (
                  refl,
                  (lit< tt, refl, refl, refl, λ y. refl),
                  tt,
                ),
              ),
            ),
          ),
        ),
      ),
    ),
  ),
)

mesi_readers-steps : AreSteps Mesi beginning mesi_readers
mesi_readers-steps = (
  refl,
  (lit< tt, refl, refl, refl),
  (
    refl,
    (lit< tt, refl, refl, refl, to_one-few 0 (Grant true old) (lit< tt)),
    (
      refl,
      (lit< tt, refl, refl, refl),
      (
        refl,
        (lit< tt, refl, refl, refl, λ y. refl),
        (
          refl,
          (lit< tt, refl, refl, refl),
          (
            refl,
            (lit< tt, refl, refl, refl, λ y. refl),
            (
              refl,
              (lit< tt, refl, refl, refl, to_one-few 0 (Recall false) (lit< tt)),
              (
                refl,
                (lit< tt, refl, refl, refl),
                (
                  refl,
                  (lit< tt, refl, refl, refl, to_one-few 1 (Grant false old) (lit< tt)),
                  (
                    refl,
                    (lit< tt, refl, refl, refl),
                    (
                      refl,
                      (lit< tt, refl, refl, refl, λ y. refl),
                      tt,
                    ),
                  ),
                ),
              ),
            ),
          ),
        ),
      ),
    ),
  ),
)

owners-steps : (protocol : Protocol) → AreSteps protocol after_readers owners
owners-steps protocol = (
  refl,
  (lit< tt, refl, refl, refl),
  (
    refl,
    (lit< tt, refl, refl, refl, invalidates-few),
    (
      refl,
      (lit< tt, refl),
      (
        refl,
        (lit< tt, refl, refl, refl),
        (
          refl,
          (lit< tt, refl, refl, refl),
          (
            refl,
            (lit< tt, refl, refl, refl, λ y. refl),
            (
              refl,
              (lit< tt, refl, refl, refl),
              (
                refl,
                (lit< tt, refl, refl, refl, λ y. refl),
                (
                  refl,
                  (lit< tt, refl, refl, refl, to_one-few 2 (Grant true old) (lit< tt)),
                  (
                    refl,
                    (lit< tt, refl, refl, refl),
                    (
                      refl,
                      (lit< tt, old, refl, refl),
                      (
                        refl,
                        (lit< tt, refl, refl),
                        (
                          refl,
                          (lit< tt, refl, refl, refl, λ y. refl),
                          (
                            refl,
                            (lit< tt, refl, refl, refl, to_one-few 2 (Recall true) (lit< tt)),
                            (
                              refl,
                              (lit< tt, refl, refl, refl),
                              (
                                refl,
                                (lit< tt, refl, refl, refl, to_one-few 0 (Grant true new) (lit< tt)),
                                (
                                  refl,
                                  (lit< tt, refl, refl, refl),
                                  (
                                    refl,
                                    (lit< tt, refl, refl, refl, λ y. refl),
                                    tt,
                                  ),
                                ),
                              ),
                            ),
                          ),
                        ),
                      ),
                    ),
                  ),
                ),
              ),
            ),
          ),
        ),
      ),
    ),
  ),
)

leavers-steps : (protocol : Protocol) → AreSteps protocol after_owners leavers
leavers-steps protocol = (
  refl,
  (lit< tt, refl),
  (
    refl,
    (lit< tt, refl, refl, refl),
    (
      refl,
      (lit< tt, refl, refl, refl, to_one-few 0 (Recall false) (lit< tt)),
      (
        refl,
        (lit< tt, refl, refl, refl, λ y. refl),
        (
          refl,
          (lit< tt, refl, refl, refl),
          (
            refl,
            (lit< tt, refl, refl, refl, to_one-few 1 (Grant false new) (lit< tt)),
            (
              refl,
              (lit< tt, refl, refl, refl),
              (
                refl,
                (lit< tt, refl, refl, refl, λ y. refl),
                (
                  refl,
                  (lit< tt, refl, refl, refl, to_one-few 0 PutAck (lit< tt)),
                  (
                    refl,
                    (lit< tt, refl, refl, refl),
                    (
                      refl,
                      (lit< tt, refl, refl, refl),
                      (
                        refl,
                        (lit< tt, refl, refl, refl, to_one-few 1 (Grant true new) (lit< tt)),
                        (
                          refl,
                          (lit< tt, refl, refl, refl),
                          (
                            refl,
                            (lit< tt, refl, refl, refl, λ y. refl),
                            (
                              refl,
                              (lit< tt, refl),
                              (
                                refl,
                                (lit< tt, refl, refl, refl, to_one-few 1 PutAck (lit< tt)),
                                (
                                  refl,
                                  (lit< tt, refl, refl, refl),
                                  tt,
                                ),
                              ),
                            ),
                          ),
                        ),
                      ),
                    ),
                  ),
                ),
              ),
            ),
          ),
        ),
      ),
    ),
  ),
)

lenders-steps : (protocol : Protocol) → AreSteps protocol after_leavers lenders
lenders-steps protocol = (
  refl,
  (lit< tt, refl, refl, refl),
  (
    refl,
    (lit< tt, refl, refl, refl, to_one-few 2 (Grant true new) (lit< tt)),
    (
      refl,
      (lit< tt, refl, refl, refl),
      (
        refl,
        (lit< tt, refl, refl, refl, λ y. refl),
        (
          refl,
          (lit< tt, refl, refl, refl),
          (
            refl,
            (lit< tt, refl, refl, refl, to_one-few 2 (Recall false) (lit< tt)),
            (
              refl,
              (lit< tt, refl, refl, refl),
              (
                refl,
                (lit< tt, refl, refl, refl, to_one-few 0 (Grant false new) (lit< tt)),
                tt,
              ),
            ),
          ),
        ),
      ),
    ),
  ),
)

last_reader-steps : AreSteps Mesi after_lenders last_reader
last_reader-steps = (
  refl,
  (lit< tt, refl, refl, refl),
  (
    refl,
    (lit< tt, refl, refl, refl, λ y. refl),
    (
      refl,
      (lit< tt, refl, refl, refl),
      (
        refl,
        (lit< tt, refl, refl, refl, to_one-few 1 (Grant false new) (lit< tt)),
        tt,
      ),
    ),
  ),
)

pub walks-msi : WalksMsi
walks-msi =
    steps-lead Msi beginning msi_walk (steps-append Msi beginning (msi_readers ++ owners ++ leavers) lenders
    (steps-append Msi beginning (msi_readers ++ owners) leavers
    (steps-append Msi beginning msi_readers owners msi_readers-steps (owners-steps Msi))
    (leavers-steps Msi))
    (lenders-steps Msi))

pub walks-mesi : WalksMesi
walks-mesi =
    steps-lead Mesi beginning mesi_walk (steps-append Mesi beginning (mesi_readers ++ owners ++ leavers ++ lenders) last_reader
    (steps-append Mesi beginning (mesi_readers ++ owners ++ leavers) lenders
    (steps-append Mesi beginning (mesi_readers ++ owners) leavers
    (steps-append Mesi beginning mesi_readers owners mesi_readers-steps (owners-steps Mesi))
    (leavers-steps Mesi))
    (lenders-steps Mesi))
    last_reader-steps)
