use Rattle.std.proofs.Common.{◌≡◌, ℕ, ◌≤◌, ◌++◌, [], append-nil, sym, ap, subst, ◌∙◌, arith}
use Rattle.directory.specs.Homes.{posts}
use Rattle.directory.specs.HomeParts.{posts_in}
use Rattle.directory.specs.Meanings.{sent_of, word_of}
use Rattle.directory.specs.declared.step.Sent.{Sent}
use Rattle.directory.proofs.Sending.{one-is-below, posts-none, posts-one}
use Rattle.directory.proofs.outgoing.Outgoing.send.Goals as goal

pub push-requires : goal.push-requires
push-requires c =
    let known = subst (λ (sent : Sent). (y : ℕ) → c.args.nodes ≤ y → sent_of sent y ≡ []) c.in-One.is c.requires.known in
    let below = one-is-below c.args.nodes c.in-One.to.0 (word_of c.in-One.word) known in
    let room = c.requires.room in
    omega (arith, below, room)

pub returns-in-Nothing : goal.returns-in-Nothing
returns-in-Nothing c =
    let of = λ (sent : Sent). posts_in c.args.self.now ++ posts c.args.nodes c.args.line.0 c.args.now (sent_of sent) in
    sym (ap of c.in-Nothing.is ∙ ap (λ ps. posts_in c.args.self.now ++ ps) (posts-none c.args.nodes c.args.line.0 c.args.now) ∙ append-nil (posts_in c.args.self.now))

pub returns-in-One : goal.returns-in-One
returns-in-One c =
    let known = subst (λ (sent : Sent). (y : ℕ) → c.args.nodes ≤ y → sent_of sent y ≡ []) c.in-One.is c.requires.known in
    let m = word_of c.in-One.word in
    let below = one-is-below c.args.nodes c.in-One.to.0 m known in
    let of = λ (sent : Sent). posts_in c.args.self.now ++ posts c.args.nodes c.args.line.0 c.args.now (sent_of sent) in
    c.push.ensures
    ∙ sym (ap of c.in-One.is ∙ ap (λ ps. posts_in c.args.self.now ++ ps) (posts-one c.args.nodes c.args.line.0 c.args.now c.in-One.to.0 m below))
