use Rattle.std.proofs.Common.{◌<◌, ℕ, Bool, refl, sym, subst, ◌∙◌}
use Rattle.coherent_memory.specs.FabricViews.{system_of}
use Rattle.coherent_memory.specs.Sending.{PostsOne}
use Rattle.coherent_memory.specs.Systems.{System}
use Rattle.coherent_memory.proofs.Posting.{posts-end, posts-shorter, posts-then}
use Rattle.coherent_memory.proofs.fabric.Fabric.send_posts.Goals as goal

pub loop-p-init : goal.loop-p-init
loop-p-init g c = record { count = refl; sends = λ w rest. rest }

pub send_post-requires : goal.send_post-requires
send_post-requires g c = record { node = subst (λ (n : ℕ). c.args.p.0 < n) (sym c.loop-p.invariant.count) c.requires.node }

pub loop-p-smaller : goal.loop-p-smaller
loop-p-smaller g c =
    let s : System = system_of g.C.Carrier.meaning c.loop-p.self in
    let t : System = system_of g.C.Carrier.meaning c.send_post.new.self in
    posts-shorter c.args.p.0 c.args.now s t (subst (λ (b : Bool). PostsOne c.args.p.0 c.args.now s t b) c.loop-p-test.true c.send_post.ensures.sent)

pub loop-p-preserved : goal.loop-p-preserved
loop-p-preserved g c =
    let s : System = system_of g.C.Carrier.meaning c.loop-p.self in
    let t : System = system_of g.C.Carrier.meaning c.send_post.new.self in
    record {
      count = c.send_post.ensures.count ∙ c.loop-p.invariant.count;
      sends = λ w rest. c.loop-p.invariant.sends w (posts-then c.args.p.0 c.args.now s t w (subst (λ (b : Bool). PostsOne c.args.p.0 c.args.now s t b) c.loop-p-test.true c.send_post.ensures.sent) rest);
    }

pub returns-clause-sent : goal.returns-clause-sent
returns-clause-sent g c =
    let s : System = system_of g.C.Carrier.meaning c.loop-p.self in
    let t : System = system_of g.C.Carrier.meaning c.send_post.new.self in
    c.loop-p.invariant.sends t (posts-end c.args.p.0 c.args.now s t (subst (λ (b : Bool). PostsOne c.args.p.0 c.args.now s t b) c.loop-p-test.false c.send_post.ensures.sent))

pub returns-clause-count : goal.returns-clause-count
returns-clause-count g c = c.send_post.ensures.count ∙ c.loop-p.invariant.count
