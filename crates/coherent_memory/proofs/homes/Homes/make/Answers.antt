use Rattle.std.proofs.Common.{◌≡◌, ℕ, ◌<◌, [], ◌∷◌, ◌++◌, List, length, rules, subst, sym, arith}
use Rattle.directory.specs.HomeViews.{home_of}
use Rattle.directory.specs.Homes.{HomeView}
use Rattle.directory.specs.Start.{IsStart}
use Rattle.directory.specs.declared.home.Home.{Home}
use Rattle.coherent_memory.specs.HomeRows.{no_home}
use Rattle.coherent_memory.specs.Rows.{rows_of}
use Rattle.coherent_memory.proofs.PartRows.{rows_of-more}
use Rattle.machine_config.specs.Sizes.{sizes_of}
use Rattle.coherent_memory.proofs.homes.Homes.make.Goals as goal

pub overflow_cast-p : goal.overflow_cast-p
overflow_cast-p c = omega (arith, (sizes_of c.args.config.now c.requires).processors.1)

pub loop-p-preserved : goal.loop-p-preserved
loop-p-preserved c =
    let list = c.loop-p.list.items in
    let home = c.in_ok-home.home in
    let count = c.loop-p.invariant.count in
    let pushed : c.push.new.self.items ≡ list ++ home ∷ [] = search rules in
    let P : ℕ → HomeView → Type 0 = λ q v. IsStart c.args.image.now c.args.config.now q v in
    let last : P (length list) (home_of home) = subst (λ (q : ℕ). P q (home_of home)) (sym count) c.in_ok-home.ensures.start in
    let all : (q : ℕ) → q < length (list ++ home ∷ []) → P q (rows_of home_of no_home (list ++ home ∷ []) q) = rows_of-more home_of no_home P list home c.loop-p.invariant.start last in
    record {
      count = search rules;
      start = subst (λ (hs : List Home). (q : ℕ) → q < length hs → P q (rows_of home_of no_home hs q)) (sym pushed) all;
    }
