use Rattle.std.proofs.Common.{◌≡◌, sym, ap, subst, ◌∙◌}
use Rattle.directory.specs.HomeViews.{home_of}
use Rattle.directory.specs.Homes.{HomeView, Serves}
use Rattle.coherent_memory.specs.HomeRows.{homes_in, no_home}
use Rattle.coherent_memory.proofs.PartRows.{rows_of-at, rows_of-set}
use Rattle.coherent_memory.proofs.homes.Homes.serve.Goals as goal

pub returns-clause-serves : goal.returns-clause-serves
returns-clause-serves c =
    let homes = c.args.self.now.list.items in
    let home = c.next_waiting.new.self in
    let was : homes_in c.args.self.now c.args.p.0 ≡ home_of c.index_mut-home.result.now =
    rows_of-at home_of no_home homes c.args.p.0 c.index_mut-home.result.now c.requires.node ∙ ap home_of (sym c.index_mut-home.ensures.value) in (
      home_of home,
      subst (λ (v : HomeView). Serves c.args.line.0 c.args.now v (home_of home) c.next_waiting.result) (sym was) c.next_waiting.ensures.serves,
      rows_of-set home_of no_home homes c.args.p.0 home c.requires.node,
    )
