use Rattle.std.proofs.Common.{◌∙◌, arith}
use Rattle.order_log.proofs.Lists.{items_of-same, HaveRoom-set, HaveRoom-more, HaveRoom-all}
use Rattle.order_log.proofs.waiting.reserve_each.Goals as goal

pub returns-in_err-reserve-clause-items : goal.returns-in_err-reserve-clause-items
returns-in_err-reserve-clause-items c =
    items_of-same c.loop-at.lists.items c.loop-at.at c.index_mut.result.now c.reserve.new.self c.index_mut.ensures.value c.reserve.ensures.items ∙ c.loop-at.invariant.items

pub returns-in_err-reserve-clause-kept : goal.returns-in_err-reserve-clause-kept
returns-in_err-reserve-clause-kept c = λ s had.
    HaveRoom-set s c.loop-at.lists.items c.loop-at.at c.index_mut.result.now c.reserve.new.self (let ok = c.loop-at.lists.ok.0 in omega arith) c.index_mut.ensures.value c.reserve.ensures.len c.reserve.ensures.capacity (c.loop-at.invariant.kept s had)

pub loop-at-preserved : goal.loop-at-preserved
loop-at-preserved c =
    record {
      len = omega arith;
      items = items_of-same c.loop-at.lists.items c.loop-at.at c.index_mut.result.now c.reserve.new.self c.index_mut.ensures.value c.reserve.ensures.items ∙ c.loop-at.invariant.items;
      room = HaveRoom-more c.args.n c.loop-at.lists.items c.loop-at.at c.reserve.new.self (let ok = c.loop-at.lists.ok.0 in omega arith) c.loop-at.invariant.room c.in_ok-reserve.ensures.ok;
      kept = λ s had.
          HaveRoom-set s c.loop-at.lists.items c.loop-at.at c.index_mut.result.now c.reserve.new.self (let ok = c.loop-at.lists.ok.0 in omega arith) c.index_mut.ensures.value c.reserve.ensures.len c.reserve.ensures.capacity (c.loop-at.invariant.kept s had);
    }

pub returns-clause-room : goal.returns-clause-room
returns-clause-room c =
    HaveRoom-all c.args.n c.loop-at.lists.items c.loop-at.at (let ok = c.loop-at.lists.ok.0 in omega arith) c.loop-at.invariant.room
