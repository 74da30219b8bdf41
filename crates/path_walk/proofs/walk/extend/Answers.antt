use Rattle.std.proofs.Common.{◌≤◌, length, arith}
use Rattle.path_walk.specs.declared.next.Next.TheVariants.{Long, Whole, Dead}
use Rattle.path_walk.specs.declared.step.Step.TheVariants.{Stuck, On, Parts}
use Rattle.path_walk.specs.Steps.{fork_of}
use Rattle.path_walk.proofs.Covers.{cover}
use Rattle.path_walk.proofs.Standing.{stands_begin, stands_on, node_of, chosen_at, long, whole, dead, parted, if_forked, if_covers}
use Rattle.path_walk.proofs.walk.extend.Goals as goal

pub going-init : goal.going-init
going-init c =
    stands_begin c.args.plan.now.program c.args.prefix.now c.args.room.now c.in_ok-list.list c.in_ok-free.free c.in_ok-left.left c.end_of-at.result c.in_ok-list.ensures c.in_ok-free.ensures c.end_of-at.ensures c.requires.kept c.in_ok-left.ensures

pub choose-requires-clause-node : goal.choose-requires-clause-node
choose-requires-clause-node c = node_of c.args.plan.now.program c.going.list c.going.at c.program.ensures.formed c.going.invariant.leads

pub returns-then-at-eq-EXIT-clause-covers : goal.returns-then-at-eq-EXIT-clause-covers
returns-then-at-eq-EXIT-clause-covers c =
    let short : length c.going.list ≤ 16384 = let test = c.going-test.true in let len = c.len.ensures in omega (arith, test, len) in
    cover c.args.plan.now.program c.args.prefix.now c.args.room.now (Whole c.going.list) (whole c.args.plan.now.program c.args.prefix.now c.args.room.now c.going.list c.going.free c.going.left c.going.at c.going.invariant short c.if-at-eq-EXIT.true)

pub returns-in-Stuck-clause-answers : goal.returns-in-Stuck-clause-answers
returns-in-Stuck-clause-answers c =
    let short : length c.going.list ≤ 16384 = let test = c.going-test.true in let len = c.len.ensures in omega (arith, test, len) in
    dead c.args.plan.now.program c.args.prefix.now c.args.room.now c.going.list c.going.free c.going.left c.going.at c.going.invariant short c.if-at-eq-EXIT.false (chosen_at c.args.plan.now.program c.as_slice.result.now c.going.free c.as_slice-in-going.result.now c.going.left c.going.at c.choose.result Stuck c.as_slice.ensures c.as_slice-in-going.ensures c.in-Stuck.is c.choose.ensures)

pub returns-in-Stuck-clause-covers : goal.returns-in-Stuck-clause-covers
returns-in-Stuck-clause-covers c =
    let short : length c.going.list ≤ 16384 = let test = c.going-test.true in let len = c.len.ensures in omega (arith, test, len) in
    cover c.args.plan.now.program c.args.prefix.now c.args.room.now (Dead c.going.list) (dead c.args.plan.now.program c.args.prefix.now c.args.room.now c.going.list c.going.free c.going.left c.going.at c.going.invariant short c.if-at-eq-EXIT.false (chosen_at c.args.plan.now.program c.as_slice.result.now c.going.free c.as_slice-in-going.result.now c.going.left c.going.at c.choose.result Stuck c.as_slice.ensures c.as_slice-in-going.ensures c.in-Stuck.is c.choose.ensures))

pub returns-in-Parts-clause-answers : goal.returns-in-Parts-clause-answers
returns-in-Parts-clause-answers c =
    let short : length c.going.list ≤ 16384 = let test = c.going-test.true in let len = c.len.ensures in omega (arith, test, len) in
    let answers = parted c.args.plan.now.program c.args.prefix.now c.args.room.now c.going.list c.going.free c.going.left c.going.at c.in-Parts.yes c.in-Parts.no c.going.invariant short (chosen_at c.args.plan.now.program c.as_slice.result.now c.going.free c.as_slice-in-going.result.now c.going.left c.going.at c.choose.result (Parts c.in-Parts.yes c.in-Parts.no) c.as_slice.ensures c.as_slice-in-going.ensures c.in-Parts.is c.choose.ensures) in
    if_forked c.args.plan.now.program c.args.prefix.now c.args.room.now (fork_of c.going.list c.in-Parts.yes c.in-Parts.no) c.fork.result answers c.fork.ensures

pub returns-in-Parts-clause-covers : goal.returns-in-Parts-clause-covers
returns-in-Parts-clause-covers c =
    let short : length c.going.list ≤ 16384 = let test = c.going-test.true in let len = c.len.ensures in omega (arith, test, len) in
    let answers = parted c.args.plan.now.program c.args.prefix.now c.args.room.now c.going.list c.going.free c.going.left c.going.at c.in-Parts.yes c.in-Parts.no c.going.invariant short (chosen_at c.args.plan.now.program c.as_slice.result.now c.going.free c.as_slice-in-going.result.now c.going.left c.going.at c.choose.result (Parts c.in-Parts.yes c.in-Parts.no) c.as_slice.ensures c.as_slice-in-going.ensures c.in-Parts.is c.choose.ensures) in
    if_covers c.args.plan.now.program c.args.prefix.now c.args.room.now (fork_of c.going.list c.in-Parts.yes c.in-Parts.no) c.fork.result answers c.fork.ensures

pub going-preserved : goal.going-preserved
going-preserved c =
    let short : length c.going.list ≤ 16384 = let test = c.going-test.true in let len = c.len.ensures in omega (arith, test, len) in
    stands_on c.args.plan.now.program c.args.prefix.now c.args.room.now c.going.list c.going.free c.going.left c.going.at c.in-On.e c.push.new.self c.take.new.room c.turn.new.left c.edge.result.now c.requires.rooms c.going.invariant short (chosen_at c.args.plan.now.program c.as_slice.result.now c.going.free c.as_slice-in-going.result.now c.going.left c.going.at c.choose.result (On c.in-On.e) c.as_slice.ensures c.as_slice-in-going.ensures c.in-On.is c.choose.ensures) c.in_ok-push-in-On.ensures.ok c.take.ensures c.turn.ensures c.edge.ensures

pub returns-clause-covers : goal.returns-clause-covers
returns-clause-covers c =
    let most = c.going-test.false in
    let len = c.len.ensures in
    cover c.args.plan.now.program c.args.prefix.now c.args.room.now (Long c.going.list) (long c.args.plan.now.program c.args.prefix.now c.args.room.now c.going.list c.going.free c.going.left c.going.at c.going.invariant (omega (arith, most, len)))
