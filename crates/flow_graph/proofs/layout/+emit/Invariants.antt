use Rattle.std.proofs.Common.{◌+◌, ◌*◌, max, ◌++◌, [], false, drop}
use Rattle.c_tree.specs.Meaning.Blocks.{list_blocks}
use Rattle.flow_laws.specs.Graphs.{copies}
use Rattle.flow_laws.specs.Sites.{list_size}
use Rattle.flow_graph.specs.Layout.{copies_above, position_at, lead_targets, list_spots, laid_out}
use Rattle.flow_graph.proofs.Layouts.Along.{Stands}
use Rattle.flow_graph.proofs.layout.+emit.Given as goal

-- what is laid out, and then the rest, is the whole
abbrev pub invariant-emit_list-loop-stmt : goal.invariant-emit_list-loop-stmt
invariant-emit_list-loop-stmt l =
    let all = copies [] l.scope.funcs.now in
    let cs = copies_above l.scope.funcs.now l.scope.func in
    let w = position_at l.scope.func l.scope.chain.now l.at.scale in
    Stands all cs w (lead_targets l.k) (drop l.stmt-index l.list) l.run l.block l.node l.left l.out (laid_out all l.initial.out ++ list_spots cs w l.list l.at.block l.at.node false (lead_targets l.k)) (l.at.node + list_size cs l.list false) (l.at.block + list_blocks l.list false)

-- a statement, below a list or a part that has it, below what has several

abbrev pub decreases-emit : goal.decreases-emit
decreases-emit l = 3 * goal.size-emit l

abbrev pub decreases-emit_list : goal.decreases-emit_list
decreases-emit_list l = 3 * goal.size-emit_list l + 1

abbrev pub decreases-emit_held : goal.decreases-emit_held
decreases-emit_held l = 3 * goal.size-emit_held l + 1

abbrev pub decreases-emit_do : goal.decreases-emit_do
decreases-emit_do l = 3 * goal.size-emit_do l + 2

abbrev pub decreases-emit_while : goal.decreases-emit_while
decreases-emit_while l = 3 * goal.size-emit_while l + 2

abbrev pub decreases-emit_if : goal.decreases-emit_if
decreases-emit_if l =
    let first = goal.size-emit_list (record { the-lifetimes = ([], ([], ([], tt {0}))); alloc = l.alloc; scope = l.scope; list = l.first; at = l.at; k = l.k; out = l.out }) in
    let second = goal.size-emit_list (record { the-lifetimes = ([], ([], ([], tt {0}))); alloc = l.alloc; scope = l.scope; list = l.second; at = l.at; k = l.k; out = l.out }) in
    3 * max first second + 2

abbrev pub decreases-emit_for : goal.decreases-emit_for
decreases-emit_for l =
    let first = goal.size-emit_held (record { the-lifetimes = ([], ([], ([], tt {0}))); alloc = l.alloc; scope = l.scope; part = l.first; at = l.at; k = l.k; out = l.out }) in
    let step = goal.size-emit_held (record { the-lifetimes = ([], ([], ([], tt {0}))); alloc = l.alloc; scope = l.scope; part = l.step; at = l.at; k = l.k; out = l.out }) in
    let body = goal.size-emit_list (record { the-lifetimes = ([], ([], ([], tt {0}))); alloc = l.alloc; scope = l.scope; list = l.body; at = l.at; k = l.k; out = l.out }) in
    3 * max (max first step) body + 2
