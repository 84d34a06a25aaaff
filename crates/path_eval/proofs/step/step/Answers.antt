use Rattle.std.proofs.Common.{slice_get}
use Rattle.path_ast.specs.Terms.{Forward, Backward, Next, Previous}
use Rattle.label_scope.specs.Members.{Member}
use Rattle.plan_cache.specs.Operations.{GoesForward, GoesBackward, GoesNext, GoesPrevious, InTurn, OneOf}
use Rattle.path_eval.specs.Working.{WorksOutMember}
use Rattle.path_eval.proofs.Steps.{is_of, at_node, sequence_step, choice_step}
use Rattle.path_eval.proofs.Working.{axis_out}
use Rattle.path_eval.proofs.step.step.Goals as goal

pub returns-in-F : goal.returns-in-F
returns-in-F c =
    let on = c.args.ground.now in
    let made = c.args.made.now in
    let nodes = made.plans.now.nodes in
    let o = slice_get nodes c.args.no.0 in
    let a = c.scopes.result.0.now in
    let b = c.scopes.result.1.now in
    at_node nodes o GoesForward a b (λ (m : Member). WorksOutMember on c.along_edges.result m) (is_of nodes o GoesForward a b (rw c.in-F.is at c.op.ensures) c.scopes.ensures)
    (axis_out on.graph.now on.max_rows c.requires.good Forward a b c.along_edges.result c.along_edges.ensures)

pub returns-in-B : goal.returns-in-B
returns-in-B c =
    let on = c.args.ground.now in
    let made = c.args.made.now in
    let nodes = made.plans.now.nodes in
    let o = slice_get nodes c.args.no.0 in
    let a = c.scopes.result.0.now in
    let b = c.scopes.result.1.now in
    at_node nodes o GoesBackward a b (λ (m : Member). WorksOutMember on c.along_edges-in-B.result m) (is_of nodes o GoesBackward a b (rw c.in-B.is at c.op.ensures) c.scopes.ensures)
    (axis_out on.graph.now on.max_rows c.requires.good Backward a b c.along_edges-in-B.result c.along_edges-in-B.ensures)

pub returns-in-N : goal.returns-in-N
returns-in-N c =
    let on = c.args.ground.now in
    let made = c.args.made.now in
    let nodes = made.plans.now.nodes in
    let o = slice_get nodes c.args.no.0 in
    let a = c.scopes.result.0.now in
    let b = c.scopes.result.1.now in
    at_node nodes o GoesNext a b (λ (m : Member). WorksOutMember on c.in_time.result m) (is_of nodes o GoesNext a b (rw c.in-N.is at c.op.ensures) c.scopes.ensures)
    (axis_out on.graph.now on.max_rows c.requires.good Next a b c.in_time.result c.in_time.ensures)

pub returns-in-P : goal.returns-in-P
returns-in-P c =
    let on = c.args.ground.now in
    let made = c.args.made.now in
    let nodes = made.plans.now.nodes in
    let o = slice_get nodes c.args.no.0 in
    let a = c.scopes.result.0.now in
    let b = c.scopes.result.1.now in
    at_node nodes o GoesPrevious a b (λ (m : Member). WorksOutMember on c.in_time-in-P.result m) (is_of nodes o GoesPrevious a b (rw c.in-P.is at c.op.ensures) c.scopes.ensures)
    (axis_out on.graph.now on.max_rows c.requires.good Previous a b c.in_time-in-P.result c.in_time-in-P.ensures)

pub returns-in-Seq : goal.returns-in-Seq
returns-in-Seq c =
    let on = c.args.ground.now in
    let made = c.args.made.now in
    let nodes = made.plans.now.nodes in
    let o = slice_get nodes c.args.no.0 in
    let a = c.scopes.result.0.now in
    let b = c.scopes.result.1.now in
    let x = c.in-Seq.first.0 in
    let y = c.in-Seq.second.0 in
    sequence_step on.graph.now on.max_rows c.requires.good nodes made.relations.now o x y a b (is_of nodes o (InTurn x y) a b (rw c.in-Seq.is at c.op.ensures) c.scopes.ensures) c.requires.parts
    c.relation_of-before.result.now c.relation_of-after.result.now c.relation_of-before.ensures c.relation_of-after.ensures c.compose.result c.compose.ensures

pub returns-in-Alt : goal.returns-in-Alt
returns-in-Alt c =
    let on = c.args.ground.now in
    let made = c.args.made.now in
    let nodes = made.plans.now.nodes in
    let o = slice_get nodes c.args.no.0 in
    let a = c.scopes.result.0.now in
    let b = c.scopes.result.1.now in
    let x = c.in-Alt.one.0 in
    let y = c.in-Alt.other.0 in
    choice_step on.graph.now on.max_rows c.requires.good nodes made.relations.now o x y a b (is_of nodes o (OneOf x y) a b (rw c.in-Alt.is at c.op.ensures) c.scopes.ensures) c.requires.parts
    c.relation_of-by_one.result.now c.relation_of-by_other.result.now c.relation_of-by_one.ensures c.relation_of-by_other.ensures c.union.result c.union.ensures
