use Rattle.std.proofs.Common.{suc, Some, None, Err, ap, ◌∙◌, sym, arith}
use Rattle.std.proofs.lemmas.Result.{err_from_is_err_and}
use Rattle.script_lex.specs.declared.mark.Mark.TheVariants.{Plus, Slash, ParenR}
use Rattle.path_ast.specs.Terms.{PathTerm, TestTerm, path_term, test_term, OfTest, Condition, Negation, Choice, Sequence, Disjunction, Conjunction}
use Rattle.match_parser.specs.declared.words.Keyword.TheVariants.{Or}
use Rattle.match_parser.specs.Words.{keyword_text}
use Rattle.match_parser.specs.Heads.{is_mark, is_word, is_both}
use Rattle.match_parser.specs.Parsing.{Found, then_read, chosen, closed, repeated, rep_by, alt_at, seq_at, rep_at, atom_at, or_at, and_at, unary_at, prim_at}
use Rattle.match_parser.specs.Gives.{lexemes, seen, left}
use Rattle.match_parser.proofs.Lists.{comes_on, begins, goes_on, ends}
use Rattle.match_parser.proofs.Rules.{alts_is, seqs_is, ors_is, ands_is, reps_is}
use Rattle.match_parser.proofs.Steps.{first_err, next_err, gives_on, gives_as, then_err, chosen_err, closed_ok, closed_err, atom_label, atom_brace, atom_ask, atom_group, atom_step, unary_not, unary_plain, prim_ask, prim_group, prim_fact}
use Rattle.match_parser.proofs.paths_and_tests.+paths_and_tests.Goals as goal

pub alt-returns-in_err-path-clause-gives : goal.alt-returns-in_err-path-clause-gives
alt-returns-in_err-path-clause-gives t c =
    let p = err_from_is_err_and c.from_residual.result c.from_residual.ensures.1 in
    rw (p.1, p.2) (gives_on (seen path_term) (Err c.in_err-path.field-0.0) alt_at 3 (lexemes c.args.tokens.now) (first_err (is_mark Plus) Choice seq_at seq_at (λ x. x) (λ m. alt_at (suc m)) alts_is 3 (seen path_term) (seen path_term) (lexemes c.args.tokens.now) c.in_err-path.field-0.0 c.in_err-path.ensures.gives))

pub alt-loop-tail-init : goal.alt-loop-tail-init
alt-loop-tail-init t c = begins (is_mark Plus) Choice seq_at seq_at (λ x. x) (λ m. alt_at (suc m)) alts_is 3 (lexemes c.args.tokens.now) (lexemes c.in_ok-path.rest.now) (path_term c.in_ok-path.path) c.in_ok-path.ensures.shorter c.in_ok-path.ensures.gives

pub alt-returns-in_err-next-clause-gives : goal.alt-returns-in_err-next-clause-gives
alt-returns-in_err-next-clause-gives t c =
    let p = err_from_is_err_and c.from_residual-in_err-next.result c.from_residual-in_err-next.ensures.1 in
    rw (p.1, p.2) (gives_on (seen path_term) (Err c.in_err-next.field-0.0) alt_at 3 (lexemes c.args.tokens.now) (next_err (is_mark Plus) Choice seq_at seq_at (λ x. x) (λ m. alt_at (suc m)) alts_is 3 (seen path_term) (seen path_term) (lexemes c.args.tokens.now) (lexemes c.loop-tail.rest.now) (lexemes c.in-Some.tail.now) (path_term c.loop-tail.path) c.in_err-next.field-0.0 c.loop-tail.invariant (sym c.in-Some.ensures.front) c.in-Some.ensures.shorter c.in_err-next.ensures.gives))

pub alt-loop-tail-preserved : goal.alt-loop-tail-preserved
alt-loop-tail-preserved t c = rw c.in_ok-path-2.ensures
    (goes_on (is_mark Plus) Choice seq_at seq_at (λ x. x) (λ m. alt_at (suc m)) alts_is 3 (lexemes c.args.tokens.now) (lexemes c.loop-tail.rest.now) (lexemes c.in-Some.tail.now) (lexemes c.in_ok-next.after.now) (path_term c.loop-tail.path) (path_term c.in_ok-next.next) c.loop-tail.invariant (sym c.in-Some.ensures.front) (omega (arith, c.in_ok-next.ensures.shorter, c.in-Some.ensures.shorter)) c.in-Some.ensures.shorter c.in_ok-next.ensures.gives)

pub alt-returns-clause-gives : goal.alt-returns-clause-gives
alt-returns-clause-gives t c = comes_on alt_at 3 (lexemes c.args.tokens.now) _ (ends (is_mark Plus) Choice seq_at seq_at (λ x. x) (λ m. alt_at (suc m)) alts_is 3 (lexemes c.args.tokens.now) (lexemes c.loop-tail.rest.now) (path_term c.loop-tail.path) c.loop-tail.invariant (sym c.in_default.ensures.front))

pub seq-returns-in_err-path-clause-gives : goal.seq-returns-in_err-path-clause-gives
seq-returns-in_err-path-clause-gives t c =
    let p = err_from_is_err_and c.from_residual.result c.from_residual.ensures.1 in
    rw (p.1, p.2) (gives_on (seen path_term) (Err c.in_err-path.field-0.0) seq_at 2 (lexemes c.args.tokens.now) (first_err (is_mark Slash) Sequence rep_at rep_at (λ x. x) (λ m. seq_at (suc m)) seqs_is 2 (seen path_term) (seen path_term) (lexemes c.args.tokens.now) c.in_err-path.field-0.0 c.in_err-path.ensures.gives))

pub seq-loop-tail-init : goal.seq-loop-tail-init
seq-loop-tail-init t c = begins (is_mark Slash) Sequence rep_at rep_at (λ x. x) (λ m. seq_at (suc m)) seqs_is 2 (lexemes c.args.tokens.now) (lexemes c.in_ok-path.rest.now) (path_term c.in_ok-path.path) c.in_ok-path.ensures.shorter c.in_ok-path.ensures.gives

pub seq-returns-in_err-next-clause-gives : goal.seq-returns-in_err-next-clause-gives
seq-returns-in_err-next-clause-gives t c =
    let p = err_from_is_err_and c.from_residual-in_err-next.result c.from_residual-in_err-next.ensures.1 in
    rw (p.1, p.2) (gives_on (seen path_term) (Err c.in_err-next.field-0.0) seq_at 2 (lexemes c.args.tokens.now) (next_err (is_mark Slash) Sequence rep_at rep_at (λ x. x) (λ m. seq_at (suc m)) seqs_is 2 (seen path_term) (seen path_term) (lexemes c.args.tokens.now) (lexemes c.loop-tail.rest.now) (lexemes c.in-Some.tail.now) (path_term c.loop-tail.path) c.in_err-next.field-0.0 c.loop-tail.invariant (sym c.in-Some.ensures.front) c.in-Some.ensures.shorter c.in_err-next.ensures.gives))

pub seq-loop-tail-preserved : goal.seq-loop-tail-preserved
seq-loop-tail-preserved t c = rw c.in_ok-path-2.ensures
    (goes_on (is_mark Slash) Sequence rep_at rep_at (λ x. x) (λ m. seq_at (suc m)) seqs_is 2 (lexemes c.args.tokens.now) (lexemes c.loop-tail.rest.now) (lexemes c.in-Some.tail.now) (lexemes c.in_ok-next.after.now) (path_term c.loop-tail.path) (path_term c.in_ok-next.next) c.loop-tail.invariant (sym c.in-Some.ensures.front) (omega (arith, c.in_ok-next.ensures.shorter, c.in-Some.ensures.shorter)) c.in-Some.ensures.shorter c.in_ok-next.ensures.gives)

pub seq-returns-clause-gives : goal.seq-returns-clause-gives
seq-returns-clause-gives t c = comes_on seq_at 2 (lexemes c.args.tokens.now) _ (ends (is_mark Slash) Sequence rep_at rep_at (λ x. x) (λ m. seq_at (suc m)) seqs_is 2 (lexemes c.args.tokens.now) (lexemes c.loop-tail.rest.now) (path_term c.loop-tail.path) c.loop-tail.invariant (sym c.in_default.ensures.front))

pub or-returns-in_err-test-clause-gives : goal.or-returns-in_err-test-clause-gives
or-returns-in_err-test-clause-gives t c =
    let p = err_from_is_err_and c.from_residual.result c.from_residual.ensures.1 in
    rw (p.1, p.2) (gives_on (seen test_term) (Err c.in_err-test.field-0.0) or_at 3 (lexemes c.args.tokens.now) (first_err (is_word (keyword_text Or)) Disjunction and_at and_at (λ x. x) (λ m. or_at (suc m)) ors_is 3 (seen test_term) (seen test_term) (lexemes c.args.tokens.now) c.in_err-test.field-0.0 c.in_err-test.ensures.gives))

pub or-loop-tail-init : goal.or-loop-tail-init
or-loop-tail-init t c = begins (is_word (keyword_text Or)) Disjunction and_at and_at (λ x. x) (λ m. or_at (suc m)) ors_is 3 (lexemes c.args.tokens.now) (lexemes c.in_ok-test.rest.now) (test_term c.in_ok-test.test) c.in_ok-test.ensures.shorter c.in_ok-test.ensures.gives

pub or-returns-in_err-next-clause-gives : goal.or-returns-in_err-next-clause-gives
or-returns-in_err-next-clause-gives t c =
    let p = err_from_is_err_and c.from_residual-in_err-next.result c.from_residual-in_err-next.ensures.1 in
    rw (p.1, p.2) (gives_on (seen test_term) (Err c.in_err-next.field-0.0) or_at 3 (lexemes c.args.tokens.now) (next_err (is_word (keyword_text Or)) Disjunction and_at and_at (λ x. x) (λ m. or_at (suc m)) ors_is 3 (seen test_term) (seen test_term) (lexemes c.args.tokens.now) (lexemes c.loop-tail.rest.now) (lexemes c.in-Some.tail.now) (test_term c.loop-tail.test) c.in_err-next.field-0.0 c.loop-tail.invariant (sym c.in-Some.ensures.front) c.in-Some.ensures.shorter c.in_err-next.ensures.gives))

pub or-loop-tail-preserved : goal.or-loop-tail-preserved
or-loop-tail-preserved t c = rw c.in_ok-test-2.ensures
    (goes_on (is_word (keyword_text Or)) Disjunction and_at and_at (λ x. x) (λ m. or_at (suc m)) ors_is 3 (lexemes c.args.tokens.now) (lexemes c.loop-tail.rest.now) (lexemes c.in-Some.tail.now) (lexemes c.in_ok-next.after.now) (test_term c.loop-tail.test) (test_term c.in_ok-next.next) c.loop-tail.invariant (sym c.in-Some.ensures.front) (omega (arith, c.in_ok-next.ensures.shorter, c.in-Some.ensures.shorter)) c.in-Some.ensures.shorter c.in_ok-next.ensures.gives)

pub or-returns-clause-gives : goal.or-returns-clause-gives
or-returns-clause-gives t c = comes_on or_at 3 (lexemes c.args.tokens.now) _ (ends (is_word (keyword_text Or)) Disjunction and_at and_at (λ x. x) (λ m. or_at (suc m)) ors_is 3 (lexemes c.args.tokens.now) (lexemes c.loop-tail.rest.now) (test_term c.loop-tail.test) c.loop-tail.invariant (sym c.in_default.ensures.front))

pub and-returns-in_err-test-clause-gives : goal.and-returns-in_err-test-clause-gives
and-returns-in_err-test-clause-gives t c =
    let p = err_from_is_err_and c.from_residual.result c.from_residual.ensures.1 in
    rw (p.1, p.2) (gives_on (seen test_term) (Err c.in_err-test.field-0.0) and_at 2 (lexemes c.args.tokens.now) (first_err is_both Conjunction unary_at unary_at (λ x. x) (λ m. and_at (suc m)) ands_is 2 (seen test_term) (seen test_term) (lexemes c.args.tokens.now) c.in_err-test.field-0.0 c.in_err-test.ensures.gives))

pub and-loop-tail-init : goal.and-loop-tail-init
and-loop-tail-init t c = begins is_both Conjunction unary_at unary_at (λ x. x) (λ m. and_at (suc m)) ands_is 2 (lexemes c.args.tokens.now) (lexemes c.in_ok-test.rest.now) (test_term c.in_ok-test.test) c.in_ok-test.ensures.shorter c.in_ok-test.ensures.gives

pub and-returns-in_err-next-clause-gives : goal.and-returns-in_err-next-clause-gives
and-returns-in_err-next-clause-gives t c =
    let p = err_from_is_err_and c.from_residual-in_err-next.result c.from_residual-in_err-next.ensures.1 in
    rw (p.1, p.2) (gives_on (seen test_term) (Err c.in_err-next.field-0.0) and_at 2 (lexemes c.args.tokens.now) (next_err is_both Conjunction unary_at unary_at (λ x. x) (λ m. and_at (suc m)) ands_is 2 (seen test_term) (seen test_term) (lexemes c.args.tokens.now) (lexemes c.loop-tail.rest.now) (lexemes c.in-Some.tail.now) (test_term c.loop-tail.test) c.in_err-next.field-0.0 c.loop-tail.invariant (sym c.in-Some.ensures.front) c.in-Some.ensures.shorter c.in_err-next.ensures.gives))

pub and-loop-tail-preserved : goal.and-loop-tail-preserved
and-loop-tail-preserved t c = rw c.in_ok-test-2.ensures
    (goes_on is_both Conjunction unary_at unary_at (λ x. x) (λ m. and_at (suc m)) ands_is 2 (lexemes c.args.tokens.now) (lexemes c.loop-tail.rest.now) (lexemes c.in-Some.tail.now) (lexemes c.in_ok-next.after.now) (test_term c.loop-tail.test) (test_term c.in_ok-next.next) c.loop-tail.invariant (sym c.in-Some.ensures.front) (omega (arith, c.in_ok-next.ensures.shorter, c.in-Some.ensures.shorter)) c.in-Some.ensures.shorter c.in_ok-next.ensures.gives)

pub and-returns-clause-gives : goal.and-returns-clause-gives
and-returns-clause-gives t c = comes_on and_at 2 (lexemes c.args.tokens.now) _ (ends is_both Conjunction unary_at unary_at (λ x. x) (λ m. and_at (suc m)) ands_is 2 (lexemes c.args.tokens.now) (lexemes c.loop-tail.rest.now) (test_term c.loop-tail.test) c.loop-tail.invariant (sym c.in_default.ensures.front))

pub atom-returns-in_err-test-clause-gives : goal.atom-returns-in_err-test-clause-gives
atom-returns-in_err-test-clause-gives t c =
    let p = err_from_is_err_and c.from_residual.result c.from_residual.ensures.1 in
    rw (p.1, p.2) (gives_on (seen path_term) (Err c.in_err-test.field-0.0) atom_at 0 (lexemes c.args.tokens.now) (λ m h. gives_as (seen path_term) (Err c.in_err-test.field-0.0) _ _ (atom_label (lexemes c.args.tokens.now) (lexemes c.in-Some.rest.now) m c.in-Some.ensures.front) (then_err (seen test_term) (seen path_term) c.in_err-test.field-0.0 _ _ c.in_err-test.ensures.gives)))

pub atom-returns-in-Some-clause-gives : goal.atom-returns-in-Some-clause-gives
atom-returns-in-Some-clause-gives t c =
    rw c.in_ok-of_test.ensures (comes_on atom_at 0 (lexemes c.args.tokens.now) _ (λ m h. atom_label (lexemes c.args.tokens.now) (lexemes c.in-Some.rest.now) m c.in-Some.ensures.front ∙ ap (λ o. then_read o (λ d after. let r : Found PathTerm = Some (OfTest d, after) in r)) c.in_ok-test.ensures.gives))

pub atom-returns-in_err-test-2-clause-gives : goal.atom-returns-in_err-test-2-clause-gives
atom-returns-in_err-test-2-clause-gives t c =
    let p = err_from_is_err_and c.from_residual-in_err-test-2.result c.from_residual-in_err-test-2.ensures.1 in
    rw (p.1, p.2) (gives_on (seen path_term) (Err c.in_err-test-2.field-0.0) atom_at 0 (lexemes c.args.tokens.now) (λ m h. gives_as (seen path_term) (Err c.in_err-test-2.field-0.0) _ _ (atom_brace (lexemes c.args.tokens.now) (lexemes c.in-Some-skip_mark.rest.now) m c.in_default.ensures.front c.in-Some-skip_mark.ensures.front) (then_err (seen test_term) (seen path_term) c.in_err-test-2.field-0.0 _ _ (c.in_err-test-2.ensures.gives m (omega (arith, h, c.in-Some-skip_mark.ensures.shorter))))))

pub atom-returns-in-Some-skip_mark-clause-gives : goal.atom-returns-in-Some-skip_mark-clause-gives
atom-returns-in-Some-skip_mark-clause-gives t c =
    rw c.in_ok-of_test-2.ensures (comes_on atom_at 0 (lexemes c.args.tokens.now) _ (λ m h. atom_brace (lexemes c.args.tokens.now) (lexemes c.in-Some-skip_mark.rest.now) m c.in_default.ensures.front c.in-Some-skip_mark.ensures.front ∙ ap (λ o. then_read o (λ d after. let r : Found PathTerm = Some (OfTest d, after) in r)) (c.in_ok-test-2.ensures.gives m (omega (arith, h, c.in-Some-skip_mark.ensures.shorter)))))

pub atom-returns-in_err-path-clause-gives : goal.atom-returns-in_err-path-clause-gives
atom-returns-in_err-path-clause-gives t c =
    let p = err_from_is_err_and c.from_residual-in_err-path.result c.from_residual-in_err-path.ensures.1 in
    rw (p.1, p.2) (gives_on (seen path_term) (Err c.in_err-path.field-0.0) atom_at 0 (lexemes c.args.tokens.now) (λ m h. gives_as (seen path_term) (Err c.in_err-path.field-0.0) _ _ (atom_ask (lexemes c.args.tokens.now) (lexemes c.in-Some-skip_mark-2.rest.now) m c.in_default.ensures.front c.in_default-skip_mark.ensures.front c.in-Some-skip_mark-2.ensures.front) (then_err (seen path_term) (seen path_term) c.in_err-path.field-0.0 _ _ (c.in_err-path.ensures.gives m (omega (arith, h, c.in-Some-skip_mark-2.ensures.shorter))))))

pub atom-returns-in-Some-skip_mark-2-clause-gives : goal.atom-returns-in-Some-skip_mark-2-clause-gives
atom-returns-in-Some-skip_mark-2-clause-gives t c =
    rw (c.in_ok-of_test-3.ensures, c.in_ok-test-3.ensures) (comes_on atom_at 0 (lexemes c.args.tokens.now) _ (λ m h. atom_ask (lexemes c.args.tokens.now) (lexemes c.in-Some-skip_mark-2.rest.now) m c.in_default.ensures.front c.in_default-skip_mark.ensures.front c.in-Some-skip_mark-2.ensures.front ∙ ap (λ o. then_read o (λ q after. let r : Found PathTerm = Some (OfTest (Condition q), after) in r)) (c.in_ok-path.ensures.gives m (omega (arith, h, c.in-Some-skip_mark-2.ensures.shorter)))))

pub atom-returns-in-Some-skip_mark-3-clause-gives : goal.atom-returns-in-Some-skip_mark-3-clause-gives
atom-returns-in-Some-skip_mark-3-clause-gives t c =
    gives_on (seen path_term) c.group.result atom_at 0 (lexemes c.args.tokens.now) (λ m h. gives_as (seen path_term) c.group.result _ _ (atom_group (lexemes c.args.tokens.now) (lexemes c.in-Some-skip_mark-3.rest.now) m c.in_default.ensures.front c.in_default-skip_mark.ensures.front c.in_default-skip_mark-2.ensures.front c.in-Some-skip_mark-3.ensures.front) (c.group.ensures.gives m (omega (arith, h, c.in-Some-skip_mark-3.ensures.shorter))))

pub atom-returns-clause-gives : goal.atom-returns-clause-gives
atom-returns-clause-gives t c =
    gives_on (seen path_term) c.step.result atom_at 0 (lexemes c.args.tokens.now) (λ m h. gives_as (seen path_term) c.step.result _ _ (atom_step (lexemes c.args.tokens.now) m c.in_default.ensures.front c.in_default-skip_mark.ensures.front c.in_default-skip_mark-2.ensures.front c.in_default-skip_mark-3.ensures.front) c.step.ensures.gives)

pub group-returns-in_err-path-clause-gives : goal.group-returns-in_err-path-clause-gives
group-returns-in_err-path-clause-gives t c = λ n h.
    let p = err_from_is_err_and c.from_residual.result c.from_residual.ensures.1 in
    rw (p.1, p.2) (then_err (seen path_term) (seen path_term) c.in_err-path.field-0.0 _ _ (c.in_err-path.ensures.gives n h))

pub group-returns-in_err-rest-clause-gives : goal.group-returns-in_err-rest-clause-gives
group-returns-in_err-rest-clause-gives t c = λ n h.
    let p = err_from_is_err_and c.from_residual-in_err-rest.result c.from_residual-in_err-rest.ensures.1 in
    rw (p.1, p.2) (closed_err left (seen path_term) ParenR (alt_at n (lexemes c.args.tokens.now)) (path_term c.in_ok-path.path) (lexemes c.in_ok-path.rest.now) c.in_err-rest.field-0.0 (c.in_ok-path.ensures.gives n h) c.in_err-rest.ensures.front)

pub group-returns-clause-gives : goal.group-returns-clause-gives
group-returns-clause-gives t c = λ n h.
    closed_ok ParenR (alt_at n (lexemes c.args.tokens.now)) (path_term c.in_ok-path.path) (lexemes c.in_ok-path.rest.now) (lexemes c.in_ok-rest.rest.now) (c.in_ok-path.ensures.gives n h) c.in_ok-rest.ensures.front

pub tests-returns-in_err-test-clause-gives : goal.tests-returns-in_err-test-clause-gives
tests-returns-in_err-test-clause-gives t c = λ n h.
    let p = err_from_is_err_and c.from_residual.result c.from_residual.ensures.1 in
    rw (p.1, p.2) (then_err (seen test_term) (seen test_term) c.in_err-test.field-0.0 _ _ (c.in_err-test.ensures.gives n h))

pub tests-returns-in_err-rest-clause-gives : goal.tests-returns-in_err-rest-clause-gives
tests-returns-in_err-rest-clause-gives t c = λ n h.
    let p = err_from_is_err_and c.from_residual-in_err-rest.result c.from_residual-in_err-rest.ensures.1 in
    rw (p.1, p.2) (closed_err left (seen test_term) c.args.close (or_at n (lexemes c.args.tokens.now)) (test_term c.in_ok-test.test) (lexemes c.in_ok-test.rest.now) c.in_err-rest.field-0.0 (c.in_ok-test.ensures.gives n h) c.in_err-rest.ensures.front)

pub tests-returns-clause-gives : goal.tests-returns-clause-gives
tests-returns-clause-gives t c = λ n h.
    closed_ok c.args.close (or_at n (lexemes c.args.tokens.now)) (test_term c.in_ok-test.test) (lexemes c.in_ok-test.rest.now) (lexemes c.in_ok-rest.rest.now) (c.in_ok-test.ensures.gives n h) c.in_ok-rest.ensures.front

pub asked-returns-in_err-rest-clause-gives : goal.asked-returns-in_err-rest-clause-gives
asked-returns-in_err-rest-clause-gives t c = λ n h.
    let p = err_from_is_err_and c.from_residual.result c.from_residual.ensures.1 in
    rw (p.1, p.2) (chosen_err left (seen path_term) c.in_err-rest.field-0.0 _ _ c.in_err-rest.ensures.front)

pub asked-returns-clause-gives : goal.asked-returns-clause-gives
asked-returns-clause-gives t c = λ n h.
    gives_as (seen path_term) c.group.result _ _ (ap (λ o. chosen o (λ r. closed ParenR (alt_at n r)) None) c.in_ok-rest.ensures.front) (c.group.ensures.gives n (omega (arith, h, c.in_ok-rest.ensures.shorter)))

pub unary-returns-in_err-test-clause-gives : goal.unary-returns-in_err-test-clause-gives
unary-returns-in_err-test-clause-gives t c =
    let p = err_from_is_err_and c.from_residual.result c.from_residual.ensures.1 in
    rw (p.1, p.2) (gives_on (seen test_term) (Err c.in_err-test.field-0.0) unary_at 1 (lexemes c.args.tokens.now) (λ m h. gives_as (seen test_term) (Err c.in_err-test.field-0.0) _ _ (unary_not (lexemes c.args.tokens.now) (lexemes c.in-Some.rest.now) m c.in-Some.ensures.front) (then_err (seen test_term) (seen test_term) c.in_err-test.field-0.0 _ _ (c.in_err-test.ensures.gives m (omega (arith, h, c.in-Some.ensures.shorter))))))

pub unary-returns-in-Some-clause-gives : goal.unary-returns-in-Some-clause-gives
unary-returns-in-Some-clause-gives t c =
    rw c.in_ok-negation.ensures (comes_on unary_at 1 (lexemes c.args.tokens.now) _ (λ m h. unary_not (lexemes c.args.tokens.now) (lexemes c.in-Some.rest.now) m c.in-Some.ensures.front ∙ ap (λ o. then_read o (λ d after. let r : Found TestTerm = Some (Negation d, after) in r)) (c.in_ok-test.ensures.gives m (omega (arith, h, c.in-Some.ensures.shorter)))))

pub unary-returns-clause-gives : goal.unary-returns-clause-gives
unary-returns-clause-gives t c =
    gives_on (seen test_term) c.prim-2.result unary_at 1 (lexemes c.args.tokens.now) (λ m h. gives_as (seen test_term) c.prim-2.result _ _ (unary_plain (lexemes c.args.tokens.now) m c.in_default.ensures.front) (c.prim-2.ensures.gives m h))

pub prim-returns-in_err-path-clause-gives : goal.prim-returns-in_err-path-clause-gives
prim-returns-in_err-path-clause-gives t c =
    let p = err_from_is_err_and c.from_residual.result c.from_residual.ensures.1 in
    rw (p.1, p.2) (gives_on (seen test_term) (Err c.in_err-path.field-0.0) prim_at 0 (lexemes c.args.tokens.now) (λ m h. gives_as (seen test_term) (Err c.in_err-path.field-0.0) _ _ (prim_ask (lexemes c.args.tokens.now) (lexemes c.in-Some.rest.now) m c.in-Some.ensures.front) (then_err (seen path_term) (seen test_term) c.in_err-path.field-0.0 _ _ (c.in_err-path.ensures.gives m (omega (arith, h, c.in-Some.ensures.shorter))))))

pub prim-returns-in-Some-clause-gives : goal.prim-returns-in-Some-clause-gives
prim-returns-in-Some-clause-gives t c =
    rw c.in_ok-condition.ensures (comes_on prim_at 0 (lexemes c.args.tokens.now) _ (λ m h. prim_ask (lexemes c.args.tokens.now) (lexemes c.in-Some.rest.now) m c.in-Some.ensures.front ∙ ap (λ o. then_read o (λ q after. let r : Found TestTerm = Some (Condition q, after) in r)) (c.in_ok-path.ensures.gives m (omega (arith, h, c.in-Some.ensures.shorter)))))

pub prim-returns-in-Some-skip_mark-clause-gives : goal.prim-returns-in-Some-skip_mark-clause-gives
prim-returns-in-Some-skip_mark-clause-gives t c =
    gives_on (seen test_term) c.tests.result prim_at 0 (lexemes c.args.tokens.now) (λ m h. gives_as (seen test_term) c.tests.result _ _ (prim_group (lexemes c.args.tokens.now) (lexemes c.in-Some-skip_mark.rest.now) m c.in_default.ensures.front c.in-Some-skip_mark.ensures.front) (c.tests.ensures.gives m (omega (arith, h, c.in-Some-skip_mark.ensures.shorter))))

pub prim-returns-clause-gives : goal.prim-returns-clause-gives
prim-returns-clause-gives t c =
    gives_on (seen test_term) c.fact.result prim_at 0 (lexemes c.args.tokens.now) (λ m h. gives_as (seen test_term) c.fact.result _ _ (prim_fact (lexemes c.args.tokens.now) m c.in_default.ensures.front c.in_default-skip_mark.ensures.front) c.fact.ensures.gives)

pub rep-returns-in_err-path-clause-gives : goal.rep-returns-in_err-path-clause-gives
rep-returns-in_err-path-clause-gives t c =
    let p = err_from_is_err_and c.from_residual.result c.from_residual.ensures.1 in
    rw (p.1, p.2) (gives_on (seen path_term) (Err c.in_err-path.field-0.0) rep_at 1 (lexemes c.args.tokens.now) (λ m h. gives_as (seen path_term) (Err c.in_err-path.field-0.0) _ _ (reps_is m (lexemes c.args.tokens.now)) (then_err (seen path_term) (seen path_term) c.in_err-path.field-0.0 _ _ (c.in_err-path.ensures.gives m h))))

pub rep-returns-in_err-times-clause-gives : goal.rep-returns-in_err-times-clause-gives
rep-returns-in_err-times-clause-gives t c =
    let p = err_from_is_err_and c.from_residual-in_err-times.result c.from_residual-in_err-times.ensures.1 in
    rw (p.1, p.2) (gives_on (seen path_term) (Err c.in_err-times.field-0.0) rep_at 1 (lexemes c.args.tokens.now) (λ m h. gives_as (seen path_term) (Err c.in_err-times.field-0.0) _ _ (reps_is m (lexemes c.args.tokens.now) ∙ ap rep_by (c.in_ok-path.ensures.gives m h)) (then_err (seen (λ v. v)) (seen path_term) c.in_err-times.field-0.0 _ _ c.in_err-times.ensures.gives)))

pub rep-returns-clause-gives : goal.rep-returns-clause-gives
rep-returns-clause-gives t c =
    rw c.in_ok-repeat.ensures (comes_on rep_at 1 (lexemes c.args.tokens.now) _ (λ m h. reps_is m (lexemes c.args.tokens.now) ∙ ap rep_by (c.in_ok-path.ensures.gives m h) ∙ ap (λ o. then_read o (λ v after. let r : Found PathTerm = Some (repeated v (path_term c.in_ok-path.path), after) in r)) c.in_ok-times.ensures.gives))
