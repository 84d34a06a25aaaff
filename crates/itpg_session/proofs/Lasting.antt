-- What an edit leaves right of what is kept.
use Rattle.std.proofs.Common.{◌≡◌, inl, inr, ℕ, ◌≤◌, List, [], ◌∷◌, length, Bool, true, false, Option, Some, None, refl, sym, ◌∙◌, subst, arith}
use Rattle.std.specs.Prelude.{Contains, IfSome}
use Rattle.itpg_base.specs.Graphs.{Graph, Good}
use Rattle.itpg_base.specs.Points.{Point, Relation}
use Rattle.itpg_base.specs.Lists.{Among}
use Rattle.itpg_base.specs.declared.touch.Touch.{Touch}
use Rattle.itpg_edit.specs.declared.edit.Edit.{Edit}
use Rattle.itpg_edit.specs.Next.{Makes}
use Rattle.path_ast.specs.Terms.{QueryTerm}
use Rattle.path_ast.specs.Meaning.{Rel}
use Rattle.label_scope.specs.declared.footprint.Footprint.{Footprint}
use Rattle.label_scope.specs.declared.scope.Scope.TheVariants.{All}
use Rattle.label_scope.specs.Members.{Member, worked}
use Rattle.label_scope.specs.Footprints.{footprint}
use Rattle.label_scope.specs.Touching.{Meets}
use Rattle.label_scope.specs.Agreeing.{Agree}
use Rattle.label_scope.proofs.Lists.{first, more}
use Rattle.label_scope.proofs.Within.{cut_all}
use Rattle.label_scope.proofs.Alike.{turned}
use Rattle.label_scope.proofs.Inside.{footprint_inside, between_inside}
use Rattle.label_scope.proofs.FootprintLemma.{between_same, cut_same}
use Rattle.label_scope.proofs.SameMembers.{members_same, between_members_same}
use Rattle.relation_rows.specs.declared.rows.Row.{Row}
use Rattle.relation_rows.specs.Answered.{Answered, pairs, times}
use Rattle.relation_rows.proofs.Alike.{rows_alike, fits_alike, wide_alike}
use Rattle.relation_rows.proofs.Runs.{times_alike}
use Rattle.plan_cache.specs.Nodes.{PlanNode, Table}
use Rattle.plan_cache.specs.Footprints.{footprint_of, footprints_of}
use Rattle.plan_cache.specs.KeptRows.{Forgets}
use Rattle.plan_cache.proofs.Edited.{right_after}
use Rattle.path_eval.specs.Answering.{DepartsAt, ArrivesAt, IsAnswer}
use Rattle.plan_cache.specs.RightRows.{IsRight, IsTableRight, member_relation, members_of}
use Rattle.row_printer.specs.Texts.{AreDeclared}
use Rattle.standing_queries.specs.Watches.{Watch}
use Rattle.standing_queries.specs.Touched.{IsTouched, AreTouched}
use Rattle.itpg_session.specs.Questions.{IsTooWide, HasAnswer}
use Rattle.itpg_session.specs.Keeping.{IsWatchRight, AreWatchesRight, IsKeptRight}
use Rattle.itpg_session.proofs.Numbers.{next_number}
use Rattle.itpg_session.proofs.Untouched.{untouched}

among_contains : {X : Type 0} (xs : List X) (x : X) → Among xs x → Contains xs x
among_contains [] x a = absurd a
among_contains {X} (y ∷ ys) x (inl e) = subst (λ (z : X). Contains (y ∷ ys) z) e (first y ys)
among_contains (y ∷ ys) x (inr a) = more x y ys (among_contains ys x a)

-- as many objects were declared, or more
more_declared : (n m : ℕ) → n ≤ m → (answer : Answered) → AreDeclared n answer → AreDeclared m answer
more_declared n m up (pairs rows) all = λ r a. let b = all r a in let s = b.0 in let t = b.1 in (omega (arith, up, s), omega (arith, up, t))
more_declared n m up (times rows) all = λ r a. let b = all r a in omega (arith, up, b)

-- two relations that lead between the same points have the same answers
answer_alike : (R S : Relation) → ((x y : Point) → R x y → S x y) → ((x y : Point) → S x y → R x y) → (first_end last_end : Bool) (answer : Answered) → IsAnswer first_end last_end R answer → IsAnswer first_end last_end S answer
answer_alike R S on back true true (pairs rows) a = rows_alike R S on back rows a
answer_alike R S on back true true (times rows) a = absurd a
answer_alike R S on back true false (pairs rows) a = absurd a
answer_alike R S on back true false (times rows) a = times_alike (DepartsAt R) (DepartsAt S) (λ o t h. (h.0, on _ h.0 h.1)) (λ o t h. (h.0, back _ h.0 h.1)) rows a
answer_alike R S on back false true (pairs rows) a = absurd a
answer_alike R S on back false true (times rows) a = times_alike (ArrivesAt R) (ArrivesAt S) (λ o t h. (h.0, on h.0 _ h.1)) (λ o t h. (h.0, back h.0 _ h.1)) rows a
answer_alike R S on back false false (pairs rows) a = absurd a
answer_alike R S on back false false (times rows) a = absurd a

module _ (g new : Graph) (edit : Edit) (touch : Touch) (limit : ℕ) (good : Good g) (also : Good new) (makes : Makes g edit new touch) where
  -- the relation of a node whose footprint isn't met
  pub right_lasts : (m : Member) (rows : List Row) → (Meets (footprint_of m) touch → ⊥) → IsRight g limit m rows → IsRight new limit m rows
  right_lasts m rows unmet right =
      let agree : Agree g new (footprint_of m) = untouched g new edit touch (footprint_of m) (between_inside m.path m.sources m.targets) good makes.next makes.touches unmet in
      let back : Agree new g (footprint_of m) = turned g new (footprint_of m) agree in
      record {
        normal = rows_alike (member_relation g m) (member_relation new m)
            (λ x y. between_same m.path m.sources m.targets g new x y good also agree) (λ x y. between_same m.path m.sources m.targets new g x y also good back) rows right.normal;
        fits = λ n a.
            let same = between_members_same m.path m.sources m.targets n g new good also agree (among_contains (members_of m) n a) in
            fits_alike (member_relation g n) (member_relation new n) (λ x y. (same x y).0) (λ x y. (same x y).1) limit (right.fits n a);
      }

  pub table_lasts : (old table : Table) → table.nodes ≡ old.nodes → Forgets touch (footprints_of old.nodes) old.kept table.kept → IsTableRight g limit old → IsTableRight new limit table
  table_lasts old table same forgets right =
      subst (λ (nodes : List PlanNode). IsTableRight new limit (record { nodes = nodes; kept = table.kept })) (sym same)
      (right_after (IsRight g limit) (IsRight new limit) touch old.nodes old.kept table.kept (λ k n rows e unmet r. right_lasts n.member rows unmet r) right forgets)

  -- the answer of a query whose footprint isn't met
  module _ (q : QueryTerm) (unmet : Meets (footprint q.path All All) touch → ⊥) where
    path_agrees : Agree g new (footprint q.path All All)
    path_agrees = untouched g new edit touch (footprint q.path All All) (footprint_inside q.path All All) good makes.next makes.touches unmet

    leads_on : (x y : Point) → Rel q.path g x y → Rel q.path new x y
    leads_on x y h = (cut_same q.path All All g new x y good also path_agrees (cut_all q.path g x y h)).leads

    leads_back : (x y : Point) → Rel q.path new x y → Rel q.path g x y
    leads_back x y h = (cut_same q.path All All new g x y also good (turned g new (footprint q.path All All) path_agrees) (cut_all q.path new x y h)).leads

    wide_before : IsTooWide new limit q → IsTooWide g limit q
    wide_before wide =
        let m = wide.member in
        let same = members_same q.path All All m g new good also path_agrees (among_contains (worked q.path All All) m wide.among) in
        record { member = m; among = wide.among; wide = wide_alike (member_relation new m) (member_relation g m) (λ x y. (same x y).1) (λ x y. (same x y).0) limit wide.wide }

    pub answer_lasts : (answer : Answered) → HasAnswer g limit q answer → HasAnswer new limit q answer
    answer_lasts answer has = (λ wide. has.0 (wide_before wide), answer_alike (Rel q.path g) (Rel q.path new) leads_on leads_back q.first q.last answer has.1)

  -- the watches
  module _ (nodes : List PlanNode) where
    watch_lasts : (w v : Watch) → IsTouched touch w v → IsWatchRight g limit nodes w → IsWatchRight new limit nodes v
    watch_lasts w v is right = subst (IsWatchRight new limit nodes) (sym is.same) (record {
      planned = right.planned;
      footed = right.footed;
      declared = more_declared (length g.objects) (length new.objects) (next_number g new edit makes.next) w.base right.declared;
      answered = by_answer v.now refl;
    })
      where
        by_answer : (o : Option Answered) → v.now ≡ o → IfSome o (HasAnswer new limit w.query)
        by_answer None e = tt
        by_answer (Some answer) e =
            let unmet : Meets w.foot touch → ⊥ = λ met. let none : ⊥ = (let gone = is.gone met in cc) in none in
            let kept : w.now ≡ Some answer = sym (is.stays unmet) ∙ e in
            answer_lasts w.query (λ met. unmet (subst (λ (f : Footprint). Meets f touch) (sym right.footed) met)) answer
            (subst (λ (o : Option Answered). IfSome o (HasAnswer g limit w.query)) kept right.answered)

    pub watches_last : (ws vs : List Watch) → AreTouched touch ws vs → AreWatchesRight g limit nodes ws → AreWatchesRight new limit nodes vs
    watches_last [] [] h right v a = absurd a
    watches_last [] (u ∷ vs) h right v a = absurd h
    watches_last (w ∷ ws) [] h right v a = absurd a
    watches_last (w ∷ ws) (u ∷ vs) h right v (inl e) = subst (IsWatchRight new limit nodes) e (watch_lasts w u h.0 (right w (inl refl)))
    watches_last (w ∷ ws) (u ∷ vs) h right v (inr a) = watches_last ws vs h.1 (λ x b. right x (inr b)) v a

  -- all that is kept
  pub kept_lasts : (old table : Table) (ws vs : List Watch) → table.nodes ≡ old.nodes → Forgets touch (footprints_of old.nodes) old.kept table.kept → AreTouched touch ws vs → IsKeptRight g limit old ws → IsKeptRight new limit table vs
  kept_lasts old table ws vs same forgets touches right = record {
    table_right = table_lasts old table same forgets right.table_right;
    watches_right = subst (λ (nodes : List PlanNode). AreWatchesRight new limit nodes vs) (sym same) (watches_last old.nodes ws vs touches right.watches_right);
  }
