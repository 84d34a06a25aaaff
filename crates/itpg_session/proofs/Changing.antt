-- A tick finds exactly one thing of each watch, of its kind, and of objects that were declared.
use Rattle.std.proofs.Common.{◌≡◌, inl, inr, ℕ, ◌<◌, List, [], ◌∷◌, length, Option, None, Some, Bool, true, false, ◌&&◌, refl, sym, ap, subst, ◌∙◌, arith}
use Rattle.std.proofs.lemmas.Int.{ints}
use Rattle.itpg_base.specs.Words.{Word}
use Rattle.itpg_base.specs.Graphs.{Graph}
use Rattle.itpg_base.specs.Points.{Relation}
use Rattle.itpg_base.specs.Lists.{Among}
use Rattle.relation_rows.specs.Rows.{between}
use Rattle.relation_rows.specs.Relations.{OnlyFirstHolds}
use Rattle.relation_rows.specs.Answered.{Answered, pairs, times}
use Rattle.relation_rows.proofs.Alike.{in_relation, row_start}
use Rattle.path_ast.specs.Terms.{QueryTerm}
use Rattle.path_ast.specs.Meaning.{Rel}
use Rattle.path_eval.specs.Answering.{IsAnswer, AnswersQuery}
use Rattle.row_printer.specs.Texts.{AreDeclared}
use Rattle.standing_queries.specs.Watches.{Watch, IsOfKind}
use Rattle.standing_queries.specs.Changes.{AreOfOneKind, IsRest, OneRest, SomeRest}
use Rattle.itpg_session.specs.Questions.{HasAnswer}
use Rattle.itpg_session.specs.PlainWatches.{PlainWatch, all_plain}
use Rattle.itpg_session.specs.Replies.{FindsFor}
use Rattle.itpg_session.specs.Ticks.{Ticked, StaysWide, Moves, IsTicked, AreTicked, all_settled, all_moved}
use Rattle.plan_cache.specs.Nodes.{PlanNode}
use Rattle.itpg_session.specs.Keeping.{IsWatchRight, AreWatchesRight}
use Rattle.itpg_session.specs.Watching.{AsksForOne, BasesDeclared, IsTickDeclared, AreTicksDeclared, AreMovesOfKind}
use Rattle.itpg_session.proofs.Plain.{each_plain}
use Rattle.itpg_session.proofs.Replying.{declared, one_answered, some_finding}

-- ---- objects

rest_declared : (n : ℕ) (first second rest : Answered) → IsRest first second rest → AreDeclared n first → AreDeclared n rest
rest_declared n (pairs first) (pairs second) (pairs rest) is all = λ r among.
    let R : Relation = OnlyFirstHolds first second in
    let row = is.each r among in
    let pair = in_relation R r (record { object = r.source.0; moment = _ }) (record { object = r.target.0; moment = _ }) row
    (record { source = refl; target = refl; pair = row_start (between R r.source.0 r.target.0) r.band row }) in
    let held = pair.0 in
    let few = all held.0 held.1 in
    let in_row = held.2 in
    (subst (λ (o : ℕ). o < n) in_row.source few.0, subst (λ (o : ℕ). o < n) in_row.target few.1)
rest_declared n (pairs first) (pairs second) (times rest) is all = absurd is
rest_declared n (pairs first) (times second) rest is all = absurd is
rest_declared n (times first) (pairs second) rest is all = absurd is
rest_declared n (times first) (times second) (times rest) is all = λ r among.
    let span = is.spans r among in
    let pair = is.only r.object.0 r.span.from (r, among, record { object = refl; moment = record { begun = omega (arith, ints); going = span } }) in
    let held = pair.0 in
    let in_time = held.2 in
    subst (λ (o : ℕ). o < n) in_time.object (all held.0 held.1)
rest_declared n (times first) (times second) (pairs rest) is all = absurd is

ticked_declared : (g : Graph) (limit : ℕ) (w : PlainWatch) (x : Ticked) → AreDeclared (length g.objects) w.base → IsTicked g limit w x → IsTickDeclared g x
ticked_declared g limit w (StaysWide name) all is = tt
ticked_declared g limit w (Moves name now gained lost) all is =
    let there = declared g w.query.path w.query.first w.query.last now is.1.1 in
    (rest_declared (length g.objects) now w.base gained is.2 there, rest_declared (length g.objects) w.base now lost is.3 all)

-- the bases of what stands well are of declared objects
pub bases_declared : (g : Graph) (limit : ℕ) (nodes : List PlanNode) (ws : List Watch) → AreWatchesRight g limit nodes ws → BasesDeclared g (all_plain ws)
bases_declared g limit nodes ws all = each_plain (λ w. AreDeclared (length g.objects) w.base) ws (λ w a. (all w a).declared)

-- each object of what was found is declared
pub ticks_declared : (g : Graph) (limit : ℕ) (ws : List PlainWatch) (xs : List Ticked) → BasesDeclared g ws → AreTicked g limit ws xs → AreTicksDeclared g xs
ticks_declared g limit [] [] all is x a = absurd a
ticks_declared g limit [] (y ∷ ys) all is x a = absurd is
ticks_declared g limit (w ∷ ws) [] all is x a = absurd is
ticks_declared g limit (w ∷ ws) (y ∷ ys) all is x (inl e) = subst (IsTickDeclared g) e (ticked_declared g limit w y (all w (inl refl)) is.0)
ticks_declared g limit (w ∷ ws) (y ∷ ys) all is x (inr a) = ticks_declared g limit ws ys (λ v b. all v (inr b)) is.1 x a

-- what stands well does so after the tick
pub right_settled : (g : Graph) (limit : ℕ) (nodes : List PlanNode) (ws : List Watch) (xs : List Ticked) → AreWatchesRight g limit nodes ws → AreTicked g limit (all_plain ws) xs
    → AreWatchesRight g limit nodes (all_settled ws xs)
right_settled g limit nodes [] xs all is w a = absurd a
right_settled g limit nodes (v ∷ ws) [] all is w a = absurd is
right_settled g limit nodes (v ∷ ws) (StaysWide name ∷ xs) all is w (inl e) =
    let right = all v (inl refl) in
    subst (IsWatchRight g limit nodes) e (record { planned = right.planned; footed = right.footed; declared = right.declared; answered = tt })
right_settled g limit nodes (v ∷ ws) (Moves name now gained lost ∷ xs) all is w (inl e) =
    let right = all v (inl refl) in
    subst (IsWatchRight g limit nodes) e
    (record { planned = right.planned; footed = right.footed; declared = declared g v.query.path v.query.first v.query.last now is.0.1.1; answered = is.0.1 })
right_settled g limit nodes (v ∷ ws) (x ∷ xs) all is w (inr a) = right_settled g limit nodes ws xs (λ u b. all u (inr b)) is.1 w a

-- ---- kinds

abbrev IsKind : Bool → Answered → Type 0
IsKind both (pairs rows) = both ≡ true
IsKind both (times rows) = both ≡ false

kind_of_answer : (first last : Bool) (R : Relation) (answer : Answered) → IsAnswer first last R answer → IsKind (first && last) answer
kind_of_answer true true R (pairs rows) a = refl
kind_of_answer true true R (times rows) a = absurd a
kind_of_answer true false R (pairs rows) a = absurd a
kind_of_answer true false R (times rows) a = refl
kind_of_answer false true R (pairs rows) a = absurd a
kind_of_answer false true R (times rows) a = refl
kind_of_answer false false R (pairs rows) a = absurd a
kind_of_answer false false R (times rows) a = refl

answer_kind : (g : Graph) (q : QueryTerm) (answer : Answered) → AnswersQuery g q answer → IsOfKind q answer
answer_kind g q (pairs rows) a = kind_of_answer q.first q.last (Rel q.path g) (pairs rows) a
answer_kind g q (times rows) a = kind_of_answer q.first q.last (Rel q.path g) (times rows) a

pub one_kind : (q : QueryTerm) (x y : Answered) → IsOfKind q x → IsOfKind q y → AreOfOneKind x y
one_kind q (pairs x) (pairs y) a b = tt
one_kind q (pairs x) (times y) a b = let no_kind : ⊥ = cc in absurd no_kind
one_kind q (times x) (pairs y) a b = let no_kind : ⊥ = cc in absurd no_kind
one_kind q (times x) (times y) a b = tt

pub found_kind : (g : Graph) (limit : ℕ) (q : QueryTerm) (answer : Answered) → HasAnswer g limit q answer → IsOfKind q answer
found_kind g limit q answer is = answer_kind g q answer is.1

pub moves_of_kind : (g : Graph) (limit : ℕ) (ws : List Watch) (xs : List Ticked) → AreTicked g limit (all_plain ws) xs → AreMovesOfKind ws xs
moves_of_kind g limit [] xs is = tt
moves_of_kind g limit (w ∷ ws) [] is = tt
moves_of_kind g limit (w ∷ ws) (StaysWide name ∷ xs) is = (tt, moves_of_kind g limit ws xs is.1)
moves_of_kind g limit (w ∷ ws) (Moves name now gained lost ∷ xs) is = (found_kind g limit w.query now is.0.1, moves_of_kind g limit ws xs is.1)

pub kinds_moved : (g : Graph) (limit : ℕ) (ws : List PlainWatch) (xs : List Ticked) → AreTicked g limit ws xs → ((w : PlainWatch) → Among ws w → IsOfKind w.query w.base)
    → (w : PlainWatch) → Among (all_moved ws xs) w → IsOfKind w.query w.base
kinds_moved g limit [] xs is kinds w a = absurd a
kinds_moved g limit (v ∷ ws) [] is kinds w a = absurd is
kinds_moved g limit (v ∷ ws) (StaysWide name ∷ xs) is kinds w (inl e) = subst (λ (u : PlainWatch). IsOfKind u.query u.base) e (kinds v (inl refl))
kinds_moved g limit (v ∷ ws) (Moves name now gained lost ∷ xs) is kinds w (inl e) = subst (λ (u : PlainWatch). IsOfKind u.query u.base) e (found_kind g limit v.query now is.0.1)
kinds_moved g limit (v ∷ ws) (x ∷ xs) is kinds w (inr a) = kinds_moved g limit ws xs is.1 (λ u b. kinds u (inr b)) w a

-- ---- one finding, and some

module _ (g : Graph) (limit : ℕ) where
  one_ticked : OneRest → (w : PlainWatch) (x y : Ticked) → IsTicked g limit w x → IsTicked g limit w y → x ≡ y
  one_ticked one w (StaysWide name) (StaysWide name') a b = ap StaysWide (sym a.0 ∙ b.0)
  one_ticked one w (StaysWide name) (Moves name' now gained lost) a b = absurd (b.1.0 a.1)
  one_ticked one w (Moves name now gained lost) (StaysWide name') a b = absurd (a.1.0 b.1)
  one_ticked one w (Moves name now gained lost) (Moves name' now' gained' lost') a b =
      let same : now' ≡ now = one_answered g limit w.query now' now b.1 a.1 in
      let gains : gained ≡ gained' = one now w.base gained gained' a.2 (subst (λ (n : Answered). IsRest n w.base gained') same b.2) in
      let losses : lost ≡ lost' = one w.base now lost lost' a.3 (subst (λ (n : Answered). IsRest w.base n lost') same b.3) in
      let named : name ≡ name' = sym a.0 ∙ b.0 in
      ap (λ (n : Word). Moves n now gained lost) named ∙ ap (λ (n : Answered). Moves name' n gained lost) (sym same) ∙ ap (λ (n : Answered). Moves name' now' n lost) gains ∙ ap (λ (n : Answered). Moves name' now' gained' n) losses

  pub one_tick : OneRest → (ws : List PlainWatch) (xs ys : List Ticked) → AreTicked g limit ws xs → AreTicked g limit ws ys → xs ≡ ys
  one_tick one [] [] [] a b = refl
  one_tick one [] [] (y ∷ ys) a b = absurd b
  one_tick one [] (x ∷ xs) ys a b = absurd a
  one_tick one (w ∷ ws) [] ys a b = absurd a
  one_tick one (w ∷ ws) (x ∷ xs) [] a b = absurd b
  one_tick one (w ∷ ws) (x ∷ xs) (y ∷ ys) a b = ap (λ (z : Ticked). z ∷ xs) (one_ticked one w x y a.0 b.0) ∙ ap (λ (zs : List Ticked). y ∷ zs) (one_tick one ws xs ys a.1 b.1)

  ticked_of_found : SomeRest → (w : PlainWatch) → IsOfKind w.query w.base → (found : Option Answered) → FindsFor g limit w.query found → (x : Ticked) × IsTicked g limit w x
  ticked_of_found some w kind None is = (StaysWide w.name, (refl, is))
  ticked_of_found some w kind (Some now) is =
      let of_kind = found_kind g limit w.query now is in
      let gained = some now w.base (one_kind w.query now w.base of_kind kind) in
      let lost = some w.base now (one_kind w.query w.base now kind of_kind) in
      (Moves w.name now gained.0 lost.0, (refl, is, gained.1, lost.1))

  pub some_tick : SomeRest → (ws : List PlainWatch) → ((w : PlainWatch) → Among ws w → AsksForOne w.query) → ((w : PlainWatch) → Among ws w → IsOfKind w.query w.base) → (xs : List Ticked) × AreTicked g limit ws xs
  some_tick some [] asks kinds = ([], tt)
  some_tick some (w ∷ ws) asks kinds =
      let found = some_finding g limit w.query (asks w (inl refl)) in
      let one = ticked_of_found some w (kinds w (inl refl)) found.0 found.1 in
      let rest = some_tick some ws (λ v a. asks v (inr a)) (λ v a. kinds v (inr a)) in
      (one.0 ∷ rest.0, (one.1, rest.1))
