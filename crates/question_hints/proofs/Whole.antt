-- The lists of hints as sets.
use Rattle.std.proofs.Common.{◌≡◌, ◌↔◌, List, [], ◌∷◌, ◌++◌, ◌⊎◌, inl, inr, Bool, true, false, ◌||◌, ◌&&◌, cond, refl, sym, ap, ◌∙◌, subst, true≢false}
use Rattle.std.specs.Prelude.{IsTrue, nat_eq}
use Rattle.std.specs.Cmp.{first_so, second_so}
use Rattle.std.specs.Cmp.Lexicographic.{pointwise}
use Rattle.itpg_base.specs.Graphs.{Graph}
use Rattle.itpg_base.specs.Lists.{Among}
use Rattle.itpg_base.proofs.Objects.{word_same, word_refl}
use Rattle.path_ast.specs.Terms.{PathTerm, OfTest, Forward, Backward, Next, Previous, Sequence, Choice, Repetition, TestTerm, IsNode, IsEdge, HasLabel, HasValue, IsBelow, DoesExist, Condition, Conjunction, Disjunction, Negation}
use Rattle.label_scope.specs.Scopes.{source_scope, target_scope}
use Rattle.question_hints.specs.declared.hint.Hint.{Hint}
use Rattle.question_hints.specs.declared.hint.Hint.TheVariants.{NoLabel, NoProperty, NoValue, EdgeInRound, EndsOnEdge, SelectiveEndLast}
use Rattle.question_hints.specs.Same.{same_hint, has_hint, with_hint}
use Rattle.question_hints.specs.Asked.{asks_node, with_round, path_hints, test_hints}
use Rattle.question_hints.specs.Kinds.{is_nowhere, leads_of}
use Rattle.question_hints.specs.Forms.{is_selective_last, with_hint_if, possible_hints}
use Rattle.question_hints.specs.Certain.{IsCertain, AreCertain}
use Rattle.question_hints.specs.Whole.{AsksRound, PathAsks, TestAsks, IsPossible, AreDifferent, AreHints}

-- the test of hints tells whether they are equal
both_same : (a b : Bool) → a ≡ true → b ≡ true → (a && b) ≡ true
both_same true b d e = e
both_same false b d e = absurd (true≢false (sym d))

same_one : (a b : Hint) → same_hint a b ≡ true → a ≡ b
same_one (NoLabel a) (NoLabel b) e = ap NoLabel (word_same a b e)
same_one (NoProperty a) (NoProperty b) e = ap NoProperty (word_same a b e)
same_one (NoValue p v) (NoValue q w) e =
    let f = word_same p q (first_so (pointwise nat_eq p q) (pointwise nat_eq v w) e) in
    let g = word_same v w (second_so (pointwise nat_eq p q) (pointwise nat_eq v w) e) in
    ap (λ x. NoValue x v) f ∙ ap (λ x. NoValue q x) g
same_one (EdgeInRound a) (EdgeInRound b) e = ap EdgeInRound (word_same a b e)
same_one EndsOnEdge EndsOnEdge e = refl
same_one SelectiveEndLast SelectiveEndLast e = refl
same_one a b e = absurd (true≢false (sym e))

same_refl : (a : Hint) → same_hint a a ≡ true
same_refl (NoLabel a) = word_refl a
same_refl (NoProperty a) = word_refl a
same_refl (NoValue p v) = both_same _ _ (word_refl p) (word_refl v)
same_refl (EdgeInRound a) = word_refl a
same_refl EndsOnEdge = refl
same_refl SelectiveEndLast = refl

has_among : (hints : List Hint) (h : Hint) → has_hint h hints ≡ true → Among hints h
has_among [] h e = absurd (true≢false (sym e))
has_among (x ∷ rest) h e = by_test (same_hint x h) refl e (has_among rest h)
  where
    by_test : (b : Bool) → same_hint x h ≡ b → (b || has_hint h rest) ≡ true → (has_hint h rest ≡ true → Among rest h) → Among (x ∷ rest) h
    by_test true is f more = inl (same_one x h is)
    by_test false is f more = inr (more f)

among_has : (hints : List Hint) (h : Hint) → Among hints h → has_hint h hints ≡ true
among_has [] h m = absurd m
among_has (x ∷ rest) h (inl e) = ap (λ b. b || has_hint h rest) (ap (λ y. same_hint y h) e ∙ same_refl h)
among_has (x ∷ rest) h (inr m) = or_last (same_hint x h) (among_has rest h m)
  where
    or_last : (a : Bool) → has_hint h rest ≡ true → (a || has_hint h rest) ≡ true
    or_last true e = refl
    or_last false e = e

-- one more behind the others
among_more : (hints : List Hint) (h x : Hint) → Among (hints ++ h ∷ []) x → Among hints x ⊎ (x ≡ h)
among_more [] h x (inl e) = inr (sym e)
among_more [] h x (inr m) = absurd m
among_more (y ∷ rest) h x (inl e) = inl (inl e)
among_more (y ∷ rest) h x (inr m) = elim (among_more rest h x m) [ inl n ↦ inl (inr n) | inr e ↦ inr e ]

among_before : (hints : List Hint) (h x : Hint) → Among hints x → Among (hints ++ h ∷ []) x
among_before [] h x m = absurd m
among_before (y ∷ rest) h x (inl e) = inl e
among_before (y ∷ rest) h x (inr m) = inr (among_before rest h x m)

among_last : (hints : List Hint) (h x : Hint) → x ≡ h → Among (hints ++ h ∷ []) x
among_last [] h x e = inl (sym e)
among_last (y ∷ rest) h x e = inr (among_last rest h x e)

different_more : (hints : List Hint) (h : Hint) → (¬ Among hints h) → AreDifferent hints → AreDifferent (hints ++ h ∷ [])
different_more [] h new are = ((λ m. m), tt)
different_more (y ∷ rest) h new are =
    ((λ m. elim (among_more rest h y m) [ inl n ↦ are.0 n | inr e ↦ new (inl e) ]), different_more rest h (λ m. new (inr m)) are.1)

-- with a hint, if it isn't there
with_has : (h : Hint) (hints : List Hint) (x : Hint) → Among (with_hint h hints) x ↔ (Among hints x ⊎ (x ≡ h))
with_has h hints x = by_test (has_hint h hints) refl
  where
    by_test : (b : Bool) → has_hint h hints ≡ b → Among (cond b hints (hints ++ h ∷ [])) x ↔ (Among hints x ⊎ (x ≡ h))
    by_test true is = ((λ m. inl m), (λ m. elim m [ inl n ↦ n | inr e ↦ subst (Among hints) (sym e) (has_among hints h is) ]))
    by_test false is = ((λ m. among_more hints h x m), (λ m. elim m [ inl n ↦ among_before hints h x n | inr e ↦ among_last hints h x e ]))

with_different : (h : Hint) (hints : List Hint) → AreDifferent hints → AreDifferent (with_hint h hints)
with_different h hints are = by_test (has_hint h hints) refl
  where
    by_test : (b : Bool) → has_hint h hints ≡ b → AreDifferent (cond b hints (hints ++ h ∷ []))
    by_test true is = are
    by_test false is = different_more hints h (λ m. true≢false (sym (among_has hints h m) ∙ is)) are

-- one after the other
then_too : {A B C P Q : Type 0} → B ↔ (A ⊎ P) → C ↔ (B ⊎ Q) → C ↔ (A ⊎ (P ⊎ Q))
then_too f g = (
  (λ c. elim (g.0 c) [ inl b ↦ elim (f.0 b) [ inl a ↦ inl a | inr p ↦ inr (inl p) ] | inr q ↦ inr (inr q) ]),
  (λ s. elim s [ inl a ↦ g.1 (inl (f.1 (inl a))) | inr pq ↦ elim pq [ inl p ↦ g.1 (inl (f.1 (inr p))) | inr q ↦ g.1 (inr q) ] ]),
)

no_more : {A : Type 0} → A ↔ (A ⊎ ⊥)
no_more = ((λ a. inl a), (λ s. elim s [ inl a ↦ a | inr never ↦ absurd never ]))

round_has : (b : Bool) (c : TestTerm) (hints : List Hint) (x : Hint) → Among (with_round b c hints) x ↔ (Among hints x ⊎ AsksRound b c x)
round_has false c hints x = no_more
round_has true (HasLabel label) hints x = with_has (EdgeInRound label) hints x
round_has true IsNode hints x = no_more
round_has true IsEdge hints x = no_more
round_has true (HasValue prop value) hints x = no_more
round_has true (IsBelow k) hints x = no_more
round_has true DoesExist hints x = no_more
round_has true (Condition p) hints x = no_more
round_has true (Conjunction a b) hints x = no_more
round_has true (Disjunction a b) hints x = no_more
round_has true (Negation a) hints x = no_more

mutual
  path_has : (p : PathTerm) (hints : List Hint) (x : Hint) → Among (path_hints p hints) x ↔ (Among hints x ⊎ PathAsks p x)
  path_has (OfTest c) hints x = test_has c hints x
  path_has Forward hints x = no_more
  path_has Backward hints x = no_more
  path_has Next hints x = no_more
  path_has Previous hints x = no_more
  path_has (Sequence a b) hints x = then_too (path_has a hints x) (path_has b (path_hints a hints) x)
  path_has (Choice a b) hints x = then_too (path_has a hints x) (path_has b (path_hints a hints) x)
  path_has (Repetition a n m) hints x = path_has a hints x

  test_has : (c : TestTerm) (hints : List Hint) (x : Hint) → Among (test_hints c hints) x ↔ (Among hints x ⊎ TestAsks c x)
  test_has IsNode hints x = no_more
  test_has IsEdge hints x = no_more
  test_has (HasLabel label) hints x = with_has (NoLabel label) hints x
  test_has (HasValue prop value) hints x = then_too (with_has (NoProperty prop) hints x) (with_has (NoValue prop value) (with_hint (NoProperty prop) hints) x)
  test_has (IsBelow k) hints x = no_more
  test_has DoesExist hints x = no_more
  test_has (Condition a) hints x = path_has a hints x
  test_has (Conjunction a b) hints x =
      then_too (then_too (test_has a hints x) (test_has b (test_hints a hints) x)) (round_has (asks_node a) b (test_hints b (test_hints a hints)) x)
  test_has (Disjunction a b) hints x = then_too (test_has a hints x) (test_has b (test_hints a hints) x)
  test_has (Negation a) hints x = test_has a hints x

round_different : (b : Bool) (c : TestTerm) (hints : List Hint) → AreDifferent hints → AreDifferent (with_round b c hints)
round_different false c hints are = are
round_different true (HasLabel label) hints are = with_different (EdgeInRound label) hints are
round_different true IsNode hints are = are
round_different true IsEdge hints are = are
round_different true (HasValue prop value) hints are = are
round_different true (IsBelow k) hints are = are
round_different true DoesExist hints are = are
round_different true (Condition p) hints are = are
round_different true (Conjunction a b) hints are = are
round_different true (Disjunction a b) hints are = are
round_different true (Negation a) hints are = are

mutual
  path_different : (p : PathTerm) (hints : List Hint) → AreDifferent hints → AreDifferent (path_hints p hints)
  path_different (OfTest c) hints are = test_different c hints are
  path_different Forward hints are = are
  path_different Backward hints are = are
  path_different Next hints are = are
  path_different Previous hints are = are
  path_different (Sequence a b) hints are = path_different b (path_hints a hints) (path_different a hints are)
  path_different (Choice a b) hints are = path_different b (path_hints a hints) (path_different a hints are)
  path_different (Repetition a n m) hints are = path_different a hints are

  test_different : (c : TestTerm) (hints : List Hint) → AreDifferent hints → AreDifferent (test_hints c hints)
  test_different IsNode hints are = are
  test_different IsEdge hints are = are
  test_different (HasLabel label) hints are = with_different (NoLabel label) hints are
  test_different (HasValue prop value) hints are = with_different (NoValue prop value) (with_hint (NoProperty prop) hints) (with_different (NoProperty prop) hints are)
  test_different (IsBelow k) hints are = are
  test_different DoesExist hints are = are
  test_different (Condition a) hints are = path_different a hints are
  test_different (Conjunction a b) hints are =
      round_different (asks_node a) b (test_hints b (test_hints a hints)) (test_different b (test_hints a hints) (test_different a hints are))
  test_different (Disjunction a b) hints are = test_different b (test_hints a hints) (test_different a hints are)
  test_different (Negation a) hints are = test_different a hints are

-- a path asks for no hint of the form
abbrev IsOfForm : Hint → Type 0
IsOfForm (NoLabel label) = ⊥
IsOfForm (NoProperty prop) = ⊥
IsOfForm (NoValue prop value) = ⊥
IsOfForm (EdgeInRound label) = ⊥
IsOfForm EndsOnEdge = Unit {0}
IsOfForm SelectiveEndLast = Unit {0}

round_form : (b : Bool) (c : TestTerm) (x : Hint) → IsOfForm x → AsksRound b c x → ⊥
round_form false c x is asks = asks
round_form true (HasLabel label) x is asks = subst IsOfForm asks is
round_form true IsNode x is asks = asks
round_form true IsEdge x is asks = asks
round_form true (HasValue prop value) x is asks = asks
round_form true (IsBelow k) x is asks = asks
round_form true DoesExist x is asks = asks
round_form true (Condition p) x is asks = asks
round_form true (Conjunction a b) x is asks = asks
round_form true (Disjunction a b) x is asks = asks
round_form true (Negation a) x is asks = asks

mutual
  path_form : (p : PathTerm) (x : Hint) → IsOfForm x → PathAsks p x → ⊥
  path_form (OfTest c) x is asks = test_form c x is asks
  path_form Forward x is asks = asks
  path_form Backward x is asks = asks
  path_form Next x is asks = asks
  path_form Previous x is asks = asks
  path_form (Sequence a b) x is asks = elim asks [ inl l ↦ path_form a x is l | inr r ↦ path_form b x is r ]
  path_form (Choice a b) x is asks = elim asks [ inl l ↦ path_form a x is l | inr r ↦ path_form b x is r ]
  path_form (Repetition a n m) x is asks = path_form a x is asks

  test_form : (c : TestTerm) (x : Hint) → IsOfForm x → TestAsks c x → ⊥
  test_form IsNode x is asks = asks
  test_form IsEdge x is asks = asks
  test_form (HasLabel label) x is asks = subst IsOfForm asks is
  test_form (HasValue prop value) x is asks = elim asks [ inl l ↦ subst IsOfForm l is | inr r ↦ subst IsOfForm r is ]
  test_form (IsBelow k) x is asks = asks
  test_form DoesExist x is asks = asks
  test_form (Condition a) x is asks = path_form a x is asks
  test_form (Conjunction a b) x is asks = elim asks [
    | inl l ↦ elim l [ inl m ↦ test_form a x is m | inr r ↦ test_form b x is r ]
    | inr r ↦ round_form (asks_node a) b x is r
  ]
  test_form (Disjunction a b) x is asks = elim asks [ inl l ↦ test_form a x is l | inr r ↦ test_form b x is r ]
  test_form (Negation a) x is asks = test_form a x is asks

-- a hint if a fact holds
if_has : (b : Bool) (h : Hint) (hints : List Hint) (x : Hint) → Among (with_hint_if b h hints) x ↔ (Among hints x ⊎ ((x ≡ h) × IsTrue b))
if_has true h hints x = ((λ m. elim (among_more hints h x m) [ inl n ↦ inl n | inr e ↦ inr (e, refl) ]), (λ m. elim m [ inl n ↦ among_before hints h x n | inr e ↦ among_last hints h x e.0 ]))
if_has false h hints x = ((λ m. inl m), (λ m. elim m [ inl n ↦ n | inr e ↦ absurd (true≢false (sym e.1)) ]))

if_different : (b : Bool) (h : Hint) (hints : List Hint) → (¬ Among hints h) → AreDifferent hints → AreDifferent (with_hint_if b h hints)
if_different true h hints new are = different_more hints h new are
if_different false h hints new are = are

path_alone : (p : PathTerm) (x : Hint) → Among (path_hints p []) x ↔ PathAsks p x
path_alone p x = let e = path_has p [] x in ((λ m. elim (e.0 m) [ inl never ↦ absurd never | inr a ↦ a ]), (λ a. e.1 (inr a)))

possible_has : (p : PathTerm) (x : Hint) → Among (possible_hints p) x ↔ IsPossible p x
possible_has p x =
    let first = path_alone p x in
    let second = if_has (is_nowhere (leads_of p)) EndsOnEdge (path_hints p []) x in
    let third = if_has (is_selective_last (source_scope p) (target_scope p)) SelectiveEndLast (with_hint_if (is_nowhere (leads_of p)) EndsOnEdge (path_hints p [])) x in (
      (λ m. elim (third.0 m) [ inl n ↦ inl (elim (second.0 n) [ inl a ↦ inl (first.0 a) | inr e ↦ inr e ]) | inr e ↦ inr e ]),
      (λ q. elim q [ inl n ↦ third.1 (inl (elim n [ inl a ↦ second.1 (inl (first.1 a)) | inr e ↦ second.1 (inr e) ])) | inr e ↦ third.1 (inr e) ]),
    )

possible_different : (p : PathTerm) → AreDifferent (possible_hints p)
possible_different p =
    let no_end : ¬ Among (path_hints p []) EndsOnEdge = λ m. path_form p EndsOnEdge tt ((path_alone p EndsOnEdge).0 m) in
    let second = if_has (is_nowhere (leads_of p)) EndsOnEdge (path_hints p []) SelectiveEndLast in
    let no_last : ¬ Among (with_hint_if (is_nowhere (leads_of p)) EndsOnEdge (path_hints p [])) SelectiveEndLast =
    λ m. elim (second.0 m) [ inl n ↦ path_form p SelectiveEndLast tt ((path_alone p SelectiveEndLast).0 n) | inr e ↦ true≢false (sym (among_has (EndsOnEdge ∷ []) SelectiveEndLast (inl (sym e.0)))) ] in
    if_different (is_selective_last (source_scope p) (target_scope p)) SelectiveEndLast (with_hint_if (is_nowhere (leads_of p)) EndsOnEdge (path_hints p [])) no_last
    (if_different (is_nowhere (leads_of p)) EndsOnEdge (path_hints p []) no_end (path_different p [] tt))

-- those that are certain
certain_has : (g : Graph) (asked hints : List Hint) (x : Hint) → AreCertain g asked hints → Among hints x ↔ (Among asked x × IsCertain g x)
certain_has g [] hints x are = ((λ m. absurd (subst (λ hs. Among hs x) are m)), (λ m. absurd m.0))
certain_has g (h ∷ more) hints x (inl (is, (rest, e, are))) =
    let r = certain_has g more rest x are in (
      (λ m. elim (subst (λ hs. Among hs x) e m) [ inl f ↦ (inl f, subst (IsCertain g) f is) | inr n ↦ (inr (r.0 n).0, (r.0 n).1) ]),
      (λ m. subst (λ hs. Among hs x) (sym e) (elim m.0 [ inl f ↦ inl f | inr n ↦ inr (r.1 (n, m.1)) ])),
    )
certain_has g (h ∷ more) hints x (inr (not_so, are)) =
    let r = certain_has g more hints x are in
    ((λ m. (inr (r.0 m).0, (r.0 m).1)), (λ m. elim m.0 [ inl f ↦ absurd (not_so (subst (IsCertain g) (sym f) m.1)) | inr n ↦ r.1 (n, m.1) ]))

certain_different : (g : Graph) (asked hints : List Hint) → AreCertain g asked hints → AreDifferent asked → AreDifferent hints
certain_different g [] hints are differ = subst AreDifferent (sym are) tt
certain_different g (h ∷ more) hints (inl (is, (rest, e, are))) differ =
    subst AreDifferent (sym e) ((λ m. differ.0 ((certain_has g more rest h are).0 m).0), certain_different g more rest are differ.1)
certain_different g (h ∷ more) hints (inr (not_so, are)) differ = certain_different g more hints are differ.1

pub hints_whole : (g : Graph) (p : PathTerm) (hints : List Hint) → AreCertain g (possible_hints p) hints → AreHints g p hints
hints_whole g p hints are = record {
  listed = λ h. let r = certain_has g (possible_hints p) hints h are in let q = possible_has p h in
      ((λ m. (q.0 (r.0 m).0, (r.0 m).1)), (λ m. r.1 (q.1 m.0, m.1)));
  once = certain_different g (possible_hints p) hints are (possible_different p);
  order = are;
}
